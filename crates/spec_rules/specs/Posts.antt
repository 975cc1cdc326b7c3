-- What is sent, and the letters of a step.
use Rattle.std.specs.Prelude.{ℕ, ◌+◌, List, [], ◌∷◌, Option, Some, None}
use Rattle.petal_msg.specs.declared.body.Body.{Body}
use Rattle.petal_msg.specs.declared.letter.Actor.{Actor}
use Rattle.petal_msg.specs.declared.letter.Actor.TheVariants as actor
use Rattle.petal_msg.specs.declared.letter.Letter.{Letter}

-- what is sent: to whom, and what it says
pub record Post : Type 0 where
  pub to : Actor
  pub body : Body

-- a letter to one of the servers, where there is one
abbrev pub post_to : Option ℕ → Body → List Post
post_to None said = []
post_to (Some server) said = record { to = actor.Server server; body = said } ∷ []

-- who sends, as which incarnation and at which revision
pub record Sender : Type 0 where
  pub from : Actor
  pub inc : ℕ
  pub rev : ℕ

-- the letters of one step: their numbers count from this one, and the step's stamp is still to be set
abbrev pub letters_of : Sender → ℕ → List Post → List Letter
letters_of who nth [] = []
letters_of who nth (post ∷ posts) =
    record { from = who.from; inc = who.inc; to = post.to; rev = who.rev; stamp = 0; nth = nth; body = post.body } ∷ letters_of who (nth + 1) posts
