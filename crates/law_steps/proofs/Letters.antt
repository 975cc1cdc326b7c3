-- The letters of a step, and what was heard, later on.
use Rattle.law_steps.proofs.Imports.{[], ◌+◌, ◌∷◌, ◌≡◌, Actor, Body, In, Letter, List, None, Option, Post, Sender, Some, ap, inl, inr, letters_of, post_to}
use Rattle.law_steps.proofs.Imports.{refl, stamped, ℕ}

-- a letter of a step was posted in it
pub record Said (who : Sender) (stamp : ℕ) (posts : List Post) (letter : Letter) : Type 0 where
  pub post : Post
  pub there : In post posts
  pub to : letter.to ≡ post.to
  pub body : letter.body ≡ post.body
  pub from : letter.from ≡ who.from
  pub at : letter.stamp ≡ stamp
  pub rev : letter.rev ≡ who.rev

pub said : (who : Sender) (stamp nth : ℕ) (posts : List Post) (letter : Letter) → In letter (stamped stamp (letters_of who nth posts))
    → Said who stamp posts letter
unfolding In
said who stamp nth [] letter h = absurd h
said who stamp nth (post ∷ posts) letter (inl e) = record {
  post = post;
  there = inl refl;
  to = ap (λ (l : Letter). l.to) e;
  body = ap (λ (l : Letter). l.body) e;
  from = ap (λ (l : Letter). l.from) e;
  at = ap (λ (l : Letter). l.stamp) e;
  rev = ap (λ (l : Letter). l.rev) e;
}
said who stamp nth (post ∷ posts) letter (inr h) =
    let later = said who stamp (nth + 1) posts letter h in
    record { post = later.post; there = inr later.there; to = later.to; body = later.body; from = later.from; at = later.at; rev = later.rev }

-- the one letter that is posted
pub one_post : (to : Actor) (what : Body) (post : Post) → In post (record { to = to; body = what } ∷ []) → (post.to ≡ to) × (post.body ≡ what)
unfolding In
one_post to what post (inl e) = (ap (λ (p : Post). p.to) e, ap (λ (p : Post). p.body) e)
one_post to what post (inr h) = absurd h

pub posted : (to : Option ℕ) (what : Body) (post : Post) → In post (post_to to what) → post.body ≡ what
unfolding In
posted None what post h = absurd h
posted (Some to) what post (inl e) = ap (λ (p : Post). p.body) e
posted (Some to) what post (inr h) = absurd h
