-- What a server sends to whoever reads: the reply to the one read that it handles in the step.
use Rattle.law_answers.proofs.Imports.{[], ◌∙◌, ◌∷◌, ◌≡◌, Acted, Actor, Body, Bool, By_read, Cell, Did, Grounded, Handled, In, IsReadable, IsSeatedOrMute}
use Rattle.law_answers.proofs.Imports.{IsSteady, JobResult, Letter, List, Lives, None, Not_here, Option, PairState, Post, SaysOk, Scene, Sender, Serving}
use Rattle.law_answers.proofs.Imports.{Setting, Shows, Some, Step, World, ap, bytes_of, chain_in, entry_at, false, inl, inr, is_looked, is_notice, job_tells}
use Rattle.law_answers.proofs.Imports.{letters_of, mute_data, own_place, owns_of, refl, said, same_data, sender, server_state, serves_sent, stamped}
use Rattle.law_answers.proofs.Imports.{subject_of, subst, sym, true, true_false, ℕ}
use Rattle.petal_msg.specs.declared.body.Body.TheVariants as body
use Rattle.petal_msg.specs.declared.letter.Actor.TheVariants as actor

-- the number of the read to which this is a reply: data, or that the new map has nothing
abbrev pub answers_read : Body → Option ℕ
answers_read (body.Data seq bytes) = Some seq
answers_read (body.NotHere seq) = Some seq
answers_read _ = None

-- it is a read that asks, or a reply to one
abbrev pub is_of_read : Body → Bool
is_of_read (body.Data seq bytes) = true
is_of_read (body.NotHere seq) = true
is_of_read (body.Read client seq cell epoch) = true
is_of_read _ = false

-- ### What is not of a read

notice_apart : (said : Body) → is_notice (subject_of said) ≡ true → is_of_read said ≡ false
notice_apart (body.Data seq bytes) e = true_false e refl
notice_apart (body.NotHere seq) e = true_false e refl
notice_apart (body.Read client seq cell epoch) e = true_false e refl
notice_apart _ e = refl

-- nothing of the two is left
neither : (setting : Setting) (w : World) (lives : Lives) (n : ℕ) (new : PairState) (to : Actor) (what : Body) → is_looked what ≡ false
    → SaysOk setting w lives n new to what → is_of_read what ≡ false
neither setting w lives n new to (body.Data seq bytes) e ok = e
neither setting w lives n new to (body.NotHere seq) e ok = e
neither setting w lives n new to (body.Read client seq cell epoch) e ok = absurd ok
neither setting w lives n new to _ e ok = refl

-- ### A server's step

-- these letters are the one with which the server, which may, replies to the read that it handles
pub record IsReply (setting : Setting) (u : World) (n stamp : ℕ) (letters : List Letter) (letter : Letter) : Type 0 where
  pub runs : (u.servers n).life.running ≡ true
  pub client : ℕ
  pub seq : ℕ
  pub cell : Cell
  pub epoch : ℕ
  pub readable : IsReadable (Handled u n) (own_place setting u n) (owns_of u n) client seq cell epoch
  pub is : answers_read letter.body ≡ Some seq
  pub alone : letters ≡ letter ∷ []
  pub to : letter.to ≡ actor.Client client
  pub «from» : letter.from ≡ actor.Server n
  pub at : letter.stamp ≡ stamp
  pub rev : letter.rev ≡ (server_state setting u n).rev
  pub shown : (k : ℕ) (bytes : List ℕ) → letter.body ≡ body.Data k bytes → bytes ≡ bytes_of (entry_at (chain_in (owns_of u n).store.chains cell) epoch)

-- a letter of a server's step is such a reply, or not of a read
pub data IsSentBy (setting : Setting) (u : World) (n stamp : ℕ) (letters : List Letter) (letter : Letter) : Type 0 where
  Replies : IsReply setting u n stamp letters letter → IsSentBy setting u n stamp letters letter
  Is_apart : is_of_read letter.body ≡ false → IsSentBy setting u n stamp letters letter

module _ (g : Grounded) (steady : IsSteady g.state) (n stamp : ℕ) where
  open g use {setting, state, w, firm, ground}

  -- the letters of these posts
  abbrev sent_by : Sender → List Post → List Letter
  sent_by who posts = stamped stamp (letters_of who 0 posts)

  abbrev S : Sender → List Post → Letter → Type 0
  S who posts letter = IsSentBy setting w n stamp (sent_by who posts) letter

  all_apart : (who : Sender) (posts : List Post) → ((post : Post) → In post posts → is_of_read post.body ≡ false) → (letter : Letter)
      → In letter (sent_by who posts) → S who posts letter
  all_apart who posts apart letter h = let s = said who stamp 0 posts letter h in Is_apart (ap is_of_read s.body ∙ apart s.post s.there)

  abbrev mine : Sender
  mine = sender (own_place setting w n)

  one_sent : (client seq : ℕ) (cell : Cell) (epoch : ℕ) (what : Body) → (w.servers n).life.running ≡ true
      → IsReadable (Handled w n) (own_place setting w n) (owns_of w n) client seq cell epoch → answers_read what ≡ Some seq
      → ((k : ℕ) (bytes : List ℕ) → what ≡ body.Data k bytes → bytes ≡ bytes_of (entry_at (chain_in (owns_of w n).store.chains cell) epoch)) → (letter : Letter)
      → In letter (sent_by mine (record { to = actor.Client client; body = what } ∷ []))
      → S mine (record { to = actor.Client client; body = what } ∷ []) letter
  unfolding In
  one_sent client seq cell epoch what runs readable is shown letter (inr none) = absurd none
  one_sent client seq cell epoch what runs readable is shown letter (inl e) = Replies (record {
    runs = runs;
    client = client;
    seq = seq;
    cell = cell;
    epoch = epoch;
    readable = readable;
    is = ap (λ (l : Letter). answers_read l.body) e ∙ is;
    alone = ap (λ l. l ∷ []) (sym e);
    to = ap (λ (l : Letter). l.to) e;
    «from» = ap (λ (l : Letter). l.from) e;
    at = ap (λ (l : Letter). l.stamp) e;
    rev = ap (λ (l : Letter). l.rev) e;
    shown = λ k bytes says. shown k bytes (ap (λ (l : Letter). l.body) (sym e) ∙ says);
  })

  scene : Scene
  scene = record {
    setting = setting;
    state = state;
    w = w;
    lives = ground.lives;
    firm = firm;
    rests = ground.ready.rests;
    asking = ground.asking;
    reports = ground.reports;
  }

  job_sends : (runs : (w.servers n).life.running ≡ true) (done : JobResult) → Did (Handled w n) (own_place setting w n) (owns_of w n) done
      → ((post : Post) → In post done.posts → SaysOk setting w ground.lives n done.own post.to post.body)
      → (letter : Letter) → In letter (sent_by mine done.posts) → S mine done.posts letter
  job_sends runs _ (By_read _ (Shows client seq cell epoch readable there)) ok letter h =
      one_sent client seq cell epoch (body.Data seq (bytes_of (entry_at (chain_in (owns_of w n).store.chains cell) epoch))) runs readable refl
      (λ k bytes e. sym (same_data e)) letter h
  job_sends runs _ (By_read _ (Not_here client seq cell epoch readable comes none)) ok letter h =
      one_sent client seq cell epoch (body.NotHere seq) runs readable refl (λ k bytes e. absurd cc) letter h
  job_sends runs done d ok letter h =
      all_apart mine done.posts (λ post i. neither setting w ground.lives n done.own post.to post.body
      (mute_data (Handled w n) (own_place setting w n) (owns_of w n) done d (λ of_read. of_read) post i) (ok post i)) letter h

  seated_tells : (runs : (w.servers n).life.running ≡ true) (done : JobResult) → IsSeatedOrMute (own_place setting w n) (owns_of w n) done
      → Did (Handled w n) (own_place setting w n) (owns_of w n) done
      → (post : Post) → In post done.posts → SaysOk setting w ground.lives n done.own post.to post.body
  unfolding scene
  seated_tells runs done seat d = (job_tells scene n runs done seat d).says

  pub sends : (what : Step) (acted : Acted) → Serving setting w n what acted → (letter : Letter) → In letter (stamped stamp acted.letters)
      → IsSentBy setting w n stamp (stamped stamp acted.letters) letter
  sends what acted serving letter h = elim (serves_sent setting w n stamp what acted serving letter h) [
    | inl job ↦ subst (λ (a : Acted). IsSentBy setting w n stamp (stamped stamp a.letters) letter) (sym job.acted_is)
        (job_sends job.runs job.done job.did (seated_tells job.runs job.done job.seat job.did) letter
        (subst (λ (a : Acted). In letter (stamped stamp a.letters)) job.acted_is h))
    | inr apart ↦ Is_apart (notice_apart letter.body apart)
  ]
