-- Which letters tell of a want of slots, or ask for one, and what a job has to show of those that it sends.
use Rattle.law_answers.proofs.Imports.{◌<◌, ◌∙◌, ◌≡◌, ◌≤◌, ◌⊎◌, Answered, Body, Bool, Cell, Ending, Finished, Firm, In, Key, Letter, List, PairState, Paired}
use Rattle.law_answers.proofs.Imports.{Pending, Post, Rests, Setting, Some, Subject, Was, World, ap, at, cell_cmp, false, first, inl, is_clients, is_in}
use Rattle.law_answers.proofs.Imports.{is_logged, length, moved_as, nat_cmp, refl, server_state, subject_of, sym, true, true_false, was_same, ℕ}
use Rattle.law_answers.specs.Refusals.{IsNumbered, Refusals}
use Rattle.petal_msg.specs.declared.body.Body.TheVariants as body
use Rattle.petal_msg.specs.declared.letter.Actor.TheVariants as actor
use Rattle.petal_msg.specs.declared.operation.Ending.TheVariants as ending

-- what tells of a want of slots, or asks for one
abbrev pub is_of_slots : Body → Bool
is_of_slots (body.Full seq) = true
is_of_slots (body.PairFull number cell) = true
is_of_slots (body.Reserve number cell) = true
is_of_slots _ = false

-- the subjects of which these are
abbrev pub is_slot_subject : Subject → Bool
is_slot_subject Answered = true
is_slot_subject Paired = true
is_slot_subject _ = false

pub not_full : (said : Body) (subject : Subject) → subject_of said ≡ subject → is_slot_subject subject ≡ false → is_of_slots said ≡ false
not_full said subject is other = by said (ap is_slot_subject is ∙ other)
  where
    by : (said : Body) → is_slot_subject (subject_of said) ≡ false → is_of_slots said ≡ false
    by (body.Full seq) e = true_false refl e
    by (body.PairFull number cell) e = true_false refl e
    by (body.Reserve number cell) e = true_false refl e
    by _ e = refl

pub moved_not_full : (key : Key) (how : Ending) → is_of_slots (moved_as key how) ≡ false
moved_not_full key ending.Written = refl
moved_not_full key ending.Full = refl

pub logged_not_full : (said : Body) → is_logged (subject_of said) ≡ true → is_of_slots said ≡ false
logged_not_full (body.Full seq) e = true_false e refl
logged_not_full (body.PairFull number cell) e = true_false e refl
logged_not_full (body.Reserve number cell) e = true_false e refl
logged_not_full _ e = refl

pub one_server : {i j : ℕ} → actor.Server i ≡ actor.Server j → i ≡ j
one_server e = cc

-- a slot is asked for, for an operation of this number on a cell that the server leads in Both
pub record AsksFor (setting : Setting) (w : World) (n : ℕ) (new : PairState) (number : ℕ) (cell : Cell) : Type 0 where
  pub seated : is_in (server_state setting w n) n (w.servers n).life.inc ≡ true
  pub leads : first (server_state setting w n) cell ≡ Some n
  pub given : number < new.pairs.next

-- the lead is told that there is no slot, for a letter of this server's revision that asked for one
pub record TellsNone (S : ℕ → ℕ → Type 0) (setting : Setting) (w : World) (n : ℕ) (post : Post) (number : ℕ) (cell : Cell) : Type 0 where
  pub letter : Letter
  pub revision : letter.rev ≡ length (w.servers n).log.applied
  pub asked : IsNumbered setting w letter number cell
  pub to : post.to ≡ actor.Server asked.server
  pub refused : (op : Pending) → at cell_cmp (w.servers asked.server).own.pairs.pending cell ≡ Some op → op.op ≡ number
      → is_clients op.kind ≡ true → S op.client op.seq

-- what has to be so of a letter of a job
abbrev pub Duty : (S : ℕ → ℕ → Type 0) → Setting → World → (n : ℕ) → PairState → Post → Body → Type 0
Duty S setting w n new post (body.Full seq) = (c : ℕ) → post.to ≡ actor.Client c → S c seq
Duty S setting w n new post (body.Reserve number cell) = AsksFor setting w n new number cell
Duty S setting w n new post (body.PairFull number cell) = TellsNone S setting w n post number cell
Duty S setting w n new post _ = Unit {0}

pub no_duty : (S : ℕ → ℕ → Type 0) (setting : Setting) (w : World) (n : ℕ) (new : PairState) (post : Post) (said : Body) → is_of_slots said ≡ false
    → Duty S setting w n new post said
no_duty S setting w n new post (body.Full seq) e = true_false refl e
no_duty S setting w n new post (body.Reserve number cell) e = true_false refl e
no_duty S setting w n new post (body.PairFull number cell) e = true_false refl e
no_duty S setting w n new post _ e = tt

-- what a job has to show: of what it remembers, of what is pending, and of what it sends
pub record JobRefuses (S : ℕ → ℕ → Type 0) (setting : Setting) (w : World) (n : ℕ) (new : PairState) (posts : List Post) : Type 0 where
  pub finished : (c : ℕ) (last : Finished) → at nat_cmp new.pairs.finished c ≡ Some last → last.ending ≡ ending.Full
      → (at nat_cmp (w.servers n).own.pairs.finished c ≡ Some last) ⊎ S c last.seq
  pub next : (w.servers n).own.pairs.next ≤ new.pairs.next
  pub pending : (cell : Cell) (op : Pending) → at cell_cmp new.pairs.pending cell ≡ Some op
      → Was (w.servers n).own cell op ⊎ (((w.servers n).own.pairs.next ≤ op.op) × (op.op < new.pairs.next))
  pub says : (post : Post) → In post posts → Duty S setting w n new post post.body

-- a world where R holds of each request that was refused so far, which implies what is to hold after the next step
pub record WereRefused (R S : ℕ → ℕ → Type 0) : Type 0 where
  pub setting : Setting
  pub w : World
  pub firm : Firm setting w
  pub rests : Rests setting w
  pub more : (c seq : ℕ) → R c seq → S c seq
  pub refusals : Refusals R setting w

-- a job of a running server in it
pub record Scene (R S : ℕ → ℕ → Type 0) : Type 0 where
  pub were : WereRefused R S
  pub open were use *
  pub n : ℕ
  pub runs : (w.servers n).life.running ≡ true

-- a job that refuses nothing
module _ (S : ℕ → ℕ → Type 0) (setting : Setting) (w : World) (n : ℕ) where
  abbrev before : PairState
  before = (w.servers n).own

  -- a job that tells nobody of slots
  pub quiet : (new : PairState) (posts : List Post)
      → ((c : ℕ) (last : Finished) → at nat_cmp new.pairs.finished c ≡ Some last → last.ending ≡ ending.Full
      → (at nat_cmp before.pairs.finished c ≡ Some last) ⊎ S c last.seq)
      → before.pairs.next ≤ new.pairs.next
      → ((cell : Cell) (op : Pending) → at cell_cmp new.pairs.pending cell ≡ Some op
      → Was before cell op ⊎ ((before.pairs.next ≤ op.op) × (op.op < new.pairs.next)))
      → ((post : Post) → In post posts → is_of_slots post.body ≡ false) → JobRefuses S setting w n new posts
  quiet new posts finished next pending unsaid = record {
    finished = finished;
    next = next;
    pending = pending;
    says = λ post i. no_duty S setting w n new post post.body (unsaid post i);
  }

  -- and leaves what is pending and finished
  pub still : (posts : List Post) (new : PairState) → new.pairs.finished ≡ before.pairs.finished → before.pairs.next ≤ new.pairs.next
      → new.pairs.pending ≡ before.pairs.pending → ((post : Post) → In post posts → is_of_slots post.body ≡ false)
      → JobRefuses S setting w n new posts
  still posts new finished next pending unsaid = quiet new posts
      (λ c last is how. inl (ap (λ t. at nat_cmp t c) (sym finished) ∙ is)) next
      (λ cell op is. inl (was_same before cell op (ap (λ t. at cell_cmp t cell) (sym pending) ∙ is))) unsaid
