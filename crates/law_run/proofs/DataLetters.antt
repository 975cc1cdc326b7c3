-- What a server's step sends: which letters have data, and that one ends a write as written only where that has had its bytes.
use Rattle.law_run.proofs.Imports.{◌==◌, ◌∙◌, ◌≡◌, ◌⊎◌, Answered, Body, Bool, Did, Ending, Ends_fill, Finished, Glanced, In, IsOfRead, IsOpen, IsRefusal}
use Rattle.law_run.proofs.Imports.{JobContext, JobResult, Letter, List, Moves, Moves_on, NeverRetired, PairState, Plain, Post, Refused, Says, SaysOf, Sender}
use Rattle.law_run.proofs.Imports.{Subject, about, ap, down_posts, ended, false, filter, inl, inr, is_logged, is_notice, is_refused, letters_by, letters_of}
use Rattle.law_run.proofs.Imports.{letters_of_job, logged_notice, not, own_place, owns_of, range_with_len, refl, said, said_to_all, same_some, stamped}
use Rattle.law_run.proofs.Imports.{subject_of, subst, sym, to_client, true, true_false, ℕ}
use Rattle.law_run.specs.WritesGoOn.{is_held, Onward}
use Rattle.law_run.proofs.ReadsLookWhereSent.{is_looked, one_client}
use Rattle.law_run.proofs.Machine.{held_onward}
use Rattle.law_run.proofs.LeadPutsThatCount.{finish_held}
use Rattle.law_run.proofs.EventsOfServerSteps.{ServerStep, ends_of}
use Rattle.petal_msg.specs.declared.body.Body.TheVariants as body
use Rattle.petal_msg.specs.declared.letter.Actor.TheVariants as actor
use Rattle.petal_msg.specs.declared.operation.Ending.TheVariants as ending
use Rattle.law_jobs.specs.Sayings as says

-- a letter ends a write as written
abbrev pub is_written : Body → Bool
is_written (body.Written seq) = true
is_written _ = false

-- ### What a letter is about

-- it is no reply to a client
abbrev pub is_reply : Subject → Bool
is_reply Answered = true
is_reply Refused = true
is_reply _ = false

-- what is no reply tells of no look, and ends no write
pub unended_data : (said : Body) → is_reply (subject_of said) ≡ false → is_looked said ≡ false
unended_data (body.Data seq bytes) e = true_false refl e
unended_data (body.NotHere seq) e = true_false refl e
unended_data _ e = refl

pub unended_written : (said : Body) → is_reply (subject_of said) ≡ false → is_written said ≡ false
unended_written (body.Written seq) e = true_false refl e
unended_written _ e = refl

-- a refusal tells of no look but where it says that the new map has nothing, and ends no write
refused_looks : (said : Body) → IsRefusal said → is_looked said ≡ false
refused_looks (body.Data seq bytes) r = let f : false ≡ true = ap is_refused r.refused in absurd cc
refused_looks (body.NotHere seq) r = true_false refl r.other
refused_looks _ r = refl

refused_written : (said : Body) → IsRefusal said → is_written said ≡ false
refused_written (body.Written seq) r = let f : false ≡ true = ap is_refused r.refused in absurd cc
refused_written _ r = refl

-- a letter is no reply
abbrev pub IsUnended : Post → Type 0
IsUnended post = is_reply (subject_of post.body) ≡ false

pub notice_unended : (subject : Subject) → is_notice subject ≡ true → is_reply subject ≡ false
notice_unended Answered e = true_false e refl
notice_unended Refused e = true_false e refl
notice_unended _ e = refl

pub logged_unended : (said : Body) → is_logged (subject_of said) ≡ true → is_reply (subject_of said) ≡ false
logged_unended said e = notice_unended (subject_of said) (logged_notice (subject_of said) e)

pub unended_no_data : (who : Sender) (stamp : ℕ) (posts : List Post) → ((post : Post) → In post posts → IsUnended post) → (letter : Letter)
    → In letter (stamped stamp (letters_of who 0 posts)) → is_looked letter.body ≡ false
unended_no_data who stamp posts all letter h =
    let s = said who stamp 0 posts letter h in ap is_looked s.body ∙ unended_data s.post.body (all s.post s.there)

pub unended_no_end : (who : Sender) (stamp : ℕ) (posts : List Post) → ((post : Post) → In post posts → IsUnended post) → (letter : Letter)
    → In letter (stamped stamp (letters_of who 0 posts)) → is_written letter.body ≡ false
unended_no_end who stamp posts all letter h =
    let s = said who stamp 0 posts letter h in ap is_written s.body ∙ unended_written s.post.body (all s.post s.there)

-- a server that stops tells the others
pub downs_unended : (me inc servers : ℕ) (post : Post) → In post (down_posts me inc servers) → IsUnended post
downs_unended me inc servers post h =
    ap (λ b. is_reply (subject_of b)) (said_to_all (body.Down me inc) (filter (λ n. not (n == me)) (range_with_len 0 servers)) post h)

pub glances_unended : (post : Post) → subject_of post.body ≡ Glanced → IsUnended post
glances_unended post e = ap is_reply e

-- ### A job

ended_data : (seq : ℕ) (how : Ending) → is_looked (ended seq how) ≡ false
ended_data seq ending.Written = refl
ended_data seq ending.Full = refl

-- only a read's job sends data
module _ (reads : Type 0) (heard : Body → Type 0) (here : JobContext) (own : PairState) where
  says_data : (new : PairState) (post : Post) → SaysOf reads heard here own new post → (is_looked post.body ≡ false) ⊎ reads
  says_data new _ (says.Refuses to said is busy held) = inl (refused_looks said is)
  says_data new _ (says.Shows client seq cell epoch may there of_read) = inr of_read
  says_data new _ (says.Shows_nothing client seq cell epoch may comes none of_read) = inr of_read
  says_data new _ (says.Repeats want last same h lead is e) = inl (ended_data want.seq last.ending)
  says_data new _ (says.Ends client last why is) = inl (ended_data last.seq last.ending)
  says_data new _ (Ends_fill op ending.Full to ended is none so) = inl refl
  says_data new _ (Ends_fill op ending.Written to ended is none so) = inl refl
  says_data new post (Moves _ same next) = inl (ap (λ (p : Post). is_looked p.body) next.is)
  says_data new post (Moves_on key row _ same h is next) = inl (ap (λ (p : Post). is_looked p.body) next.is)
  says_data new post (says.Of_the_log _ logged) = inl (unended_data post.body (logged_unended post.body logged))
  says_data new _ _ = inl refl

pub mute_data : (heard : Body → Type 0) (here : JobContext) (own : PairState) (done : JobResult) (did : Did heard here own done) → (IsOfRead did → ⊥)
    → (post : Post) → In post done.posts → is_looked post.body ≡ false
mute_data heard here own done did unread post i =
    elim (says_data (IsOfRead did) heard here own done.own post (letters_by (IsOfRead did) heard here own done did (λ is. is) post i)) [
      | inl mute ↦ mute
      | inr is ↦ absurd (unread is)
    ]

-- ### Writes that end as written

ended_written : (seq : ℕ) (how : Ending) (other : ℕ) → ended seq how ≡ body.Written other → how ≡ ending.Written
ended_written seq ending.Written other e = refl
ended_written seq ending.Full other e = true_false {b = is_written (body.Written other)} refl (ap is_written (sym e))

ended_seq : (seq : ℕ) (how : Ending) (other : ℕ) → ended seq how ≡ body.Written other → seq ≡ other
ended_seq seq ending.Written other e = same_some (ap (λ b. (about b).seq) e)
ended_seq seq ending.Full other e = true_false {b = is_written (body.Written other)} refl (ap is_written (sym e))

module _ (this : ServerStep) (k : Plain) (runs : (this.w.servers this.n).life.running ≡ true) (onward : Onward this.m k)
    (never : NeverRetired (own_place this.setting this.w this.n) (owns_of this.w this.n)) where
  open ends_of this use {own, here, hears}

  abbrev IsOk : Post → Type 0
  IsOk post = (c seq : ℕ) → post.to ≡ actor.Client c → post.body ≡ body.Written seq → IsOpen (this.w.clients c) seq → is_held k c ≡ true

  abbrev PostsOk : List Post → Type 0
  PostsOk posts = (post : Post) → In post posts → IsOk post

  unwritten : (post : Post) → is_written post.body ≡ false → IsOk post
  unwritten post other c seq to says still = true_false (ap is_written says) other

  -- a client is told how a request was finished
  ended_ok : (client : ℕ) (last : Finished) → (last.ending ≡ ending.Written → IsOpen (this.w.clients client) last.seq → is_held k client ≡ true) → (number : ℕ)
      → number ≡ last.seq → IsOk (to_client client (ended number last.ending))
  ended_ok client last held number e c seq to what still =
      let same : client ≡ c = one_client to in
      let of : seq ≡ last.seq = sym (ended_seq number last.ending seq what) ∙ e in
      subst (λ i. is_held k i ≡ true) same (held (ended_written number last.ending seq what)
      (subst (IsOpen (this.w.clients client)) of (subst (λ i. IsOpen (this.w.clients i) seq) (sym same) still)))

  says_held : (new : PairState) (post : Post) → Says hears here own new post → IsOk post
  says_held new _ (says.Refuses to said is busy held) = unwritten _ (refused_written said is)
  says_held new _ (says.Repeats want last same h lead is e) =
      ended_ok want.client last (λ how still. held_onward this.m k want.client onward (this.follow.finished this.n want.client last runs is how still))
      want.seq e
  says_held new _ (says.Ends client last why is) =
      ended_ok client last (finish_held this k runs onward never new.pairs.pending client last why) last.seq refl
  says_held new _ (Ends_fill op ending.Full to ended is none so) = unwritten _ refl
  says_held new _ (Ends_fill op ending.Written to ended is none so) = unwritten _ refl
  says_held new post (Moves _ same next) = unwritten post (ap (λ (p : Post). is_written p.body) next.is)
  says_held new post (Moves_on key row _ same h is next) = unwritten post (ap (λ (p : Post). is_written p.body) next.is)
  says_held new post (says.Of_the_log _ logged) = unwritten post (unended_written post.body (logged_unended post.body logged))
  says_held new _ _ = unwritten _ refl

  pub did_says : (done : JobResult) → Did hears here own done → PostsOk done.posts
  did_says done d post i = says_held done.own post (letters_of_job hears here own done d post i)
