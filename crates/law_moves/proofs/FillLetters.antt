-- Who says that an entry is there, and who asks a second server to put: what a job sends of either.
use Rattle.law_moves.proofs.Imports.{◌≡◌, ◌⊎◌, Alone_has, As_it_is, As_told, Body, Bool, Both_have, Did, Ending, Filling, Full, HasEnded, In, IsFilled}
use Rattle.law_moves.proofs.Imports.{Is_retired, JobContext, JobResult, Key, Logged, Moving, None, PairState, Paired, Pending, Post, Says, Some, Stage}
use Rattle.law_moves.proofs.Imports.{Subject, Written, ap, ended, false, in_both, inl, inr, is_alone_on, is_logged, letters_of_job, pending_on, refl}
use Rattle.law_moves.proofs.Imports.{subject_of, subst, sym, true, true_false, ℕ}
use Rattle.law_moves.proofs.JobsChangeOneChain.{NeverRetired}
use Rattle.petal_msg.specs.declared.body.Body.TheVariants as body
use Rattle.petal_msg.specs.declared.operation.OpKind.TheVariants as kind
use Rattle.law_jobs.specs.Sayings as says

abbrev is_told : Subject → Bool
is_told Paired = true
is_told Filling = true
is_told _ = false

logged_other : (s : Subject) → is_logged s ≡ true → is_told s ≡ false
logged_other Logged e = refl
logged_other _ e = true_false e refl

module _ (heard : Body → Type 0) (here : JobContext) (own new : PairState) where
  -- why a server says that an entry is there: it is, and nothing is pending; or it had the entry pending, which is put where its copies are
  pub data HasFilled (key : Key) : Type 0 where
    Is_there : (moving : Moving) → IsFilled heard here own moving → moving.key ≡ key → new ≡ own → HasFilled key
    Was_put : (op : Pending) → pending_on own op.cell ≡ Some op → op.key ≡ key → op.kind ≡ kind.Fill → op.stage.put ≡ true
        → ((in_both here.state op.cell ≡ true) × heard (body.Replicated op.op op.cell)) ⊎ (is_alone_on here.state here.me op.cell ≡ true)
        → pending_on new op.cell ≡ None → HasFilled key

  -- what asks a second server to put
  pub record AsksCopy (key : Key) : Type 0 where
    pub op : Pending
    pub is : pending_on own op.cell ≡ Some op
    pub of : op.key ≡ key

  abbrev pub Said : Body → Type 0
  Said (body.Filled key) = HasFilled key
  Said (body.Replicate number key version origin bytes) = AsksCopy key
  Said _ = Unit {0}

  other_said : (said : Body) → is_told (subject_of said) ≡ false → Said said
  other_said (body.Filled key) e = true_false refl e
  other_said (body.Replicate number key version origin bytes) e = true_false refl e
  other_said _ e = tt

  ended_said : (seq : ℕ) (how : Ending) → Said (ended seq how)
  ended_said seq Written = tt
  ended_said seq Full = tt

  module _ (never : NeverRetired here own) where
    written_said : (op : Pending) → HasEnded heard here own op Written → op.kind ≡ kind.Fill → pending_on new op.cell ≡ None → HasFilled op.key
    written_said _ (Both_have op h is both stage) fill none = Was_put op is refl fill (ap (λ (s : Stage). s.put) stage) (inl (both, h)) none
    written_said _ (Alone_has _ _ (As_it_is op is) alone stale put free) fill none = Was_put op is refl fill put (inr alone) none
    written_said _ (Alone_has _ _ (As_told op reserved paired is) alone stale put free) fill none = Was_put op is refl fill put (inr alone) none
    written_said _ (Is_retired now op taken off) fill none = absurd (never now op taken off)

    says_so : (post : Post) → Says heard here own new post → Said post.body
    says_so _ (says.Refuses to said is busy held) = other_said said (ap is_told is.refused)
    says_so _ (says.Repeats want last same h lead is e) = ended_said want.seq last.ending
    says_so _ (says.Ends client last why is) = ended_said last.seq last.ending
    says_so _ (says.Asks_copy op to same is stage so) = record { op = op; is = is; of = refl }
    says_so _ (says.Has_fill moving to same filled so) = Is_there moving filled refl same
    says_so _ (says.Ends_fill op Full to ended is none so) = tt
    says_so _ (says.Ends_fill op Written to ended is none so) = written_said op ended is none
    says_so post (says.Moves _ same next) = subst (λ (p : Post). Said p.body) (sym next.is) tt
    says_so post (says.Moves_on key row _ same h is next) = subst (λ (p : Post). Said p.body) (sym next.is) tt
    says_so post (says.Of_the_log _ logged) = other_said post.body (logged_other (subject_of post.body) logged)
    says_so _ _ = tt

-- a letter of a job, by what it says
pub did_says : (heard : Body → Type 0) (here : JobContext) (own : PairState) → NeverRetired here own → (done : JobResult) → Did heard here own done
    → (post : Post) → In post done.posts → (said : Body) → post.body ≡ said → Said heard here own done.own said
did_says heard here own never done d post i said is =
    subst (Said heard here own done.own) is (says_so heard here own done.own never post (letters_of_job heard here own done d post i))
