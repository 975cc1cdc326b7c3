-- What the first world has, and each record keeps, every run has; and what is known of a run and of its next record.
use Rattle.law_jobs.proofs.Imports.{[], ◌++◌, ◌∙◌, ◌∷◌, ◌≡◌, AreSteps, Firm, Happens, IsBelow, IsMoment, IsSound, List, Ready, Rests, State, always_firm}
use Rattle.law_jobs.proofs.Imports.{append-nil, append_assoc, history_grows, history_is_firm, last_happens, prefix_legal, ready_after, refl, rests_after}
use Rattle.law_jobs.proofs.Imports.{setting_of, start, start_rests, stepped, subst, sym, world_more}
use Rattle.law_state.specs.Histories.{IsPrefix, Script, chosen_log, chosen_state, Record}
use Rattle.spec_history.specs.Steps.{Follows}
pub use Rattle.law_jobs.specs.Runs.{At, OneMore, Run, after, longer, run_of, setting_in}

-- the part of a history before some of its records
pub before_part : (script : Script) (prefix following : List Record) → AreSteps script (prefix ++ following) → AreSteps script prefix
before_part script prefix following legal = (prefix_legal (setting_of script) (start (setting_of script)) prefix following legal).0

abbrev pub more_of : (script : Script) → IsSound script → (prefix : List Record) (own : Record) → AreSteps script (prefix ++ own ∷ []) → OneMore
more_of script sound prefix own legal =
    record { prior = run_of script sound prefix (before_part script prefix (own ∷ []) legal); own = own; legal = legal }

pub upto_moment : (run : Run) (m : IsMoment run.records) → AreSteps run.script (m.prefix ++ m.own ∷ [])
upto_moment run m =
    before_part run.script (m.prefix ++ m.own ∷ []) m.following
    (subst (AreSteps run.script) (m.is ∙ sym (append_assoc m.prefix (m.own ∷ []) m.following)) run.legal)

-- what stands before one of the records, with that one
abbrev pub at_moment : (run : Run) → IsMoment run.records → OneMore
at_moment run m = more_of run.script run.sound m.prefix m.own (upto_moment run m)

-- ### The induction

module _ (script : Script) (sound : IsSound script) (P : Run → Type 0) (next : (it : OneMore) → P it.prior → P (longer it)) where
  -- what holds of a run however its records are known to be allowed
  abbrev OfRun : List Record → Type 0
  OfRun records = (legal : AreSteps script records) → P (run_of script sound records legal)

  from_prefix : (prefix later : List Record) → OfRun prefix → OfRun (prefix ++ later)
  from_prefix prefix [] held = subst OfRun (sym (append-nil prefix)) held
  from_prefix prefix (own ∷ later) held =
      subst OfRun (append_assoc prefix (own ∷ []) later)
      (from_prefix (prefix ++ own ∷ []) later (λ legal. let it = more_of script sound prefix own legal in next it (held it.prior.legal)))

-- what a prefix of a run has, and each record keeps, the run has
pub since : (P : Run → Type 0) → ((it : OneMore) → P it.prior → P (longer it)) → (run : Run) (prefix later : List Record)
    → run.records ≡ prefix ++ later → ((legal : AreSteps run.script prefix) → P (run_of run.script run.sound prefix legal)) → P run
since P next run prefix later is held =
    subst (OfRun run.script run.sound P next) (sym is) (from_prefix run.script run.sound P next prefix later held) run.legal

-- what the first world has, and each record keeps, every run has
pub by_run : (P : Run → Type 0) → ((script : Script) (sound : IsSound script) (legal : AreSteps script []) → P (run_of script sound [] legal))
    → ((it : OneMore) → P it.prior → P (longer it)) → (run : Run) → P run
by_run P begun next run = since P next run [] run.records refl (begun run.script run.sound)

-- ### What is known of a run

pub firm_in : (run : Run) → Firm (setting_in run) (after run)
firm_in run = history_is_firm run.script run.records run.sound run.legal

pub rests_in : (run : Run) → Rests (setting_in run) (after run)
rests_in run =
    rests_after (setting_in run) (start (setting_in run)) run.records (always_firm run.script run.records run.sound run.legal)
    (start_rests run.script) run.legal

pub ready_in : (run : Run) (state : State) → IsBelow (chosen_state (setting_in run) (after run)) state → Ready (setting_in run) state (after run)
ready_in run state below = ready_after run.script run.records (always_firm run.script run.records run.sound run.legal) run.legal state below

-- ### What is known of one record more

pub grown_in : (it : OneMore) → IsPrefix (chosen_log (setting_in it.prior) (after it.prior)) (chosen_log (setting_in it.prior) (after (longer it)))
grown_in it = history_grows it.prior.script (longer it).records it.prior.sound it.legal it.prior.records (it.own ∷ []) refl

pub happened_in : (it : OneMore) (state : State) → IsBelow (chosen_state (setting_in it.prior) (after (longer it))) state
    → Happens (setting_in it.prior) state (after it.prior) (after (longer it))
happened_in it state below =
    last_happens it.prior.script it.prior.records it.own
    (always_firm it.prior.script (longer it).records it.prior.sound it.legal) it.legal state below

-- it is of an allowed step
pub follows_in : (it : OneMore) → Follows (setting_in it.prior) (after it.prior) it.own
follows_in it = (prefix_legal (setting_in it.prior) (start (setting_in it.prior)) it.prior.records (it.own ∷ []) it.legal).1.0

-- and leads where that one does
pub stepped_in : (it : OneMore) → after (longer it) ≡ (stepped (setting_in it.prior) (after it.prior) it.own).world
stepped_in it = world_more (setting_in it.prior) (start (setting_in it.prior)) it.prior.records it.own

pub grown_then : (it : OneMore) → IsPrefix (chosen_log (setting_in it.prior) (after it.prior))
    (chosen_log (setting_in it.prior) (stepped (setting_in it.prior) (after it.prior) it.own).world)
grown_then it =
    let setting = setting_in it.prior in
    subst (λ v. IsPrefix (chosen_log setting (after it.prior)) (chosen_log setting v)) (stepped_in it) (grown_in it)

pub firm_then : (it : OneMore) → Firm (setting_in it.prior) (stepped (setting_in it.prior) (after it.prior) it.own).world
firm_then it = subst (Firm (setting_in it.prior)) (stepped_in it) (firm_in (longer it))
