-- What a client knows after the entries of a letter.
use Rattle.std.proofs.Common.{◌≡◌, ℕ, ◌++◌, Bool, true, false, cond, if◌then◌else◌, List, [], ◌∷◌, fold, Option, Some, None}
use Rattle.std.proofs.Common.{refl, sym, ◌∙◌, ap, append_assoc, append-nil}
use Rattle.petal_command.specs.declared.command.Command.{Command}
use Rattle.spec_state.specs.State.{latest}
use Rattle.spec_state.specs.Command.{after, state_after}
use Rattle.spec_rules.proofs.Applied.{state_append}
use Rattle.client_core.specs.ClientView.{ClientView, state_of}
use Rattle.script_lines.specs.declared.answer.Answer.{Answer}
use Rattle.client_core.specs.Learning.{learnt}
use Rattle.client_core.specs.Judging.{fated}
use Rattle.client_core.specs.declared.learning.Learning.{Learning as Here}
use Rattle.client_core.specs.declared.judging.Fate.{Fate}
use Rattle.client_core.specs.declared.judging.Fate.TheVariants.{Waits, Answered}
use Rattle.spec_rules.specs.Clients.{Client, Asked, Learning, answered_where, witnessed, judged_by, judged, takes_entry, takes_all}
use Rattle.spec_rules.specs.Clients.{command_of, is_witness, refusal, verdict_for}

-- judging the open request changes neither the state nor what was applied
record IsJudged (later now : Learning) : Type 0 where
  pub state : later.state ≡ now.state
  pub applied : later.client.applied ≡ now.client.applied

answered_judged : (now : Learning) (asked : Asked) (given : Option Answer) → IsJudged (answered_where now asked given) now
answered_judged now asked None = record { state = refl; applied = refl }
answered_judged now asked (Some given) = record { state = refl; applied = refl }

witnessed_judged : (now : Learning) (asked : Asked) (given : Option Answer) → IsJudged (witnessed now asked given) now
witnessed_judged now asked None = record { state = refl; applied = refl }
witnessed_judged now asked (Some given) = record { state = refl; applied = refl }

pick : (b : Bool) (s t now : Learning) → IsJudged s now → IsJudged t now → IsJudged (if b then s else t) now
pick b s t now hs ht = elim b as (λ v. IsJudged (cond v s t) now) [ true ↦ hs | false ↦ ht ]

by_judged : (me : ℕ) (entry : Command) (now : Learning) (asked : Asked) (command : Option Command) → IsJudged (judged_by me entry now asked command) now
by_judged me entry now asked None =
    pick (is_witness me asked.seq entry) _ now now (witnessed_judged now asked (refusal now.state asked.saw_missing asked.request))
    (record { state = refl; applied = refl })
by_judged me entry now asked (Some command) = answered_judged now asked (verdict_for asked.seq (latest now.state me))

any_judged : (me : ℕ) (entry : Command) (now : Learning) (asked : Option Asked) → IsJudged (judged me entry now asked) now
any_judged me entry now None = record { state = refl; applied = refl }
any_judged me entry now (Some asked) = by_judged me entry now asked (command_of me asked.seq asked.request)

entry_judged : (me : ℕ) (now : Learning) (entry : Command)
    → IsJudged (takes_entry me now entry)
    (record now { state = after now.state entry; client = record now.client { applied = now.client.applied ++ entry ∷ [] } })
entry_judged me now entry = any_judged me entry _ now.client.asked

-- the state after all entries
pub takes_all_state : (me : ℕ) (now : Learning) (entries : List Command) → (takes_all me now entries).state ≡ fold after now.state entries
takes_all_state me now [] = refl
takes_all_state me now (entry ∷ entries) =
    takes_all_state me (takes_entry me now entry) entries ∙ ap (λ s. fold after s entries) (entry_judged me now entry).state

-- and what was applied
pub takes_all_applied : (me : ℕ) (now : Learning) (entries : List Command) → (takes_all me now entries).client.applied ≡ now.client.applied ++ entries
takes_all_applied me now [] = sym (append-nil now.client.applied)
takes_all_applied me now (entry ∷ entries) =
    takes_all_applied me (takes_entry me now entry) entries ∙ ap (λ log. log ++ entries) (entry_judged me now entry).applied
    ∙ append_assoc now.client.applied (entry ∷ []) entries

-- one entry, where the request waits
pub entry_learnt : (me : ℕ) (client : Client) (asked : Asked) (old new : Here) (entry : Command) (witnesses : ℕ) (fate : Fate)
    → client.asked ≡ Some asked → new.state ≡ after old.state entry → new.applied.items ≡ old.applied.items ++ entry ∷ [] → old.fate ≡ Waits witnesses
    → ((asker : Client) → judged_by me entry (fated new.state asker asked (Waits witnesses)) (record asked { witnesses = witnesses })
    (command_of me asked.seq asked.request)
    ≡ fated new.state asker asked fate)
    → learnt client client.asked (record new { fate = fate }) ≡ takes_entry me (learnt client client.asked old) entry
entry_learnt me client asked old new entry witnesses fate is_open state applied waits is =
    rw is_open (rw waits (rw (← state, ← applied) (sym (is (record client { applied = new.applied.items })))))

learnt_state : (client : Client) (asked : Option Asked) (now : Here) → (learnt client asked now).state ≡ now.state
learnt_state client None now = refl
learnt_state client (Some asked) now =
    elim now.fate as (λ fate. (fated now.state (record client { applied = now.applied.items }) asked fate).state ≡ now.state) [
      | Waits witnesses ↦ refl
      | Answered given ↦ refl
    ]

learnt_applied : (client : Client) (asked : Option Asked) (now : Here) → (learnt client asked now).client.applied ≡ now.applied.items
learnt_applied client None now = refl
learnt_applied client (Some asked) now =
    elim now.fate as (λ fate. (fated now.state (record client { applied = now.applied.items }) asked fate).client.applied ≡ now.applied.items) [
      | Waits witnesses ↦ refl
      | Answered given ↦ refl
    ]

-- after the entries of a letter the state is again what the applied entries make
pub news_fits : (core : ClientView) (old new : Here) (entries : List Command)
    → learnt core.client core.client.asked new ≡ takes_all core.me (learnt core.client core.client.asked old) entries
    → learnt core.client core.client.asked old ≡ record { state = state_of core; client = core.client; answer = None }
    → new.state ≡ state_after core.servers new.applied.items
news_fits core old new entries taken begun =
    let base : Learning = record { state = state_of core; client = core.client; answer = None } in
    let whole : learnt core.client core.client.asked new ≡ takes_all core.me base entries = taken ∙ ap (λ now. takes_all core.me now entries) begun in
    let applied : new.applied.items ≡ core.client.applied ++ entries =
    sym (learnt_applied core.client core.client.asked new) ∙ ap (λ (now : Learning). now.client.applied) whole ∙ takes_all_applied core.me base entries in
    let state : new.state ≡ fold after (state_of core) entries =
    sym (learnt_state core.client core.client.asked new) ∙ ap (λ (now : Learning). now.state) whole ∙ takes_all_state core.me base entries in
    rw applied (state ∙ state_append core.servers core.client.applied entries)
