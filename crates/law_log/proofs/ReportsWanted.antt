-- The report that a server wants: to the active fence, which awaits it, of a server that is In as itself and has drained.
use Rattle.law_log.proofs.Imports.{[], ◌&&◌, ◌∷◌, ◌≡◌, Among, Command, Drained, Fence, JobContext, List, None, Option, PairState, Some, awaits, both_true}
use Rattle.law_log.proofs.Imports.{by_test, drained_for, draining, false, has_held_write, head, is_in, not, not_true, refl, true}
use Rattle.law_log.proofs.ListPlaces.{none_among, only_among}

-- the command is the server's report to the active fence
pub record IsReport (here : JobContext) (own : PairState) (command : Command) : Type 0 where
  pub seated : is_in here.state here.me here.inc ≡ true
  pub active : Fence
  pub heads : head here.state.view.queue ≡ Some active
  pub is : command ≡ Drained here.me here.inc active.number
  pub awaited : awaits active here.me ≡ true
  pub drained : has_held_write here.state own ≡ false

module _ (here : JobContext) (own : PairState) (seat : is_in here.state here.me here.inc ≡ true) where
  report_for : (o : Option Fence) → head here.state.view.queue ≡ o → (c : Command) → Among c (drained_for here own o) → IsReport here own c
  report_for None is c h = none_among c h
  report_for (Some fence) is c h =
      by_test (λ (xs : List Command). Among c xs → IsReport here own c) (awaits fence here.me && not (has_held_write here.state own))
      (Drained here.me here.inc fence.number ∷ []) []
      (λ both i. let split = both_true (awaits fence here.me) (not (has_held_write here.state own)) both in record {
        seated = seat;
        active = fence;
        heads = is;
        is = only_among c _ i;
        awaited = split.0;
        drained = not_true (has_held_write here.state own) split.1;
      })
      (λ off i. none_among c i) h

pub report_among : (here : JobContext) (own : PairState) (c : Command) → Among c (draining here own) → IsReport here own c
report_among here own c h =
    by_test (λ (xs : List Command). Among c xs → IsReport here own c) (is_in here.state here.me here.inc)
    (drained_for here own (head here.state.view.queue)) []
    (λ seat i. report_for here own seat (head here.state.view.queue) refl c i)
    (λ out i. none_among c i) h
