-- What a server wants chosen, by whether it is In as itself.
use Rattle.std.proofs.Common.{◌≡◌, ◌++◌, true, false, List, [], ◌∷◌, Option, None, Some, if◌then◌else◌, refl, sym, ap, ◌∙◌}
use Rattle.std.proofs.lemmas.List.{append-nil}
use Rattle.std.specs.List.{flat_map}
use Rattle.std.specs.Prelude.{◌&&◌, not}
use Rattle.epoch_snapshot.specs.Report.{report_to, reported_as}
use Rattle.global_tables.specs.View.{head}
use Rattle.global_tables.specs.declared.fence.Fence.{Fence}
use Rattle.petal_command.specs.declared.command.Command.{Command}
use Rattle.petal_command.specs.declared.command.Command.TheVariants.{Drained}
use Rattle.spec_rules.specs.Draining.{awaits, drained_for, has_held_write}
use Rattle.spec_rules.specs.Fills.{moved_of}
use Rattle.spec_rules.specs.Jobs.{own_wants}
use Rattle.spec_rules.specs.Returns.{caught_links, own_join}
use Rattle.spec_rules.specs.Server.{JobContext, PairState}
use Rattle.spec_rules.specs.State.{is_in}

-- its report is the rule's
reports : (here : JobContext) (own : PairState) (fence : Option Fence)
    → reported_as here.me here.inc (report_to here.state here.me own.pairs.pending fence) ≡ drained_for here own fence
reports here own None = refl
reports here own (Some fence) =
    elim (awaits fence here.me && not (has_held_write here.state own)) as
    (λ b. reported_as here.me here.inc (if b then Some fence.number else None) ≡ (if b then Drained here.me here.inc fence.number ∷ [] else [])) [
      | true ↦ refl
      | false ↦ refl
    ]

-- one that is not In as itself wants its Join alone
pub wants_out : (here : JobContext) (own : PairState) → is_in here.state here.me here.inc ≡ false
    → own_join here.state here.me here.inc own.store.fresh ≡ own_wants here own
wants_out here own out =
    let join = own_join here.state here.me here.inc own.store.fresh in
    rw out (sym (append-nil (join ++ []) ∙ append-nil join))

-- one that is In, what its links want, its report, and what it has moved
pub wants_on : (here : JobContext) (own : PairState) → is_in here.state here.me here.inc ≡ true
    → (caught_links here own ++ reported_as here.me here.inc (report_to here.state here.me own.pairs.pending (head here.state.view.queue)))
    ++ flat_map (moved_of here own) here.state.links ≡ own_wants here own
wants_on here own on =
    rw on (ap (λ (report : List Command). (caught_links here own ++ report) ++ flat_map (moved_of here own) here.state.links)
    (reports here own (head here.state.view.queue)))
