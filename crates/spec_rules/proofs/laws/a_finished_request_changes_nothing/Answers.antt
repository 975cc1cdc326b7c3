-- It is older, or answered again.
use Rattle.std.proofs.Common.{◌≡◌, ◌≤◌, ℕ, Bool, true, false, ◌==◌, ◌&&◌, Option, refl, ap, ◌∙◌, arith}
use Rattle.std.proofs.lemmas.Bool.Decides.{nat_tests}
use Rattle.std.specs.Prelude.{nat_lt, if◌then◌else◌}
use Rattle.petal_base.specs.Limits.{client_limit}
use Rattle.petal_msg.specs.declared.operation.Finished.{Finished}
use Rattle.spec_rules.specs.State.{is_lead}
use Rattle.spec_rules.specs.Server.{PairState, JobContext, silent}
use Rattle.spec_rules.specs.Writes.{Wanted, Older, Again, Newer, on_write, takes, standing}
use Rattle.spec_rules.proofs.laws.a_finished_request_changes_nothing.Goals as goal

equal : (a b : ℕ) → a ≤ b → nat_lt a b ≡ false → (a == b) ≡ true
equal a b le e = grind (arith, nat_tests)

kept : (here : JobContext) (own : PairState) (want : Wanted) (last : Finished) (lead older same : Bool) → (older ≡ false → same ≡ true)
    → (if lead then takes here own want (if older then Older else if same then Again last.ending else Newer) else silent own).own ≡ own
kept here own want last false older same h = refl
kept here own want last true true same h = refl
kept here own want last true false true h = refl
kept here own want last true false false h = let e = h refl in cc

pub returns : goal.returns
unfolding on_write
returns c here own want last is le =
    let takes_it : Bool = is_lead here.state here.me want.cell && nat_lt want.client client_limit in
    ap (λ (o : Option Finished). (if takes_it then takes here own want (standing o want.seq) else silent own).own) is
    ∙ kept here own want last takes_it (nat_lt want.seq last.seq) (want.seq == last.seq) (equal want.seq last.seq le)
