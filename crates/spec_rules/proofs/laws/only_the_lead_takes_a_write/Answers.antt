-- By the first test of the rule.
use Rattle.std.proofs.Common.{◌≡◌, ◌≤◌, ◌&&◌, ℕ, Bool, true, false, refl, sym, ap, ◌∙◌, arith}
use Rattle.std.proofs.lemmas.Bool.Decides.{nat_tests}
use Rattle.std.specs.Prelude.{nat_lt, if◌then◌else◌}
use Rattle.std.specs.Ordering.{nat_cmp}
use Rattle.petal_base.specs.Limits.{client_limit}
use Rattle.petal_table.specs.Table.{at}
use Rattle.spec_rules.specs.State.{is_lead}
use Rattle.spec_rules.specs.Server.{JobContext, JobResult, PairState, silent}
use Rattle.spec_rules.specs.Writes.{Wanted, on_write, takes, standing}
use Rattle.spec_rules.proofs.laws.only_the_lead_takes_a_write.Goals as goal

none_below : (client : ℕ) → client_limit ≤ client → nat_lt client client_limit ≡ false
none_below client le = grind (arith, nat_tests, le)

untaken : (lead : Bool) (done other : JobResult) → (if lead && false then done else other) ≡ other
untaken true done other = refl
untaken false done other = refl

pub returns : goal.returns
unfolding on_write
returns c =
    let taken : (here : JobContext) (own : PairState) (want : Wanted) → JobResult =
    λ here own want. takes here own want (standing (at nat_cmp own.pairs.finished want.client) want.seq) in
    record {
      lead = λ here own want e. ap (λ b. if b && nat_lt want.client client_limit then taken here own want else silent own) e;
      writer = λ here own want le.
          ap (λ b. if is_lead here.state here.me want.cell && b then taken here own want else silent own) (none_below want.client le)
          ∙ untaken (is_lead here.state here.me want.cell) (taken here own want) (silent own);
    }
