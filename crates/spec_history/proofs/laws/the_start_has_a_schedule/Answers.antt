-- No promise, vote or letter stands anywhere, and each proposer is idle.
use Rattle.std.proofs.Common.{◌≡◌, ◌<◌, ℕ, [], ◌∷◌, true, Some, None, inl, inr, refl, arith}
use Rattle.std.specs.Prelude.{nat_lt}
use Rattle.std.proofs.lemmas.Bool.Decides.{nat_tests}
use Rattle.petal_command.specs.declared.ballot.Ballot.{Ballot}
use Rattle.petal_command.specs.declared.command.Command.{Command}
use Rattle.spec_paxos.specs.Member.{In}
use Rattle.spec_paxos.specs.declared.record.StateRecord.TheVariants.{Inc, Accepted}
use Rattle.spec_rules.specs.Lists.{In as Among}
use Rattle.spec_history.proofs.laws.the_start_has_a_schedule.Goals as goal

none_some : {A B : Type 0} {x : A} → None ≡ Some x → B
none_some e = absurd cc

below : (s n : ℕ) → s < n → nat_lt s n ≡ true
below s n h = grind (arith, nat_tests)

no_vote : {B : Type 0} (place : ℕ) (ballot : Ballot) (command : Command) → In (Accepted place ballot command) (Inc 1 ∷ []) → B
unfolding In
no_vote place ballot command (inl e) = let f : Accepted place ballot command ≡ Inc 1 = e in absurd cc
no_vote place ballot command (inr h) = absurd h

pub returns : goal.returns
unfolding In Among
returns c setting = record {
  events = [];
  is = record {
    acceptors = λ s place. refl;
    known = λ s place. refl;
    incs = λ s. refl;
    proposers = λ s h. (below s setting.servers h, tt);
    asked = λ s h. tt;
    votes = λ s place ballot command. (λ h. absurd h, λ h. no_vote place ballot command h);
    letters = λ letter from said h. absurd h;
    told = λ s place command is. none_some is;
    news = λ letter from i commands command h. absurd h;
  };
}
