-- Letters that tell of a busy block, and of a request that is held back.
use Rattle.law_steps.proofs.Imports.{◌≡◌, ℕ}
use Rattle.petal_msg.specs.declared.body.Body.TheVariants as body

pub busy_seq : {seq other : ℕ} → body.BlockBusy seq ≡ body.BlockBusy other → seq ≡ other
busy_seq e = cc

pub held_seq : {seq other : ℕ} → body.Held seq ≡ body.Held other → seq ≡ other
held_seq e = cc

pub busy_not_held : {B : Type 0} {seq other : ℕ} → body.BlockBusy seq ≡ body.Held other → B
busy_not_held e = absurd cc

pub held_not_busy : {B : Type 0} {seq other : ℕ} → body.Held seq ≡ body.BlockBusy other → B
held_not_busy e = absurd cc
