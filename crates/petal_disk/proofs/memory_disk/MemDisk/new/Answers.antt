use Rattle.std.proofs.Common.{◌≡◌, replicate, ℕ, List, ap, [], ◌-◌, ◌∙◌, arith, rules}
use Rattle.petal_disk.specs.Padded.{padded}
use Rattle.petal_disk.proofs.Synced.{only_now}
use Rattle.petal_disk.proofs.memory_disk.MemDisk.new.Goals as goal

pub returns-clause-crash : goal.returns-clause-crash
returns-clause-crash c left m =
    let now : c.in_ok-with_capacity.field-0.items ≡ [] = search rules in
    let before : c.in_ok-with_capacity-2.field-0.items ≡ [] = search rules in
    only_now (padded c.in_ok-with_capacity.field-0.items c.args.len) 0 _ left before m
    ∙ ap (λ (l : List ℕ). padded l c.args.len) now
    ∙ ap (λ (k : ℕ). replicate k 0) (let e : c.args.len - 0 ≡ c.args.len = omega arith in e)
