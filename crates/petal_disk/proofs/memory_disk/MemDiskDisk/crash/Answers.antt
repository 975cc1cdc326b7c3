use Rattle.std.proofs.Common.{◌≡◌, List, ℕ, sym, ◌∙◌, ap, subst}
use Rattle.petal_disk.specs.Disk.{written}
use Rattle.petal_disk.specs.Mixes.{synced, LeftOf}
use Rattle.petal_disk.specs.Padded.{padded}
use Rattle.petal_disk.proofs.Padding.{within_padded, padded_put}
use Rattle.petal_disk.proofs.Synced.{only_now, left_synced}
use Rattle.petal_disk.proofs.memory_disk.MemDiskDisk.crash.Goals as goal

-- what was there is there again
back : (c : goal.After-self-1)
    → let old = c.args.self.now in padded c.put.new.file.items old.len ≡ synced (padded old.now.items old.len) old.low old.before.items
back c =
    let old = c.args.self.now in
    ap (λ (l : List ℕ). padded l old.len) c.put.ensures.items
    ∙ ap (λ (l : List ℕ). padded (written (padded old.now.items old.low) old.low l) old.len) c.deref.ensures.value
    ∙ padded_put old.now.items old.low old.before.items old.len old.within old.range_within

may : (c : goal.After-self-1) → let old = c.args.self.now in
    LeftOf (padded old.now.items old.len) old.low old.before.items (padded c.put.new.file.items old.len)
may c =
    let old = c.args.self.now in
    let file = padded old.now.items old.len in
    subst (LeftOf file old.low old.before.items) (sym (back c))
    (left_synced file old.low old.before.items (within_padded old.now.items old.len _ old.within old.range_within))

pub returns-clause-left : goal.returns-clause-left
returns-clause-left c _ = may c

pub returns-clause-kept : goal.returns-clause-kept
returns-clause-kept c _ left m = only_now _ c.args.self.now.low _ left c.clear.ensures.items m

pub returns-clause-crash : goal.returns-clause-crash
returns-clause-crash c left m =
    let old = c.args.self.now in
    subst (LeftOf (padded old.now.items old.len) old.low old.before.items) (sym (only_now _ old.low _ left c.clear.ensures.items m)) (may c)
