use Rattle.std.proofs.Common.{◌≡◌, [], length, sym, ◌∙◌, rules}
use Rattle.std.proofs.lemmas.List.{nil_from_length}
use Rattle.petal_disk.specs.Padded.{padded}
use Rattle.petal_disk.proofs.Synced.{synced_all}
use Rattle.petal_disk.proofs.memory_disk.MemDisk.place_range.Goals as goal

pub returns-then-is_empty-clause-synced : goal.returns-then-is_empty-clause-synced
returns-then-is_empty-clause-synced c =
    let old = c.args.self.now in
    let file = padded old.now.items old.len in
    let none : length old.before.items ≡ 0 = search rules in
    let nothing : old.before.items ≡ [] = nil_from_length old.before.items none in
    synced_all file c.args.at old.before.items nothing ∙ sym (synced_all file old.low old.before.items nothing)
