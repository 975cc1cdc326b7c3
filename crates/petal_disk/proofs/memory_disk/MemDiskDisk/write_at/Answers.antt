use Rattle.std.proofs.Common.{◌≡◌, ℕ, List, length, refl, ◌∙◌, ap}
use Rattle.petal_disk.specs.Disk.{written}
use Rattle.petal_disk.specs.Padded.{padded}
use Rattle.petal_disk.proofs.Padding.{within_padded, padded_put}
use Rattle.petal_disk.proofs.Writing.{Writes, torn_file, left_of_file}
use Rattle.petal_disk.proofs.memory_disk.MemDiskDisk.write_at.Goals as goal

file_is : (c : goal.After-self-1) → padded c.put.new.file.items c.open_range.new.self.len
    ≡ written (padded c.args.self.now.now.items c.args.self.now.len) c.args.at c.args.bytes.now
file_is c =
    let old = c.args.self.now in
    ap (λ (n : ℕ). padded c.put.new.file.items n) c.open_range.ensures.len
    ∙ ap (λ (l : List ℕ). padded l old.len) c.put.ensures.items
    ∙ ap (λ (v : _). padded (written (padded v.items c.args.at) c.args.at c.args.bytes.now) old.len) c.open_range.ensures.now
    ∙ padded_put old.now.items c.args.at c.args.bytes.now old.len old.within c.requires

writes : (c : goal.After-self-1) → let old = c.args.self.now in
    Writes c.args.at (length c.args.bytes.now) old.low c.open_range.new.self.low c.args.bytes.now (padded old.now.items old.len)
    (padded c.put.new.file.items c.open_range.new.self.len) old.before.items c.open_range.new.self.before.items
writes c = record {
  many = refl;
  fits = within_padded c.args.self.now.now.items c.args.self.now.len _ c.args.self.now.within c.requires;
  is = file_is c;
  same = c.open_range.ensures.synced;
  above = c.open_range.ensures.low;
  below = c.open_range.ensures.high;
}

pub returns-clause-written : goal.returns-clause-written
returns-clause-written c _ = file_is c

pub returns-clause-torn : goal.returns-clause-torn
returns-clause-torn c _ = torn_file (writes c)

pub returns-clause-crash : goal.returns-clause-crash
returns-clause-crash c = left_of_file (writes c)
