use Rattle.std.proofs.Common.{◌≡◌, ◌≤◌, ◌+◌, ◌-◌, ℕ, length, replicate, min, ◌∙◌, ap, arith, rules}
use Rattle.std.proofs.lemmas.List.{length-replicate}
use Rattle.petal_disk.specs.Disk.{written}
use Rattle.petal_disk.specs.Padded.{padded}
use Rattle.petal_disk.proofs.Padding.{within_padded, padded_written, zeros_written}
use Rattle.petal_disk.proofs.Struck.{torn_more, follows_more}
use Rattle.petal_disk.proofs.Writing.{Writes, torn_file, left_of_file}
use Rattle.petal_disk.proofs.memory_disk.MemDiskDisk.write_zeros.Goals as goal

begins : (c : goal.After-self-1) → c.args.at ≤ length c.args.self.now.now.items
begins c = search rules

-- how many zeros are written
many_is : (c : goal.After-self-1) → c.min-there.result ≡ min c.args.n (length c.args.self.now.now.items - c.args.at)
many_is c = search rules

there_is : (c : goal.After-self-1) → padded c.put_zeros.new.file.items c.open_range.new.self.len
    ≡ padded (written c.args.self.now.now.items c.args.at (replicate c.min-there.result 0)) c.args.self.now.len
there_is c =
    ap (λ (n : ℕ). padded c.put_zeros.new.file.items n) c.open_range.ensures.len
    ∙ ap (λ (l : _). padded l c.args.self.now.len) c.put_zeros.ensures.items
    ∙ ap (λ (v : _). padded (written v.items c.args.at (replicate c.min-there.result 0)) c.args.self.now.len) c.open_range.ensures.now

writes : (c : goal.After-self-1) → let old = c.args.self.now in
    Writes c.args.at c.min-there.result old.low c.open_range.new.self.low (replicate c.min-there.result 0) (padded old.now.items old.len)
    (padded c.put_zeros.new.file.items c.open_range.new.self.len) old.before.items c.open_range.new.self.before.items
writes c =
    let old = c.args.self.now in
    let many = length-replicate {A = ℕ} c.min-there.result 0 in
    let fits : c.args.at + c.min-there.result ≤ old.len = omega (arith, many_is c, c.requires) in
    record {
      many = many;
      fits = within_padded old.now.items old.len _ old.within fits;
      is = there_is c ∙ padded_written old.now.items c.args.at _ old.len (begins c) old.within (omega (arith, many, fits));
      same = c.open_range.ensures.synced;
      above = c.open_range.ensures.low;
      below = c.open_range.ensures.high;
    }

pub returns-clause-written : goal.returns-clause-written
returns-clause-written c _ =
    let old = c.args.self.now in
    there_is c ∙ zeros_written old.now.items c.args.at c.args.n c.min-there.result old.len c.requires old.within (begins c) (many_is c)

fewer : (c : goal.After-self-1) → c.min-there.result ≤ c.args.n
fewer c = omega (arith, many_is c)

pub returns-clause-torn : goal.returns-clause-torn
returns-clause-torn c _ = torn_more c.args.at c.min-there.result c.args.n _ _ (fewer c) (torn_file (writes c))

pub returns-clause-crash : goal.returns-clause-crash
returns-clause-crash c = follows_more c.args.at c.min-there.result c.args.n _ _ (fewer c) (left_of_file (writes c))
