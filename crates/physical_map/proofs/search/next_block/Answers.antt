use Rattle.std.proofs.Common.{◌≡◌, ◌==◌, true, false, get_or, sym, arith}
use Rattle.std.proofs.lemmas.Bool.Decides.{nat_tests}
use Rattle.physical_map.specs.declared.entry.Entry.{Entry}
use Rattle.physical_map.proofs.Nexts.{next-block_at, next-block_none}
use Rattle.physical_map.proofs.search.next_block.Goals.{else-at-entries-via-then-at-entries+else-entries-at, else-at-entries-via-else-at-entries}
use Rattle.physical_map.proofs.search.next_block.Goals as goal

abbrev first : Entry
first = record { key = record { map = 0; block = 0; epoch = 0 }; slot = 0; version = 0 }

pub returns-then-entries-at : goal.returns-then-entries-at
returns-then-entries-at c =
    let es = c.args.entries.now in
    let at = c.rank_of_block-at.result in
    let same : ((get_or es at first).key.map == c.args.map) ≡ true = grind (arith, nat_tests, c.if-entries-at.true) in
    let found = next-block_at c.args.map c.args.after es first at c.requires c.rank_of_block-at.ensures.rank c.if-at-entries.true in
    sym (rw same at found)

pub returns-else-at-entries : goal.returns-else-at-entries
returns-else-at-entries c =
    let es = c.args.entries.now in
    let at = c.rank_of_block-at.result in
    sym (elim c.else-at-entries.branch [
      | else-at-entries-via-then-at-entries+else-entries-at w ↦
          let other : ((get_or es at first).key.map == c.args.map) ≡ false = grind (arith, nat_tests, w.if-entries-at.false) in
          let found = next-block_at c.args.map c.args.after es first at c.requires c.rank_of_block-at.ensures.rank w.if-at-entries.true in
          rw other at found
      | else-at-entries-via-else-at-entries w ↦ next-block_none c.args.map c.args.after es at c.requires c.rank_of_block-at.ensures.rank w.if-at-entries.false
    ])
