use Rattle.std.proofs.Common.{◌≡◌, ◌-◌, true, false, Some, None, get_or, sym, ◌∙◌, refl, arith}
use Rattle.physical_map.specs.declared.entry.Entry.{Entry}
use Rattle.physical_map.specs.Keys.{sees}
use Rattle.physical_map.proofs.Searches.{newest-none, newest-last, seen_in}
use Rattle.physical_map.proofs.search.newest_of.Goals as goal

abbrev first : Entry
first = record { key = record { map = 0; block = 0; epoch = 0 }; slot = 0; version = 0 }

pub returns-then-following-eq0 : goal.returns-then-following-eq0
returns-then-following-eq0 c =
    sym (newest-none c.args.entries.now c.args.at.now c.requires (omega (arith, c.rank_after-following.ensures.rank, c.if-following-eq0.true)))

pub returns-then-is_seen : goal.returns-then-is_seen
returns-then-is_seen c =
    let es = c.args.entries.now in
    let n = c.rank_after-following.result - 1 in
    let e = get_or es n first in
    let seen : sees c.args.at.now e.key ≡ true = sym c.is_seen.ensures ∙ c.if-is_seen.true in
    let pick : seen_in c.args.at.now e ≡ Some e = rw seen refl in
    sym (newest-last es c.args.at.now n first c.requires (omega (arith, c.rank_after-following.ensures.rank, c.if-following-eq0.false)) ∙ pick)

pub returns-else-is_seen : goal.returns-else-is_seen
returns-else-is_seen c =
    let es = c.args.entries.now in
    let n = c.rank_after-following.result - 1 in
    let e = get_or es n first in
    let seen : sees c.args.at.now e.key ≡ false = sym c.is_seen.ensures ∙ c.if-is_seen.false in
    let pick : seen_in c.args.at.now e ≡ None = rw seen refl in
    sym (newest-last es c.args.at.now n first c.requires (omega (arith, c.rank_after-following.ensures.rank, c.if-following-eq0.false)) ∙ pick)
