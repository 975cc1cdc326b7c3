use Rattle.std.proofs.Common.{◌<◌, length, get_or, sym, ◌∙◌, arith}
use Rattle.std.proofs.lemmas.List.{get_or_default}
use Rattle.physical_map.specs.declared.entry.Entry.{Entry}
use Rattle.physical_map.proofs.Places.{slot-found, slot-absent}
use Rattle.physical_map.proofs.search.slot.Goals.{else-at-entries-via-then-at-entries+else-is_same, else-at-entries-via-else-at-entries}
use Rattle.physical_map.proofs.search.slot.Goals as goal

abbrev first : Entry
first = record { key = record { map = 0; block = 0; epoch = 0 }; slot = 0; version = 0 }

pub returns-then-is_same : goal.returns-then-is_same
returns-then-is_same c =
    let es = c.args.entries.now in
    let at = c.rank_of-at.result in
    let e = get_or es at first in
    let within : at < length es = c.if-at-entries.true in
    slot-found es c.args.key.now e at (record {
      is = c.rank_of-at.ensures.rank;
      within = within;
      here = get_or_default es at first e within;
      same = sym c.is_same.ensures ∙ c.if-is_same.true;
    })

pub returns-else-at-entries : goal.returns-else-at-entries
returns-else-at-entries c =
    let es = c.args.entries.now in
    let at = c.rank_of-at.result in
    let e = get_or es at first in
    slot-absent es c.args.key.now e at c.requires (record {
      is = c.rank_of-at.ensures.rank;
      other = λ within. (
        get_or_default es at first e within,
        elim c.else-at-entries.branch [
          | else-at-entries-via-then-at-entries+else-is_same w ↦ sym w.is_same.ensures ∙ w.if-is_same.false
          | else-at-entries-via-else-at-entries w ↦ absurd (omega (arith, w.if-at-entries.false, within))
        ],
      );
    })
