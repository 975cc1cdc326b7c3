use Rattle.std.proofs.Common.{sym, ◌∙◌}
use Rattle.spec_rules.specs.State.{live}
use Rattle.redistribute.specs.Swept.{retired_marks}
use Rattle.redistribute.proofs.RetiredMarks.{fewer_maps, first_on, map_hit, map_none, map_on, none_on}
use Rattle.redistribute.proofs.search.retired_cell.Goals as goal

pub returns-in-Some-retired_block : goal.returns-in-Some-retired_block
returns-in-Some-retired_block g c =
    let ms = c.args.store.now.marks in
    let found = sym c.retired_block.ensures ∙ c.in-Some-retired_block.is in
    let hit = map_hit (live c.args.state.now) c.loop-map.after ms c.in-Some.map c.in-Some-retired_block.block
    (sym c.next_marked_map.ensures ∙ c.in-Some.is) found in
    sym (first_on (retired_marks c.args.state.now ms) c.in-Some.map c.in-Some-retired_block.block (sym c.loop-map.invariant ∙ hit) found)

pub loop-map-smaller : goal.loop-map-smaller
loop-map-smaller g c = fewer_maps c.loop-map.after c.args.store.now.marks c.in-Some.map (sym c.next_marked_map.ensures ∙ c.in-Some.is)

pub loop-map-preserved : goal.loop-map-preserved
loop-map-preserved g c =
    map_on (live c.args.state.now) c.loop-map.after c.args.store.now.marks c.in-Some.map
    (sym c.next_marked_map.ensures ∙ c.in-Some.is) (sym c.retired_block.ensures ∙ c.in_default-retired_block.is)
    ∙ c.loop-map.invariant

pub returns : goal.returns
returns g c =
    let ms = c.args.store.now.marks in
    let none = map_none (live c.args.state.now) c.loop-map.after ms (sym c.next_marked_map.ensures ∙ c.in_default.is) in
    sym (none_on (retired_marks c.args.state.now ms) (sym c.loop-map.invariant ∙ none))
