use Rattle.std.proofs.Common.{List, ap, sym, subst, ◌∙◌}
use Rattle.physical_map.specs.declared.entry.Entry.{Entry}
use Rattle.physical_map.specs.Entries.{key_of}
use Rattle.physical_map.specs.Keys.{IsInOrder}
use Rattle.physical_map.proofs.Parts.{order-drop}
use Rattle.redistribute.specs.Swept.{first_retired}
use Rattle.redistribute.proofs.Rests.{passed, up_to}
use Rattle.redistribute.proofs.search.rest_after.Goals as goal

pub returns-then-is_live_map-clause-first : goal.returns-then-is_live_map-clause-first
returns-then-is_live_map-clause-first c =
    let state = c.args.state.now in
    ap (λ (es : List Entry). first_retired state es) c.above_map.ensures
    ∙ passed state c.args.entry.now.key c.args.later.now
    (c.is_live_map.ensures.live (sym c.is_live_map.ensures.value ∙ c.if-is_live_map.true)) c.requires.0

pub returns-then-is_live_map-clause-order : goal.returns-then-is_live_map-clause-order
returns-then-is_live_map-clause-order c =
    subst (λ (es : List Entry). IsInOrder key_of es) (sym c.above_map.ensures)
    (order-drop (up_to c.args.entry.now.key.map c.args.later.now) c.args.later.now c.requires.1)
