use Rattle.std.proofs.Common.{◌≡◌, ◌∙◌, ℕ, max, sym, ap}
use Rattle.physical_map.specs.Entries.{top_of, without_key}
use Rattle.physical_map.specs.Replaced.{slot_in, version_in}
use Rattle.physical_map.proofs.Places.{slot-of_entry}
use Rattle.physical_map.proofs.Tops.{top-parted, top-placed}
use Rattle.physical_map.proofs.map.PhysicalMap.put.Goals as goal

pub invariant_of-self : goal.invariant_of-self
invariant_of-self c =
    let es = c.self.inside.entries.items in
    let e = c.args.entry in
    let rest = top_of (without_key es e.key) in
    let gone = c.version_in.ensures ∙ ap version_in c.place-replaced.ensures.replaced in
    let before : c.self.inside.top ≡ max c.version_in.result rest = c.self.invariant.greatest ∙ top-parted es e.key ∙ ap (λ (n : ℕ). max n rest) (sym gone) in
    let after : top_of c.deref.result.now ≡ max e.version rest = ap top_of (c.deref.ensures.value ∙ c.place-replaced.ensures.items)
    ∙ top-placed es e c.self.invariant.order in
    record {
      order = c.place-replaced.ensures.order;
      greatest = c.top_after-self-inside.ensures rest before after ∙ ap top_of c.deref.ensures.value;
    }

pub returns-clause-replaced : goal.returns-clause-replaced
returns-clause-replaced c =
    rw (← c.self.view_is) (c.slot_in.ensures ∙ ap slot_in c.place-replaced.ensures.replaced ∙ slot-of_entry c.self.inside.entries.items c.args.entry.key)
