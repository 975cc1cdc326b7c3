use Rattle.std.proofs.Common.{◌≡◌, ◌∙◌, ℕ, max, sym, ap, arith}
use Rattle.physical_map.specs.Entries.{top_of, without_key}
use Rattle.physical_map.specs.Replaced.{slot_in, version_in}
use Rattle.physical_map.proofs.Places.{slot-of_entry}
use Rattle.physical_map.proofs.Tops.{top-parted}
use Rattle.physical_map.proofs.map.PhysicalMap.drop_key.Goals as goal

pub invariant_of-self : goal.invariant_of-self
invariant_of-self c =
    let es = c.self.inside.entries.items in
    let rest = top_of (without_key es c.args.key) in
    let gone = c.version_in.ensures ∙ ap version_in c.take_out-dropped.ensures.dropped in
    let before : c.self.inside.top ≡ max c.version_in.result rest = c.self.invariant.greatest ∙ top-parted es c.args.key
    ∙ ap (λ (n : ℕ). max n rest) (sym gone) in
    let left : top_of c.deref.result.now ≡ rest = ap top_of (c.deref.ensures.value ∙ c.take_out-dropped.ensures.items) in
    record {
      order = c.take_out-dropped.ensures.order;
      greatest = c.top_after-self-inside.ensures rest before (omega (arith, left)) ∙ ap top_of c.deref.ensures.value;
    }

pub returns-clause-dropped : goal.returns-clause-dropped
returns-clause-dropped c =
    rw (← c.self.view_is) (c.slot_in.ensures ∙ ap slot_in c.take_out-dropped.ensures.dropped ∙ slot-of_entry c.self.inside.entries.items c.args.key)
