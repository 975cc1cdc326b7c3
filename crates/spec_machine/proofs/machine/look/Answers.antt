-- The disk stands at its place.
use Rattle.std.proofs.Common.{◌≡◌, List, ℕ, sym, ap, ◌∙◌}
use Rattle.std.specs.Cmp.Lexicographic.{told_text}
use Rattle.petal_table.specs.Table.{Table}
use Rattle.spec_machine.specs.declared.state.PlainDisk.{PlainDisk}
use Rattle.spec_machine.specs.Machine.{is_named, blocks_of, content}
use Rattle.spec_machine.proofs.Places.{found, not_found, same_some, match_bool_map}
use Rattle.spec_machine.proofs.machine.look.Goals as goal

pub returns-in_default : goal.returns-in_default
returns-in_default c h = let e = not_found (is_named c.args.name.now) c.args.disks.now (sym c.in_default.is ∙ c.place_of.ensures) in let f = h.known.is in cc

pub returns-in-None : goal.returns-in-None
returns-in-None c h =
    let at = found (is_named c.args.name.now) c.args.disks.now c.in-Some.place c.index-disks-place.result (sym c.in-Some.is ∙ c.place_of.ensures) in
    let same : c.index-disks-place.result ≡ h.known.disk = c.index-disks-place.is ∙ same_some (sym at ∙ h.known.is) in
    let e = c.in-None.ensures ∙ ap (λ (d : PlainDisk). blocks_of d c.args.snap.now) same ∙ h.is in cc

pub returns-in-Some-shown : goal.returns-in-Some-shown
returns-in-Some-shown c =
    let at = found (is_named c.args.name.now) c.args.disks.now c.in-Some.place c.index-disks-place.result (sym c.in-Some.is ∙ c.place_of.ensures) in
    match_bool_map c.eq.result (told_text _ _ c.eq.result c.eq.ensures)
    (λ same. record {
      known = record { disk = _; is = at };
      blocks = _;
      is = ap (λ (d : PlainDisk). blocks_of d c.args.snap.now) (sym c.index-disks-place.is) ∙ sym c.in-Some-shown.ensures;
      has = sym c.content.ensures ∙ same;
    })
    (λ other h.
    let own : c.index-disks-place.result ≡ h.known.disk = c.index-disks-place.is ∙ same_some (sym at ∙ h.known.is) in
    let blocks : c.in-Some-shown.blocks.now ≡ h.blocks = same_some (c.in-Some-shown.ensures ∙ ap (λ (d : PlainDisk). blocks_of d c.args.snap.now) own ∙ h.is) in
    other (c.content.ensures ∙ ap (λ (t : Table ℕ (List ℕ)). content t c.args.block) blocks ∙ h.has))
