use Rattle.std.proofs.Common.{◌≡◌, List, arith, ◌∙◌, sym, ap, None, inl, inr}
use Rattle.std.proofs.lemmas.List.Sums.{prefix_len-le-length}
use Rattle.physical_map.specs.declared.entry.Entry.{Entry}
use Rattle.physical_map.specs.Entries.{key_of, slot_of}
use Rattle.physical_map.specs.Keys.{key_below}
use Rattle.physical_map.proofs.Orders.{ordered-placed}
use Rattle.physical_map.proofs.Places.{rank, Found, place-over, place-between, entry-found, entry-absent, slot-absent, some-none}
use Rattle.physical_map.proofs.map.place.Goals.{then-at-len+else-is_same, else-at-len}
use Rattle.physical_map.proofs.map.place.Goals as goal

pub returns-then-is_same-clause-items : goal.returns-then-is_same-clause-items
returns-then-is_same-clause-items c =
    let es = c.args.entries.now.items in
    let key = c.args.entry.key in
    let at : c.rank_of-at.result ≡ rank es key = c.rank_of-at.ensures.rank ∙ ap (λ (l : List Entry). rank l key) c.deref.ensures.value in
    let found : Found es key c.index.result.now c.rank_of-at.result = record {
      is = at;
      within = omega (arith, c.if-at-len.true, c.args.entries.now.ok);
      here = c.index.ensures;
      same = sym c.is_same.ensures ∙ c.if-is_same.true;
    } in
    place-over es c.args.entry c.index.result.now c.rank_of-at.result found

pub returns-then-is_same-clause-order : goal.returns-then-is_same-clause-order
returns-then-is_same-clause-order c =
    let es = c.args.entries.now.items in
    let key = c.args.entry.key in
    let at : c.rank_of-at.result ≡ rank es key = c.rank_of-at.ensures.rank ∙ ap (λ (l : List Entry). rank l key) c.deref.ensures.value in
    let found : Found es key c.index.result.now c.rank_of-at.result = record {
      is = at;
      within = omega (arith, c.if-at-len.true, c.args.entries.now.ok);
      here = c.index.ensures;
      same = sym c.is_same.ensures ∙ c.if-is_same.true;
    } in
    rw (place-over es c.args.entry c.index.result.now c.rank_of-at.result found) (ordered-placed key_of es c.args.entry c.requires.order)

pub returns-then-is_same-clause-replaced : goal.returns-then-is_same-clause-replaced
returns-then-is_same-clause-replaced c =
    let es = c.args.entries.now.items in
    let key = c.args.entry.key in
    let at : c.rank_of-at.result ≡ rank es key = c.rank_of-at.ensures.rank ∙ ap (λ (l : List Entry). rank l key) c.deref.ensures.value in
    let found : Found es key c.index.result.now c.rank_of-at.result = record {
      is = at;
      within = omega (arith, c.if-at-len.true, c.args.entries.now.ok);
      here = c.index.ensures;
      same = sym c.is_same.ensures ∙ c.if-is_same.true;
    } in
    entry-found es key c.index.result.now c.rank_of-at.result found

pub insert_reserved-requires-clause-at : goal.insert_reserved-requires-clause-at
insert_reserved-requires-clause-at c =
    let es = c.args.entries.now.items in
    let key = c.args.entry.key in
    let at : c.rank_of-at.result ≡ rank es key = c.rank_of-at.ensures.rank ∙ ap (λ (l : List Entry). rank l key) c.deref.ensures.value in
    omega (arith, at, prefix_len-le-length (λ (x : Entry). key_below x.key key) es, c.args.entries.now.ok)

pub insert_reserved-requires-clause-room : goal.insert_reserved-requires-clause-room
insert_reserved-requires-clause-room c =
    let es = c.args.entries.now.items in
    let key = c.args.entry.key in
    let at : c.rank_of-at.result ≡ rank es key = c.rank_of-at.ensures.rank ∙ ap (λ (l : List Entry). rank l key) c.deref.ensures.value in
    let none : None ≡ slot_of es key = elim c.if-at-len.branch [
      | then-at-len+else-is_same w ↦ slot-absent es key w.index.result.now c.rank_of-at.result c.requires.order
          (record { is = at; other = λ within. (w.index.ensures, sym w.is_same.ensures ∙ w.if-is_same.false) })
      | else-at-len w ↦ slot-absent es key c.args.entry c.rank_of-at.result c.requires.order
          (record { is = at; other = λ within. absurd (omega (arith, w.if-at-len.false, c.args.entries.now.ok, c.len.ensures)) })
    ] in
    elim c.requires.room [ inl room ↦ room | inr some ↦ absurd (some-none (slot_of es key) none some) ]

pub returns-clause-items : goal.returns-clause-items
returns-clause-items c =
    let es = c.args.entries.now.items in
    let key = c.args.entry.key in
    let at : c.rank_of-at.result ≡ rank es key = c.rank_of-at.ensures.rank ∙ ap (λ (l : List Entry). rank l key) c.deref.ensures.value in
    c.insert_reserved.ensures.items ∙ (elim c.if-at-len.branch [
      | then-at-len+else-is_same w ↦ place-between es c.args.entry w.index.result.now c.rank_of-at.result
          (record { is = at; other = λ within. (w.index.ensures, sym w.is_same.ensures ∙ w.if-is_same.false) })
      | else-at-len w ↦ place-between es c.args.entry c.args.entry c.rank_of-at.result
          (record { is = at; other = λ within. absurd (omega (arith, w.if-at-len.false, c.args.entries.now.ok, c.len.ensures)) })
    ])

pub returns-clause-order : goal.returns-clause-order
returns-clause-order c = rw (returns-clause-items c) (ordered-placed key_of c.args.entries.now.items c.args.entry c.requires.order)

pub returns-clause-replaced : goal.returns-clause-replaced
returns-clause-replaced c =
    let es = c.args.entries.now.items in
    let key = c.args.entry.key in
    let at : c.rank_of-at.result ≡ rank es key = c.rank_of-at.ensures.rank ∙ ap (λ (l : List Entry). rank l key) c.deref.ensures.value in
    elim c.if-at-len.branch [
      | then-at-len+else-is_same w ↦ entry-absent es key w.index.result.now c.rank_of-at.result c.requires.order
          (record { is = at; other = λ within. (w.index.ensures, sym w.is_same.ensures ∙ w.if-is_same.false) })
      | else-at-len w ↦ entry-absent es key c.args.entry c.rank_of-at.result c.requires.order
          (record { is = at; other = λ within. absurd (omega (arith, w.if-at-len.false, c.args.entries.now.ok, c.len.ensures)) })
    ]
