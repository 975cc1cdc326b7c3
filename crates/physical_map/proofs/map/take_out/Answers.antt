use Rattle.std.proofs.Common.{◌≡◌, true, false, List, arith, ◌∙◌, sym, ap}
use Rattle.std.proofs.lemmas.Bool.Decides.{nat_tests}
use Rattle.physical_map.specs.declared.entry.Entry.{Entry}
use Rattle.physical_map.proofs.Places.{rank, Found, entry-found, entry-absent, without-found, without-absent, ordered-without}
use Rattle.physical_map.proofs.map.take_out.Goals as goal

pub returns-clause-items : goal.returns-clause-items
returns-clause-items c =
    let es = c.args.entries.now.items in
    let key = c.args.key.now in
    let at : c.rank_of-at.result ≡ rank es key = c.rank_of-at.ensures.rank ∙ ap (λ (l : List Entry). rank l key) c.deref.ensures.value in
    let yes : c.is_same.result ≡ true = grind (arith, nat_tests) in
    let found : Found es key c.index.result.now c.rank_of-at.result =
    record { is = at; within = omega (arith, c.if-at-len.false, c.args.entries.now.ok); here = c.index.ensures; same = sym c.is_same.ensures ∙ yes } in
    c.remove.ensures.items ∙ without-found es key c.index.result.now c.rank_of-at.result found

pub returns-clause-order : goal.returns-clause-order
returns-clause-order c = rw (returns-clause-items c) (ordered-without c.args.entries.now.items c.args.key.now c.requires)

pub returns-clause-dropped : goal.returns-clause-dropped
returns-clause-dropped c =
    let es = c.args.entries.now.items in
    let key = c.args.key.now in
    let at : c.rank_of-at.result ≡ rank es key = c.rank_of-at.ensures.rank ∙ ap (λ (l : List Entry). rank l key) c.deref.ensures.value in
    let yes : c.is_same.result ≡ true = grind (arith, nat_tests) in
    let found : Found es key c.index.result.now c.rank_of-at.result =
    record { is = at; within = omega (arith, c.if-at-len.false, c.args.entries.now.ok); here = c.index.ensures; same = sym c.is_same.ensures ∙ yes } in
    entry-found es key c.index.result.now c.rank_of-at.result found

pub returns-then-at-len-clause-items : goal.returns-then-at-len-clause-items
returns-then-at-len-clause-items c =
    let es = c.args.entries.now.items in
    let key = c.args.key.now in
    let at : c.rank_of-at.result ≡ rank es key = c.rank_of-at.ensures.rank ∙ ap (λ (l : List Entry). rank l key) c.deref.ensures.value in
    let none : Entry = record { key = key; slot = 0; version = 0 } in
    without-absent es key none c.rank_of-at.result c.requires
    (record { is = at; other = λ within. absurd (omega (arith, c.if-at-len.true, c.args.entries.now.ok, c.len.ensures)) })

pub returns-then-at-len-clause-dropped : goal.returns-then-at-len-clause-dropped
returns-then-at-len-clause-dropped c =
    let es = c.args.entries.now.items in
    let key = c.args.key.now in
    let at : c.rank_of-at.result ≡ rank es key = c.rank_of-at.ensures.rank ∙ ap (λ (l : List Entry). rank l key) c.deref.ensures.value in
    let none : Entry = record { key = key; slot = 0; version = 0 } in
    entry-absent es key none c.rank_of-at.result c.requires
    (record { is = at; other = λ within. absurd (omega (arith, c.if-at-len.true, c.args.entries.now.ok, c.len.ensures)) })

pub returns-then-not-is_same-clause-items : goal.returns-then-not-is_same-clause-items
returns-then-not-is_same-clause-items c =
    let es = c.args.entries.now.items in
    let key = c.args.key.now in
    let at : c.rank_of-at.result ≡ rank es key = c.rank_of-at.ensures.rank ∙ ap (λ (l : List Entry). rank l key) c.deref.ensures.value in
    let no : c.is_same.result ≡ false = grind (arith, nat_tests) in
    without-absent es key c.index.result.now c.rank_of-at.result c.requires
    (record { is = at; other = λ within. (c.index.ensures, sym c.is_same.ensures ∙ no) })

pub returns-then-not-is_same-clause-dropped : goal.returns-then-not-is_same-clause-dropped
returns-then-not-is_same-clause-dropped c =
    let es = c.args.entries.now.items in
    let key = c.args.key.now in
    let at : c.rank_of-at.result ≡ rank es key = c.rank_of-at.ensures.rank ∙ ap (λ (l : List Entry). rank l key) c.deref.ensures.value in
    let no : c.is_same.result ≡ false = grind (arith, nat_tests) in
    entry-absent es key c.index.result.now c.rank_of-at.result c.requires (record { is = at; other = λ within. (c.index.ensures, sym c.is_same.ensures ∙ no) })
