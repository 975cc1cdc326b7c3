-- Tables of links, whose keys a server keeps as a type of its own.
use Rattle.std.proofs.Common.{◌≡◌, Bool, true, false, not, cond, [], ◌∷◌, filter, Some, refl, ap}
use Rattle.std.specs.declared.cmp.Ordering.{Ordering}
use Rattle.std.specs.declared.cmp.Ordering.TheVariants.{Less, Equal, Greater}
use Rattle.std.specs.Ordering.{nat_cmp, is_eq, match_ordering, ordering_then}
use Rattle.std.specs.BTreeMap.{insert_entry}
use Rattle.std.specs.Map.{keys_of}
use Rattle.std.specs.Cmp.{IsTotalOrder, nat_cmp_total}
use Rattle.std.specs.List.{AllByRecursion}
use Rattle.std.specs.List.Sorted.{IsStrictlySortedBy}
use Rattle.std.proofs.lemmas.Cmp.{on_total, then_total}
use Rattle.petal_msg.specs.declared.copying.LinkId.{LinkId}
use Rattle.petal_table.specs.Table.{Table, at, put, without}
use Rattle.spec_rules.specs.State.{link_cmp}
use Rattle.pair_memory.specs.declared.links.LinkKey.{LinkKey}
use Rattle.pair_memory.specs.Copies.{by_link, id_of_key, key_of}

abbrev pub key_cmp : LinkKey → LinkKey → Ordering
key_cmp a b = ordering_then (nat_cmp a.map b.map) (nat_cmp a.link b.link)

pub at_link : {X : Type 0} (rows : Table LinkKey X) (id : LinkId) → at link_cmp (by_link rows) id ≡ at key_cmp rows (key_of id)
unfolding at
at_link [] id = refl
at_link (row ∷ rows) id = ap (cond (is_eq (key_cmp (key_of id) row.0)) (Some row.1)) (at_link rows id)

pub put_link : {X : Type 0} (rows : Table LinkKey X) (id : LinkId) (value : X)
    → by_link (put key_cmp rows (key_of id) value) ≡ put link_cmp (by_link rows) id value
unfolding put
put_link [] id value = refl
put_link (row ∷ rows) id value =
    let later = put_link rows id value in
    elim (key_cmp (key_of id) row.0)
    as (λ o. by_link (match_ordering o ((key_of id, value) ∷ row ∷ rows) ((row.0, value) ∷ rows) (row ∷ insert_entry key_cmp rows (key_of id) value))
    ≡ match_ordering o ((id, value) ∷ by_link (row ∷ rows)) ((id_of_key row.0, value) ∷ by_link rows)
    ((id_of_key row.0, row.1) ∷ insert_entry link_cmp (by_link rows) id value)) [
      | Less ↦ refl
      | Equal ↦ refl
      | Greater ↦ ap (λ more. (id_of_key row.0, row.1) ∷ more) later
    ]

pub left_links : {X : Type 0} (test : LinkId → Bool) (rows : Table LinkKey X)
    → by_link (filter (λ row. test (id_of_key row.0)) rows) ≡ filter (λ row. test row.0) (by_link rows)
left_links test [] = refl
left_links test (row ∷ rows) =
    let later = left_links test rows in
    elim (test (id_of_key row.0)) as (λ b. by_link (cond b (row ∷ filter (λ r. test (id_of_key r.0)) rows) (filter (λ r. test (id_of_key r.0)) rows))
    ≡ cond b ((id_of_key row.0, row.1) ∷ filter (λ r. test r.0) (by_link rows)) (filter (λ r. test r.0) (by_link rows))) [
      | true ↦ ap (λ more. (id_of_key row.0, row.1) ∷ more) later
      | false ↦ later
    ]

pub without_link : {X : Type 0} (rows : Table LinkKey X) (id : LinkId) → by_link (without key_cmp rows (key_of id)) ≡ without link_cmp (by_link rows) id
unfolding without
without_link rows id = left_links (λ other. not (is_eq (link_cmp id other))) rows

above_links : {X : Type 0} (key : LinkKey) (rows : Table LinkKey X) → AllByRecursion (λ k. key_cmp key k ≡ Less) (keys_of rows)
    → AllByRecursion (λ k. link_cmp (id_of_key key) k ≡ Less) (keys_of (by_link rows))
above_links key [] h = h
above_links key (row ∷ rows) h = (h.0, above_links key rows h.1)

-- rows that rise by key rise by the links' names
pub sorted_links : {X : Type 0} (rows : Table LinkKey X) → IsStrictlySortedBy key_cmp (keys_of rows) → IsStrictlySortedBy link_cmp (keys_of (by_link rows))
unfolding IsStrictlySortedBy
sorted_links [] h = h
sorted_links (row ∷ rows) h = (above_links row.0 rows h.0, sorted_links rows h.1)

pub link_cmp_total : IsTotalOrder link_cmp
link_cmp_total = then_total (on_total (λ (id : LinkId). id.map) nat_cmp_total) (on_total (λ (id : LinkId). id.link) nat_cmp_total)
