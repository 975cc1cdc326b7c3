-- A Join of a server with an empty store makes a new place of each of the server's links: so at one place of a link each of its two
-- servers has one store.
use Rattle.law_copies.proofs.Imports.{[], if◌then◌else◌, ◌&&◌, ◌+◌, ◌<◌, ◌==◌, ◌∙◌, ◌∷◌, ◌≡◌, ◌≤◌, Cell, Command, HasProperTuples, IsPrefix, Join, LinkRow}
use Rattle.law_copies.proofs.Imports.{List, Setting, State, Store, after, ap, arith, blank_joins_from, blank_joins_in, both_true, by_bool, has_server, inl}
use Rattle.law_copies.proofs.Imports.{inr, joins_blank, joins_grow, joins_on, may_join, places_from, places_of_both, refl, same_numbers, slice_get}
use Rattle.law_copies.proofs.Imports.{state_after, sym, touches, true, true_false, ℕ}
use Rattle.spec_state.specs.State.{start}
use Rattle.law_copies.specs.Visits.{IsLinked, place_by, store_by}
use Rattle.law_copies.proofs.PlacesByPrefixes.{prefixes_meet, place_of_later}

-- the entry touches each link of the server
joins_touch : (s : State) (entry : Command) (n : ℕ) (row : LinkRow) → has_server n row ≡ true → joins_blank s entry n ≡ true
    → touches s entry row ≡ true
joins_touch s (Join server inc true) n row has e =
    let h = both_true (server == n) (may_join (slice_get s.view.members server) inc) e in
    let same = same_numbers server n h.0 in
    ap (λ b. b && has_server server row) h.1 ∙ ap (λ k. has_server k row) same ∙ has
joins_touch s _ n row has e = true_false e refl

joins_places : (s : State) (entries : List Command) (n : ℕ) (row : LinkRow) → has_server n row ≡ true
    → blank_joins_from s entries n ≤ places_from s entries row
joins_places s [] n row has = omega arith
joins_places s (entry ∷ entries) n row has =
    let rest = joins_places (after s entry) entries n row has in
    by_bool (joins_blank s entry n)
    (λ is.
    let one : blank_joins_from s (entry ∷ entries) n ≡ blank_joins_from (after s entry) entries n + 1 =
    ap (λ b. if b then blank_joins_from (after s entry) entries n + 1 else blank_joins_from (after s entry) entries n) is in
    let place : places_from s (entry ∷ entries) row ≡ places_from (after s entry) entries row + 1 =
    ap (λ b. if b then places_from (after s entry) entries row + 1 else places_from (after s entry) entries row)
    (joins_touch s entry n row has is) in
    omega arith)
    (λ off.
    let none : blank_joins_from s (entry ∷ entries) n ≡ blank_joins_from (after s entry) entries n =
    ap (λ b. if b then blank_joins_from (after s entry) entries n + 1 else blank_joins_from (after s entry) entries n) off in
    by_bool (touches s entry row)
    (λ t.
    let place : places_from s (entry ∷ entries) row ≡ places_from (after s entry) entries row + 1 =
    ap (λ b. if b then places_from (after s entry) entries row + 1 else places_from (after s entry) entries row) t in
    omega arith)
    (λ f.
    let place : places_from s (entry ∷ entries) row ≡ places_from (after s entry) entries row =
    ap (λ b. if b then places_from (after s entry) entries row + 1 else places_from (after s entry) entries row) f in
    omega arith))

module _ (setting : Setting) where
  -- between two prefixes, there are at least as many new places of the link
  pub joins_by_places : (prefix more : List Command) (row : LinkRow) (n : ℕ) → IsPrefix prefix more → has_server n row ≡ true
      → blank_joins_in setting more n + place_by setting prefix row ≤ blank_joins_in setting prefix n + place_by setting more row
  joins_by_places prefix more row n is_prefix has =
      let s = state_after setting.servers prefix in
      let places = places_of_both setting.servers prefix more row is_prefix in
      let joins : blank_joins_in setting more n ≡ blank_joins_in setting prefix n + blank_joins_from s is_prefix.later n =
      ap (λ log. blank_joins_from (start setting.servers) log n) is_prefix.is ∙ joins_on n (start setting.servers) prefix is_prefix.later in
      let le = joins_places s is_prefix.later n row has in
      omega arith

  module _ (whole : List Command) (plain : HasProperTuples setting.servers whole) where
    joins_at_up : (prefix more : List Command) (cell : Cell) (row now : LinkRow) (n : ℕ) → IsPrefix prefix more → IsPrefix more whole
        → IsLinked setting prefix cell row → IsLinked setting more cell now → has_server n row ≡ true
        → place_by setting prefix row ≡ place_by setting more now
        → blank_joins_in setting prefix n ≡ blank_joins_in setting more n
    joins_at_up prefix more cell row now n one two is end has same =
        let le = joins_by_places prefix more row n one has in
        let up = joins_grow setting.servers prefix more n one in
        let counted = place_of_later setting whole plain prefix more more cell row now one two is end in
        omega arith

    -- at one place of a link each of its servers has as many
    pub joins_at : (prefix more : List Command) (cell : Cell) (row now : LinkRow) (n : ℕ) → IsPrefix prefix whole → IsPrefix more whole
        → IsLinked setting prefix cell row → IsLinked setting more cell now → has_server n row ≡ true → has_server n now ≡ true
        → place_by setting prefix row ≡ place_by setting more now
        → blank_joins_in setting prefix n ≡ blank_joins_in setting more n
    joins_at prefix more cell row now n one two is end has has_now same = elim (prefixes_meet prefix more whole one two) [
      | inl p ↦ joins_at_up prefix more cell row now n p two is end has same
      | inr p ↦ sym (joins_at_up more prefix cell now row n p one end is has_now (sym same))
    ]

    -- and so one store
    pub store_at : (stores : ℕ → ℕ → Store) (prefix more : List Command) (cell : Cell) (row now : LinkRow) (n : ℕ) → IsPrefix prefix whole
        → IsPrefix more whole → IsLinked setting prefix cell row → IsLinked setting more cell now → has_server n row ≡ true
        → has_server n now ≡ true → place_by setting prefix row ≡ place_by setting more now
        → store_by setting stores prefix n ≡ store_by setting stores more n
    store_at stores prefix more cell row now n one two is end has has_now same =
        ap (stores n) (joins_at prefix more cell row now n one two is end has has_now same)

    -- with fewer of them a prefix is at an earlier place
    pub joins_earlier : (prefix more : List Command) (cell : Cell) (row now : LinkRow) (n : ℕ) → IsPrefix prefix whole → IsPrefix more whole
        → IsLinked setting prefix cell row → IsLinked setting more cell now → has_server n row ≡ true → has_server n now ≡ true
        → blank_joins_in setting prefix n < blank_joins_in setting more n → place_by setting prefix row < place_by setting more now
    joins_earlier prefix more cell row now n one two is end has has_now lt = elim (prefixes_meet prefix more whole one two) [
      | inl p ↦
          let le = joins_by_places prefix more row n p has in
          let counted = place_of_later setting whole plain prefix more more cell row now p two is end in
          omega arith
      | inr p ↦ let up = joins_grow setting.servers more prefix n p in absurd (omega arith)
    ]
