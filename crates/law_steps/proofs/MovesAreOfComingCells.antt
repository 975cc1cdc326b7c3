-- Entries that move are of cells whose region is on its way: an old lead sends them by the region that leaves its map, and a new lead opens an
-- operation at the letter's revision.
use Rattle.law_steps.proofs.Imports.{[], ◌&&◌, ◌==◌, ◌∙◌, ◌∷◌, ◌≡◌, Bool, Cell, Chain, Command, DiskRow, HasProperTuples, HasStage, In, JobContext, Key}
use Rattle.law_steps.proofs.Imports.{LinkRow, List, Move, None, Option, PairState, Post, Some, State, ap, at, both_true, by_test, cell_link, cell_of}
use Rattle.law_steps.proofs.Imports.{comes_before, comes_next, coming, earlier, false, filter, first_key, found_at, has_stage, id_of, in_filter, inl, inr}
use Rattle.law_steps.proofs.Imports.{is_fenced, is_link, is_on, is_the, kept_among, key_at, keys_in, keys_of, leaving, link_cmp, log_plain, map, move_region}
use Rattle.law_steps.proofs.Imports.{mover, next_fill, none_some, not_noted, noted, number_itself, option_and_then, option_map_or, range_with_len, refl}
use Rattle.law_steps.proofs.Imports.{region_leaving, region_of, region_on_way, region_to_move, row_lead, same_numbers, same_some, stage_at, state_after}
use Rattle.law_steps.proofs.Imports.{subst, sym, target, true, true_false, ℕ}
use Rattle.law_steps.specs.DidLead.{IsNextFill}
use Rattle.law_steps.proofs.CopiesRest.{on_row, row_named}
use Rattle.law_steps.proofs.TicksAskAgain.{in_flat_map}

-- ### The next key of a link

-- the region that is to be moved leaves the link's map
pub region_left : (state : State) (me : ℕ) (row : LinkRow) (region : ℕ) → region_to_move state me row ≡ Some region → region_leaving state row.map ≡ Some region
region_left state me row region =
    by_test (λ (o : Option ℕ). o ≡ Some region → region_leaving state row.map ≡ Some region) (is_the (row_lead state row) me)
    (not_noted state row (region_leaving state row.map)) None
    (λ leads. unnoted (region_leaving state row.map) refl) (λ other e. none_some refl e)
  where
    unnoted : (o : Option ℕ) → region_leaving state row.map ≡ o → not_noted state row o ≡ Some region → region_leaving state row.map ≡ Some region
    unnoted None e g = none_some refl g
    unnoted (Some r) e g =
        by_test (λ (o : Option ℕ). o ≡ Some region → region_leaving state row.map ≡ Some region) (noted state row.map r row.link) None (Some r)
        (λ t h. none_some refl h) (λ t h. e ∙ h) g

first_in : (keys : List Key) (key : Key) → first_key keys ≡ Some key → In key keys
unfolding In
first_in [] key e = none_some refl e
first_in (k ∷ keys) key e = by (first_key keys) (λ m is. first_in keys m is) e
  where
    by : (o : Option Key) → ((m : Key) → o ≡ Some m → In m keys) → Some (earlier k o) ≡ Some key → In key (k ∷ keys)
    by None rest f = inl (sym (same_some f))
    by (Some m) rest f = by_test (λ (x : Key). Some x ≡ Some key → In key (k ∷ keys)) (comes_before m k) m k
        (λ t g. inr (rest key g)) (λ t g. inl (sym (same_some g))) f

key_cell : (cell : Cell) (chain : Chain) (key : Key) → In key (map (λ row. key_at cell row.0) chain) → cell_of key ≡ cell
unfolding In
key_cell cell [] key h = absurd h
key_cell cell (row ∷ rows) key (inl e) = ap cell_of e
key_cell cell (row ∷ rows) key (inr h) = key_cell cell rows key h

-- it lies on the link, in the region
pub next_on : (state : State) (row : LinkRow) (region : ℕ) (own : PairState) (key : Key) → next_fill state row region own ≡ Some key
    → (is_on state row (cell_of key) ≡ true) × (region_of key.block ≡ region)
unfolding next_fill
next_on state row region own key e =
    let there = kept_among (comes_next region (at link_cmp own.filled (id_of row))) (keys_in state row region own) key (first_in _ key e) in
    let test : Cell × Chain → Bool = λ held. is_on state row held.0 && (region_of held.0.block == region) in
    let found = in_flat_map keys_of (filter test own.store.chains) key there in
    let so = both_true (is_on state row found.0.0) (region_of found.0.0.block == region) (in_filter test own.store.chains found.0 found.1).1 in
    let same : cell_of key ≡ found.0.0 = key_cell found.0.0 found.0.1 key found.2 in (
      ap (is_on state row) same ∙ so.0,
      ap (λ (c : Cell). region_of c.block) same ∙ same_numbers (region_of found.0.0.block) region so.1,
    )

-- ### Its cell leaves

-- a cell on a link is of the link's map
on_map : (state : State) (row : LinkRow) (cell : Cell) → is_on state row cell ≡ true → cell.map ≡ row.map
on_map state row cell on = by (cell_link state cell) refl on
  where
    itself : (r : LinkRow) → cell_link state cell ≡ Some r → is_on state r cell ≡ true
    itself r is = ap (λ o. option_map_or (is_link r.map r.link) o false) is ∙ (λ i. number_itself r.map i && number_itself r.link i)

    by : (o : Option LinkRow) → cell_link state cell ≡ o → option_map_or (is_link row.map row.link) o false ≡ true → cell.map ≡ row.map
    by None is e = true_false e refl
    by (Some r) is e =
        let same = both_true (r.map == row.map) (r.link == row.link) e in
        (on_row state (id_of r) r (row_named state cell r is) cell (itself r is)).1 ∙ same_numbers r.map row.map same.0

region_fenced : (moving : Option Move) (region : ℕ) → region_on_way moving ≡ Some region → is_fenced (move_region region moving) ≡ true
region_fenced None region e = none_some refl e
region_fenced (Some move) region e = (found_at (λ r. is_fenced (move_region r (Some move))) (range_with_len 0 16) region e).2

pub leaves_with : (state : State) (key : Key) (map region : ℕ) → key.map ≡ map → region_of key.block ≡ region → region_leaving state map ≡ Some region
    → leaving state (cell_of key) ≡ true
leaves_with state key map region map_is region_is = by (mover state map) refl
  where
    by : (o : Option DiskRow) → mover state map ≡ o → option_and_then (λ (row : DiskRow). region_on_way row.moving) o ≡ Some region
        → leaving state (cell_of key) ≡ true
    by None is e = none_some refl e
    by (Some row) is e =
        ap (λ of. option_map_or (λ (r : DiskRow). is_fenced (move_region (region_of key.block) r.moving)) (mover state of) false) map_is
        ∙ ap (λ o. option_map_or (λ (r : DiskRow). is_fenced (move_region (region_of key.block) r.moving)) o false) is
        ∙ ap (λ r. is_fenced (move_region r row.moving)) region_is ∙ region_fenced row.moving region e

-- ### The cell to which it goes comes

pub stage_facts : (servers : ℕ) (log : List Command) → HasProperTuples servers log → (cell : Cell) → HasStage (state_after servers log) cell
stage_facts servers log plain cell = let p = log_plain servers log plain in has_stage (state_after servers log) p.rows p.homes cell

pub next_comes : (servers : ℕ) (log : List Command) → HasProperTuples servers log → (here : JobContext) → here.state ≡ state_after servers log
    → (own : PairState) (post : Post)
    → (f : IsNextFill here own post) → coming (state_after servers log) f.cell ≡ true
next_comes servers log plain here state_is own post f =
    let state = state_after servers log in
    let next = next_on here.state f.row f.region own f.key f.next in
    let gone : leaving state (cell_of f.key) ≡ true =
    subst (λ (s : State). leaving s (cell_of f.key) ≡ true) state_is
    (leaves_with here.state f.key f.row.map f.region (on_map here.state f.row (cell_of f.key) next.0) next.1
    (region_left here.state here.me f.row f.region f.moves)) in
    let old = stage_facts servers log plain (cell_of f.key) in
    let twin = old.targets (old.leaves gone) in
    let same : twin.0 ≡ f.cell = same_some (sym twin.1 ∙ subst (λ (s : State). target s (cell_of f.key) ≡ Some f.cell) state_is f.goes_to) in
    (stage_facts servers log plain f.cell).came (subst (λ (c : Cell). stage_at state c ≡ 1) same twin.3.stage_is)
