-- A step that changes who is In, and the row of each link by itself: what is left to show of it where it keeps the tables plain.
use Rattle.law_state.proofs.Imports.{◌==◌, ◌∙◌, ◌≡◌, ◌≤◌, Cell, In, LinkRow, List, Member, Some, State, View, ap, both_true, cell_link, inl, inr, is_link}
use Rattle.law_state.proofs.Imports.{last_inc, length, link_at, link_of, map, none_some, option_and_then, option_map, same_numbers, slice_get, some_or_none}
use Rattle.law_state.proofs.Imports.{subst, sym, tuple_of, ℕ}
use Rattle.law_state.specs.Ages.{age_of}
use Rattle.law_state.specs.Homes.{stage_at}
use Rattle.law_state.specs.LinkRows.{IsHeldOn, IsLater, IsLostOn, IsServed, IsServedOn}
use Rattle.law_state.specs.Tables.{IsSettledState}
use Rattle.law_state.proofs.Ages.{no_less}
use Rattle.law_state.proofs.Fences.{Acted, AreQueued}
use Rattle.law_state.proofs.GrownStates.{grown_itself}
use Rattle.law_state.proofs.NewMapLinks.{in_map}
use Rattle.law_state.proofs.ListLookups.{find_map, found_at}

-- a row that is found is found by its own map and number
pub found_itself : (s : State) (map at : ℕ) (row : LinkRow) → link_at s.links map at ≡ Some row → link_at s.links row.map row.link ≡ Some row
found_itself s map at row e =
    let found = found_at (is_link map at) s.links row e in
    let h = both_true (row.map == map) (row.link == at) found.2 in
    (λ i. link_at s.links (same_numbers row.map map h.0 i) (same_numbers row.link at h.1 i)) ∙ e

-- a cell's link is that of its block among its map's
pub linked_at : (s : State) (cell : Cell) (row : LinkRow) → cell_link s cell ≡ Some row
    → (ids : List ℕ) × (tuple_of s.maps cell.map ≡ Some ids) × (link_at s.links cell.map (link_of (length ids) cell.block) ≡ Some row)
linked_at s cell row is = elim (some_or_none (tuple_of s.maps cell.map)) [
  | inl h ↦ (h.0, h.1, sym (ap (option_and_then (λ ids. link_at s.links cell.map (link_of (length ids) cell.block))) h.1) ∙ is)
  | inr none ↦ none_some (ap (option_and_then (λ ids. link_at s.links cell.map (link_of (length ids) cell.block))) none) is
]

-- the state after such a step
abbrev pub changed_by : State → View → (LinkRow → LinkRow) → State
changed_by s view f = record s { view = view; links = map f s.links }

-- who is In then, and each row that is found
pub record IsChange (servers : ℕ) (s t : State) (f : LinkRow → LinkRow) : Type 0 where
  pub many : length t.view.members ≡ servers
  pub members : (n : ℕ) (m : Member) → slice_get t.view.members n ≡ Some m → 1 ≤ last_inc m
  pub fences : AreQueued t
  pub ages : (n : ℕ) → age_of s n ≤ age_of t n
  pub served : (row : LinkRow) → link_at s.links row.map row.link ≡ Some row → IsServed s row → IsServed t (f row)
  pub on : (row : LinkRow) → IsServedOn s t row (f row)
  pub held : (row : LinkRow) → link_at s.links row.map row.link ≡ Some row → IsHeldOn s t row (f row)
  pub lost : (row : LinkRow) → link_at s.links row.map row.link ≡ Some row → IsLostOn row (f row)

module _ (servers : ℕ) (s : State) (p : IsSettledState servers s) (view : View) (f : LinkRow → LinkRow) (later : (row : LinkRow) → IsLater row (f row)) where
  abbrev t : State
  t = changed_by s view f

  pub link_changed : (map at : ℕ) → link_at t.links map at ≡ option_map f (link_at s.links map at)
  link_changed map at = find_map (is_link map at) (is_link map at) f s.links
      (λ row. let so = later row in λ i. is_link map at (record row { map = so.map i; link = so.link i }))

  found_changed : (row : LinkRow) → In row t.links → link_at t.links row.map row.link ≡ Some row
  found_changed row h =
      let was = in_map f s.links row h in
      let so = later was.0 in
      subst (λ r. link_at t.links r.map r.link ≡ Some r) (sym was.2)
      ((λ i. link_at t.links (so.map i) (so.link i)) ∙ link_changed was.0.map was.0.link ∙ ap (option_map f) (p.found was.0 was.1))

  pub changing : IsChange servers s t f → Acted servers s t
  changing c = record {
    plain = record {
      many = c.many;
      members = c.members;
      fences = c.fences;
      made = p.made;
      homes = λ of disk e. let h = p.homes of disk e in record { row = h.row; is = h.is; newest = h.newest };
      rows = p.rows;
      names = p.names;
      tuples = p.tuples;
      links = λ map at tuple e lt has.
          let old = p.links map at tuple e lt has in
          let so = later old.row in record {
            row = f old.row;
            is = link_changed map at ∙ ap (option_map f) old.is;
            asked = record {
              map = so.map ∙ old.asked.map;
              place = so.link ∙ old.asked.place;
              primary = so.primary ∙ old.asked.primary;
              secondary = so.secondary ∙ old.asked.secondary;
              served = c.served old.row (found_itself s map at old.row old.is) old.asked.served;
            };
          };
      unlinked = λ map at none. link_changed map at ∙ ap (option_map f) (p.unlinked map at none);
      found = found_changed;
    };
    grown = record {
      many = (grown_itself s).many;
      rows = λ i row e. let h = (grown_itself s).rows i row e in record { now = h.now; is = h.is; so = h.so };
      maps = λ map row e. e;
      links = λ map at row e. inl (record {
        now = f row;
        is = link_changed map at ∙ ap (option_map f) e;
        goes_on = record {
          so = later row;
          on = c.on row;
          held = c.held row (found_itself s map at row e);
          lost = c.lost row (found_itself s map at row e);
        };
      });
      stages = λ cell. no_less (stage_at s cell);
      ages = c.ages;
    };
  }
