-- What an entry that a server applies leaves of the server's own part: nothing of a cell that it touches or ends, all of another one.
use Rattle.law_copies.proofs.Imports.{◌&&◌, ◌<◌, ◌||◌, ◌∙◌, ◌≡◌, ◌≤◌, Bool, Cell, Command, Copies, Copying, LastCopy, LinkId, LinkRow, None, Option}
use Rattle.law_copies.proofs.Imports.{PairState, Pairs, Progress, Some, State, Table, after, ap, arith, at, at-where, by_bool, cell_at, cell_cmp}
use Rattle.law_copies.proofs.Imports.{cell_cmp_same, cell_link, chain_in, cond, copying_on, crossed, dies, either_false, ends_cell, ends_link, false, filter}
use Rattle.law_copies.proofs.Imports.{has_mark, id_of, inl, is_eq, is_none, last_copy, link_cmp, link_named, live, live_stage, mark_on, no_progress}
use Rattle.law_copies.proofs.Imports.{none_some, not, option_map_or, progress_on, refl, row_named, same_id, stage_at, stage_live, sym, touches, touches_cell}
use Rattle.law_copies.proofs.Imports.{touches_link, true, true_false, unwrap_or, ℕ}
use Rattle.law_copies.specs.GoodCopies.{IsUnheard}
use Rattle.law_copies.specs.LoneSteps.{IsBare, KeepsCell}
use Rattle.law_copies.proofs.NewcomersRememberNothing.{IsFresh}
use Rattle.law_copies.proofs.CopiesGoOn.{IsOnward, onward_by}
use Rattle.law_copies.proofs.HolderPace.{IsPaced}

-- ### What an entry leaves of a server's own part

-- all that concerns the cell and its link is as before
pub record KeepsAll (own to : PairState) (row : LinkRow) (cell : Cell) : Type 0 where
  pub keeps : KeepsCell cell own to
  pub next : to.pairs.next ≡ own.pairs.next
  pub pages : at link_cmp to.copies.progress (id_of row) ≡ at link_cmp own.copies.progress (id_of row)
  -- and no copy is new
  pub copies : (q : Cell) (copy : Copying) → copying_on to q ≡ Some copy → copying_on own q ≡ Some copy

-- the copies of the link go on by that
pub keeps_onward : (links : ℕ) (own to : PairState) (row : LinkRow) (cell : Cell) → KeepsAll own to row cell
    → IsPaced row own to × IsOnward links row cell own to
keeps_onward links own to row cell all =
    let paced : IsPaced row own to = record {
      paged = ap (λ p. (unwrap_or p no_progress).paged) all.pages;
      after = ap (λ p. (unwrap_or p no_progress).after) all.pages;
      flag = ap (λ p. option_map_or (λ (x : Progress). x.caught) p false) all.pages;
    } in (
      paced,
      onward_by links row cell own to paced (ap (λ p. (unwrap_or p no_progress).copied) all.pages)
          (λ later copy lt on is. inl (copy, all.copies (cell_at row later) copy is)),
    )

-- an entry leaves this of a server's part, whose chains and marks stay as they are
pub record IsCrossed (state : State) (entry : Command) (old new : PairState) : Type 0 where
  pub pairs : new.pairs ≡ (crossed state entry old).pairs
  pub copies : new.copies ≡ (crossed state entry old).copies
  pub chains : new.store.chains ≡ old.store.chains
  pub marks : new.store.marks ≡ old.store.marks

cond_none : {X : Type 0} (b : Bool) (o : Option X) → o ≡ None → cond b o None ≡ None
cond_none true o none = none
cond_none false o none = refl

-- a cell that is not retired with the entry doesn't die by it
pub lives_on : (state : State) (entry : Command) (cell : Cell) → stage_at state cell ≤ stage_at (after state entry) cell
    → stage_at (after state entry) cell < 4 → dies state entry cell ≡ false
lives_on state entry cell up alive = by_bool (live state cell)
    (λ on.
    let born = (live_stage state cell on).0 in
    let lives_then : live (after state entry) cell ≡ true = stage_live (after state entry) cell (omega arith) alive in
    ap (λ b. live state cell && not b) lives_then ∙ ap (λ b. b && false) on)
    (λ off. ap (λ b. b && not (live (after state entry) cell)) off)

-- one that is live and doesn't die is live then
live_then : (state : State) (entry : Command) (cell : Cell) → dies state entry cell ≡ false → live state cell ≡ true
    → live (after state entry) cell ≡ true
live_then state entry cell stays on = by_bool (live (after state entry) cell) (λ t. t)
    (λ off. true_false (ap (λ b. live state cell && not b) off ∙ ap (λ b. b && true) on) stays)

module _ (state : State) (entry : Command) (own : PairState) where
  cells_left : {X : Type 0} (t : Table Cell X) (cell : Cell)
      → at cell_cmp (filter (λ row. not (ends_cell state entry row.0)) t) cell ≡ cond (not (ends_cell state entry cell)) (at cell_cmp t cell) None
  cells_left t cell = at-where cell_cmp t (λ k. not (ends_cell state entry k)) cell
      (λ k tie. ap (λ q. not (ends_cell state entry q)) (sym (cell_cmp_same cell k tie)))

  links_left : (id : LinkId) → at link_cmp (crossed state entry own).copies.progress id ≡ cond (not (ends_link state entry id))
      (at link_cmp own.copies.progress id) None
  links_left id = at-where link_cmp own.copies.progress (λ k. not (ends_link state entry k)) id
      (λ k tie. ap (λ q. not (ends_link state entry q)) (sym (same_id id k (ap is_eq tie))))

  cell_gone : {X : Type 0} (t : Table Cell X) (cell : Cell) → ends_cell state entry cell ≡ true
      → at cell_cmp (filter (λ row. not (ends_cell state entry row.0)) t) cell ≡ None
  cell_gone t cell on = cells_left t cell ∙ ap (λ b. cond (not b) (at cell_cmp t cell) None) on

  cell_stays : {X : Type 0} (t : Table Cell X) (cell : Cell) → ends_cell state entry cell ≡ false
      → at cell_cmp (filter (λ row. not (ends_cell state entry row.0)) t) cell ≡ at cell_cmp t cell
  cell_stays t cell off = cells_left t cell ∙ ap (λ b. cond (not b) (at cell_cmp t cell) None) off

  -- what was not there is not
  pub cell_never : {X : Type 0} (t : Table Cell X) (cell : Cell) → at cell_cmp t cell ≡ None
      → at cell_cmp (filter (λ row. not (ends_cell state entry row.0)) t) cell ≡ None
  cell_never t cell none = cells_left t cell ∙ cond_none (not (ends_cell state entry cell)) (at cell_cmp t cell) none

  pub link_never : (row : LinkRow) → progress_on own row ≡ no_progress → progress_on (crossed state entry own) row ≡ no_progress
  link_never row none =
      ap (λ o. unwrap_or o no_progress) (links_left (id_of row)) ∙ either (not (ends_link state entry (id_of row)))
    where
      either : (b : Bool) → unwrap_or (cond b (at link_cmp own.copies.progress (id_of row)) None) no_progress ≡ no_progress
      either true = none
      either false = refl

  -- what is left was there, and the cell doesn't die
  cell_left : {X : Type 0} (t : Table Cell X) (q : Cell) (x : X) → at cell_cmp (filter (λ row. not (ends_cell state entry row.0)) t) q ≡ Some x
      → (at cell_cmp t q ≡ Some x) × (ends_cell state entry q ≡ false)
  cell_left t q x is = by_bool (ends_cell state entry q)
      (λ on. none_some (cell_gone t q on) is)
      (λ off. (sym (cell_stays t q off) ∙ is, off))

  copy_left : (q : Cell) (copy : Copying) → copying_on (crossed state entry own) q ≡ Some copy → copying_on own q ≡ Some copy
  copy_left q copy is = (cell_left own.copies.pending q copy is).0

  -- a last copy that is left is of a cell that is live then
  pub last_left : ((q : Cell) (last : LastCopy) → last_copy own q ≡ Some last → live state q ≡ true) → (q : Cell) (last : LastCopy)
      → last_copy (crossed state entry own) q ≡ Some last → live (after state entry) q ≡ true
  last_left copied q last is =
      let was = cell_left own.copies.last q last is in
      live_then state entry q (either_false (touches_cell state entry q) (dies state entry q) was.1).1 (copied q last was.0)

  -- a cell that the entry touches is new to it
  pub touched_fresh : (cell : Cell) (row : LinkRow) → cell_link state cell ≡ Some row → touches state entry row ≡ true
      → IsFresh (crossed state entry own) row cell
  touched_fresh cell row is on =
      let touched : touches_cell state entry cell ≡ true = ap (λ o. option_map_or (touches state entry) o false) is ∙ on in
      let link : touches_link state entry (id_of row) ≡ true = ap (λ o. option_map_or (touches state entry) o false) (row_named state cell row is) ∙ on in
      let ends : ends_cell state entry cell ≡ true = ap (λ b. b || dies state entry cell) touched in
      let ends_too : ends_link state entry (id_of row) ≡ true = ap (λ b. b || is_none (link_named (after state entry) (id_of row))) link in
      record {
        last = cell_gone own.pairs.last cell ends;
        copying = cell_gone own.copies.pending cell ends;
        last_copy = cell_gone own.copies.last cell ends;
        pages = ap (λ o. unwrap_or o no_progress) (links_left (id_of row) ∙ ap (λ b. cond (not b) (at link_cmp own.copies.progress (id_of row)) None) ends_too);
      }

  -- one that it does not touch is as before, where the cell doesn't die, and its link stays
  pub untouched_keeps : (cell : Cell) (row : LinkRow) → cell_link state cell ≡ Some row → touches state entry row ≡ false → dies state entry cell ≡ false
      → link_named (after state entry) (id_of row) ≡ Some row → KeepsAll own (crossed state entry own) row cell
  untouched_keeps cell row is off stays named =
      let away : ends_cell state entry cell ≡ false =
      ap (λ b. b || dies state entry cell) (ap (λ o. option_map_or (touches state entry) o false) is ∙ off) ∙ stays in
      let link : ends_link state entry (id_of row) ≡ false =
      ap (λ b. b || is_none (link_named (after state entry) (id_of row)))
      (ap (λ o. option_map_or (touches state entry) o false) (row_named state cell row is) ∙ off) ∙ ap is_none named in
      record {
        keeps = record {
          rest = record {
            chain = refl;
            pending = refl;
            copying = cell_stays own.copies.pending cell away;
            last = cell_stays own.copies.last cell away;
            followed = cell_stays own.pairs.last cell away;
          };
          marks = λ kind. refl;
        };
        next = refl;
        pages = links_left (id_of row) ∙ ap (λ b. cond (not b) (at link_cmp own.copies.progress (id_of row)) None) link;
        copies = copy_left;
      }

  -- what is so of that is so of what the entry leaves
  module _ (new : PairState) (left : IsCrossed state entry own new) where
    pub left_fresh : (row : LinkRow) (cell : Cell) → IsFresh (crossed state entry own) row cell → IsFresh new row cell
    left_fresh row cell fresh = record {
      last = ap (λ (p : Pairs). at cell_cmp p.last cell) left.pairs ∙ fresh.last;
      copying = ap (λ (c : Copies). at cell_cmp c.pending cell) left.copies ∙ fresh.copying;
      last_copy = ap (λ (c : Copies). at cell_cmp c.last cell) left.copies ∙ fresh.last_copy;
      pages = ap (λ (c : Copies). unwrap_or (at link_cmp c.progress (id_of row)) no_progress) left.copies ∙ fresh.pages;
    }

    pub left_keeps : (row : LinkRow) (cell : Cell) → KeepsAll own (crossed state entry own) row cell → KeepsAll own new row cell
    left_keeps row cell all = record {
      keeps = record {
        rest = record {
          chain = ap (λ t. chain_in t cell) left.chains;
          pending = ap (λ (p : Pairs). at cell_cmp p.pending cell) left.pairs ∙ all.keeps.rest.pending;
          copying = ap (λ (c : Copies). at cell_cmp c.pending cell) left.copies ∙ all.keeps.rest.copying;
          last = ap (λ (c : Copies). at cell_cmp c.last cell) left.copies ∙ all.keeps.rest.last;
          followed = ap (λ (p : Pairs). at cell_cmp p.last cell) left.pairs ∙ all.keeps.rest.followed;
        };
        marks = λ kind. ap (has_mark (mark_on kind cell)) left.marks;
      };
      next = ap (λ (p : Pairs). p.next) left.pairs ∙ all.next;
      pages = ap (λ (c : Copies). at link_cmp c.progress (id_of row)) left.copies ∙ all.pages;
      copies = λ q copy is. all.copies q copy (ap (λ (c : Copies). at cell_cmp c.pending q) (sym left.copies) ∙ is);
    }

    pub left_copied : ((q : Cell) (last : LastCopy) → last_copy own q ≡ Some last → live state q ≡ true) → (q : Cell) (last : LastCopy)
        → last_copy new q ≡ Some last → live (after state entry) q ≡ true
    left_copied copied q last is = last_left copied q last (ap (λ (c : Copies). at cell_cmp c.last q) (sym left.copies) ∙ is)

    -- a cell of which there was nothing, and nothing was heard
    pub left_unheard : (later : State) (cell : Cell) → IsBare own cell → at cell_cmp own.pairs.last cell ≡ None
        → (cell_link later cell ≡ None → (row : LinkRow) → row.map ≡ cell.map → progress_on own row ≡ no_progress) → IsUnheard later new cell
    left_unheard later cell bare last pages = record {
      bare = record {
        chain = ap (λ t. chain_in t cell) left.chains ∙ bare.chain;
        marks = λ kind. ap (has_mark (mark_on kind cell)) left.marks ∙ bare.marks kind;
      };
      last = ap (λ (p : Pairs). at cell_cmp p.last cell) left.pairs ∙ cell_never own.pairs.last cell last;
      pages = λ none row same. ap (λ (c : Copies). unwrap_or (at link_cmp c.progress (id_of row)) no_progress) left.copies
          ∙ link_never row (pages none row same);
    }
