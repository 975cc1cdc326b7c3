-- In a plain state disks, maps and cells belong together, and each server is In, or has left.
use Rattle.law_state.proofs.Imports.{◌<◌, ◌==◌, ◌∙◌, ◌≡◌, ◌⊎◌, Cell, Command, DiskRow, In, IsPrefix, Leave, List, None, Snapshot, Some, State, act, after, ap}
use Rattle.law_state.proofs.Imports.{arith, by_bool, disk_at, false, has_map, inc_in, inl, inr, is_disk, is_up, is_up_as, named, nat_lists_same}
use Rattle.law_state.proofs.Imports.{number_itself, option_and_then, option_map_or, owner, same_name, same_numbers, same_or_apart, same_some}
use Rattle.law_state.proofs.Imports.{slice_get_within, snapshot_named, some_or_none, start, state_after, subst, sym, true, true_false, ℕ}
use Rattle.law_state.specs.Disks.{AreDisks, AreInOrOut}
use Rattle.law_state.specs.Plain.{HasProperTuples}
use Rattle.law_state.specs.Steady.{HasLink}
use Rattle.law_state.specs.Tables.{IsSettledState}
use Rattle.law_state.proofs.Ages.{in_once, in_up, up_some}
use Rattle.law_state.proofs.Joins.{was_out, in_beside as joined_beside}
use Rattle.law_state.proofs.Owners.{owned}
use Rattle.law_state.proofs.ListLookups.{find_here, found_at, get_in, in_get, get_replicate, text_itself}
use Rattle.law_state.proofs.Leaves.{in_beside}
use Rattle.law_state.proofs.FencesPass.{in_settled}
use Rattle.law_state.proofs.Steady.{in_first, linked_owner, unlinked}
use Rattle.law_state.proofs.EntriesOnlyAdd.{log_plain}
use Rattle.law_state.proofs.EntryByEntry.{NextEntry, by_entries, in_whole, settled_there}
use Rattle.law_state.proofs.EntryOutcomes.{Joins, Leaves, Outcome, outcome}
use Rattle.global_tables.specs.declared.fence.Member.TheVariants as member

module _ (servers : ℕ) (s : State) (p : IsSettledState servers s) where
  at : (row : DiskRow) → In row s.disks.rows → disk_at s.disks.rows row.id ≡ Some row
  at row h =
      let place = get_in s.disks.rows row h in
      let new = p.rows place.0 row place.1 in
      find_here (is_disk row.id) s.disks.rows place.0 row place.1 (number_itself row.id)
      (λ j other e t. sym (p.rows j other e).id ∙ same_numbers other.id row.id t ∙ new.id)

  by_name : (row : DiskRow) → In row s.disks.rows → named s.disks.rows row.name ≡ Some row
  by_name row h =
      let place = get_in s.disks.rows row h in
      find_here (λ other. same_name other.name row.name) s.disks.rows place.0 row place.1 (text_itself row.name)
      (λ j other e t. p.names j place.0 other row e place.1 (nat_lists_same other.name row.name t))

  owned_by : (of : ℕ) (row : DiskRow) → In row s.disks.rows → has_map of row ≡ true → owner s of ≡ Some row
  owned_by of row h has = let place = get_in s.disks.rows row h in owned s p.rows of place.0 row place.1 has

  -- a map has one owner
  apart : (of : ℕ) (one other : DiskRow) → In one s.disks.rows → In other s.disks.rows → has_map of one ≡ true → has_map of other ≡ true → one ≡ other
  apart of one other h k e f = same_some (sym (owned_by of one h e) ∙ owned_by of other k f)

  -- a snapshot is found by its name, and its epoch is its place among those of the disk
  snap_by_name : (row : DiskRow) (snap : Snapshot) → In row s.disks.rows → In snap row.snaps → snapshot_named row.snaps snap.name ≡ Some snap
  snap_by_name row snap h k =
      let place = get_in s.disks.rows row h in
      let at = get_in row.snaps snap k in
      find_here (λ (other : Snapshot). same_name other.name snap.name) row.snaps at.0 snap at.1 (text_itself snap.name)
      (λ j other e t. (p.rows place.0 row place.1).names j at.0 other snap e at.1 (nat_lists_same other.name snap.name t))

  snap_before : (row : DiskRow) (snap : Snapshot) → In row s.disks.rows → In snap row.snaps → snap.epoch < row.epoch
  snap_before row snap h k =
      let place = get_in s.disks.rows row h in
      let at = get_in row.snaps snap k in
      let is = (p.rows place.0 row place.1).snaps at.0 snap at.1 in
      let many = (p.rows place.0 row place.1).many in
      let lt = slice_get_within row.snaps at.0 snap at.1 in
      omega arith

  -- a cell of no disk has no owner
  nowhere : (cell : Cell) → ((row : DiskRow) → In row s.disks.rows → has_map cell.map row ≡ false) → owner s cell.map ≡ None
  nowhere cell off = elim (some_or_none (owner s cell.map)) [
    | inl h ↦
        let at = found_at (has_map cell.map) s.disks.rows h.0 h.1 in
        true_false at.2 (off h.0 (in_get s.disks.rows at.0 h.0 at.1))
    | inr none ↦ none
  ]

  served : (row : DiskRow) (cell : Cell) → In row s.disks.rows → has_map cell.map row ≡ true → HasLink s cell
  served row cell h has =
      let l = linked_owner servers s p cell row (owned_by cell.map row h has) in
      record { row = l.0; is = l.1 }

  pub plain_disks : AreDisks s
  plain_disks = record {
    at = at;
    named = by_name;
    apart = apart;
    owned = owned_by;
    snaps = snap_by_name;
    before = snap_before;
    served = served;
    empty = λ cell off. unlinked servers s p cell (nowhere cell off);
  }

  pub plain_in : AreInOrOut servers s
  plain_in = record {
    many = p.many;
    each = λ n lt. by_bool (is_up s n) (λ up. inl (up_some s n up)) (λ out. inr out);
    first = in_first servers s p;
    up = up_some s;
    seated = in_up s;
  }

pub log_disks : (servers : ℕ) (log : List Command) → HasProperTuples servers log → AreDisks (state_after servers log)
log_disks servers log all = plain_disks servers (state_after servers log) (log_plain servers log all)

pub log_in : (servers : ℕ) (log : List Command) → HasProperTuples servers log → AreInOrOut servers (state_after servers log)
log_in servers log all = plain_in servers (state_after servers log) (log_plain servers log all)

-- ### Who is Out has left

-- an incarnation that an entry makes Out has this very Leave
made_out : (servers : ℕ) (s : State) (p : IsSettledState servers s) (entry : Command) (t : State) → Outcome servers s p entry t → (n inc : ℕ)
    → is_up_as s n inc ≡ true → is_up_as t n inc ≡ false → Leave n inc ≡ entry
made_out servers s p _ _ (Joins server later blank may) n inc is out = elim (same_or_apart n server) [
  | inl e ↦ true_false (sym (ap (is_up s) e) ∙ in_up s n inc is) (was_out servers s p server later blank may)
  | inr ne ↦ true_false (joined_beside servers s p server later blank may n inc ne ∙ is) out
]
made_out servers s p _ _ (Leaves server last now) n inc is out = elim (same_or_apart n server) [
  | inl e ↦ let same : inc ≡ last = in_once s n inc last is (ap (λ k. is_up_as s k last) e ∙ now) in λ i. Leave (e i) (same i)
  | inr ne ↦ true_false (in_beside servers s p server last now n inc ne ∙ is) out
]
made_out servers s p _ _ _ n inc is out = true_false is out

pub first_at_start : (servers n : ℕ) → n < servers → is_up_as (start servers) n 1 ≡ true
first_at_start servers n lt =
    ap (λ o. option_map_or (λ present. present == 1) (option_and_then inc_in o) false) (get_replicate servers n (member.In 1) lt) ∙ number_itself 1

-- the entry that made it Out is its Leave
pub who_is_out : (servers : ℕ) (prefix whole : List Command) (n inc : ℕ) → HasProperTuples servers whole → IsPrefix prefix whole
    → is_up_as (state_after servers prefix) n inc ≡ true → is_up_as (state_after servers whole) n inc ≡ false → In (Leave n inc) whole
who_is_out servers prefix whole n inc all is_prefix is out = elim (by_entries servers prefix whole all is_prefix (λ log. In_or_left) step (inl is)) [
  | inl up ↦ true_false up out
  | inr left ↦ left
]
  where
    In_or_left : State → Type 0
    In_or_left t = (is_up_as t n inc ≡ true) ⊎ In (Leave n inc) whole

    step : (it : NextEntry servers prefix whole) → In_or_left (state_after servers it.until) → In_or_left (after (state_after servers it.until) it.entry)
    step it (inr left) = inr left
    step it (inl up) = by_bool (is_up_as (after (state_after servers it.until) it.entry) n inc) inl
        (λ gone. inr (subst (λ e. In e whole)
        (sym (made_out servers (state_after servers it.until) (settled_there servers prefix whole all is_prefix it) it.entry _
        (outcome servers (state_after servers it.until) _ it.entry it.proper) n inc up
        (sym (in_settled (act it.entry (state_after servers it.until)) n inc) ∙ gone)))
        (in_whole servers prefix whole all is_prefix it)))
