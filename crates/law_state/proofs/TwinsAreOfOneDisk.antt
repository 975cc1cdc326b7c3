-- The two cells of a move are of one disk, so of one epoch; and while the move goes on neither has another one.
use Rattle.law_state.proofs.Imports.{if◌then◌else◌, ◌<◌, ◌==◌, ◌∙◌, ◌≡◌, ◌≤◌, Bool, Cell, Command, DiskRow, IsPrefix, List, Move, New, None, Option, Some}
use Rattle.law_state.proofs.Imports.{State, ap, arith, by_bool, disk_of, false, has_map, inl, inr, leaves, move_region, none_some, number_itself}
use Rattle.law_state.proofs.Imports.{option_and_then, option_map, refl, region_of, same_numbers, same_some, slice_get, source, source_in, state_after, subst}
use Rattle.law_state.proofs.Imports.{sym, target, true, ℕ}
use Rattle.law_state.specs.Homes.{epoch_at, old_stage, stage_at, stage_of}
use Rattle.law_state.specs.Plain.{HasProperTuples}
use Rattle.law_state.specs.Tables.{HasLaterDisk, IsSettledState, IsRowAt}
use Rattle.law_state.proofs.EntriesOnlyAdd.{log_plain}
use Rattle.law_state.proofs.Homes.{row_or_none}
use Rattle.law_state.proofs.Owners.{disk_on, epoch_in, epoch_is, kept_by, left_by, mover_is, no_home, owner_is, stage_in, stage_is}
use Rattle.law_state.proofs.LinksAreNoted.{gone_value, old_value, own_value}
use Rattle.law_state.proofs.Steady.{prefix_plain, log_grown}
use Rattle.law_state.proofs.Stages.{high_new, left_move}

-- the disk's move is from the old cell's map to the new cell's
pub record IsMoved (s : State) (old new : Cell) : Type 0 where
  pub place : ℕ
  pub row : DiskRow
  pub stands : slice_get s.disks.rows place ≡ Some row
  pub of : disk_of s.maps old.map ≡ Some place
  pub made : disk_of s.maps new.map ≡ Some place
  pub left : leaves old.map row.moving ≡ true
  pub map_is : row.map ≡ new.map
  pub less : old.map < row.map
  pub block : new.block ≡ old.block

-- a disk moves from one map at a time
one_left : (o : Option Move) (a b : ℕ) → leaves a o ≡ true → leaves b o ≡ true → a ≡ b
one_left o a b one two =
    let m = left_move o a one in
    let n = left_move o b two in
    sym m.2 ∙ ap (λ (move : Move). move.old_map) (same_some (sym m.1 ∙ n.1)) ∙ n.2

pub cells_same : (one other : Cell) → one.map ≡ other.map → one.block ≡ other.block → one ≡ other
cells_same one other a b = λ i. record { map = a i; block = b i }

module _ (servers : ℕ) (s : State) (p : IsSettledState servers s) (old new : Cell) where
  by_row : (place : ℕ) (row : DiskRow) → slice_get s.disks.rows place ≡ Some row → IsRowAt s.maps place row → leaves old.map row.moving ≡ true
      → row.map ≡ new.map → new.block ≡ old.block → IsMoved s old new
  by_row place row stands so left map_is block =
      let m = left_move row.moving old.map left in
      let moving = so.moving m.0 m.1 in
      record {
        place = place;
        row = row;
        stands = stands;
        of = ap (disk_of s.maps) (sym m.2) ∙ moving.from;
        made = ap (disk_of s.maps) (sym map_is) ∙ so.of;
        left = left;
        map_is = map_is;
        less = subst (λ k. k < row.map) m.2 moving.old;
        block = block;
      }

  to_new : Option DiskRow → Option Cell
  to_new = option_map (λ (row : DiskRow). record { map = row.map; block = old.block })

  of_target : target s old ≡ Some new → IsMoved s old new
  unfolding to_new
  of_target goes = elim (row_or_none s p.rows p.homes old) [
    | inr none ↦ none_some (ap to_new (mover_is s p.rows old.map ∙ ap (option_and_then (left_by old.map)) (no_home s p.rows p.homes old.map none))) goes
    | inl h ↦
        let moves = λ (b : Bool) (e : leaves old.map h.row.moving ≡ b).
        mover_is s p.rows old.map ∙ ap (option_and_then (left_by old.map)) h.is ∙ ap (λ x. if x then Some h.row else None) e in
        by_bool (leaves old.map h.row.moving)
        (λ left.
        let same : record { map = h.row.map; block = old.block } ≡ new = same_some (sym (ap to_new (moves true left)) ∙ goes) in
        by_row h.place h.row h.stands h.so left (ap (λ (c : Cell). c.map) same) (sym (ap (λ (c : Cell). c.block) same)))
        (λ stays. none_some (ap to_new (moves false stays)) goes)
  ]

  from_move : (row : DiskRow) → source_in new row ≡ Some old → (row.map ≡ new.map) × (leaves old.map row.moving ≡ true) × (new.block ≡ old.block)
  from_move row e = by_bool (row.map == new.map)
      (λ own. by row.moving (same_numbers row.map new.map own)
      (sym (ap (λ b. if b then option_map (λ (move : Move). record { map = move.old_map; block = new.block }) row.moving else None) own) ∙ e))
      (λ other. none_some
      (ap (λ b. if b then option_map (λ (move : Move). record { map = move.old_map; block = new.block }) row.moving else None) other) e)
    where
      by : (o : Option Move) → row.map ≡ new.map → option_map (λ (move : Move). record { map = move.old_map; block = new.block }) o ≡ Some old
          → (row.map ≡ new.map) × (leaves old.map o ≡ true) × (new.block ≡ old.block)
      by None own f = none_some refl f
      by (Some move) own f =
          let same : record { map = move.old_map; block = new.block } ≡ old = same_some f in
          (own, ap (λ (c : Cell). move.old_map == c.map) (sym same) ∙ number_itself move.old_map, ap (λ (c : Cell). c.block) same)

  of_source : source s new ≡ Some old → IsMoved s old new
  of_source comes = elim (row_or_none s p.rows p.homes new) [
    | inr none ↦ none_some
        (ap (option_and_then (source_in new)) (owner_is s p.rows new.map ∙ ap (option_and_then (kept_by new.map)) (no_home s p.rows p.homes new.map none)))
        comes
    | inl h ↦
        let owns = λ (b : Bool) (e : has_map new.map h.row ≡ b).
        owner_is s p.rows new.map ∙ ap (option_and_then (kept_by new.map)) h.is ∙ ap (λ x. if x then Some h.row else None) e in
        by_bool (has_map new.map h.row)
        (λ has.
        let f = from_move h.row (sym (ap (option_and_then (source_in new)) (owns true has)) ∙ comes) in
        by_row h.place h.row h.stands h.so f.1 f.0 f.2)
        (λ out. none_some (ap (option_and_then (source_in new)) (owns false out)) comes)
  ]

-- the two cells of a move, by a log
pub log_goes : (servers : ℕ) (log : List Command) → HasProperTuples servers log → (old new : Cell) → target (state_after servers log) old ≡ Some new
    → IsMoved (state_after servers log) old new
log_goes servers log plain old new = of_target servers (state_after servers log) (log_plain servers log plain) old new

pub log_comes : (servers : ℕ) (log : List Command) → HasProperTuples servers log → (old new : Cell) → source (state_after servers log) new ≡ Some old
    → IsMoved (state_after servers log) old new
log_comes servers log plain old new = of_source servers (state_after servers log) (log_plain servers log plain) old new

pub twins_epoch : (servers : ℕ) (log : List Command) → HasProperTuples servers log → (old new : Cell) → target (state_after servers log) old ≡ Some new
    → epoch_at (state_after servers log) new ≡ epoch_at (state_after servers log) old
twins_epoch servers log plain old new goes =
    let s = state_after servers log in
    let p = log_plain servers log plain in
    let m = of_target servers s p old new goes in
    let there = λ (of : ℕ) (e : disk_of s.maps of ≡ Some m.place). ap epoch_in (ap (option_and_then (slice_get s.disks.rows)) e ∙ m.stands) in
    epoch_is s p.rows new ∙ there new.map m.made ∙ sym (epoch_is s p.rows old ∙ there old.map m.of)

module _ (servers : ℕ) (prefix whole : List Command) (plain : HasProperTuples servers whole) (is_prefix : IsPrefix prefix whole) where
  abbrev earlier : State
  earlier = state_after servers prefix

  abbrev later : State
  later = state_after servers whole

  plain_now : IsSettledState servers later
  plain_now = log_plain servers whole plain

  known_on : (of place : ℕ) → disk_of earlier.maps of ≡ Some place → disk_of later.maps of ≡ Some place
  known_on of place e = disk_on earlier.maps later.maps of place (log_grown servers prefix whole plain is_prefix).maps e

  -- of one disk the later row goes on from the earlier one
  going_on : (old new other goal : Cell) (one : IsMoved earlier old new) (two : IsMoved later other goal) → two.place ≡ one.place
      → (l : HasLaterDisk later one.place one.row) × (l.now ≡ two.row)
  going_on old new other goal one two place =
      let l = (log_grown servers prefix whole plain is_prefix).rows one.place one.row one.stands in
      (l, same_some (sym l.is ∙ ap (slice_get later.disks.rows) (sym place) ∙ two.stands))

  pub goal_same : (old new goal : Cell) → IsMoved earlier old new → IsMoved later old goal → goal ≡ new
  goal_same old new goal one two =
      let place : two.place ≡ one.place = same_some (sym two.of ∙ known_on old.map one.place one.of) in
      let l = going_on old new old goal one two place in
      let back = l.0.so.back old.map one.less (ap (λ (r : DiskRow). leaves old.map r.moving) l.1 ∙ two.left) in
      cells_same goal new (sym two.map_is ∙ ap (λ (r : DiskRow). r.map) (sym l.1) ∙ back.0 ∙ one.map_is) (two.block ∙ sym one.block)

  pub start_same : (new old other : Cell) → IsMoved earlier old new → IsMoved later other new → other ≡ old
  start_same new old other one two =
      let place : two.place ≡ one.place = same_some (sym two.made ∙ known_on new.map one.place one.made) in
      let l = going_on old new other new one two place in
      let less : other.map < one.row.map = subst (λ k. other.map < k) (two.map_is ∙ sym one.map_is) two.less in
      let back = l.0.so.back other.map less (ap (λ (r : DiskRow). leaves other.map r.moving) l.1 ∙ two.left) in
      cells_same other old (one_left one.row.moving other.map old.map back.1 one.left) (sym two.block ∙ one.block)

  -- they stay of one disk
  pub twins_later : (old new : Cell) → IsMoved earlier old new → epoch_at later new ≡ epoch_at later old
  twins_later old new one =
      let there = λ (of : ℕ) (e : disk_of earlier.maps of ≡ Some one.place).
      ap (λ o. epoch_in (option_and_then (slice_get later.disks.rows) o)) (known_on of one.place e) in
      epoch_is later plain_now.rows new ∙ there new.map one.made ∙ sym (there old.map one.of) ∙ sym (epoch_is later plain_now.rows old)

  -- once the new cell is there, the old one is retired
  pub gone_twin : (old new : Cell) → IsMoved earlier old new → 2 ≤ stage_at later new → stage_at later old ≡ 4
  gone_twin old new one two =
      let l = (log_grown servers prefix whole plain is_prefix).rows one.place one.row one.stands in
      let now = l.now in
      let home_of = λ (of : ℕ) (e : disk_of earlier.maps of ≡ Some one.place).
      ap (option_and_then (slice_get later.disks.rows)) (known_on of one.place e) ∙ l.is in
      let new_is : stage_at later new ≡ stage_of new now = stage_is later plain_now.rows plain_now.homes new ∙ ap (stage_in new) (home_of new.map one.made) in
      let old_is : stage_at later old ≡ stage_of old now = stage_is later plain_now.rows plain_now.homes old ∙ ap (stage_in old) (home_of old.map one.of) in
      let up = l.so.map in
      let below = one.less in
      let other : (now.map == old.map) ≡ false =
      by_bool (now.map == old.map) (λ t. let e = same_numbers now.map old.map t in absurd (omega arith)) (λ f. f) in
      old_is ∙ by_bool (leaves old.map now.moving)
      (λ left.
      let own : now.map ≡ new.map = (l.so.back old.map one.less left).0 ∙ one.map_is in
      let value = own_value new now (ap (λ k. k == new.map) own ∙ number_itself new.map) in
      let region : move_region (region_of new.block) now.moving ≡ New = high_new (move_region (region_of new.block) now.moving) (omega arith) in
      old_value old now other left ∙ ap (λ k. old_stage (move_region (region_of k) now.moving)) (sym one.block) ∙ ap old_stage region)
      (λ out. gone_value old now other out)

pub source_same : (servers : ℕ) (prefix whole : List Command) → HasProperTuples servers whole → IsPrefix prefix whole → (new old other : Cell)
    → source (state_after servers prefix) new ≡ Some old → source (state_after servers whole) new ≡ Some other → other ≡ old
source_same servers prefix whole plain is_prefix new old other was now =
    start_same servers prefix whole plain is_prefix new old other (log_comes servers prefix (prefix_plain servers prefix whole plain is_prefix) old new was)
    (log_comes servers whole plain other new now)
