-- A StartMove gives a disk a new map, and queues a fence for its first region. A Moved notes a link; after the last link of the old map the
-- region is at the new one, and the next one waits, or the move is over and the links of the old map are gone.
use Rattle.law_state.proofs.Imports.{[], if◌then◌else◌, ◌+◌, ◌<◌, ◌==◌, ◌||◌, ◌∙◌, ◌∷◌, ◌≡◌, ◌≢◌, ◌≤◌, ◌⊎◌, Bool, Cell, DiskRow, Err, Fence, Fenced, LinkRow}
use Rattle.law_state.proofs.Imports.{List, MapRow, Move, Moved, New, None, Ok, Old, Option, Region, Result, Some, StartMove, State, Verdict, act}
use Rattle.law_state.proofs.Imports.{after_region, all_noted, ap, append-nil, arith, both_true, by_bool, by_test, completes, cond, disk_at, disk_of, dropped}
use Rattle.law_state.proofs.Imports.{false, filter, find, has_map, inl, inr, is_fenced, is_link, is_new, is_some, is_tuple, latest, leaves, length, link_at}
use Rattle.law_state.proofs.Imports.{links_of, move_begun, move_done, move_of, move_region, move_target, moved_by, mover, named, nat_lt, nat_tests, none_some}
use Rattle.law_state.proofs.Imports.{not, not_true, note, noted, number_itself, option_and_then, option_map, option_moved, owner, refl, region_of, replicate}
use Rattle.law_state.proofs.Imports.{row_moving, row_noted, same_name, same_numbers, same_or_apart, same_some, slice_get, slice_get_within, slice_set}
use Rattle.law_state.proofs.Imports.{snapshot_named, some_or_none, subst, sym, told, true, true_false, tuple_of, with_fence, with_link, with_move, ℕ}
use Rattle.law_state.specs.Ages.{age_of}
use Rattle.law_state.specs.Homes.{new_stage, stage_under}
use Rattle.law_state.specs.Tables.{HasHome, HasLaterDisk, HasLinkOf, IsGone, IsLaterDisk, IsMove, IsSettledState, IsRowAt, IsShape, Of_disk, Of_region}
use Rattle.law_state.proofs.Ages.{no_less}
use Rattle.law_state.proofs.Fences.{Acted, AreQueued, IsUnsettled, fence_kept, region_queued, requeued, same_region, asked_on}
use Rattle.law_state.proofs.GrownStates.{grown_on, same_row}
use Rattle.law_state.proofs.MapsAreAdded.{map_on, mapping, new_map}
use Rattle.law_state.proofs.Owners.{disk_at_is, disk_on, home, kept_by, owner_is, row_at_on, stage_in, stage_is, stages_later}
use Rattle.law_state.proofs.ListLookups.{found_at, in_filter}
use Rattle.law_state.proofs.DiskRowChanges.{beside, fence_then, here, here_now, homes_now, many_rows, names_now, owner_before, owner_then, row_known}
use Rattle.law_state.proofs.DiskRowChanges.{row_later, rowing, rows_later, rows_now, was_row}
use Rattle.law_state.proofs.SnapsQueueFences.{none_of}
use Rattle.law_state.proofs.Stages.{begun_on, fenced_next, new_most, no_fenced, row_on, set_on, shape_begun, shape_next, shape_set}
use Rattle.law_state.proofs.MapsAreAdded as making
use Rattle.law_state.proofs.DiskRowChanges as rowed

-- ### What a StartMove comes to

pub act_start : (P : State → Type 0) (s : State) (client seq : ℕ) (disk tuple : List ℕ)
    → (is_new seq (latest s client) ≡ false → P s)
    → (is_new seq (latest s client) ≡ true → named s.disks.rows disk ≡ None → P (told s client seq Verdict.NoDisk))
    → (is_new seq (latest s client) ≡ true → (row : DiskRow) → named s.disks.rows disk ≡ Some row → is_some row.moving ≡ true
    → P (told s client seq Verdict.Moving))
    → (is_new seq (latest s client) ≡ true → (row : DiskRow) → named s.disks.rows disk ≡ Some row → row.moving ≡ None
    → P (told (with_move s tuple row.id) client seq Verdict.Ok))
    → P (act (StartMove client seq disk tuple) s)
act_start P s client seq disk tuple old unknown busy begins =
    by_test P (is_new seq (latest s client)) (move_begun s client seq tuple (move_target (named s.disks.rows disk))) s
    (λ new. by new (named s.disks.rows disk) refl) old
  where
    by : is_new seq (latest s client) ≡ true → (o : Option DiskRow) → named s.disks.rows disk ≡ o → P (move_begun s client seq tuple (move_target o))
    by new None is = unknown new is
    by new (Some row) is =
        by_test (λ (target : Result ℕ Verdict). P (move_begun s client seq tuple target)) (is_some row.moving) (Err Verdict.Moving) (Ok row.id)
        (λ has. busy new row is has) (λ free. begins new row is (none_of row.moving free))

-- ### The move begins

module _ (servers : ℕ) (s : State) (p : IsSettledState servers s) (disk tuple : List ℕ) (row : DiskRow) (found : named s.disks.rows disk ≡ Some row)
    (still : row.moving ≡ None) (proper : is_tuple servers tuple ≡ true) where
  abbrev new : ℕ
  new = length s.maps

  abbrev begun : Move
  begun = record { old_map = row.map; regions = replicate 16 Old; noted = [] }

  abbrev moving_row : DiskRow
  moving_row = row_moving new row

  pub known : disk_at s.disks.rows row.id ≡ Some row
  known =
      let at = found_at (λ (r : DiskRow). same_name r.name disk) s.disks.rows row found in
      disk_at_is s.disks.rows (λ i r e. (p.rows i r e).id) row.id ∙ ap (slice_get s.disks.rows) (p.rows at.0 row at.1).id ∙ at.1

  abbrev q : IsUnsettled servers s
  q = p.unsettled

  pub at_row : slice_get s.disks.rows row.id ≡ Some row
  at_row = here servers s q row.id row known (row_moving new)

  was_at : IsRowAt s.maps row.id row
  was_at = p.rows row.id row at_row

  -- each map of before is below the new one
  pub low_map : (of d : ℕ) → disk_of s.maps of ≡ Some d → of < new
  low_map of d e = elim (some_or_none (slice_get s.maps of)) [
    | inl m ↦ slice_get_within s.maps of m.0 m.1
    | inr none ↦ none_some (ap (option_map (λ (r : MapRow). r.disk)) none) e
  ]

  apart_by : (of : ℕ) → of < new → (new == of) ≡ false
  apart_by of lt = by_bool (new == of) (λ t. let e = same_numbers new of t in absurd (omega arith)) (λ f. f)

  abbrev begun_state : State
  begun_state = with_move s tuple row.id

  maps_on : (of : ℕ) (m : MapRow) → slice_get s.maps of ≡ Some m → slice_get begun_state.maps of ≡ Some m
  maps_on = map_on servers s p tuple row.id proper

  later : IsLaterDisk row moving_row
  later = record {
    id = refl;
    name = refl;
    map = (let lt = low_map row.map row.id was_at.of in omega arith);
    stages = λ cell low. begun_on cell row new begun still refl (apart_by cell.map (let lt = low_map row.map row.id was_at.of in omega arith));
    back = λ of lt left. let e = same_numbers row.map of left in absurd (omega arith);
    onward = no_less row.epoch;
    more = [];
    snaps = sym (append-nil row.snaps);
  }

  row_then : IsRowAt begun_state.maps row.id moving_row
  row_then = record {
    id = refl;
    of = new_map servers s p tuple row.id proper;
    many = was_at.many;
    snaps = was_at.snaps;
    names = was_at.names;
    moving = λ move e. subst (IsMove begun_state.maps row.id new) (same_some e) (record {
      old = low_map row.map row.id was_at.of;
      from = disk_on s.maps begun_state.maps row.map row.id maps_on was_at.of;
      next = 0;
      now = Old;
      shape = shape_begun;
      waits = inl refl;
    });
  }

  all_rows : (i : ℕ) (other : DiskRow) → slice_get begun_state.disks.rows i ≡ Some other → IsRowAt begun_state.maps i other
  all_rows i other e = elim (was_row servers s q row.id row known (row_moving new) i other e) [
    | inl h ↦ subst (λ k. IsRowAt begun_state.maps k other) (sym h.0) (subst (IsRowAt begun_state.maps row.id) (sym h.1) row_then)
    | inr old ↦ row_at_on s.maps begun_state.maps i other maps_on (p.rows i other old)
  ]

  pub row_now : slice_get begun_state.disks.rows row.id ≡ Some moving_row
  row_now = here_now servers s q row.id row known (row_moving new)

  homes_then : (of d : ℕ) → disk_of begun_state.maps of ≡ Some d → HasHome begun_state of d
  homes_then of d e = elim (making.disk_then servers s p tuple row.id proper of d e) [
    | inl old ↦
        let h = p.homes of d old in
        let l = row_later servers s q row.id row known (row_moving new) later d h.row h.is in
        record { row = l.0; is = l.1; newest = (let a = h.newest in let b = l.2.map in omega arith) }
    | inr made ↦ record { row = moving_row; is = ap (slice_get begun_state.disks.rows) made.1 ∙ row_now; newest = (let a = made.0 in omega arith) }
  ]

  later_rows : (i : ℕ) (other : DiskRow) → slice_get s.disks.rows i ≡ Some other → HasLaterDisk begun_state i other
  later_rows i other e =
      let h = row_later servers s q row.id row known (row_moving new) later i other e in record { now = h.0; is = h.1; so = h.2 }

  -- the disk keeps the map that it had
  same_owner : (of : ℕ) (m : MapRow) → slice_get s.maps of ≡ Some m → is_some (owner begun_state of) ≡ is_some (owner s of)
  same_owner of m e =
      let was : disk_of s.maps of ≡ Some m.disk = ap (option_map (λ (r : MapRow). r.disk)) e in
      let now : disk_of begun_state.maps of ≡ Some m.disk = ap (option_map (λ (r : MapRow). r.disk)) (maps_on of m e) in
      ap is_some (owner_is begun_state all_rows of ∙ ap (λ d. option_and_then (kept_by of) (option_and_then (slice_get begun_state.disks.rows) d)) now)
      ∙ by (same_or_apart m.disk row.id)
      ∙ sym (ap is_some (owner_is s p.rows of ∙ ap (λ d. option_and_then (kept_by of) (option_and_then (slice_get s.disks.rows) d)) was))
    where
      by : (m.disk ≡ row.id) ⊎ (m.disk ≢ row.id)
          → is_some (option_and_then (kept_by of) (slice_get begun_state.disks.rows m.disk))
          ≡ is_some (option_and_then (kept_by of) (slice_get s.disks.rows m.disk))
      by (inr ne) = ap (λ o. is_some (option_and_then (kept_by of) o)) (beside servers s q row.id row known (row_moving new) m.disk ne)
      by (inl same) =
          let lt = slice_get_within s.maps of m e in
          ap (λ o. is_some (option_and_then (kept_by of) o)) (ap (slice_get begun_state.disks.rows) same ∙ row_now)
          ∙ ap (λ b. is_some (if b || row.map == of then Some moving_row else None)) (apart_by of lt)
          ∙ is_kept (row.map == of) moving_row row
          ∙ sym (ap (λ m. is_some (if row.map == of || leaves of m then Some row else None)) still)
          ∙ sym (ap (λ o. is_some (option_and_then (kept_by of) o)) (ap (slice_get s.disks.rows) same ∙ at_row))
        where
          is_kept : (b : Bool) (x y : DiskRow) → is_some (if b then Some x else None) ≡ is_some (if b || false then Some y else None)
          is_kept true x y = refl
          is_kept false x y = refl

  owned : owner begun_state new ≢ None
  owned none = none_some none
      (owner_is begun_state all_rows new
      ∙ ap (λ o. option_and_then (kept_by new) (option_and_then (slice_get begun_state.disks.rows) o)) (new_map servers s p tuple row.id proper)
      ∙ ap (option_and_then (kept_by new)) row_now
      ∙ ap (λ b. if b || row.map == new then Some moving_row else None) (number_itself new))

  -- no fence waits for a region of the disk
  none_waits : (i : ℕ) (fence : Fence) (region : ℕ) → slice_get s.view.queue i ≡ Some fence → fence.kind ≢ Region row.id region
  none_waits i fence region e kind = elim (p.fences.each i fence e) [
    | Of_disk h ↦ (let f = sym kind ∙ h.kind in absurd cc)
    | Of_region h ↦
        let is = row_known servers s q row.id row known (row_moving new) h.disk h.row (sym (same_region (sym kind ∙ h.kind)).0) h.known in
        none_some (sym (ap (λ (r : DiskRow). r.moving) is) ∙ still) h.moves
  ]

  -- before its first region is queued
  abbrev unqueued : State
  unqueued = record begun_state { view = s.view }

  old_fences : AreQueued unqueued
  old_fences = record {
    each = λ i fence e. fence_kept (rowed.rowed servers s q row.id row known (row_moving new) s.view.queue s.view.queued) unqueued fence fence refl refl
        (fence_then servers s q row.id row known (row_moving new) s.view.queue s.view.queued later fence fence refl (p.fences.each i fence e)
        (λ h same. ap (λ (r : DiskRow). snapshot_named r.snaps h.name) (row_known servers s q row.id row known
        (row_moving new) h.disk h.row same h.known) ∙ h.fresh)
        (λ h same. absurd (none_waits i fence h.region e (h.kind ∙ ap (λ k. Region k h.region) same))));
    apart = p.fences.apart;
    once = p.fences.once;
    present = p.fences.present;
  }

  fences_then : AreQueued begun_state
  fences_then = region_queued unqueued row.id 0 old_fences moving_row begun none_waits
      (disk_at_is begun_state.disks.rows (λ i r e. (all_rows i r e).id) row.id ∙ row_now) refl shape_begun

  pub begins : Acted servers s begun_state
  begins = mapping servers s p tuple row.id proper begun_state.disks.rows s.disks.made begun_state.view.queue begun_state.view.queued
      (λ of m e none. none_of (owner begun_state of) (same_owner of m e ∙ ap is_some none))
      (λ of m e none. none_of (owner s of) (sym (same_owner of m e) ∙ ap is_some none)) owned
      all_rows homes_then (names_now servers s q row.id row known (row_moving new) later) later_rows
      (p.made ∙ sym (many_rows servers s q row.id row known (row_moving new)))
      (let e = many_rows servers s q row.id row known (row_moving new) in omega arith) fences_then

-- ### What a Moved comes to

-- the region of the link's map is on its way, and the map has the link
pub record IsNoting (s : State) (of region link : ℕ) : Type 0 where
  pub row : DiskRow
  pub move : Move
  pub known : disk_at s.disks.rows row.id ≡ Some row
  pub moves : row.moving ≡ Some move
  pub old : move.old_map ≡ of
  pub fenced : is_fenced (move_region region (Some move)) ≡ true
  pub low : nat_lt link (links_of s of) ≡ true

pub act_moved : (P : State → Type 0) (servers : ℕ) (s : State) (p : IsSettledState servers s) (of region link : ℕ) → P s
    → ((h : IsNoting s of region link) → P (note s of h.row.id region link)) → P (act (Moved of region link) s)
act_moved P servers s p of region link none notes = by (mover s of) refl
  where
    noting : (row : DiskRow) → mover s of ≡ Some row → is_fenced (move_region region row.moving) ≡ true → nat_lt link (links_of s of) ≡ true
        → (m : Option Move) → row.moving ≡ m → leaves of m ≡ true → (h : IsNoting s of region link) × (h.row ≡ row)
    noting row is on low None moves left = true_false left refl
    noting row is on low (Some move) moves left =
        let at = found_at (λ (r : DiskRow). leaves of r.moving) s.disks.rows row is in (
          record {
            row = row;
            move = move;
            known = disk_at_is s.disks.rows (λ i r e. (p.rows i r e).id) row.id ∙ ap (slice_get s.disks.rows) (p.rows at.0 row at.1).id ∙ at.1;
            moves = moves;
            old = same_numbers move.old_map of left;
            fenced = sym (ap (λ m. is_fenced (move_region region m)) moves) ∙ on;
            low = low;
          },
          refl,
        )

    by : (o : Option DiskRow) → mover s of ≡ o
        → P (moved_by s of region link (option_and_then (λ (row : DiskRow). if is_fenced (move_region region row.moving) then Some row.id else None) o))
    by None is = none
    by (Some row) is = by_test (λ (target : Option ℕ). P (moved_by s of region link target)) (is_fenced (move_region region row.moving)) (Some row.id) None
        (λ on. by_test P (nat_lt link (links_of s of)) (note s of row.id region link) s
        (λ low.
        let h = noting row is on low row.moving refl (found_at (λ (r : DiskRow). leaves of r.moving) s.disks.rows row is).2 in
        subst (λ (r : DiskRow). P (note s of r.id region link)) h.1 (notes h.0))
        (λ high. none))
        (λ off. none)

find_kept : {A : Type 0} (p q : A → Bool) (xs : List A) → ((x : A) → p x ≡ true → q x ≡ true) → find p (filter q xs) ≡ find p xs
find_kept p q [] keeps = refl
find_kept p q (x ∷ xs) keeps = by_bool (p x)
    (λ t. ap (λ b. find p (cond b (x ∷ filter q xs) (filter q xs))) (keeps x t)
    ∙ ap (λ b. cond b (Some x) (find p (filter q xs))) t ∙ sym (ap (λ b. cond b (Some x) (find p xs)) t))
    (λ f. by_bool (q x)
    (λ t. ap (λ b. find p (cond b (x ∷ filter q xs) (filter q xs))) t ∙ ap (λ b. cond b (Some x) (find p (filter q xs))) f
    ∙ find_kept p q xs keeps ∙ sym (ap (λ b. cond b (Some x) (find p xs)) f))
    (λ out. ap (λ b. find p (cond b (x ∷ filter q xs) (filter q xs))) out ∙ find_kept p q xs keeps ∙ sym (ap (λ b. cond b (Some x) (find p xs)) f)))

find_gone : {A : Type 0} (p q : A → Bool) (xs : List A) → ((x : A) → p x ≡ true → q x ≡ false) → find p (filter q xs) ≡ None
find_gone p q [] drops = refl
find_gone p q (x ∷ xs) drops = by_bool (q x)
    (λ t. ap (λ b. find p (cond b (x ∷ filter q xs) (filter q xs))) t
    ∙ ap (λ b. cond b (Some x) (find p (filter q xs))) (by_bool (p x) (λ on. true_false t (drops x on)) (λ f. f)) ∙ find_gone p q xs drops)
    (λ out. ap (λ b. find p (cond b (x ∷ filter q xs) (filter q xs))) out ∙ find_gone p q xs drops)

-- ### A link is noted

module _ (servers : ℕ) (s : State) (p : IsSettledState servers s) (of region link : ℕ) (h : IsNoting s of region link) where
  abbrev links : ℕ
  links = links_of s of

  abbrev all : Bool
  all = all_noted links (with_link link h.move.noted)

  abbrev noted_row : DiskRow → DiskRow
  noted_row = row_noted region link links

  abbrev pub noted_state : State
  noted_state = record s { disks = noted s.disks h.row.id region link links }

  abbrev before : IsUnsettled servers s
  before = p.unsettled

  there : slice_get s.disks.rows h.row.id ≡ Some h.row
  there = here servers s before h.row.id h.row h.known noted_row

  row_before : IsRowAt s.maps h.row.id h.row
  row_before = p.rows h.row.id h.row there

  move_before : IsMove s.maps h.row.id h.row.map h.move
  move_before = row_before.moving h.move h.moves

  next_one : (region ≡ move_before.next) × (move_before.now ≡ Fenced)
  next_one = fenced_next h.move.regions move_before.next region move_before.now move_before.shape h.fenced

  pub on_way : IsShape h.move.regions region Fenced
  on_way = subst (λ k. IsShape h.move.regions k Fenced) (sym next_one.0)
      (subst (IsShape h.move.regions move_before.next) next_one.1 move_before.shape)

  completes_is : completes link links (move_of s h.row.id) ≡ all
  completes_is = ap (λ o. completes link links (option_and_then (λ (r : DiskRow). r.moving) o)) h.known ∙ ap (completes link links) h.moves

  -- what is left of the move
  pub move_then : (b : Bool) → all ≡ b
      → (noted_row h.row).moving ≡ (if b then move_done region h.move else Some (record h.move { noted = with_link link h.move.noted }))
  move_then b e = ap (option_moved region link links) h.moves
      ∙ ap (λ b. if b then move_done region h.move else Some (record h.move { noted = with_link link h.move.noted })) e

  -- it is noted alone, or the region is at the new map and the next one waits, or the move is over
  pub act_note : (P : State → Type 0) → (all ≡ false → P noted_state)
      → (all ≡ true → (region == 15) ≡ false → P (with_fence noted_state (Region h.row.id (region + 1))))
      → (all ≡ true → (region == 15) ≡ true → P (record noted_state { links = dropped s.links of })) → P (note s of h.row.id region link)
  act_note P notes next over =
      by_test P (completes link links (move_of s h.row.id)) (after_region noted_state of h.row.id region) noted_state
      (λ t. by_test P (region == 15) (record noted_state { links = dropped s.links of }) (with_fence noted_state (Region h.row.id (region + 1)))
      (over (sym completes_is ∙ t)) (next (sym completes_is ∙ t)))
      (λ f. notes (sym completes_is ∙ f))

  -- ### The row

  module _ (left : Option Move) (is : (noted_row h.row).moving ≡ left)
      (leaving : (of : ℕ) → leaves of left ≡ true → leaves of (Some h.move) ≡ true)
      (forward : (cell : Cell) → new_stage (move_region (region_of cell.block) (Some h.move)) ≤ new_stage (move_region (region_of cell.block) left))
      (moving : (move : Move) → left ≡ Some move → IsMove s.maps h.row.id h.row.map move) where
    row_onward : IsLaterDisk h.row (noted_row h.row)
    row_onward = record {
      id = refl;
      name = refl;
      map = no_less h.row.map;
      stages = λ cell low. row_on cell h.row (Some h.move) (noted_row h.row).moving left h.moves is (leaving cell.map) (forward cell);
      back = λ map lt gone. (refl, ap (leaves map) h.moves ∙ leaving map (sym (ap (leaves map) is) ∙ gone));
      onward = no_less h.row.epoch;
      more = [];
      snaps = sym (append-nil h.row.snaps);
    }

    row_so : IsRowAt s.maps h.row.id (noted_row h.row)
    row_so = record {
      id = row_before.id;
      of = row_before.of;
      many = row_before.many;
      snaps = row_before.snaps;
      names = row_before.names;
      moving = λ move e. moving move (sym is ∙ e);
    }

    -- no fence waits for a region of the disk
    none_for : (i : ℕ) (fence : Fence) (other : ℕ) → slice_get s.view.queue i ≡ Some fence → fence.kind ≢ Region h.row.id other
    none_for i fence other e kind = elim (p.fences.each i fence e) [
      | Of_disk k ↦ (let f = sym kind ∙ k.kind in absurd cc)
      | Of_region k ↦
          let one = row_known servers s before h.row.id h.row h.known noted_row k.disk k.row (sym (same_region (sym kind ∙ k.kind)).0) k.known in
          let same : k.move ≡ h.move = same_some (sym k.moves ∙ sym (ap (λ (r : DiskRow). r.moving) one) ∙ h.moves) in
          no_fenced h.move.regions k.region region (subst (λ (m : Move). IsShape m.regions k.region Old) same k.shape) on_way
    ]

    fences_so : AreQueued noted_state
    fences_so = record {
      each = λ i fence e. fence_then servers s before h.row.id h.row h.known noted_row s.view.queue s.view.queued row_onward fence fence refl
          (p.fences.each i fence e)
          (λ k same. ap (λ (r : DiskRow). snapshot_named r.snaps k.name) (row_known servers s before h.row.id h.row h.known noted_row k.disk k.row same k.known)
          ∙ k.fresh)
          (λ k same. absurd (none_for i fence k.region e (k.kind ∙ ap (λ n. Region n k.region) same)));
      apart = p.fences.apart;
      once = p.fences.once;
      present = p.fences.present;
    }

    row_still : slice_get noted_state.disks.rows h.row.id ≡ Some (noted_row h.row)
    row_still = here_now servers s before h.row.id h.row h.known noted_row

    at_still : disk_at noted_state.disks.rows h.row.id ≡ Some (noted_row h.row)
    at_still = disk_at_is noted_state.disks.rows
        (λ i r e. (rows_now servers s before h.row.id h.row h.known noted_row s.view.queue s.view.queued row_onward row_so i r e).id) h.row.id ∙ row_still

    module _ (keeps : (of : ℕ) → leaves of left ≡ leaves of (Some h.move)) where
      still_moving : Acted servers s noted_state
      still_moving = rowing servers s before h.row.id h.row h.known noted_row s.view.queue s.view.queued row_onward row_so
          (λ of. ap (λ m. h.row.map == of || leaves of m) is ∙ ap (λ b. h.row.map == of || b) (keeps of)
          ∙ sym (ap (λ m. h.row.map == of || leaves of m) h.moves)) fences_so

      -- and the next region waits
      next_waits : (move : Move) → left ≡ Some move → IsShape move.regions (region + 1) Old
          → Acted servers s (with_fence noted_state (Region h.row.id (region + 1)))
      next_waits move e shape =
          let t = with_fence noted_state (Region h.row.id (region + 1)) in
          let more = region_queued noted_state h.row.id (region + 1) fences_so (noted_row h.row) move none_for at_still (is ∙ e) shape in
          let two = requeued servers noted_state still_moving.plain s.rev t.view.queued t.view.queue s.verdicts more in
          record { plain = two.plain; grown = grown_on s noted_state t still_moving.grown two.grown }

  -- ### Three ends

  -- it is noted alone
  pub noting : all ≡ false → Acted servers s noted_state
  noting none =
      let more : Move = record h.move { noted = with_link link h.move.noted } in
      still_moving (Some more) (move_then false none) (λ of left. left) (λ cell. no_less (new_stage (move_region (region_of cell.block) (Some h.move))))
      (λ move e. subst (IsMove s.maps h.row.id h.row.map) (same_some e) (record {
        old = move_before.old;
        from = move_before.from;
        next = region;
        now = Fenced;
        shape = on_way;
        waits = inr refl;
      }))
      (λ of. refl)

  -- the region is at the new map, and the next one waits
  pub onward : all ≡ true → (region == 15) ≡ false → Acted servers s (with_fence noted_state (Region h.row.id (region + 1)))
  onward every more =
      let next : Move = record h.move { regions = slice_set h.move.regions region New; noted = [] } in
      let shape = shape_next next.regions region (shape_set h.move.regions region Fenced New on_way) (below on_way.low more) in
      next_waits (Some next) (move_then true every ∙ ap (λ b. if b then None else Some next) more) (λ of left. left)
      (λ cell. set_on h.move.regions region (region_of cell.block) Fenced New on_way.here (omega arith))
      (λ move e. subst (IsMove s.maps h.row.id h.row.map) (same_some e) (record {
        old = move_before.old;
        from = move_before.from;
        next = region + 1;
        now = Old;
        shape = shape;
        waits = inl refl;
      }))
      (λ of. refl) next refl shape
    where
      below : region < 16 → (region == 15) ≡ false → region < 15
      below low e = grind (arith, nat_tests)

  -- the move is over
  module _ (every : all ≡ true) (last : (region == 15) ≡ true) where
    abbrev pub moved_state : State
    moved_state = record noted_state { links = dropped s.links of }

    pub nothing_left : (noted_row h.row).moving ≡ None
    nothing_left = move_then true every
        ∙ ap (λ b. if b then None else Some (record h.move { regions = slice_set h.move.regions region New; noted = [] })) last

    over_left : (of : ℕ) → leaves of None ≡ true → leaves of (Some h.move) ≡ true
    over_left of e = true_false e refl

    over_on : (cell : Cell) → new_stage (move_region (region_of cell.block) (Some h.move)) ≤ new_stage (move_region (region_of cell.block) None)
    over_on cell = new_most (move_region (region_of cell.block) (Some h.move))

    over_moving : (move : Move) → None ≡ Some move → IsMove s.maps h.row.id h.row.map move
    over_moving move e = none_some refl e

    over_onward : IsLaterDisk h.row (noted_row h.row)
    over_onward = row_onward None nothing_left over_left over_on over_moving

    over_so : IsRowAt s.maps h.row.id (noted_row h.row)
    over_so = row_so None nothing_left over_left over_on over_moving

    over_fences : AreQueued noted_state
    over_fences = fences_so None nothing_left over_left over_on over_moving

    over_row : slice_get moved_state.disks.rows h.row.id ≡ Some (noted_row h.row)
    over_row = row_still None nothing_left over_left over_on over_moving

    over_rows : (i : ℕ) (other : DiskRow) → slice_get moved_state.disks.rows i ≡ Some other → IsRowAt s.maps i other
    over_rows = rows_now servers s before h.row.id h.row h.known noted_row s.view.queue s.view.queued over_onward over_so

    over_homes : (map d : ℕ) → disk_of s.maps map ≡ Some d → HasHome moved_state map d
    over_homes map d e =
        let k = homes_now servers s before h.row.id h.row h.known noted_row s.view.queue s.view.queued over_onward over_so map d e in
        record { row = k.row; is = k.is; newest = k.newest }

    over_later : (i : ℕ) (other : DiskRow) → slice_get s.disks.rows i ≡ Some other → HasLaterDisk moved_state i other
    over_later i other e =
        let k = rows_later servers s before h.row.id h.row h.known noted_row s.view.queue s.view.queued over_onward over_so i other e in
        record { now = k.now; is = k.is; so = k.so }

    -- each other map is the disk's as before
    over_keeps : (map : ℕ) → map ≢ of → has_map map (noted_row h.row) ≡ has_map map h.row
    over_keeps map ne =
        ap (λ m. h.row.map == map || leaves map m) nothing_left
        ∙ sym (ap (λ m. h.row.map == map || leaves map m) h.moves ∙ ap (λ b. h.row.map == map || b) other)
      where
        other : (h.move.old_map == map) ≡ false
        other = by_bool (h.move.old_map == map) (λ t. absurd (ne (sym (same_numbers h.move.old_map map t) ∙ h.old))) (λ f. f)

    -- and the old one is nobody's
    over_gone : has_map of (noted_row h.row) ≡ false
    over_gone = ap (λ m. h.row.map == of || leaves of m) nothing_left ∙ ap (λ b. b || false) other
      where
        other : (h.row.map == of) ≡ false
        other = by_bool (h.row.map == of)
            (λ t. let a = same_numbers h.row.map of t in let b = move_before.old in let c = h.old in absurd (omega arith)) (λ f. f)

    over_home : home moved_state of ≡ Some (noted_row h.row)
    over_home = ap (λ d. option_and_then (slice_get moved_state.disks.rows) d) (ap (disk_of s.maps) (sym h.old) ∙ move_before.from) ∙ over_row

    no_owner_then : owner moved_state of ≡ None
    no_owner_then = owner_is moved_state over_rows of ∙ ap (option_and_then (kept_by of)) over_home
        ∙ ap (λ b. if b then Some (noted_row h.row) else None) over_gone

    pub kept_link : (map at : ℕ) → map ≢ of → link_at moved_state.links map at ≡ link_at s.links map at
    kept_link map at ne = find_kept (is_link map at) (λ (r : LinkRow). not (r.map == of)) s.links (λ r e.
        ap not (by_bool (r.map == of) (λ t. absurd (ne (sym (same_numbers r.map map (both_true (r.map == map) (r.link == at) e).0) ∙ same_numbers r.map of t)))
        (λ f. f)))

    pub gone_link : (at : ℕ) → link_at moved_state.links of at ≡ None
    gone_link at = find_gone (is_link of at) (λ (r : LinkRow). not (r.map == of)) s.links (λ r e.
        ap not (both_true (r.map == of) (r.link == at) e).0)

    over_gone_cells : IsGone moved_state of
    over_gone_cells block =
        let cell : Cell = record { map = of; block = block } in
        stage_is moved_state over_rows over_homes cell ∙ ap (stage_in cell) over_home
        ∙ ap (λ b. if b then stage_under cell (noted_row h.row) else 4) over_gone

    link_then : (map at : ℕ) (tuple : List ℕ) → tuple_of s.maps map ≡ Some tuple → at < length tuple → owner moved_state map ≢ None
        → HasLinkOf moved_state map tuple at
    link_then map at tuple e lt has = elim (same_or_apart map of) [
      | inl same ↦ absurd (has (ap (owner moved_state) same ∙ no_owner_then))
      | inr ne ↦ (let old = p.links map at tuple e lt (λ none. has
          (owner_then servers s before h.row.id h.row h.known noted_row s.view.queue s.view.queued over_onward over_so map (over_keeps map ne) none)) in
          record {
            row = old.row;
            is = kept_link map at ne ∙ old.is;
            asked = asked_on s moved_state map tuple at old.row old.asked old.asked.served;
          })
    ]

    pub over : Acted servers s moved_state
    over = record {
      plain = record {
        many = p.many;
        members = p.members;
        fences = record {
          each = λ i fence e. fence_kept noted_state moved_state fence fence refl refl (over_fences.each i fence e);
          apart = over_fences.apart;
          once = over_fences.once;
          present = over_fences.present;
        };
        made = p.made ∙ sym (many_rows servers s before h.row.id h.row h.known noted_row);
        homes = over_homes;
        rows = over_rows;
        names = names_now servers s before h.row.id h.row h.known noted_row over_onward;
        tuples = p.tuples;
        links = link_then;
        unlinked = λ map at none. elim (same_or_apart map of) [
          | inl same ↦ ap (λ k. link_at moved_state.links k at) same ∙ gone_link at
          | inr ne ↦ kept_link map at ne ∙ p.unlinked map at
              (owner_before servers s before h.row.id h.row h.known noted_row s.view.queue s.view.queued over_onward over_so map (over_keeps map ne) none)
        ];
        found = λ row k.
            let m = in_filter (λ (r : LinkRow). not (r.map == of)) s.links row k in
            let ne : row.map ≢ of = λ e. true_false (ap (λ n. n == of) e ∙ number_itself of) (not_true (row.map == of) m.1) in
            kept_link row.map row.link ne ∙ p.found row m.0;
      };
      grown = record {
        many = (let e = many_rows servers s before h.row.id h.row h.known noted_row in omega arith);
        rows = over_later;
        maps = λ map m e. e;
        links = λ map at row e. elim (same_or_apart map of) [
          | inl same ↦ inr (subst (IsGone moved_state) (sym same) over_gone_cells)
          | inr ne ↦ inl (same_row s moved_state map at row (kept_link map at ne ∙ e))
        ];
        stages = stages_later s moved_state p.rows p.homes over_later (λ map m e. e) over_rows over_homes;
        ages = λ n. no_less (age_of s n);
      };
    }
