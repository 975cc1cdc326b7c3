-- What the machine is told of a server's step, put together: takes, then disks that are made, then snapshots that are taken, then looks.
use Rattle.law_run.proofs.Imports.{[], ◌++◌, ◌==◌, ◌∙◌, ◌≡◌, ◌≤◌, AreDisks, AreSnapshots, Bool, Cell, Chain, DiskRow, Event, Holds, In, IsLaterDisk}
use Rattle.law_run.proofs.Imports.{IsSettledState, List, None, Obeys, Option, Plain, Snapshot, Some, State, Stored, ap, append-nil, arith, authority, by_bool}
use Rattle.law_run.proofs.Imports.{bytes_of, chain_in, chosen_state, content_at, counted, disk_at, disk_of, entry_at, entry_before, entry_by, entry_of}
use Rattle.law_run.proofs.Imports.{epoch_at, events_with, false, find_none, first_entry, flat_map, found_at, fresh_rows, get_in, has_content_at, has_map}
use Rattle.law_run.proofs.Imports.{in-append, in_former, in_get, in_later, in_map, in_mapped, in_none, inl, inr, is_disk, is_some, kept, later_place}
use Rattle.law_run.proofs.Imports.{later_rows, length, make_of, map, named, named_cell, nat_lists_same, old_cell, old_or_new, option_and_then, refl, replay}
use Rattle.law_run.proofs.Imports.{same_name, same_numbers, same_some, slice_get, slice_get_within, snapshots_of, some_or_none, stage_at, stays_row, subst}
use Rattle.law_run.proofs.Imports.{sym, true, zero_block, ℕ}
use Rattle.law_run.specs.MachineTies.{Follow, Stores}
use Rattle.law_run.proofs.ChosenDisks.{rows_in, content_is, disks_now, has_content_is, made_before, named_map_is, old_map_is, plain_now}
use Rattle.law_run.proofs.EntryAtEpoch.{AreUpTo, entry_later}
use Rattle.law_run.proofs.ContentsByCells.{entry_over, has_over, is_between}
use Rattle.law_run.proofs.SnapshotsTaken.{AllFrozen, IsFrozenFrom, apart_by, freeze_rows, freezes_of}
use Rattle.law_run.proofs.Machine.{Obeys-append, onward_joined, replay-append, follow_onward}
use Rattle.law_run.proofs.DisksMade.{Made, fresh_made, made_all, made_same, new_row, unlike_named}
use Rattle.law_run.proofs.SnapshotsAreChosen.{as_of}
use Rattle.law_run.proofs.EventsOfServerSteps.{LooksTold, ServerStep, ServerTold, TakesTold, ends_of, frozen_early, frozen_empty, looks_here, unput}
use Rattle.law_run.proofs.EventsOfServerSteps.{unput_above}

module _ (this : ServerStep) where
  open ends_of this use {v, after}

  abbrev before : State
  before = chosen_state this.setting this.w

  abbrev old_rows : List DiskRow
  old_rows = rows_in this.setting this.w

  abbrev new_rows : List DiskRow
  new_rows = rows_in this.setting v

  -- the disks that the step chose
  abbrev more : List DiskRow
  more = later_rows before after

  one : IsSettledState this.setting.servers before
  one = plain_now this.setting this.w this.along.firm

  two : IsSettledState this.setting.servers after
  two = plain_now this.setting v this.next.firm

  abbrev has : DiskRow → (epoch block : ℕ) → Bool
  has row = has_content_at this.setting v row.id

  abbrev contents : DiskRow → (epoch block : ℕ) → List ℕ
  contents row = content_at this.setting v row.id

  -- ### Contents at epochs that no server knows of yet

  -- where the entries of the cell under which a block is named, and what was frozen, are of no epoch above one, later epochs have the same
  module _ (row : DiskRow) (there : In row new_rows) (b from : ℕ)
      (low : (cell : Cell) → has_map cell.map row ≡ true → epoch_at before cell ≤ from)
      (frozen : is_between row b ≡ true → (chain : Chain) → v.frozen (old_cell row b) ≡ Some chain → AreUpTo chain from) where
    named_same : (epoch : ℕ) → from ≤ epoch
        → entry_of after (counted this.setting v) (named_cell row b) epoch ≡ entry_of after (counted this.setting v) (named_cell row b) from
    named_same epoch le = by (authority after (named_cell row b))
      where
        by : (o : Option ℕ) → entry_by (counted this.setting v) (named_cell row b) epoch o ≡ entry_by (counted this.setting v) (named_cell row b) from o
        by None = refl
        by (Some i) =
            let up = low (named_cell row b) (named_map_is this.setting.servers after two (disks_now this.setting v this.next.firm) row there b) in
            entry_later (chain_in (kept this.setting v i).chains (named_cell row b)) from epoch
            (λ r h. let le = unput_above this (named_cell row b) i r h in omega arith) le

    below_same : (epoch : ℕ) → from ≤ epoch → is_between row b ≡ true → entry_before v (old_cell row b) epoch ≡ entry_before v (old_cell row b) from
    below_same epoch le between = elim (some_or_none (v.frozen (old_cell row b))) [
      | inr none ↦ ap (option_and_then (λ chain. entry_at chain epoch)) none ∙ sym (ap (option_and_then (λ chain. entry_at chain from)) none)
      | inl f ↦ ap (option_and_then (λ chain. entry_at chain epoch)) f.1 ∙ entry_later f.0 from epoch (frozen between f.0 f.1) le
          ∙ sym (ap (option_and_then (λ chain. entry_at chain from)) f.1)
    ]

    still_so : (epoch : ℕ) → from ≤ epoch → (has row epoch b ≡ has row from b) × (contents row epoch b ≡ contents row from b)
    still_so epoch le = by (is_between row b) refl
      where
        by : (between : Bool) → is_between row b ≡ between → (has row epoch b ≡ has row from b) × (contents row epoch b ≡ contents row from b)
        by between e = (
          has_content_is this.setting v this.next.firm row there epoch b
              ∙ (λ i. has_over (is_between row b) (is_some (authority after (named_cell row b))) (named_same epoch le i)
              (is_some (v.frozen (old_cell row b))))
              ∙ sym (has_content_is this.setting v this.next.firm row there from b),
          content_is this.setting v this.next.firm row there epoch b ∙ ap bytes_of (over_same between e)
              ∙ sym (content_is this.setting v this.next.firm row there from b),
        )
          where
            over_same : (between : Bool) → is_between row b ≡ between
                → entry_over (is_between row b) (entry_of after (counted this.setting v) (named_cell row b) epoch) (entry_before v (old_cell row b) epoch)
                ≡ entry_over (is_between row b) (entry_of after (counted this.setting v) (named_cell row b) from) (entry_before v (old_cell row b) from)
            over_same false e =
                ap (λ t. entry_over t (entry_of after (counted this.setting v) (named_cell row b) epoch) (entry_before v (old_cell row b) epoch)) e
                ∙ named_same epoch le
                ∙ sym (ap (λ t. entry_over t (entry_of after (counted this.setting v) (named_cell row b) from) (entry_before v (old_cell row b) from)) e)
            over_same true e =
                (λ i. entry_over (is_between row b) (named_same epoch le i) (below_same epoch le e i))

  -- the snapshots that a disk had before the step
  abbrev done : DiskRow → List Snapshot
  done row = snapshots_of (disk_at old_rows row.id)

  -- ### A disk that there was

  module _ (row was : DiskRow) (h : In was old_rows) (so : IsLaterDisk was row) where
    done_was : done row ≡ was.snaps
    done_was = ap snapshots_of (ap (disk_at old_rows) so.id ∙ (disks_now this.setting this.w this.along.firm).at was h)

    many_was : length was.snaps ≡ was.epoch
    many_was = let at = get_in old_rows was h in (one.rows at.0 was at.1).many

    -- each cell of its maps had no later epoch
    was_low : (there : In row new_rows) → (cell : Cell) → has_map cell.map row ≡ true → epoch_at before cell ≤ length (done row)
    was_low there cell has_it =
        let at = get_in new_rows row there in
        let was_at = get_in old_rows was h in
        let many = sym many_was ∙ ap (λ (x : List Snapshot). length x) (sym done_was) in
        elim (made_before this.setting.servers before after one two this.grown at.0 row at.1 cell has_it) [
          | inl none ↦ (let e = none.1 in omega arith)
          | inr m ↦
              let place : at.0 ≡ was_at.0 = sym (two.rows at.0 row at.1).id ∙ so.id ∙ (one.rows was_at.0 was was_at.1).id in
              let same : m.was ≡ was = same_some (sym m.is ∙ ap (slice_get old_rows) place ∙ was_at.1) in
              let e : epoch_at before cell ≡ length (done row) = m.epoch ∙ ap (λ (r : DiskRow). r.epoch) same ∙ many in
              omega arith
        ]

    still_was : (there : In row new_rows) (epoch b : ℕ) → length (done row) ≤ epoch
        → (has row epoch b ≡ has row (length (done row)) b) × (contents row epoch b ≡ contents row (length (done row)) b)
    still_was there epoch b le = still_so row there b (length (done row)) (was_low there) (frozen_low there b) epoch le
      where
        frozen_low : (there : In row new_rows) (b : ℕ) → is_between row b ≡ true → (chain : Chain) → v.frozen (old_cell row b) ≡ Some chain
            → AreUpTo chain (length (done row))
        frozen_low there b between chain is r there_row =
            let low =
            was_low there (old_cell row b) (old_map_is this.setting.servers after two (disks_now this.setting v this.next.firm) row there b between) in
            let up = frozen_early this (old_cell row b) chain is r there_row in
            omega arith

    frozen_was : In row new_rows → IsFrozenFrom has contents done row
    frozen_was there =
        let at = get_in new_rows row there in
        record {
          maps = after.maps;
          place = at.0;
          is = two.rows at.0 row at.1;
          more = so.more;
          snaps = so.snaps ∙ ap (λ s. s ++ so.more) (sym done_was);
          still = still_was there;
        }

  -- ### A disk that was made

  module _ (row : DiskRow) (h : In row more) where
    place : (i : ℕ) × (slice_get new_rows i ≡ Some row) × (length old_rows ≤ i)
    place = later_place this.setting.servers before after one two this.grown row h

    there_new : In row new_rows
    there_new = in_get new_rows place.0 row place.1

    done_new : done row ≡ []
    done_new = ap snapshots_of (find_none (is_disk row.id) old_rows (λ j other there.
        by_bool (other.id == row.id)
        (λ t.
        let same = same_numbers other.id row.id t in
        let old = (one.rows j other there).id in
        let new = (two.rows place.0 row place.1).id in
        let lt = slice_get_within old_rows j other there in
        let le = place.2 in
        absurd (omega arith))
        (λ f. f)))

    -- its cells were not live before the step, so that no server has put anything of them, and nothing of them was frozen
    new_zero : (cell : Cell) → has_map cell.map row ≡ true → stage_at before cell ≡ 0
    new_zero cell has_it = elim (made_before this.setting.servers before after one two this.grown place.0 row place.1 cell has_it) [
      | inl none ↦ none.0
      | inr m ↦ (let lt = slice_get_within old_rows place.0 m.was m.is in let le = place.2 in absurd (omega arith))
    ]

    empty_new : (epoch b : ℕ) → contents row epoch b ≡ zero_block
    empty_new epoch b =
        content_is this.setting v this.next.firm row there_new epoch b ∙ ap bytes_of (nothing (is_between row b) refl)
      where
        new_disks : AreDisks after
        new_disks = disks_now this.setting v this.next.firm

        none_of : (o : Option ℕ) → entry_by (counted this.setting v) (named_cell row b) epoch o ≡ None
        none_of None = refl
        none_of (Some i) = ap (λ c. entry_at c epoch) (unput this (named_cell row b)
            (new_zero (named_cell row b) (named_map_is this.setting.servers after two new_disks row there_new b)) i)

        none_before_it : is_between row b ≡ true → entry_before v (old_cell row b) epoch ≡ None
        none_before_it between = elim (some_or_none (v.frozen (old_cell row b))) [
          | inr none ↦ ap (option_and_then (λ chain. entry_at chain epoch)) none
          | inl f ↦ ap (option_and_then (λ chain. entry_at chain epoch)) f.1
              ∙ ap (λ c. entry_at c epoch) (frozen_empty this (old_cell row b)
              (new_zero (old_cell row b) (old_map_is this.setting.servers after two new_disks row there_new b between)) f.0 f.1)
        ]

        nothing : (between : Bool) → is_between row b ≡ between
            → entry_over (is_between row b) (entry_of after (counted this.setting v) (named_cell row b) epoch) (entry_before v (old_cell row b) epoch) ≡ None
        nothing false e =
            ap (λ t. entry_over t (entry_of after (counted this.setting v) (named_cell row b) epoch) (entry_before v (old_cell row b) epoch)) e
            ∙ none_of (authority after (named_cell row b))
        nothing true e =
            ap (λ t. entry_over t (entry_of after (counted this.setting v) (named_cell row b) epoch) (entry_before v (old_cell row b) epoch)) e
            ∙ (λ i. first_entry (none_of (authority after (named_cell row b)) i) (none_before_it e i))

    has_new : (epoch b : ℕ) → has row epoch b ≡ has row 0 b
    has_new epoch b = (still_so row there_new b 0
        (λ cell has_it. let zero = zero_epoch cell has_it in omega arith)
        (λ between chain is r there_row. absurd (none_in chain is between r there_row)) epoch (omega arith)).0
      where
        zero_epoch : (cell : Cell) → has_map cell.map row ≡ true → epoch_at before cell ≡ 0
        zero_epoch cell has_it = elim (made_before this.setting.servers before after one two this.grown place.0 row place.1 cell has_it) [
          | inl none ↦ none.1
          | inr m ↦ (let lt = slice_get_within old_rows place.0 m.was m.is in let le = place.2 in absurd (omega arith))
        ]

        none_in : (chain : Chain) → v.frozen (old_cell row b) ≡ Some chain → is_between row b ≡ true → (r : ℕ × Stored) → In r chain → ⊥
        none_in chain is between r there_row =
            let empty = frozen_empty this (old_cell row b)
            (new_zero (old_cell row b) (old_map_is this.setting.servers after two (disks_now this.setting v this.next.firm) row there_new b between))
            chain is in
            in_none r (subst (λ (c : Chain). In r c) empty there_row)

    frozen_new : IsFrozenFrom has contents done row
    frozen_new = record {
      maps = after.maps;
      place = place.0;
      is = two.rows place.0 row place.1;
      more = row.snaps;
      snaps = (λ i. sym done_new i ++ row.snaps);
      still = λ epoch b le.
          (has_new epoch b ∙ sym (has_new (length (done row)) b), empty_new epoch b ∙ sym (empty_new (length (done row)) b));
    }

  frozen_from : (row : DiskRow) → In row new_rows → IsFrozenFrom has contents done row
  frozen_from row there = elim (old_or_new this.setting.servers before after one two this.grown row there) [
    | inl old ↦ frozen_was row old.0 old.1 old.2 there
    | inr new ↦ frozen_new row new
  ]

  -- ### What is told

  module _ (taken : TakesTold this) where
    abbrev k1 : Plain
    k1 = replay this.m taken.es

    abbrev ms : List Event
    ms = map make_of (map new_row more)

    abbrev k2 : Plain
    k2 = replay k1 ms

    abbrev fs : List Event
    fs = flat_map (freezes_of has contents done) new_rows

    abbrev k3 : Plain
    k3 = replay k2 fs

    made : Made this.setting (old_rows ++ map new_row more) v k1 ms
    made = made_all this.setting v old_rows (map new_row more) k1
        (fresh_made old_rows more (fresh_rows this.setting.servers before after two this.grown)) taken.follows.stores
        (λ row h. let from = in_map new_row more row h in ap (λ (r : DiskRow). r.snaps) from.2)
        (λ row h b.
        let from = in_map new_row more row h in
        subst (λ (r : DiskRow). content_at this.setting v r.id r.epoch b ≡ zero_block) (sym from.2) (empty_new from.0 from.1 0 b))

    held_was : (row was : DiskRow) (h : In was old_rows) → IsLaterDisk was row
        → Holds k2.disks was (has_content_at this.setting v was.id) (content_at this.setting v was.id)
        → Holds k2.disks (as_of row (done row)) (has row) (contents row)
    held_was row was h so k =
        let id : was.id ≡ row.id = sym so.id in
        let snaps : was.snaps ≡ done row = sym (done_was row was h so) in
        let epoch : was.epoch ≡ length (done row) = sym (many_was row was h so) ∙ ap (λ (x : List Snapshot). length x) snaps in
        record {
          disk = k.disk;
          is = ap (disk_of k2.disks) so.name ∙ k.is;
          same = λ b there.
              k.same b ((λ i. has_content_at this.setting v (id i) (epoch i) b) ∙ there)
              ∙ (λ i. content_at this.setting v (id i) (epoch i) b);
          snapshots = subst (λ d. AreSnapshots k.disk.snaps (done row) (has_content_at this.setting v d) (content_at this.setting v d)) id
              (subst (λ x. AreSnapshots k.disk.snaps x (has_content_at this.setting v was.id) (content_at this.setting v was.id)) snaps k.snapshots);
        }

    -- each disk has what it had of snapshots before the step
    held_then : (row : DiskRow) → In row new_rows → Holds k2.disks (as_of row (done row)) (has row) (contents row)
    held_then row there = elim (old_or_new this.setting.servers before after one two this.grown row there) [
      | inl old ↦ held_was row old.0 old.1 old.2 (made.stores.known old.0 (in_former old.0 old_rows (map new_row more) old.1))
      | inr new ↦ subst (λ snaps. Holds k2.disks (as_of row snaps) (has row) (contents row)) (sym (done_new row new))
          (made.stores.known (new_row row) (in_later (new_row row) old_rows (map new_row more) (in_mapped new_row more row new)))
    ]

    all_frozen : AllFrozen has contents done k2 new_rows fs
    all_frozen = freeze_rows has contents done k2 new_rows (apart_by new_rows two.names) frozen_from made.stores.mindful held_then

    -- a name that is of no disk after the step was of none of these
    none_then : (name : List ℕ) → named new_rows name ≡ None → named (old_rows ++ map new_row more) name ≡ None
    none_then name none = elim (some_or_none (named (old_rows ++ map new_row more) name)) [
      | inr gone ↦ gone
      | inl some ↦
          let at = found_at (λ row. same_name row.name name) (old_rows ++ map new_row more) some.0 some.1 in
          let same : some.0.name ≡ name = nat_lists_same some.0.name name at.2 in
          elim (in-append some.0 old_rows (map new_row more) (in_get (old_rows ++ map new_row more) at.0 some.0 at.1)) [
            | inl old ↦
                let later = stays_row this.setting.servers before after one two this.grown some.0 old in
                absurd (unlike_named new_rows name later.now none later.there (later.so.name ∙ same))
            | inr new ↦
                let from = in_map new_row more some.0 new in
                absurd (unlike_named new_rows name from.0 none (there_new from.0 from.1) (ap (λ (r : DiskRow). r.name) (sym from.2) ∙ same))
          ]
    ]

    following : Follow this.setting new_rows v k3
    following = follow_onward this.setting old_rows new_rows v k1 k3 taken.follows (onward_joined k1 k2 k3 made.onward all_frozen.onward) (record {
      known = all_frozen.known;
      unknown = λ name none.
          all_frozen.others name (λ row h e. unlike_named new_rows name row none h (sym e)) ∙ made.stores.unknown name (none_then name none);
      mindful = all_frozen.mindful;
    })

  pub assembled : TakesTold this → LooksTold this → ServerTold this
  assembled taken look =
      let m1 = k1 taken in
      let m3 = k3 taken in
      let made_now = made taken in
      let frozen = all_frozen taken in
      let follow = following taken in
      let seen = look m3 follow in
      let ls = looks_here this in
      let m4 = replay m3 ls in
      let following = ms taken ++ fs taken in
      let there : replay m1 following ≡ m3 = replay-append m1 (ms taken) (fs taken) in
      let stores : Stores this.setting new_rows v m4 =
      record {
        known = λ row h.
            let k = follow.stores.known row h in
            record { disk = k.disk; is = ap (λ ds. disk_of ds row.name) seen.disks ∙ k.is; same = k.same; snapshots = k.snapshots };
        unknown = λ name none. ap (λ ds. disk_of ds name) seen.disks ∙ follow.stores.unknown name none;
        mindful = seen.mindful;
      } in
      record {
        es = taken.es ++ (following ++ ls);
        is = (λ i. events_with [] (taken.is i) (sym (made_same more) i ++ fs taken ++ ls) (Some []))
            ∙ ap (λ told. Some (taken.es ++ told)) (append-nil (following ++ ls));
        may = Obeys-append this.m taken.es (following ++ ls) taken.may
            (Obeys-append m1 following ls (Obeys-append m1 (ms taken) (fs taken) made_now.may frozen.may) (subst (λ k. Obeys k ls) (sym there) seen.may));
        follows = subst (Follow this.setting new_rows v)
            (sym (replay-append this.m taken.es (following ++ ls) ∙ replay-append m1 following ls ∙ ap (λ k. replay k ls) there))
            (follow_onward this.setting new_rows new_rows v m3 m4 follow seen.onward stores);
      }
