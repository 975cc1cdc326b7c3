-- A stopped server's device is made blank: the store from before counts on, so that the machine is told nothing.
use Rattle.law_run.proofs.Imports.{[], if◌then◌else◌, ◌++◌, ◌==◌, ◌∙◌, ◌≡◌, BeforeBlank, Blank, Cell, DiskRow, Firm, IsLinked, None, Option, Pending, Plain}
use Rattle.law_run.proofs.Imports.{Server, Setting, Some, Store, World, acts, all_put_apart, ap, at, authority, blank_joins_in, blanked, bytes_of, cell_cmp}
use Rattle.law_run.proofs.Imports.{chain_in, change_by, chosen_log, chosen_same, chosen_state, content_at, content_where, counted, disk_at, drop, entry_at}
use Rattle.law_run.proofs.Imports.{entry_by, entry_of, events_with, false, flat_map, freezes, freezes_on, has_content_at, has_content_where, in_both, inl}
use Rattle.law_run.proofs.Imports.{inr, is_some, kept, kept_store, length, make_of, makes, map, named_cell, nat_cmp, number_itself, old_cell, option_and_then}
use Rattle.law_run.proofs.Imports.{put_apart, put_same, refl, same_or_apart, state_after, state_in, stays, subst, sym, takes, true, true_false, ℕ}
use Rattle.law_run.proofs.ContentsByCells.{entry_named, entry_over, has_named, has_over, is_between}
use Rattle.law_run.specs.MachineTies.{Follow, HasCounted, Is_counted, Is_followed}
use Rattle.law_run.proofs.ChosenDisks.{disks_now, rows_in}
use Rattle.law_run.proofs.StoresThatCount.{frozen_stays}
use Rattle.law_run.proofs.SnapshotsTaken.{no_freezes}
use Rattle.law_run.proofs.DisksMade.{drop_all}
use Rattle.law_run.proofs.SnapshotsAreChosen.{snapshots_on}
use Rattle.law_run.proofs.ContentChanges.{no_takes}

module _ (setting : Setting) (w : World) (n stamp : ℕ) where
  abbrev pub blank_world : World
  blank_world = (acts setting w n Blank stamp (stays (blanked (w.servers n)))).world

  abbrev v : World
  v = blank_world

  -- nothing is chosen
  same : chosen_log setting v ≡ chosen_log setting w
  same = chosen_same setting w n stamp Blank (stays (blanked (w.servers n))) refl

  state_same : chosen_state setting v ≡ chosen_state setting w
  state_same = ap (state_after setting.servers) same

  -- the store from before counts, while as many Joins with an empty store are chosen
  counts_before : (joins now : ℕ) (store other : Store) → now ≡ joins → kept_store now (Some (record { joins = joins; store = store })) other ≡ store
  counts_before joins now store other e =
      ap (λ b. if b then store else other) (ap (λ k. joins == k) e ∙ number_itself joins)

  -- the store from before the blank
  abbrev from_before : Option BeforeBlank
  from_before = Some (record { joins = blank_joins_in setting (chosen_log setting w) n; store = kept setting w n })

  -- what counts of stores is as before
  pub blank_kept : (i : ℕ) → kept setting v i ≡ kept setting w i
  blank_kept i = elim (same_or_apart i n) [
    | inl e ↦
        subst (λ j. kept setting v j ≡ kept setting w j) (sym e)
        (ap (λ (o : Option BeforeBlank). kept_store (blank_joins_in setting (chosen_log setting v) n) o (v.servers n).own.store)
        (put_same w.before_blank n from_before)
        ∙ counts_before (blank_joins_in setting (chosen_log setting w) n) (blank_joins_in setting (chosen_log setting v) n) (kept setting w n)
        (v.servers n).own.store
        (ap (λ log. blank_joins_in setting log n) same))
    | inr ne ↦
        (λ k. kept_store (blank_joins_in setting (same k) i) (put_apart w.before_blank n from_before i ne k)
        (put_apart w.servers n (blanked (w.servers n)) i ne k).own.store)
  ]

  held_same : (cell : Cell) (epoch : ℕ) (o : Option ℕ) → entry_by (counted setting v) cell epoch o ≡ entry_by (counted setting w) cell epoch o
  held_same cell epoch None = refl
  held_same cell epoch (Some i) = ap (λ (s : Store). entry_at (chain_in s.chains cell) epoch) (blank_kept i)

  entry_same : (cell : Cell) (epoch : ℕ)
      → entry_of (chosen_state setting v) (counted setting v) cell epoch ≡ entry_of (chosen_state setting w) (counted setting w) cell epoch
  entry_same cell epoch =
      ap (λ s. entry_by (counted setting v) cell epoch (authority s cell)) state_same
      ∙ held_same cell epoch (authority (chosen_state setting w) cell)

  frozen_same : (cell : Cell) → v.frozen cell ≡ w.frozen cell
  frozen_same cell = frozen_stays setting w v same cell

  content_where_same : (o : Option DiskRow) (epoch b : ℕ)
      → content_where (chosen_state setting v) (counted setting v) o epoch b ≡ content_where (chosen_state setting w) (counted setting w) o epoch b
  content_where_same None epoch b = refl
  content_where_same (Some row) epoch b =
      ap bytes_of (entry_named (chosen_state setting v) (counted setting v) row epoch b
      ∙ (λ i. entry_over (is_between row b) (entry_same (named_cell row b) epoch i)
      (option_and_then (λ chain. entry_at chain epoch) (frozen_same (old_cell row b) i)))
      ∙ sym (entry_named (chosen_state setting w) (counted setting w) row epoch b))

  has_where_same : (o : Option DiskRow) (epoch b : ℕ)
      → has_content_where (chosen_state setting v) (counted setting v) o epoch b ≡ has_content_where (chosen_state setting w) (counted setting w) o epoch b
  has_where_same None epoch b = refl
  has_where_same (Some row) epoch b =
      has_named (chosen_state setting v) (counted setting v) row epoch b
      ∙ (λ i. has_over (is_between row b) (is_some (authority (state_same i) (named_cell row b))) (entry_same (named_cell row b) epoch i)
      (is_some (frozen_same (old_cell row b) i)))
      ∙ sym (has_named (chosen_state setting w) (counted setting w) row epoch b)

  content_same : (disk epoch b : ℕ) → content_at setting v disk epoch b ≡ content_at setting w disk epoch b
  content_same disk epoch b =
      ap (λ s. content_where (chosen_state setting v) (counted setting v) (disk_at s.disks.rows disk) epoch b) state_same
      ∙ content_where_same (disk_at (chosen_state setting w).disks.rows disk) epoch b

  has_same : (disk epoch b : ℕ) → has_content_at setting v disk epoch b ≡ has_content_at setting w disk epoch b
  has_same disk epoch b =
      ap (λ s. has_content_where (chosen_state setting v) (counted setting v) (disk_at s.disks.rows disk) epoch b) state_same
      ∙ has_where_same (disk_at (chosen_state setting w).disks.rows disk) epoch b

  -- ### What is told

  module _ (firm : Firm setting w) where
    blank_takes : takes (change_by setting w v) ≡ Some []
    blank_takes = no_takes (change_by setting w v) (λ row h b has.
        let at = (disks_now setting w firm).at row h in (
          sym (ap (λ o. has_content_where (chosen_state setting w) (counted setting w) o row.epoch b) at) ∙ sym (has_same row.id row.epoch b) ∙ has,
          sym (ap (λ o. content_where (chosen_state setting w) (counted setting w) o row.epoch b) at) ∙ sym (content_same row.id row.epoch b),
        ))

    blank_makes : makes (change_by setting w v) ≡ []
    blank_makes = ap (λ s. map make_of (drop (length (rows_in setting w)) s.disks.rows)) state_same ∙ ap (map make_of) (drop_all (rows_in setting w))

    blank_freezes : freezes (change_by setting w v) ≡ []
    blank_freezes =
        ap (λ s. flat_map (freezes_on (change_by setting w v)) s.disks.rows) state_same
        ∙ no_freezes (rows_in setting w) (rows_in setting w) (λ row h. (disks_now setting w firm).at row h)

    pub blank_told : events_with [] (takes (change_by setting w v)) (makes (change_by setting w v) ++ freezes (change_by setting w v) ++ []) (Some []) ≡ Some []
    blank_told = (λ i. events_with [] (blank_takes i) (blank_makes i ++ blank_freezes i ++ []) (Some []))

  -- ### Servers and clients stay tied to the machine

  module _ (m : Plain) (asleep : (w.servers n).life.running ≡ false) (follow : Follow setting (rows_in setting w) w m) where
    -- who runs is as before
    as_before : (i : ℕ) → (v.servers i).life.running ≡ true → v.servers i ≡ w.servers i
    as_before = all_put_apart w.servers n (blanked (w.servers n)) (λ i (x : Server). x.life.running ≡ true → x ≡ w.servers i)
        (λ i ne on. refl) (λ on. true_false on asleep)

    counted_back : (i : ℕ) (cell : Cell) (op : Pending) → v.servers i ≡ w.servers i → HasCounted setting v i cell op (chain_in (kept setting v i).chains cell)
        → HasCounted setting w i cell op (chain_in (kept setting w i).chains cell)
    counted_back i cell op e (Is_followed row linked both shared put equal) =
        Is_followed row (subst (λ (x : Server). IsLinked setting x.log.applied cell row) e linked) both
        (ap (λ s. in_both s cell) (sym state_same) ∙ shared) put
        (ap (λ (s : Store). chain_in s.chains cell) (sym (blank_kept i)) ∙ equal
        ∙ ap (λ (s : Store). chain_in s.chains cell) (blank_kept row.secondary))
    counted_back i cell op e (Is_counted put here) = Is_counted put (ap (λ s. authority s cell) (sym state_same) ∙ here)

    pub blank_follow : Follow setting (rows_in setting v) v m
    blank_follow = subst (λ s. Follow setting s.disks.rows v m) (sym state_same) (record {
      stores = record {
        known = λ row h.
            let k = follow.stores.known row h in
            record {
              disk = k.disk;
              is = k.is;
              same = λ b has. k.same b (sym (has_same row.id row.epoch b) ∙ has) ∙ sym (content_same row.id row.epoch b);
              snapshots = snapshots_on k.disk.snaps row.snaps (has_content_at setting w row.id) (has_content_at setting v row.id)
                  (content_at setting w row.id) (content_at setting v row.id)
                  (λ snap i b has. (sym (has_same row.id snap.epoch b) ∙ has, sym (content_same row.id snap.epoch b))) k.snapshots;
            };
        unknown = follow.stores.unknown;
        mindful = follow.stores.mindful;
      };
      seats = follow.seats;
      letters = follow.letters;
      pending = λ i cell op on is clients counts still.
          let e = as_before i on in
          follow.pending i cell op (ap (λ (x : Server). x.life.running) (sym e) ∙ on)
          (ap (λ (x : Server). at cell_cmp x.own.pairs.pending cell) (sym e) ∙ is) clients (counted_back i cell op e counts) still;
      finished = λ i c last on is.
          let e = as_before i on in
          follow.finished i c last (ap (λ (x : Server). x.life.running) (sym e) ∙ on)
          (ap (λ (x : Server). at nat_cmp x.own.pairs.finished c) (sym e) ∙ is);
    })
