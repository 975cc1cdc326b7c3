-- Where each content that changes in a server's step is that of a write under way, the machine takes those writes.
use Rattle.law_run.proofs.Imports.{◌<◌, ◌∙◌, ◌≡◌, ◌⊎◌, Bool, Change, DiskRow, Event, In, IsUnderWay, List, Obeys, Plain, Some, Write, ap, before_step}
use Rattle.law_run.proofs.Imports.{blocks_in, change_by, chosen_state, content, content_at, content_where, counted, disk_of, had_content, has_content_at}
use Rattle.law_run.proofs.Imports.{has_content_where, inl, inr, named, none_some, open_of, open_write, replay, same_some, subst, sym, takes, true, ℕ}
use Rattle.law_run.specs.WritesGoOn.{held_in, Onward, Seat}
use Rattle.law_run.specs.MachineTies.{Stores}
use Rattle.law_run.proofs.ChosenDisks.{rows_in, disks_now}
use Rattle.law_run.proofs.ServerFrames.{OwnFollow, SaysOk, CountsOk, own_follow}
use Rattle.law_run.proofs.Machine.{IsTake, Nearly, AllTaken, all_taken, seat_onward, stands_held}
use Rattle.law_run.proofs.SnapshotsAreChosen.{snapshots_on}
use Rattle.law_run.proofs.EventsOfServerSteps.{ServerStep, TakesTold, ends_of, new}
use Rattle.law_run.proofs.ContentChanges.{Gives, IsAsBefore, IsWriteOf, AreTold, takes_told}

module _ (this : ServerStep) where
  open ends_of this use {v}

  abbrev rows : List DiskRow
  rows = rows_in this.setting this.w

  abbrev change : Change
  change = change_by this.setting this.w v

  -- the contents before the step and after it, and whether there are any
  abbrev pub was_kept : DiskRow → (epoch block : ℕ) → List ℕ
  was_kept row = content_at this.setting this.w row.id

  abbrev pub now_kept : DiskRow → (epoch block : ℕ) → List ℕ
  now_kept row = content_at this.setting v row.id

  abbrev pub was_has : DiskRow → (epoch block : ℕ) → Bool
  was_has row = has_content_at this.setting this.w row.id

  abbrev pub now_has : DiskRow → (epoch block : ℕ) → Bool
  now_has row = has_content_at this.setting v row.id

  -- a block's content at an epoch stays, where it has one after the step
  abbrev pub StaysAt : DiskRow → (epoch block : ℕ) → Type 0
  StaysAt row epoch block =
      now_has row epoch block ≡ true → (was_has row epoch block ≡ true) × (was_kept row epoch block ≡ now_kept row epoch block)

  -- a write under way gives a block its new content at the disk's epoch, and a server has an entry of the block; its contents at epochs below
  -- stay
  pub record IsGiven (row : DiskRow) (block : ℕ) : Type 0 where
    pub write_is : IsWriteOf row block (now_kept row row.epoch block)
    pub open write_is use *
    pub under_way : open_write this.w write.client ≡ Some write
    pub below : (epoch : ℕ) → epoch < row.epoch → StaysAt row epoch block
    pub looked : In block (blocks_in this.setting (counted this.setting v))

  abbrev pub AreGiven : Type 0
  AreGiven = (row : DiskRow) → In row rows → (b : ℕ) → ((epoch : ℕ) → StaysAt row epoch b) ⊎ IsGiven row b

  -- the machine after the takes
  pub record Taken : Type 0 where
    pub es : List Event
    pub is : takes change ≡ Some es
    pub may : Obeys this.m es
    pub onward : Onward this.m (replay this.m es)
    pub stores : Stores this.setting rows v (replay this.m es)

  is_named : (row : DiskRow) → In row rows → named rows row.name ≡ Some row
  is_named row h = (disks_now this.setting this.w this.along.firm).named row h

  apart : (one other : DiskRow) → In one rows → In other rows → one.name ≡ other.name → one ≡ other
  apart one other h g e = same_some (sym (is_named one h) ∙ ap (named rows) e ∙ is_named other g)

  module _ (given : AreGiven) where
    -- before the step the disk is this row
    before : (row : DiskRow) → In row rows → (b : ℕ) → before_step change row b ≡ was_kept row row.epoch b
    before row h b = sym (ap (λ o. content_where (chosen_state this.setting this.w) (counted this.setting this.w) o row.epoch b)
        ((disks_now this.setting this.w this.along.firm).at row h))

    had_so : (row : DiskRow) → In row rows → (b : ℕ) → had_content change row b ≡ was_has row row.epoch b
    had_so row h b = sym (ap (λ o. has_content_where (chosen_state this.setting this.w) (counted this.setting this.w) o row.epoch b)
        ((disks_now this.setting this.w this.along.firm).at row h))

    gives : (row : DiskRow) → In row rows → (b : ℕ) → now_has row row.epoch b ≡ true → IsAsBefore change row b ⊎ Gives change row b
    gives row h b there = elim (given row h b) [
      | inl same ↦ (let k = same row.epoch there in inl (had_so row h b ∙ k.0, before row h b ∙ k.1))
      | inr g ↦ inr (record {
        write_is = g.write_is;
        under_way = g.under_way;
        looked = g.looked;
      })
    ]

    told : AreTold change
    told = takes_told change gives

    under_way : (write : Write) → open_write this.w write.client ≡ Some write → IsUnderWay this.m.opened write
    under_way write is =
        let seat : Seat (Some write) (open_of this.m.opened write.client) =
        subst (λ o. Seat o (open_of this.m.opened write.client)) is (this.follow.seats write.client) in
        record { held = seat.0; is = seat.1 }

    each : (e : Event) → In e told.es → IsTake rows apart (λ r. now_has r) (λ r. now_kept r) this.m e
    each e h =
        let t = told.each e h in
        record {
          of = record {
            row = t.row;
            there = t.there;
            block = t.block;
            write = t.it.write;
            is = t.it.is;
            disk_is = t.it.disk_is;
            block_is = t.it.block_is;
            bytes_is = t.it.bytes_is;
          };
          seat = under_way t.it.write t.it.under_way;
        }

    -- the contents at epochs below that of the disk stay
    below : (row : DiskRow) → In row rows → (b epoch : ℕ) → epoch < row.epoch → StaysAt row epoch b
    below row h b epoch lt = elim (given row h b) [ inl same ↦ same epoch | inr g ↦ g.below epoch lt ]

    near : (row : DiskRow) → In row rows → Nearly rows apart (λ r. now_has r) (λ r. now_kept r) this.m told.es row
    near row h =
        let k = this.follow.stores.known row h in
        record {
          disk = k.disk;
          is = k.is;
          same = λ b there. elim (told.all row h b there) [
            | inl same ↦ inl (k.same b (sym (had_so row h b) ∙ same.0) ∙ sym (before row h b) ∙ same.1)
            | inr come ↦ inr (record {
              write = come.2.write;
              there = subst (λ e. In e told.es) come.2.is come.1;
              disk_is = come.2.disk_is;
              block_is = come.2.block_is;
            })
          ];
          snapshots = snapshots_on k.disk.snaps row.snaps (was_has row) (now_has row) (was_kept row) (now_kept row)
              (λ snap i b there. below row h b snap.epoch ((disks_now this.setting this.w this.along.firm).before row snap h i) there) k.snapshots;
        }

    pub all_given : Taken
    all_given =
        let t : AllTaken rows apart (λ r. now_has r) (λ r. now_kept r) this.m told.es =
        all_taken rows apart (λ r. now_has r) (λ r. now_kept r) told.es this.m this.follow.stores.mindful each near in
        record {
          es = told.es;
          is = told.told;
          may = t.may;
          onward = t.onward;
          stores = record {
            known = t.known;
            unknown = λ name none. t.others name (λ row h e. none_some none (ap (named rows) e ∙ is_named row h)) ∙ this.follow.stores.unknown name none;
            mindful = t.mindful;
          };
        }

  -- a write of what its block then has has had its bytes
  pub given_held : (k : Plain) → Onward this.m k → Stores this.setting rows v k → (row : DiskRow)
      → In row rows → (block c : ℕ) (write : Write) → now_has row row.epoch block ≡ true
      → open_write this.w c ≡ Some write → write.disk ≡ row.name → write.block ≡ block → write.bytes ≡ now_kept row row.epoch block
      → held_in (open_of k.opened c) ≡ true
  given_held k onward stores row h block c write has is disk_is block_is bytes_is =
      let known = stores.known row h in
      let seat : Seat (Some write) (open_of this.m.opened c) = subst (λ o. Seat o (open_of this.m.opened c)) is (this.follow.seats c) in
      stands_held k known.disk c write (ap (disk_of k.disks) disk_is ∙ known.is) stores.mindful (seat_onward this.m k c (Some write) onward seat)
      (ap (content known.disk.now) block_is ∙ known.same block has ∙ sym bytes_is)

  -- the step, as contents see it: what is told, and that servers and clients stay tied to the machine
  pub takes_of : (taken : Taken) → OwnFollow this (replay this.m taken.es) (new this) → CountsOk this (replay this.m taken.es)
      → SaysOk this (replay this.m taken.es) → TakesTold this
  takes_of taken job counts says = record {
    es = taken.es;
    is = taken.is;
    may = taken.may;
    follows = own_follow this (replay this.m taken.es) taken.onward job counts says taken.stores;
  }
