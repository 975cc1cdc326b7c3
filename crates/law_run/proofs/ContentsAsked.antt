-- Which content a read asks for, by what is chosen: that of a disk's block at an epoch that it has, or has had.
use Rattle.law_run.proofs.Imports.{◌∙◌, ◌≡◌, ◌≤◌, ◌⊎◌, AreDisks, Body, Bool, Cell, Command, DiskRow, DiskView, Firm, Handled, HasLaterView, Holds, In}
use Rattle.law_run.proofs.Imports.{IsBelow, IsGrown, IsPrefix, IsRead, IsServing, IsSettledState, Known, Line, List, MayLook, None, Option, PlainDisk}
use Rattle.law_run.proofs.Imports.{PlainSnapshot, ReadKnown, Setting, Snapshot, Some, State, Store, World, ap, arith, asks_old, cell_asked, chain_in}
use Rattle.law_run.proofs.Imports.{chosen_log, chosen_state, disk_at, disk_on, epoch_at, epoch_for, false, get_in, has_map, holder_is_one, inl, inr, is_in}
use Rattle.law_run.proofs.Imports.{job_asks_old, leaving, log_below, log_disks, log_grown, log_plain, map_made, none_some, number_itself, one_prefix}
use Rattle.law_run.proofs.Imports.{option_and_then, option_map, own_steady, owns_of, prefix_on, prefix_plain, read_by, readable, reads_old, refl, same_some}
use Rattle.law_run.proofs.Imports.{seen, server_state, serves, snapshot, snapshot_named, some_or_none, state_after, subst, sym, true, view_of, ℕ}
use Rattle.law_run.proofs.EntryAtEpoch.{AreUpTo}
use Rattle.law_run.proofs.GroundGives.{kept_up_to}
use Rattle.law_run.proofs.ChosenDisks.{HasDisk, IsFound, disks_now, epoch_here, found_row, left_apart, named_map_is, plain_now, rows_in}
use Rattle.law_run.proofs.ContentsByCells.{asked_named, asked_read, read_has}
use Rattle.law_run.proofs.SnapshotsAreChosen.{snapshot_found}
use Rattle.law_run.proofs.RunScenes.{Grounded}
use Rattle.petal_msg.specs.declared.body.Body.TheVariants as body
use Rattle.petal_msg.specs.declared.letter.Actor.TheVariants as actor

-- the content of the disk, at no epoch above its own, or that of a snapshot
pub data AsksFor (row : DiskRow) (epoch : ℕ) : Option (List ℕ) → Type 0 where
  The_disk : epoch ≤ row.epoch → AsksFor row epoch None
  A_snapshot : (name : List ℕ) (snap : Snapshot) → snapshot_named row.snaps name ≡ Some snap → snap.epoch ≡ epoch → AsksFor row epoch (Some name)

-- the epoch is the one that is asked for or, of a disk's own content, a later one
abbrev pub IsAskedAt : (epoch : ℕ) → Option (List ℕ) → ℕ → Type 0
IsAskedAt epoch snap e = (e ≡ epoch) ⊎ ((snap ≡ None) × (epoch ≤ e))

-- the machine has these bytes, where the disk's content at the epoch is these
pub may_look : (disks : List PlainDisk) (row : DiskRow) (has : (epoch block : ℕ) → Bool) (contents : (epoch block : ℕ) → List ℕ) → Holds disks row has contents
    → (epoch block : ℕ) (bytes : List ℕ) (snap : Option (List ℕ)) → AsksFor row epoch snap
    → ((e : ℕ) → IsAskedAt epoch snap e → (has e block ≡ true) × (contents e block ≡ bytes)) → MayLook disks row.name snap block bytes
may_look disks row has contents holds epoch block bytes _ (The_disk le) so =
    let k = so row.epoch (inr (refl, le)) in
    record { known = record { disk = holds.disk; is = holds.is }; blocks = holds.disk.now; is = refl; has = holds.same block k.0 ∙ k.1 }
may_look disks row has contents holds epoch block bytes _ (A_snapshot name snap is at_epoch) so =
    let k = so snap.epoch (inl at_epoch) in
    let found = snapshot_found has contents holds.disk.snaps row.snaps name snap holds.snapshots is in
    record {
      known = record { disk = holds.disk; is = holds.is };
      blocks = found.0.blocks;
      is = ap (option_map (λ (s : PlainSnapshot). s.blocks)) found.1;
      has = found.2.1 block k.0 ∙ k.1;
    }

module _ (setting : Setting) (w : World) (firm : Firm setting w) (prefix : List Command) (lies : IsPrefix prefix (chosen_log setting w)) where
  abbrev s : State
  s = state_after setting.servers prefix

  abbrev chosen : State
  chosen = chosen_state setting w

  plain_prefix : IsSettledState setting.servers s
  plain_prefix = log_plain setting.servers prefix (prefix_plain setting.servers prefix (chosen_log setting w) firm.plain lies)

  disks_prefix : AreDisks s
  disks_prefix = log_disks setting.servers prefix (prefix_plain setting.servers prefix (chosen_log setting w) firm.plain lies)

  below : IsBelow s chosen
  below = log_below setting.servers prefix (chosen_log setting w) firm.plain lies

  grown : IsGrown s chosen
  grown = log_grown setting.servers prefix (chosen_log setting w) firm.plain lies

  -- the disk of a read, by these entries and by what is chosen
  pub record IsOfDisk (lines : List Line) (client seq : ℕ) (told : Bool) (cell : Cell) (epoch : ℕ)
      (read : IsRead s lines client seq told cell epoch) : Type 0 where
    pub was : DiskRow
    pub was_there : In was s.disks.rows
    pub asked : (told : Bool) → has_map (cell_asked s read.disk read.block told).map was ≡ true
    pub has : has_map cell.map was ≡ true
    pub block_is : cell.block ≡ read.block
    pub row : DiskRow
    pub there : In row (rows_in setting w)
    pub name_is : row.name ≡ read.name
    pub id_is : row.id ≡ was.id
    pub asks : AsksFor row epoch read.snap
    pub own : read.snap ≡ None → was.epoch ≡ epoch

  -- the snapshot of a disk that is chosen
  snapshot_of : (row : DiskRow) → In row (rows_in setting w) → (name : List ℕ) (epoch : ℕ) → snapshot chosen row.id name ≡ Some epoch
      → (snap : Snapshot) × (snapshot_named row.snaps name ≡ Some snap) × (snap.epoch ≡ epoch)
  snapshot_of row there name epoch is =
      let known : option_map (λ (x : Snapshot). x.epoch) (snapshot_named row.snaps name) ≡ Some epoch =
      ap (option_and_then (λ (r : DiskRow). option_map (λ (x : Snapshot). x.epoch) (snapshot_named r.snaps name)))
      (sym ((disks_now setting w firm).at row there)) ∙ is in
      elim (some_or_none (snapshot_named row.snaps name)) [
        | inl x ↦ (x.0, x.1, same_some (ap (option_map (λ (y : Snapshot). y.epoch)) (sym x.1) ∙ known))
        | inr none ↦ none_some (ap (option_map (λ (y : Snapshot). y.epoch)) none) known
      ]

  pub of_disk : (lines : List Line) (client seq : ℕ) (told : Bool) (cell : Cell) (epoch : ℕ) (read : IsRead s lines client seq told cell epoch)
      → IsOfDisk lines client seq told cell epoch read
  of_disk lines client seq told cell epoch read = record {
    was = was.row;
    was_there = was.there;
    asked = asked_by;
    has = ap (λ (c : Cell). has_map c.map was.row) read.cell_is ∙ asked_by told;
    block_is = ap (λ (c : Cell). c.block) read.cell_is;
    row = now.row;
    there = now.there;
    name_is = now.name_is;
    id_is = ap (λ (d : DiskView). d.disk) now.view ∙ later.disk_is ∙ sym (ap (λ (d : DiskView). d.disk) was.view);
    asks = asks_by read.snap read.epoch_is;
    own = λ none. ap (λ (d : DiskView). d.epoch) was.view
        ∙ same_some (ap (epoch_for s read.disk) (sym none) ∙ read.epoch_is);
  }
    where
      was : IsFound s read.name read.disk
      was = found_row setting.servers s plain_prefix read.name read.disk read.found

      later : HasLaterView chosen read.name read.disk
      later = below.finds read.name read.disk read.found

      now : IsFound chosen read.name later.now
      now = found_row setting.servers chosen (plain_now setting w firm) read.name later.now later.is

      of_told : (told : Bool) → has_map (cell_asked s (view_of was.row) read.block told).map was.row ≡ true
      of_told false = ap (λ (c : Cell). has_map c.map was.row) (asked_named s was.row (disks_prefix.at was.row was.there) read.block)
          ∙ named_map_is setting.servers s plain_prefix disks_prefix was.row was.there read.block
      of_told true = ap (λ (c : Cell). has_map c.map was.row) (asked_read s was.row (disks_prefix.at was.row was.there) read.block)
          ∙ read_has was.row read.block (left_apart setting.servers s plain_prefix disks_prefix was.row was.there)

      asked_by : (told : Bool) → has_map (cell_asked s read.disk read.block told).map was.row ≡ true
      asked_by told = ap (λ d. has_map (cell_asked s d read.block told).map was.row) (sym was.view) ∙ of_told told

      asks_by : (snap : Option (List ℕ)) → epoch_for s read.disk snap ≡ Some epoch → AsksFor now.row epoch snap
      asks_by None is =
          let le = later.onward in
          let view : now.row.epoch ≡ later.now.epoch = ap (λ (d : DiskView). d.epoch) now.view in
          let of : read.disk.epoch ≡ epoch = same_some is in
          The_disk (omega arith)
      asks_by (Some name) is =
          let id : now.row.id ≡ read.disk.disk = ap (λ (d : DiskView). d.disk) now.view ∙ later.disk_is in
          let x = snapshot_of now.row now.there name epoch
          (ap (λ (i : ℕ). snapshot chosen i name) id ∙ below.snaps read.disk.disk name epoch is) in
          A_snapshot name x.0 x.1 x.2

  module _ (lines : List Line) (client seq : ℕ) (told : Bool) (cell : Cell) (epoch : ℕ) (read : IsRead s lines client seq told cell epoch)
      (o : IsOfDisk lines client seq told cell epoch read) where
    -- the disk of a cell of one of its maps is this one by what is chosen, too
    pub same_disk : (other : Cell) → has_map other.map o.was ≡ true
        → (d : HasDisk setting.servers chosen (plain_now setting w firm) (disks_now setting w firm) other) → d.row ≡ o.row
    same_disk other has d =
        let plain_chosen = plain_now setting w firm in
        let at = get_in s.disks.rows o.was o.was_there in
        let at_d = get_in (rows_in setting w) d.row d.there in
        let here = map_made s.maps at.0 other.map o.was (plain_prefix.rows at.0 o.was at.1) has in
        let there = map_made chosen.maps at_d.0 other.map d.row (plain_chosen.rows at_d.0 d.row at_d.1) d.has in
        let place : at.0 ≡ at_d.0 = same_some (sym (disk_on s.maps chosen.maps other.map at.0 grown.maps here) ∙ there) in
        let id : d.row.id ≡ o.row.id =
        (plain_chosen.rows at_d.0 d.row at_d.1).id ∙ sym place ∙ sym (plain_prefix.rows at.0 o.was at.1).id ∙ sym o.id_is in
        same_some (sym ((disks_now setting w firm).at d.row d.there) ∙ ap (disk_at chosen.disks.rows) id ∙ (disks_now setting w firm).at o.row o.there)

    -- a read of the disk's own content is of the epoch of its cells
    pub own_epoch : (other : Cell) → has_map other.map o.was ≡ true → read.snap ≡ None → epoch_at s other ≡ epoch
    own_epoch other has none = epoch_here setting.servers s plain_prefix disks_prefix o.was o.was_there other has ∙ o.own none

-- ### A read that a server handles

-- what is known of it, by the server's own state
pub record IsKnownRead (setting : Setting) (w : World) (n client seq : ℕ) (cell : Cell) (epoch : ℕ) : Type 0 where
  pub told : Bool
  pub read : IsRead (server_state setting w n) setting.lines client seq told cell epoch

module _ (g : Grounded) (n : ℕ) where
  open g use {setting, state, w, firm, ground}

  abbrev own_state : State
  own_state = server_state setting w n

  pub known_read : (client seq : ℕ) (cell : Cell) (epoch : ℕ) → Handled w n (body.Read client seq cell epoch)
      → IsKnownRead setting w n client seq cell epoch
  known_read client seq cell epoch h =
      let known : ReadKnown setting (seen ground.lives w) client seq cell epoch h.letter.rev =
      subst (λ (b : Body). Known setting (seen ground.lives w) h.letter.from h.letter.to h.letter.rev b) h.is
      (ground.asking.letters h.letter h.sent) in
      let top = chosen_log setting w in
      let prefix : known.at.prefix ≡ (w.servers n).log.applied =
      one_prefix known.at.prefix (w.servers n).log.applied top (prefix_on known.at.prefix _ top known.at.lies (firm.clients client))
      (firm.servers n) (known.at.long ∙ h.at) in
      record {
        told = known.told;
        read = subst (λ (log : List Command). IsRead (state_after setting.servers log) setting.lines client seq known.told cell epoch) prefix known.read;
      }

  -- it is of the old map where the cell is leaving
  pub reads_old_is : (client seq : ℕ) (cell : Cell) (epoch : ℕ) → Handled w n (body.Read client seq cell epoch)
      → reads_old setting w (actor.Server n) ≡ leaving own_state cell
  reads_old_is client seq cell epoch h = ap (job_asks_old own_state) h.next ∙ ap (asks_old own_state) h.is

  -- whoever may read a cell serves its link
  pub reader_serves : (cell : Cell) → readable own_state n cell ≡ true → IsServing own_state n cell
  reader_serves cell may = elim (read_by own_state (own_steady setting w firm n) cell n may).1 [
    | inl b ↦ record { row = b.0.row; is = b.0.is; one_of = b.1; so = ap (serves n b.0.row) b.0.so ∙ b.1 }
    | inr a ↦ record {
      row = a.row;
      is = a.is;
      one_of = holder_is_one own_state (own_steady setting w firm n) n cell a.row a.is a.so;
      so = ap (serves n a.row) a.so ∙ number_itself n;
    }
  ]

  -- its entries are of no epoch above the one that it knows
  pub own_up_to : (cell : Cell) → (w.servers n).life.running ≡ true → is_in own_state n (w.servers n).life.inc ≡ true
      → AreUpTo (chain_in (owns_of w n).store.chains cell) (epoch_at own_state cell)
  own_up_to cell runs seat =
      subst (λ (x : Store). AreUpTo (chain_in x.chains cell) (epoch_at own_state cell)) (ground.own n runs seat (owns_of w n).store)
      (kept_up_to setting state w ground n cell (epoch_at own_state cell) (omega arith))
