-- A plain state is steady, and what it says stays so in each state that has grown from it.
use Rattle.law_state.proofs.Imports.{[], if◌then◌else◌, ◌%◌, ◌*◌, ◌+◌, ◌<◌, ◌==◌, ◌||◌, ◌∙◌, ◌∷◌, ◌≡◌, ◌≢◌, ◌≤◌, ◌⊎◌, Bool, Cell, Command, DiskRow, DiskView}
use Rattle.law_state.proofs.Imports.{Fenced, In, IsPrefix, LinkRow, List, MapRow, Member, Move, New, None, Old, Option, RegionState, Snapshot, Some, State}
use Rattle.law_state.proofs.Imports.{after, ap, arith, by_bool, cell_asked, cell_link, disk_at, false, fold, fold-append, has_map, in_former, in_later}
use Rattle.law_state.proofs.Imports.{inc_in, inl, inr, is_fenced, leaves, length, link_at, link_of, live_new, live_old, live_under, map_asked, move_region}
use Rattle.law_state.proofs.Imports.{named, nat_lists_same, none_some, number_itself, option_and_then, option_map, option_map_or, owner, refl, region_at}
use Rattle.law_state.proofs.Imports.{region_of, same_name, same_numbers, same_some, slice_get, snapshot, snapshot_named, some_or_none, start, state_after}
use Rattle.law_state.proofs.Imports.{subst, sym, true, true_false, tuple_of, unwrap_or, view_of, ℕ}
use Rattle.spec_rules.specs.State.{live, is_in}
use Rattle.law_state.specs.Plain.{HasProperTuples}
use Rattle.law_state.specs.Steady.{HasLink, IsLinked, IsSteady}
use Rattle.law_state.specs.LaterStates.{HasLaterView, IsBelow}
use Rattle.law_state.specs.Homes.{IsRetired, epoch_at, new_stage, old_stage, stage_at, stage_by}
use Rattle.law_state.specs.Tables.{IsGone, IsGrown, IsLaterDisk, IsSettledState}
use Rattle.law_state.proofs.Homes.{era_grows}
use Rattle.law_state.proofs.Owners.{disk_at_is, either_of, epochs_later, no_owner, owned}
use Rattle.law_state.proofs.Stages.{new_most}
use Rattle.law_state.proofs.ListLookups.{find_here, found_at, find_prefix, text_itself}
use Rattle.law_state.proofs.SnapsQueueFences.{disk_is, disk_stands}
use Rattle.law_state.proofs.NewMapLinks.{proper}
use Rattle.law_state.proofs.GrownStates.{gone_on}
use Rattle.law_state.proofs.EntriesOnlyAdd.{folding, log_plain}
use Rattle.law_state.proofs.MembershipChanges.{linked_at}
use Rattle.global_tables.specs.declared.fence.Member.TheVariants as member
use Rattle.spec_rules.specs.State as rules

pub below : (block many : ℕ) → 2 ≤ many → block % many < many
below block many two = omega arith

-- a block of each region
block_of : (region : ℕ) → region < 16 → (block : ℕ) × (region_of block ≡ region)
block_of region low = (8 * region, omega arith)

module _ (servers : ℕ) (s : State) (p : IsSettledState servers s) where
  pub retired : (cell : Cell) → owner s cell.map ≡ None → live s cell ≡ false
  retired cell none = ap (λ o. option_map_or (live_under cell.map (region_of cell.block)) o false) none

  -- ### Cells

  -- the link of a cell is told by its map's tuple
  link_by : (cell : Cell) (ids : List ℕ) → tuple_of s.maps cell.map ≡ Some ids → cell_link s cell ≡ link_at s.links cell.map (link_of (length ids) cell.block)
  link_by cell ids is = ap (option_and_then (λ ids. link_at s.links cell.map (link_of (length ids) cell.block))) is

  -- a cell of a map that nobody has has none
  pub unlinked : (cell : Cell) → owner s cell.map ≡ None → cell_link s cell ≡ None
  unlinked cell none = elim (some_or_none (tuple_of s.maps cell.map)) [
    | inl h ↦ link_by cell h.0 h.1 ∙ p.unlinked cell.map (link_of (length h.0) cell.block) none
    | inr gone ↦ ap (option_and_then (λ ids. link_at s.links cell.map (link_of (length ids) cell.block))) gone
  ]

  -- a map that a disk has is known
  tuple_known : (of : ℕ) → owner s of ≢ None → (ids : List ℕ) × (tuple_of s.maps of ≡ Some ids)
  tuple_known of has = elim (some_or_none (slice_get s.maps of)) [
    | inl m ↦ (m.0.tuple, ap (option_map (λ (row : MapRow). row.tuple)) m.1)
    | inr none ↦ absurd (has (no_owner s p.rows p.homes of none))
  ]

  -- a cell of a map that a disk has has a link
  pub linked : (cell : Cell) → owner s cell.map ≢ None → (link : LinkRow) × (cell_link s cell ≡ Some link) × IsLinked s cell link
  linked cell has =
      let there = tuple_known cell.map has in
      let ids = there.0 in
      let fine = proper servers ids (p.tuples cell.map ids there.1) in
      let i = link_of (length ids) cell.block in
      let low : i < length ids = below cell.block (length ids) fine.two in
      let h = p.links cell.map i ids there.1 low has in (
        h.row,
        link_by cell ids there.1 ∙ h.is,
        record {
          apart = λ e. fine.apart i low (sym h.asked.primary ∙ e ∙ h.asked.secondary);
          primary = (let e = h.asked.primary in let f = fine.low i low in let g = p.many in omega arith);
          secondary = (let e = h.asked.secondary in let f = fine.next i low in let g = p.many in omega arith);
          served = h.asked.served;
        },
      )

  -- a cell is of a map that a disk has, or it has no link
  pub owned_or_none : (cell : Cell) → ((row : DiskRow) × (owner s cell.map ≡ Some row)) ⊎ (owner s cell.map ≡ None)
  owned_or_none cell = some_or_none (owner s cell.map)

  pub linked_owner : (cell : Cell) (row : DiskRow) → owner s cell.map ≡ Some row → (link : LinkRow) × (cell_link s cell ≡ Some link) × IsLinked s cell link
  linked_owner cell row is = linked cell (λ none. none_some none is)

  -- a live cell is of such a map
  live_linked : (cell : Cell) → live s cell ≡ true → HasLink s cell
  live_linked cell lives = elim (owned_or_none cell) [
    | inl h ↦ (let l = linked_owner cell h.0 h.1 in record { row = l.0; is = l.1 })
    | inr none ↦ true_false lives (retired cell none)
  ]

  -- a disk that is found by name
  pub found : (name : List ℕ) (row : DiskRow) → named s.disks.rows name ≡ Some row → (i : ℕ) × (slice_get s.disks.rows i ≡ Some row) × (row.name ≡ name)
  found name row e =
      let at = found_at (λ row. same_name row.name name) s.disks.rows row e in
      (at.0, at.1, nat_lists_same row.name name at.2)

  pub viewed : (name : List ℕ) (disk : DiskView) → rules.find s name ≡ Some disk → (row : DiskRow) × (named s.disks.rows name ≡ Some row) × (view_of row ≡ disk)
  viewed name disk e = elim (some_or_none (named s.disks.rows name)) [
    | inl h ↦ (h.0, h.1, same_some (ap (option_map view_of) (sym h.1) ∙ e))
    | inr none ↦ none_some (ap (option_map view_of) none) e
  ]

  -- ### Who is In

  -- no incarnation is below the first
  pub in_first : (n inc : ℕ) → is_in s n inc ≡ true → 1 ≤ inc
  in_first n inc e = by (slice_get s.view.members n) refl e
    where
      by : (o : Option Member) → slice_get s.view.members n ≡ o → option_map_or (λ present. present == inc) (option_and_then inc_in o) false ≡ true → 1 ≤ inc
      by None is e = let f : false ≡ true = e in absurd cc
      by (Some (member.In i)) is e = subst (λ k. 1 ≤ k) (same_numbers i inc e) (p.members n (member.In i) is)
      by (Some (member.Out i)) is e = let f : false ≡ true = e in absurd cc

  -- ### The cell under which a disk's users name a block

  -- it is live, by how far the block's region is
  live_named : (i : ℕ) (row : DiskRow) (block : ℕ) (told : Bool) → slice_get s.disks.rows i ≡ Some row → (o : Option Move) → row.moving ≡ o
      → (r : RegionState) → move_region (region_of block) row.moving ≡ r
      → live s (record { map = map_asked (view_of row) told r; block = block }) ≡ true
  live_named i row block told is o moves r at = by o moves r told at
    where
      -- the disk's own map
      own : (r : RegionState) → move_region (region_of block) row.moving ≡ r → live_new r ≡ true → live s (record { map = row.map; block = block }) ≡ true
      own r at lives =
          let mine : (row.map == row.map) ≡ true = number_itself row.map in
          ap (λ o. option_map_or (live_under row.map (region_of block)) o false)
          (owned s p.rows row.map i row is (ap (λ b. b || leaves row.map row.moving) mine))
          ∙ ap (λ b. if b then live_new (move_region (region_of block) row.moving) else live_old (move_region (region_of block) row.moving)) mine
          ∙ ap live_new at ∙ lives

      -- the one that it leaves
      old : (move : Move) → row.moving ≡ Some move → (r : RegionState) → move_region (region_of block) row.moving ≡ r → live_old r ≡ true
          → live s (record { map = move.old_map; block = block }) ≡ true
      old move moves r at lives =
          let lt = ((p.rows i row is).moving move moves).old in
          let other : (row.map == move.old_map) ≡ false =
          by_bool (row.map == move.old_map) (λ t. let e = same_numbers row.map move.old_map t in absurd (omega arith)) (λ f. f) in
          let left : leaves move.old_map row.moving ≡ true = ap (leaves move.old_map) moves ∙ number_itself move.old_map in
          ap (λ o. option_map_or (live_under move.old_map (region_of block)) o false)
          (owned s p.rows move.old_map i row is (λ k. other k || left k))
          ∙ ap (λ b. if b then live_new (move_region (region_of block) row.moving) else live_old (move_region (region_of block) row.moving)) other
          ∙ ap live_old at ∙ lives

      asks : Option Move → RegionState → Bool → Type 0
      asks o r told = live s (record {
        map = map_asked (record (view_of row) { old_map = option_map (λ (move : Move). move.old_map) o }) told r;
        block = block;
      }) ≡ true

      same : (o : Option Move) → row.moving ≡ o → (r : RegionState) (told : Bool) → asks o r told → asks row.moving r told
      same o moves r told h = subst (λ m. asks m r told) (sym moves) h

      by : (o : Option Move) → row.moving ≡ o → (r : RegionState) (told : Bool) → move_region (region_of block) row.moving ≡ r → asks row.moving r told
      by (Some move) moves Old told at = same (Some move) moves Old told (old move moves Old at refl)
      by (Some move) moves Fenced false at = same (Some move) moves Fenced false (own Fenced at refl)
      by (Some move) moves Fenced true at = same (Some move) moves Fenced true (old move moves Fenced at refl)
      by (Some move) moves New told at = same (Some move) moves New told (own New at refl)
      by None moves New told at = same None moves New told (own New at refl)
      by None moves Old told at = true_false refl (ap live_new (sym (sym at ∙ ap (move_region (region_of block)) moves)))
      by None moves Fenced told at = true_false refl (ap is_fenced (sym at ∙ ap (move_region (region_of block)) moves))

  named_live : (name : List ℕ) (disk : DiskView) (block : ℕ) (told : Bool) → rules.find s name ≡ Some disk → live s (cell_asked s disk block told) ≡ true
  named_live name disk block told e =
      let v = viewed name disk e in
      let at = found name v.0 v.1 in
      let there : disk_at s.disks.rows v.0.id ≡ Some v.0 =
      disk_at_is s.disks.rows (λ i r f. (p.rows i r f).id) v.0.id ∙ ap (slice_get s.disks.rows) (p.rows at.0 v.0 at.1).id ∙ at.1 in
      subst (λ d. live s (cell_asked s d block told) ≡ true) v.2
      (subst (λ o. live s (record { map = map_asked (view_of v.0) told (region_at o (region_of block)); block = block }) ≡ true) (sym there)
      (live_named at.0 v.0 block told at.1 v.0.moving refl (move_region (region_of block) v.0.moving) refl))

  -- ### The whole

  pub plain_steady : IsSteady s
  plain_steady = record {
    linked = λ cell row e. elim (owned_or_none cell) [
      | inl h ↦ (let l = linked_owner cell h.0 h.1 in subst (IsLinked s cell) (same_some (sym l.1 ∙ e)) l.2)
      | inr none ↦ none_some (unlinked cell none) e
    ];
    retired = λ cell none. elim (owned_or_none cell) [
      | inl h ↦ none_some none (linked_owner cell h.0 h.1).1
      | inr gone ↦ retired cell gone
    ];
    lives = live_linked;
    served = λ name disk block told e.
        let lives = named_live name disk block told e in
        (live_linked (cell_asked s disk block told) lives, lives);
  }

  -- ### A map that is retired

  -- nobody has it: of a map that a disk has, some cell is not retired
  unowned : (of : ℕ) → IsGone s of → owner s of ≡ None
  unowned of gone = elim (some_or_none (owner s of)) [
    | inr none ↦ none
    | inl h ↦
        let at = found_at (has_map of) s.disks.rows h.0 h.1 in
        by_bool (h.0.map == of)
        (λ own.
        let is : stage_at s (record { map = of; block = 0 }) ≡ new_stage (move_region (region_of 0) h.0.moving) =
        ap (stage_by s (record { map = of; block = 0 })) h.1
        ∙ ap (λ b. if b then new_stage (move_region (region_of 0) h.0.moving) else old_stage (move_region (region_of 0) h.0.moving)) own in
        let high = new_most (move_region (region_of 0) h.0.moving) in
        let four = gone 0 in
        absurd (omega arith))
        (λ other. leaving_by h.0 h.1 at.0 at.1 other h.0.moving refl (elim (either_of (h.0.map == of) (leaves of h.0.moving) at.2) [
          | inl own ↦ true_false own other
          | inr left ↦ left
        ]))
  ]
    where
      waits_low : (r : RegionState) → (r ≡ Old) ⊎ (r ≡ Fenced) → old_stage r ≤ 3
      waits_low r (inl e) = let f = ap old_stage e in omega arith
      waits_low r (inr e) = let f = ap old_stage e in omega arith

      leaving_by : {A : Type 0} (row : DiskRow) → owner s of ≡ Some row → (i : ℕ) → slice_get s.disks.rows i ≡ Some row → (row.map == of) ≡ false
          → (o : Option Move) → row.moving ≡ o → leaves of o ≡ true → A
      leaving_by row is i there other None moves left = true_false left refl
      leaving_by row is i there other (Some move) moves left =
          let m = (p.rows i row there).moving move moves in
          let b = block_of m.next m.shape.low in
          let cell : Cell = record { map = of; block = b.0 } in
          let region : move_region (region_of b.0) row.moving ≡ m.now =
          ap (λ o. move_region (region_of b.0) o) moves ∙ ap (λ k. unwrap_or (slice_get move.regions k) New) b.1 ∙ ap (λ o. unwrap_or o New) m.shape.here in
          let stage : stage_at s cell ≡ old_stage m.now = ap (stage_by s cell) is
          ∙ ap (λ b. if b then new_stage (move_region (region_of cell.block) row.moving) else old_stage (move_region (region_of cell.block) row.moving)) other
          ∙ ap old_stage region in
          let low = waits_low m.now m.waits in
          let four = gone b.0 in
          absurd (omega arith)

  pub died : (cell : Cell) → IsGone s cell.map → IsRetired s cell
  died cell gone = (unlinked cell (unowned cell.map gone), gone cell.block)

-- ### Later states

-- a cell that is retired by its links is of a retired map
pub all_died : (servers : ℕ) (s : State) → IsSettledState servers s → (cell : Cell) → IsRetired s cell → IsGone s cell.map
all_died servers s p cell died = elim (owned_or_none servers s p cell) [
  | inl h ↦ none_some died.0 (linked_owner servers s p cell h.0 h.1).1
  | inr none ↦ λ block.
      ap (stage_by s (record { map = cell.map; block = block })) none ∙ sym (ap (stage_by s cell) none) ∙ died.1
]

module _ (servers : ℕ) (s t : State) (p : IsSettledState servers s) (q : IsSettledState servers t) (g : IsGrown s t) where
  -- a disk that is found by its name is found so later
  pub named_later : (name : List ℕ) (row : DiskRow) → named s.disks.rows name ≡ Some row
      → (now : DiskRow) × (named t.disks.rows name ≡ Some now) × IsLaterDisk row now
  named_later name row e =
      let at = found servers s p name row e in
      let later = g.rows at.0 row at.1 in
      let text : later.now.name ≡ name = later.so.name ∙ at.2 in (
        later.now,
        find_here (λ (r : DiskRow). same_name r.name name) t.disks.rows at.0 later.now later.is
            (ap (λ n. same_name n name) text ∙ text_itself name)
            (λ j other f same. q.names j at.0 other later.now f later.is (nat_lists_same other.name name same ∙ sym text)),
        later.so,
      )

  found_later : (name : List ℕ) (disk : DiskView) → rules.find s name ≡ Some disk → HasLaterView t name disk
  found_later name disk e =
      let v = viewed servers s p name disk e in
      let later = named_later name v.0 v.1 in
      subst (HasLaterView t name) v.2 (record {
        now = view_of later.0;
        is = ap (option_map view_of) later.1;
        disk_is = later.2.id;
        map_is = later.2.map;
        onward = later.2.onward;
      })

  -- a snapshot that a disk had it has still
  snapshot_later : (disk : ℕ) (name : List ℕ) (epoch : ℕ) (o : Option DiskRow) → disk_at s.disks.rows disk ≡ o
      → option_and_then (λ row. option_map (λ snap. snap.epoch) (snapshot_named row.snaps name)) o ≡ Some epoch → snapshot t disk name ≡ Some epoch
  snapshot_later disk name epoch None is e = none_some refl e
  snapshot_later disk name epoch (Some row) is e =
      let later = g.rows disk row (disk_stands s.disks.rows (λ i r f. (p.rows i r f).id) disk row is) in
      let now = disk_is t.disks.rows (λ i r f. (q.rows i r f).id) disk later.now later.is in
      let there = some_epoch (snapshot_named row.snaps name) e in
      ap (option_and_then (λ row. option_map (λ snap. snap.epoch) (snapshot_named row.snaps name))) now
      ∙ ap (λ snaps. option_map (λ snap. snap.epoch) (snapshot_named snaps name)) later.so.snaps
      ∙ ap (option_map (λ snap. snap.epoch)) (find_prefix (λ (snap : Snapshot). same_name snap.name name) row.snaps later.so.more there.0 there.1)
      ∙ ap Some there.2
    where
      some_epoch : (o : Option Snapshot) → option_map (λ snap. snap.epoch) o ≡ Some epoch → (snap : Snapshot) × (o ≡ Some snap) × (snap.epoch ≡ epoch)
      some_epoch None f = none_some refl f
      some_epoch (Some snap) f = (snap, refl, same_some f)

  pub tuple_on : (of : ℕ) (ids : List ℕ) → tuple_of s.maps of ≡ Some ids → tuple_of t.maps of ≡ Some ids
  tuple_on of ids e = elim (some_or_none (slice_get s.maps of)) [
    | inl m ↦ ap (option_map (λ (row : MapRow). row.tuple)) (g.maps of m.0 m.1) ∙ sym (ap (option_map (λ (row : MapRow). row.tuple)) m.1) ∙ e
    | inr none ↦ none_some (ap (option_map (λ (row : MapRow). row.tuple)) none) e
  ]

  -- no epoch falls
  pub epoch_later : (cell : Cell) → epoch_at s cell ≤ epoch_at t cell
  epoch_later = epochs_later s t p.rows p.homes g.rows g.maps q.rows q.homes

  pub grown_below : IsBelow s t
  grown_below = record {
    rows = λ cell row e.
        let h = linked_at s cell row e in
        elim (g.links cell.map (link_of (length h.0) cell.block) row h.2) [
          | inl later ↦ inl (record {
            now = later.now;
            is = link_by servers t q cell h.0 (tuple_on cell.map h.0 h.1) ∙ later.is;
            goes_on = later.goes_on;
          })
          | inr gone ↦ inr (died servers t q cell gone)
        ];
    ages = g.ages;
    finds = found_later;
    snaps = λ disk name epoch e. snapshot_later disk name epoch (disk_at s.disks.rows disk) refl e;
    epochs = epoch_later;
    eras = λ cell. era_grows (epoch_at s cell) (epoch_at t cell) (stage_at s cell) (stage_at t cell) (epoch_later cell) (g.stages cell);
    stages = g.stages;
    died = λ cell gone. died servers t q cell (gone_on s t cell.map g.stages (all_died servers s p cell gone));
  }

-- ### Logs

-- a prefix of a plain log is plain
pub prefix_plain : (servers : ℕ) (prefix whole : List Command) → HasProperTuples servers whole → IsPrefix prefix whole → HasProperTuples servers prefix
prefix_plain servers prefix whole all is_prefix = λ command h.
    all command (subst (In command) (sym is_prefix.is) (in_former command prefix is_prefix.later h))

pub log_grown : (servers : ℕ) (prefix whole : List Command) → HasProperTuples servers whole → IsPrefix prefix whole
    → IsGrown (state_after servers prefix) (state_after servers whole)
log_grown servers prefix whole all is_prefix =
    subst (IsGrown (state_after servers prefix)) (sym (ap (state_after servers) is_prefix.is ∙ fold-append after (start servers) prefix is_prefix.later))
    (folding servers is_prefix.later (state_after servers prefix) (log_plain servers prefix (prefix_plain servers prefix whole all is_prefix))
    (λ command h. all command (subst (In command) (sym is_prefix.is) (in_later command prefix is_prefix.later h)))).grown

pub log_steady : (servers : ℕ) (log : List Command) → HasProperTuples servers log → IsSteady (state_after servers log)
log_steady servers log all = plain_steady servers (state_after servers log) (log_plain servers log all)

pub log_below : (servers : ℕ) (prefix whole : List Command) → HasProperTuples servers whole → IsPrefix prefix whole
    → IsBelow (state_after servers prefix) (state_after servers whole)
log_below servers prefix whole all is_prefix =
    grown_below servers (state_after servers prefix) (state_after servers whole) (log_plain servers prefix (prefix_plain servers prefix whole all is_prefix))
    (log_plain servers whole all) (log_grown servers prefix whole all is_prefix)

-- each entry adds one to the revision
pub log_rev : (servers : ℕ) (log : List Command) → (state_after servers log).rev ≡ length log
log_rev servers log = let e : (state_after servers log).rev ≡ 0 + length log = by log (start servers) in omega arith
  where
    by : (log : List Command) (s : State) → (fold after s log).rev ≡ s.rev + length log
    by [] s = omega arith
    by (command ∷ log) s = let later : (fold after (after s command) log).rev ≡ s.rev + 1 + length log = by log (after s command) in omega arith
