-- A fence that waits for nobody takes effect: its disk has one snapshot more, and the next epoch begins; or a region of its disk is on its way.
-- What settles so is plain again.
-- Links, maps and who is In stay as they were.
use Rattle.law_state.proofs.Imports.{[], ◌==◌, ◌||◌, ◌∙◌, ◌∷◌, ◌≡◌, ◌≢◌, ◌≤◌, Cell, DiskRow, Fence, FenceKind, Fenced, Latest, List, Member, Move, None, Old}
use Rattle.law_state.proofs.Imports.{Option, Region, Snapshot, Some, State, View, Whole, ap, append-nil, arith, by_bool, by_test, cell_link, cond, confirmed}
use Rattle.law_state.proofs.Imports.{effect, false, fenced, following, frozen, has_map, inc_in, inc_of, inl, inr, is_up_as, latest, leaves, length}
use Rattle.law_state.proofs.Imports.{length-append, length-following, let_through, link_at, link_of, move_fenced, nat_lists_same, option_and_then, option_map}
use Rattle.law_state.proofs.Imports.{option_map_or, passed, ready, refl, region_of, row_fenced, row_frozen, same_name, same_some, servers_in, settled}
use Rattle.law_state.proofs.Imports.{settled_none, settled_one, slice_get, snapshot_named, some_or_none, subst, suc, sym, told, true_false, tuple_of}
use Rattle.law_state.proofs.Imports.{view-effect, zero, ℕ}
use Rattle.law_state.specs.Homes.{stage_of}
use Rattle.law_state.specs.Tables.{IsForRegion, IsForSnapshot, IsLaterDisk, IsMove, IsRowAt, Of_disk, Of_region}
use Rattle.law_state.proofs.Ages.{no_less}
use Rattle.law_state.proofs.Fences.{Acted, AreQueued, IsUnsettled, get_after, head_after, head_get, ready_by, settles, untabled, waits_present}
use Rattle.law_state.proofs.GrownStates.{Step, grown_itself, grown_on}
use Rattle.law_state.proofs.ListLookups.{find_after, get_last, none_find, text_itself}
use Rattle.law_state.proofs.DiskRowChanges.{beside, fence_then, here, here_now, row_known, rowing}
use Rattle.law_state.proofs.Stages.{moved_on, set_on, shape_set}
use Rattle.global_tables.specs.declared.disk.Verdict.TheVariants as Verdict

-- the state after the fence has passed
abbrev pub one_passed : State → Fence → State
one_passed s fence = effect fence.kind (record s { view = passed s.view })

-- ### Who is In, maps and links stay

-- the same maps, links and members
pub record IsFramed (s t : State) : Type 0 where
  pub maps : t.maps ≡ s.maps
  pub links : t.links ≡ s.links
  pub members : t.view.members ≡ s.view.members

pub framed_itself : (s : State) → IsFramed s s
framed_itself s = record { maps = refl; links = refl; members = refl }

framed_confirmed : (s t : State) (client seq : ℕ) (last : Option Latest) → IsFramed s t → IsFramed s (confirmed t client seq last)
framed_confirmed s t client seq None h = h
framed_confirmed s t client seq (Some last) h = by_test (IsFramed s) (last.seq == seq) (told t client seq Verdict.Ok) t
    (λ is. record { maps = h.maps; links = h.links; members = h.members }) (λ no. h)

pub framed_passed : (s t : State) (fence : Fence) → IsFramed s t → IsFramed s (one_passed t fence)
framed_passed s t fence h = by fence.kind
  where
    by : (kind : FenceKind) → IsFramed s (effect kind (record t { view = passed t.view }))
    by (Whole disk name client seq) = framed_confirmed s (record t { view = passed t.view; disks = frozen t.disks disk name }) client seq (latest t client)
        (record { maps = h.maps; links = h.links; members = h.members })
    by (Region disk region) = record { maps = h.maps; links = h.links; members = h.members }

through_next : (P : State → Type 0) (s : State) (next : State → State) → ((fence : Fence) → ready s.view.queue ≡ Some fence → P (next (one_passed s fence)))
    → P s → (o : Option Fence) → ready s.view.queue ≡ o → P (option_map_or (λ fence. next (one_passed s fence)) o s)
through_next P s next goes h None is = h
through_next P s next goes h (Some fence) is = goes fence is

through : (P : State → Type 0) → ((s : State) (fence : Fence) → ready s.view.queue ≡ Some fence → P s → P (one_passed s fence)) → (n : ℕ) (s : State)
    → P s → P (let_through n s)
through P keeps zero s h = h
through P keeps (suc n) s h =
    through_next P s (let_through n) (λ fence is. through P keeps n (one_passed s fence) (keeps s fence is h)) h (ready s.view.queue) refl

-- what each fence that passes keeps, holds of what settles
pub settled_keeps : (P : State → Type 0) → ((s : State) (fence : Fence) → ready s.view.queue ≡ Some fence → P s → P (one_passed s fence)) → (s : State)
    → P s → P (settled s)
settled_keeps P keeps s h = through P keeps (length s.view.queue) s h

pub settled_framed : (s : State) → IsFramed s (settled s)
settled_framed s = settled_keeps (IsFramed s) (λ t fence is. framed_passed s t fence) s (framed_itself s)

pub inc_settled : (s : State) (n : ℕ) → inc_of (settled s) n ≡ inc_of s n
inc_settled s n = ap (λ (members : List Member). option_and_then inc_in (slice_get members n)) (settled_framed s).members

pub in_settled : (s : State) (n inc : ℕ) → is_up_as (settled s) n inc ≡ is_up_as s n inc
in_settled s n inc = ap (λ o. option_map_or (λ present. present == inc) o false) (inc_settled s n)

pub cell_settled : (s : State) (cell : Cell) → cell_link (settled s) cell ≡ cell_link s cell
cell_settled s cell =
    (λ i. option_and_then (λ tuple. link_at ((settled_framed s).links i) cell.map (link_of (length tuple) cell.block))
    (tuple_of ((settled_framed s).maps i) cell.map))

-- ### What is after the head

module _ (servers : ℕ) (s : State) (p : IsUnsettled servers s) where
  after_apart : (i j : ℕ) (one other : Fence) (disk client seq later again : ℕ) (name : List ℕ) → slice_get (passed s.view).queue i ≡ Some one
      → slice_get (passed s.view).queue j ≡ Some other → one.kind ≡ Whole disk name client seq → other.kind ≡ Whole disk name later again → i ≡ j
  after_apart i j one other disk client seq later again name e f kind like =
      let a = get_after (servers_in s.view.members) s.view.queue i one e in
      let b = get_after (servers_in s.view.members) s.view.queue j other f in
      let same : suc i ≡ suc j = p.fences.apart (suc i) (suc j) a.0 b.0 disk client seq later again name a.1 b.1 (sym a.2 ∙ kind) (sym b.2 ∙ like) in
      omega arith

  after_once : (i j : ℕ) (one other : Fence) (disk region later : ℕ) → slice_get (passed s.view).queue i ≡ Some one
      → slice_get (passed s.view).queue j ≡ Some other → one.kind ≡ Region disk region → other.kind ≡ Region disk later → i ≡ j
  after_once i j one other disk region later e f kind like =
      let a = get_after (servers_in s.view.members) s.view.queue i one e in
      let b = get_after (servers_in s.view.members) s.view.queue j other f in
      let same : suc i ≡ suc j = p.fences.once (suc i) (suc j) a.0 b.0 disk region later a.1 b.1 (sym a.2 ∙ kind) (sym b.2 ∙ like) in
      omega arith

-- ### A fence for a snapshot

module _ (servers : ℕ) (s : State) (p : IsUnsettled servers s) (fence : Fence) (first : slice_get s.view.queue 0 ≡ Some fence)
    (active : IsForSnapshot s fence) where
  abbrev later : DiskRow
  later = row_frozen active.name active.row

  abbrev t : State
  t = record s { view = passed s.view; disks = frozen s.disks active.disk active.name }

  pub here_row : slice_get s.disks.rows active.disk ≡ Some active.row
  here_row = here servers s p active.disk active.row active.known (row_frozen active.name)

  -- no snapshot before has the new name
  new_name : {A : Type 0} (i : ℕ) (snap : Snapshot) → slice_get active.row.snaps i ≡ Some snap → snap.name ≡ active.name → A
  new_name i snap e same = true_false
      (ap (λ n. same_name n active.name) same ∙ text_itself active.name)
      (none_find (λ (snap : Snapshot). same_name snap.name active.name) active.row.snaps i snap active.fresh e)

  abbrev taken : Snapshot
  taken = record { name = active.name; epoch = active.row.epoch }

  later_at : IsRowAt s.maps active.disk later
  later_at =
      let old = p.rows active.disk active.row here_row in
      record {
        id = old.id;
        of = old.of;
        many = simp length-append (let e = old.many in omega arith);
        snaps = λ i snap e. elim (get_last active.row.snaps taken i snap e) [
          | inl was ↦ old.snaps i snap was
          | inr new ↦ (let a : snap.epoch ≡ active.row.epoch = ap (λ (x : Snapshot). x.epoch) new.1 in let b = new.0 in let c = old.many in omega arith)
        ];
        names = λ i j one other e f same. elim (get_last active.row.snaps taken i one e) [
          | inl was ↦ elim (get_last active.row.snaps taken j other f) [
            | inl too ↦ old.names i j one other was too same
            | inr new ↦ new_name i one was (same ∙ ap (λ (x : Snapshot). x.name) new.1)
          ]
          | inr new ↦ elim (get_last active.row.snaps taken j other f) [
            | inl was ↦ new_name j other was (sym same ∙ ap (λ (x : Snapshot). x.name) new.1)
            | inr too ↦ new.0 ∙ sym too.0
          ]
        ];
        moving = λ move e. let m = old.moving move e in
            record { old = m.old; from = m.from; next = m.next; now = m.now; shape = m.shape; waits = m.waits };
      }

  later_disk : IsLaterDisk active.row later
  later_disk = record {
    id = refl;
    name = refl;
    map = no_less active.row.map;
    stages = λ cell low. no_less (stage_of cell active.row);
    back = λ of lt left. (refl, left);
    onward = omega arith;
    more = taken ∷ [];
    snaps = refl;
  }

  fences_now : AreQueued t
  fences_now = record {
    each = λ i f e.
        let b = get_after (servers_in s.view.members) s.view.queue i f e in
        fence_then servers s p active.disk active.row active.known (row_frozen active.name) (passed s.view).queue s.view.queued later_disk
        b.0 f b.2 (p.fences.each (suc i) b.0 b.1)
        (λ h same.
        find_after (λ (snap : Snapshot). same_name snap.name h.name) active.row.snaps (taken ∷ [])
        (ap (λ (r : DiskRow). snapshot_named r.snaps h.name) (row_known servers s p active.disk active.row active.known (row_frozen active.name) h.disk h.row
        same h.known) ∙ h.fresh)
        ∙ ap (λ b. cond b (Some taken) None) (by_bool (same_name active.name h.name)
        (λ t.
        let name = nat_lists_same active.name h.name t in
        let zero_too : 0 ≡ suc i = p.fences.apart 0 (suc i) fence b.0 active.disk active.client active.seq h.client h.seq active.name first b.1 active.kind
        (h.kind ∙ (λ k. Whole (same k) (sym name k) h.client h.seq)) in
        absurd (omega arith))
        (λ f. f)))
        (λ h same.
        let is = row_known servers s p active.disk active.row active.known (row_frozen active.name) h.disk h.row same h.known in
        (h.move, ap (λ (r : DiskRow). r.moving) is ∙ h.moves, h.shape));
    apart = after_apart servers s p;
    once = after_once servers s p;
    present = λ f n e waits. waits_present s.view.members f n (head_after (servers_in s.view.members) s.view.queue f e) waits;
  }

  freezing : Acted servers s t
  freezing = rowing servers s p active.disk active.row active.known (row_frozen active.name) (passed s.view).queue s.view.queued later_disk later_at
      (λ of. refl) fences_now

  confirming : (client seq : ℕ) (last : Option Latest) → Acted servers s (confirmed t client seq last)
  confirming client seq None = freezing
  confirming client seq (Some last) = by_test (Acted servers s) (last.seq == seq) (told t client seq Verdict.Ok) t
      (λ is. untabled servers s.rev (told t client seq Verdict.Ok).verdicts s t freezing)
      (λ no. freezing)

  rows_confirmed : (u : State) (client seq : ℕ) (last : Option Latest) → (confirmed u client seq last).disks.rows ≡ u.disks.rows
  rows_confirmed u client seq None = refl
  rows_confirmed u client seq (Some last) = by_test (λ (v : State). v.disks.rows ≡ u.disks.rows) (last.seq == seq) (told u client seq Verdict.Ok) u
      (λ is. refl) (λ no. refl)

  -- the row of each other disk is as before
  pub passed_beside : (i : ℕ) → i ≢ active.disk → slice_get (one_passed s fence).disks.rows i ≡ slice_get s.disks.rows i
  passed_beside i ne =
      ap (λ kind. slice_get (effect kind (record s { view = passed s.view })).disks.rows i) active.kind
      ∙ ap (λ rows. slice_get rows i) (rows_confirmed t active.client active.seq (latest s active.client))
      ∙ beside servers s p active.disk active.row active.known (row_frozen active.name) i ne

  -- that of the fence's disk has the snapshot
  pub passed_here : slice_get (one_passed s fence).disks.rows active.disk ≡ Some (row_frozen active.name active.row)
  passed_here =
      ap (λ kind. slice_get (effect kind (record s { view = passed s.view })).disks.rows active.disk) active.kind
      ∙ ap (λ rows. slice_get rows active.disk) (rows_confirmed t active.client active.seq (latest s active.client))
      ∙ here_now servers s p active.disk active.row active.known (row_frozen active.name)

  passing_snapshot : Acted servers s (one_passed s fence)
  passing_snapshot = subst (λ kind. Acted servers s (effect kind (record s { view = passed s.view }))) (sym active.kind)
      (confirming active.client active.seq (latest s active.client))

-- ### A fence for a region

module _ (servers : ℕ) (s : State) (p : IsUnsettled servers s) (fence : Fence) (first : slice_get s.view.queue 0 ≡ Some fence)
    (active : IsForRegion s fence) where
  abbrev fence_row : DiskRow → DiskRow
  fence_row = row_fenced active.region

  abbrev on_way : State
  on_way = record s { view = passed s.view; disks = fenced s.disks active.disk active.region }

  pub region_row : slice_get s.disks.rows active.disk ≡ Some active.row
  region_row = here servers s p active.disk active.row active.known fence_row

  abbrev move_now : Move
  move_now = move_fenced active.region active.move

  pub moves_now : (fence_row active.row).moving ≡ Some move_now
  moves_now = ap (option_map (move_fenced active.region)) active.moves

  -- the region that is next goes forward, and no other
  pub region_on : (cell : Cell) → stage_of cell active.row ≤ stage_of cell (fence_row active.row)
  region_on cell = subst (λ m. stage_of cell (record active.row { moving = m })
      ≤ stage_of cell (record active.row { moving = option_map (move_fenced active.region) m }))
      (sym active.moves)
      (moved_on cell active.row (Some active.move) (Some move_now) (λ left. left)
      (set_on active.move.regions active.region (region_of cell.block) Old Fenced active.shape.here (omega arith)))

  region_later : IsLaterDisk active.row (fence_row active.row)
  region_later = record {
    id = refl;
    name = refl;
    map = no_less active.row.map;
    stages = λ cell low. region_on cell;
    back = λ of lt left. (refl, ap (leaves of) active.moves ∙ sym (ap (leaves of) moves_now) ∙ left);
    onward = no_less active.row.epoch;
    more = [];
    snaps = sym (append-nil active.row.snaps);
  }

  region_at : IsRowAt s.maps active.disk (fence_row active.row)
  region_at =
      let old = p.rows active.disk active.row region_row in
      let m = old.moving active.move active.moves in
      record {
        id = old.id;
        of = old.of;
        many = old.many;
        snaps = old.snaps;
        names = old.names;
        moving = λ move e. subst (IsMove s.maps active.disk active.row.map) (same_some (sym moves_now ∙ e)) (record {
          old = m.old;
          from = m.from;
          next = active.region;
          now = Fenced;
          shape = shape_set active.move.regions active.region Old Fenced active.shape;
          waits = inr refl;
        });
      }

  -- the disk keeps its maps
  region_keeps : (of : ℕ) → has_map of (fence_row active.row) ≡ has_map of active.row
  region_keeps of =
      ap (λ m. active.row.map == of || leaves of m) moves_now ∙ sym (ap (λ m. active.row.map == of || leaves of m) active.moves)

  region_fences : AreQueued on_way
  region_fences = record {
    each = λ i f e.
        let b = get_after (servers_in s.view.members) s.view.queue i f e in
        fence_then servers s p active.disk active.row active.known fence_row (passed s.view).queue s.view.queued region_later
        b.0 f b.2 (p.fences.each (suc i) b.0 b.1)
        (λ h same. ap (λ (r : DiskRow). snapshot_named r.snaps h.name) (row_known servers s p active.disk active.row active.known fence_row h.disk h.row same
        h.known) ∙ h.fresh)
        (λ h same.
        let zero_too : 0 ≡ suc i = p.fences.once 0 (suc i) fence b.0 active.disk active.region h.region first b.1 active.kind
        (h.kind ∙ ap (λ k. Region k h.region) same) in
        absurd (omega arith));
    apart = after_apart servers s p;
    once = after_once servers s p;
    present = λ f n e waits. waits_present s.view.members f n (head_after (servers_in s.view.members) s.view.queue f e) waits;
  }

  passing_region : Acted servers s (one_passed s fence)
  passing_region = subst (λ kind. Acted servers s (effect kind (record s { view = passed s.view }))) (sym active.kind)
      (rowing servers s p active.disk active.row active.known fence_row (passed s.view).queue s.view.queued region_later region_at region_keeps region_fences)

  -- the row of each other disk is as before
  pub region_beside : (i : ℕ) → i ≢ active.disk → slice_get (one_passed s fence).disks.rows i ≡ slice_get s.disks.rows i
  region_beside i ne =
      ap (λ kind. slice_get (effect kind (record s { view = passed s.view })).disks.rows i) active.kind
      ∙ beside servers s p active.disk active.row active.known fence_row i ne

  pub region_here : slice_get (one_passed s fence).disks.rows active.disk ≡ Some (fence_row active.row)
  region_here =
      ap (λ kind. slice_get (effect kind (record s { view = passed s.view })).disks.rows active.disk) active.kind
      ∙ here_now servers s p active.disk active.row active.known fence_row

-- whichever it is
pub passing : (servers : ℕ) (s : State) (p : IsUnsettled servers s) (fence : Fence) → slice_get s.view.queue 0 ≡ Some fence
    → Acted servers s (one_passed s fence)
passing servers s p fence first = elim (p.fences.each 0 fence first) [
  | Of_disk h ↦ passing_snapshot servers s p fence first h
  | Of_region h ↦ passing_region servers s p fence first h
]

-- ### The whole

-- what waits after the head is one fence less
fewer : (s : State) (fence : Fence) (n : ℕ) → ready s.view.queue ≡ Some fence → length s.view.queue ≤ suc n → length (one_passed s fence).view.queue ≤ n
fewer s fence n is few =
    let e = length-following (servers_in s.view.members) s.view.queue fence is in
    let f : length (one_passed s fence).view.queue ≡ length (following (servers_in s.view.members) s.view.queue) =
    ap (λ (v : View). length v.queue) (view-effect fence.kind (record s { view = passed s.view })) in
    omega arith

settling_by : (servers n : ℕ) (s : State) → IsUnsettled servers s → length s.view.queue ≤ n → Step servers s (settled s)
settling_by servers zero s p few = elim (some_or_none (ready s.view.queue)) [
  | inr none ↦ subst (Step servers s) (sym (settled_none s none)) (record { plain = settles servers s p none; grown = grown_itself s })
  | inl h ↦ let e = length-following (servers_in s.view.members) s.view.queue h.0 h.1 in absurd (omega arith)
]
settling_by servers (suc n) s p few = elim (some_or_none (ready s.view.queue)) [
  | inr none ↦ subst (Step servers s) (sym (settled_none s none)) (record { plain = settles servers s p none; grown = grown_itself s })
  | inl h ↦
      let t = one_passed s h.0 in
      let one = passing servers s p h.0 (head_get s.view.queue h.0 (ready_by s.view.queue h.0 h.1).first) in
      let rest = settling_by servers n t one.plain (fewer s h.0 n h.1 few) in
      subst (Step servers s) (sym (settled_one s h.0 h.1)) (record { plain = rest.plain; grown = grown_on s t (settled t) one.grown rest.grown })
]

-- what has settled is plain
pub settling : (servers : ℕ) (s : State) → IsUnsettled servers s → Step servers s (settled s)
settling servers s p = settling_by servers (length s.view.queue) s p (no_less (length s.view.queue))
