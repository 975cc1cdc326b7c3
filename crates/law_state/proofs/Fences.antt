-- Between what a command does and what settles after it: a state that is plain, but that its active fence may wait for nobody.
use Rattle.law_state.proofs.Imports.{[], if◌then◌else◌, ◌&&◌, ◌++◌, ◌+◌, ◌<◌, ◌==◌, ◌||◌, ◌∙◌, ◌∷◌, ◌≡◌, ◌≢◌, ◌≤◌, ◌⊎◌, Bool, DiskRow, Fence, FenceKind}
use Rattle.law_state.proofs.Imports.{Latest, LinkRow, List, Member, Move, None, Old, Option, Region, Some, State, View, Whole, any-filter_same, ap, arith}
use Rattle.law_state.proofs.Imports.{awaiting, awaits, both_true, by_bool, disk_at, false, filter, first_waiting, following, head, inl, inr, is_in, is_up}
use Rattle.law_state.proofs.Imports.{length, link_at, list_any, nat_eq, nat_tests, none_some, not, option_map_or, queued, range_with_len, ready, refl}
use Rattle.law_state.proofs.Imports.{reported, same_numbers, same_some, servers_in, slice_get, slice_get_within, snapshot_named, stands_in, subst, suc, sym}
use Rattle.law_state.proofs.Imports.{true, true_false, with_fence, zero, ℕ}
use Rattle.law_state.specs.Homes.{stage_at}
use Rattle.law_state.specs.Tables.{IsForRegion, IsForSnapshot, IsLinkOf, HasLinkOf, IsFence, IsGrown, IsSettledState, IsShape, Of_disk, Of_region}
use Rattle.law_state.specs.LinkRows.{IsServed}
use Rattle.law_state.proofs.Ages.{no_less}
use Rattle.law_state.proofs.ListLookups.{get_last}
use Rattle.law_state.proofs.GrownStates.{grown_still, later_disk_itself, Step, grown_itself, grown_on}
pub use Rattle.law_state.specs.Tables.{AreQueued, IsUnsettled}

-- the state is so, and has grown from this one
pub record Acted (servers : ℕ) (s t : State) : Type 0 where
  pub plain : IsUnsettled servers t
  pub grown : IsGrown s t

pub acts_not : (servers : ℕ) (s : State) → IsSettledState servers s → Acted servers s s
acts_not servers s p = record { plain = p.unsettled; grown = grown_itself s }

-- a head that is not ready waits for somebody
waits_for : (queue : List Fence) (fence : Fence) → ready queue ≡ None → head queue ≡ Some fence → fence.waiting ≢ []
waits_for [] fence none is = none_some refl is
waits_for (first ∷ rest) fence none is = λ e. none_some none
    (ap (λ (waiting : List ℕ). if length waiting == 0 then Some first else None) (ap (λ (f : Fence). f.waiting) (same_some is) ∙ e))

-- where no fence is ready the state is plain
pub settles : (servers : ℕ) (s : State) → IsUnsettled servers s → ready s.view.queue ≡ None → IsSettledState servers s
settles servers s p none = record { unsettled = p; waits = λ fence is. waits_for s.view.queue fence none is }

empty : (xs : List ℕ) → length xs ≡ 0 → xs ≡ []
empty [] e = refl
empty (x ∷ xs) e = absurd (omega arith)

-- and the other way round: a head that waits for somebody is not ready
pub none_ready : (queue : List Fence) → ((fence : Fence) → head queue ≡ Some fence → fence.waiting ≢ []) → ready queue ≡ None
none_ready [] waits = refl
none_ready (first ∷ rest) waits = by_bool (length first.waiting == 0)
    (λ t. absurd (waits first refl (empty first.waiting (same_numbers (length first.waiting) 0 t))))
    (λ f. ap (λ b. if b then Some first else None) f)

pub not_ready : (servers : ℕ) (s : State) → IsSettledState servers s → ready s.view.queue ≡ None
not_ready servers s p = none_ready s.view.queue p.waits

-- the fence that is ready is the head, and waits for nobody
pub record IsReady (queue : List Fence) (fence : Fence) : Type 0 where
  pub first : head queue ≡ Some fence
  pub nobody : fence.waiting ≡ []

pub ready_by : (queue : List Fence) (fence : Fence) → ready queue ≡ Some fence → IsReady queue fence
ready_by [] fence e = none_some refl e
ready_by (first ∷ rest) fence e = by_bool (length first.waiting == 0)
    (λ t.
    let is : Some first ≡ Some fence = sym (ap (λ b. if b then Some first else None) t) ∙ e in
    record { first = is; nobody = ap (λ (f : Fence). f.waiting) (sym (same_some is)) ∙ empty first.waiting (same_numbers (length first.waiting) 0 t) })
    (λ f. none_some (ap (λ b. if b then Some first else None) f) e)

-- ### A state of the same tables

-- a fence for a snapshot stands in another state, where its disk has no such snapshot there either
pub snapshot_on : (s t : State) (before fence : Fence) (h : IsForSnapshot s before) → fence.kind ≡ before.kind → (row : DiskRow)
    → disk_at t.disks.rows h.disk ≡ Some row → snapshot_named row.snaps h.name ≡ None → IsFence t fence
snapshot_on s t before fence h like row known fresh = Of_disk
    (record { disk = h.disk; name = h.name; client = h.client; seq = h.seq; kind = like ∙ h.kind; row = row; known = known; fresh = fresh })

-- and one for a region, where that is the next of its disk's move there, too
pub region_on : (s t : State) (before fence : Fence) (h : IsForRegion s before) → fence.kind ≡ before.kind → (row : DiskRow) (move : Move)
    → disk_at t.disks.rows h.disk ≡ Some row → row.moving ≡ Some move → IsShape move.regions h.region Old → IsFence t fence
region_on s t before fence h like row move known moves shape = Of_region
    (record { disk = h.disk; region = h.region; kind = like ∙ h.kind; row = row; known = known; move = move; moves = moves; shape = shape })

-- the fence is as before, over the same disks
pub fence_kept : (s t : State) (before fence : Fence) → t.disks.rows ≡ s.disks.rows → fence.kind ≡ before.kind → IsFence s before → IsFence t fence
fence_kept s t before fence same like (Of_disk h) =
    snapshot_on s t before fence h like h.row (ap (λ rows. disk_at rows h.disk) same ∙ h.known) h.fresh
fence_kept s t before fence same like (Of_region h) =
    region_on s t before fence h like h.row h.move (ap (λ rows. disk_at rows h.disk) same ∙ h.known) h.moves h.shape

-- a row is what its tuple asks for in another state, too, where it is served there
pub asked_on : (s t : State) (of : ℕ) (tuple : List ℕ) (link : ℕ) (row : LinkRow) → IsLinkOf s of tuple link row → IsServed t row
    → IsLinkOf t of tuple link row
asked_on s t of tuple link row asked served =
    record { map = asked.map; place = asked.place; primary = asked.primary; secondary = asked.secondary; served = served }

-- a link is as before, where links and members are
pub link_kept : (s t : State) (of link : ℕ) (tuple : List ℕ) → t.links ≡ s.links → t.view.members ≡ s.view.members → HasLinkOf s of tuple link
    → HasLinkOf t of tuple link
link_kept s t of link tuple links members h = record {
  row = h.row;
  is = ap (λ l. link_at l of link) links ∙ h.is;
  asked = asked_on s t of tuple link h.row h.asked (subst served_by (sym members) h.asked.served);
}
  where
    served_by : List Member → Type 0
    served_by m = IsServed (record s { view = record s.view { members = m } }) h.row

-- what the tables say stays so under another queue, revision or list of verdicts
pub requeued : (servers : ℕ) (s : State) → IsUnsettled servers s → (rev waiting : ℕ) (queue : List Fence) (verdicts : List (Option Latest))
    → AreQueued (record s { rev = rev; view = record s.view { queue = queue; queued = waiting }; verdicts = verdicts })
    → Acted servers s (record s { rev = rev; view = record s.view { queue = queue; queued = waiting }; verdicts = verdicts })
requeued servers s p rev waiting queue verdicts fences =
    let t : State = record s { rev = rev; view = record s.view { queue = queue; queued = waiting }; verdicts = verdicts } in record {
      plain = record {
        many = p.many;
        members = p.members;
        fences = fences;
        made = p.made;
        homes = λ of disk e. let h = p.homes of disk e in record { row = h.row; is = h.is; newest = h.newest };
        rows = p.rows;
        names = p.names;
        tuples = p.tuples;
        links = λ of link tuple e lt has. link_kept s t of link tuple refl refl (p.links of link tuple e lt has);
        unlinked = p.unlinked;
        found = p.found;
      };
      grown = grown_still s t (no_less (length s.disks.rows)) (λ i row e. record { now = row; is = e; so = later_disk_itself row }) refl refl refl
          (λ cell. no_less (stage_at s cell));
    }

-- the revision and what clients are told are of no table
pub untabled : (servers rev : ℕ) (verdicts : List (Option Latest)) (s t : State) → Acted servers s t
    → Acted servers s (record t { rev = rev; verdicts = verdicts })
untabled servers rev verdicts s t h =
    let u : State = record t { rev = rev; verdicts = verdicts } in
    let fences : AreQueued u = record {
      each = λ i fence e. fence_kept t u fence fence refl refl (h.plain.fences.each i fence e);
      apart = h.plain.fences.apart;
      once = h.plain.fences.once;
      present = h.plain.fences.present;
    } in
    let now = requeued servers t h.plain rev t.view.queued t.view.queue verdicts fences in
    record { plain = now.plain; grown = grown_on s t u h.grown now.grown }

pub renumbered : (servers rev : ℕ) (s t : State) → Step servers s t → Step servers s (record t { rev = rev })
renumbered servers rev s t h =
    let now = untabled servers rev t.verdicts s t (record { plain = h.plain.unsettled; grown = h.grown }) in
    record { plain = settles servers (record t { rev = rev }) now.plain (not_ready servers t h.plain); grown = now.grown }

-- ### Queues

-- each fence stood before at the same place
abbrev pub IsRequeued : (old new : List Fence) → Type 0
IsRequeued old new = (i : ℕ) (fence : Fence) → slice_get new i ≡ Some fence
    → (before : Fence) × (slice_get old i ≡ Some before) × (fence.kind ≡ before.kind)

pub requeued_itself : (queue : List Fence) → IsRequeued queue queue
requeued_itself queue i fence e = (fence, e, refl)

pub requeued_awaiting : (waiting : List ℕ) (queue : List Fence) → IsRequeued queue (awaiting waiting queue)
requeued_awaiting waiting [] i fence e = none_some refl e
requeued_awaiting waiting (first ∷ rest) zero fence e = (first, refl, ap (λ (f : Fence). f.kind) (sym (same_some e)))
requeued_awaiting waiting (first ∷ rest) (suc i) fence e = (fence, e, refl)

pub requeued_reported : (server : ℕ) (queue : List Fence) → IsRequeued queue (reported server queue)
requeued_reported server [] i fence e = none_some refl e
requeued_reported server (first ∷ rest) zero fence e = (first, refl, ap (λ (f : Fence). f.kind) (sym (same_some e)))
requeued_reported server (first ∷ rest) (suc i) fence e = (fence, e, refl)

pub queued_on : (s t : State) → AreQueued s → t.disks.rows ≡ s.disks.rows → IsRequeued s.view.queue t.view.queue
    → ((fence : Fence) (n : ℕ) → head t.view.queue ≡ Some fence → awaits fence n ≡ true → is_up t n ≡ true) → AreQueued t
queued_on s t old same was present = record {
  each = λ i fence e. let b = was i fence e in fence_kept s t b.0 fence same b.2 (old.each i b.0 b.1);
  apart = λ i j one other disk client seq later again name e f kind like.
      let a = was i one e in
      let b = was j other f in
      old.apart i j a.0 b.0 disk client seq later again name a.1 b.1 (sym a.2 ∙ kind) (sym b.2 ∙ like);
  once = λ i j one other disk region later e f kind like.
      let a = was i one e in
      let b = was j other f in
      old.once i j a.0 b.0 disk region later a.1 b.1 (sym a.2 ∙ kind) (sym b.2 ∙ like);
  present = present;
}

pub head_get : (queue : List Fence) (fence : Fence) → head queue ≡ Some fence → slice_get queue 0 ≡ Some fence
head_get [] fence e = none_some refl e
head_get (first ∷ rest) fence e = e

pub head_awaiting : (waiting : List ℕ) (queue : List Fence) (fence : Fence) → head (awaiting waiting queue) ≡ Some fence → fence.waiting ≡ waiting
head_awaiting waiting [] fence e = none_some refl e
head_awaiting waiting (first ∷ rest) fence e = ap (λ (f : Fence). f.waiting) (sym (same_some e))

-- of what is after the head the first one waits for these servers
pub head_after : (waiting : List ℕ) (queue : List Fence) (fence : Fence) → head (following waiting queue) ≡ Some fence → fence.waiting ≡ waiting
head_after waiting [] fence e = none_some refl e
head_after waiting (first ∷ rest) fence e = head_awaiting waiting rest fence e

pub get_after : (waiting : List ℕ) (queue : List Fence) (i : ℕ) (fence : Fence) → slice_get (following waiting queue) i ≡ Some fence
    → (before : Fence) × (slice_get queue (suc i) ≡ Some before) × (fence.kind ≡ before.kind)
get_after waiting [] i fence e = none_some refl e
get_after waiting (first ∷ rest) i fence e = requeued_awaiting waiting rest i fence e

-- the head after a report is the one before, which waits for one server less
pub record IsReported (server : ℕ) (before fence : Fence) : Type 0 where
  pub number : fence.number ≡ before.number
  pub kind : fence.kind ≡ before.kind
  pub waiting : fence.waiting ≡ filter (λ other. not (other == server)) before.waiting

pub head_reported : (server : ℕ) (queue : List Fence) (fence : Fence) → head (reported server queue) ≡ Some fence
    → (before : Fence) × (head queue ≡ Some before) × IsReported server before fence
head_reported server [] fence e = none_some refl e
head_reported server (first ∷ rest) fence e = (
  first,
  refl,
  record {
    number = ap (λ (f : Fence). f.number) (sym (same_some e));
    kind = ap (λ (f : Fence). f.kind) (sym (same_some e));
    waiting = ap (λ (f : Fence). f.waiting) (sym (same_some e));
  },
)

-- the head after a new fence is the one before, or the new one, where no other waits
pub head_queued : (v : View) (kind : FenceKind) (fence : Fence) → head (queued v kind).queue ≡ Some fence
    → (head v.queue ≡ Some fence) ⊎ (fence.waiting ≡ servers_in v.members)
head_queued v kind fence = by v.queue
  where
    by : (queue : List Fence)
        → head (queue ++ record { number = v.queued + 1; kind = kind; waiting = first_waiting v.members queue } ∷ []) ≡ Some fence
        → (head queue ≡ Some fence) ⊎ (fence.waiting ≡ servers_in v.members)
    by [] e = inr (ap (λ (f : Fence). f.waiting) (sym (same_some e)))
    by (first ∷ rest) e = inl e

-- ### For whom a fence waits

any_filter : (p : ℕ → Bool) (n : ℕ) (xs : List ℕ) → list_any (nat_eq n) (filter p xs) ≡ (p n && list_any (nat_eq n) xs)
any_filter p n xs = any-filter_same (nat_eq n) p (p n) (λ k e. ap p (sym (same_numbers n k e))) xs

any_range : (n start many : ℕ) → start ≤ n → n < start + many → list_any (nat_eq n) (range_with_len start many) ≡ true
any_range n start zero low high = absurd (omega arith)
any_range n start (suc many) low high = by_bool (nat_eq n start)
    (λ t. ap (λ b. b || list_any (nat_eq n) (range_with_len (start + 1) many)) t)
    (λ f. ap (λ b. b || list_any (nat_eq n) (range_with_len (start + 1) many)) f ∙ any_range n (start + 1) many (past f) (omega arith))
  where
    past : nat_eq n start ≡ false → start + 1 ≤ n
    past f = grind (arith, nat_tests)

-- one that waits for all that are In waits for these alone
pub waits_present : (members : List Member) (fence : Fence) (n : ℕ) → fence.waiting ≡ servers_in members → awaits fence n ≡ true → stands_in members n ≡ true
waits_present members fence n is e =
    (both_true (stands_in members n) _ (sym (any_filter (stands_in members) n (range_with_len 0 (length members))) ∙ sym (ap (list_any (nat_eq n)) is) ∙ e)).0

pub present_waits : (members : List Member) (fence : Fence) (n : ℕ) → fence.waiting ≡ servers_in members → stands_in members n ≡ true → awaits fence n ≡ true
present_waits members fence n is up =
    ap (list_any (nat_eq n)) is ∙ any_filter (stands_in members) n (range_with_len 0 (length members))
    ∙ ap (λ b. b && list_any (nat_eq n) (range_with_len 0 (length members))) up
    ∙ any_range n 0 (length members) (omega arith) (within (slice_get members n) refl)
  where
    within : (o : Option Member) → slice_get members n ≡ o → n < 0 + length members
    within (Some m) e = let lt = slice_get_within members n m e in omega arith
    within None e = true_false up (ap (λ o. option_map_or is_in o false) e)

-- a report takes its server alone from those that are awaited
pub waits_before : (server : ℕ) (before fence : Fence) (n : ℕ) → IsReported server before fence → awaits fence n ≡ true → awaits before n ≡ true
waits_before server before fence n r e =
    (both_true (not (n == server)) (awaits before n)
    (sym (any_filter (λ other. not (other == server)) n before.waiting) ∙ sym (ap (list_any (nat_eq n)) r.waiting) ∙ e)).1

pub waits_still : (server : ℕ) (before fence : Fence) (n : ℕ) → IsReported server before fence → (n == server) ≡ false → awaits before n ≡ true
    → awaits fence n ≡ true
waits_still server before fence n r away e =
    ap (list_any (nat_eq n)) r.waiting ∙ any_filter (λ other. not (other == server)) n before.waiting
    ∙ ap (λ b. not b && list_any (nat_eq n) before.waiting) away ∙ e

-- ### A fence more for a region

-- the new one is no fence for a snapshot
region_no_snapshot : {A : Type 0} {disk other region client seq : ℕ} {name : List ℕ} → Region disk region ≡ Whole other name client seq → A
region_no_snapshot {disk = disk} {other = other} {region = region} {client = client} {seq = seq} {name = name} e =
    let f : Region disk region ≡ Whole other name client seq = e in absurd cc

pub same_region : {disk other region later : ℕ} → Region disk region ≡ Region other later → (disk ≡ other) × (region ≡ later)
same_region e = (cc, cc)

-- of a disk for which none waits, and that has come to the region
module _ (u : State) (disk region : ℕ) where
  abbrev late : Fence
  late = record { number = u.view.queued + 1; kind = Region disk region; waiting = first_waiting u.view.members u.view.queue }

  abbrev t : State
  t = with_fence u (Region disk region)

  pub region_queued : AreQueued u → (row : DiskRow) (move : Move)
      → ((i : ℕ) (fence : Fence) (later : ℕ) → slice_get u.view.queue i ≡ Some fence → fence.kind ≢ Region disk later)
      → disk_at u.disks.rows disk ≡ Some row → row.moving ≡ Some move → IsShape move.regions region Old → AreQueued t
  region_queued old row move none known moves shape = record {
    each = λ i fence e. elim (get_last u.view.queue late i fence e) [
      | inl was ↦ fence_kept u t fence fence refl refl (old.each i fence was)
      | inr new ↦ Of_region (record {
        disk = disk;
        region = region;
        kind = ap (λ (x : Fence). x.kind) new.1;
        row = row;
        known = known;
        move = move;
        moves = moves;
        shape = shape;
      })
    ];
    apart = λ i j one other of client seq later again name e f kind like. elim (get_last u.view.queue late i one e) [
      | inr new ↦ region_no_snapshot (sym (ap (λ (x : Fence). x.kind) new.1) ∙ kind)
      | inl was ↦ elim (get_last u.view.queue late j other f) [
        | inr new ↦ region_no_snapshot (sym (ap (λ (x : Fence). x.kind) new.1) ∙ like)
        | inl too ↦ old.apart i j one other of client seq later again name was too kind like
      ]
    ];
    once = λ i j one other of first later e f kind like. elim (get_last u.view.queue late i one e) [
      | inr new ↦ elim (get_last u.view.queue late j other f) [
        | inr newer ↦ new.0 ∙ sym newer.0
        | inl was ↦ absurd (none j other later was
            (like ∙ ap (λ k. Region k later) (sym (same_region (sym (ap (λ (x : Fence). x.kind) new.1) ∙ kind)).0)))
      ]
      | inl was ↦ elim (get_last u.view.queue late j other f) [
        | inr new ↦ absurd (none i one first was
            (kind ∙ ap (λ k. Region k first) (sym (same_region (sym (ap (λ (x : Fence). x.kind) new.1) ∙ like)).0)))
        | inl too ↦ old.once i j one other of first later was too kind like
      ]
    ];
    present = λ fence n e waits. elim (head_queued u.view (Region disk region) fence e) [
      | inl was ↦ old.present fence n was waits
      | inr all ↦ waits_present u.view.members fence n all waits
    ];
  }
