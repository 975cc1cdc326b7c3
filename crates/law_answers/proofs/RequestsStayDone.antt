-- What requests with commands ask for, and what a state goes on to say of it: a disk, a snapshot, or that a disk is on the move.
use Rattle.law_answers.proofs.Imports.{[], if◌then◌else◌, ◌++◌, ◌∙◌, ◌∷◌, ◌≡◌, Bool, Command, DiskRow, Fence, HasProperTuples, In, IsFence, IsGrown}
use Rattle.law_answers.proofs.Imports.{IsLaterDisk, IsUnsettled, Latest, List, MakeDisk, None, Of_disk, Of_region, Option, Region, Request, Snap, Snapshot}
use Rattle.law_answers.proofs.Imports.{Some, StartMove, Whole, ap, command_of, disk_at, disk_at_is, false, find_after, find_here, find_prefix, found_at}
use Rattle.law_answers.proofs.Imports.{has_made, head_get, here_row, inl, inr, is_some, move_fenced, named, nat_lists_same, none_some, one_passed, option_map}
use Rattle.law_answers.proofs.Imports.{option_map_or, passed_beside, passed_here, passing, ready_by, refl, region_beside, region_here, replicate, row_fenced}
use Rattle.law_answers.proofs.Imports.{row_frozen, same_or_apart, same_some, settled, settled_keeps, slice_get, snapshot_named, some_or_none, suc, sym, take}
use Rattle.law_answers.proofs.Imports.{text_itself, true, true_false, unwrap_or, zero, ℕ}
use Rattle.std.specs.Prelude.{find}
use Rattle.global_tables.specs.Disk.{same_name}
use Rattle.spec_state.specs.State.{State}
use Rattle.script_lines.specs.declared.request.Request.TheVariants as request

-- ### Prefixes of a log

pub in_take : {X : Type 0} (x : X) (xs : List X) (k : ℕ) → In x (take k xs) → In x xs
unfolding In
in_take x [] zero h = absurd h
in_take x [] (suc k) h = absurd h
in_take x (y ∷ xs) zero h = absurd h
in_take x (y ∷ xs) (suc k) (inl is) = inl is
in_take x (y ∷ xs) (suc k) (inr later) = inr (in_take x xs k later)

pub plain_prefix : (servers : ℕ) (log : List Command) (k : ℕ) → HasProperTuples servers log → HasProperTuples servers (take k log)
plain_prefix servers log k plain command h = plain command (in_take command log k h)

pub take_next : {X : Type 0} (xs : List X) (k : ℕ) (x : X) → slice_get xs k ≡ Some x → take (suc k) xs ≡ take k xs ++ x ∷ []
take_next [] k x e = none_some refl e
take_next (y ∷ xs) zero x e = ap (λ z. z ∷ []) (same_some e)
take_next (y ∷ xs) (suc k) x e = ap (λ zs. y ∷ zs) (take_next xs k x e)

-- at the start nobody was told anything
pub nobody_told : (n c : ℕ) → unwrap_or (slice_get (replicate n (let none : Option Latest = None in none)) c) None ≡ None
nobody_told zero c = refl
nobody_told (suc n) zero = refl
nobody_told (suc n) (suc c) = nobody_told n c

-- ### Disks

-- a disk that is found by its name is found so later, at the place of its number
pub named_on : (servers : ℕ) (s t : State) → IsUnsettled servers s → IsUnsettled servers t → IsGrown s t → (name : List ℕ) (row : DiskRow)
    → named s.disks.rows name ≡ Some row
    → (now : DiskRow) × (named t.disks.rows name ≡ Some now) × IsLaterDisk row now × (slice_get t.disks.rows row.id ≡ Some now)
named_on servers s t p q g name row e =
    let at = found_at (λ (r : DiskRow). same_name r.name name) s.disks.rows row e in
    let later = g.rows at.0 row at.1 in
    let text : row.name ≡ name = nat_lists_same row.name name at.2 in
    let now_text : later.now.name ≡ name = later.so.name ∙ text in (
      later.now,
      find_here (λ (r : DiskRow). same_name r.name name) t.disks.rows at.0 later.now later.is
          (ap (λ n. same_name n name) now_text ∙ text_itself name)
          (λ j other f same. q.names j at.0 other later.now f later.is (nat_lists_same other.name name same ∙ sym now_text)),
      later.so,
      ap (slice_get t.disks.rows) (p.rows at.0 row at.1).id ∙ later.is,
    )

pub last_found : {A : Type 0} (p : A → Bool) (xs : List A) (y : A) → p y ≡ true → is_some (find p (xs ++ y ∷ [])) ≡ true
last_found p xs y is = elim (some_or_none (find p xs)) [
  | inl found ↦ ap is_some (find_prefix p xs (y ∷ []) found.0 found.1)
  | inr none ↦ ap is_some (find_after p xs (y ∷ []) none) ∙ ap (λ (b : Bool). is_some (if b then Some y else None)) is
]

pub still_found : {A : Type 0} (p : A → Bool) (xs ys : List A) → is_some (find p xs) ≡ true → is_some (find p (xs ++ ys)) ≡ true
still_found p xs ys h = elim (some_or_none (find p xs)) [
  | inl found ↦ ap is_some (find_prefix p xs ys found.0 found.1)
  | inr none ↦ true_false h (ap is_some none)
]

-- what a request asked for is there still
-- a disk's move comes to an end: what stays so of a request is that its disk or snapshot is there
abbrev pub has_kept : State → Request → Bool
has_kept s (request.Move name tuple) = true
has_kept s asked = has_made s asked

pub made_on : (servers : ℕ) (s t : State) → IsUnsettled servers s → IsUnsettled servers t → IsGrown s t → (asked : Request) → has_kept s asked ≡ true
    → has_kept t asked ≡ true
made_on servers s t p q g (request.Disk name tuple) h = elim (some_or_none (named s.disks.rows name)) [
  | inl found ↦ ap is_some (named_on servers s t p q g name found.0 found.1).1
  | inr none ↦ true_false h (ap is_some none)
]
made_on servers s t p q g (request.Snap name snap) h = elim (some_or_none (named s.disks.rows name)) [
  | inl found ↦
      let later = named_on servers s t p q g name found.0 found.1 in
      let had : is_some (snapshot_named found.0.snaps snap) ≡ true =
      sym (ap (λ o. option_map_or (λ (row : DiskRow). is_some (snapshot_named row.snaps snap)) o false) found.1) ∙ h in
      ap (λ o. option_map_or (λ (row : DiskRow). is_some (snapshot_named row.snaps snap)) o false) later.1
      ∙ ap (λ snaps. is_some (snapshot_named snaps snap)) later.2.snaps
      ∙ still_found (λ (x : Snapshot). same_name x.name snap) found.0.snaps later.2.more had
  | inr none ↦ true_false h (ap (λ o. option_map_or (λ (row : DiskRow). is_some (snapshot_named row.snaps snap)) o false) none)
]
made_on servers s t p q g (request.Move name tuple) h = refl
made_on servers s t p q g _ h = true_false h refl

-- ### Requests that have commands

-- the request that a client's command is of
abbrev pub request_of : Command → Request
request_of (MakeDisk client seq name tuple) = request.Disk name tuple
request_of (Snap client seq name snap) = request.Snap name snap
request_of (StartMove client seq name tuple) = request.Move name tuple
request_of _ = request.Settle

pub asks_it : (c seq : ℕ) (asked : Request) (command : Command) → command_of c seq asked ≡ Some command → asked ≡ request_of command
asks_it c seq (request.Disk name tuple) command e = ap request_of (same_some e)
asks_it c seq (request.Snap name snap) command e = ap request_of (same_some e)
asks_it c seq (request.Move name tuple) command e = ap request_of (same_some e)
asks_it c seq _ command e = none_some refl e

-- two fences that are for one snapshot of one client
pub same_whole : (disk other d c q seq : ℕ) (name text : List ℕ) → Whole disk name d q ≡ Whole other text c seq
    → (disk ≡ other) × (name ≡ text) × (d ≡ c) × (q ≡ seq)
same_whole disk other d c q seq name text e = (cc, cc, cc, cc)

pub no_whole : {B : Type 0} {disk region other d q : ℕ} {name : List ℕ} → Region disk region ≡ Whole other name d q → B
no_whole e = absurd cc

-- the request's disk is found by this name, and is on the move
pub record IsMoving (s : State) (name : List ℕ) : Type 0 where
  pub row : DiskRow
  pub found : named s.disks.rows name ≡ Some row
  pub moves : is_some row.moving ≡ true

-- the row of a disk that is found by its name
pub row_known_at : {servers : ℕ} (s : State) → IsUnsettled servers s → (name : List ℕ) (row : DiskRow) → named s.disks.rows name ≡ Some row
    → disk_at s.disks.rows row.id ≡ Some row
row_known_at s p name row found =
    let at = found_at (λ (r : DiskRow). same_name r.name name) s.disks.rows row found in
    disk_at_is s.disks.rows (λ i r e. (p.rows i r e).id) row.id ∙ ap (slice_get s.disks.rows) (p.rows at.0 row at.1).id ∙ at.1

-- a fence that passes leaves it so
pub passed_moving : (servers : ℕ) (s : State) (p : IsUnsettled servers s) (fence : Fence) → slice_get s.view.queue 0 ≡ Some fence → (name : List ℕ)
    → IsMoving s name → IsMoving (one_passed s fence) name
passed_moving servers s p fence first name h =
    let t = one_passed s fence in
    let acted = passing servers s p fence first in
    let later = named_on servers s t p acted.plain acted.grown name h.row h.found in
    let place = found_at (λ (r : DiskRow). same_name r.name name) s.disks.rows h.row h.found in
    let here : slice_get s.disks.rows h.row.id ≡ Some h.row = ap (slice_get s.disks.rows) (p.rows place.0 h.row place.1).id ∙ place.1 in
    record { row = later.0; found = later.1; moves = moves later.0 later.3 here (p.fences.each 0 fence first) }
  where
    moves : (now : DiskRow) → slice_get (one_passed s fence).disks.rows h.row.id ≡ Some now → slice_get s.disks.rows h.row.id ≡ Some h.row → IsFence s fence
        → is_some now.moving ≡ true
    moves now there here (Of_disk active) = elim (same_or_apart h.row.id active.disk) [
      | inr ne ↦ ap (λ (r : DiskRow). is_some r.moving) (same_some (sym there ∙ passed_beside servers s p fence first active h.row.id ne ∙ here)) ∙ h.moves
      | inl e ↦
          let row : row_frozen active.name active.row ≡ now =
          same_some (sym (passed_here servers s p fence first active) ∙ ap (slice_get (one_passed s fence).disks.rows) (sym e) ∙ there) in
          let before : active.row ≡ h.row =
          same_some (sym (here_row servers s p fence first active) ∙ ap (slice_get s.disks.rows) (sym e) ∙ here) in
          ap (λ (r : DiskRow). is_some r.moving) (sym row) ∙ ap (λ (r : DiskRow). is_some r.moving) before ∙ h.moves
    ]
    moves now there here (Of_region active) = elim (same_or_apart h.row.id active.disk) [
      | inr ne ↦ ap (λ (r : DiskRow). is_some r.moving) (same_some (sym there ∙ region_beside servers s p fence first active h.row.id ne ∙ here)) ∙ h.moves
      | inl e ↦
          let row : row_fenced active.region active.row ≡ now =
          same_some (sym (region_here servers s p fence first active) ∙ ap (slice_get (one_passed s fence).disks.rows) (sym e) ∙ there) in
          ap (λ (r : DiskRow). is_some r.moving) (sym row) ∙ ap (λ m. is_some (option_map (move_fenced active.region) m)) active.moves
    ]

pub settled_moving : (servers : ℕ) (s : State) → IsUnsettled servers s → (name : List ℕ) → IsMoving s name → IsMoving (settled s) name
settled_moving servers s p name h =
    (settled_keeps (λ t. IsUnsettled servers t × IsMoving t name) (λ t fence ready now.
    let first = head_get t.view.queue fence (ready_by t.view.queue fence ready).first in
    ((passing servers t now.0 fence first).plain, passed_moving servers t now.0 fence first name now.1)) s (p, h)).1
