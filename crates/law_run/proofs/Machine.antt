-- What each event does to the machine; and while no write begins or ends, what was tied to it stays tied.
use Rattle.law_run.proofs.Imports.{[], ◌++◌, ◌==◌, ◌||◌, ◌∙◌, ◌∷◌, ◌≡◌, ◌≢◌, ◌⊎◌, AreSnapshots, Begin, Bool, DiskRow, End, Event, Holds, In, List, Look, Make}
use Rattle.law_run.proofs.Imports.{None, Obeys, Open, Option, Plain, PlainDisk, Setting, Some, Table, Take, World, Write, WriteEnd, after, ap, at_apart}
use Rattle.law_run.proofs.Imports.{at_same, but_of, by_bool, changed, cond, content, disk_of, false, find-append, has_content, inl, inr, is_named, is_of, map}
use Rattle.law_run.proofs.Imports.{nat_cmp, nat_list_eq_equiv, nat_lists_same, none_some, not, number_itself, open_of, open_write, option_map, option_or}
use Rattle.law_run.proofs.Imports.{or_true, put, refl, remembers, replay, same_bytes, same_numbers, same_or_apart, same_some, some_or_none, stands, subst}
use Rattle.law_run.proofs.Imports.{sym, true, true_false, unwrap_or, with_disk, written, zero_block, ℕ}
use Rattle.std.specs.Prelude.{find}
use Rattle.spec_machine.specs.Run.{IsOpen}
use Rattle.law_run.specs.WritesGoOn.{IsMindful, held_in, Onward, Seat}
use Rattle.law_run.specs.MachineTies.{Follow, Stores}

pub Obeys-append : (m : Plain) (es fs : List Event) → Obeys m es → Obeys (replay m es) fs → Obeys m (es ++ fs)
Obeys-append m [] fs h g = g
Obeys-append m (e ∷ es) fs h g = (h.0, Obeys-append (after m e) es fs h.1 g)

pub replay-append : (m : Plain) (es fs : List Event) → replay m (es ++ fs) ≡ replay (replay m es) fs
replay-append m [] fs = refl
replay-append m (e ∷ es) fs = replay-append (after m e) es fs

-- ### The disk

pub stands_there : (m : Plain) (disk : PlainDisk) (w : Write) → disk_of m.disks w.disk ≡ Some disk
    → stands m.disks w ≡ same_bytes (content disk.now w.block) w.bytes
stands_there m disk w is = ap (has_content w) is

unnamed : (name other : List ℕ) (disk : PlainDisk) → disk.name ≡ name → other ≢ name → is_named other disk ≡ false
unnamed name other disk is ne = by_bool (is_named other disk) (λ t. absurd (ne (sym (nat_lists_same disk.name other t) ∙ is))) (λ f. f)

-- a disk that was changed, and the others
pub with_same : (ds : List PlainDisk) (name : List ℕ) (f : PlainDisk → PlainDisk) (disk : PlainDisk) → ((d : PlainDisk) → (f d).name ≡ d.name)
    → disk_of ds name ≡ Some disk
    → disk_of (with_disk ds name f) name ≡ Some (f disk)
with_same [] name f disk keeps e = none_some refl e
with_same (d ∷ ds) name f disk keeps e = by_bool (is_named name d)
    (λ t.
    let same : d ≡ disk = same_some (sym (ap (λ b. cond b (Some d) (disk_of ds name)) t) ∙ e) in
    ap (λ b. disk_of (cond b (f d ∷ ds) (d ∷ with_disk ds name f)) name) t
    ∙ ap (λ b. cond b (Some (f d)) (disk_of ds name)) (ap (λ n. same_bytes n name) (keeps d) ∙ t)
    ∙ ap (λ x. Some (f x)) same)
    (λ no. ap (λ b. disk_of (cond b (f d ∷ ds) (d ∷ with_disk ds name f)) name) no
    ∙ ap (λ b. cond b (Some d) (disk_of (with_disk ds name f) name)) no
    ∙ with_same ds name f disk keeps (sym (ap (λ b. cond b (Some d) (disk_of ds name)) no) ∙ e))

pub with_apart : (ds : List PlainDisk) (name : List ℕ) (f : PlainDisk → PlainDisk) (other : List ℕ) → ((d : PlainDisk) → (f d).name ≡ d.name) → other ≢ name
    → disk_of (with_disk ds name f) other ≡ disk_of ds other
with_apart [] name f other keeps ne = refl
with_apart (d ∷ ds) name f other keeps ne = by_bool (is_named name d)
    (λ t.
    let is : d.name ≡ name = nat_lists_same d.name name t in
    ap (λ b. disk_of (cond b (f d ∷ ds) (d ∷ with_disk ds name f)) other) t
    ∙ ap (λ b. cond b (Some (f d)) (disk_of ds other)) (unnamed name other (f d) (keeps d ∙ is) ne)
    ∙ sym (ap (λ b. cond b (Some d) (disk_of ds other)) (unnamed name other d is ne)))
    (λ no. ap (λ b. disk_of (cond b (f d ∷ ds) (d ∷ with_disk ds name f)) other) no
    ∙ ap (cond (is_named other d) (Some d)) (with_apart ds name f other keeps ne))

pub content_same : (blocks : Table ℕ (List ℕ)) (block : ℕ) (bytes : List ℕ) → content (put nat_cmp blocks block bytes) block ≡ bytes
unfolding content
content_same blocks block bytes = ap (λ o. unwrap_or o zero_block) (at_same blocks block bytes)

pub content_apart : (blocks : Table ℕ (List ℕ)) (block : ℕ) (bytes : List ℕ) (other : ℕ) → other ≢ block
    → content (put nat_cmp blocks block bytes) other ≡ content blocks other
unfolding content
content_apart blocks block bytes other ne = ap (λ o. unwrap_or o zero_block) (at_apart blocks block bytes other ne)

-- ### Writes under way

remember_each : (disks : List PlainDisk) (opened : List Open) (c : ℕ)
    → open_of (map (remembers disks) opened) c ≡ option_map (remembers disks) (open_of opened c)
remember_each disks [] c = refl
remember_each disks (o ∷ os) c =
    let later = remember_each disks os c in
    elim (o.write.client == c) as (λ b. cond b (Some (remembers disks o)) (open_of (map (remembers disks) os) c)
    ≡ option_map (remembers disks) (cond b (Some o) (open_of os c))) [ true ↦ refl | false ↦ later ]

pub opened_after : (m : Plain) (e : Event) (c : ℕ) → open_of (after m e).opened c ≡ option_map (remembers (changed m e).disks) (open_of (changed m e).opened c)
unfolding after
opened_after m e c = remember_each (changed m e).disks (changed m e).opened c

pub disks_after : (m : Plain) (e : Event) → (after m e).disks ≡ (changed m e).disks
unfolding after
disks_after m e = refl

or_none : {A : Type 0} (o : Option A) → option_or o None ≡ o
or_none None = refl
or_none (Some x) = refl

pub or_former : (a b : Bool) → a ≡ true → (a || b) ≡ true
or_former true b e = refl
or_former false b e = let f : false ≡ true = e in absurd cc

or_so : (a b : Bool) → (b ≡ true → a ≡ true) → (a || b) ≡ a
or_so true b h = refl
or_so false true h = sym (h refl)
or_so false false h = refl

mapped : {A B : Type 0} (f : A → B) (o : Option A) (y : B) → option_map f o ≡ Some y → (x : A) × (o ≡ Some x) × (f x ≡ y)
mapped f None y e = none_some refl e
mapped f (Some x) y e = (x, refl, same_some e)

-- after each event the writes under way remember
pub after_mindful : (m : Plain) (e : Event) → IsMindful (after m e)
after_mindful m e c o is stands_now =
    let from = mapped (remembers (changed m e).disks) (open_of (changed m e).opened c) o (sym (opened_after m e c) ∙ is) in
    let there : stands (changed m e).disks o.write ≡ true = ap (λ d. stands d o.write) (sym (disks_after m e)) ∙ stands_now in
    let was : stands (changed m e).disks from.0.write ≡ true = ap (λ (x : Open). stands (changed m e).disks x.write) from.2 ∙ there in
    sym (ap (λ (x : Open). x.held) from.2) ∙ ap (λ b. from.0.held || b) was ∙ or_true from.0.held true refl

-- where the disks stay, nothing new is remembered
pub still : (m : Plain) (c : ℕ) (o : Option Open) → open_of m.opened c ≡ o → IsMindful m → option_map (remembers m.disks) o ≡ o
still m c None e h = refl
still m c (Some o) e h = λ i. Some (record { write = o.write; held = or_so o.held (stands m.disks o.write) (h c o e) i })

pub onward_by : (m k : Plain) (disks : List PlainDisk) → ((c : ℕ) → open_of k.opened c ≡ option_map (remembers disks) (open_of m.opened c)) → Onward m k
onward_by m k disks h = record {
  none = λ c e. h c ∙ ap (option_map (remembers disks)) e;
  some = λ c o e. record {
    now = remembers disks o;
    is = h c ∙ ap (option_map (remembers disks)) e;
    same = refl;
    held = λ t. or_former o.held (stands disks o.write) t;
  };
}

pub onward_itself : (m : Plain) → Onward m m
onward_itself m = record { none = λ c e. e; some = λ c o e. record { now = o; is = e; same = refl; held = λ t. t } }

pub onward_joined : (m k j : Plain) → Onward m k → Onward k j → Onward m j
onward_joined m k j one two = record {
  none = λ c e. two.none c (one.none c e);
  some = λ c o e.
      let g = one.some c o e in
      let h = two.some c g.now g.is in
      record { now = h.now; is = h.is; same = h.same ∙ g.same; held = λ t. h.held (g.held t) };
}

pub held_onward : (m k : Plain) (c : ℕ) → Onward m k → held_in (open_of m.opened c) ≡ true → held_in (open_of k.opened c) ≡ true
held_onward m k c h e = elim (some_or_none (open_of m.opened c)) [
  | inl some ↦ let g = h.some c some.0 some.1 in ap held_in g.is ∙ g.held (ap held_in (sym some.1) ∙ e)
  | inr none ↦ true_false e (ap held_in none)
]

pub seat_onward : (m k : Plain) (c : ℕ) (write : Option Write) → Onward m k → Seat write (open_of m.opened c) → Seat write (open_of k.opened c)
seat_onward m k c None h s = h.none c s
seat_onward m k c (Some write) h s =
    let g = h.some c (record { write = write; held = s.0 }) s.1 in
    (g.now.held, g.is ∙ λ i. Some (record { write = g.same i; held = g.now.held }))

-- what was tied to the machine stays tied: with other disks, or the same with other events
pub follow_onward : (setting : Setting) (old new : List DiskRow) (v : World) (from to : Plain) → Follow setting old v from
    → Onward from to → Stores setting new v to → Follow setting new v to
follow_onward setting old new v from to follows goes_on stores = record {
  stores = stores;
  seats = λ c. seat_onward from to c (open_write v c) goes_on (follows.seats c);
  letters = λ letter c seq h at says still. held_onward from to c goes_on (follows.letters letter c seq h at says still);
  pending = λ n cell op on is clients counted still.
      held_onward from to op.client goes_on (follows.pending n cell op on is clients counted still);
  finished = λ n c newest on is how still. held_onward from to c goes_on (follows.finished n c newest on is how still);
}

-- ### Looks, begins and ends

pub look_onward : (m : Plain) (name : List ℕ) (snap : Option (List ℕ)) (block : ℕ) (bytes : List ℕ) → IsMindful m
    → Onward m (after m (Look name snap block bytes))
look_onward m name snap block bytes h = record {
  none = λ c e. opened_after m (Look name snap block bytes) c ∙ still m c (open_of m.opened c) refl h ∙ e;
  some = λ c o e. record {
    now = o;
    is = opened_after m (Look name snap block bytes) c ∙ still m c (open_of m.opened c) refl h ∙ e;
    same = refl;
    held = λ t. t;
  };
}

begun : (o : Option Open) (w : Write) (c : ℕ) → o ≡ None → c ≡ w.client
    → option_or o (find (is_of c) (record { write = w; held = false } ∷ [])) ≡ Some (record { write = w; held = false })
begun o w c none e =
    ap (λ x. option_or x (find (is_of c) (record { write = w; held = false } ∷ []))) none
    ∙ ap (λ b. cond b (Some (record { write = w; held = false })) None) (ap (λ i. w.client == i) e ∙ number_itself w.client)

unbegun : (o : Option Open) (w : Write) (c : ℕ) → c ≢ w.client → option_or o (find (is_of c) (record { write = w; held = false } ∷ [])) ≡ o
unbegun o w c ne =
    ap (λ b. option_or o (cond b (Some (record { write = w; held = false })) None))
    (by_bool (w.client == c) (λ t. absurd (ne (sym (same_numbers w.client c t)))) (λ f. f)) ∙ or_none o

-- the write is under way
pub begin_seat : (m : Plain) (w : Write) → open_of m.opened w.client ≡ None → Seat (Some w) (open_of (after m (Begin w)).opened w.client)
begin_seat m w none =
    let e : open_of (m.opened ++ record { write = w; held = false } ∷ []) w.client ≡ Some (record { write = w; held = false }) =
    find-append (is_of w.client) m.opened (record { write = w; held = false } ∷ []) ∙ begun (open_of m.opened w.client) w w.client none refl in
    (false || stands m.disks w, opened_after m (Begin w) w.client ∙ ap (option_map (remembers m.disks)) e)

pub begin_others : (m : Plain) (w : Write) (c : ℕ) → IsMindful m → c ≢ w.client → open_of (after m (Begin w)).opened c ≡ open_of m.opened c
begin_others m w c h ne =
    opened_after m (Begin w) c ∙ ap (option_map (remembers m.disks))
    (find-append (is_of c) m.opened (record { write = w; held = false } ∷ []) ∙ unbegun (open_of m.opened c) w c ne) ∙ still m c (open_of m.opened c) refl h

but_gone : (opened : List Open) (c : ℕ) → open_of (but_of opened c) c ≡ None
but_gone [] c = refl
but_gone (o ∷ os) c =
    let later = but_gone os c in
    elim (o.write.client == c) as (λ b. (o.write.client == c) ≡ b → open_of (cond (not b) (o ∷ but_of os c) (but_of os c)) c ≡ None) [
      | true ↦ λ e. later
      | false ↦ λ e. ap (λ b. cond b (Some o) (open_of (but_of os c) c)) e ∙ later
    ] refl

but_others : (opened : List Open) (c j : ℕ) → j ≢ c → open_of (but_of opened c) j ≡ open_of opened j
but_others [] c j ne = refl
but_others (o ∷ os) c j ne =
    let later = but_others os c j ne in
    elim (o.write.client == c) as (λ b. (o.write.client == c) ≡ b → open_of (cond (not b) (o ∷ but_of os c) (but_of os c)) j
    ≡ cond (o.write.client == j) (Some o) (open_of os j)) [
      | true ↦ λ e. later ∙ sym (ap (λ b. cond b (Some o) (open_of os j)) (other o.write.client (same_numbers o.write.client c e)))
      | false ↦ λ e. ap (cond (o.write.client == j) (Some o)) later
    ] refl
  where
    other : (i : ℕ) → i ≡ c → (i == j) ≡ false
    other i is = by_bool (i == j) (λ t. absurd (ne (sym (same_numbers i j t) ∙ is))) (λ f. f)

pub end_seat : (m : Plain) (w : Write) (how : WriteEnd) → open_of (after m (End w how)).opened w.client ≡ None
end_seat m w how = opened_after m (End w how) w.client ∙ ap (option_map (remembers m.disks)) (but_gone m.opened w.client)

pub end_others : (m : Plain) (w : Write) (how : WriteEnd) (c : ℕ) → IsMindful m → c ≢ w.client → open_of (after m (End w how)).opened c ≡ open_of m.opened c
end_others m w how c h ne =
    opened_after m (End w how) c ∙ ap (option_map (remembers m.disks)) (but_others m.opened w.client c ne) ∙ still m c (open_of m.opened c) refl h

-- ### Disks that are made

abbrev pub new_disk : List ℕ → PlainDisk
new_disk name = record { name = name; now = []; snaps = [] }

pub make_same : (m : Plain) (name : List ℕ) → disk_of m.disks name ≡ None → disk_of (after m (Make name)).disks name ≡ Some (new_disk name)
make_same m name none =
    ap (λ ds. disk_of ds name) (disks_after m (Make name)) ∙ find-append (is_named name) m.disks (new_disk name ∷ [])
    ∙ ap (λ o. option_or o (disk_of (new_disk name ∷ []) name)) none
    ∙ ap (λ b. cond b (Some (new_disk name)) None) (nat_list_eq_equiv.refl name)

pub make_others : (m : Plain) (name other : List ℕ) → other ≢ name → disk_of (after m (Make name)).disks other ≡ disk_of m.disks other
make_others m name other ne =
    ap (λ ds. disk_of ds other) (disks_after m (Make name)) ∙ find-append (is_named other) m.disks (new_disk name ∷ [])
    ∙ ap (λ b. option_or (disk_of m.disks other) (cond b (Some (new_disk name)) None)) (unnamed name other (new_disk name) refl ne)
    ∙ or_none (disk_of m.disks other)

pub make_onward : (m : Plain) (name : List ℕ) → Onward m (after m (Make name))
make_onward m name = onward_by m (after m (Make name)) (changed m (Make name)).disks (opened_after m (Make name))

-- ### Takes

-- a write whose block has its bytes has had them
pub stands_held : (m : Plain) (disk : PlainDisk) (c : ℕ) (w : Write) → disk_of m.disks w.disk ≡ Some disk → IsMindful m
    → Seat (Some w) (open_of m.opened c) → content disk.now w.block ≡ w.bytes → held_in (open_of m.opened c) ≡ true
stands_held m disk c w is mindful seat has =
    ap held_in seat.1 ∙ mindful c (record { write = w; held = seat.0 }) seat.1
    (stands_there m disk w is ∙ ap (λ b. same_bytes b w.bytes) has ∙ nat_list_eq_equiv.refl w.bytes)

take_same : (m : Plain) (disk : PlainDisk) (w : Write) → disk_of m.disks w.disk ≡ Some disk
    → disk_of (after m (Take w)).disks w.disk ≡ Some (written w.block w.bytes disk)
take_same m disk w is = ap (λ ds. disk_of ds w.disk) (disks_after m (Take w)) ∙ with_same m.disks w.disk (written w.block w.bytes) disk (λ d. refl) is

take_others : (m : Plain) (w : Write) (name : List ℕ) → name ≢ w.disk → disk_of (after m (Take w)).disks name ≡ disk_of m.disks name
take_others m w name ne =
    ap (λ ds. disk_of ds name) (disks_after m (Take w)) ∙ with_apart m.disks w.disk (written w.block w.bytes) name (λ d. refl) ne

take_onward : (m : Plain) (w : Write) → Onward m (after m (Take w))
take_onward m w = onward_by m (after m (Take w)) (changed m (Take w)).disks (opened_after m (Take w))

-- takes that give blocks of these disks the contents that they are to have, where they are to have one
module _ (rows : List DiskRow) (apart : (one other : DiskRow) → In one rows → In other rows → one.name ≡ other.name → one ≡ other)
    (has : DiskRow → (epoch block : ℕ) → Bool) (to : DiskRow → (epoch block : ℕ) → List ℕ) where
  -- the event takes a write, which has the content that the block is to have
  pub record IsTakeOf (e : Event) : Type 0 where
    pub row : DiskRow
    pub there : In row rows
    pub block : ℕ
    pub write : Write
    pub is : e ≡ Take write
    pub disk_is : write.disk ≡ row.name
    pub block_is : write.block ≡ block
    pub bytes_is : write.bytes ≡ to row row.epoch block

  -- the event takes a write under way of what the block is to have
  pub record IsTake (m : Plain) (e : Event) : Type 0 where
    pub of : IsTakeOf e
    pub open of use *
    pub seat : IsOpen m.opened write

  -- a take of the block is among these
  pub record IsToCome (es : List Event) (row : DiskRow) (block : ℕ) : Type 0 where
    pub write : Write
    pub there : In (Take write) es
    pub disk_is : write.disk ≡ row.name
    pub block_is : write.block ≡ block

  -- each block of the disk has what it is to have, or a take of it is to come; and its snapshots have it
  pub record Nearly (m : Plain) (es : List Event) (row : DiskRow) : Type 0 where
    pub disk : PlainDisk
    pub is : disk_of m.disks row.name ≡ Some disk
    pub same : (b : ℕ) → has row row.epoch b ≡ true → (content disk.now b ≡ to row row.epoch b) ⊎ IsToCome es row b
    pub snapshots : AreSnapshots disk.snaps row.snaps (has row) (to row)

  -- the machine after the takes
  pub record AllTaken (m : Plain) (es : List Event) : Type 0 where
    pub may : Obeys m es
    pub known : (row : DiskRow) → In row rows → Holds (replay m es).disks row (has row) (to row)
    pub others : (name : List ℕ) → ((row : DiskRow) → In row rows → name ≢ row.name) → disk_of (replay m es).disks name ≡ disk_of m.disks name
    pub mindful : IsMindful (replay m es)
    pub onward : Onward m (replay m es)

  same_write : {one two : Write} → Take one ≡ Take two → one ≡ two
  same_write e = cc

  -- a take of another block is still to come
  left : (es : List Event) (row : DiskRow) (b : ℕ) (e : Event) (write : Write) → e ≡ Take write → ((write.disk ≡ row.name) → (write.block ≡ b) → ⊥)
      → IsToCome (e ∷ es) row b → IsToCome es row b
  unfolding In
  left es row b e write is ne c = elim c.there [
    | inl same ↦
        let one : c.write ≡ write = same_write (same ∙ is) in
        absurd (ne (ap (λ (x : Write). x.disk) (sym one) ∙ c.disk_is) (ap (λ (x : Write). x.block) (sym one) ∙ c.block_is))
    | inr later ↦ record { write = c.write; there = later; disk_is = c.disk_is; block_is = c.block_is }
  ]

  -- the first take
  module _ (m : Plain) (e : Event) (es : List Event) (t : IsTake m e) (near : (row : DiskRow) → In row rows → Nearly m (e ∷ es) row) where
    abbrev k : Plain
    k = after m (Take t.write)

    on_disk : (row : DiskRow) → In row rows → row.name ≡ t.write.disk → Nearly k es row
    on_disk row h e' =
        let one : row ≡ t.row = apart row t.row h t.there (e' ∙ t.disk_is) in
        let old = near row h in
        record {
          disk = written t.write.block t.write.bytes old.disk;
          is = ap (disk_of k.disks) e' ∙ take_same m old.disk t.write (ap (disk_of m.disks) (sym e') ∙ old.is);
          same = λ b there. elim (same_or_apart b t.write.block) [
            | inl here ↦ inl (ap (content (put nat_cmp old.disk.now t.write.block t.write.bytes)) here
                ∙ content_same old.disk.now t.write.block t.write.bytes ∙ t.bytes_is ∙ (λ i. to (sym one i) (sym one i).epoch ((sym t.block_is ∙ sym here) i)))
            | inr ne ↦ elim (old.same b there) [
              | inl so ↦ inl (content_apart old.disk.now t.write.block t.write.bytes b ne ∙ so)
              | inr come ↦ inr (left es row b e t.write t.is (λ d f. ne (sym f)) come)
            ]
          ];
          snapshots = old.snapshots;
        }

    beside : (row : DiskRow) → In row rows → row.name ≢ t.write.disk → Nearly k es row
    beside row h ne =
        let old = near row h in
        record {
          disk = old.disk;
          is = take_others m t.write row.name ne ∙ old.is;
          same = λ b there. elim (old.same b there) [
            | inl so ↦ inl so
            | inr come ↦ inr (left es row b e t.write t.is (λ d f. ne (sym d)) come)
          ];
          snapshots = old.snapshots;
        }

    nearer : (row : DiskRow) → In row rows → Nearly k es row
    nearer row h = by_bool (same_bytes row.name t.write.disk)
        (λ same. on_disk row h (nat_lists_same row.name t.write.disk same))
        (λ no. beside row h (λ f. true_false (ap (λ x. same_bytes x t.write.disk) f ∙ nat_list_eq_equiv.refl t.write.disk) no))

  -- a take is allowed later, too
  take_later : (m k : Plain) → Onward m k → (e : Event) → IsTake m e → IsTake k e
  take_later m k onward e t =
      let g = onward.some t.write.client (record { write = t.write; held = t.seat.held }) t.seat.is in
      record { of = t.of; seat = record { held = g.now.held; is = g.is ∙ (λ i. Some (record { write = g.same i; held = g.now.held })) } }

  none_left : (row : DiskRow) (b : ℕ) → IsToCome [] row b → ⊥
  unfolding In
  none_left row b c = c.there

  pub all_taken : (es : List Event) (m : Plain) → IsMindful m → ((e : Event) → In e es → IsTake m e)
      → ((row : DiskRow) → In row rows → Nearly m es row) → AllTaken m es
  unfolding In
  all_taken [] m mindful each near = record {
    may = tt;
    known = λ row h.
        let n = near row h in
        record {
          disk = n.disk;
          is = n.is;
          same = λ b there. elim (n.same b there) [ inl so ↦ so | inr come ↦ absurd (none_left row b come) ];
          snapshots = n.snapshots;
        };
    others = λ name ne. refl;
    mindful = mindful;
    onward = onward_itself m;
  }
  all_taken (e ∷ es) m mindful each near =
      let t = each e (inl refl) in
      let k = after m (Take t.write) in
      let on = take_onward m t.write in
      let rest = all_taken es k (after_mindful m (Take t.write)) (λ x h. take_later m k on x (each x (inr h))) (nearer m e es t near) in
      let n = near t.row t.there in
      subst (λ x. AllTaken m (x ∷ es)) (sym t.is) (record {
        may = ((t.seat, record { disk = n.disk; is = ap (disk_of m.disks) t.disk_is ∙ n.is }), rest.may);
        known = rest.known;
        others = λ name ne. rest.others name ne ∙ take_others m t.write name (λ f. ne t.row t.there (f ∙ t.disk_is));
        mindful = rest.mindful;
        onward = onward_joined m k (replay k es) on rest.onward;
      })
