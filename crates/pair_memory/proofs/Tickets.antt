-- What changes of the tables do to the tickets.
use Rattle.std.proofs.Common.{◌≡◌, inl, inr, ℕ, zero, suc, length-append, ◌==◌, ◌+◌, ◌-◌, ◌≤◌, Bool, true, false, not, cond, List, [], ◌∷◌, ◌++◌}
use Rattle.std.proofs.Common.{length, Option, Some, None, is_some, refl, sym, subst, ap, ◌∙◌, arith}
use Rattle.std.proofs.lemmas.Bool.{cases_Bool}
use Rattle.std.proofs.lemmas.Bool.Decides.{nat_tests}
use Rattle.std.specs.List.{Contains}
use Rattle.std.specs.declared.cmp.Ordering.TheVariants.{Less, Equal, Greater}
use Rattle.std.specs.Ordering.{is_eq, match_ordering}
use Rattle.std.specs.List.Sorted.{IsStrictlySortedBy}
use Rattle.std.specs.BTreeMap.{insert_entry, is_at}
use Rattle.std.specs.Map.{lookup, remove_entry, keys_of, values_of}
use Rattle.petal_base.specs.declared.cell.Cell.{Cell}
use Rattle.petal_table.specs.Table.{Table, at, put, without}
use Rattle.petal_table.proofs.Rows.{remove_is_without}
use Rattle.petal_msg.specs.declared.operation.LastOp.{LastOp}
use Rattle.petal_msg.specs.declared.operation.Pending.{Pending}
use Rattle.spec_rules.specs.Store.{cell_cmp}
use Rattle.spec_rules.specs.Writes.{has_slot}
use Rattle.spec_rules.proofs.CellTables.{cell_cmp_total, cell_same, cell_apart, cell_gone, cell_gone_apart}
use Rattle.petal_base.specs.declared.cell.Key.{Key}
use Rattle.physical_map.specs.Keys.{placed}
use Rattle.client_rows.specs.Rows.{rows_after}
use Rattle.petal_base.specs.Origins.{Named}
use Rattle.spec_rules.specs.Store.{with_put, with_ticket, without_ticket}
use Rattle.spec_rules.specs.Store as rules
use Rattle.kept_chains.specs.Holdings.{Holdings, key_held}
use Rattle.kept_chains.specs.Kept.{chains_of, store_of}
use Rattle.kept_chains.proofs.Kept.{placed_is}
use Rattle.kept_chains.specs.Tickets as store
use Rattle.kept_chains.proofs.Chains.{cell_cases}
use Rattle.pair_memory.specs.PairMemory.{HasTickets, times, needs_own, needs_apart}

-- 1 where the numbers are the same
abbrev pub one_at : ℕ → ℕ → ℕ
one_at n slot = times n (slot ∷ [])

times_append : (n slot : ℕ) (ts : List ℕ) → times n (ts ++ slot ∷ []) ≡ times n ts + one_at n slot
times_append n slot [] = omega arith
times_append n slot (t ∷ ts) = let rest = times_append n slot ts in omega (arith, rest)

times_put : (n slot : ℕ) (cell : Cell) (t : Table Cell ℕ) → lookup (is_at (cell_cmp cell)) t ≡ None
    → times n (values_of (insert_entry cell_cmp t cell slot)) ≡ times n (values_of t) + one_at n slot
times_put n slot cell [] none = omega arith
times_put n slot cell (r ∷ rs) none =
    let rest = times_put n slot cell rs in
    elim (cell_cmp cell r.0) as (λ o. cond (is_eq o) (Some r.1) (lookup (is_at (cell_cmp cell)) rs) ≡ None
    → times n (values_of (match_ordering o ((cell, slot) ∷ r ∷ rs) ((r.0, slot) ∷ rs) (r ∷ insert_entry cell_cmp rs cell slot)))
    ≡ times n (r.1 ∷ values_of rs) + one_at n slot) [
      | Less ↦ λ e. omega arith
      | Equal ↦ λ e. absurd (cc)
      | Greater ↦ λ e. let more = rest e in omega (arith, more)
    ] none

times_removed : (n slot : ℕ) (test : Cell → Bool) (t : Table Cell ℕ) → lookup test t ≡ Some slot
    → times n (values_of (remove_entry test t)) + one_at n slot ≡ times n (values_of t)
times_removed n slot test [] is = absurd (cc)
times_removed n slot test (r ∷ rs) is =
    let rest = times_removed n slot test rs in
    elim (test r.0) as (λ b. cond b (Some r.1) (lookup test rs) ≡ Some slot
    → times n (values_of (cond b rs (r ∷ remove_entry test rs))) + one_at n slot ≡ times n (r.1 ∷ values_of rs)) [
      | true ↦ λ e. let same : r.1 ≡ slot = cc in let one : one_at n r.1 ≡ one_at n slot = ap (one_at n) same in omega (arith, one)
      | false ↦ λ e. let more = rest e in omega (arith, more)
    ] is

pub times_without : (n slot : ℕ) (cell : Cell) (t : Table Cell ℕ) → IsStrictlySortedBy cell_cmp (keys_of t) → at cell_cmp t cell ≡ Some slot
    → times n (values_of (without cell_cmp t cell)) + one_at n slot ≡ times n (values_of t)
unfolding at
times_without n slot cell t sorted is =
    subst (λ (u : Table Cell ℕ). times n (values_of u) + one_at n slot ≡ times n (values_of t)) (remove_is_without cell_cmp_total t cell sorted)
    (times_removed n slot (is_at (cell_cmp cell)) t is)

times_new : (n slot : ℕ) (cell : Cell) (t : Table Cell ℕ) → at cell_cmp t cell ≡ None
    → times n (values_of (put cell_cmp t cell slot)) ≡ times n (values_of t) + one_at n slot
unfolding at put
times_new n slot cell t none = times_put n slot cell t none

one_itself : (slot : ℕ) → one_at slot slot ≡ 1
one_itself slot = grind (arith, nat_tests)

one_same : (n s t : ℕ) → (s == t) ≡ true → one_at n s ≡ one_at n t
one_same n s t is = grind (arith, nat_tests)

one_other : (s t : ℕ) → (t == s) ≡ false → one_at s t ≡ 0
one_other s t is = grind (arith, nat_tests)

same_number : (s t : ℕ) → (t == s) ≡ true → t ≡ s
same_number s t is = grind (arith, nat_tests)

-- what is counted is there
pub counted_in : (slot : ℕ) (ts : List ℕ) → 1 ≤ times slot ts → Contains ts slot
counted_in slot [] h = absurd (omega arith)
counted_in slot (t ∷ ts) h = elim (cases_Bool (t == slot)) [
  | inl is ↦ (0, omega arith, same_number slot t is)
  | inr is ↦
      let none = one_other slot t is in
      let more = counted_in slot ts (omega (arith, none)) in
      (suc more.0, omega (arith, more.1), more.2)
]

pub times_less : (n slot : ℕ) (ts : List ℕ) → 1 ≤ times slot ts → times n (store.without ts slot) + one_at n slot ≡ times n ts
times_less n slot [] h = absurd (omega arith)
times_less n slot (t ∷ ts) h = elim (cases_Bool (t == slot)) [
  | inl is ↦ rw is (let same = one_same n t slot is in omega (arith, same))
  | inr is ↦
      let none = one_other slot t is in
      let rest = times_less n slot ts (omega (arith, none)) in
      rw is (omega (arith, rest))
]

pub length_less : (slot : ℕ) (ts : List ℕ) → 1 ≤ times slot ts → length (store.without ts slot) + 1 ≡ length ts
length_less slot [] h = absurd (omega arith)
length_less slot (t ∷ ts) h = elim (cases_Bool (t == slot)) [
  | inl is ↦ rw is (omega arith)
  | inr is ↦
      let none = one_other slot t is in
      let rest = length_less slot ts (omega (arith, none)) in
      rw is (omega (arith, rest))
]

-- a ticket that comes last goes without a trace
pub without_last : (slot : ℕ) (ts : List ℕ) → ¬ Contains ts slot → store.without (ts ++ slot ∷ []) slot ≡ ts
without_last slot [] other = grind (arith, nat_tests)
without_last slot (t ∷ ts) other = elim (cases_Bool (t == slot)) [
  | inl is ↦ absurd (other (0, omega arith, same_number slot t is))
  | inr is ↦ rw is (ap (λ (us : List ℕ). t ∷ us) (without_last slot ts (λ more. other (suc more.0, omega (arith, more.1), more.2))))
]

-- the slot of a ticket of the first table is out
pub counted_own : (cell : Cell) (slot : ℕ) (own : Table Cell ℕ) → at cell_cmp own cell ≡ Some slot → 1 ≤ times slot (values_of own)
unfolding at
counted_own cell slot own is = go own is
  where
    go : (t : Table Cell ℕ) → lookup (is_at (cell_cmp cell)) t ≡ Some slot → 1 ≤ times slot (values_of t)
    go [] is = absurd (cc)
    go (r ∷ rs) is =
        let rest = go rs in
        elim (is_eq (cell_cmp cell r.0)) as (λ b. cond b (Some r.1) (lookup (is_at (cell_cmp cell)) rs) ≡ Some slot → 1 ≤ times slot (r.1 ∷ values_of rs)) [
          | true ↦ λ e. let same : r.1 ≡ slot = cc in let one : one_at slot r.1 ≡ one_at slot slot = ap (one_at slot) same in
              omega (arith, one, one_itself slot)
          | false ↦ λ e. let more = rest e in omega (arith, more)
        ] is

pub slot_by : (o : Option ℕ) → is_some o ≡ true → (slot : ℕ) × (o ≡ Some slot)
slot_by None is = absurd (cc)
slot_by (Some slot) is = (slot, refl)

none_by : (o : Option ℕ) → is_some o ≡ false → o ≡ None
none_by None is = refl
none_by (Some n) is = absurd (cc)

module _ (pending : Table Cell Pending) (last : Table Cell LastOp) (own apart : Table Cell ℕ) (tickets : List ℕ)
    (h : HasTickets pending last own apart tickets) where
  own_counted : (cell : Cell) (slot : ℕ) → at cell_cmp own cell ≡ Some slot → 1 ≤ times slot tickets
  own_counted cell slot is = let counted = counted_own cell slot own is in let all = h.out slot in omega (arith, counted, all)

  apart_counted : (cell : Cell) (slot : ℕ) → at cell_cmp apart cell ≡ Some slot → 1 ≤ times slot tickets
  apart_counted cell slot is = let counted = counted_own cell slot apart is in let all = h.out slot in omega (arith, counted, all)

  pub own_out : (cell : Cell) (slot : ℕ) → at cell_cmp own cell ≡ Some slot → Contains tickets slot
  own_out cell slot is = counted_in slot tickets (own_counted cell slot is)

  pub apart_out : (cell : Cell) (slot : ℕ) → at cell_cmp apart cell ≡ Some slot → Contains tickets slot
  apart_out cell slot is = counted_in slot tickets (apart_counted cell slot is)

  -- the slot that an operation of this server's own has, and that it has none
  pub own_slot : (cell : Cell) → needs_own (at cell_cmp pending cell) ≡ true → (slot : ℕ) × (at cell_cmp own cell ≡ Some slot)
  own_slot cell needs = slot_by (at cell_cmp own cell) (h.owned cell ∙ needs)

  pub own_none : (cell : Cell) → needs_own (at cell_cmp pending cell) ≡ false → at cell_cmp own cell ≡ None
  own_none cell needs = none_by (at cell_cmp own cell) (h.owned cell ∙ needs)

  -- the slot that is set apart for the lead of a cell, and that there is none
  pub apart_slot : (cell : Cell) → needs_apart (at cell_cmp last cell) ≡ true → (slot : ℕ) × (at cell_cmp apart cell ≡ Some slot)
  apart_slot cell needs = slot_by (at cell_cmp apart cell) (h.kept cell ∙ needs)

  pub apart_none : (cell : Cell) → needs_apart (at cell_cmp last cell) ≡ false → at cell_cmp apart cell ≡ None
  apart_none cell needs = none_by (at cell_cmp apart cell) (h.kept cell ∙ needs)

  -- what is pending on a cell is another operation, whose copy is put or not as it was
  pub kept_moved : (cell : Cell) (op : Pending) → needs_own (at cell_cmp pending cell) ≡ not op.stage.put
      → HasTickets (put cell_cmp pending cell op) last own apart tickets
  kept_moved cell op same = record {
    out = h.out;
    owned = λ q. elim (cell_cases q cell) [
      | inl is ↦ subst (λ (c : Cell). is_some (at cell_cmp own c) ≡ needs_own (at cell_cmp (put cell_cmp pending cell op) c)) (sym is)
          (h.owned cell ∙ same ∙ sym (ap needs_own (cell_same pending cell op)))
      | inr ne ↦ h.owned q ∙ sym (ap needs_own (cell_apart pending cell op q ne))
    ];
    kept = h.kept;
  }

  -- an operation is opened with a slot of its own
  pub kept_opened : (cell : Cell) (op : Pending) (slot : ℕ) → at cell_cmp own cell ≡ None → op.stage.put ≡ false
      → HasTickets (put cell_cmp pending cell op) last (put cell_cmp own cell slot) apart (tickets ++ slot ∷ [])
  kept_opened cell op slot none new = record {
    out = λ n.
        let all = h.out n in
        let more = times_append n slot tickets in
        let one = times_new n slot cell own none in
        omega (arith, all, more, one);
    owned = λ q. elim (cell_cases q cell) [
      | inl is ↦ subst (λ (c : Cell). is_some (at cell_cmp (put cell_cmp own cell slot) c) ≡ needs_own (at cell_cmp (put cell_cmp pending cell op) c)) (sym is)
          (ap is_some (cell_same own cell slot) ∙ sym (ap not new) ∙ sym (ap needs_own (cell_same pending cell op)))
      | inr ne ↦ ap is_some (cell_apart own cell slot q ne) ∙ h.owned q ∙ sym (ap needs_own (cell_apart pending cell op q ne))
    ];
    kept = h.kept;
  }

  out_spent : (cell : Cell) (slot : ℕ) → IsStrictlySortedBy cell_cmp (keys_of own) → at cell_cmp own cell ≡ Some slot → (n : ℕ)
      → times n (store.without tickets slot) ≡ times n (values_of (without cell_cmp own cell)) + times n (values_of apart)
  out_spent cell slot sorted is n =
      let all = h.out n in
      let less = times_less n slot tickets (own_counted cell slot is) in
      let gone = times_without n slot cell own sorted is in
      omega (arith, all, less, gone)

  -- the operation's copy is put in its slot
  pub kept_put : (cell : Cell) (op : Pending) (slot : ℕ) → IsStrictlySortedBy cell_cmp (keys_of own) → at cell_cmp own cell ≡ Some slot
      → op.stage.put ≡ true
      → HasTickets (put cell_cmp pending cell op) last (without cell_cmp own cell) apart (store.without tickets slot)
  kept_put cell op slot sorted is done = record {
    out = out_spent cell slot sorted is;
    owned = λ q. elim (cell_cases q cell) [
      | inl same ↦
          subst (λ (c : Cell). is_some (at cell_cmp (without cell_cmp own cell) c) ≡ needs_own (at cell_cmp (put cell_cmp pending cell op) c)) (sym same)
          (ap is_some (cell_gone own cell) ∙ sym (ap not done) ∙ sym (ap needs_own (cell_same pending cell op)))
      | inr ne ↦ ap is_some (cell_gone_apart own cell q ne) ∙ h.owned q ∙ sym (ap needs_own (cell_apart pending cell op q ne))
    ];
    kept = h.kept;
  }

  -- an operation ends whose slot is used
  pub kept_closed : (cell : Cell) → needs_own (at cell_cmp pending cell) ≡ false → HasTickets (without cell_cmp pending cell) last own apart tickets
  kept_closed cell done = record {
    out = h.out;
    owned = λ q. elim (cell_cases q cell) [
      | inl same ↦ subst (λ (c : Cell). is_some (at cell_cmp own c) ≡ needs_own (at cell_cmp (without cell_cmp pending cell) c)) (sym same)
          (h.owned cell ∙ done ∙ sym (ap needs_own (cell_gone pending cell)))
      | inr ne ↦ h.owned q ∙ sym (ap needs_own (cell_gone_apart pending cell q ne))
    ];
    kept = h.kept;
  }

  -- an operation ends whose slot is free again
  pub kept_dropped : (cell : Cell) (slot : ℕ) → IsStrictlySortedBy cell_cmp (keys_of own) → at cell_cmp own cell ≡ Some slot
      → HasTickets (without cell_cmp pending cell) last (without cell_cmp own cell) apart (store.without tickets slot)
  kept_dropped cell slot sorted is = record {
    out = out_spent cell slot sorted is;
    owned = λ q. elim (cell_cases q cell) [
      | inl same ↦
          subst (λ (c : Cell). is_some (at cell_cmp (without cell_cmp own cell) c) ≡ needs_own (at cell_cmp (without cell_cmp pending cell) c)) (sym same)
          (ap is_some (cell_gone own cell) ∙ sym (ap needs_own (cell_gone pending cell)))
      | inr ne ↦ ap is_some (cell_gone_apart own cell q ne) ∙ h.owned q ∙ sym (ap needs_own (cell_gone_apart pending cell q ne))
    ];
    kept = h.kept;
  }

  -- the second server goes on from an operation that has a slot to one that has, or from one that has none to one that has none
  pub kept_last : (cell : Cell) (op : LastOp) → needs_apart (at cell_cmp last cell) ≡ has_slot op.progress
      → HasTickets pending (put cell_cmp last cell op) own apart tickets
  kept_last cell op same = record {
    out = h.out;
    owned = h.owned;
    kept = λ q. elim (cell_cases q cell) [
      | inl is ↦ subst (λ (c : Cell). is_some (at cell_cmp apart c) ≡ needs_apart (at cell_cmp (put cell_cmp last cell op) c)) (sym is)
          (h.kept cell ∙ same ∙ sym (ap needs_apart (cell_same last cell op)))
      | inr ne ↦ h.kept q ∙ sym (ap needs_apart (cell_apart last cell op q ne))
    ];
  }

  -- a slot is set apart for the lead
  pub kept_apart : (cell : Cell) (op : LastOp) (slot : ℕ) → at cell_cmp apart cell ≡ None → has_slot op.progress ≡ true
      → HasTickets pending (put cell_cmp last cell op) own (put cell_cmp apart cell slot) (tickets ++ slot ∷ [])
  kept_apart cell op slot none new = record {
    out = λ n.
        let all = h.out n in
        let more = times_append n slot tickets in
        let one = times_new n slot cell apart none in
        omega (arith, all, more, one);
    owned = h.owned;
    kept = λ q. elim (cell_cases q cell) [
      | inl is ↦ subst (λ (c : Cell). is_some (at cell_cmp (put cell_cmp apart cell slot) c) ≡ needs_apart (at cell_cmp (put cell_cmp last cell op) c)) (sym is)
          (ap is_some (cell_same apart cell slot) ∙ sym new ∙ sym (ap needs_apart (cell_same last cell op)))
      | inr ne ↦ ap is_some (cell_apart apart cell slot q ne) ∙ h.kept q ∙ sym (ap needs_apart (cell_apart last cell op q ne))
    ];
  }

  -- the second server puts its copy in the slot that was set apart
  pub kept_followed : (cell : Cell) (op : LastOp) (slot : ℕ) → IsStrictlySortedBy cell_cmp (keys_of apart) → at cell_cmp apart cell ≡ Some slot
      → has_slot op.progress ≡ false → HasTickets pending (put cell_cmp last cell op) own (without cell_cmp apart cell) (store.without tickets slot)
  kept_followed cell op slot sorted is used = record {
    out = λ n.
        let all = h.out n in
        let less = times_less n slot tickets (apart_counted cell slot is) in
        let gone = times_without n slot cell apart sorted is in
        omega (arith, all, less, gone);
    owned = h.owned;
    kept = λ q. elim (cell_cases q cell) [
      | inl same ↦
          subst (λ (c : Cell). is_some (at cell_cmp (without cell_cmp apart cell) c) ≡ needs_apart (at cell_cmp (put cell_cmp last cell op) c)) (sym same)
          (ap is_some (cell_gone apart cell) ∙ sym used ∙ sym (ap needs_apart (cell_same last cell op)))
      | inr ne ↦ ap is_some (cell_gone_apart apart cell q ne) ∙ h.kept q ∙ sym (ap needs_apart (cell_apart last cell op q ne))
    ];
  }

-- a ticket that was taken and given back
pub undone : {D : Type 0} (old new : Holdings D) (slot back : ℕ) → new ≡ record old { tickets = old.tickets ++ slot ∷ [] } → back ≡ slot
    → ¬ Contains old.tickets slot → record new { tickets = store.without new.tickets back } ≡ old
undone old new slot back is same other = rw (is, same) (ap (λ (ts : List ℕ). record old { tickets = ts }) (without_last slot old.tickets other))

pub contained : (slot : ℕ) (ts : List ℕ) → Contains ts slot → 1 ≤ times slot ts
contained slot [] has = absurd (omega (arith, has.1))
contained slot (t ∷ ts) (zero, within, is) = let here : one_at slot t ≡ 1 = grind (arith, nat_tests) in omega (arith, here)
contained slot (t ∷ ts) (suc k, within, is) = let more = contained slot ts (k, omega arith, is) in omega (arith, more)

-- a put of an entry, as the rules see the store
pub spent_is : {D : Type 0} (old new : Holdings D) (key : Key) (version slot : ℕ) (origin : Option Named) (bytes : List ℕ) → Contains old.tickets slot
    → new.entries ≡ placed key_held old.entries (record { entry = record { key = key; slot = slot; version = version }; content = bytes })
    → new.rows ≡ rows_after old.rows key.map origin
    → new ≡ record old { entries = new.entries; rows = new.rows; tickets = store.without old.tickets slot; log = new.log; disk = new.disk }
    → store_of new ≡ with_put (store_of old) key (record { version = version; bytes = bytes }) origin
spent_is {D = D} old new key version slot origin bytes has entries rows rest =
    let fewer : length new.tickets ≡ length old.tickets - 1 =
    (let gone = length_less slot old.tickets (contained slot old.tickets has) in
    let same : length new.tickets ≡ length (store.without old.tickets slot) = ap (λ (s : Holdings D). length s.tickets) rest in
    omega (arith, gone, same)) in
    let slots : new.slots ≡ old.slots = ap (λ (s : Holdings D). s.slots) rest in
    let chains = ap chains_of entries ∙ placed_is old.entries (record { entry = record { key = key; slot = slot; version = version }; content = bytes }) in
    let marks = ap (λ (s : Holdings D). s.marks) rest in
    let fresh = ap (λ (s : Holdings D). s.fresh) rest in
    λ i. record { slots = slots i; chains = chains i; tickets = fewer i; marks = marks i; rows = rows i; fresh = fresh i }

-- the store with so many slots set apart
abbrev pub with_tickets : {D : Type 0} → Holdings D → ℕ → rules.Store
with_tickets old tickets = record (store_of old) { tickets = tickets }

-- a slot that is free again, as the rules see the store
pub given_is : {D : Type 0} (old new : Holdings D) (slot : ℕ) → Contains old.tickets slot
    → new ≡ record old { tickets = store.without old.tickets slot } → store_of new ≡ without_ticket (store_of old)
given_is {D = D} old new slot has is =
    let gone = length_less slot old.tickets (contained slot old.tickets has) in
    let fewer : length (store.without old.tickets slot) ≡ length old.tickets - 1 = omega (arith, gone) in
    ap (λ (s : Holdings D). store_of s) is ∙ ap (with_tickets old) fewer

-- a slot that is set apart, as the rules see the store
pub kept_is : {D : Type 0} (old new : Holdings D) (slot : ℕ) → new ≡ record old { tickets = old.tickets ++ slot ∷ [] }
    → store_of new ≡ with_ticket (store_of old)
kept_is {D = D} old new slot is = ap (λ (s : Holdings D). store_of s) is ∙ ap (with_tickets old) (length-append old.tickets (slot ∷ []))
