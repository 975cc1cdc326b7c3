-- The moves of slots between entries, tickets and what is free.
use Rattle.std.proofs.Common.{◌≡◌, ◌≢◌, ℕ, zero, suc, ◌+◌, ◌<◌, ◌≤◌, Bool, true, false, ◌==◌, nat_lt, ◌^◌, List, [], ◌∷◌, ◌++◌, length, get_or, replicate}
use Rattle.std.proofs.Common.{slice_get, slice_set, Option, None, Some, is_some, if◌then◌else◌, refl, sym, ap, subst, arith, inl, inr}
use Rattle.std.proofs.lemmas.Bool.{cases_Bool}
use Rattle.std.proofs.lemmas.Bool.Decides.{nat_tests}
use Rattle.std.proofs.lemmas.List.{length-append, length-replicate}
use Rattle.std.specs.Option.{IfSome}
use Rattle.std.specs.List.{Contains, All}
use Rattle.petal_base.specs.declared.cell.Key.{Key}
use Rattle.physical_map.specs.declared.entry.Entry.{Entry}
use Rattle.physical_map.specs.Entries.{key_of, slot_of, without_key}
use Rattle.physical_map.specs.Keys.{key_below, same_key, placed, newest, sees, later, IsInOrder}
use Rattle.physical_map.proofs.Orders.{below-other, beyond, ordered-placed}
use Rattle.physical_map.proofs.Places.{slot-above, further-above, ordered-without}
use Rattle.slot_store.specs.Slots.{free_in}
use Rattle.slot_store.proofs.Free.{free_in-take, free_in-give, free_in-replicate, within}
use Rattle.data_device.specs.Accounts.{Accounts, Sound, times, holders, as_count, in_use, given}
use Rattle.data_device.specs.Tickets.{without}

-- Tickets.

pub times-push : (slot : ℕ) (ss : List ℕ) (s : ℕ) → times slot (ss ++ s ∷ []) ≡ times slot ss + as_count (s == slot)
times-push slot [] s = grind (arith, nat_tests)
times-push slot (t ∷ ts) s = omega (arith, times-push slot ts s)

pub times-contains : (ss : List ℕ) (slot : ℕ) → Contains ss slot → 0 < times slot ss
times-contains [] slot has = absurd (omega (arith, has.1))
times-contains (s ∷ ss) slot (zero, within, is) = let here : as_count (s == slot) ≡ 1 = grind (arith, nat_tests) in omega arith
times-contains (s ∷ ss) slot (suc k, within, is) = omega (arith, times-contains ss slot (k, omega arith, is))

pub times-at : (ss : List ℕ) (k d : ℕ) → k < length ss → 0 < times (get_or ss k d) ss
times-at [] k d within = absurd (omega arith)
times-at (s ∷ ss) zero d within = let here : as_count (s == s) ≡ 1 = grind (arith, nat_tests) in omega arith
times-at (s ∷ ss) (suc k) d within = omega (arith, times-at ss k d (omega arith))

pub times-without : (slot s : ℕ) (ss : List ℕ) → 0 < times slot ss → times s (without ss slot) + as_count (slot == s) ≡ times s ss
times-without slot s [] has = absurd (omega arith)
times-without slot s (t ∷ ts) has = elim (cases_Bool (t == slot)) [
  | inl is ↦ rw is (grind (arith, nat_tests))
  | inr is ↦ let more : 0 < times slot ts = grind (arith, nat_tests) in rw is (omega (arith, times-without slot s ts more))
]

pub length-without : (slot : ℕ) (ss : List ℕ) → 0 < times slot ss → length (without ss slot) + 1 ≡ length ss
length-without slot [] has = absurd (omega arith)
length-without slot (t ∷ ts) has = elim (cases_Bool (t == slot)) [
  | inl is ↦ rw is (omega arith)
  | inr is ↦ let more : 0 < times slot ts = grind (arith, nat_tests) in rw is (omega (arith, length-without slot ts more))
]

-- Slots in use.

as_count-most : (b : Bool) → as_count b ≤ 1
as_count-most true = omega arith
as_count-most false = omega arith

in_use-most : (us : List Bool) (slot : ℕ) → in_use us slot ≤ 1
in_use-most [] slot = omega arith
in_use-most (u ∷ us) zero = as_count-most u
in_use-most (u ∷ us) (suc slot) = in_use-most us slot

pub in_use-is : (us : List Bool) (slot : ℕ) → 0 < in_use us slot → slice_get us slot ≡ Some true
in_use-is [] slot some = absurd (omega arith)
in_use-is (true ∷ us) zero some = refl
in_use-is (false ∷ us) zero some = absurd (omega arith)
in_use-is (u ∷ us) (suc slot) some = in_use-is us slot some

in_use-take : (us : List Bool) (slot s : ℕ) → slice_get us slot ≡ Some false → in_use (slice_set us slot true) s ≡ in_use us s + as_count (slot == s)
in_use-take [] slot s is = absurd (cc)
in_use-take (true ∷ us) zero s is = absurd (cc)
in_use-take (false ∷ us) zero zero is = refl
in_use-take (false ∷ us) zero (suc s) is = grind (arith, nat_tests)
in_use-take (u ∷ us) (suc slot) zero is = grind (arith, nat_tests)
in_use-take (u ∷ us) (suc slot) (suc s) is = grind (arith, nat_tests, in_use-take us slot s is)

in_use-give : (us : List Bool) (slot s : ℕ) → slice_get us slot ≡ Some true → in_use (slice_set us slot false) s + as_count (slot == s) ≡ in_use us s
in_use-give [] slot s is = absurd (cc)
in_use-give (false ∷ us) zero s is = absurd (cc)
in_use-give (true ∷ us) zero zero is = refl
in_use-give (true ∷ us) zero (suc s) is = grind (arith, nat_tests)
in_use-give (u ∷ us) (suc slot) zero is = grind (arith, nat_tests)
in_use-give (u ∷ us) (suc slot) (suc s) is = grind (arith, nat_tests, in_use-give us slot s is)

in_use-none : (n slot : ℕ) → in_use (replicate n false) slot ≡ 0
in_use-none zero slot = refl
in_use-none (suc n) zero = refl
in_use-none (suc n) (suc slot) = in_use-none n slot

length-set : (us : List Bool) (slot : ℕ) (u : Bool) → length (slice_set us slot u) ≡ length us
length-set [] slot u = refl
length-set (x ∷ us) zero u = refl
length-set (x ∷ us) (suc slot) u = ap suc (length-set us slot u)

-- The slot of an entry that goes.

abbrev pub went : ℕ → Option ℕ → ℕ
went slot None = 0
went slot (Some s) = as_count (s == slot)

abbrev pub one_if : Option ℕ → ℕ
one_if None = 0
one_if (Some s) = 1

-- it was in use
abbrev pub WasUsed : List Bool → Option ℕ → Type 0
WasUsed us slot = IfSome slot (λ s. slice_get us s ≡ Some true)

given-in_use : (us : List Bool) (slot : Option ℕ) (s : ℕ) → WasUsed us slot → in_use (given us slot) s + went s slot ≡ in_use us s
given-in_use us None s is = omega arith
given-in_use us (Some slot) s is = in_use-give us slot s is

given-free : (us : List Bool) (slot : Option ℕ) → WasUsed us slot → free_in (given us slot) ≡ free_in us + one_if slot
given-free us None is = omega arith
given-free us (Some slot) is = free_in-give us slot is

pub given-length : (us : List Bool) (slot : Option ℕ) → length (given us slot) ≡ length us
given-length us None = refl
given-length us (Some slot) = length-set us slot false

-- Entries.

pub holder : (es : List Entry) (k : ℕ) (d : Entry) → k < length es → 0 < holders (get_or es k d).slot es
holder [] k d within = absurd (omega arith)
holder (x ∷ xs) zero d within = let here : as_count (x.slot == x.slot) ≡ 1 = grind (arith, nat_tests) in omega arith
holder (x ∷ xs) (suc k) d within = omega (arith, holder xs k d (omega arith))

holders-slot_of : (es : List Entry) (key : Key) (slot : ℕ) → slot_of es key ≡ Some slot → 0 < holders slot es
holders-slot_of [] key slot is = absurd (cc)
holders-slot_of (x ∷ xs) key slot is = elim (cases_Bool (same_key x.key key)) [
  | inl same ↦
      let one : Some x.slot ≡ Some slot = rw same at is in
      let here : x.slot ≡ slot = cc in
      let self : as_count (x.slot == slot) ≡ 1 = grind (arith, nat_tests) in
      omega arith
  | inr same ↦ let more : slot_of xs key ≡ Some slot = rw same at is in omega (arith, holders-slot_of xs key slot more)
]

pub holders-without_key : (slot : ℕ) (es : List Entry) (key : Key) → holders slot (without_key es key) + went slot (slot_of es key) ≡ holders slot es
holders-without_key slot [] key = refl
holders-without_key slot (x ∷ xs) key = elim (cases_Bool (same_key x.key key)) [
  | inl same ↦ rw same (omega arith)
  | inr same ↦ rw same (omega (arith, holders-without_key slot xs key))
]

length-without_key : (es : List Entry) (key : Key) → length (without_key es key) + one_if (slot_of es key) ≡ length es
length-without_key [] key = refl
length-without_key (x ∷ xs) key = elim (cases_Bool (same_key x.key key)) [
  | inl same ↦ rw same (omega arith)
  | inr same ↦ rw same (omega (arith, length-without_key xs key))
]

-- no entry has a key that stands before the first
none-before : (x : Entry) (xs : List Entry) (key : Key) → key_below x.key key ≡ false → same_key x.key key ≡ false → IsInOrder key_of (x ∷ xs)
    → slot_of (x ∷ xs) key ≡ None
none-before x xs key before same order =
    let next : key_below key x.key ≡ true = beyond x.key key before same in
    slot-above (x ∷ xs) key (next, further-above xs key x.key next order.0)

pub holders-placed : (slot : ℕ) (es : List Entry) (e : Entry) → IsInOrder key_of es
    → holders slot (placed key_of es e) + went slot (slot_of es e.key) ≡ holders slot es + as_count (e.slot == slot)
holders-placed slot [] e order = omega arith
holders-placed slot (x ∷ xs) e order = elim (cases_Bool (key_below x.key e.key)) [
  | inl before ↦ rw (before, below-other x.key e.key before) (omega (arith, holders-placed slot xs e order.1))
  | inr before ↦ elim (cases_Bool (same_key x.key e.key)) [
    | inl same ↦ rw (before, same) (omega arith)
    | inr same ↦ let none = none-before x xs e.key before same order in rw (none, before, same) (omega arith)
  ]
]

length-placed : (es : List Entry) (e : Entry) → IsInOrder key_of es → length (placed key_of es e) + one_if (slot_of es e.key) ≡ length es + 1
length-placed [] e order = refl
length-placed (x ∷ xs) e order = elim (cases_Bool (key_below x.key e.key)) [
  | inl before ↦ rw (before, below-other x.key e.key before) (omega (arith, length-placed xs e order.1))
  | inr before ↦ elim (cases_Bool (same_key x.key e.key)) [
    | inl same ↦ rw (before, same) (omega arith)
    | inr same ↦ let none = none-before x xs e.key before same order in rw (none, before, same) (omega arith)
  ]
]

-- The accounts.

-- at first all slots are free
pub accounts-new : (slots : ℕ) → Accounts [] [] (replicate slots false)
accounts-new slots = record {
  each_once = λ slot. sym (in_use-none slots slot);
  all = omega (arith, free_in-replicate slots, length-replicate slots false);
}

pub used-ticket : (es : List Entry) (ts : List ℕ) (used : List Bool) (slot : ℕ) → Accounts es ts used → Contains ts slot → slice_get used slot ≡ Some true
used-ticket es ts used slot a has = in_use-is used slot (omega (arith, a.each_once slot, times-contains ts slot has))

pub used-entry : (es : List Entry) (ts : List ℕ) (used : List Bool) (key : Key) (slot : Option ℕ) → Accounts es ts used
    → slot ≡ slot_of es key → WasUsed used slot
used-entry es ts used key None a is = tt
used-entry es ts used key (Some slot) a is = in_use-is used slot (omega (arith, a.each_once slot, holders-slot_of es key slot (sym is)))

accounts-reserve : (es : List Entry) (ts : List ℕ) (used : List Bool) (slot : ℕ) → slice_get used slot ≡ Some false → Accounts es ts used
    → Accounts es (ts ++ slot ∷ []) (slice_set used slot true)
accounts-reserve es ts used slot free a = record {
  each_once = λ s. omega (arith, a.each_once s, times-push s ts slot, in_use-take used slot s free);
  all = omega (arith, a.all, length-append ts (slot ∷ []), free_in-take used slot free, length-set used slot true);
}

accounts-give_back : (es : List Entry) (ts : List ℕ) (used : List Bool) (slot : ℕ) → Contains ts slot → Accounts es ts used
    → Accounts es (without ts slot) (slice_set used slot false)
accounts-give_back es ts used slot has a =
    let there = times-contains ts slot has in
    let taken = used-ticket es ts used slot a has in
    record {
      each_once = λ s. omega (arith, a.each_once s, times-without slot s ts there, in_use-give used slot s taken);
      all = omega (arith, a.all, length-without slot ts there, free_in-give used slot taken, length-set used slot false);
    }

accounts-settle : (es : List Entry) (ts : List ℕ) (used : List Bool) (e : Entry) → Contains ts e.slot → IsInOrder key_of es → Accounts es ts used
    → Accounts (placed key_of es e) (without ts e.slot) (given used (slot_of es e.key))
accounts-settle es ts used e has order a =
    let there = times-contains ts e.slot has in
    let old = slot_of es e.key in
    let was = used-entry es ts used e.key old a refl in
    record {
      each_once = λ s. omega (arith, a.each_once s, times-without e.slot s ts there, holders-placed s es e order, given-in_use used old s was);
      all = omega (arith, a.all, length-without e.slot ts there, length-placed es e order, given-free used old was, given-length used old);
    }

accounts-drop : (es : List Entry) (ts : List ℕ) (used : List Bool) (key : Key) → Accounts es ts used
    → Accounts (without_key es key) ts (given used (slot_of es key))
accounts-drop es ts used key a =
    let old = slot_of es key in
    let was = used-entry es ts used key old a refl in
    record {
      each_once = λ s. omega (arith, a.each_once s, holders-without_key s es key, given-in_use used old s was);
      all = omega (arith, a.all, length-without_key es key, given-free used old was, given-length used old);
    }

-- With the order of entries, and room.

pub sound-new : (slots spare : ℕ) (used : List Bool) (ts : List ℕ) (es : List Entry) → used ≡ replicate slots false → ts ≡ [] → es ≡ []
    → slots < 2 ^ 32 → Sound es ts used spare 0
sound-new slots spare used ts es us none empty few = rw (us, none, empty) (record {
  accounts = accounts-new slots;
  order = tt;
  room = omega arith;
  counted = refl;
  few = omega (arith, length-replicate slots false);
})

pub sound-reserve : (es : List Entry) (ts : List ℕ) (used : List Bool) (slot spare more out : ℕ) → slice_get used slot ≡ Some false → out + 1 ≤ more
    → Sound es ts used spare out
    → Sound es (ts ++ slot ∷ []) (slice_set used slot true) more (out + 1)
sound-reserve es ts used slot spare more out free room s = record {
  accounts = accounts-reserve es ts used slot free s.accounts;
  order = s.order;
  room = omega (arith, room, s.counted, length-append ts (slot ∷ []));
  counted = omega (arith, s.counted, length-append ts (slot ∷ []));
  few = omega (arith, s.few, length-set used slot true);
}

pub sound-give_back : (es : List Entry) (ts : List ℕ) (used : List Bool) (slot spare out less : ℕ) → Contains ts slot → less + 1 ≡ out
    → Sound es ts used spare out
    → Sound es (without ts slot) (slice_set used slot false) spare less
sound-give_back es ts used slot spare out less has one s =
    let shorter = length-without slot ts (times-contains ts slot has) in
    record {
      accounts = accounts-give_back es ts used slot has s.accounts;
      order = s.order;
      room = omega (arith, s.room, shorter);
      counted = omega (arith, s.counted, shorter, one);
      few = omega (arith, s.few, length-set used slot false);
    }

pub sound-settle : (es : List Entry) (ts : List ℕ) (used : List Bool) (e : Entry) (spare left out less : ℕ) → Contains ts e.slot
    → left + (if is_some (slot_of es e.key) then 0 else 1) ≡ spare → less + 1 ≡ out → Sound es ts used spare out
    → Sound (placed key_of es e) (without ts e.slot) (given used (slot_of es e.key)) left less
sound-settle es ts used e spare left out less has room one s =
    let shorter = length-without e.slot ts (times-contains ts e.slot has) in
    record {
      accounts = accounts-settle es ts used e has s.order s.accounts;
      order = ordered-placed key_of es e s.order;
      room = elim (cases_Bool (is_some (slot_of es e.key))) [
        | inl some ↦ let same : left + 0 ≡ spare = rw some at room in omega (arith, s.room, shorter)
        | inr none ↦ let same : left + 1 ≡ spare = rw none at room in omega (arith, s.room, shorter)
      ];
      counted = omega (arith, s.counted, shorter, one);
      few = omega (arith, s.few, given-length used (slot_of es e.key));
    }

pub sound-drop : (es : List Entry) (ts : List ℕ) (used : List Bool) (key : Key) (spare left out : ℕ) → spare ≤ left → Sound es ts used spare out
    → Sound (without_key es key) ts (given used (slot_of es key)) left out
sound-drop es ts used key spare left out room s = record {
  accounts = accounts-drop es ts used key s.accounts;
  order = ordered-without es key s.order;
  room = omega (arith, s.room, room);
  counted = s.counted;
  few = omega (arith, s.few, given-length used (slot_of es key));
}

pub some-out : (es : List Entry) (ts : List ℕ) (used : List Bool) (spare out slot : ℕ) → Contains ts slot → Sound es ts used spare out → 0 < out
some-out es ts used spare out slot has s = omega (arith, s.counted, length-without slot ts (times-contains ts slot has))

-- Where slots stand.

in-range : (used : List Bool) (slot : ℕ) → 0 < in_use used slot → slot < length used
in-range used slot some = within used slot true (in_use-is used slot some)

pub tickets-in_range : (es : List Entry) (ts : List ℕ) (used : List Bool) → Accounts es ts used → All (λ slot. slot < length used) ts
tickets-in_range es ts used a k d lt = in-range used (get_or ts k d) (omega (arith, a.each_once (get_or ts k d), times-at ts k d lt))

pub entries-in_range : (es : List Entry) (ts : List ℕ) (used : List Bool) → Accounts es ts used → All (λ e. e.slot < length used) es
entries-in_range es ts used a k d lt = in-range used (get_or es k d).slot (omega (arith, a.each_once (get_or es k d).slot, holder es k d lt))

-- no entry has the slot of a ticket
pub tickets-apart : (es : List Entry) (ts : List ℕ) (used : List Bool) → Accounts es ts used → All (λ slot. All (λ e. e.slot ≢ slot) es) ts
tickets-apart es ts used a k d lt j e within is =
    let slot = get_or ts k d in
    let here : 0 < holders slot es = rw is at (holder es j e within) in
    omega (arith, a.each_once slot, in_use-most used slot, times-at ts k d lt)

-- a slot that is free is no ticket's
pub free-apart : (es : List Entry) (ts : List ℕ) (used : List Bool) (slot : ℕ) → slice_get used slot ≡ Some false → Accounts es ts used → Contains ts slot → ⊥
free-apart es ts used slot free a has = let taken = used-ticket es ts used slot a has in cc

later_holder : (some : ℕ) (a b : Option Entry) (e : Entry) → later key_of a b ≡ Some e → (a ≡ Some e → 0 < some) → (b ≡ Some e → 0 < some) → 0 < some
later_holder some None b e is first second = second is
later_holder some (Some x) None e is first second = first is
later_holder some (Some x) (Some y) e is first second = elim (cases_Bool (nat_lt x.key.epoch y.key.epoch)) [
  | inl less ↦ second (rw less at is)
  | inr less ↦ first (rw less at is)
]

newest-holder : (at : Key) (es : List Entry) (e : Entry) → newest key_of at es ≡ Some e → 0 < holders e.slot es
newest-holder at [] e is = absurd (cc)
newest-holder at (x ∷ xs) e is =
    let further : newest key_of at xs ≡ Some e → 0 < holders e.slot (x ∷ xs) = λ more. omega (arith, newest-holder at xs e more) in
    elim (cases_Bool (sees at x.key)) [
      | inl seen ↦
          let two : later key_of (Some x) (newest key_of at xs) ≡ Some e = rw seen at is in
          let here : Some x ≡ Some e → 0 < holders e.slot (x ∷ xs) = λ same. let one : x ≡ e = cc in
          subst (λ (y : Entry). 0 < holders y.slot (x ∷ xs)) one (holder (x ∷ xs) 0 x (omega arith)) in
          later_holder (holders e.slot (x ∷ xs)) (Some x) (newest key_of at xs) e two here further
      | inr seen ↦ further (rw seen at is)
    ]

pub found-in_range : (es : List Entry) (ts : List ℕ) (used : List Bool) (at : Key) (found : Option Entry) → Accounts es ts used
    → found ≡ newest key_of at es → IfSome found (λ e. e.slot < length used)
found-in_range es ts used at None a is = tt
found-in_range es ts used at (Some e) a is = in-range used e.slot (omega (arith, a.each_once e.slot, newest-holder at es e (sym is)))

-- what all have, each has
pub of-all : (P : ℕ → Type 0) (xs : List ℕ) (x : ℕ) → All P xs → Contains xs x → P x
of-all P xs x all (k, lt, is) = subst P is (all k x lt)

-- Replay.

in_use-not : (us : List Bool) (slot : ℕ) → slice_get us slot ≡ Some false → in_use us slot ≡ 0
in_use-not [] slot is = absurd (cc)
in_use-not (true ∷ us) zero is = absurd (cc)
in_use-not (false ∷ us) zero is = refl
in_use-not (u ∷ us) (suc slot) is = in_use-not us slot is

is_not-in_use : (us : List Bool) (slot : ℕ) → slot < length us → in_use us slot ≡ 0 → slice_get us slot ≡ Some false
is_not-in_use [] slot lt none = absurd (omega arith)
is_not-in_use (true ∷ us) zero lt none = absurd (omega arith)
is_not-in_use (false ∷ us) zero lt none = refl
is_not-in_use (u ∷ us) (suc slot) lt none = is_not-in_use us slot (omega arith) none

pub no-holder : (es : List Entry) (slot : ℕ) → All (λ e. e.slot ≢ slot) es → holders slot es ≡ 0
no-holder [] slot apart = refl
no-holder (e ∷ es) slot apart =
    let other : e.slot ≢ slot = apart 0 e (omega arith) in
    let none : as_count (e.slot == slot) ≡ 0 = grind (arith, nat_tests, other) in
    omega (arith, none, no-holder es slot (λ k d lt. apart (suc k) d (omega arith)))

pub free-fits : (es : List Entry) (used : List Bool) (slot : ℕ) → slice_get used slot ≡ Some false → Accounts es [] used
    → (slot < length used) × All (λ e. e.slot ≢ slot) es
free-fits es used slot free a =
    let apart : All (λ e. e.slot ≢ slot) es = λ k d lt is.
    let here : 0 < holders slot es = rw is at (holder es k d lt) in
    omega (arith, a.each_once slot, in_use-not used slot free) in
    (within used slot false free, apart)

pub fits-free : (es : List Entry) (used : List Bool) (slot : ℕ) → Accounts es [] used → slot < length used → All (λ e. e.slot ≢ slot) es
    → slice_get used slot ≡ Some false
fits-free es used slot a lt apart = is_not-in_use used slot lt (omega (arith, a.each_once slot, no-holder es slot apart))

without-one : (slot : ℕ) → without (slot ∷ []) slot ≡ []
without-one slot = grind (arith, nat_tests)

contains-one : (slot : ℕ) → Contains (slot ∷ []) slot
contains-one slot = (0, omega arith, refl)

pub used-replay : (es : List Entry) (used : List Bool) (e : Entry) (old : Option ℕ) → slice_get used e.slot ≡ Some false → Accounts es [] used
    → old ≡ slot_of es e.key → WasUsed (slice_set used e.slot true) old
used-replay es used e old free a is = used-entry es (e.slot ∷ []) (slice_set used e.slot true) e.key old (accounts-reserve es [] used e.slot free a) is

pub sound-replay : (es : List Entry) (used : List Bool) (e : Entry) (spare left : ℕ) → slice_get used e.slot ≡ Some false → 1 ≤ spare
    → left + (if is_some (slot_of es e.key) then 0 else 1) ≡ spare → Sound es [] used spare 0
    → Sound (placed key_of es e) [] (given (slice_set used e.slot true) (slot_of es e.key)) left 0
sound-replay es used e spare left free some room s =
    subst (λ ts. Sound (placed key_of es e) ts (given (slice_set used e.slot true) (slot_of es e.key)) left 0) (without-one e.slot)
    (sound-settle es (e.slot ∷ []) (slice_set used e.slot true) e spare left 1 0 (contains-one e.slot) room refl
    (sound-reserve es [] used e.slot spare spare 0 free some s))

pub sound-wider : (es : List Entry) (ts : List ℕ) (used : List Bool) (spare more out : ℕ) → spare ≤ more → Sound es ts used spare out
    → Sound es ts used more out
sound-wider es ts used spare more out room s =
    record { accounts = s.accounts; order = s.order; room = omega (arith, s.room, room); counted = s.counted; few = s.few }
