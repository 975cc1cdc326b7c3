-- Ages of servers: an incarnation that is In is of one age, and one that was In and is In again was In all the time.
use Rattle.law_state.proofs.Imports.{◌+◌, ◌<◌, ◌==◌, ◌∙◌, ◌≡◌, ◌≤◌, Member, None, Option, Some, State, ap, arith, by_bool, false, inc_in, inc_of, is_in}
use Rattle.law_state.proofs.Imports.{is_up, is_up_as, may_join, number_itself, option_and_then, option_map_or, refl, same_numbers, slice_get, sym, true}
use Rattle.law_state.proofs.Imports.{true_false, ℕ}
use Rattle.law_state.specs.Ages.{age, age_of}
use Rattle.law_state.proofs.TestFacts.{less_by}
use Rattle.global_tables.specs.declared.fence.Member.TheVariants as member

in_by : (o : Option Member) (inc : ℕ) → option_map_or (λ present. present == inc) (option_and_then inc_in o) false ≡ true → age o ≡ inc + inc + 1
in_by None inc e = true_false e refl
in_by (Some (member.In i)) inc e = let f : i ≡ inc = same_numbers i inc e in ap (λ k. k + k + 1) f
in_by (Some (member.Out i)) inc e = true_false e refl

by_age : (o : Option Member) (inc : ℕ) → age o ≡ inc + inc + 1 → option_map_or (λ present. present == inc) (option_and_then inc_in o) false ≡ true
by_age None inc e = let f : 0 ≡ inc + inc + 1 = e in absurd (omega arith)
by_age (Some (member.In i)) inc e = let f : i + i + 1 ≡ inc + inc + 1 = e in let g : i ≡ inc = omega arith in ap (λ k. k == inc) g ∙ number_itself inc
by_age (Some (member.Out i)) inc e = let f : i + i + 2 ≡ inc + inc + 1 = e in absurd (omega arith)

up_by : (o : Option Member) → option_map_or is_in o false ≡ true
    → (inc : ℕ) × (option_map_or (λ present. present == inc) (option_and_then inc_in o) false ≡ true)
up_by None e = true_false e refl
up_by (Some (member.In i)) e = (i, number_itself i)
up_by (Some (member.Out i)) e = true_false e refl

stands_by : (o : Option Member) (inc : ℕ) → option_map_or (λ present. present == inc) (option_and_then inc_in o) false ≡ true
    → option_map_or is_in o false ≡ true
stands_by None inc e = true_false e refl
stands_by (Some (member.In i)) inc e = refl
stands_by (Some (member.Out i)) inc e = true_false e refl

pub in_age : (s : State) (n inc : ℕ) → is_up_as s n inc ≡ true → age_of s n ≡ inc + inc + 1
in_age s n inc e = in_by (slice_get s.view.members n) inc e

pub age_in : (s : State) (n inc : ℕ) → age_of s n ≡ inc + inc + 1 → is_up_as s n inc ≡ true
age_in s n inc e = by_age (slice_get s.view.members n) inc e

-- who is In is In with some incarnation
pub up_some : (s : State) (n : ℕ) → is_up s n ≡ true → (inc : ℕ) × (is_up_as s n inc ≡ true)
up_some s n e = up_by (slice_get s.view.members n) e

pub in_up : (s : State) (n inc : ℕ) → is_up_as s n inc ≡ true → is_up s n ≡ true
in_up s n inc e = stands_by (slice_get s.view.members n) inc e

pub out_not : (s : State) (n : ℕ) → is_up s n ≡ false → (inc : ℕ) → is_up_as s n inc ≡ false
out_not s n out inc = by_bool (is_up_as s n inc) (λ is. true_false (in_up s n inc is) out) (λ no. no)

-- with one incarnation alone
pub in_once : (s : State) (n one other : ℕ) → is_up_as s n one ≡ true → is_up_as s n other ≡ true → one ≡ other
in_once s n one other e f = let a = in_age s n one e in let b = in_age s n other f in omega arith

pub between : (s t u : State) (n inc : ℕ) → age_of s n ≤ age_of t n → age_of t n ≤ age_of u n → is_up_as s n inc ≡ true → is_up_as u n inc ≡ true
    → is_up_as t n inc ≡ true
between s t u n inc a b e f = let x = in_age s n inc e in let y = in_age u n inc f in age_in t n inc (omega arith)

-- who is In as no incarnation is Out
pub out_by : (s : State) (n : ℕ) → inc_of s n ≡ None → is_up s n ≡ false
out_by s n none = by_bool (is_up s n)
    (λ up. let is = up_some s n up in true_false is.1 (ap (λ o. option_map_or (λ present. present == is.0) o false) none))
    (λ no. no)

-- who is Out is so as long as its age stays
pub out_same : (s t : State) (n : ℕ) → is_up s n ≡ false → age_of t n ≡ age_of s n → is_up t n ≡ false
out_same s t n out same = by_bool (is_up t n)
    (λ up. let is = up_some t n up in true_false (in_up s n is.0 (age_in s n is.0 (sym same ∙ in_age t n is.0 is.1))) out)
    (λ no. no)

pub no_less : (a : ℕ) → a ≤ a
no_less a = omega arith

-- a server that may join is Out, with an earlier incarnation
pub may_by : (o : Option Member) (inc : ℕ) → may_join o inc ≡ true → (last : ℕ) × (o ≡ Some (member.Out last)) × (last < inc)
may_by None inc e = true_false e refl
may_by (Some (member.In last)) inc e = true_false e refl
may_by (Some (member.Out last)) inc e = (last, refl, less_by last inc e)
