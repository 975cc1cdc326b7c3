-- What the step of one server leaves of all desks, and of the plans at them.
use Rattle.std.proofs.Common.{◌≡◌, ◌≢◌, ℕ, zero, suc, ◌<◌, List, [], ◌∷◌, length, map, get_or, Some, None, refl, sym, ap, ◌∙◌, subst, arith}
use Rattle.std.specs.Prelude.{slice_get, slice_set}
use Rattle.std.proofs.lemmas.Option.{slice_get_read}
use Rattle.petal_msg.specs.declared.letter.Letter.{Letter}
use Rattle.spec_rules.specs.Plans.{LeavesPlans}
use Rattle.spec_rules.specs.declared.step.Step.{Step}
use Rattle.server_host.specs.Desks.{Desk, Equipped, LeavesPlansAt, acted_at, bare, site_after}

module _ {A : Type 0} where
  pub map_put : {B : Type 0} (f : A → B) (xs : List A) (i : ℕ) (y : A) → map f (slice_set xs i y) ≡ slice_set (map f xs) i (f y)
  map_put f [] i y = refl
  map_put f (x ∷ xs) zero y = refl
  map_put f (x ∷ xs) (suc i) y = ap (λ rest. f x ∷ rest) (map_put f xs i y)

  pub get_put : (xs : List A) (i : ℕ) (y : A) → i < length xs → slice_get (slice_set xs i y) i ≡ Some y
  get_put [] i y less = absurd (omega arith)
  get_put (x ∷ xs) zero y less = refl
  get_put (x ∷ xs) (suc i) y less = let rest : i < length xs = omega arith in get_put xs i y rest

  pub get_apart : (xs : List A) (i m : ℕ) (y : A) → m ≢ i → slice_get (slice_set xs i y) m ≡ slice_get xs m
  get_apart [] i m y ne = refl
  get_apart (x ∷ xs) zero zero y ne = absurd (ne refl)
  get_apart (x ∷ xs) zero (suc m) y ne = refl
  get_apart (x ∷ xs) (suc i) zero y ne = refl
  get_apart (x ∷ xs) (suc i) (suc m) y ne = get_apart xs i m y (λ e. ne (ap (λ k. suc k) e))

one_of : {X : Type 0} (x y : X) → Some x ≡ Some y → x ≡ y
one_of x y e = cc

-- the desk of a server, without its plans
pub get_bare : (desks : List Equipped) (n : ℕ) (own : Equipped) → slice_get desks n ≡ Some own → slice_get (bare desks) n ≡ Some own.desk
get_bare [] n own is = absurd cc
get_bare (x ∷ desks) zero own is = let same : x ≡ own = cc in ap (λ (e : Equipped). Some e.desk) same
get_bare (x ∷ desks) (suc n) own is = get_bare desks n own is

pub none_bare : (desks : List Equipped) (n : ℕ) → slice_get desks n ≡ None → slice_get (bare desks) n ≡ None
none_bare [] n is = refl
none_bare (x ∷ desks) zero is = absurd cc
none_bare (x ∷ desks) (suc n) is = none_bare desks n is

pub get_equipped : (desks : List Equipped) (n : ℕ) (desk : Desk) → slice_get (bare desks) n ≡ Some desk
    → (own : Equipped) × (slice_get desks n ≡ Some own) × (own.desk ≡ desk)
get_equipped [] n desk is = absurd cc
get_equipped (x ∷ desks) zero desk is = (x, refl, one_of x.desk desk is)
get_equipped (x ∷ desks) (suc n) desk is = get_equipped desks n desk is

-- the other desks stay as they are
pub stepped_bare : (desks : List Equipped) (n : ℕ) (now : Equipped) (desk : Desk) → now.desk ≡ desk
    → bare (slice_set desks n now) ≡ slice_set (bare desks) n desk
stepped_bare desks n now desk is = map_put (λ (own : Equipped). own.desk) desks n now ∙ ap (λ d. slice_set (bare desks) n d) is

pub stepped_plans : (desks : List Equipped) (n : ℕ) (what : Step) (at now : Equipped) → n < length desks → slice_get desks n ≡ Some at
    → LeavesPlans what at.armed now.armed → LeavesPlansAt n what desks (slice_set desks n now)
stepped_plans desks n what at now within is leaves = record {
  own = λ before later e f.
      let same : at ≡ before = one_of at before (sym is ∙ e) in
      let new : now ≡ later = one_of now later (sym (get_put desks n now within) ∙ f) in
      subst (λ (own : Equipped). LeavesPlans what own.armed later.armed) same
      (subst (λ (own : Equipped). LeavesPlans what at.armed own.armed) new leaves);
  others = λ m ne. get_apart desks n m now ne;
}

-- the same of the list that the code has, of which contracts see this list
pub plans_of : (items desks : List Equipped) (n : ℕ) (what : Step) (at now : Equipped) → items ≡ desks → n < length desks → at ≡ get_or items n at
    → LeavesPlans what at.armed now.armed → LeavesPlansAt n what desks (slice_set items n now)
plans_of items desks n what at now is within reads leaves =
    let less : n < length items = subst (λ (xs : List Equipped). n < length xs) (sym is) within in
    subst (λ (xs : List Equipped). LeavesPlansAt n what xs (slice_set items n now)) is
    (stepped_plans items n what at now less (slice_get_read items (length items) n at refl less reads) leaves)

pub desk_of_step : (items desks : List Equipped) (n : ℕ) (what : Step) (stamp : ℕ) (at now : Equipped) (letters : List Letter) → items ≡ desks
    → n < length desks → at ≡ get_or items n at → now.desk ≡ record { site = site_after at.desk.site what; clock = stamp }
    → letters ≡ (acted_at at.desk.site what).letters → (own : Equipped) → slice_get desks n ≡ Some own
    → (letters ≡ (acted_at own.desk.site what).letters)
    × (bare (slice_set items n now) ≡ slice_set (bare desks) n (record { site = site_after own.desk.site what; clock = stamp }))
desk_of_step items desks n what stamp at now letters is within reads desk said own there =
    let less : n < length items = subst (λ (xs : List Equipped). n < length xs) (sym is) within in
    let read = slice_get_read items (length items) n at refl less reads in
    let same : at ≡ own = one_of at own (sym read ∙ ap (λ (xs : List Equipped). slice_get xs n) is ∙ there) in (
      said ∙ ap (λ (e : Equipped). (acted_at e.desk.site what).letters) same,
      subst (λ (xs : List Equipped).
          bare (slice_set items n now) ≡ slice_set (bare xs) n (record { site = site_after own.desk.site what; clock = stamp })) is
          (stepped_bare items n now (record { site = site_after own.desk.site what; clock = stamp })
          (desk ∙ ap (λ (e : Equipped). record { site = site_after e.desk.site what; clock = stamp }) same)),
    )
