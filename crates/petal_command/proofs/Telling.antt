-- Where a derived `==` of an enum finds two values equal, they are one. It is found by a search over the kinds of fields, whatever variants there are.
use Rattle.std.proofs.Common.{◌≡◌, ◌==◌, ◌&&◌, ℕ, Bool, true, false, true≢false, Option, Some, None, List, [], ◌∷◌, refl, sym, ap, inl, inr}
use Rattle.std.specs.Bool.{beq}
use Rattle.std.specs.Option.{option_eq}
use Rattle.std.specs.Prelude.{⊤}
use Rattle.std.specs.Cmp.Lexicographic.{pointwise}
use denote.Struct.Field.{Field}
use denote.Enum.Declared.{Record, Choice, values_one}
use denote.Enum.Compared.{Each, by}
use Rattle.petal_command.proofs.Equal.{both_left, both_right, number_is}

-- a test whose yes tells that two values have the same of something
pub record Tells {K J : Type 0} (test : K → K → Bool) (part : K → J) : Type 0 where
  pub same : (x y : K) → test x y ≡ true → part x ≡ part y

-- a test whose yes tells that two values are one
abbrev pub TellsAll : {K : Type 0} → (K → K → Bool) → Type 0
TellsAll test = Tells test (λ x. x)

same_flag : (a b : Bool) → beq a b ≡ true → a ≡ b
same_flag true true h = refl
same_flag false false h = refl
same_flag _ _ h = cc

module _ {K : Type 0} where
  -- the fields of a variant, one after the other
  pub tells_field : {J L : Type 0} {E F : K → K → Bool} {part : K → J × L} → Tells E (λ x. (part x).0) → Tells F (λ x. (part x).1)
      → Tells (λ x y. E x y && F x y) part
  tells_field {E = E} {F} t u = record {
    same = λ x y e.
        let a = t.same x y (both_left (E x y) (F x y) e) in
        let b = u.same x y (both_right (E x y) (F x y) e) in λ i. (a i, b i);
  }

  -- three at once: a search goes only so deep
  pub tells_fields : {A B C L : Type 0} {E F G H : K → K → Bool} {part : K → A × (B × (C × L))} → Tells E (λ x. (part x).0) → Tells F (λ x. (part x).1.0)
      → Tells G (λ x. (part x).1.1.0) → Tells H (λ x. (part x).1.1.1) → Tells (λ x y. E x y && (F x y && (G x y && H x y))) part
  tells_fields t u v w = tells_field t (tells_field u (tells_field v w))

  pub tells_last : {J : Type 0} {E : K → K → Bool} {part : K → J × Unit {0}} → Tells E (λ x. (part x).0) → Tells E part
  tells_last t = record { same = λ x y e. let a = t.same x y e in λ i. (a i, tt) }

  pub tells_nothing : {E : K → K → Bool} {part : K → Unit {0}} → Tells E part
  tells_nothing = record { same = λ x y e. refl }

  pub tells_by : {J : Type 0} {test : J → J → Bool} (part : K → J) → TellsAll test → Tells (λ x y. test (part x) (part y)) part
  tells_by part t = record { same = λ x y e. t.same (part x) (part y) e }

  pub tells_number : (part : K → ℕ) → Tells (λ x y. part x == part y) part
  tells_number part = record { same = λ x y h. number_is (part x) (part y) h }

  pub tells_flag : (part : K → Bool) → Tells (λ x y. beq (part x) (part y)) part
  tells_flag part = record { same = λ x y h. same_flag (part x) (part y) h }

-- ### Enums

abbrev pub AllTell : (Fss : List (List Field)) → Each Bool Fss → Type 0
AllTell [] tests = ⊤
AllTell (Fs ∷ Fss) tests = TellsAll tests.0 × AllTell Fss tests.1

choices_one : (Fss : List (List Field)) (tests : Each Bool Fss) → AllTell Fss tests → (c d : Choice Fss) → by false false Fss tests c d ≡ true → c ≡ d
choices_one [] tests all c d e = absurd c
choices_one (Fs ∷ Fss) tests all (inl x) (inl y) e = ap inl (all.0.same x y e)
choices_one (Fs ∷ Fss) tests all (inr c) (inr d) e = ap inr (choices_one Fss tests.1 all.1 c d e)
choices_one (Fs ∷ Fss) tests all (inl x) (inr d) e = absurd (true≢false (sym e))
choices_one (Fs ∷ Fss) tests all (inr c) (inl y) e = absurd (true≢false (sym e))

pub enum_tells : (N : Record) (tests : Each Bool N.parts) → AllTell N.parts tests
    → TellsAll (λ (a b : N.D). by false false N.parts tests (N.as_values a) (N.as_values b))
enum_tells N tests all = record { same = λ a b e. values_one N a b (choices_one N.parts tests all (N.as_values a) (N.as_values b) e) }

-- ### Options and lists

module _ {T : Type 0} {test : T → T → Bool} (t : TellsAll test) where
  one_option : (x y : Option T) → option_eq test x y ≡ true → x ≡ y
  one_option None None e = refl
  one_option (Some a) (Some b) e = ap Some (t.same a b e)
  one_option _ _ e = absurd (cc)

  one_list : (xs ys : List T) → pointwise test xs ys ≡ true → xs ≡ ys
  one_list [] [] e = refl
  one_list (x ∷ xs) (y ∷ ys) e =
      let first = t.same x y (both_left (test x y) (pointwise test xs ys) e) in
      let later = one_list xs ys (both_right (test x y) (pointwise test xs ys) e) in
      λ i. first i ∷ later i
  one_list _ _ e = absurd (cc)

  module _ {K : Type 0} where
    pub tells_option : (part : K → Option T) → Tells (λ x y. option_eq test (part x) (part y)) part
    tells_option part = record { same = λ x y e. one_option (part x) (part y) e }

    pub tells_list : (part : K → List T) → Tells (λ x y. pointwise test (part x) (part y)) part
    tells_list part = record { same = λ x y e. one_list (part x) (part y) e }

pub ruleset telling = (tells_number, tells_flag, tells_option, tells_list, tells_nothing, tells_fields, tells_field, tells_last)
