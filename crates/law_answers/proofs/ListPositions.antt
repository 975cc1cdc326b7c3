-- Where two elements of one list stand to each other, and two moments of one history.
use Rattle.law_answers.proofs.Imports.{[], ◌++◌, ◌∙◌, ◌∷◌, ◌≡◌, IsMoment, List, Record, ap, append_assoc, heads, refl, sym, tails}

-- how two places of one list stand to each other: they are one, or one of them stands before the other
pub data AreOrdered {A : Type 0} (prefix : List A) (x : A) (following : List A) (before : List A) (y : A) (after : List A) : Type 0 where
  Are_one : prefix ≡ before → x ≡ y → following ≡ after → AreOrdered prefix x following before y after
  Is_former : (between : List A) → before ≡ prefix ++ x ∷ between → following ≡ between ++ y ∷ after → AreOrdered prefix x following before y after
  Is_latter : (between : List A) → prefix ≡ before ++ y ∷ between → after ≡ between ++ x ∷ following → AreOrdered prefix x following before y after

one_more : {A : Type 0} {a b : A} {prefix : List A} {x : A} {following : List A} {before : List A} {y : A} {after : List A} → a ≡ b
    → AreOrdered prefix x following before y after → AreOrdered (a ∷ prefix) x following (b ∷ before) y after
one_more e (Are_one same is rest) = Are_one (λ i. e i ∷ same i) is rest
one_more {prefix} {x} e (Is_former between is rest) = Is_former between (λ i. sym e i ∷ is i) rest
one_more e (Is_latter between is rest) = Is_latter between (λ i. e i ∷ is i) rest

pub ordered : {A : Type 0} (prefix : List A) (x : A) (following : List A) (before : List A) (y : A) (after : List A)
    → prefix ++ x ∷ following ≡ before ++ y ∷ after → AreOrdered prefix x following before y after
ordered [] x following [] y after e = Are_one refl (heads e) (tails e)
ordered [] x following (b ∷ before) y after e = Is_former before (ap (λ k. k ∷ before) (sym (heads e))) (tails e)
ordered (a ∷ prefix) x following [] y after e = Is_latter prefix (ap (λ k. k ∷ prefix) (heads e)) (sym (tails e))
ordered (a ∷ prefix) x following (b ∷ before) y after e = one_more (heads e) (ordered prefix x following before y after (tails e))

-- ### Moments

-- one of what stands before another one, and one of what follows on it
abbrev pub sooner : {records : List Record} (x : IsMoment records) → IsMoment x.prefix → IsMoment records
sooner x y = record {
  prefix = y.prefix;
  own = y.own;
  following = y.following ++ x.own ∷ x.following;
  is = x.is ∙ ap (λ rs. rs ++ x.own ∷ x.following) y.is ∙ append_assoc y.prefix (y.own ∷ y.following) (x.own ∷ x.following);
}

abbrev pub further : {records : List Record} (x : IsMoment records) → IsMoment x.following → IsMoment records
further x y = record {
  prefix = x.prefix ++ x.own ∷ y.prefix;
  own = y.own;
  following = y.following;
  is = x.is ∙ ap (λ rs. x.prefix ++ x.own ∷ rs) y.is ∙ sym (append_assoc x.prefix (x.own ∷ y.prefix) (y.own ∷ y.following));
}

pub record AreOne {records : List Record} (x y : IsMoment records) : Type 0 where
  pub prefix_is : x.prefix ≡ y.prefix
  pub own_is : x.own ≡ y.own

-- two are one, where neither stands before the other
pub one_moment : {records : List Record} (x y : IsMoment records) → ((between : List Record) → y.prefix ≡ x.prefix ++ x.own ∷ between → ⊥)
    → ((between : List Record) → x.prefix ≡ y.prefix ++ y.own ∷ between → ⊥) → AreOne x y
one_moment x y former latter = elim (ordered x.prefix x.own x.following y.prefix y.own y.following (sym x.is ∙ y.is)) [
  | Are_one same is rest ↦ record { prefix_is = same; own_is = is }
  | Is_former between same rest ↦ absurd (former between same)
  | Is_latter between same rest ↦ absurd (latter between same)
]
