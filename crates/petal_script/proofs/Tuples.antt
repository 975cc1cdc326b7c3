-- A tuple is read word by word: what is known of the numbers so far, and what it comes to at the end.
use Rattle.std.proofs.Common.{◌≡◌, ℕ, ◌<◌, ◌≤◌, Bool, true, false, ◌&&◌, nat_lt, nat_le, List, [], ◌∷◌, ◌++◌, length, refl, ap, sym, subst, ◌∙◌}
use Rattle.std.proofs.Common.{arith, append_assoc, Option, Some, None, ◌⊎◌, inl, inr, length-append}
use Rattle.std.proofs.lemmas.List.Folds.{list_all-append}
use Rattle.std.specs.List.{list_all}
use Rattle.petal_base.specs.Tuple.{is_tuple, distinct}
use Rattle.petal_script.specs.Number.{number_of}
use Rattle.petal_script.specs.Words.{Word}
use Rattle.petal_script.specs.Fields.{numbers_of, cons_number}

abbrev pub glue : List ℕ → Option (List ℕ) → Option (List ℕ)
glue ns None = None
glue ns (Some ms) = Some (ns ++ ms)

glue_more : (ns : List ℕ) (n : ℕ) (rest : Option (List ℕ)) → glue ns (cons_number (Some n) rest) ≡ glue (ns ++ n ∷ []) rest
glue_more ns n None = refl
glue_more ns n (Some ms) = simp append_assoc

glue_none : (rest : Option (List ℕ)) → rest ≡ glue [] rest
glue_none None = refl
glue_none (Some ns) = refl

-- the numbers so far, and whether they can still begin a tuple
pub record SoFar (servers : ℕ) (all rest : List Word) (ids : List ℕ) (fits : Bool) : Type 0 where
  pub ns : List ℕ
  pub read : numbers_of all ≡ glue ns (numbers_of rest)
  pub same : fits ≡ true → ids ≡ ns
  pub unfit : fits ≡ false → (more : List ℕ) → is_tuple servers (ns ++ more) ≡ false

-- why a number more makes no tuple
abbrev pub Unfit : ℕ → List ℕ → Type 0
Unfit n ids = (8 ≤ n) ⊎ (8 ≤ length ids)

pub begins : (servers : ℕ) (all : List Word) → SoFar servers all all [] true
begins servers all = record { ns = []; read = glue_none (numbers_of all); same = λ _. refl; unfit = λ e. absurd (cc) }

and_no : (a b d : Bool) → (((a && b) && false) && d) ≡ false
and_no true true d = refl
and_no true false d = refl
and_no false b d = refl

and_long : (a c d : Bool) → (((a && false) && c) && d) ≡ false
and_long true c d = refl
and_long false c d = refl

pair_no : (a : Bool) → (a && false) ≡ false
pair_no true = refl
pair_no false = refl

too_great : (servers n : ℕ) (ns more : List ℕ) → 8 ≤ n → is_tuple servers (ns ++ n ∷ more) ≡ false
too_great servers n ns more much =
    let above : nat_lt n 8 ≡ false = grind arith in
    let one : (nat_lt n servers && nat_lt n 8) ≡ false = rw above (pair_no (nat_lt n servers)) in
    let all : list_all (λ m. nat_lt m servers && nat_lt m 8) (ns ++ n ∷ more) ≡ false =
    list_all-append (λ m. nat_lt m servers && nat_lt m 8) ns (n ∷ more)
    ∙ ap (λ b. list_all (λ m. nat_lt m servers && nat_lt m 8) ns && (b && list_all (λ m. nat_lt m servers && nat_lt m 8) more)) one
    ∙ pair_no (list_all (λ m. nat_lt m servers && nat_lt m 8) ns) in
    ap (λ b. ((nat_le 2 (length (ns ++ n ∷ more)) && nat_le (length (ns ++ n ∷ more)) 8) && b) && distinct (ns ++ n ∷ more)) all
    ∙ and_no (nat_le 2 (length (ns ++ n ∷ more))) (nat_le (length (ns ++ n ∷ more)) 8) (distinct (ns ++ n ∷ more))

too_long : (servers n : ℕ) (ns more : List ℕ) → 8 ≤ length ns → is_tuple servers (ns ++ n ∷ more) ≡ false
too_long servers n ns more much =
    let many : 8 < length (ns ++ n ∷ more) = simp length-append (omega arith) in
    let above : nat_le (length (ns ++ n ∷ more)) 8 ≡ false = grind arith in
    ap (λ b. ((nat_le 2 (length (ns ++ n ∷ more)) && b) && list_all (λ m. nat_lt m servers && nat_lt m 8) (ns ++ n ∷ more)) && distinct (ns ++ n ∷ more)) above
    ∙ and_long (nat_le 2 (length (ns ++ n ∷ more))) (list_all (λ m. nat_lt m servers && nat_lt m 8) (ns ++ n ∷ more)) (distinct (ns ++ n ∷ more))

read_on : (ns : List ℕ) (n : ℕ) (word : Word) (all rest : List Word) → numbers_of all ≡ glue ns (numbers_of (word ∷ rest)) → number_of word ≡ Some n
    → numbers_of all ≡ glue (ns ++ n ∷ []) (numbers_of rest)
read_on ns n word all rest read is = read ∙ ap (λ o. glue ns (cons_number o (numbers_of rest))) is ∙ glue_more ns n (numbers_of rest)

regrouped : (servers n : ℕ) (ns more : List ℕ) → is_tuple servers (ns ++ n ∷ more) ≡ false → is_tuple servers ((ns ++ n ∷ []) ++ more) ≡ false
regrouped servers n ns more is = let P : List ℕ → Type 0 = λ ms. is_tuple servers ms ≡ false in subst P (sym (append_assoc ns (n ∷ []) more)) is

pub goes_right : (servers : ℕ) (all rest : List Word) (ids : List ℕ) (fits : Bool) (word : Word) (n : ℕ) → SoFar servers all (word ∷ rest) ids fits
    → number_of word ≡ Some n → SoFar servers all rest (ids ++ n ∷ []) fits
goes_right servers all rest ids fits word n so is = record {
  ns = so.ns ++ n ∷ [];
  read = read_on so.ns n word all rest so.read is;
  same = λ e. ap (λ ms. ms ++ n ∷ []) (so.same e);
  unfit = λ e more. regrouped servers n so.ns more (so.unfit e (n ∷ more));
}

unfit_by : (servers n : ℕ) (ns ids more : List ℕ) (fits : Bool) → (fits ≡ true → ids ≡ ns)
    → (fits ≡ false → (others : List ℕ) → is_tuple servers (ns ++ others) ≡ false) → Unfit n ids → is_tuple servers (ns ++ n ∷ more) ≡ false
unfit_by servers n ns ids more false same unfit why = unfit refl (n ∷ more)
unfit_by servers n ns ids more true same unfit (inl much) = too_great servers n ns more much
unfit_by servers n ns ids more true same unfit (inr much) = let P : List ℕ → Type 0 = λ ms. 8 ≤ length ms in
    too_long servers n ns more (subst P (same refl) much)

pub goes_wrong : (servers : ℕ) (all rest : List Word) (ids : List ℕ) (fits : Bool) (word : Word) (n : ℕ) → SoFar servers all (word ∷ rest) ids fits
    → number_of word ≡ Some n → Unfit n ids → SoFar servers all rest ids false
goes_wrong servers all rest ids fits word n so is why = record {
  ns = so.ns ++ n ∷ [];
  read = read_on so.ns n word all rest so.read is;
  same = λ e. absurd (cc);
  unfit = λ _ more. regrouped servers n so.ns more (unfit_by servers n so.ns ids more fits so.same so.unfit why);
}
