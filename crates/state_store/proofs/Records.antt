-- Records from what was read of their bodies.
use Rattle.std.proofs.Common.{◌≡◌, ℕ, zero, suc, ◌+◌, ◌<◌, List, [], ◌∷◌, ◌++◌, length, take, get_or, map, fold, Option}
use Rattle.std.proofs.Common.{Some, refl, sym, ap, subst, ◌∙◌, arith}
use Rattle.state_store.specs.Device.{bodies_of, AreSpelled}
use Rattle.spec_paxos.specs.declared.record.StateRecord.{StateRecord}
use Rattle.state_store.specs.Body.{body_of, HasBody}

-- the record of a body among those of a list
pub record Found (records : List StateRecord) (i : ℕ) : Type 0 where
  pub entry : StateRecord
  pub fits : HasBody entry
  pub body : get_or (bodies_of records) i [] ≡ body_of entry
  pub more : take (suc i) records ≡ take i records ++ entry ∷ []

pub found : (records : List StateRecord) (i : ℕ) → i < length (bodies_of records) → AreSpelled records → Found records i
found [] i lt sp = absurd (omega arith)
found (r ∷ rs) zero lt sp = record { entry = r; fits = sp.0; body = refl; more = refl }
found (r ∷ rs) (suc i) lt sp = let f = found rs i (omega arith) sp.1 in record { entry = f.entry; fits = f.fits; body = f.body; more = ap (λ l. r ∷ l) f.more }

-- what is read of a body of the list is its record
pub read_same : (bodies : List (List ℕ)) (records : List StateRecord) (i : ℕ) (read : Option StateRecord) (entry : StateRecord) (past : List StateRecord)
    → AreSpelled records → bodies ≡ bodies_of records → i < length bodies
    → ((r : StateRecord) → HasBody r → get_or bodies i [] ≡ body_of r → read ≡ Some r) → read ≡ Some entry → past ≡ take i records
    → past ++ entry ∷ [] ≡ take (i + 1) records
read_same bodies records i read entry past sp is lt only got so_far =
    let f = found records i (subst (λ (l : List (List ℕ)). i < length l) is lt) sp in
    let e : read ≡ Some f.entry = only f.entry f.fits (ap (λ (l : List (List ℕ)). get_or l i []) is ∙ f.body) in
    let same : entry ≡ f.entry = cc in
    ap (λ n. n ++ entry ∷ []) so_far ∙ ap (λ (r : StateRecord). take i records ++ r ∷ []) same ∙ sym f.more
    ∙ ap (λ n. take n records) (let n : suc i ≡ i + 1 = omega arith in n)

take_suc : {X : Type 0} (ys : List X) (k : ℕ) (d : X) → k < length ys → take (suc k) ys ≡ take k ys ++ get_or ys k d ∷ []
take_suc [] k d h = absurd (omega arith)
take_suc (y ∷ ys) zero d h = refl
take_suc (y ∷ ys) (suc k) d h = ap (λ l. y ∷ l) (take_suc ys k d (omega arith))

-- the next one of a list
pub take_next : {X : Type 0} (xs : List X) (i : ℕ) (d : X) → i < length xs → take (i + 1) xs ≡ take i xs ++ get_or xs i d ∷ []
take_next xs i d lt = ap (λ n. take n xs) (let n : i + 1 ≡ suc i = omega arith in n) ∙ take_suc xs i d lt

-- what stands at a place of the list of values
pub at_map : {A B : Type 0} (f : A → B) (xs : List A) (i : ℕ) (v : A) (d : B) → i < length xs → v ≡ get_or xs i v → get_or (map f xs) i d ≡ f v
at_map f [] i v d lt e = absurd (omega arith)
at_map f (x ∷ xs) zero v d lt e = ap f (sym e)
at_map f (x ∷ xs) (suc i) v d lt e = at_map f xs i v d (omega arith) e

-- a fold over one more
pub fold_more : {A X : Type 0} (f : A → X → A) (a : A) (xs : List X) (x : X) → fold f a (xs ++ x ∷ []) ≡ f (fold f a xs) x
fold_more f a [] x = refl
fold_more f a (y ∷ ys) x = fold_more f (f a y) ys x
