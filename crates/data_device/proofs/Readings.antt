-- What is read of one body more.
use Rattle.std.proofs.Common.{◌≡◌, ℕ, zero, suc, ◌+◌, ◌<◌, Bool, List, [], ◌∷◌, ◌++◌, length, take, drop, fold, get_or, map, refl, sym, ap, subst, ◌∙◌, arith}
use Rattle.std.proofs.lemmas.List.{length-map, map-append}
use Rattle.std.proofs.lemmas.List.Sums.{fold-append}
use Rattle.data_device.proofs.RecordLists.{fit_append, spelled_append}
use Rattle.data_device.specs.Spelling.{spelling, HasSpelling}
use Rattle.data_device.specs.declared.record.StoreRecord.{StoreRecord}
use Rattle.data_device.specs.declared.replay.Replay.{Replay}
use Rattle.data_device.specs.Device.{bodies_of, AreSpelled}
use Rattle.data_device.specs.Kept.{Kept, Fits, AllFit, kept_of, kept_after, formatted}
use Rattle.data_device.specs.Reading.{kept_by, Reads, IsRead, IsBad}

-- What one record more keeps.

pub bodies_one_more : (records : List StoreRecord) (entry : StoreRecord) → bodies_of (records ++ entry ∷ []) ≡ bodies_of records ++ spelling entry ∷ []
bodies_one_more records entry = map-append spelling records (entry ∷ [])

pub spelled_more : (records : List StoreRecord) (entry : StoreRecord) → AreSpelled records → HasSpelling entry → AreSpelled (records ++ entry ∷ [])
spelled_more records entry h fits = spelled_append records (entry ∷ []) h (fits, tt)

pub fit_more : (slots : ℕ) (kept : Kept) (records : List StoreRecord) (entry : StoreRecord) → AllFit slots kept records
    → Fits slots (fold kept_after kept records) entry → AllFit slots kept (records ++ entry ∷ [])
fit_more slots kept records entry h fits = fit_append slots kept records (entry ∷ []) h (fits, tt)

pub kept_more : (fresh : Bool) (records : List StoreRecord) (r : StoreRecord) → kept_of fresh (records ++ r ∷ []) ≡ kept_after (kept_of fresh records) r
kept_more fresh records r = fold-append kept_after (formatted fresh) records (r ∷ [])

take_suc : {X : Type 0} (ys : List X) (k : ℕ) (d : X) → k < length ys → take (suc k) ys ≡ take k ys ++ get_or ys k d ∷ []
take_suc [] k d h = absurd (omega arith)
take_suc (y ∷ ys) zero d h = refl
take_suc (y ∷ ys) (suc k) d h = ap (λ l. y ∷ l) (take_suc ys k d (omega arith))

-- the next one of a list
pub take_next : {X : Type 0} (xs : List X) (i : ℕ) (d : X) → i < length xs → take (i + 1) xs ≡ take i xs ++ get_or xs i d ∷ []
take_next xs i d lt = ap (λ n. take n xs) (let n : i + 1 ≡ suc i = omega arith in n) ∙ take_suc xs i d lt

-- what stands at a place of the list of values
pub at_map : {A B : Type 0} (f : A → B) (xs : List A) (i : ℕ) (v : A) (d : B) → i < length xs → v ≡ get_or xs i v → get_or (map f xs) i d ≡ f v
at_map f [] i v d lt e = absurd (omega arith)
at_map f (x ∷ xs) zero v d lt e = ap f (sym e)
at_map f (x ∷ xs) (suc i) v d lt e = at_map f xs i v d (omega arith) e

-- one body more is read
pub next_read : (slots : ℕ) (fresh : Bool) (bodies : List (List ℕ)) (i : ℕ) (old new : Replay) (body : List ℕ) → i < length bodies
    → get_or bodies i [] ≡ body → IsRead slots fresh (take i bodies) old → Reads old new body → IsRead slots fresh (take (i + 1) bodies) new
next_read slots fresh bodies i old new body lt here so_far read =
    let past = old.history.items in
    let kept : kept_by new ≡ kept_of fresh (past ++ read.entry ∷ []) = read.kept ∙ ap (λ k. kept_after k read.entry) so_far.kept
    ∙ sym (kept_more fresh past read.entry) in
    let fits : Fits slots (kept_of fresh past) read.entry =
    subst (λ k. Fits slots k read.entry) so_far.kept (subst (λ n. Fits n (kept_by old) read.entry) so_far.slots_are read.fits) in
    record {
      found = ap bodies_of read.records ∙ bodies_one_more past read.entry ∙ ap (λ l. l ++ spelling read.entry ∷ []) so_far.found
          ∙ ap (λ (b : List ℕ). take i bodies ++ b ∷ []) (sym (here ∙ read.body_is)) ∙ sym (take_next bodies i [] lt);
      spelled = rw read.records (spelled_more past read.entry so_far.spelled read.has_spelling);
      fit = rw read.records (fit_more slots (formatted fresh) past read.entry so_far.fit fits);
      kept = rw read.records kept;
      slots_are = read.slots ∙ so_far.slots_are;
      tickets = read.tickets;
    }

-- the record of a body among those of a list
record Found (records : List StoreRecord) (i : ℕ) : Type 0 where
  pub entry : StoreRecord
  pub fits : HasSpelling entry
  pub body : get_or (bodies_of records) i [] ≡ spelling entry
  pub more : take (suc i) records ≡ take i records ++ entry ∷ []

found : (records : List StoreRecord) (i : ℕ) → i < length (bodies_of records) → AreSpelled records → Found records i
found [] i lt sp = absurd (omega arith)
found (r ∷ rs) zero lt sp = record { entry = r; fits = sp.0; body = refl; more = refl }
found (r ∷ rs) (suc i) lt sp = let f = found rs i (omega arith) sp.1 in record { entry = f.entry; fits = f.fits; body = f.body; more = ap (λ l. r ∷ l) f.more }

-- what is read of the bodies of records is these
pub next_same : (records : List StoreRecord) (bodies : List (List ℕ)) (i : ℕ) (old new : Replay) (body : List ℕ) → AreSpelled records
    → bodies ≡ bodies_of records → i < length bodies → get_or bodies i [] ≡ body → old.history.items ≡ take i records → Reads old new body
    → new.history.items ≡ take (i + 1) records
next_same records bodies i old new body sp is lt here so_far read =
    let f = found records i (subst (λ (l : List (List ℕ)). i < length l) is lt) sp in
    let same : f.entry ≡ read.entry = read.only f.entry f.fits (sym here ∙ ap (λ (l : List (List ℕ)). get_or l i []) is ∙ f.body) in
    read.records ∙ ap (λ l. l ++ read.entry ∷ []) so_far ∙ ap (λ (r : StoreRecord). take i records ++ r ∷ []) (sym same) ∙ sym f.more
    ∙ ap (λ n. take n records) (let n : suc i ≡ i + 1 = omega arith in n)

-- a body that is not read
pub not_read : (slots : ℕ) (fresh : Bool) (bodies : List (List ℕ)) (i : ℕ) (old : Replay) (body : List ℕ) → i < length bodies → get_or bodies i [] ≡ body
    → IsRead slots fresh (take i bodies) old → ((r : StoreRecord) → HasSpelling r → body ≡ spelling r → ¬ Fits old.ledger.slots (kept_by old) r)
    → IsBad slots fresh bodies i
not_read slots fresh bodies i old body lt here so_far refused = record {
  within = lt;
  records = old.history.items;
  spelled = so_far.spelled;
  before = so_far.found;
  bad = λ r spelled is fits. refused r spelled (sym here ∙ is)
      (subst (λ k. Fits old.ledger.slots k r) (sym so_far.kept) (subst (λ n. Fits n (kept_of fresh old.history.items) r) (sym so_far.slots_are) fits));
}

-- a record among those that all fit fits after those before it
fits_at : (slots : ℕ) (kept : Kept) (records : List StoreRecord) (i : ℕ) (r : StoreRecord) → AllFit slots kept records → i < length records
    → take (suc i) records ≡ take i records ++ r ∷ [] → Fits slots (fold kept_after kept (take i records)) r
fits_at slots kept [] i r fit lt is = absurd (omega arith)
fits_at slots kept (x ∷ xs) zero r fit lt is = let same : x ≡ r = cc in subst (λ y. Fits slots kept y) same fit.0
fits_at slots kept (x ∷ xs) (suc i) r fit lt is =
    let rest : take (suc i) xs ≡ take i xs ++ r ∷ [] = ap (drop 1) is in
    fits_at slots (kept_after kept x) xs i r fit.1 (omega arith) rest

-- so it is read
pub is_read : (slots : ℕ) (fresh : Bool) (records : List StoreRecord) (bodies : List (List ℕ)) (i : ℕ) (old : Replay) (body : List ℕ) → AreSpelled records
    → AllFit slots (formatted fresh) records → bodies ≡ bodies_of records → i < length bodies → get_or bodies i [] ≡ body
    → old.history.items ≡ take i records → IsRead slots fresh (take i bodies) old
    → ((r : StoreRecord) → HasSpelling r → body ≡ spelling r → ¬ Fits old.ledger.slots (kept_by old) r) → ⊥
is_read slots fresh records bodies i old body sp fit is lt here so_far read refused =
    let f = found records i (subst (λ (l : List (List ℕ)). i < length l) is lt) sp in
    let within : i < length records = omega (arith, lt, ap length is, length-map records spelling) in
    let fits : Fits slots (kept_of fresh (take i records)) f.entry = fits_at slots (formatted fresh) records i f.entry fit within f.more in
    let kept : kept_by old ≡ kept_of fresh (take i records) = read.kept ∙ ap (λ rs. kept_of fresh rs) so_far in
    refused f.entry f.fits (sym here ∙ ap (λ (l : List (List ℕ)). get_or l i []) is ∙ f.body)
    (subst (λ k. Fits old.ledger.slots k f.entry) (sym kept) (subst (λ n. Fits n (kept_of fresh (take i records)) f.entry) (sym read.slots_are) fits))
