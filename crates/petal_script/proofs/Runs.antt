-- The first of the runs of some bytes.
use Rattle.std.proofs.Common.{◌≡◌, ◌≢◌, ℕ, zero, suc, ◌+◌, ◌<◌, ◌==◌, false, List, [], ◌∷◌, length, drop, get_or, refl, ap}
use Rattle.std.proofs.Common.{sym, subst, ◌∙◌, arith, inl, inr}
use Rattle.std.proofs.lemmas.Bool.{cases_eq, eq-eqb, ne_eqb}
use Rattle.std.specs.List.{prefix_len}
use Rattle.script_lines.specs.Contents.{runs, onto_run}
use Rattle.script_lines.specs.declared.run.Run.{Run}

runs-cons : (b : ℕ) (bs : List ℕ) → runs (b ∷ bs) ≡ onto_run b (runs bs)
unfolding runs
runs-cons b bs = refl

prefix_yes : (b : ℕ) (bs : List ℕ) → prefix_len (λ x. x == b) (b ∷ bs) ≡ suc (prefix_len (λ x. x == b) bs)
prefix_yes b bs = let more : 1 + prefix_len (λ x. x == b) bs ≡ suc (prefix_len (λ x. x == b) bs) = omega arith in rw (eq-eqb b b refl) more

prefix_no : (b c : ℕ) (cs : List ℕ) → c ≢ b → prefix_len (λ x. x == b) (c ∷ cs) ≡ 0
prefix_no b c cs ne = rw (ne_eqb c b ne) refl

-- the run at the front of some bytes that begin with b, and the runs after it
abbrev front_run : ℕ → List ℕ → Run
front_run b bytes = record { count = prefix_len (λ x. x == b) bytes; byte = b }

abbrev later_runs : ℕ → List ℕ → List Run
later_runs b bytes = runs (drop (prefix_len (λ x. x == b) bytes) bytes)

abbrev run_of : ℕ → ℕ → Run
run_of b n = record { count = n; byte = b }

joins : (b n m : ℕ) (bs : List ℕ) → m ≡ suc n → run_of b (n + 1) ∷ runs (drop n bs) ≡ run_of b m ∷ runs (drop m (b ∷ bs))
joins b n m bs e =
    let P : ℕ → Type 0 = λ k. run_of b (n + 1) ∷ runs (drop n bs) ≡ run_of b k ∷ runs (drop k (b ∷ bs)) in
    let next : n + 1 ≡ suc n = omega arith in
    subst P (sym e) (ap (λ k. run_of b k ∷ runs (drop n bs)) next)

lengthens : (b n : ℕ) (rs : List Run) → onto_run b (run_of b n ∷ rs) ≡ run_of b (n + 1) ∷ rs
lengthens b n rs = rw (eq-eqb b b refl) refl

begins : (b c n : ℕ) (rs : List Run) → c ≢ b → onto_run b (run_of c n ∷ rs) ≡ run_of b 1 ∷ run_of c n ∷ rs
begins b c n rs ne = rw (ne_eqb c b ne) refl

runs_same : (b : ℕ) (cs : List ℕ) → runs (b ∷ cs) ≡ front_run b (b ∷ cs) ∷ later_runs b (b ∷ cs)
    → runs (b ∷ b ∷ cs) ≡ front_run b (b ∷ b ∷ cs) ∷ later_runs b (b ∷ b ∷ cs)
runs_same b cs rest =
    runs-cons b (b ∷ cs)
    ∙ ap (onto_run b) rest
    ∙ lengthens b (prefix_len (λ x. x == b) (b ∷ cs)) (later_runs b (b ∷ cs))
    ∙ joins b (prefix_len (λ x. x == b) (b ∷ cs)) (prefix_len (λ x. x == b) (b ∷ b ∷ cs)) (b ∷ cs) (prefix_yes b (b ∷ cs))

runs_apart : (b c : ℕ) (cs : List ℕ) → c ≢ b → runs (c ∷ cs) ≡ front_run c (c ∷ cs) ∷ later_runs c (c ∷ cs)
    → runs (b ∷ c ∷ cs) ≡ front_run b (b ∷ c ∷ cs) ∷ later_runs b (b ∷ c ∷ cs)
runs_apart b c cs ne rest =
    let one : prefix_len (λ x. x == b) (b ∷ c ∷ cs) ≡ 1 = prefix_yes b (c ∷ cs) ∙ ap suc (prefix_no b c cs ne) in
    let P : ℕ → Type 0 = λ k. runs (b ∷ c ∷ cs) ≡ run_of b k ∷ runs (drop k (b ∷ c ∷ cs)) in
    let alone : P 1 =
    runs-cons b (c ∷ cs)
    ∙ ap (onto_run b) rest
    ∙ begins b c (prefix_len (λ x. x == c) (c ∷ cs)) (later_runs c (c ∷ cs)) ne
    ∙ ap (λ rs. run_of b 1 ∷ rs) (sym rest) in
    subst P (sym one) alone

runs_one : (b : ℕ) → runs (b ∷ []) ≡ front_run b (b ∷ []) ∷ later_runs b (b ∷ [])
unfolding runs
runs_one b = rw (eq-eqb b b refl) refl

runs_from : (b : ℕ) (bs : List ℕ) → runs (b ∷ bs) ≡ front_run b (b ∷ bs) ∷ later_runs b (b ∷ bs)
runs_from b [] = runs_one b
runs_from b (c ∷ cs) = elim (cases_eq c b) [
  | inl e ↦ (let P : ℕ → Type 0 = λ d. runs (b ∷ d ∷ cs) ≡ front_run b (b ∷ d ∷ cs) ∷ later_runs b (b ∷ d ∷ cs) in
      subst P (sym e) (runs_same b cs (runs_from b cs)))
  | inr ne ↦ runs_apart b c cs ne (runs_from c cs)
]

pub first_of_runs : (bytes : List ℕ) → 0 < length bytes → runs bytes ≡ front_run (get_or bytes 0 0) bytes ∷ later_runs (get_or bytes 0 0) bytes
first_of_runs [] some = absurd (omega arith)
first_of_runs (c ∷ cs) some = runs_from c cs

-- no run is empty
pub some_front : (bytes : List ℕ) → 0 < length bytes → 0 < prefix_len (λ x. x == get_or bytes 0 0) bytes
some_front [] some = absurd (omega arith)
some_front (c ∷ cs) some = rw (eq-eqb c c refl) (omega arith)

pub some_left : (bytes : List ℕ) → 0 < length bytes → 0 < length (runs bytes)
some_left bytes some =
    let all : length (runs bytes) ≡ length (front_run (get_or bytes 0 0) bytes ∷ later_runs (get_or bytes 0 0) bytes) = ap length (first_of_runs bytes some) in
    omega arith

pub none_left : (bytes : List ℕ) → length bytes ≡ 0 → runs bytes ≡ []
unfolding runs
none_left [] none = refl
none_left (b ∷ bs) none = absurd (omega arith)

pub some_bytes : (n : ℕ) → false ≡ (n == 0) → 0 < n
some_bytes zero e = absurd (cc)
some_bytes (suc n) e = omega arith
