-- The tally agrees with the lines.
use Rattle.std.proofs.Common.{◌≡◌, ◌≢◌, ℕ, zero, suc, ◌+◌, ◌-◌, Ok, ◌<◌, ◌≤◌, ◌/◌, Bool, true, false, not, nat_lt, List, [], ◌∷◌, ◌++◌, length, get_or}
use Rattle.std.proofs.Common.{take, set, ◌==◌, ◌||◌, ◌&&◌, inl, inr, refl, ap, sym, subst, ◌∙◌, arith, cond}
use Rattle.std.proofs.lemmas.Grind.{common_steps}
use Rattle.std.proofs.lemmas.Bool.{cases_eq, eq-eqb, ne_eqb}
use Rattle.std.proofs.lemmas.List.{get_or-set_same, get_or-set_other}
use Rattle.std.proofs.lemmas.List.Sums.{sum_by_push, fold-append}
use Rattle.std.proofs.Math.Nat.{zero-add}
use Rattle.std.specs.List.{count_by, range_with_len, fold}
use Rattle.script_lines.specs.declared.script.Script.{Script}
use Rattle.script_lines.specs.Requests.{is_disk, is_snap, is_move, is_boot}
use Rattle.petal_script.specs.Script.{adds, too_many, no_majority, is_down, count, down_after}
use Rattle.petal_script.specs.Tally.{Tallies, one_more, down_with, tally_with}
use Rattle.petal_script.specs.declared.tally.Tally.{Tally}
use Rattle.script_lines.specs.declared.request.Line.{Line}
use Rattle.script_lines.specs.declared.request.Request.{Request}
use Rattle.script_lines.specs.declared.request.Request.TheVariants.{Stop, StopAt, Fault, Start, Blank}

count_from : (g : ℕ → Bool) (n i a : ℕ) (ys : List Bool) → n ≤ length ys → ((k : ℕ) → k < n → not (get_or ys k false) ≡ g (i + k))
    → fold (λ m x. m + cond (not x) 1 0) a (take n ys) ≡ fold (λ m x. m + cond (g x) 1 0) a (range_with_len i n)
count_from g zero i a ys room same = refl
count_from g (suc n) i a [] room same = absurd (omega arith)
count_from g (suc n) i a (y ∷ ys) room same =
    let first : not y ≡ g i = same 0 (omega arith) ∙ ap g (omega arith) in
    count_from g n (i + 1) (a + cond (not y) 1 0) ys (omega arith) (λ k below. same (suc k) (omega arith) ∙ ap g (omega arith))
    ∙ ap (λ b. fold (λ m x. m + cond (g x) 1 0) (a + cond b 1 0) (range_with_len (i + 1) n)) first

pub same_majority : (servers : ℕ) (lines : List Line) (t : Tally) → Tallies lines t → length t.down ≡ 8 → servers ≤ 8
    → no_majority servers lines ≡ nat_lt (count_by not (take servers t.down)) (servers / 2 + 1)
unfolding no_majority
same_majority servers lines t tallies eight room =
    ap (λ n. nat_lt n (servers / 2 + 1)) (sym (count_from (λ s. not (is_down lines s)) servers 0 0 t.down (omega arith)
    (λ k below. ap not (tallies.down k (omega arith)) ∙ ap (λ s. not (is_down lines s)) (sym (zero-add k)))))

-- what one request more does to the counts
record More (old new : List Line) (r : Request) : Type 0 where
  len : length new ≡ length old + 1
  counts : (test : Request → Bool) → count test new ≡ count test old + cond (test r) 1 0
  downs : (s : ℕ) → is_down new s ≡ down_after s (is_down old s) r

or_true : (b : Bool) → (b || true) ≡ true
or_true true = refl
or_true false = refl

or_false : (b : Bool) → (b || false) ≡ b
or_false true = refl
or_false false = refl

and_true : (b : Bool) → (b && true) ≡ b
and_true true = refl
and_true false = refl

and_false : (b : Bool) → (b && false) ≡ false
and_false true = refl
and_false false = refl

at_set : (ds : List Bool) (server s : ℕ) (b : Bool) → length ds ≡ 8 → s < 8 → get_or (set ds server b) s false ≡ cond (server == s) b (get_or ds s false)
at_set ds server s b eight below = elim (cases_eq s server) [
  | inl same ↦ (let room : server < length ds = omega arith in let P : ℕ → Type 0 = λ k. get_or (set ds server b) k false
      ≡ cond (server == k) b (get_or ds k false) in subst P (sym same) (rw (eq-eqb server server refl) (get_or-set_same ds server b false room)))
  | inr other ↦ (let apart : server ≢ s = (λ e. other (sym e)) in rw (ne_eqb server s apart) (get_or-set_other ds server s b false other))
]

down_if : (b was : Bool) → cond b true was ≡ (was || b)
down_if true was = sym (or_true was)
down_if false was = sym (or_false was)

up_if : (b was : Bool) → cond b false was ≡ (was && not b)
up_if true was = sym (and_false was)
up_if false was = sym (and_true was)

goes_down : (ds : List Bool) (server s : ℕ) (was now : Bool) → length ds ≡ 8 → s < 8 → get_or ds s false ≡ was → now ≡ (was || server == s)
    → get_or (set ds server true) s false ≡ now
goes_down ds server s was now eight below is e = at_set ds server s true eight below ∙ ap (cond (server == s) true) is ∙ down_if (server == s) was ∙ sym e

comes_up : (ds : List Bool) (server s : ℕ) (was now : Bool) → length ds ≡ 8 → s < 8 → get_or ds s false ≡ was → now ≡ (was && not (server == s))
    → get_or (set ds server false) s false ≡ now
comes_up ds server s was now eight below is e = at_set ds server s false eight below ∙ ap (cond (server == s) false) is ∙ up_if (server == s) was ∙ sym e

counts_more : (is : Bool) (n old new : ℕ) → n ≡ old → new ≡ old + cond is 1 0 → one_more n is ≡ new
counts_more true n old new told e = omega (arith, told, e)
counts_more false n old new told e = omega (arith, told, e)

marks_more : (r : Request) (ds : List Bool) (s : ℕ) (was now : Bool) → length ds ≡ 8 → s < 8 → get_or ds s false ≡ was → now ≡ down_after s was r
    → get_or (down_with ds r) s false ≡ now
marks_more (Stop server) ds s was now eight below is e = goes_down ds server s was now eight below is e
marks_more (StopAt server at) ds s was now eight below is e = goes_down ds server s was now eight below is e
marks_more (Fault server which kind at) ds s was now eight below is e = goes_down ds server s was now eight below is e
marks_more (Start server) ds s was now eight below is e = comes_up ds server s was now eight below is e
marks_more (Blank server) ds s was now eight below is e = comes_up ds server s was now eight below is e
marks_more _ ds s was now eight below is e = is ∙ sym e

more : (old new : List Line) (r : Request) (t : Tally) → length t.down ≡ 8 → Tallies old t → More old new r → Tallies new (tally_with t r)
more old new r t eight told m = record {
  requests = omega (arith, told.requests, m.len);
  disks = counts_more (is_disk r) t.disks (count is_disk old) (count is_disk new) told.disks (m.counts is_disk);
  snaps = counts_more (is_snap r) t.snaps (count is_snap old) (count is_snap new) told.snaps (m.counts is_snap);
  moves = counts_more (is_move r) t.moves (count is_move old) (count is_move new) told.moves (m.counts is_move);
  boots = counts_more (is_boot r) t.boots (count is_boot old) (count is_boot new) told.boots (m.counts is_boot);
  down = λ s below. marks_more r t.down s (is_down old s) (is_down new s) eight below (told.down s below) (m.downs s);
}

is_more : (lines : List Line) (line : Line) → More lines (lines ++ line ∷ []) line.request
is_more lines line = record {
  len = grind (arith, common_steps);
  counts = λ test. sum_by_push (λ l. cond (test l.request) 1 0) lines line;
  downs = λ s. fold-append (λ down l. down_after s down l.request) false lines (line ∷ []);
}

pub tallies_more : (lines : List Line) (line : Line) (t : Tally) → length t.down ≡ 8 → Tallies lines t
    → Tallies (lines ++ line ∷ []) (tally_with t line.request)
tallies_more lines line t eight tallies = more lines (lines ++ line ∷ []) line.request t eight tallies (is_more lines line)

abbrev pub line_at : Script → ℕ → ℕ → Request → Line
line_at s number client request = record { number = number; phase = s.phases - 1; client = client; request = request }

pub added : (s : Script) (number client : ℕ) (request : Request)
    → too_many (s.lines ++ line_at s number client request ∷ []) ≡ false → no_majority s.servers (s.lines ++ line_at s number client request ∷ []) ≡ false
    → adds s number client request ≡ Ok (record s { lines = s.lines ++ line_at s number client request ∷ [] })
unfolding adds
added s number client request few many = rw (few, many) refl
