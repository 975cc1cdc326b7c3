-- A script that is read is sound.
use Rattle.law_run.proofs.Imports.{[], ◌&&◌, ◌++◌, ◌+◌, ◌<◌, ◌==◌, ◌>>=◌, ◌||◌, ◌∙◌, ◌∷◌, ◌≡◌, ◌≤◌, ◌⊎◌, Asks, BadNumber, BadTuple, Bool, Cause, Does, Err}
use Rattle.law_run.proofs.Imports.{In, IsSound, Line, List, None, Ok, Pattern, Request, Result, Script, Some, TextLine, Word, a_block, a_byte, a_call}
use Rattle.law_run.proofs.Imports.{a_device, a_kind, a_name, a_server, a_tuple, ap, arith, asks, boot_of, both_true, by_test, client_request, codes, cond}
use Rattle.law_run.proofs.Imports.{false, fault_of, filled_of, first_line, four_words, front_word, halves_of, in-append, in_limits, inl, inr, is_accepted}
use Rattle.law_run.proofs.Imports.{is_some, is_tuple, is_word, length, line_at, lines_after, move_of, nat_le, nat_tests, net_line, nets, no_word, not}
use Rattle.law_run.proofs.Imports.{numbers_of, one_word, operator_request, pieces, read_of, refl, script_of, servers_line, skipped, snap_of, spread_of}
use Rattle.law_run.proofs.Imports.{stop_at, stop_of, subst, sym, text_lines, three_words, true, two_words, waits, words_of, write_of, ℕ}
use Rattle.petal_base.specs.Tuple.{tuple_of}
use Rattle.petal_script.specs.Words.{or_else}
use Rattle.petal_script.specs.Number.{number_of}
use Rattle.petal_script.specs.Fields.{version_of}
use Rattle.petal_script.specs.Client.{disk_of, write_by}
use Rattle.law_script.specs.Laws.{Follows}
use Rattle.script_lines.specs.declared.request.Pattern.TheVariants as pattern
use Rattle.script_lines.specs.declared.request.Request.TheVariants as request

-- what holds of each result that is no fault
abbrev EachOk : {A : Type 0} → (A → Type 0) → Result A Cause → Type 0
EachOk P (Ok x) = P x
EachOk P (Err cause) = Unit {0}

then_ok : {A B : Type 0} (P : B → Type 0) (r : Result A Cause) (f : A → Result B Cause) → ((x : A) → r ≡ Ok x → EachOk P (f x)) → EachOk P (r >>= f)
then_ok P (Ok x) f h = h x refl
then_ok P (Err e) f h = tt

ok_is : {A : Type 0} (P : A → Type 0) (r : Result A Cause) (x : A) → EachOk P r → r ≡ Ok x → P x
ok_is P r x h e = subst (EachOk P) e h

-- ### Requests name proper tuples

-- a disk is over a tuple of the servers, and is moved to one
abbrev IsFit : ℕ → Request → Type 0
IsFit servers (request.Disk name tuple) = is_tuple servers tuple ≡ true
IsFit servers (request.Move name tuple) = is_tuple servers tuple ≡ true
IsFit servers _ = Unit {0}

module _ (servers : ℕ) where
  abbrev Fit : Result Request Cause → Type 0
  Fit r = EachOk (IsFit servers) r

  tuple_fits : (ids : List ℕ) → EachOk (λ tuple. is_tuple servers tuple ≡ true) (or_else (tuple_of servers ids) BadTuple)
  tuple_fits ids = by (is_tuple servers ids) refl
    where
      by : (b : Bool) → is_tuple servers ids ≡ b → EachOk (λ tuple. is_tuple servers tuple ≡ true) (or_else (cond b (Some ids) None) BadTuple)
      by true e = e
      by false e = tt

  a_tuple_fits : (words : List Word) → EachOk (λ tuple. is_tuple servers tuple ≡ true) (a_tuple servers words)
  unfolding a_tuple
  a_tuple_fits words = then_ok _ (or_else (numbers_of words) BadNumber) (λ ids. or_else (tuple_of servers ids) BadTuple) (λ ids e. tuple_fits ids)

  spread_fits : (words : List Word) → EachOk (λ (parts : List ℕ × List ℕ). is_tuple servers parts.1 ≡ true) (spread_of servers words)
  unfolding spread_of
  spread_fits words = then_ok _ (front_word words) _ (λ disk e. then_ok _ (front_word disk.1) _ (λ on f.
      by_test (EachOk (λ (parts : List ℕ × List ℕ). is_tuple servers parts.1 ≡ true)) (not (is_word on.0 (codes "on")) || length on.1 == 0) _ _ (λ t. tt)
      (λ t. then_ok _ (a_name disk.0) _ (λ name g. then_ok _ (a_tuple servers on.1) _
      (λ tuple k. ok_is (λ x. is_tuple servers x ≡ true) (a_tuple servers on.1) tuple (a_tuple_fits on.1) k)))))

  disk_fits : (words : List Word) → Fit (disk_of servers words)
  unfolding disk_of
  disk_fits words =
      then_ok _ (spread_of servers words) _ (λ parts. ok_is (λ (x : List ℕ × List ℕ). is_tuple servers x.1 ≡ true) (spread_of servers words) parts
      (spread_fits words))

  move_fits : (words : List Word) → Fit (move_of servers words)
  unfolding move_of
  move_fits words =
      then_ok _ (spread_of servers words) _ (λ parts. ok_is (λ (x : List ℕ × List ℕ). is_tuple servers x.1 ≡ true) (spread_of servers words) parts
      (spread_fits words))

  filled_fits : (disk place : Word) (how : ℕ → Pattern) (x : Word) → Fit (filled_of disk place how x)
  unfolding filled_of
  filled_fits disk place how x = then_ok _ (a_name disk) _ (λ name e. then_ok _ (a_block place) _ (λ block f. then_ok _ (a_byte x) _ (λ y g. tt)))

  halves_fits : (disk place x y : Word) → Fit (halves_of disk place x y)
  unfolding halves_of
  halves_fits disk place x y =
      then_ok _ (a_name disk) _ (λ name e. then_ok _ (a_block place) _ (λ block f. then_ok _ (a_byte x) _ (λ a g. then_ok _ (a_byte y) _ (λ b h. tt))))

  write_by_fits : (disk place kind : Word) (numbers : List Word) → Fit (write_by disk place kind numbers)
  write_by_fits disk place kind numbers =
      by_test Fit (is_word kind (codes "fill")) _ _ (λ t. then_ok _ (one_word numbers) _ (λ x e. filled_fits disk place pattern.Fill x)) (λ t.
      by_test Fit (is_word kind (codes "ramp")) _ _ (λ t. then_ok _ (one_word numbers) _ (λ x e. filled_fits disk place pattern.Ramp x)) (λ t.
      by_test Fit (is_word kind (codes "halves")) _ _ (λ t. then_ok _ (two_words numbers) _ (λ xy e. halves_fits disk place xy.0 xy.1)) (λ t. tt)))

  write_fits : (words : List Word) → Fit (write_of words)
  unfolding write_of
  write_fits words =
      then_ok _ (front_word words) _ (λ disk e. then_ok _ (front_word disk.1) _
      (λ place f. then_ok _ (front_word place.1) _ (λ kind g. write_by_fits disk.0 place.0 kind.0 kind.1)))

  read_fits : (words : List Word) → Fit (read_of words)
  unfolding read_of
  read_fits words = then_ok _ (two_words words) _ (λ parts e. then_ok _ (version_of parts.0) _ (λ version f. then_ok _ (a_block parts.1) _ (λ block g. tt)))

  snap_fits : (words : List Word) → Fit (snap_of words)
  unfolding snap_of
  snap_fits words = then_ok _ (two_words words) _ (λ parts e. then_ok _ (a_name parts.0) _ (λ name f. then_ok _ (a_name parts.1) _ (λ snap g. tt)))

  client_fits : (words : List Word) → Fit (client_request servers words)
  unfolding client_request
  client_fits words = then_ok _ (front_word words) _ (λ verb e.
      by_test Fit (is_word verb.0 (codes "disk")) _ _ (λ t. disk_fits verb.1) (λ t.
      by_test Fit (is_word verb.0 (codes "write")) _ _ (λ t. write_fits verb.1) (λ t.
      by_test Fit (is_word verb.0 (codes "read")) _ _ (λ t. read_fits verb.1) (λ t.
      by_test Fit (is_word verb.0 (codes "snap")) _ _ (λ t. snap_fits verb.1) (λ t.
      by_test Fit (is_word verb.0 (codes "move")) _ _ (λ t. move_fits verb.1) (λ t. tt))))))

  stop_at_fits : (s : Word) (calls : Word × Word) → Fit (stop_at servers s calls)
  unfolding stop_at
  stop_at_fits s calls =
      by_test Fit (not (is_word calls.0 (codes "at"))) _ _ (λ t. tt)
      (λ t. then_ok _ (a_server servers s) _ (λ server e. then_ok _ (a_call calls.1) _ (λ at f. tt)))

  stop_fits : (words : List Word) → Fit (stop_of servers words)
  unfolding stop_of
  stop_fits words =
      then_ok _ (front_word words) _ (λ s e. by_test Fit (length s.1 == 0) _ _ (λ t. then_ok _ (a_server servers s.0) _ (λ server f. tt))
      (λ t. then_ok _ (two_words s.1) _ (λ calls f. stop_at_fits s.0 calls)))

  fault_fits : (words : List Word) → Fit (fault_of servers words)
  unfolding fault_of
  fault_fits words =
      then_ok _ (four_words words) _ (λ parts e. then_ok _ (a_device parts.1) _
      (λ which f. then_ok _ (a_kind parts.2) _ (λ kind g. then_ok _ (a_server servers parts.0) _ (λ server h. then_ok _ (a_call parts.3) _ (λ at k. tt)))))

  boot_fits : (of : ℕ → Request) → ((server : ℕ) → IsFit servers (of server)) → (words : List Word) → Fit (boot_of servers of words)
  unfolding boot_of
  boot_fits of h words = then_ok _ (one_word words) _ (λ s e. then_ok _ (a_server servers s) _ (λ server f. h server))

  operator_fits : (words : List Word) → Fit (operator_request servers words)
  unfolding operator_request
  operator_fits words = then_ok _ (front_word words) _ (λ verb e.
      by_test Fit (is_word verb.0 (codes "stop")) _ _ (λ t. stop_fits verb.1) (λ t.
      by_test Fit (is_word verb.0 (codes "start")) _ _ (λ t. boot_fits request.Start (λ server. tt) verb.1) (λ t.
      by_test Fit (is_word verb.0 (codes "blank")) _ _ (λ t. boot_fits request.Blank (λ server. tt) verb.1) (λ t.
      by_test Fit (is_word verb.0 (codes "fault")) _ _ (λ t. fault_fits verb.1) (λ t.
      by_test Fit (is_word verb.0 (codes "settle")) _ _ (λ t. then_ok _ (no_word verb.1) _ (λ none f. tt)) (λ t. tt))))))

  asks_fits : (first : Word) (words : List Word) (client : ℕ) (asked : Request) → Asks servers first words client asked → IsFit servers asked
  asks_fits first words client asked (inl op) = ok_is (IsFit servers) (operator_request servers words) asked (operator_fits words) op.2
  asks_fits first words client asked (inr of) = ok_is (IsFit servers) (client_request servers words) asked (client_fits words) of.2

-- ### Lines after the servers line

-- the same servers and lines
record IsLike (s t : Script) : Type 0 where
  servers : t.servers ≡ s.servers
  lines : t.lines ≡ s.lines

net_like : (s : Script) (words : List Word) → EachOk (IsLike s) (net_line s words)
unfolding net_line
net_like s words = then_ok _ (two_words words) _ (λ parts e.
    by_test (EachOk (IsLike s)) (not (length s.lines == 0)) _ _ (λ t. tt) (λ t.
    by_test (EachOk (IsLike s)) (is_word parts.0 (codes "lose") && not (is_some s.lose)) _ _
    (λ t. then_ok _ (in_limits 2 1000000 parts.1) _ (λ k f. record { servers = refl; lines = refl })) (λ t.
    by_test (EachOk (IsLike s)) (is_word parts.0 (codes "twice") && not (is_some s.twice)) _ _
    (λ t. then_ok _ (in_limits 2 1000000 parts.1) _ (λ k f. record { servers = refl; lines = refl })) (λ t. tt))))

-- a number within its limits
within : (least most : ℕ) (word : Word) → EachOk (λ n. n ≤ most) (in_limits least most word)
unfolding in_limits
within least most word = then_ok _ (or_else (number_of word) BadNumber) _ (λ n e.
    by_test (EachOk (λ n. n ≤ most)) (nat_le least n && nat_le n most) _ _ (λ t. high n (both_true (nat_le least n) (nat_le n most) t).1) (λ t. tt))
  where
    high : (n : ℕ) → nat_le n most ≡ true → n ≤ most
    high n e = grind (arith, nat_tests)

at_most : (least most : ℕ) (word : Word) (n : ℕ) → in_limits least most word ≡ Ok n → n ≤ most
at_most least most word n e = ok_is (λ n. n ≤ most) (in_limits least most word) n (within least most word) e

-- a script that begins has no line yet, and few servers
record IsBegun (s : Script) : Type 0 where
  empty : s.lines ≡ []
  few : s.servers ≤ 256

begun_empty : (words : List Word) → EachOk IsBegun (first_line words)
unfolding first_line servers_line
begun_empty [] = tt
begun_empty (first ∷ words) = by_test (EachOk IsBegun) (is_word first (codes "servers")) _ _
    (λ t. then_ok _ (three_words words) _ (λ parts e. by_test (EachOk IsBegun) (not (is_word parts.1 (codes "slots"))) _ _ (λ t. tt)
    (λ t. then_ok _ (in_limits 2 8 parts.0) _ (λ servers f. then_ok _ (in_limits 1 1024 parts.2) _
    (λ slots g. record { empty = refl; few = let le = at_most 2 8 parts.0 servers f in omega arith }))))) (λ t. tt)

-- ### Numbers

-- each line's number is above this one
abbrev AreAbove : ℕ → List TextLine → Type 0
AreAbove n lines = (told : TextLine) → In told lines → n < told.number

abbrev AreRising : List TextLine → Type 0
AreRising [] = Unit {0}
AreRising (told ∷ more) = AreAbove told.number more × AreRising more

lines_above : (number reach : ℕ) (parts : List (List ℕ)) → AreAbove number (lines_after number reach parts)
unfolding lines_after In
lines_above number reach [] told h = absurd h
lines_above number reach (piece ∷ more) told (inl e) = let f : told.number ≡ number + 1 = ap (λ (t : TextLine). t.number) e in omega arith
lines_above number reach (piece ∷ more) told (inr h) = let later = lines_above (number + 1) (reach + length piece) more told h in omega arith

lines_rise : (number reach : ℕ) (parts : List (List ℕ)) → AreRising (lines_after number reach parts)
unfolding lines_after
lines_rise number reach [] = tt
lines_rise number reach (piece ∷ more) = (lines_above (number + 1) (reach + length piece) more, lines_rise (number + 1) (reach + length piece) more)

after_rises : (prefix : List TextLine) (told : TextLine) (following : List TextLine) → AreRising (prefix ++ told ∷ following) → AreRising following
after_rises [] told following h = h.1
after_rises (other ∷ prefix) told following h = after_rises prefix told following h.1

-- ### The script so far

record IsSoFar (s : Script) (above : ℕ) : Type 0 where
  numbered : (one other : Line) → In one s.lines → In other s.lines → one.number ≡ other.number → one ≡ other
  below : (line : Line) → In line s.lines → line.number ≤ above
  few : s.servers ≤ 256
  fit : (line : Line) → In line s.lines → IsFit s.servers line.request

like_so_far : (s t : Script) (above : ℕ) → IsLike s t → IsSoFar s above → IsSoFar t above
like_so_far s t above like h = record {
  numbered = λ one other i j e. h.numbered one other (subst (In one) like.lines i) (subst (In other) like.lines j) e;
  below = λ line i. h.below line (subst (In line) like.lines i);
  few = let e = like.servers in let few = h.few in omega arith;
  fit = λ line i. subst (λ n. IsFit n line.request) (sym like.servers) (h.fit line (subst (In line) like.lines i));
}

higher : (s : Script) (low high : ℕ) → low ≤ high → IsSoFar s low → IsSoFar s high
higher s low high le h =
    record { numbered = h.numbered; below = λ line i. let b = h.below line i in omega arith; few = h.few; fit = h.fit }

in_more : (one line : Line) (lines : List Line) → In one (lines ++ line ∷ []) → In one lines ⊎ (one ≡ line)
unfolding In
in_more one line lines i = elim (in-append one lines (line ∷ []) i) [ inl old ↦ inl old | inr (inl is) ↦ inr is | inr (inr none) ↦ absurd none ]

more_so_far : (s t : Script) (above : ℕ) (line : Line) → above < line.number → t.servers ≡ s.servers → t.lines ≡ s.lines ++ line ∷ []
    → IsFit s.servers line.request → IsSoFar s above → IsSoFar t line.number
more_so_far s t above line lt servers lines fit h = record {
  numbered = λ one other i j e. elim (in_more one line s.lines (subst (In one) lines i)) [
    | inl old ↦ elim (in_more other line s.lines (subst (In other) lines j)) [
      | inl old' ↦ h.numbered one other old old' e
      | inr is ↦ absurd (apart one other old (ap (λ (l : Line). l.number) is) e)
    ]
    | inr is ↦ elim (in_more other line s.lines (subst (In other) lines j)) [
      | inl old ↦ absurd (apart other one old (ap (λ (l : Line). l.number) is) (sym e))
      | inr is' ↦ is ∙ sym is'
    ]
  ];
  below = λ other i. elim (in_more other line s.lines (subst (In other) lines i)) [
    | inl old ↦ let b = h.below other old in omega arith
    | inr is ↦ let e : other.number ≡ line.number = ap (λ (l : Line). l.number) is in omega arith
  ];
  few = let e = servers in let few = h.few in omega arith;
  fit = λ other i. subst (λ n. IsFit n other.request) (sym servers) (elim (in_more other line s.lines (subst (In other) lines i)) [
    | inl old ↦ h.fit other old
    | inr is ↦ subst (λ (l : Line). IsFit s.servers l.request) (sym is) fit
  ]);
}
  where
    apart : (one other : Line) → In one s.lines → other.number ≡ line.number → one.number ≡ other.number → ⊥
    apart one other i e f = let b = h.below one i in omega arith

does_so_far : (s : Script) (told : TextLine) (t : Script) (above : ℕ) → Does s told t → above < told.number → IsSoFar s above → IsSoFar t told.number
does_so_far s told t above (skipped is same) lt h = subst (λ x. IsSoFar x told.number) (sym same) (higher s above told.number (omega arith) h)
does_so_far s told t above (nets first words spelled is took) lt h =
    like_so_far s t told.number (ok_is (IsLike s) (net_line s words) t (net_like s words) took) (higher s above told.number (omega arith) h)
does_so_far s told t above (waits first spelled is same) lt h =
    let up = higher s above told.number (omega arith) h in
    subst (λ x. IsSoFar x told.number) (sym same) (record { numbered = up.numbered; below = up.below; few = up.few; fit = up.fit })
does_so_far s told t above (asks first words client asked spelled asks_for few many same) lt h =
    more_so_far s t above (line_at s told.number client asked) lt (ap (λ (x : Script). x.servers) same) (ap (λ (x : Script). x.lines) same)
    (asks_fits s.servers first words client asked asks_for) h

follows_so_far : (lines : List TextLine) (s t : Script) (above : ℕ) → Follows s lines t → AreAbove above lines → AreRising lines → IsSoFar s above → IsSound t
unfolding In
follows_so_far [] s t above follows high rises h =
    subst IsSound (sym follows) (record {
      numbered = h.numbered;
      spread = λ line name tuple i e. subst (IsFit s.servers) e (h.fit line i);
      moved = λ line name tuple i e. subst (IsFit s.servers) e (h.fit line i);
      told_apart = h.few;
    })
follows_so_far (told ∷ more) s t above follows high rises h =
    follows_so_far more follows.0 t told.number follows.2 rises.0 rises.1 (does_so_far s told follows.0 above follows.1 (high told (inl refl)) h)

above_zero : (lines : List TextLine) → AreAbove 0 lines → (prefix : List TextLine) (told : TextLine) (following : List TextLine)
    → lines ≡ prefix ++ told ∷ following → AreAbove 0 following
unfolding In
above_zero lines h prefix told following e other i = h other (subst (In other) (sym e) (later prefix))
  where
    later : (prefix : List TextLine) → In other (prefix ++ told ∷ following)
    later [] = inr i
    later (x ∷ xs) = inr (later xs)

-- a script that a text spells is sound
pub read_sound : (text : List ℕ) (script : Script) → script_of text ≡ Ok script → IsSound script
unfolding In
read_sound text script e =
    let a = is_accepted text script e in
    let begun = ok_is IsBegun (first_line (words_of a.servers.text)) a.begun (begun_empty (words_of a.servers.text)) a.begins in
    let empty = begun.empty in
    follows_so_far a.following a.begun script 0 a.follows
    (above_zero (text_lines text) (lines_above 0 0 (pieces text)) a.front a.servers a.following a.lies)
    (after_rises a.front a.servers a.following (subst AreRising a.lies (lines_rise 0 0 (pieces text))))
    (record {
      numbered = λ one other i j e. absurd (subst (In one) empty i);
      below = λ line i. absurd (subst (In line) empty i);
      few = begun.few;
      fit = λ line i. absurd (subst (In line) empty i);
    })
