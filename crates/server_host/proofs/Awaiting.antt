-- The lines without an answer are those that wait.
use Rattle.std.proofs.Common.{◌≡◌, ◌≢◌, ℕ, zero, suc, ◌+◌, ◌≤◌, ◌<◌, length, take, get_or, List, [], ◌∷◌, ◌++◌, ◌⊎◌, inl, inr}
use Rattle.std.proofs.Common.{Option, Some, None, refl, sym, ap, ◌∙◌, subst, arith}
use Rattle.std.proofs.lemmas.Bool.{cases_eq, cases_lt}
use Rattle.std.proofs.lemmas.List.{take_more}
use Rattle.std.specs.Ordering.{nat_cmp}
use Rattle.petal_table.specs.Table.{Table, at, put, without}
use Rattle.petal_table.proofs.Rows.{at_same, at_apart, gone_same, gone_apart, at-empty}
use Rattle.script_lines.specs.declared.answer.Answer.{Answer}
use Rattle.script_lines.specs.declared.request.Line.{Line}
use Rattle.spec_rules.specs.Lists.{In}
use Rattle.spec_rules.specs.World.{IsAnswered}
use Rattle.spec_rules.proofs.ListLemmas.{in-append, in_former, in_later}
use Rattle.server_host.specs.Waiting.{Await, IsLine, AreRising, AreAfter}
use Rattle.server_host.specs.Playable.{AreNumbered, AreOrdered}

never : {P : Type 0} (o : Option ℕ) (x : ℕ) → o ≡ None → o ≡ Some x → P
never o x none some = absurd (let h : ⊥ = cc in h)

no_answers : (number : ℕ) → IsAnswered [] number → ⊥
unfolding In
no_answers number given = given.is

-- without lines nothing waits
pub none_wait : Await [] [] []
unfolding In
none_wait = record {
  each = λ line h. absurd h;
  only = λ number phase e. never _ phase (at-empty nat_cmp number) e;
}

same_phase : (one other : Line) → one ≡ other → one.phase ≡ other.phase
same_phase one other e = ap (λ (l : Line). l.phase) e

phase_of_some : (o : Option ℕ) (p q : ℕ) → o ≡ Some p → o ≡ Some q → p ≡ q
phase_of_some o p q a b = cc

module _ (lines : List Line) (line : Line) (rows : Table ℕ ℕ) (numbered : AreNumbered (lines ++ line ∷ [])) (h : Await lines [] rows) where
  last : In line (lines ++ line ∷ [])
  unfolding In
  last = in_later line lines (line ∷ []) (inl refl)

  waits_too : (other : Line) → In other (lines ++ line ∷ []) → at nat_cmp (put nat_cmp rows line.number line.phase) other.number ≡ Some other.phase
  unfolding In
  waits_too other m = elim (cases_eq other.number line.number) [
    | inl e ↦
        let same : other ≡ line = numbered other line m last e in
        ap (λ n. at nat_cmp (put nat_cmp rows line.number line.phase) n) e ∙ at_same rows line.number line.phase
        ∙ ap (λ p. Some p) (sym (same_phase other line same))
    | inr ne ↦ at_apart rows line.number line.phase other.number ne ∙ elim (in-append other lines (line ∷ []) m) [
      | inl a ↦ elim (h.each other a) [ inl given ↦ absurd (no_answers other.number given) | inr there ↦ there ]
      | inr b ↦ elim b [ inl e ↦ absurd (ne (ap (λ (l : Line). l.number) e)) | inr none ↦ absurd none ]
    ]
  ]

  only_they : (number phase : ℕ) → at nat_cmp (put nat_cmp rows line.number line.phase) number ≡ Some phase → IsLine (lines ++ line ∷ []) number phase
  only_they number phase e = elim (cases_eq number line.number) [
    | inl same ↦ record {
      line = line;
      there = last;
      number_is = sym same;
      phase_is =
          phase_of_some _ line.phase phase (ap (λ n. at nat_cmp (put nat_cmp rows line.number line.phase) n) same ∙ at_same rows line.number line.phase) e;
    }
    | inr ne ↦
        let own = (h.only number phase (sym (at_apart rows line.number line.phase number ne) ∙ e)).1 in
        record { line = own.line; there = in_former own.line lines (line ∷ []) own.there; number_is = own.number_is; phase_is = own.phase_is }
  ]

  -- one line more waits
  pub one_waits : Await (lines ++ line ∷ []) [] (put nat_cmp rows line.number line.phase)
  one_waits = record {
    each = λ other m. inr (waits_too other m);
    only = λ number phase e. (no_answers number, only_they number phase e);
  }

-- ### An answer

earlier : (number other : ℕ) (answer : Answer) (given : List (ℕ × Answer)) → IsAnswered given other → IsAnswered ((number, answer) ∷ given) other
unfolding In
earlier number other answer given is = record { answer = is.answer; is = inr is.is }

just_now : (number other : ℕ) (answer : Answer) (given : List (ℕ × Answer)) → other ≡ number → IsAnswered ((number, answer) ∷ given) other
unfolding In
just_now number other answer given e = record { answer = answer; is = inl (ap (λ n. (n, answer)) e) }

not_now : (number other : ℕ) (answer : Answer) (given : List (ℕ × Answer)) → other ≢ number → IsAnswered ((number, answer) ∷ given) other
    → IsAnswered given other
unfolding In
not_now number other answer given ne is = elim is.is [
  | inl e ↦ absurd (ne (ap (λ (p : ℕ × Answer). p.0) e))
  | inr m ↦ record { answer = is.answer; is = m }
]

module _ (lines : List Line) (given : List (ℕ × Answer)) (rows : Table ℕ ℕ) (h : Await lines given rows) where
  still : (number : ℕ) (answer : Answer) (line : Line) → line.number ≢ number → IsAnswered given line.number ⊎ (at nat_cmp rows line.number ≡ Some line.phase)
      → IsAnswered ((number, answer) ∷ given) line.number ⊎ (at nat_cmp (without nat_cmp rows number) line.number ≡ Some line.phase)
  still number answer line ne (inl is) = inl (earlier number line.number answer given is)
  still number answer line ne (inr there) = inr (gone_apart rows number line.number ne ∙ there)

  -- a line with an answer waits no longer
  pub one_answered : (number : ℕ) (answer : Answer) → Await lines ((number, answer) ∷ given) (without nat_cmp rows number)
  one_answered number answer = record {
    each = λ line m. elim (cases_eq line.number number) [
      | inl e ↦ inl (just_now number line.number answer given e)
      | inr ne ↦ still number answer line ne (h.each line m)
    ];
    only = λ other phase e. elim (cases_eq other number) [
      | inl same ↦ never _ phase (ap (λ n. at nat_cmp (without nat_cmp rows number) n) same ∙ gone_same rows number) e
      | inr ne ↦
          let own = h.only other phase (sym (gone_apart rows number other ne) ∙ e) in
          (λ is. own.0 (not_now number other answer given ne is), own.1)
    ];
  }

  -- phases rise with the numbers of the lines that wait
  pub waiting_rise : AreOrdered lines → AreRising rows
  waiting_rise ordered n m p q e f le =
      let one = (h.only n p e).1 in
      let other = (h.only m q f).1 in
      let numbers : one.line.number ≤ other.line.number = omega (arith, one.number_is, other.number_is) in
      let rise = ordered one.line other.line one.there other.there numbers in
      omega (arith, rise, one.phase_is, other.phase_is)

  -- no line of an earlier phase waits exactly where each of them has its answer
  pub before_from_after : (phase : ℕ) → AreAfter rows phase → (other : Line) → In other lines → other.phase < phase → IsAnswered given other.number
  before_from_after phase following other m less = elim (h.each other m) [
    | inl is ↦ is
    | inr there ↦ let le = following other.number other.phase there in absurd (omega (arith, le))
  ]

  pub after_from_before : (phase : ℕ) → ((other : Line) → In other lines → other.phase < phase → IsAnswered given other.number) → AreAfter rows phase
  after_from_before phase before n p e = elim (cases_lt p phase) [
    | inr le ↦ le
    | inl less ↦
        let own = h.only n p e in
        let line = own.1 in
        let early : line.line.phase < phase = omega (arith, line.phase_is) in
        absurd (own.0 (subst (λ k. IsAnswered given k) line.number_is (before line.line line.there early)))
  ]

-- ### The lines of a run that begins

in_take : {A : Type 0} (x : A) (k : ℕ) (xs : List A) → In x (take k xs) → In x xs
unfolding In
in_take x zero xs h = absurd h
in_take x (suc k) [] h = absurd h
in_take x (suc k) (y ∷ ys) (inl e) = inl e
in_take x (suc k) (y ∷ ys) (inr h) = inr (in_take x k ys h)

pub more_wait : (lines : List Line) (i : ℕ) (line : Line) (rows added : Table ℕ ℕ) → AreNumbered lines → i < length lines → line ≡ get_or lines i line
    → Await (take i lines) [] rows → added ≡ put nat_cmp rows line.number line.phase → Await (take (i + 1) lines) [] added
more_wait lines i line rows added numbered within is h put_so =
    let more : take (i + 1) lines ≡ take i lines ++ line ∷ [] = take_more lines i line within ∙ ap (λ x. take i lines ++ x ∷ []) (sym is) in
    let back = λ (x : Line) (m : In x (take i lines ++ line ∷ [])). in_take x (i + 1) lines (subst (λ (ls : List Line). In x ls) (sym more) m) in
    let own : AreNumbered (take i lines ++ line ∷ []) = λ one other m n same. numbered one other (back one m) (back other n) same in
    subst (λ (ls : List Line). Await ls [] added) (sym more)
    (subst (λ (t : Table ℕ ℕ). Await (take i lines ++ line ∷ []) [] t) (sym put_so) (one_waits (take i lines) line rows own h))
