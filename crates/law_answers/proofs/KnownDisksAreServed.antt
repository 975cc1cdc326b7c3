-- In a state in which every server is In as its first incarnation, each read and write of a known disk has a server: none is refused
-- for want of one.
use Rattle.law_answers.proofs.Imports.{if◌then◌else◌, ◌&&◌, ◌+◌, ◌<◌, ◌==◌, ◌||◌, ◌∙◌, ◌∷◌, ◌≡◌, ◌≢◌, ◌≤◌, Bool, Both, ByBoth, ByNone, ByOne, Cell, DiskView}
use Rattle.law_answers.proofs.Imports.{IsBetween, IsLinked, IsSettledState, IsSteady, LinkRow, List, None, Option, Request, Some, State, ap, arith}
use Rattle.law_answers.proofs.Imports.{asked_takes, both_leads, both_reader, by_bool, cell_asked, cell_link, epoch_for, false, filter, find, has_stage, in_up}
use Rattle.law_answers.proofs.Imports.{inl, inr, is_some, is_unread, is_up_as, lead, lead_is, leaving, length, nat_tests, none_some, primary_is_one}
use Rattle.law_answers.proofs.Imports.{range_with_len, read_refusal, read_refusal_at, readable, readers, refl, refusal, same_numbers, servers_of, subst, suc}
use Rattle.law_answers.proofs.Imports.{sym, true, true_false, write_refusal, zero, ℕ}
use Rattle.spec_state.specs.CellState.{live}
use Rattle.script_lines.specs.declared.answer.Answer.TheVariants as answer
use Rattle.script_lines.specs.declared.request.Request.TheVariants as request

-- a list of numbers below, of which one passes, keeps one
some_kept : (test : ℕ → Bool) (a n k : ℕ) → a ≤ k → k < a + n → test k ≡ true → 0 < length (filter test (range_with_len a n))
some_kept test a zero k low high t = absurd (omega arith)
some_kept test a (suc n) k low high t = by (test a) (a == k) refl refl (λ above. some_kept test (a + 1) n k above (omega arith) t)
  where
    by : (b c : Bool) → test a ≡ b → (a == k) ≡ c → (a + 1 ≤ k → 0 < length (filter test (range_with_len (a + 1) n)))
        → 0 < length (if b then a ∷ filter test (range_with_len (a + 1) n) else filter test (range_with_len (a + 1) n))
    by true c e f ih = omega arith
    by false true e f ih = let same : a ≡ k = same_numbers a k f in true_false (subst (λ j. test j ≡ true) (sym same) t) e
    by false false e f ih = ih (grind (arith, nat_tests))

-- ### Refusals

not_empty : (n : ℕ) → 0 < n → (n == 0) ≡ false
not_empty n more = by_bool (n == 0) (λ e. absurd (grind (arith, nat_tests))) (λ no. no)

module _ (servers : ℕ) (s : State) (p : IsSettledState servers s) (steady : IsSteady s) (ins : (n : ℕ) → n < servers_of s → is_up_as s n 1 ≡ true) where
  -- each server of a link is In as its first incarnation
  first_out : {B : Type 0} (row : LinkRow) (cell : Cell) → IsLinked s cell row → (one other : ℕ) → IsBetween row one other → is_up_as s other 1 ≡ false → B
  first_out row cell linked one other (inl pair) out = true_false (ins row.secondary linked.secondary) (ap (λ k. is_up_as s k 1) pair.1 ∙ out)
  first_out row cell linked one other (inr pair) out = true_false (ins row.primary linked.primary) (ap (λ k. is_up_as s k 1) pair.0 ∙ out)

  -- both servers of each link serve it
  in_both : (row : LinkRow) (cell : Cell) → IsLinked s cell row → row.state ≡ Both
  in_both row cell linked = elim linked.served [
    | ByBoth so one other ↦ so
    | ByOne holder other whole so between out ↦ first_out row cell linked holder other between out
    | ByNone one other so between out ↦ first_out row cell linked one other between out
  ]

  write_served : (name : List ℕ) (block : ℕ) (o : Option DiskView) → find s name ≡ o → write_refusal s o block ≢ Some answer.Unavailable
  write_served name block None at e = absurd (cc)
  write_served name block (Some disk) at e =
      let cell = cell_asked s disk block false in
      let served = steady.served name disk block false at in
      let link = served.0 in
      let linked = steady.linked cell link.row link.is in
      let takes = asked_takes servers s p name disk at block in
      let stays : leaving s cell ≡ false =
      by_bool (leaving s cell) (λ leaves. let e = (has_stage s p.rows p.homes cell).leaves leaves in let most = takes.1 in absurd (omega arith)) (λ no. no) in
      let leads : lead s cell ≡ Some link.row.primary =
      lead_is s cell served.1 stays ∙ both_leads s cell link.row link.is (in_both link.row cell linked) in
      let is : write_refusal s (Some disk) block ≡ None = ap (λ o. if is_some o then None else Some answer.Unavailable) leads in
      none_some is e

  first_reads : (cell : Cell) (row : LinkRow) → cell_link s cell ≡ Some row → live s cell ≡ true → readable s row.primary cell ≡ true
  first_reads cell row is lives =
      let linked = steady.linked cell row is in
      both_reader s cell row is lives (in_both row cell linked) row.primary
      ∙ (λ i. in_up s row.primary 1 (ins row.primary linked.primary) i && primary_is_one row row.primary refl i)

  -- the block has a server under either name
  is_read : (name : List ℕ) (disk : DiskView) (block : ℕ) (told : Bool) → find s name ≡ Some disk → is_unread s (cell_asked s disk block told) ≡ false
  is_read name disk block told at =
      let cell = cell_asked s disk block told in
      let served = steady.served name disk block told at in
      let link = served.0 in
      let low = (steady.linked cell link.row link.is).primary in
      not_empty (length (readers s cell))
      (some_kept (λ n. readable s n cell) 0 (servers_of s) link.row.primary (omega arith) (omega arith) (first_reads cell link.row link.is served.1))

  read_served : (name : List ℕ) (snap : Option (List ℕ)) (block : ℕ) (told : Bool) (o : Option DiskView) → find s name ≡ o
      → read_refusal s o snap block told ≢ Some answer.Unavailable
  read_served name snap block told None at e = absurd (cc)
  read_served name snap block told (Some disk) at e = by (epoch_for s disk snap) e
    where
      by : (epoch : Option ℕ) → read_refusal_at s (cell_asked s disk block false) (cell_asked s disk block told) epoch ≢ Some answer.Unavailable
      by None e = absurd (cc)
      by (Some epoch) e =
          none_some (λ i. if is_read name disk block false at i || is_read name disk block told at i then Some answer.Unavailable else None) e

  pub never_unavailable : (told : Bool) (asked : Request) → refusal s told asked ≢ Some answer.Unavailable
  unfolding refusal
  never_unavailable told (request.Write name block pattern) e = write_served name block (find s name) refl e
  never_unavailable told (request.Read name snap block) e = read_served name snap block told (find s name) refl e
  never_unavailable told _ e = absurd (cc)
