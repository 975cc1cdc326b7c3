-- What one entry makes of what clients were told of their last commands: its command tells one client, where it is new, and each fence that
-- passes tells the client that waits for it.
use Rattle.law_answers.proofs.Imports.{if◌then◌else◌, ◌<◌, ◌==◌, ◌∙◌, ◌≡◌, ◌≢◌, ◌≤◌, ◌⊎◌, Answer, Bool, Command, Fence, FenceKind, HasProperTuple}
use Rattle.law_answers.proofs.Imports.{IsSettledState, Latest, List, Makes, None, Option, Outcome, Queues, Region, Some, Tells, Unchanged, Verdict, Whole}
use Rattle.law_answers.proofs.Imports.{act, ap, arith, asker, by_test, cases_lt, confirmed, effect, false, frozen, get_set_beside, get_set_here, inl, inr}
use Rattle.law_answers.proofs.Imports.{is_new, latest, length, length-set, nat_lt, nat_tests, none_some, number_itself, one_passed, outcome, passed, refl}
use Rattle.law_answers.proofs.Imports.{same_numbers, same_or_apart, same_some, settled, settled_keeps, slice_get, slice_get_past, subst, suc, sym, told, true}
use Rattle.law_answers.proofs.Imports.{true_false, unwrap_or, verdict_answer, verdict_for, with_disk, with_fence, with_move, ℕ}
use Rattle.spec_state.specs.State.{State}
use Rattle.spec_state.specs.Command.{after}
use Rattle.law_state.proofs.EntryOutcomes.{Begins}
use Rattle.global_tables.specs.declared.disk.Verdict.TheVariants as verdict
use Rattle.script_lines.specs.declared.answer.Answer.TheVariants as answer

-- ### One client is told

told_here : (s : State) (c q : ℕ) (v : Verdict) → c < length s.verdicts → latest (told s c q v) c ≡ Some (record { seq = q; verdict = v })
told_here s c q v low = ap (λ o. unwrap_or o None) (get_set_here s.verdicts c (Some (record { seq = q; verdict = v })) low)

told_beside : (s : State) (d c q : ℕ) (v : Verdict) → c ≢ d → latest (told s d q v) c ≡ latest s c
told_beside s d c q v apart = ap (λ o. unwrap_or o None) (get_set_beside s.verdicts d c (Some (record { seq = q; verdict = v })) apart)

pub none_past : (s : State) (c : ℕ) → length s.verdicts ≤ c → latest s c ≡ None
none_past s c high = ap (λ o. unwrap_or o None) (slice_get_past s.verdicts c high)

many_told : (s : State) (d q : ℕ) (v : Verdict) → length (told s d q v).verdicts ≡ length s.verdicts
many_told s d q v = length-set s.verdicts d (Some (record { seq = q; verdict = v }))

-- what a client was told last stays so, or it is the one that is told
told_is : (s : State) (d c q : ℕ) (v : Verdict)
    → (latest (told s d q v) c ≡ latest s c) ⊎ ((c ≡ d) × (latest (told s d q v) c ≡ Some (record { seq = q; verdict = v })))
told_is s d c q v = elim (same_or_apart c d) [
  | inr apart ↦ inl (told_beside s d c q v apart)
  | inl same ↦ elim (cases_lt c (length s.verdicts)) [
    | inl low ↦ inr (same, subst (λ k. latest (told s k q v) c ≡ Some (record { seq = q; verdict = v })) same (told_here s c q v low))
    | inr high ↦ inl (none_past (told s d q v) c (let e = many_told s d q v in omega arith) ∙ sym (none_past s c high))
  ]
]

-- who is told is answered so
pub told_answers : (s : State) (c seq : ℕ) (v : Verdict) (given : Answer) → c < length s.verdicts → verdict_answer v ≡ Some given
    → verdict_for seq (latest (told s c seq v) c) ≡ Some given
told_answers s c seq v given low is =
    ap (verdict_for seq) (told_here s c seq v low) ∙ (λ i. if number_itself seq i then verdict_answer v else None) ∙ is

told_now : (q seq : ℕ) (v : Verdict) (given : Answer) → verdict_for seq (Some (record { seq = q; verdict = v })) ≡ Some given
    → (q ≡ seq) × (verdict_answer v ≡ Some given)
told_now q seq v given h = by (q == seq) refl h
  where
    by : (b : Bool) → (q == seq) ≡ b → (if b then verdict_answer v else None) ≡ Some given → (q ≡ seq) × (verdict_answer v ≡ Some given)
    by true e is = (same_numbers q seq e, is)
    by false e is = none_some refl is

-- what answers a client then answered it before, or it is the one that is told
pub told_or : (s : State) (d c q seq : ℕ) (v : Verdict) (given : Answer) → verdict_for seq (latest (told s d q v) c) ≡ Some given
    → (verdict_for seq (latest s c) ≡ Some given) ⊎ ((d ≡ c) × (q ≡ seq) × (verdict_answer v ≡ Some given))
told_or s d c q seq v given h = elim (told_is s d c q v) [
  | inl e ↦ inl (sym (ap (verdict_for seq) e) ∙ h)
  | inr now ↦ (let both = told_now q seq v given (sym (ap (verdict_for seq) now.1) ∙ h) in inr (sym now.0, both.0, both.1))
]

not_below : (q r : ℕ) → r ≤ q → nat_lt q r ≡ false
not_below q r le = grind (arith, nat_tests)

-- who is answered was told last of this command
judged_seq : (seq : ℕ) (last : Latest) (given : Answer) → verdict_for seq (Some last) ≡ Some given → last.seq ≡ seq
judged_seq seq last given h = (told_now last.seq seq last.verdict given h).0

-- so its number is old, and the next one is not
pub judged_old : (seq : ℕ) (o : Option Latest) (given : Answer) → verdict_for seq o ≡ Some given → is_new seq o ≡ false
judged_old seq None given h = none_some refl h
judged_old seq (Some last) given h = not_below last.seq seq (let e = judged_seq seq last given h in omega arith)

pub judged_last : {B : Type 0} (seq : ℕ) (o : Option Latest) (given : Answer) → verdict_for seq o ≡ Some given → is_new (suc seq) o ≡ false → B
judged_last seq None given h old = none_some refl h
judged_last seq (Some last) given h old = let e = judged_seq seq last given h in absurd (grind (arith, nat_tests))

later_than : (seq q : ℕ) (o : Option Latest) (given : Answer) → verdict_for seq o ≡ Some given → is_new q o ≡ true → suc seq ≤ q
later_than seq q None given h new = none_some refl h
later_than seq q (Some last) given h new = let e = judged_seq seq last given h in grind (arith, nat_tests)

-- ### A command that is not new stays so

-- what is told is of no earlier command than the last
abbrev pub IsOnward : State → (d q : ℕ) → Type 0
IsOnward s d q = (r : ℕ) → is_new r (latest s d) ≡ false → r ≤ q

pub onward_new : (q : ℕ) (o : Option Latest) → is_new q o ≡ true → (r : ℕ) → is_new r o ≡ false → r ≤ q
onward_new q None new r old = true_false refl old
onward_new q (Some last) new r old = grind (arith, nat_tests)

onward_same : (q : ℕ) (last : Latest) → (last.seq == q) ≡ true → (r : ℕ) → is_new r (Some last) ≡ false → r ≤ q
onward_same q last same r old = grind (arith, nat_tests)

pub told_old : (s : State) (d c q seq : ℕ) (v : Verdict) → IsOnward s d q → is_new seq (latest s c) ≡ false → is_new seq (latest (told s d q v) c) ≡ false
told_old s d c q seq v onward old = elim (told_is s d c q v) [
  | inl e ↦ ap (is_new seq) e ∙ old
  | inr now ↦ ap (is_new seq) now.1 ∙ not_below q seq (onward seq (ap (λ k. is_new seq (latest s k)) (sym now.0) ∙ old))
]

-- what answers a client goes on to, until a later command of its own tells it
pub told_stays : (s : State) (d c q seq : ℕ) (v : Verdict) (given : Answer) → is_new q (latest s d) ≡ true → verdict_for seq (latest s c) ≡ Some given
    → (verdict_for seq (latest (told s d q v) c) ≡ Some given) ⊎ (is_new (suc seq) (latest (told s d q v) c) ≡ false)
told_stays s d c q seq v given new h = elim (told_is s d c q v) [
  | inl e ↦ inl (ap (verdict_for seq) e ∙ h)
  | inr now ↦ inr (ap (is_new (suc seq)) now.1
      ∙ not_below q (suc seq) (later_than seq q (latest s c) given h (ap (λ k. is_new q (latest s k)) now.0 ∙ new)))
]

-- ### What a command comes to

-- a fence for a snapshot that passes tells its client that it was taken, where it is still its last command
passes : (P : State → Type 0) (s : State) (disk : ℕ) (name : List ℕ) (client seq : ℕ)
    → P (record s { view = passed s.view; disks = frozen s.disks disk name })
    → ((last : Latest) → latest s client ≡ Some last → (last.seq == seq) ≡ true
    → P (told (record s { view = passed s.view; disks = frozen s.disks disk name }) client seq verdict.Ok))
    → P (effect (Whole disk name client seq) (record s { view = passed s.view }))
passes P s disk name client seq silent tells = by (latest s client) refl
  where
    by : (o : Option Latest) → latest s client ≡ o → P (confirmed (record s { view = passed s.view; disks = frozen s.disks disk name }) client seq o)
    by None is = silent
    by (Some last) is = by_test P (last.seq == seq) _ _ (λ same. tells last is same) (λ other. silent)

-- what answers a client after a fence has passed answered it before, or the fence is for its snapshot
pub passed_or : (s : State) (fence : Fence) (disk : ℕ) (name : List ℕ) (d c q seq : ℕ) (given : Answer) → fence.kind ≡ Whole disk name d q
    → verdict_for seq (latest (one_passed s fence) c) ≡ Some given
    → (verdict_for seq (latest s c) ≡ Some given) ⊎ ((d ≡ c) × (q ≡ seq) × (verdict_answer verdict.Ok ≡ Some given))
passed_or s fence disk name d c q seq given kind h =
    passes (λ (t : State). verdict_for seq (latest t c) ≡ Some given
    → (verdict_for seq (latest s c) ≡ Some given) ⊎ ((d ≡ c) × (q ≡ seq) × (verdict_answer verdict.Ok ≡ Some given)))
    s disk name d q (λ e. inl e)
    (λ last is same e. told_or (record s { view = passed s.view; disks = frozen s.disks disk name }) d c q seq verdict.Ok given e)
    (subst (λ k. verdict_for seq (latest (effect k (record s { view = passed s.view })) c) ≡ Some given) kind h)

-- what answers a client goes on to, where the fence for its snapshot tells it the same
pub passed_stays : (s : State) (fence : Fence) (disk : ℕ) (name : List ℕ) (d c q seq : ℕ) (given : Answer) → fence.kind ≡ Whole disk name d q
    → (d ≡ c → q ≡ seq → given ≡ answer.Ok) → verdict_for seq (latest s c) ≡ Some given → verdict_for seq (latest (one_passed s fence) c) ≡ Some given
passed_stays s fence disk name d c q seq given kind ok h =
    subst (λ k. verdict_for seq (latest (effect k (record s { view = passed s.view })) c) ≡ Some given) (sym kind)
    (passes (λ (t : State). verdict_for seq (latest t c) ≡ Some given) s disk name d q h
    (λ last is same. elim (told_is t d c q verdict.Ok) [
      | inl e ↦ ap (verdict_for seq) e ∙ h
      | inr now ↦
          let seq_is = judged_seq seq last given (ap (verdict_for seq) (sym (ap (latest s) now.0 ∙ is)) ∙ h) in
          let number : q ≡ seq = sym (same_numbers last.seq q same) ∙ seq_is in
          ap (verdict_for seq) now.1
          ∙ (λ i. if number i == seq then Some answer.Ok else None) ∙ (λ i. if number_itself seq i then Some answer.Ok else None)
          ∙ ap Some (sym (ok (sym now.0) number))
    ]))
  where
    t : State
    t = record s { view = passed s.view; disks = frozen s.disks disk name }

-- ### One entry

-- what no telling changes of what clients were told, where it tells of no earlier command than the last
module _ (P : List (Option Latest) → Type 0)
    (tells : (s : State) (d q : ℕ) (v : Verdict) → IsOnward s d q → P s.verdicts → P (told s d q v).verdicts) where
  kept_act : (servers : ℕ) (s : State) (p : IsSettledState servers s) (e : Command) (t : State) → Outcome servers s p e t → P s.verdicts → P t.verdicts
  kept_act servers s p _ _ (Tells entry client seq v asks new why) h = tells s client seq v (onward_new seq (latest s client) new) h
  kept_act servers s p _ _ (Makes client seq name tuple new fresh proper) h =
      tells (with_disk s name tuple) client seq verdict.Ok (onward_new seq (latest s client) new) h
  kept_act servers s p _ _ (Queues client seq disk name new row found free) h =
      tells (with_fence s (Whole row.id name client seq)) client seq verdict.Waiting (onward_new seq (latest s client) new) h
  kept_act servers s p _ _ (Begins client seq disk tuple new row found still proper) h =
      tells (with_move s tuple row.id) client seq verdict.Ok (onward_new seq (latest s client) new) h
  kept_act servers s p _ _ _ h = h

  kept_passed : (s : State) (kind : FenceKind) → P s.verdicts → P (effect kind (record s { view = passed s.view })).verdicts
  kept_passed s (Whole disk name client seq) h =
      passes (λ (t : State). P t.verdicts) s disk name client seq h
      (λ last is same. tells (record s { view = passed s.view; disks = frozen s.disks disk name }) client seq verdict.Ok
      (λ r old. onward_same seq last same r (sym (ap (is_new r) is) ∙ old)) h)
  kept_passed s (Region disk region) h = h

  kept_settled : (s : State) → P s.verdicts → P (settled s).verdicts
  kept_settled s h = settled_keeps (λ (t : State). P t.verdicts) (λ t fence is now. kept_passed t fence.kind now) s h

  pub kept_after : (servers : ℕ) (s : State) → IsSettledState servers s → (e : Command) → HasProperTuple servers e → P s.verdicts → P (after s e).verdicts
  kept_after servers s p e proper h = kept_settled (act e s) (kept_act servers s p e (act e s) (outcome servers s p e proper) h)

-- as many clients are told
pub many_after : (servers : ℕ) (s : State) → IsSettledState servers s → (e : Command) → HasProperTuple servers e
    → length (after s e).verdicts ≡ length s.verdicts
many_after servers s p e proper =
    kept_after (λ verdicts. length verdicts ≡ length s.verdicts) (λ t d q v onward h. many_told t d q v ∙ h) servers s p e proper refl

pub old_after : (servers : ℕ) (s : State) → IsSettledState servers s → (e : Command) (c seq : ℕ) → HasProperTuple servers e
    → is_new seq (latest s c) ≡ false → is_new seq (latest (after s e) c) ≡ false
old_after servers s p e c seq proper old =
    kept_after (λ verdicts. is_new seq (unwrap_or (slice_get verdicts c) None) ≡ false) (λ t d q v onward h. told_old t d c q seq v onward h)
    servers s p e proper old

pub passed_old : (s : State) (fence : Fence) (c seq : ℕ) → is_new seq (latest s c) ≡ false → is_new seq (latest (one_passed s fence) c) ≡ false
passed_old s fence c seq old =
    kept_passed (λ verdicts. is_new seq (unwrap_or (slice_get verdicts c) None) ≡ false) (λ t d q v onward h. told_old t d c q seq v onward h)
    s fence.kind old

-- what is told a client of this number is then old
pub old_now : (s : State) (d c q seq : ℕ) (v : Verdict) → d ≡ c → q ≡ seq → c < length s.verdicts → is_new seq (latest (told s d q v) c) ≡ false
old_now s d c q seq v same number low =
    ap (is_new seq) (subst (λ k. latest (told s k q v) c ≡ Some (record { seq = q; verdict = v })) (sym same) (told_here s c q v low))
    ∙ not_below q seq (omega arith)

-- the client and number of a request's command
asked_by : (d q c seq : ℕ) → (let pair : Option (ℕ × ℕ) = Some (d, q) in pair) ≡ Some (c, seq) → (d ≡ c) × (q ≡ seq)
asked_by d q c seq e = let same = same_some e in (ap (λ (x : ℕ × ℕ). x.0) same, ap (λ (x : ℕ × ℕ). x.1) same)

-- after a client's own command its number is old
old_act : (servers : ℕ) (s : State) (p : IsSettledState servers s) (e : Command) (t : State) → Outcome servers s p e t → (c seq : ℕ)
    → asker e ≡ Some (c, seq) → c < length s.verdicts → is_new seq (latest t c) ≡ false
old_act servers s p _ _ (Unchanged entry old) c seq own low = old c seq own
old_act servers s p _ _ (Tells entry client q v asks new why) c seq own low =
    let one = asked_by client q c seq (sym asks ∙ own) in old_now s client c q seq v one.0 one.1 low
old_act servers s p _ _ (Makes client q name tuple new fresh proper) c seq own low =
    let one = asked_by client q c seq own in old_now (with_disk s name tuple) client c q seq verdict.Ok one.0 one.1 low
old_act servers s p _ _ (Queues client q disk name new row found free) c seq own low =
    let one = asked_by client q c seq own in old_now (with_fence s (Whole row.id name client q)) client c q seq verdict.Waiting one.0 one.1 low
old_act servers s p _ _ (Begins client q disk tuple new row found still proper) c seq own low =
    let one = asked_by client q c seq own in old_now (with_move s tuple row.id) client c q seq verdict.Ok one.0 one.1 low
old_act servers s p _ _ _ c seq own low = none_some refl own

pub settled_old : (s : State) (c seq : ℕ) → is_new seq (latest s c) ≡ false → is_new seq (latest (settled s) c) ≡ false
settled_old s c seq old =
    kept_settled (λ verdicts. is_new seq (unwrap_or (slice_get verdicts c) None) ≡ false) (λ t d q v onward h. told_old t d c q seq v onward h) s old

pub old_following : (servers : ℕ) (s : State) → IsSettledState servers s → (e : Command) → HasProperTuple servers e → (c seq : ℕ)
    → asker e ≡ Some (c, seq) → c < length s.verdicts → is_new seq (latest (after s e) c) ≡ false
old_following servers s p e proper c seq own low =
    settled_old (act e s) c seq (old_act servers s p e (act e s) (outcome servers s p e proper) c seq own low)
