-- A line that was called is open until it is answered.
use Rattle.law_merge.proofs.Imports.{[], ◌<◌, ◌∙◌, ◌∷◌, ◌≡◌, ◌⊎◌, Actor, Answer, AreStepsFrom, Asked, Body, Bool, Call, Client, In, IsAnswered, Line, List}
use Rattle.law_merge.proofs.Imports.{MayActor, MayClient, None, Option, Reaction, Record, Setting, Some, StaysOpen, Step, Turned, World, ap, arith, cases_lt}
use Rattle.law_merge.proofs.Imports.{client_state, client_step, client_turns, inl, inr, is_call, lines_of, next_line, none_some, put_apart, put_at, put_same}
use Rattle.law_merge.proofs.Imports.{refl, same_or_apart, same_some, slice_get, start, step, stepped, subst, sym, true, true_false, with_answer, world_after}
use Rattle.law_merge.proofs.Imports.{ℕ}
use Rattle.law_merge.specs.Called.{HasOpen, IsOpenOrAnswered}
use Rattle.petal_msg.specs.declared.letter.Actor.TheVariants as actor
use Rattle.law_steps.specs.DidClient as happens

-- ### Answers

stays_answered : (now : Option (ℕ × Answer)) (given : List (ℕ × Answer)) (number : ℕ) → IsAnswered given number → IsAnswered (with_answer now given) number
unfolding In
stays_answered None given number h = h
stays_answered (Some row) given number h = record { answer = h.answer; is = inr h.is }

answered_now : (row : ℕ × Answer) (given : List (ℕ × Answer)) (number : ℕ) → row.0 ≡ number → IsAnswered (row ∷ given) number
unfolding In
answered_now row given number e = subst (IsAnswered (row ∷ given)) e (record { answer = row.1; is = inl refl })

-- ### One client

module _ (heard : ℕ → Body → Type 0) (servers : ℕ) (lines : List Line) (c : ℕ) (given : List (ℕ × Answer)) where
  -- its line is open then, or answered
  abbrev Kept : Reaction → ℕ → Type 0
  Kept reacted number = HasOpen reacted.client number ⊎ IsAnswered (with_answer reacted.answer given) number

  open_on : (rev : ℕ) (old : Option Asked) (new : Client) (number : ℕ) (asked : Asked) → old ≡ Some asked → asked.line ≡ number
      → (now : Option Asked) → new.asked ≡ now → StaysOpen rev old now → HasOpen new number
  open_on rev None new number asked is line now e stays = none_some refl is
  open_on rev (Some old) new number asked is line None e stays = absurd stays
  open_on rev (Some old) new number asked is line (Some later) e stays =
      record { asked = later; is = e; line_is = stays.line ∙ ap (λ (a : Asked). a.line) (same_some is) ∙ line }

  -- what is open stays so, or is answered
  open_kept : (client : Client) (in_call : Bool) (reacted : Reaction) → Turned heard servers lines c client in_call reacted → (number : ℕ)
      → HasOpen client number → Kept reacted number
  open_kept client _ _ (happens.Goes_on reacted seq stays only) number was =
      inl (open_on _ client.asked reacted.client number was.asked was.is was.line_is reacted.client.asked refl stays)
  open_kept client _ _ (happens.Is_told reacted asked h is reads seq stays only) number was =
      let line : asked.line ≡ number = ap (λ (a : Asked). a.line) (same_some (sym is ∙ was.is)) ∙ was.line_is in
      inl (open_on _ (Some (record asked { saw_missing = true; old_way = true })) reacted.client number
      (record asked { saw_missing = true; old_way = true }) refl line
      reacted.client.asked refl stays)
  open_kept client _ _ (happens.Begins reacted line asked next free seq there called only) number was = none_some free was.is
  open_kept client _ _ (happens.Reads asked bytes h is reads) number was =
      inr (answered_now _ given number (ap (λ (a : Asked). a.line) (same_some (sym is ∙ was.is)) ∙ was.line_is))
  open_kept client _ _ (happens.Ends asked how h is writes) number was =
      inr (answered_now _ given number (ap (λ (a : Asked). a.line) (same_some (sym is ∙ was.is)) ∙ was.line_is))
  open_kept client _ _ (happens.Shown asked rev sight answer h is seen) number was =
      inr (answered_now _ given number (ap (λ (a : Asked). a.line) (same_some (sym is ∙ was.is)) ∙ was.line_is))
  open_kept client _ _ (happens.Judges after asked answer is gone seq why) number was =
      inr (answered_now _ given number (ap (λ (a : Asked). a.line) (same_some (sym is ∙ was.is)) ∙ was.line_is))

  -- what it calls is open
  call_opens : (client : Client) (in_call : Bool) (reacted : Reaction) → in_call ≡ true → Turned heard servers lines c client in_call reacted
      → (line : Line) → next_line lines c client ≡ Some line → HasOpen reacted.client line.number
  call_opens client _ _ e (happens.Begins reacted line asked next free seq there called only) named is = record {
    asked = asked;
    is = there;
    line_is = called.line_is ∙ ap (λ (l : Line). l.number) (same_some (sym next ∙ is));
  }
  call_opens client _ _ e (happens.Goes_on reacted seq stays only) named is = true_false e refl
  call_opens client _ _ e (happens.Is_told reacted asked h was reads seq stays only) named is = true_false e refl
  call_opens client _ _ e (happens.Reads asked bytes h was reads) named is = true_false e refl
  call_opens client _ _ e (happens.Ends asked how h was writes) named is = true_false e refl
  call_opens client _ _ e (happens.Shown asked rev sight answer h was seen) named is = true_false e refl
  call_opens client _ _ e (happens.Judges after asked answer was gone seq why) named is = true_false e refl

  -- a line is called by then that was, or it is called now
  called_then : (client : Client) (in_call : Bool) (reacted : Reaction) → Turned heard servers lines c client in_call reacted → (place : ℕ)
      → place < reacted.client.seq → (place < client.seq) ⊎ ((in_call ≡ true) × (place ≡ client.seq))
  called_then client _ _ (happens.Goes_on reacted seq stays only) place lt = inl (omega arith)
  called_then client _ _ (happens.Is_told reacted asked h is reads seq stays only) place lt = inl (omega arith)
  called_then client _ _ (happens.Begins reacted line asked next free seq there called only) place lt = elim (cases_lt place client.seq) [
    | inl before ↦ inl before
    | inr past ↦ inr (refl, omega arith)
  ]
  called_then client _ _ (happens.Reads asked bytes h is reads) place lt = inl lt
  called_then client _ _ (happens.Ends asked how h is writes) place lt = inl lt
  called_then client _ _ (happens.Shown asked rev sight answer h is seen) place lt = inl lt
  called_then client _ _ (happens.Judges after asked answer is gone seq why) place lt = inl (omega arith)

-- ### Worlds

module _ (setting : Setting) where
  abbrev reacted_in : World → ℕ → Step → Reaction
  reacted_in w c what = client_step what (client_state setting w c) c (w.clients c) (next_line setting.lines c (w.clients c))

  own_kept : (w : World) (c : ℕ) (what : Step) → MayClient what setting w c → (number : ℕ) → IsOpenOrAnswered w c number
      → HasOpen (reacted_in w c what).client number ⊎ IsAnswered (with_answer (reacted_in w c what).answer w.answers) number
  own_kept w c what may number (inl was) =
      open_kept _ setting.servers setting.lines c w.answers (w.clients c) (is_call what) (reacted_in w c what) (client_turns setting w c what may).turned
      number was
  own_kept w c what may number (inr told) = inr (stays_answered (reacted_in w c what).answer w.answers number told)

  step_keeps : (who : Actor) (what : Step) (w : World) (stamp : ℕ) → MayActor who what setting w → (c number : ℕ) → IsOpenOrAnswered w c number
      → IsOpenOrAnswered (step who what setting w stamp).world c number
  unfolding step
  step_keeps (actor.Server n) what w stamp may c number kept = kept
  step_keeps (actor.Client d) what w stamp may c number kept =
      let r = reacted_in w d what in
      elim (same_or_apart c d) [
        | inl same ↦
            subst (λ k. HasOpen (put_at w.clients d r.client k) number ⊎ IsAnswered (with_answer r.answer w.answers) number) (sym same)
            (subst (λ x. HasOpen x number ⊎ IsAnswered (with_answer r.answer w.answers) number) (sym (put_same w.clients d r.client))
            (own_kept w d what may.1 number (subst (λ k. IsOpenOrAnswered w k number) same kept)))
        | inr ne ↦ elim kept [
          | inl was ↦ inl (subst (λ x. HasOpen x number) (sym (put_apart w.clients d r.client c ne)) was)
          | inr told ↦ inr (stays_answered r.answer w.answers number told)
        ]
      ]

  call_keeps : (w : World) (c stamp number : ℕ) → MayClient (Call number) setting w c
      → IsOpenOrAnswered (step (actor.Client c) (Call number) setting w stamp).world c number
  unfolding step
  call_keeps w c stamp number may =
      let r = reacted_in w c (Call number) in
      inl (subst (λ x. HasOpen x number) (sym (put_same w.clients c r.client))
      (subst (HasOpen r.client) may.is
      (call_opens _ setting.servers setting.lines c w.answers (w.clients c) true r refl (client_turns setting w c (Call number) may).turned may.line may.next)))

  answered_step : (who : Actor) (what : Step) (w : World) (stamp number : ℕ) → IsAnswered w.answers number
      → IsAnswered (step who what setting w stamp).world.answers number
  unfolding step
  answered_step (actor.Server n) what w stamp number told = told
  answered_step (actor.Client c) what w stamp number told = stays_answered (reacted_in w c what).answer w.answers number told

  -- ### Histories

  kept_along : (w : World) (records : List Record) → AreStepsFrom setting w records → (c number : ℕ) → IsOpenOrAnswered w c number
      → IsOpenOrAnswered (world_after setting w records) c number
  kept_along w [] steps c number kept = kept
  kept_along w (own ∷ later) steps c number kept =
      kept_along (stepped setting w own).world later steps.1 c number
      (step_keeps own.actor own.step w own.stamp steps.0.may.may c number kept)

  called_now : (who : Actor) (what : Step) (w : World) (stamp : ℕ) → MayActor who what setting w → (c number : ℕ) → who ≡ actor.Client c
      → what ≡ Call number → IsOpenOrAnswered (step who what setting w stamp).world c number
  called_now who what w stamp may c number is called =
      let own : MayActor (actor.Client c) (Call number) setting w =
      subst (λ x. MayActor (actor.Client c) x setting w) called (subst (λ a. MayActor a what setting w) is may) in
      subst (λ a. IsOpenOrAnswered (step a what setting w stamp).world c number) (sym is)
      (subst (λ x. IsOpenOrAnswered (step (actor.Client c) x setting w stamp).world c number) (sym called) (call_keeps w c stamp number own.1))

  pub called_kept : (w : World) (records : List Record) → AreStepsFrom setting w records → (own : Record) → In own records → (c number : ℕ)
      → own.actor ≡ actor.Client c → own.step ≡ Call number → IsOpenOrAnswered (world_after setting w records) c number
  unfolding In
  called_kept w [] steps own there c number who what = absurd there
  called_kept w (first ∷ later) steps own (inl e) c number who what =
      kept_along (stepped setting w first).world later steps.1 c number
      (called_now first.actor first.step w first.stamp steps.0.may.may c number (ap (λ (r : Record). r.actor) (sym e) ∙ who)
      (ap (λ (r : Record). r.step) (sym e) ∙ what))
  called_kept w (first ∷ later) steps own (inr there) c number who what =
      called_kept (stepped setting w first).world later steps.1 own there c number who what

  -- ### By places

  -- each line that the client has called is open or answered
  abbrev AreKept : World → ℕ → Type 0
  AreKept w c =
      (place : ℕ) (line : Line) → slice_get (lines_of setting.lines c) place ≡ Some line → place < (w.clients c).seq → IsOpenOrAnswered w c line.number

  own_places : (w : World) (c stamp : ℕ) (what : Step) → (c < 9) × MayClient what setting w c → AreKept w c → (place : ℕ) (line : Line)
      → slice_get (lines_of setting.lines c) place ≡ Some line → place < (reacted_in w c what).client.seq
      → IsOpenOrAnswered (step (actor.Client c) what setting w stamp).world c line.number
  unfolding step
  own_places w c stamp what may kept place line is lt =
      let r = reacted_in w c what in
      let turned = (client_turns setting w c what may.1).turned in
      elim (called_then _ setting.servers setting.lines c w.answers (w.clients c) (is_call what) r turned place lt) [
        | inl before ↦ step_keeps (actor.Client c) what w stamp may c line.number (kept place line is before)
        | inr now ↦
            inl (subst (λ x. HasOpen x line.number) (sym (put_same w.clients c r.client))
            (call_opens _ setting.servers setting.lines c w.answers (w.clients c) (is_call what) r now.0 turned line
            (subst (λ k. slice_get (lines_of setting.lines c) k ≡ Some line) now.1 is)))
      ]

  one_kept : (who : Actor) (what : Step) (w : World) (stamp : ℕ) → MayActor who what setting w → (c : ℕ) → AreKept w c
      → AreKept (step who what setting w stamp).world c
  unfolding step
  one_kept (actor.Server n) what w stamp may c kept place line is lt = kept place line is lt
  one_kept (actor.Client d) what w stamp may c kept place line is lt = elim (same_or_apart c d) [
    | inl same ↦
        let here : place < (put_at w.clients d (reacted_in w d what).client d).seq =
        subst (λ k. place < (put_at w.clients d (reacted_in w d what).client k).seq) same lt in
        subst (λ k. IsOpenOrAnswered (step (actor.Client d) what setting w stamp).world k line.number) (sym same)
        (own_places w d stamp what may (subst (AreKept w) same kept) place line
        (subst (λ k. slice_get (lines_of setting.lines k) place ≡ Some line) same is)
        (subst (λ (x : Client). place < x.seq) (put_same w.clients d (reacted_in w d what).client) here))
    | inr ne ↦
        step_keeps (actor.Client d) what w stamp may c line.number
        (kept place line is (subst (λ (x : Client). place < x.seq) (put_apart w.clients d (reacted_in w d what).client c ne) lt))
  ]

  places_kept : (w : World) (records : List Record) → AreStepsFrom setting w records → (c : ℕ) → AreKept w c → AreKept (world_after setting w records) c
  places_kept w [] steps c kept = kept
  places_kept w (own ∷ later) steps c kept =
      places_kept (stepped setting w own).world later steps.1 c (one_kept own.actor own.step w own.stamp steps.0.may.may c kept)

  pub place_kept : (records : List Record) → AreStepsFrom setting (start setting) records → (c : ℕ) → AreKept (world_after setting (start setting) records) c
  place_kept records steps c = places_kept (start setting) records steps c (λ place line is lt. absurd (omega arith))

  -- what was answered stays so
  pub answered_along : (w : World) (records : List Record) (number : ℕ) → IsAnswered w.answers number
      → IsAnswered (world_after setting w records).answers number
  answered_along w [] number told = told
  answered_along w (own ∷ later) number told =
      answered_along (stepped setting w own).world later number (answered_step own.actor own.step w own.stamp number told)
