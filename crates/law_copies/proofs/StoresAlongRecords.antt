-- Along the records of a history: a server's store does not begin to wait while the server runs on, and what waits does so until the
-- server applies a Join of its own.
use Rattle.law_copies.proofs.Imports.{[], ◌++◌, ◌<◌, ◌∙◌, ◌∷◌, ◌≡◌, ◌≤◌, ◌⊎◌, AreSteps, At, Command, In, IsSound, Join, List, OneMore, Record, Run, Script}
use Rattle.law_copies.proofs.Imports.{Server, WasReturning, ap, arith, below_itself, blanked, by_bool, chosen_log, chosen_state, false, grown_in, happened_in}
use Rattle.law_copies.proofs.Imports.{in_former, inl, inr, length, length-append, longer, may_wake, refl, run_of, setting_in, setting_of, since, split_last}
use Rattle.law_copies.proofs.Imports.{subst, sym, true, true_false, ℕ}
use Rattle.law_jobs.proofs.Runs.{after}
use Rattle.law_copies.proofs.EmptyJoins.{stands_in}
use Rattle.law_copies.proofs.StoreMoves.{IsBlanked, IsMoved, Moves, Rests, Works, Enters, Settles, Raises, happened}

-- what stands before a record of a history stands before its last one
pub before_last : (prefix : List Record) (last : Record) (before : List Record) (own : Record) (later : List Record)
    → prefix ++ last ∷ [] ≡ before ++ own ∷ later → (rest : List Record) × (prefix ≡ before ++ rest)
before_last prefix last before own later e = elim (split_last prefix last before (own ∷ later) e) [
  | inl whole ↦ absurd (omega (arith, ap length e, ap length whole, length-append before (own ∷ later)))
  | inr part ↦ part
]

pub step_moves : (it : OneMore) (n : ℕ) → IsMoved (setting_in it.prior) (after it.prior) (after (longer it)) n
    ⊎ IsBlanked (setting_in it.prior) (after it.prior) (after (longer it)) n
step_moves it n =
    let state = chosen_state (setting_in it.prior) (after (longer it)) in
    happened (setting_in it.prior) state (after it.prior) (may_wake it.prior.script it.prior.records it.prior.sound it.prior.legal) (after (longer it))
    (happened_in it state (below_itself state)) n

-- an incarnation is never an earlier one
pub later_inc : (servers : ℕ) (chosen : List Command) (n : ℕ) (server to : Server) → Moves servers chosen n server to → server.life.inc ≤ to.life.inc
later_inc servers chosen n server to (Rests _ same inc runs) = omega arith
later_inc servers chosen n server to (Works _ fresh inc runs seat) = omega arith
later_inc servers chosen n server to (Enters _ entry other same inc runs applied stands) = omega arith
later_inc servers chosen n server to (Settles _ now inc runs stands) = omega arith
later_inc servers chosen n server to (Raises _ same inc rests out) = omega arith

-- ### A store that waits for nobody

-- as long as the server runs as this incarnation
abbrev IsFilledAs : ℕ → Server → Type 0
IsFilledAs inc server = (inc < server.life.inc) ⊎ ((inc ≡ server.life.inc) × ((server.life.running ≡ false) ⊎ (server.own.store.fresh ≡ false)))

filled_moves : (servers : ℕ) (chosen : List Command) (n inc : ℕ) (server to : Server) → Moves servers chosen n server to → IsFilledAs inc server
    → IsFilledAs inc to
filled_moves servers chosen n inc server to moves (inl lt) = let le = later_inc servers chosen n server to moves in inl (omega arith)
filled_moves servers chosen n inc server to (Rests _ same inc_is runs) (inr h) = inr (
  h.0 ∙ sym inc_is,
  elim h.1 [
    | inl rests ↦ inl (by_bool to.life.running (λ up. true_false (runs up).0 rests) (λ no. no))
    | inr filled ↦ inr (same.fresh ∙ filled)
  ],
)
filled_moves servers chosen n inc server to (Works _ fresh inc_is runs seat) (inr h) =
    inr (h.0 ∙ sym inc_is, elim h.1 [ inl rests ↦ true_false runs rests | inr filled ↦ inr (fresh ∙ filled) ])
filled_moves servers chosen n inc server to (Enters _ entry other same inc_is runs applied stands) (inr h) =
    inr (h.0 ∙ sym inc_is, elim h.1 [ inl rests ↦ true_false runs rests | inr filled ↦ inr (same.fresh ∙ filled) ])
filled_moves servers chosen n inc server to (Settles _ now inc_is runs stands) (inr h) = inr (h.0 ∙ sym inc_is, inr now)
filled_moves servers chosen n inc server to (Raises _ same inc_is rests out) (inr h) = let e = h.0 in inl (omega arith)

filled_blanked : (inc : ℕ) (server : Server) → server.life.running ≡ false → IsFilledAs inc server → IsFilledAs inc (blanked server)
filled_blanked inc server rests (inl lt) = inl lt
filled_blanked inc server rests (inr h) = inr (h.0, inl rests)

-- a server that wanted a Join with its blocks, and runs on, has a store that waits for nobody
pub stays_filled : (script : Script) → IsSound script → (records : List Record) → AreSteps script records → (n inc : ℕ)
    → WasReturning (setting_of script) records n inc false → ((At script records).servers n).life.running ≡ true
    → ((At script records).servers n).life.inc ≡ inc → ((At script records).servers n).own.store.fresh ≡ false
stays_filled script sound records legal n inc was runs lives =
    by (since (λ run. IsFilledAs inc ((after run).servers n)) step (run_of script sound records legal) was.before (was.own ∷ was.later) was.is
    (λ part. inr (sym was.lives, inr was.waits)))
  where
    by : IsFilledAs inc ((At script records).servers n) → ((At script records).servers n).own.store.fresh ≡ false
    by (inl lt) = absurd (omega arith)
    by (inr h) = elim h.1 [ inl rests ↦ true_false runs rests | inr filled ↦ filled ]

    step : (it : OneMore) → IsFilledAs inc ((after it.prior).servers n) → IsFilledAs inc ((after (longer it)).servers n)
    step it filled = elim (step_moves it n) [
      | inl moved ↦ filled_moves it.prior.script.servers (chosen_log (setting_in it.prior) (after it.prior)) n inc ((after it.prior).servers n)
          ((after (longer it)).servers n) moved.moves filled
      | inr blank ↦ subst (IsFilledAs inc) (sym blank.now) (filled_blanked inc ((after it.prior).servers n) blank.rests filled)
    ]

-- ### A store that waits

-- it does so still, or the server has applied its Join
pub waits_moves : (servers : ℕ) (chosen : List Command) (n : ℕ) (server to : Server) → Moves servers chosen n server to → server.own.store.fresh ≡ true
    → (to.own.store.fresh ≡ true) ⊎ In (Join n server.life.inc true) chosen
waits_moves servers chosen n server to (Rests _ same inc runs) waits = inl (same.fresh ∙ waits)
waits_moves servers chosen n server to (Works _ fresh inc runs seat) waits = inl (fresh ∙ waits)
waits_moves servers chosen n server to (Enters _ entry other same inc runs applied stands) waits = inl (same.fresh ∙ waits)
waits_moves servers chosen n server to (Settles _ now inc runs stands) waits = inr (stands_in server.log.applied chosen (Join n server.life.inc true) stands)
waits_moves servers chosen n server to (Raises _ same inc rests out) waits = inl (same.fresh ∙ waits)

-- since this incarnation the store waits, or a Join with an empty store is chosen
abbrev pub WaitsSince : (n inc : ℕ) → Run → Type 0
WaitsSince n inc run = (inc ≤ ((after run).servers n).life.inc)
    × ((((after run).servers n).own.store.fresh ≡ true)
    ⊎ ((later : ℕ) × (inc ≤ later) × In (Join n later true) (chosen_log (setting_in run) (after run))))

module _ (n inc : ℕ) where
  waits_step : (it : OneMore) → WaitsSince n inc it.prior → WaitsSince n inc (longer it)
  waits_step it h = elim (step_moves it n) [
    | inl moved ↦
        let more = later_inc it.prior.script.servers _ n _ _ moved.moves in
        let le = h.0 in (
          omega arith,
          elim h.1 [
            | inl waits ↦ elim (waits_moves it.prior.script.servers _ n _ _ moved.moves waits) [
              | inl still ↦ inl still
              | inr joined ↦ inr (((after it.prior).servers n).life.inc, h.0, on _ joined)
            ]
            | inr joined ↦ inr (joined.0, joined.1, on _ joined.2)
          ],
        )
    | inr blank ↦ subst (λ (server : Server). (inc ≤ server.life.inc) × ((server.own.store.fresh ≡ true) ⊎ Joined)) (sym blank.now) (h.0, inl refl)
  ]
    where
      Joined : Type 0
      Joined = (later : ℕ) × (inc ≤ later) × In (Join n later true) (chosen_log (setting_in it.prior) (after (longer it)))

      on : (c : Command) → In c (chosen_log (setting_in it.prior) (after it.prior)) → In c (chosen_log (setting_in it.prior) (after (longer it)))
      on c i = let grown = grown_in it in subst (In c) (sym grown.is) (in_former c (chosen_log (setting_in it.prior) (after it.prior)) grown.later i)

  pub waits_since : (run : Run) (before rest : List Record) → run.records ≡ before ++ rest → ((At run.script before).servers n).life.inc ≡ inc
      → ((At run.script before).servers n).own.store.fresh ≡ true → WaitsSince n inc run
  waits_since run before rest is lives waits = since (WaitsSince n inc) waits_step run before rest is (λ part. (omega arith, inl waits))
