-- What is frozen of a cell is of no epoch above the one that the cell's disk had as its region's fence took effect, so by each prefix from there on.
use Rattle.law_moves.proofs.Imports.{[], ◌∙◌, ◌∷◌, ◌≡◌, ◌≤◌, AreSteps, AreWithin, At, Cell, Chain, Command, IsKnownBy, IsPrefix, IsSound, List, None, OneMore}
use Rattle.law_moves.proofs.Imports.{Option, Record, Script, Some, Store, Stored, World, all_early, ap, arith, at, at_most_or_above, authority, before_then}
use Rattle.law_moves.proofs.Imports.{blank_joins_in, by_run, chain_in, chosen_log, chosen_state, ends_of, epoch_at, history_grows, history_is_firm, inl, inr}
use Rattle.law_moves.proofs.Imports.{is_some, kept, log_below, nat_cmp, none_some, now_then, option_map, prefix_itself, prefix_plain, prefixes_meet, refl}
use Rattle.law_moves.proofs.Imports.{run_of, same_or_apart, same_some, setting_of, some_or_none, stage_at, state_after, sym, true_false, ℕ}
use Rattle.law_epochs.proofs.EntriesNeverEarly.{kept_by}
use Rattle.law_moves.specs.Fills.{Has}
use Rattle.law_moves.proofs.FrozenIsWhatCounted.{frozen_at, frozen_same, none_early}
use Rattle.law_moves.proofs.AllKeptOfMoves.{AreFrozenEarly}

pub entry_of : (chain : Chain) (epoch : ℕ) → Has chain epoch → (entry : Stored) × (at nat_cmp chain epoch ≡ Some entry)
entry_of chain epoch has = elim (some_or_none (at nat_cmp chain epoch)) [ inl h ↦ h | inr none ↦ true_false has (ap is_some none) ]

abbrev pub AreFrozenThen : Script → World → Type 0
AreFrozenThen script w = (old : Cell) (before : Chain) (epoch : ℕ) (f : List Command) → w.frozen old ≡ Some before → Has before epoch
    → IsPrefix f (chosen_log (setting_of script) w) → 3 ≤ stage_at (state_after script.servers f) old → epoch ≤ epoch_at (state_after script.servers f) old

module _ (it : OneMore) (known : AreFrozenThen it.prior.script (At it.prior.script it.prior.records)) where
  open it use {prior, prior.{script, sound, records as prefix}, own, legal}
  open ends_of it use {setting, w, v, By, records}

  on : IsPrefix (chosen_log setting w) (chosen_log setting v)
  on = history_grows script records sound legal prefix (own ∷ []) refl

  module _ (old : Cell) (before : Chain) (epoch : ℕ) (f : List Command) (frozen : v.frozen old ≡ Some before) (has : Has before epoch)
      (lies : IsPrefix f (chosen_log setting v)) (three : 3 ≤ stage_at (By f) old) where
    onward : IsPrefix (chosen_log setting w) f → epoch_at (By (chosen_log setting w)) old ≤ epoch_at (By f) old
    onward more =
        (log_below script.servers (chosen_log setting w) f
        (prefix_plain script.servers f (chosen_log setting v) (history_is_firm script records sound legal).plain lies) more).epochs old

    -- it was frozen before
    was_so : 3 ≤ stage_at (chosen_state setting w) old → epoch ≤ epoch_at (By f) old
    was_so high =
        let was : w.frozen old ≡ Some before = sym (frozen_same it old (inl high)) ∙ frozen in
        elim (prefixes_meet f (chosen_log setting w) (chosen_log setting v) lies on) [
          | inl back ↦ known old before epoch f was has back three
          | inr more ↦
              let le = known old before epoch (chosen_log setting w) was has (prefix_itself (chosen_log setting w)) high in
              let up = onward more in
              omega arith
        ]

    -- it is frozen now: what a server has is of an epoch that it knew
    of_store : (n : ℕ) (entry : Stored) → at nat_cmp (chain_in (kept setting v n).chains old) epoch ≡ Some entry
        → epoch ≤ epoch_at (By (chosen_log setting w)) old
    of_store n entry is =
        let early = all_early script prefix sound prior.legal in
        let log = (w.servers n).log.applied in
        let all : AreWithin (IsKnownBy script.servers log) (kept setting v n).chains =
        kept_by (λ (s : Store). AreWithin (IsKnownBy script.servers log) s.chains) (blank_joins_in setting (chosen_log setting v) n) (v.before_blank n)
        (v.servers n).own.store (before_then it early n) (now_then it early n) in
        let within = (all old epoch entry is).within in
        let firm = history_is_firm script prefix sound prior.legal in
        let up = (log_below script.servers log (chosen_log setting w) firm.plain (firm.servers n)).epochs old in
        omega arith

    now_so : stage_at (chosen_state setting w) old ≤ 2 → stage_at (chosen_state setting v) old ≡ 3 → epoch ≤ epoch_at (By f) old
    now_so low leaves = by (authority (chosen_state setting v) old) (sym (frozen_at it old low leaves) ∙ frozen)
      where
        by : (o : Option ℕ) → option_map (λ n. chain_in (kept setting v n).chains old) o ≡ Some before → epoch ≤ epoch_at (By f) old
        by None e = none_some refl e
        by (Some n) e =
            let entry = entry_of before epoch has in
            let le = of_store n entry.0 (ap (λ c. at nat_cmp c epoch) (same_some e) ∙ entry.1) in
            elim (prefixes_meet f (chosen_log setting w) (chosen_log setting v) lies on) [
              | inl back ↦
                  let up = (log_below script.servers f (chosen_log setting w) (history_is_firm script prefix sound prior.legal).plain back).stages old in
                  absurd (omega arith)
              | inr more ↦ let up = onward more in omega arith
            ]

    pub then_next : epoch ≤ epoch_at (By f) old
    then_next = elim (at_most_or_above (stage_at (chosen_state setting w) old) 2) [
      | inr high ↦ was_so high
      | inl low ↦ elim (same_or_apart (stage_at (chosen_state setting v) old) 3) [
        | inl leaves ↦ now_so low leaves
        | inr apart ↦ none_some (none_early script prefix sound prior.legal old low) (sym (frozen_same it old (inr apart)) ∙ frozen)
      ]
    ]

pub frozen_then : (script : Script) (records : List Record) → IsSound script → AreSteps script records → AreFrozenThen script (At script records)
frozen_then script records sound legal =
    by_run (λ run. AreFrozenThen run.script (At run.script run.records))
    (λ script sound legal old before epoch f frozen has lies three. none_some refl frozen) then_next (run_of script sound records legal)

pub frozen_early : (script : Script) (records : List Record) → IsSound script → AreSteps script records → AreFrozenEarly (setting_of script) (At script records)
frozen_early script records sound legal cell before epoch frozen has =
    let chosen = chosen_log (setting_of script) (At script records) in
    elim (at_most_or_above (stage_at (state_after script.servers chosen) cell) 2) [
      | inl low ↦ none_some (none_early script records sound legal cell low) frozen
      | inr high ↦ frozen_then script records sound legal cell before epoch chosen frozen has (prefix_itself chosen) high
    ]
