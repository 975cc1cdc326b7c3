-- What is known of each world of a legal history.
use Rattle.law_copies.proofs.Imports.{◌+◌, ◌≡◌, ◌≤◌, AllMayWake, AreSteps, Command, Firm, IsPrefix, IsSound, List, Record, Rests, Script, Setting, World}
use Rattle.law_copies.proofs.Imports.{always_firm, arith, blank_joins_in, by_bool, chosen_caught_was, chosen_log, chosen_state, counted, false}
use Rattle.law_copies.proofs.Imports.{history_is_firm, inl, inr, is_in, may_wake, out_has_stopped, rests_after, server_state, setting_of, start, start_rests}
use Rattle.law_copies.proofs.Imports.{state_after, true, who_is_in_has_begun, world_after, ℕ}
use Rattle.law_copies.specs.WaitingStores.{IsOwn}
use Rattle.law_copies.proofs.StoreHistories.{in_counts, in_own}
use Rattle.law_copies.specs.GoodCopies.{Good}
use Rattle.law_copies.proofs.ServedAtLaterPrefixes.{AllStarted}

-- what is known of a world of a legal history: its log; each stopped server may boot, and is not In as its next incarnation; what rests;
-- the ballots of the Caughts that are chosen; and that the store of a server that is In as itself counts
pub record IsKnown (setting : Setting) (records : List Record) (w : World) : Type 0 where
  pub firm : Firm setting w
  pub wake : AllMayWake setting w
  pub next : (n : ℕ) → is_in (server_state setting w n) n ((w.servers n).life.inc + 1) ≡ false
  pub rests : Rests setting w
  pub started : AllStarted setting records w
  pub real : (n : ℕ) → (w.servers n).life.running ≡ true → is_in (server_state setting w n) n (w.servers n).life.inc ≡ true → IsOwn setting w n
  pub counts : (n : ℕ) (prefix : List Command) → IsPrefix prefix (chosen_log setting w)
      → is_in (state_after setting.servers prefix) n (w.servers n).life.inc ≡ true
      → blank_joins_in setting prefix n ≡ blank_joins_in setting (chosen_log setting w) n

-- a history gets one record more: what is known of the world before it, and what was good of it by the stores that count
pub record OneMore : Type 0 where
  pub setting : Setting
  pub records : List Record
  pub w : World
  pub known : IsKnown setting records w
  pub good : Good setting records (chosen_log setting w) (counted setting w)
  pub own : Record

-- the log so far, and the world by the stores that count
pub record Before : Type 0 where
  pub top : List Command
  pub before : World

abbrev pub before_of : OneMore → Before
before_of it = record { top = chosen_log it.setting it.w; before = counted it.setting it.w }

-- an incarnation that was ever In has begun
pub in_begun : (script : Script) (records : List Record) → IsSound script → AreSteps script records → (n inc : ℕ) (prefix : List Command)
    → IsPrefix prefix (chosen_log (setting_of script) (world_after (setting_of script) (start (setting_of script)) records))
    → is_in (state_after script.servers prefix) n inc ≡ true → inc ≤ ((world_after (setting_of script) (start (setting_of script)) records).servers n).life.inc
in_begun script records sound legal n inc prefix is_prefix up =
    let setting = setting_of script in
    let w = world_after setting (start setting) records in
    by_bool (is_in (chosen_state setting w) n inc)
    (λ now. let begun = who_is_in_has_begun script records sound legal n inc now in omega arith)
    (λ gone. elim (out_has_stopped script records sound legal n inc prefix is_prefix up gone) [
      | inl rests ↦ (let le = rests.1 in omega arith)
      | inr past ↦ omega arith
    ])

pub known_after : (script : Script) (records : List Record) → IsSound script → AreSteps script records
    → IsKnown (setting_of script) records (world_after (setting_of script) (start (setting_of script)) records)
known_after script records sound legal =
    let setting = setting_of script in
    let w = world_after setting (start setting) records in
    record {
      firm = history_is_firm script records sound legal;
      wake = may_wake script records sound legal;
      next = λ n. by_bool (is_in (server_state setting w n) n ((w.servers n).life.inc + 1))
          (λ up.
          let le = in_begun script records sound legal n ((w.servers n).life.inc + 1) (w.servers n).log.applied
          ((history_is_firm script records sound legal).servers n) up in
          absurd (omega arith))
          (λ out. out);
      rests = rests_after setting (start setting) records (always_firm script records sound legal) (start_rests script) legal;
      started = chosen_caught_was script records sound legal;
      real = λ n runs seat. in_own script records n sound legal runs seat;
      counts = λ n prefix is_prefix seat. in_counts script records n prefix sound legal is_prefix seat;
    }
