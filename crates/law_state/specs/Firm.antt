-- What the laws of pairs, requests and the run know of the agreed log.
use Rattle.law_state.specs.Imports.{Caught, Command, In, IsPrefix, Setting, World, chosen_log, chosen_state, is_in, state_after}
use Rattle.std.specs.Prelude.{[], ◌++◌, ◌∷◌, ◌≡◌, ◌⊎◌, List, false, length, true, ℕ}
use Rattle.law_state.specs.Plain.{HasProperTuples}
use Rattle.law_state.specs.StartedBallots.{HasStarted, is_caught}

-- what servers and clients have applied stands at the front of the chosen log, whose entries are plain; who runs, and is In as
-- itself by some prefix of the log, is so by all that is chosen; of a Caught that is chosen the holder started the ballot after the
-- entries before it; and what servers are asked to propose is no Caught
pub record Firm (setting : Setting) (w : World) : Type 0 where
  pub servers : (n : ℕ) → IsPrefix (w.servers n).log.applied (chosen_log setting w)
  pub clients : (c : ℕ) → IsPrefix (w.clients c).applied (chosen_log setting w)
  pub plain : HasProperTuples setting.servers (chosen_log setting w)
  pub runs : (n : ℕ) (prefix : List Command) → (w.servers n).life.running ≡ true → IsPrefix prefix (chosen_log setting w)
      → is_in (state_after setting.servers prefix) n (w.servers n).life.inc ≡ true → is_in (chosen_state setting w) n (w.servers n).life.inc ≡ true
  pub started : (prefix : List Command) (of link holder inc other other_inc : ℕ)
      → IsPrefix (prefix ++ Caught of link holder inc other other_inc ∷ []) (chosen_log setting w)
      → HasStarted w.servers holder inc (length prefix) (record { map = of; link = link })
  pub asked : (n : ℕ) (command : Command) → In command (w.servers n).log.wants ⊎ In command (w.servers n).log.leaves → is_caught command ≡ false
