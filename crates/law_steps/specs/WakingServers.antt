-- What is so of a server that boots.
use Rattle.law_steps.specs.Imports.{IsPrefix, Setting, World, chosen_log, is_in, known_prefix, raised, state_after}
use Rattle.std.specs.Prelude.{◌+◌, ◌≡◌, false, ℕ}

-- a server that boots in this world goes on from the entries that it had applied, by which it is not yet In as its next incarnation
pub record MayWake (setting : Setting) (w : World) (n : ℕ) : Type 0 where
  pub onward : IsPrefix (w.servers n).log.applied (known_prefix (raised (w.servers n)).log)
  pub chosen : IsPrefix (known_prefix (raised (w.servers n)).log) (chosen_log setting w)
  pub out : is_in (state_after setting.servers (known_prefix (raised (w.servers n)).log)) n ((w.servers n).life.inc + 1) ≡ false

abbrev pub AllMayWake : Setting → World → Type 0
AllMayWake setting w = (n : ℕ) → MayWake setting w n
