-- The actors' own records.
use Rattle.std.specs.Prelude.{ℕ, List}
use Rattle.script_lines.specs.declared.script.Script.{Script}
use Rattle.spec_rules.specs.Plans.{Armed, unarmed}
use Rattle.spec_rules.specs.World.{setting_of, start}
use Rattle.spec_history.specs.Failures.{ComeTo}
use Rattle.spec_history.specs.declared.record.Record.{Record}
use Rattle.law_merge.specs.Alone.{IsAlone, IsAloneClient, of_client, of_server}

-- each actor's records, in their order, are steps of its own from the start, and each failure of a server's devices uses up a plan that it
-- was given
pub record AreOwn (script : Script) (records : List Record) : Type 0 where
  pub servers : (n : ℕ) → IsAlone (setting_of script) n ((start (setting_of script)).servers n) 0 (of_server n records)
  pub clients : (c : ℕ) → IsAloneClient (setting_of script) c ((start (setting_of script)).clients c) 0 (of_client c records)
  pub planned : (n : ℕ) → (left : Armed) × ComeTo n unarmed (of_server n records) left
