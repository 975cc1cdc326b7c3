-- Of what each law speaks: a legal history of a sound script, the world after it, and what is chosen there.
pub use Rattle.script_lines.specs.declared.script.Script.{Script}
pub use Rattle.spec_rules.specs.World.{chosen_log, chosen_state, server_state, setting_of, start}
pub use Rattle.spec_history.specs.Claims.{IsPrefix}
pub use Rattle.spec_history.specs.Steps.{AreSteps, world_after}
pub use Rattle.spec_history.specs.Sound.{IsSound}
pub use Rattle.spec_history.specs.declared.record.Record.{Record}
