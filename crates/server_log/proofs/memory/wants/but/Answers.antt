use Rattle.std.proofs.Common.{rules, ◌∙◌}
use Rattle.std.proofs.lemmas.Fn.{filter_same}
use Rattle.server_log.proofs.memory.wants.but.Goals as goal

pub returns : goal.returns
returns c = rw (← c.into_vec-commands.ensures) (c.of.ensures ∙ filter_same _ _ _ (λ x b f' k. search rules) _ _ c.retain.ensures.filtered)
