-- What a server sends, and what is left of it.
use Rattle.std.proofs.Common.{sym, ◌∙◌}
use Rattle.server_core.proofs.Steps.{of_each}
use Rattle.memory_server.specs.Server.{whole_of}
use Rattle.memory_server.proofs.Seen.{ended_after, ended_letters}
use Rattle.memory_server.proofs.server.DeskServer.step.Goals as goal

pub returns-clause-site : goal.returns-clause-site
returns-clause-site g c =
    of_each _ _ (λ taken is observed. ended_after (whole_of c.args.self.now) c.args.step.now taken.end (sym c.may_take.ensures ∙ c.if-not-may_take.false)
    (whole_of c.act.new.self) (is observed)) c.act.result c.act.ensures.site

pub returns-clause-letters : goal.returns-clause-letters
returns-clause-letters g c =
    of_each _ _ (λ taken is observed. ended_letters (whole_of c.args.self.now) c.args.step.now taken.end (sym c.may_take.ensures ∙ c.if-not-may_take.false)
    taken.letters (is observed)) c.act.result c.act.ensures.letters
