-- A call is the rule's.
use Rattle.std.proofs.Common.{refl}
use Rattle.client_core.proofs.Sends.{called_is}
use Rattle.client_core.proofs.client.ClientCore.call.Goals as goal

pub returns-clause-ok : goal.returns-clause-ok
returns-clause-ok c =
    called_is c.args.self.now c.has_open.new.self c.args.line c.args.request c.in_ok-asked.asked c.in_ok-post.field-0 c.in_ok-letters.letters
    c.in_ok-asked.ensures.asked c.in_ok-post.ensures (rw (← c.me.ensures, ← c.rev.ensures) c.in_ok-letters.ensures)
    (rw (c.has_open.ensures, c.was_sent.ensures) refl)
