use Rattle.link_table.proofs.Numbered.{as_numbered, blanked_numbered}
use Rattle.link_table.proofs.Links.join.Goals as goal

pub invariant_of-self : goal.invariant_of-self
invariant_of-self c =
    as_numbered _ _ c.in_ok-self-inside.ensures (blanked_numbered _ c.args.server (as_numbered _ _ c.deref.ensures.value c.self.invariant))
