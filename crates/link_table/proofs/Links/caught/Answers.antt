use Rattle.link_table.proofs.Numbered.{as_numbered, caught_numbered}
use Rattle.link_table.proofs.Links.caught.Goals as goal

pub invariant_of-self : goal.invariant_of-self
invariant_of-self c =
    as_numbered _ _ c.in_ok-self-inside.ensures (caught_numbered _ c.args.map c.args.link (as_numbered _ _ c.deref.ensures.value c.self.invariant))
