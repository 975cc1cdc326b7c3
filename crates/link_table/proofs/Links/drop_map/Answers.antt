use Rattle.link_table.proofs.Numbered.{as_numbered, dropped_numbered}
use Rattle.link_table.proofs.Links.drop_map.Goals as goal

pub invariant_of-self : goal.invariant_of-self
invariant_of-self c =
    as_numbered _ _ c.in_ok-self-inside.ensures (dropped_numbered _ c.args.map (as_numbered _ _ c.deref.ensures.value c.self.invariant))
