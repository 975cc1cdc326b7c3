use Rattle.std.proofs.Common.{◌<◌}
use Rattle.petal_base.specs.Limits.{client_limit}
use Rattle.client_rows.specs.Rows.{row_cmp}
use Rattle.client_rows.proofs.Searches.{placed_all, room_at}
use Rattle.client_rows.proofs.rows.Rows.put.Goals as goal

pub place-requires : goal.place-requires
place-requires c =
    rw (c.row.ensures, c.link-link.ensures, c.client-client.ensures.value)
    (room_at c.args.map c.args.origin.link c.args.origin.client c.greater-seq.result c.self.inside.rows.spare c.self.inside.rows.items
    (rw (← c.self.view_is) at c.requires))

pub invariant_of-self : goal.invariant_of-self
invariant_of-self c = (
  c.place.ensures.sorted,
  rw c.place.ensures.items (placed_all (λ row. row.client < client_limit) row_cmp c.self.inside.rows.items c.row.result c.self.invariant.1
      (rw c.row.ensures c.client-client.ensures.below)),
)
