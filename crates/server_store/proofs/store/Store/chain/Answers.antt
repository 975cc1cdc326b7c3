use Rattle.std.proofs.Common.{◌≡◌, ◌∙◌, List, subst}
use Rattle.std.specs.Result.{IfOk}
use Rattle.physical_map.specs.declared.entry.Entry.{Entry}
use Rattle.physical_map.specs.Entries.{chain_of}
use Rattle.server_store.proofs.Contents.{is_listed}
use Rattle.server_store.proofs.store.Store.chain.Goals as goal

pub returns : goal.returns
returns g c =
    let own = c.self.inside in
    rw (← c.self.view_is) (subst (λ (l : List Entry). IfOk c.chain.result (λ chain. chain ≡ chain_of c.args.cell l))
    (c.map.ensures ∙ is_listed (g.D.Disk.seen own.disk) own.ledger.entries) c.chain.ensures)
