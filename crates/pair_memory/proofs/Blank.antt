-- A server that begins has no ticket out, and needs none.
use Rattle.std.proofs.Common.{◌≡◌, ℕ, List, [], refl, sym, subst}
use Rattle.petal_table.specs.Table.{at}
use Rattle.kept_chains.specs.Holdings.{Holdings}
use Rattle.pair_memory.specs.PairMemory.{PairMemory, HasTickets, HasTicketsAt, new_side}

no_tickets : HasTickets [] [] [] [] []
unfolding at
no_tickets = record { out = λ slot. refl; owned = λ cell. refl; kept = λ cell. refl }

pub blank : {D : Type 0} (side : PairMemory) (store : Holdings D) → side ≡ new_side → store.tickets ≡ [] → HasTicketsAt side store
blank side store new out =
    subst (λ (s : PairMemory). HasTickets s.pending s.last s.own s.apart store.tickets) (sym new)
    (subst (λ (ts : List ℕ). HasTickets [] [] [] [] ts) (sym out) no_tickets)
