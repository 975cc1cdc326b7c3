-- Neither device had a commit under way.
use Rattle.std.proofs.Common.{inl, ℕ, List, refl, ◌∙◌}
use Rattle.kept_chains.proofs.Commits.{stands_left}
use Rattle.kept_chains.specs.Standing.{StandsAsEither}
use Rattle.state_store.specs.Device.{StandsForEither}
use Rattle.memory_server.proofs.Recovering.{reread}
use Rattle.memory_server.specs.Recovery.{shown_in}
use Rattle.memory_server.proofs.recovery.reread.Goals as goal

pub returns-clause-again : goal.returns-clause-again
returns-clause-again g c = λ observed holds kept.
    let store = c.args.store.now in
    let state = c.args.state.now in
    let was = shown_in store state.records in
    let reopened = c.in_ok-_end.ensures in
    let stored : (x : List ℕ) → g.D.Disk.may_leave store.disk x → StandsAsEither store was.store x
    = λ x left. inl (stands_left g.D.Disk store holds x left) in
    let recorded : (x : List ℕ) → g.D.Disk.may_leave state.disk x → StandsForEither state.records was.records x = λ x left. inl (kept.left x left) in
    reread g.D.Disk store c.reopen.new.store state c.reopen.new.state c.in_ok-_end._end
    (reopened.ends store state.records was observed refl stored recorded (c.records-before.ensures ∙ kept.count) (inl refl))
    reopened.tickets (reopened.holds store was observed stored) (reopened.state_holds state.records was observed recorded)
