use Rattle.server_core.proofs.entry.jobs_of_next.Goals as goal

pub returns-in-Some : goal.returns-in-Some
returns-in-Some c = λ store.
    rw c.in-Some.is ((rw (c.new-here.ensures, c.state.ensures, c.number.ensures) at c.entry_jobs.ensures) store)
