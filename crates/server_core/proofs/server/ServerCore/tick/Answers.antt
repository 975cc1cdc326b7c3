use Rattle.std.proofs.Common.{ap, refl, ◌∙◌}
use Rattle.kept_chains.specs.Kept.{store_of}
use Rattle.spec_rules.specs.Jobs.{tick_jobs}
use Rattle.server_core.specs.ServerView.{acted, here_in, server_of}
use Rattle.server_core.proofs.Ticking.{ticked}
use Rattle.server_store.specs.Holdings.{Holdings}
use Rattle.server_core.proofs.server.ServerCore.tick.Goals as goal

pub returns-clause-ok : goal.returns-clause-ok
returns-clause-ok g c = λ observed records.
    let old = c.self.inside.parts in
    let letters = c.in_ok-letters.letters in
    let same = c.in_ok-letters.ensures.same in
    rw (← c.self.view_is)
    (ap (λ (s : Holdings _). acted c.move_on.new.parts (store_of s) records letters) same
    ∙ ticked old c.move_on.new.parts (store_of c.args.store.now) records letters _ c.in_ok-jobs.jobs.items
    (c.in_ok-letters.ensures.letters observed records) refl
    (c.in_ok-jobs.ensures records ∙ ap (λ (s : Holdings _). tick_jobs (here_in old) (server_of old (store_of s) records)) same)
    c.in_ok-move_on.ensures.ok)
