use Rattle.std.proofs.Common.{◌≡◌, ◌++◌, true, List, length, sym, ap, ◌∙◌}
use Rattle.spec_rules.specs.Copies.{copy_posts, page_posts}
use Rattle.spec_rules.specs.Fills.{fill_posts}
use Rattle.spec_rules.specs.Server.{PairState, Post, letters_of, sender}
use Rattle.spec_rules.specs.State.{is_in}
use Rattle.server_store.specs.Holdings.{Holdings}
use Rattle.server_jobs.specs.Wants.{here_by}
use Rattle.pair_memory.specs.PairMemory.{own_of}
use Rattle.pair_memory.proofs.Looks.{letters_two}
use Rattle.server_core.proofs.Steps.{of_each}
use Rattle.server_core.proofs.Looking.{look_then}
use Rattle.server_core.proofs.Ticking.{again_in}
use Rattle.server_core.proofs.ticks.copies_after.Goals as goal

pub returns-clause-letters : goal.returns-clause-letters
returns-clause-letters g c =
    let it = c.parts.inside in
    let here = here_by it.log in
    let own = own_of it.side c.args.store.now in
    let copies = c.in_ok-copies.copies in
    let may : is_in here.state here.me here.inc ≡ true = sym c.is_in.ensures ∙ c.if-not-is_in.false in
    let first = rw (c.new-here.ensures, c.number.ensures, c.inc.ensures, c.state.ensures) at c.in_ok-copies.ensures.letters in
    let last = rw (c.new-here.ensures, c.number.ensures, c.inc.ensures, c.state.ensures) at c.fills_after.ensures.letters in
    let same : own_of it.side c.letters_after.new.store ≡ own = ap (λ (s : Holdings _). own_of it.side s) c.letters_after.ensures.same in
    rw (← c.parts.view_is)
    (of_each _ _ (λ all is observed.
    letters_two (sender here) c.args.before copies all (copy_posts here own ++ page_posts here own) (fill_posts here own) (first observed)
    (is observed ∙ ap (λ (o : PairState). copies ++ letters_of (sender here) (length copies) (fill_posts here o)) same)
    ∙ ap (λ (posts : List Post). c.args.before ++ letters_of (sender here) (length c.args.before) posts) (sym (again_in here own may)))
    c.fills_after.result last)

pub returns-clause-look : goal.returns-clause-look
returns-clause-look g c =
    let law = g.met.D.Disk g.world.𝓛 g.world.𝓜 g.world.𝓡 ((λ s x. x), (λ x. x), (λ x. x), λ x. x) in
    let first = c.letters_after.ensures in
    look_then g.D.Disk law.goes_on c.args.store.now c.letters_after.new.store c.fills_after.new.store c.letters_after.result c.fills_after.result
    (record { same = first.same; kept = first.device; holds = first.holds; cause = first.cause; run = first.run }) c.fills_after.ensures.look
