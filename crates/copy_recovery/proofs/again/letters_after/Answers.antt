use Rattle.std.proofs.Common.{◌≡◌, ◌++◌, length, ap, ◌∙◌}
use Rattle.spec_rules.specs.Copies.{copy_posts, page_posts}
use Rattle.spec_rules.specs.Server.{letters_of, sender}
use Rattle.spec_rules.specs.Store.{Store}
use Rattle.server_store.specs.Holdings.{Holdings}
use Rattle.kept_chains.specs.Kept.{store_of}
use Rattle.pair_memory.specs.PairMemory.{own_of}
use Rattle.copy_transfer.specs.Walks.{side_own}
use Rattle.pair_memory.proofs.Looks.{letters_two}
use Rattle.copy_recovery.proofs.again.letters_after.Goals as goal

pub returns-clause-letters : goal.returns-clause-letters
returns-clause-letters g c = λ observed.
    let here = c.args.here.now in
    let side = c.args.side.now in
    let same : store_of c.copies_after.new.store ≡ store_of c.args.store.now = ap (λ (s : Holdings _). store_of s) c.copies_after.ensures.look.same in
    letters_two (sender here) c.args.before c.in_ok-letters.letters c.in_ok-pages_after.field-0 (copy_posts here (own_of side c.args.store.now))
    (page_posts here (own_of side c.args.store.now))
    (c.in_ok-letters.ensures.letters observed)
    (c.in_ok-pages_after.ensures
    ∙ ap (λ (s : Store). c.in_ok-letters.letters ++ letters_of (sender here) (length c.in_ok-letters.letters) (page_posts here (side_own side s))) same)
