use Rattle.std.proofs.Common.{Option, List, Err, refl, ap, ◌∙◌}
use Rattle.petal_base.specs.declared.cell.Key.{Key}
use Rattle.spec_rules.specs.Fills.{goes_after, sends_key}
use Rattle.spec_rules.specs.Server.{Post}
use Rattle.server_store.specs.Holdings.{Holdings}
use Rattle.pair_memory.specs.Letters.{posts_of}
use Rattle.pair_memory.specs.PairMemory.{own_of}
use Rattle.pair_memory.specs.declared.error.WorkError.TheVariants.{NoMemory}
use Rattle.pair_memory.proofs.Reading.{after_read}
use Rattle.pair_memory.proofs.Said.{all_same}
use Rattle.redistribute.specs.Following.{filled_with, following}
use Rattle.redistribute.proofs.Fillings.{after_is}
use Rattle.redistribute.proofs.answer.go_after.Goals as goal

pub returns-in-Ok : goal.returns-in-Ok
returns-in-Ok g c =
    let here = c.args.here.now in
    let side = c.args.side.now in
    let row = c.args.row.now in
    let old = c.args.store.now in
    let new = c.fill_letter.new.store in
    let look = c.fill_letter.ensures.look in
    let own = own_of side old in
    let only_now = (g.met.D.Disk g.world.𝓛 g.world.𝓜 g.world.𝓡 ((λ s x. x), (λ x. x), (λ x. x), λ x. x)).only_now in
    after_read g.D.Disk only_now here side c.note_filled.new.side old new look.same look.kept look.holds look.run c.note_filled.result _ _ look.cause.later
    (λ observed.
    ap (λ (s : Holdings _). filled_with (own_of side s) row c.args.key (posts_of c.in-Ok.found)) look.same
    ∙ ap (λ (ps : List Post). filled_with own row c.args.key ps)
    (c.in-Ok.ensures.letter observed side ∙ ap (λ (k : Option Key). sends_key here.state own k) c.left_after-next.ensures)
    ∙ after_is here own row c.args.key)
    c.note_filled.ensures

pub returns-in-Err-Failed : goal.returns-in-Err-Failed
returns-in-Err-Failed g c =
    let here = c.args.here.now in
    let side = c.args.side.now in
    let old = c.args.store.now in
    let new = c.fill_letter.new.store in
    let look = c.fill_letter.ensures.look in
    let rule = goes_after here (following (own_of side old) c.args.row.now c.args.key) c.args.row.now in
    let only_now = (g.met.D.Disk g.world.𝓛 g.world.𝓜 g.world.𝓡 ((λ s x. x), (λ x. x), (λ x. x), λ x. x)).only_now in
    let read =
    after_read g.D.Disk only_now here side side old new look.same look.kept look.holds look.run (Err NoMemory) rule rule look.cause.later
    (λ _. refl) (all_same here side side new new rule refl refl) in
    record {
      done = tt;
      keeps = tt;
      holds = λ _ _. tt;
      moments = read.moments;
      still = λ no. absurd (cc);
      same = λ no. absurd (cc);
      kept = read.kept;
      stays = read.stays;
      full = λ no. absurd (cc);
      spent = λ no. absurd (cc);
      cause = record { later = look.cause.later; failed = λ _. look.cause.failed (c.in-Err-Failed.is ∙ ap Err c.in-Err-Failed.field-0-is) };
      run = look.run;
    }

pub returns-in-Err-NoMemory : goal.returns-in-Err-NoMemory
returns-in-Err-NoMemory g c =
    let here = c.args.here.now in
    let side = c.args.side.now in
    let old = c.args.store.now in
    let new = c.fill_letter.new.store in
    let look = c.fill_letter.ensures.look in
    let rule = goes_after here (following (own_of side old) c.args.row.now c.args.key) c.args.row.now in
    let only_now = (g.met.D.Disk g.world.𝓛 g.world.𝓜 g.world.𝓡 ((λ s x. x), (λ x. x), (λ x. x), λ x. x)).only_now in
    after_read g.D.Disk only_now here side side old new look.same look.kept look.holds look.run (Err NoMemory) rule rule look.cause.later
    (λ _. refl) (all_same here side side new new rule refl refl)
