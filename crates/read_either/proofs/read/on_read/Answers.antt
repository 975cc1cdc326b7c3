use Rattle.std.proofs.Common.{◌≡◌, rules, true, Err, refl, sym, subst, ap, ◌∙◌}
use Rattle.spec_rules.specs.Reads.{on_read}
use Rattle.spec_rules.specs.Server.{JobResult, silent}
use Rattle.spec_rules.specs.State.{readable}
use Rattle.pair_memory.specs.JobResult.{IsDone, held}
use Rattle.pair_memory.specs.PairMemory.{own_of}
use Rattle.pair_memory.specs.declared.error.WorkError.TheVariants.{NoMemory}
use Rattle.pair_memory.proofs.Reading.{after_read}
use Rattle.pair_memory.proofs.Said.{all_same, said_done}
use Rattle.read_either.proofs.Reading.{told_is}
use Rattle.read_either.proofs.read.on_read.Goals as goal

pub returns-in-Ok : goal.returns-in-Ok
returns-in-Ok g c =
    let here = c.args.here.now in
    let side = c.args.side.now in
    let old = c.args.store.now in
    let new = c.answer_read.new.store in
    let same = c.answer_read.ensures.same in
    let may : readable here.state here.me c.args.cell ≡ true = sym c.readable.ensures ∙ c.if-not-readable.false in
    let read = c.answer_read.ensures in
    let only_now = (g.met.D.Disk g.world.𝓛 g.world.𝓜 g.world.𝓡 ((λ s x. x), (λ x. x), (λ x. x), λ x. x)).only_now in
    after_read g.D.Disk only_now here side side old new same read.device read.holds read.run c.say.result _ _ read.cause.later
    (λ observed. told_is here (own_of side new) (own_of side old) c.args.client c.args.seq c.args.cell c.args.epoch c.in-Ok.reply c.said.result
    (ap (λ store. own_of side store) same) may (c.in-Ok.ensures.reply observed) c.said.ensures)
    c.say.ensures

pub returns-then-not-readable : goal.returns-then-not-readable
unfolding on_read
returns-then-not-readable g c =
    let law = g.met.D.Disk g.world.𝓛 g.world.𝓜 g.world.𝓡 ((λ s x. x), (λ x. x), (λ x. x), λ x. x) in
    let here = c.args.here.now in
    let side = c.args.side.now in
    let store = c.args.store.now in
    let rule : silent (own_of side store) ≡ on_read here (own_of side store) c.args.client c.args.seq c.args.cell c.args.epoch = search rules in
    subst (λ (r : JobResult). IsDone g.D.Disk here (held side store) (held side store) c.silent.result r) rule
    (said_done g.D.Disk law.stays law.only_now here side side store store c.silent.result _ c.silent.ensures)

pub returns-in-Err-Failed : goal.returns-in-Err-Failed
returns-in-Err-Failed g c =
    let here = c.args.here.now in
    let side = c.args.side.now in
    let old = c.args.store.now in
    let new = c.answer_read.new.store in
    let read = c.answer_read.ensures in
    let rule = on_read here (own_of side old) c.args.client c.args.seq c.args.cell c.args.epoch in
    let only_now = (g.met.D.Disk g.world.𝓛 g.world.𝓜 g.world.𝓡 ((λ s x. x), (λ x. x), (λ x. x), λ x. x)).only_now in
    let left =
    after_read g.D.Disk only_now here side side old new read.same read.device read.holds read.run (Err NoMemory) rule rule read.cause.later
    (λ _. refl) (all_same here side side new new rule refl refl) in
    record {
      done = tt;
      keeps = tt;
      holds = λ _ _. tt;
      moments = left.moments;
      still = λ no. absurd (cc);
      same = λ no. absurd (cc);
      kept = left.kept;
      stays = left.stays;
      full = λ no. absurd (cc);
      spent = λ no. absurd (cc);
      cause = record { later = read.cause.later; failed = λ _. read.cause.failed (c.in-Err-Failed.is ∙ ap Err c.in-Err-Failed.field-0-is) };
      run = read.run;
    }

pub returns-in-Err-NoMemory : goal.returns-in-Err-NoMemory
returns-in-Err-NoMemory g c =
    let here = c.args.here.now in
    let side = c.args.side.now in
    let old = c.args.store.now in
    let new = c.answer_read.new.store in
    let read = c.answer_read.ensures in
    let rule = on_read here (own_of side old) c.args.client c.args.seq c.args.cell c.args.epoch in
    let only_now = (g.met.D.Disk g.world.𝓛 g.world.𝓜 g.world.𝓡 ((λ s x. x), (λ x. x), (λ x. x), λ x. x)).only_now in
    after_read g.D.Disk only_now here side side old new read.same read.device read.holds read.run (Err NoMemory) rule rule read.cause.later
    (λ _. refl) (all_same here side side new new rule refl refl)
