use Rattle.std.proofs.Common.{◌≡◌, ◌<◌, ◌+◌, length, refl, subst, ap, ◌∙◌, arith}
use Rattle.spec_rules.specs.Entries.{learns_first, unknown_from, on_news}
use Rattle.spec_rules.specs.Log.{LogDone as Rule}
use Rattle.server_log.specs.Done.{IsLogDone}
use Rattle.server_log.specs.Part.{log_of}
use Rattle.server_log.proofs.FollowUps.{first_of_more}
use Rattle.server_log.proofs.news.on_news.Goals as goal

pub returns : goal.returns
unfolding on_news
returns g c =
    let part = c.args.log.now in
    let log = log_of part c.args.state.now.records in
    let letter = c.args.letter.now in
    let commands = c.args.commands.now in
    let unknown : c.as_slice.result.now ≡ unknown_from log (c.args.after + 1) commands = c.as_slice.ensures ∙ c.in_ok-unknown.ensures log refl in
    let more : 1 < length c.as_slice.result.now = omega arith in
    subst (λ (rule : Rule). IsLogDone g.D.Disk part part c.args.state.now c.learn_one.new.state c.learn_one.result rule)
    (first_of_more log letter c.as_slice.result.now c.index-place-0-2.result c.index-command-0-2.result more
    ∙ ap (learns_first log letter) unknown)
    c.learn_one.ensures
