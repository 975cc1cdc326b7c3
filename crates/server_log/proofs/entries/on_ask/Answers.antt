use Rattle.std.proofs.Common.{List, [], ◌∷◌, refl, ap, ◌∙◌}
use Rattle.petal_command.specs.declared.command.Command.{Command}
use Rattle.petal_msg.specs.declared.body.Body.TheVariants as body
use Rattle.spec_rules.specs.Entries.{on_ask}
use Rattle.spec_rules.specs.Server.{Sender, letters_of}
use Rattle.server_log.specs.Part.{log_of, sender_of}
use Rattle.server_log.proofs.entries.on_ask.Goals as goal

pub returns : goal.returns
unfolding on_ask
returns g c =
    let log = log_of c.args.log.now c.args.state.now.records in
    record {
      done = rw c.only.ensures (record {
        log = refl;
        letters = c.one.ensures
            ∙ ap (λ (who : Sender). letters_of who 0 (record { to = c.args.from; body = body.News c.args.rev c.in_ok-commands.commands } ∷ []))
            c.envelope.ensures
            ∙ ap (λ (run : List Command). letters_of (sender_of c.args.log.now) 0 (record { to = c.args.from; body = body.News c.args.rev run } ∷ []))
            (c.in_ok-commands.ensures.run log refl);
        jobs = refl;
      });
      voter = refl;
      err = tt;
    }
