use Rattle.write_pair.proofs.lead.resend.letters_after.Goals as goal

pub returns : goal.returns
returns c = rw (← c.side.view_is) c.all_after.ensures
