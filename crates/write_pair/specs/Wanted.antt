-- A client's write, and an entry that moves.
use Rattle.spec_rules.specs.Fills as fills
use Rattle.spec_rules.specs.Writes as rules
use Rattle.write_pair.specs.declared.lead.fill.Moving.{Moving}
use Rattle.write_pair.specs.declared.lead.write.Wanted.{Wanted}

-- as the rules have it
abbrev pub wanted : Wanted → rules.Wanted
wanted want = record { client = want.client; seq = want.seq; cell = want.cell; epoch = want.epoch; bytes = want.bytes.now }

-- an entry that moves
abbrev pub moving : Moving → fills.Moving
moving entry = record { key = entry.key; bytes = entry.bytes.now }
