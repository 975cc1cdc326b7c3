-- The letters that a server sends when it stops.
use Rattle.std.specs.Prelude.{List}
use Rattle.petal_msg.specs.declared.letter.Actor.TheVariants as actor
use Rattle.petal_msg.specs.declared.letter.Letter.{Letter}
use Rattle.spec_rules.specs.Jobs.{down_posts}
use Rattle.spec_rules.specs.Log.{Voter}
use Rattle.spec_rules.specs.Server.{letters_of}

abbrev pub farewell_of : Voter → List Letter
farewell_of voter = letters_of (record { from = actor.Server voter.me; inc = voter.inc; rev = 0 }) 0 (down_posts voter.me voter.inc voter.servers)
