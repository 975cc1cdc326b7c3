use Rattle.std.proofs.Common.{map}
use Rattle.memory_server.specs.Server.{site_of}
use Rattle.memory_server.proofs.Casting.{cast_is}
use Rattle.memory_server.proofs.cast.members.Goals as goal

pub returns-clause-sites : goal.returns-clause-sites
returns-clause-sites c = cast_is c.args.script.now (map site_of c.in_ok-members.members) c.in_ok-members.ensures.sites
