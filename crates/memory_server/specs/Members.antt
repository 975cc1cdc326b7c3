-- Servers of a run that begins.
use Rattle.std.specs.Prelude.{ℕ, true}
use Rattle.spec_rules.specs.Server.{first_server}
use Rattle.server_host.specs.Desks.{Site}

-- a server of a run that begins, among so many
abbrev pub first_site : (servers slots : ℕ) → ℕ → Site
first_site servers slots n = record { me = n; servers = servers; server = first_server true slots }
