-- How old a server's place among the servers is: it only rises. Each incarnation is In before it is Out, and before the next one.
use Rattle.law_state.specs.Imports.{Member, State}
use Rattle.std.specs.Prelude.{◌+◌, None, Option, Some, slice_get, ℕ}
use Rattle.global_tables.specs.declared.fence.Member.TheVariants as member

abbrev pub age : Option Member → ℕ
age None = 0
age (Some (member.In inc)) = inc + inc + 1
age (Some (member.Out inc)) = inc + inc + 2

abbrev pub age_of : State → ℕ → ℕ
age_of state n = age (slice_get state.view.members n)
