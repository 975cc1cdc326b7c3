-- A client on its way through the entries of a letter, in code: the request itself stays where it is.
use Rattle.std.specs.Prelude.{Option, Some, None}
use Rattle.spec_rules.specs.Clients.{Client, Asked}
use Rattle.spec_rules.specs.Clients as rules
use Rattle.client_core.specs.declared.learning.Learning.{Learning}
use Rattle.client_core.specs.Judging.{fated}

-- what the rules know of it, where this request was open as the letter came
abbrev pub learnt : Client → Option Asked → Learning → rules.Learning
learnt client None now =
    record { state = now.state; client = record client { applied = now.applied.items; asked = None }; answer = None }
learnt client (Some asked) now = fated now.state (record client { applied = now.applied.items }) asked now.fate
