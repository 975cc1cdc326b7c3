-- What a line of the operator asks one server for.
use Rattle.std.specs.Prelude.{ℕ, Option, Some, None}
use Rattle.device_faults.specs.declared.which.Which.TheVariants.{Data}
use Rattle.script_lines.specs.declared.request.Request.{Request}
use Rattle.script_lines.specs.declared.request.Request.TheVariants as request
use Rattle.spec_rules.specs.Clients.{Asked}
use Rattle.spec_rules.specs.Plans.{fault_plan, stop_plan}
use Rattle.client_core.specs.declared.order.Order.{Order}
use Rattle.client_core.specs.declared.order.Order.TheVariants.{Stop, Start, Blank, Arm}

-- what the request asks for, and of which server, where it asks that of one
abbrev pub order_of : Request → Option (Order × ℕ)
order_of (request.Stop server) = Some (Stop, server)
order_of (request.StopAt server at) = Some (Arm Data (stop_plan at), server)
order_of (request.Fault server which kind at) = Some (Arm which (fault_plan kind at), server)
order_of (request.Start server) = Some (Start, server)
order_of (request.Blank server) = Some (Blank, server)
order_of _ = None

-- the same with the request's line
abbrev pub order_in : Asked → Option (Order × ℕ) → Option (ℕ × Order × ℕ)
order_in asked None = None
order_in asked (Some order) = Some (asked.line, order.0, order.1)
