-- Each actor's step is the rule's.
use Rattle.petal_world.proofs.Acting.{plans_of_client, plans_of_server, serves_ok, reacts_ok}
use Rattle.petal_world.proofs.actors.Actors.act.Goals as goal

pub returns-in-Server-clause-step : goal.returns-in-Server-clause-step
returns-in-Server-clause-step g c =
    serves_ok c.serve.result c.args.self.now c.args.actor c.in-Server.server c.args.step.now c.args.stamp c.serve.new.self c.in-Server.is c.serve.ensures.step

pub returns-in-Server-clause-plans : goal.returns-in-Server-clause-plans
returns-in-Server-clause-plans g c =
    plans_of_server c.serve.result c.args.self.now c.args.actor c.in-Server.server c.args.step.now c.serve.new.self c.in-Server.is c.serve.ensures.plans

pub returns-in-Client-clause-step : goal.returns-in-Client-clause-step
returns-in-Client-clause-step g c =
    reacts_ok c.react.result c.args.self.now c.args.actor c.in-Client.client c.args.step.now c.args.stamp c.react.new.self c.in-Client.is c.react.ensures.step

pub returns-in-Client-clause-plans : goal.returns-in-Client-clause-plans
returns-in-Client-clause-plans g c =
    plans_of_client c.react.result c.args.self.now c.args.actor c.in-Client.client c.args.step.now c.react.new.self c.in-Client.is c.react.ensures.plans
