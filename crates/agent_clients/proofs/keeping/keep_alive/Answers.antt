use Rattle.agent_clients.specs.declared.fault.ClientFault.TheVariants.{Io}
use Rattle.agent_clients.proofs.Outcomes.{unkept}
use Rattle.agent_clients.proofs.keeping.keep_alive.Goals as goal

pub returns-in_default : goal.returns-in_default
returns-in_default g c = unkept c.args.agent Io
