use Rattle.agent_clients.specs.declared.fault.ClientFault.TheVariants.{NoMemory}
use Rattle.agent_clients.proofs.Outcomes.{unasked}
use Rattle.agent_clients.proofs.asking.ask.Goals as goal

pub returns-in-Err : goal.returns-in-Err
returns-in-Err g c = unasked c.args.request.items c.in-Err.fault

pub returns-in_default : goal.returns-in_default
returns-in_default g c = unasked c.args.request.items NoMemory
