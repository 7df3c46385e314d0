use Rattle.std.proofs.Common.{◌≡◌, ℕ, List, [], Option, Some, refl, ap, inl, inr}
use Rattle.std.proofs.lemmas.Result.{err_from_is_err_and}
use Rattle.slp_script.specs.Commands.{order_of}
use Rattle.slp_script.specs.Lines.{Line}
use Rattle.slp_script.specs.declared.command.Order.{Order}
use Rattle.slp_script.specs.Readings.{IsReading}
use Rattle.replay_program.specs.Turns.{OrderFails, OutsideFails}
use Rattle.replay_program.specs.declared.fault.RunFault.{RunFault}
use Rattle.replay_program.specs.declared.fault.RunFault.TheVariants as fault
use Rattle.replay_program.specs.declared.fault.RunFault.TheVariants.{Read, Write, NoMemory}
use Rattle.replay_program.specs.declared.session.Session.{Session}
use Rattle.replay_program.proofs.Transfers.{Keeps-same, Appends-none}
use Rattle.replay_program.proofs.progress.turn_outside.Goals as goal

pub returns-in_ok-carry_out-in-Order : goal.returns-in_ok-carry_out-in-Order
unfolding IsReading
returns-in_ok-carry_out-in-Order g c =
    let is = rw c.in-Order.is at c.in_ok-order.ensures in
    let done = c.in_ok-carry_out-in-Order.ensures in
    (done.0, done.1, inl (c.in-Order.order, is, done.2, refl))

OutsideFails-order : (s : Session) (l : Line) (o : Order) (number : ℕ) (old new : Option (List ℕ)) (e : RunFault) → order_of l ≡ Some o → OrderFails s o number old new e → OutsideFails s l number old new e
OutsideFails-order s l o number old new (fault.Line n) is f = (f.0, inr (o, is, f.1), f.2)
OutsideFails-order s l o number old new NoMemory is f = f
OutsideFails-order s l o number old new Write is f = tt
OutsideFails-order s l o number old new Read is f = f

pub returns-in_err-carry_out-in-Order : goal.returns-in_err-carry_out-in-Order
unfolding IsReading
returns-in_err-carry_out-in-Order g c =
    let is = rw c.in-Order.is at c.in_ok-order.ensures in
    let p = err_from_is_err_and c.from_residual-in_err-carry_out-in-Order.result c.from_residual-in_err-carry_out-in-Order.ensures.1 in
    rw (p.1, p.2) (OutsideFails-order c.args.session.now c.args.line.now c.in-Order.order c.args.number _ _ _ is c.in_err-carry_out-in-Order.ensures)

pub returns-in-Begins : goal.returns-in-Begins
unfolding IsReading
returns-in-Begins g c =
    let is = rw c.in-Begins.is at c.in_ok-order.ensures in
    ([], Appends-none _, inr (c.in-Begins.block, is, refl, refl, (refl, refl, ap Some c.new.ensures.bytes)))

pub returns-in-Fault : goal.returns-in-Fault
unfolding IsReading
returns-in-Fault g c =
    let is = rw c.in-Fault.is at c.in_ok-order.ensures in
    (refl, inl is, Keeps-same _)
