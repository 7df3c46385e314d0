use Rattle.std.proofs.Common.{◌≡◌, ◌<◌, ◌^◌, drop}
use Rattle.addresses.specs.Addresses.{number_of, number_from}
use Rattle.addresses.proofs.address.number.Given as goal

-- what is still to come, after the value so far, is the number
abbrev pub invariant-loop-x : goal.invariant-loop-x
invariant-loop-x l = (l.value < 2 ^ 32) × (number_from l.value (drop l.x-index l.digits) ≡ number_of l.digits)
