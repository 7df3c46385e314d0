use Rattle.std.proofs.Common.{append_assoc}
use Rattle.site_check.proofs.Written.{written_after}
use Rattle.site_check.proofs.problem.print_problem.Goals as goal

pub returns-in_ok-write-in-UnknownKey : goal.returns-in_ok-write-in-UnknownKey
returns-in_ok-write-in-UnknownKey g c = rw c.in-UnknownKey.is (written_after c.print_text-in-UnknownKey.result _ _ _ _ _ c.in_ok-write-in-UnknownKey.ensures.bytes c.print_text-in-UnknownKey.ensures)

pub returns-in-EarlyHides : goal.returns-in-EarlyHides
returns-in-EarlyHides g c = rw c.in-EarlyHides.is c.write-in-EarlyHides.ensures.bytes

pub returns-in-Missing : goal.returns-in-Missing
returns-in-Missing g c = rw c.in-Missing.is c.write-in-Missing.ensures.bytes

pub returns-in-TooManyRules : goal.returns-in-TooManyRules
returns-in-TooManyRules g c = rw c.in-TooManyRules.is c.write-in-TooManyRules.ensures.bytes

pub returns-in-TooManyTogether : goal.returns-in-TooManyTogether
returns-in-TooManyTogether g c = rw c.in-TooManyTogether.is c.write-in-TooManyTogether.ensures.bytes

pub returns-in-NotTable : goal.returns-in-NotTable
returns-in-NotTable g c = rw c.in-NotTable.is c.write-in-NotTable.ensures.bytes

pub returns-in-SameName : goal.returns-in-SameName
returns-in-SameName g c = rw c.in-SameName.is c.write-in-SameName.ensures.bytes

pub returns-in-SameType : goal.returns-in-SameType
returns-in-SameType g c = rw c.in-SameType.is c.write-in-SameType.ensures.bytes

pub returns-in-Again : goal.returns-in-Again
returns-in-Again g c = rw c.in-Again.is (simp append_assoc c.write-in-Again.ensures.bytes)
