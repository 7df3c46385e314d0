use Rattle.std.proofs.Common.{◌≡◌, sym, subst, rules}
use Rattle.std.specs.Prelude.{IfOk}
use Rattle.template_files.proofs.TypeNames.{type-named}
use Rattle.template_files.proofs.reading.read_type_line.Goals as goal

pub returns-in-Some : goal.returns-in-Some
returns-in-Some c = subst (λ t. IfOk c.type_name.result (λ o. o ≡ t)) (sym (type-named c.args.line.now c.in-Some.value.now (search rules))) c.type_name.ensures
