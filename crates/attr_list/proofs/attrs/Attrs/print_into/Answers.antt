use Rattle.std.proofs.Common.{◌≡◌, ◌++◌, ◌∙◌, sym, ap, length, arith}
use Rattle.std.specs.Prelude.{string_bytes}
use Rattle.std.proofs.lemmas.Str.{IsUtf8-string_bytes}
use Rattle.slp_text.proofs.Characters.{start_ends}
use Rattle.attr_list.proofs.StoredAttributes.{texts-stored}
use Rattle.attr_list.proofs.attrs.Attrs.print_into.Goals as goal

pub truncate-requires : goal.truncate-requires
truncate-requires c =
    let e = c.append_all.ensures.start in
    let n = c.len-before.ensures in
    let end = start_ends (string_bytes c.append_all.new.out) (string_bytes c.args.out.now) e.0 (IsUtf8-string_bytes c.append_all.new.out) (IsUtf8-string_bytes c.args.out.now) e.1 in
    let m : c.len-before.result ≡ length (string_bytes c.args.out.now) = omega arith in
    rw m (λ le. (end.0, λ above below. end.1 below))

pub returns-in-Ok-clause-ok : goal.returns-in-Ok-clause-ok
returns-in-Ok-clause-ok c = c.in-Ok.ensures.ok ∙ ap (λ t. string_bytes c.args.out.now ++ t) (sym (texts-stored c.args.self.now _ c.entries.ensures.value))
