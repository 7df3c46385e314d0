use Rattle.std.proofs.Common.{◌≡◌, length, arith}
use Rattle.std.specs.Prelude.{string_bytes}
use Rattle.std.proofs.lemmas.Str.{IsUtf8-string_bytes}
use Rattle.slp_text.proofs.Characters.{start_ends}
use Rattle.slp_scopes.proofs.scopes.ScopeList.print_into.Goals as goal

pub truncate-requires : goal.truncate-requires
truncate-requires c =
    let e = c.append_printed-done.ensures.start in
    let n = c.len-before.ensures in
    let end = start_ends (string_bytes c.append_printed-done.new.out) (string_bytes c.args.out.now) e.0 (IsUtf8-string_bytes c.append_printed-done.new.out) (IsUtf8-string_bytes c.args.out.now) e.1 in
    let m : c.len-before.result ≡ length (string_bytes c.args.out.now) = omega arith in
    rw m (λ le. (end.0, λ above below. end.1 below))
