use Rattle.std.proofs.Common.{◌≡◌, ◌++◌, refl, length, arith}
use Rattle.std.specs.Prelude.{string_bytes}
use Rattle.std.proofs.lemmas.Option.{slice_get_read}
use Rattle.std.proofs.lemmas.Str.{IsUtf8-string_bytes}
use Rattle.slp_text.proofs.Characters.{start_ends}
use Rattle.attr_list.specs.Texts.{attribute_text}
use Rattle.attr_list.proofs.StoredAttributes.{entry-stored, place-stored}
use Rattle.attr_list.proofs.attrs.Attrs.print_one.Goals as goal

pub truncate-requires : goal.truncate-requires
truncate-requires c =
    let e = c.append_attribute.ensures.start in
    let n = c.len-before.ensures in
    let end = start_ends (string_bytes c.append_attribute.new.out) (string_bytes c.args.out.now) e.0 (IsUtf8-string_bytes c.append_attribute.new.out) (IsUtf8-string_bytes c.args.out.now) e.1 in
    let m : c.len-before.result ≡ length (string_bytes c.args.out.now) = omega arith in
    rw m (λ le. (end.0, λ above below. end.1 below))

pub returns-in-Ok-clause-ok : goal.returns-in-Ok-clause-ok
returns-in-Ok-clause-ok c =
    let found = c.in-Some.ensures.lookup in
    let there = slice_get_read c.entries.result.now _ c.args.place c.in-Some.entry.now refl found.3.0 found.1 in
    entry-stored c.args.self.now _ c.args.place c.in-Some.entry.now (λ p. string_bytes c.append_attribute.new.out ≡ string_bytes c.args.out.now ++ attribute_text p.0 p.1) c.entries.ensures.value there c.in-Ok.ensures.ok

pub unreachable-requires : goal.unreachable-requires
unreachable-requires c =
    let past = c.in_default.ensures.lookup.3 in
    let below = place-stored c.args.self.now _ c.args.place c.entries.ensures.value c.requires in
    omega arith
