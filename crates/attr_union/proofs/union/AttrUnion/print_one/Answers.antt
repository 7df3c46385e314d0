use Rattle.std.proofs.Common.{refl, sym, subst, ap, ◌∙◌, length, arith}
use Rattle.std.specs.Prelude.{string_bytes, slice_get}
use Rattle.std.proofs.lemmas.Option.{slice_get_read}
use Rattle.std.proofs.lemmas.Result.{IfOk-weaker}
use Rattle.attr_list.specs.Lists.{distinct_values, held_of}
use Rattle.attr_list.specs.Texts.{attribute_text}
use Rattle.attr_union.proofs.LentUnions.{at-union, len-union}
use Rattle.attr_union.specs.Rooms.{IsWrittenWithin}
use Rattle.attr_union.proofs.union.AttrUnion.print_one.Goals as goal

pub unreachable-requires : goal.unreachable-requires
unreachable-requires c =
    let past = c.in_default.ensures.lookup.3 in
    let many = len-union c.self.inside.tags.items c.args.self.now c.self.invariant c.self.view_is in
    let there = ap length c.deref.ensures.value in
    omega (arith, past, many, there, c.requires)

pub returns : goal.returns
returns c =
    let found = c.in-Some.ensures.lookup in
    let there = slice_get_read c.deref.result.now _ c.args.place c.in-Some.joined.now refl found.3.0 found.1 in
    IfOk-weaker c.append_attribute.result _ _ (λ u is. at-union c.self.inside.tags.items c.args.self.now c.args.place c.in-Some.joined.now (λ p. IsWrittenWithin c.args.room (string_bytes c.args.out.now) (attribute_text p.0 p.1) (string_bytes c.append_attribute.new.out)) c.self.invariant c.self.view_is
    (sym (ap (λ l. slice_get l c.args.place) c.deref.ensures.value) ∙ there) (subst (λ vs. IsWrittenWithin c.args.room (string_bytes c.args.out.now) (attribute_text c.in-Some.joined.now.tag (held_of (distinct_values vs))) (string_bytes c.append_attribute.new.out)) c.deref-2.ensures.value is)) c.append_attribute.ensures
