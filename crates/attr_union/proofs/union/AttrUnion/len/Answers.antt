use Rattle.std.proofs.Common.{◌≡◌, ◌∙◌, length, rules}
use Rattle.std.specs.Prelude.{vec_len}
use Rattle.attr_union.proofs.LentUnions.{len-union}
use Rattle.attr_union.proofs.union.AttrUnion.len.Goals as goal

pub returns : goal.returns
returns c =
    let count : vec_len c.self.inside.tags ≡ length c.self.inside.tags.items = search rules in
    c.len.ensures ∙ count ∙ len-union c.self.inside.tags.items c.args.self.now c.self.invariant c.self.view_is
