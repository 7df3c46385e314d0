use Rattle.std.proofs.Common.{◌∙◌, ap, map}
use Rattle.attr_list.specs.Lists.{attributes_of}
use Rattle.attr_union.specs.Unions.{piece_element}
use Rattle.attr_union.proofs.LentUnions.{joined-is, joined-union}
use Rattle.attr_union.proofs.pieces.Gathering.join.Goals as goal

pub of-requires : goal.of-requires
of-requires c = joined-union (map piece_element c.self.inside.pieces.items) c.in_ok-named.named c.in_ok-tags.tags.items c.self.invariant c.in_ok-named.ensures c.in_ok-tags.ensures.ordered c.in_ok-tags.ensures.value

pub returns : goal.returns
returns c =
    c.of.ensures
    ∙ joined-is (map piece_element c.self.inside.pieces.items) c.in_ok-named.named c.in_ok-tags.tags.items c.self.invariant c.in_ok-named.ensures c.in_ok-tags.ensures.ordered c.in_ok-tags.ensures.value
    ∙ ap attributes_of c.self.view_is
