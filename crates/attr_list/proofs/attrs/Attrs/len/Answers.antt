use Rattle.std.proofs.Common.{◌≡◌, ◌∙◌, subst, length, rules}
use Rattle.attr_list.specs.Texts.{AreAttributes}
use Rattle.attr_list.proofs.StoredAttributes.{are_attributes, len-stored}
use Rattle.attr_list.proofs.attrs.Attrs.len.Goals as goal

pub returns-clause-value : goal.returns-clause-value
returns-clause-value c =
    let count : c.len.result ≡ length c.self.inside.entries.items = search rules in
    count ∙ len-stored _ c.args.self.now c.self.invariant c.self.view_is

pub returns-clause-kind : goal.returns-clause-kind
returns-clause-kind c = subst AreAttributes c.self.view_is (are_attributes _ c.self.invariant)
