use Rattle.std.proofs.Common.{rules, ◌≡◌, ℕ, Bool, true, false, cond, List, [], ◌++◌, Some, None, sym, ap, refl, ◌∙◌}
use Rattle.std.specs.BTreeMap as tree
use Rattle.std.specs.BTreeMap.{BTreeMap}
use Rattle.std.specs.Cmp.Lexicographic.{texts_ties}
use Rattle.std.specs.Option.{option_map}
use Rattle.std.specs.Ordering.{is_eq}
use Rattle.std.specs.Prelude.{unwrap_or, vec_items}
use Rattle.std.specs.declared.vec.Vec.{Vec}
use Rattle.slp_text.specs.Words.{bytes_cmp, bytes_eq}
use Rattle.slp_text.proofs.KeySets.{bytes_same}
use Rattle.attr_values.specs.declared.value.Value.{Value}
use Rattle.attr_list.specs.Lists.{values_in}
use Rattle.attr_union.specs.Gathering.{values_at, values_with}
use Rattle.attr_union.proofs.gathering.add.Goals as goal

-- a tag has these values more
module _ {A : Type 0} (old new : BTreeMap (List ℕ) (Vec Value A)) (tag : List ℕ) (values : List Value) (all : Vec Value A) (there : (q : List ℕ) → tree.get bytes_cmp new q ≡ cond (is_eq (bytes_cmp tag q)) (Some all) (tree.get bytes_cmp old q)) (joined : vec_items all ≡ unwrap_or (values_at old tag) [] ++ values) where
  at_tag : (q : List ℕ) (b : Bool) → bytes_eq tag q ≡ b → option_map vec_items (cond b (Some all) (tree.get bytes_cmp old q)) ≡ cond b (Some (unwrap_or (values_at old q) [] ++ values)) (values_at old q)
  at_tag q true e = ap Some (joined ∙ ap (λ t. unwrap_or (values_at old t) [] ++ values) (bytes_same tag q e))
  at_tag q false e = refl

  grown : (q : List ℕ) → values_at new q ≡ values_with (values_at old) (record { tag = tag; values = values }) q
  grown q = ap (option_map vec_items) (there q ∙ ap (λ b. cond b (Some all) (tree.get bytes_cmp old q)) (sym (texts_ties tag q))) ∙ at_tag q (bytes_eq tag q) refl

pub returns-in_ok-lend-in-Some : goal.returns-in_ok-lend-in-Some
returns-in_ok-lend-in-Some c =
    let old = c.args.named.now in
    let tag = c.args.piece.tag.now in
    let all = c.lend.new.all in
    let there : tree.get bytes_cmp old tag ≡ Some c.in-Some.all.now = sym c.in-Some.ensures.value in
    let before = ap (λ o. unwrap_or (option_map vec_items o) []) (sym there) in
    grown old (c.get_mut.follows.lender all) tag (values_in c.args.piece.held.now) all ((c.get_mut.follows.holds all).3 (search rules)).0
    (c.in_ok-lend-in-Some.ensures ∙ ap (λ vs. vs ++ c.values.result.now) before ∙ ap (λ vs. unwrap_or (values_at old tag) [] ++ vs) c.values.ensures)

pub returns-in_ok-insert-in-None : goal.returns-in_ok-insert-in-None
returns-in_ok-insert-in-None c =
    let old = c.args.named.now in
    let tag = c.args.piece.tag.now in
    let same : c.get_mut.follows.lender-at-none ≡ old = c.get_mut.follows.holds-at-none in
    let none : tree.get bytes_cmp old tag ≡ None = sym c.in-None.ensures.value in
    let nothing = ap (λ o. unwrap_or (option_map vec_items o) []) (sym none) in
    grown old c.insert.new.self tag (values_in c.args.piece.held.now) c.lend-in-None.new.all
    (λ q. c.in_ok-insert-in-None.ensures.updates.0 q ∙ ap (λ m. cond (is_eq (bytes_cmp tag q)) (Some c.lend-in-None.new.all) (tree.get bytes_cmp m q)) same)
    (c.in_ok-lend-in-None.ensures ∙ ap (λ vs. vs ++ c.values-in-None.result.now) (c.new-all.ensures.items ∙ nothing) ∙ ap (λ vs. unwrap_or (values_at old tag) [] ++ vs) c.values-in-None.ensures)
