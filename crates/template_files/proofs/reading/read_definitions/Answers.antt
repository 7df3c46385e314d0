use Rattle.std.proofs.Common.{◌≡◌, false, true, cond, ap, length, sym, ◌∙◌, ◌∷◌, ◌++◌, [], Err, arith}
use Rattle.std.specs.List.{list_any}
use Rattle.std.specs.Ordering.{is_eq}
use Rattle.std.proofs.lemmas.List.{length-map}
use Rattle.std.proofs.lemmas.Map.Text.{is_eq-slice_cmp}
use Rattle.slp_text.specs.Words.{bytes_cmp, bytes_eq, is_blank}
use Rattle.template_files.specs.Reading.{after_blanks, blocks_of, definition_at, definitions_from, from_blank, is_defined}
use Rattle.template_files.specs.Stops.{texts_of}
use Rattle.template_files.proofs.Blocks.{after_blanks-twice, block-more, block-none, block-twice, blocks_of-after, first-filled, rest-shorter, is_defined-push, not_false, not_true}
use Rattle.template_files.proofs.reading.read_definitions.Goals as goal

pub loop-first-init : goal.loop-first-init
loop-first-init c = record {
  read = ap (λ ds. definitions_from ds (blocks_of (texts_of c.after_blanks-rest.result.now))) c.new-definitions.ensures.items ∙ ap (λ ls. definitions_from [] (blocks_of ls)) c.after_blanks-rest.ensures
      ∙ ap (definitions_from []) (blocks_of-after (texts_of c.args.lines.now));
  skipped = ap after_blanks c.after_blanks-rest.ensures ∙ after_blanks-twice (texts_of c.args.lines.now) ∙ sym c.after_blanks-rest.ensures;
  tags = λ tag. ap (λ ks. list_any (λ k. is_eq (bytes_cmp tag k)) ks) c.new-tags.ensures.empty ∙ sym (ap (λ ds. is_defined ds tag) c.new-definitions.ensures.items);
}

pub returns-in-None : goal.returns-in-None
returns-in-None c =
    let all : texts_of c.loop-first.rest.now ≡ c.in-Some.first.now.now ∷ texts_of c.in-Some.more.now = ap texts_of c.in-Some.ensures.cases.0 in
    let filled : is_blank c.in-Some.first.now.now ≡ false = first-filled _ _ (ap after_blanks (sym all) ∙ c.loop-first.invariant.skipped ∙ all) in
    let count : length (texts_of c.loop-first.rest.now) ≡ length c.loop-first.rest.now = length-map c.loop-first.rest.now (λ l. l.now) in
    sym c.loop-first.invariant.read ∙ ap (λ ls. definitions_from c.loop-first.definitions.items (blocks_of ls)) all
    ∙ block-none c.in-Some.first.now.now (texts_of c.in-Some.more.now) filled c.loop-first.definitions.items (sym c.in-None.is ∙ c.in_ok-definition.ensures ∙ ap (definition_at c.in-Some.first.now.now) c.split_at_blank.ensures.before)
    ∙ ap Err (ap length (sym all) ∙ count)

pub returns-then-not-branch : goal.returns-then-not-branch
returns-then-not-branch c =
    let all : texts_of c.loop-first.rest.now ≡ c.in-Some.first.now.now ∷ texts_of c.in-Some.more.now = ap texts_of c.in-Some.ensures.cases.0 in
    let filled : is_blank c.in-Some.first.now.now ≡ false = first-filled _ _ (ap after_blanks (sym all) ∙ c.loop-first.invariant.skipped ∙ all) in
    let count : length (texts_of c.loop-first.rest.now) ≡ length c.loop-first.rest.now = length-map c.loop-first.rest.now (λ l. l.now) in
    let held : is_defined c.loop-first.definitions.items c.in_ok-tag.tag ≡ true = sym (c.loop-first.invariant.tags c.in_ok-tag.tag) ∙ not_false _ (sym c.in_ok-insert.ensures.added ∙ c.if-not-branch.true) in
    sym c.loop-first.invariant.read ∙ ap (λ ls. definitions_from c.loop-first.definitions.items (blocks_of ls)) all
    ∙ block-twice c.in-Some.first.now.now (texts_of c.in-Some.more.now) filled c.loop-first.definitions.items c.in-Some-2.definition
    (sym c.in-Some-2.is ∙ c.in_ok-definition.ensures ∙ ap (definition_at c.in-Some.first.now.now) c.split_at_blank.ensures.before)
    (ap (is_defined c.loop-first.definitions.items) (sym c.in_ok-tag.ensures) ∙ held)
    ∙ ap Err (ap length (sym all) ∙ count)

pub loop-first-smaller : goal.loop-first-smaller
loop-first-smaller c =
    omega (arith, rest-shorter c.in-Some.more.now c.split_at_blank.result.1.now c.after_blanks-rest-in-Some.result.now c.split_at_blank.ensures.after c.after_blanks-rest-in-Some.ensures, c.in-Some.ensures.cases.1)

pub loop-first-preserved : goal.loop-first-preserved
loop-first-preserved c =
    let all : texts_of c.loop-first.rest.now ≡ c.in-Some.first.now.now ∷ texts_of c.in-Some.more.now = ap texts_of c.in-Some.ensures.cases.0 in
    let filled : is_blank c.in-Some.first.now.now ≡ false = first-filled _ _ (ap after_blanks (sym all) ∙ c.loop-first.invariant.skipped ∙ all) in
    let free : is_defined c.loop-first.definitions.items c.in_ok-tag.tag ≡ false = sym (c.loop-first.invariant.tags c.in_ok-tag.tag) ∙ not_true _ (sym c.in_ok-insert.ensures.added ∙ c.if-not-branch.false) in
    let after : texts_of c.after_blanks-rest-in-Some.result.now ≡ after_blanks (from_blank (texts_of c.in-Some.more.now)) = c.after_blanks-rest-in-Some.ensures ∙ ap after_blanks c.split_at_blank.ensures.after in
    record {
      read = ap (λ ds. definitions_from ds (blocks_of (texts_of c.after_blanks-rest-in-Some.result.now))) c.in_ok-push.ensures.items
          ∙ ap (λ ls. definitions_from (c.loop-first.definitions.items ++ c.in-Some-2.definition ∷ []) (blocks_of ls)) after
          ∙ block-more c.in-Some.first.now.now (texts_of c.in-Some.more.now) filled c.loop-first.definitions.items c.in-Some-2.definition
          (sym c.in-Some-2.is ∙ c.in_ok-definition.ensures ∙ ap (definition_at c.in-Some.first.now.now) c.split_at_blank.ensures.before)
          (ap (is_defined c.loop-first.definitions.items) (sym c.in_ok-tag.ensures) ∙ free)
          ∙ ap (λ ls. definitions_from c.loop-first.definitions.items (blocks_of ls)) (sym all) ∙ c.loop-first.invariant.read;
      skipped = ap after_blanks c.after_blanks-rest-in-Some.ensures ∙ after_blanks-twice (texts_of c.split_at_blank.result.1.now) ∙ sym c.after_blanks-rest-in-Some.ensures;
      tags = λ tag. c.in_ok-insert.ensures.updates.0 tag
          ∙ ap (λ b. cond (is_eq (bytes_cmp c.in_ok-tag.tag tag)) true b) (c.loop-first.invariant.tags tag)
          ∙ ap (λ b. cond b true (is_defined c.loop-first.definitions.items tag)) (is_eq-slice_cmp c.in_ok-tag.tag tag ∙ ap (λ t. bytes_eq t tag) c.in_ok-tag.ensures)
          ∙ sym (is_defined-push c.loop-first.definitions.items c.in-Some-2.definition tag) ∙ sym (ap (λ ds. is_defined ds tag) c.in_ok-push.ensures.items);
    }
