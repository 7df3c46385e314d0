use Rattle.std.proofs.Common.{◌≡◌, ◌∷◌, false, ap, sym, ◌∙◌, ◌++◌, append_assoc, arith}
use Rattle.std.specs.Prelude.{option_to_list}
use Rattle.slp_text.specs.Words.{is_blank}
use Rattle.template_files.specs.Defaults.{refused_among, refused_default}
use Rattle.template_files.specs.Reading.{after_blanks, from_blank}
use Rattle.template_files.specs.Stops.{texts_of}
use Rattle.template_files.proofs.Blocks.{after_blanks-twice, first-filled, rest-shorter}
use Rattle.template_files.proofs.RefusedDefaults.{refused-after, refused-first}
use Rattle.template_files.proofs.defaults.refused_in.Goals as goal

pub loop-first-init : goal.loop-first-init
loop-first-init c = record {
  read = ap (λ ts. ts ++ refused_among (texts_of c.after_blanks-rest.result.now)) c.new-tags.ensures.items ∙ ap refused_among c.after_blanks-rest.ensures ∙ refused-after (texts_of c.args.lines.now);
  skipped = ap after_blanks c.after_blanks-rest.ensures ∙ after_blanks-twice (texts_of c.args.lines.now) ∙ sym c.after_blanks-rest.ensures;
}

pub loop-first-smaller : goal.loop-first-smaller
loop-first-smaller c =
    omega (arith, rest-shorter c.in-Some.more.now c.split_at_blank.result.1.now c.after_blanks-rest-in-Some.result.now c.split_at_blank.ensures.after c.after_blanks-rest-in-Some.ensures, c.in-Some.ensures.cases.1)

pub loop-first-preserved : goal.loop-first-preserved
loop-first-preserved c =
    let all : texts_of c.loop-first.rest.now ≡ c.in-Some.first.now.now ∷ texts_of c.in-Some.more.now = ap texts_of c.in-Some.ensures.cases.0 in
    let filled : is_blank c.in-Some.first.now.now ≡ false = first-filled _ _ (ap after_blanks (sym all) ∙ c.loop-first.invariant.skipped ∙ all) in
    let after : texts_of c.after_blanks-rest-in-Some.result.now ≡ after_blanks (from_blank (texts_of c.in-Some.more.now)) = c.after_blanks-rest-in-Some.ensures ∙ ap after_blanks c.split_at_blank.ensures.after in
    let one = c.in_ok-tag.ensures ∙ ap (refused_default c.in-Some.first.now.now) c.split_at_blank.ensures.before in
    record {
      read = ap (λ ts. ts ++ refused_among (texts_of c.after_blanks-rest-in-Some.result.now)) c.in_ok-push_tag.ensures
          ∙ append_assoc c.loop-first.tags.items (option_to_list c.in_ok-tag.tag) (refused_among (texts_of c.after_blanks-rest-in-Some.result.now))
          ∙ ap (λ ts. c.loop-first.tags.items ++ ts) (ap (λ ls. option_to_list c.in_ok-tag.tag ++ refused_among ls) after
          ∙ ap (λ o. option_to_list o ++ refused_among (after_blanks (from_blank (texts_of c.in-Some.more.now)))) one
          ∙ sym (refused-first c.in-Some.first.now.now (texts_of c.in-Some.more.now) filled) ∙ ap refused_among (sym all))
          ∙ c.loop-first.invariant.read;
      skipped = ap after_blanks c.after_blanks-rest-in-Some.ensures ∙ after_blanks-twice (texts_of c.split_at_blank.result.1.now) ∙ sym c.after_blanks-rest-in-Some.ensures;
    }
