use Rattle.std.proofs.Common.{◌≡◌, true, false, sym, ◌∙◌, rules}
use Rattle.slp_text.specs.Keys.{trimmed_text}
use Rattle.slp_text.specs.Words.{bytes_eq}
use Rattle.directory_questions.proofs.NamedParts.{names-cut, names-last, or-true, or-other}
use Rattle.directory_questions.proofs.responders.names.Goals as goal

pub returns-then-eq : goal.returns-then-eq
returns-then-eq c =
    let text = c.args.text.now in
    let is : bytes_eq (trimmed_text c.in-Some.part.now) text ≡ true = search rules in
    sym (sym c.loop-part.invariant ∙ names-cut c.loop-part.rest.now c.in-Some.part.now c.in-Some.more.now text c.in-Some.ensures.0 c.in-Some.ensures.1 ∙ or-true _ _ is)

pub loop-part-preserved : goal.loop-part-preserved
loop-part-preserved c =
    let text = c.args.text.now in
    let is : bytes_eq (trimmed_text c.in-Some.part.now) text ≡ false = search rules in
    sym (names-cut c.loop-part.rest.now c.in-Some.part.now c.in-Some.more.now text c.in-Some.ensures.0 c.in-Some.ensures.1 ∙ or-other _ _ is) ∙ c.loop-part.invariant

pub returns : goal.returns
returns c =
    let is : c.eq-2.result ≡ bytes_eq (trimmed_text c.loop-part.rest.now) c.args.text.now = search rules in
    is ∙ sym (names-last c.loop-part.rest.now c.args.text.now c.in_default.ensures) ∙ c.loop-part.invariant
