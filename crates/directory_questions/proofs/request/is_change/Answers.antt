use Rattle.std.proofs.Common.{ap, sym, ◌∙◌, false}
use Rattle.std.specs.Option.{option_map_or}
use Rattle.slp_headers.specs.Headers.{Heading}
use Rattle.directory_questions.specs.Answers.{is_change_of}
use Rattle.directory_questions.specs.Requests.{is_change_function}
use Rattle.directory_questions.proofs.Requests.{unanswered_still}
use Rattle.directory_questions.proofs.request.is_change.Goals as goal

pub returns-in-Some-of : goal.returns-in-Some-of
unfolding is_change_of
returns-in-Some-of c =
    c.is_change.ensures ∙ ap is_change_function c.in-Some-of.ensures.some ∙ sym (ap (λ o. option_map_or (λ (h : Heading). is_change_function h.function) o false) c.in-Some.ensures)

pub returns-in-None-of : goal.returns-in-None-of
unfolding is_change_of
returns-in-None-of c =
    sym (unanswered_still c.in-Some.header.function c.in-None-of.ensures.none) ∙ sym (ap (λ o. option_map_or (λ (h : Heading). is_change_function h.function) o false) c.in-Some.ensures)

pub returns-in-None : goal.returns-in-None
unfolding is_change_of
returns-in-None c = sym (ap (λ o. option_map_or (λ (h : Heading). is_change_function h.function) o false) c.in-None.ensures)
