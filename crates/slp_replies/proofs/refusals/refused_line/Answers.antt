use Rattle.std.proofs.Common.{List, ℕ, ap, subst, ◌∙◌}
use Rattle.access_rules.specs.Deciding.{no_rules}
use Rattle.slp_headers.specs.Headers.{heading_of}
use Rattle.directory_questions.specs.Outcomes.{refusal_outcome}
use Rattle.directory_questions.specs.Requests.{IsUnheard}
use Rattle.directory_questions.specs.declared.call.Call.{Call}
use Rattle.slp_replies.specs.Tellings.{line_of}
use Rattle.slp_replies.proofs.RefusalLines.{unheard_is}
use Rattle.slp_replies.proofs.refusals.refused_line.Goals as goal

abbrev refused : ℕ → List ℕ → List ℕ
refused asker bytes = line_of no_rules asker (heading_of bytes) (refusal_outcome (heading_of bytes))

pub returns-in-Some : goal.returns-in-Some
returns-in-Some c =
    c.refused_line_of.ensures
    ∙ (ap (λ (k : Call). refused k.asker k.bytes.now) c.in-Some.ensures ∙ (ap (λ (a : ℕ). refused a c.anywhere.result.bytes.now) c.anywhere.ensures.asker ∙ ap (refused c.args.asker) c.anywhere.ensures.bytes))

pub returns-in-None : goal.returns-in-None
returns-in-None c = c.new.ensures ∙ (unheard_is c.args.asker c.args.bytes.now (subst IsUnheard c.anywhere.ensures.bytes c.in-None.ensures)).0
