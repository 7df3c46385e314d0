-- What is told of what is heard: what was sent, and the line of it.
use Rattle.std.specs.Prelude.{◌≡◌, ℕ, List, [], Option, Some, None}
use Rattle.std.specs.Option.{option_map_or}
use Rattle.slp_headers.specs.Headers.{Heading, heading_in}
use Rattle.access_rules.specs.Deciding.{SiteRules}
use Rattle.directory_judge.specs.Judgements.{by_step, code_by}
use Rattle.directory_judge.specs.declared.reason.Because.{Because}
use Rattle.directory_judge.specs.declared.reason.Decider.TheVariants as decider
use Rattle.directory_questions.specs.Answers.{language_outcome}
use Rattle.directory_questions.specs.Outcomes.{Outcome, code_outcome, code_sent, silence}
use Rattle.directory_questions.specs.Requests.{action_of}
use Rattle.directory_questions.specs.declared.query.QueryFault.{QueryFault}
use Rattle.directory_questions.specs.declared.query.QueryFault.TheVariants.{Scope, Language, NoMemory}
use Rattle.slp_replies.specs.Audits.{audit_text}
use Rattle.slp_replies.specs.declared.answer.Sent.{Sent}
use Rattle.slp_replies.specs.declared.answer.Sent.TheVariants as sent
use Rattle.slp_replies.specs.declared.copies.Audit.{Audit}
use Rattle.slp_replies.specs.declared.replies.Reply.{Reply}

-- ---- the line

-- what the line tells: a code and why, what was asked for, and by whom
abbrev pub audit_in : ℕ → Heading → ℕ × Because → Audit
audit_in asker h v = record { code = v.0; because = v.1; action = action_of h; asker = asker }

-- the line of an outcome, where there is a verdict
abbrev pub line_by : SiteRules → ℕ → Heading → Outcome → List ℕ
line_by rs asker h r = option_map_or (λ v. audit_text rs (audit_in asker h v)) r.verdict []

-- the line of the log for an outcome; none where not even a heading was read
abbrev pub line_of : SiteRules → ℕ → Option Heading → Outcome → List ℕ
line_of rs asker heading r = option_map_or (λ h. line_by rs asker h r) heading []

-- what is told of what was decided
abbrev pub outcome_of_finding : Heading → ℕ × Because → Outcome
outcome_of_finding h found = code_outcome h found.0 found.1

-- what is told of a question about a type, if it is about one, that is refused; of want of memory nothing is told this way
abbrev pub query_fault_outcome : Heading → Option (List ℕ) → QueryFault → Outcome
query_fault_outcome h kind Scope = code_outcome h (code_by decider.Scope) (by_step decider.Scope kind)
query_fault_outcome h kind Language = language_outcome h kind
query_fault_outcome h kind NoMemory = silence

-- ---- what the code answers

-- the code of what was sent, if anything was
abbrev pub code_of : Sent → Option ℕ
code_of (sent.Bytes code) = Some code
code_of sent.Silence = None

-- what was sent, and written as a reply and as a line, is the outcome
pub record Tells (rs : SiteRules) (asker : ℕ) (heading : Option Heading) (r : Outcome) (what : Sent)
    (reply line : List ℕ) : Type 0 where
  pub replied : reply ≡ r.reply
  pub lined : line ≡ line_of rs asker heading r
  pub sent : code_of what ≡ code_sent r

-- the same of what is heard
abbrev pub TellsOf : Reply → Outcome → Sent → List ℕ → List ℕ → Type 0
TellsOf to r what reply line = Tells to.rules.now to.heard.now.call.now.asker (Some (heading_in to.heard.now.header)) r what reply line
