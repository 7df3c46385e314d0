-- Which history an agent and a session stand for, and what a datagram does to it.
use Rattle.std.specs.Prelude.{◌≡◌, ◌⊎◌, ℕ, ◌-◌, Bool, true, false, IsTrue, List, ◌++◌, Option, MatchOption, MatchResult, Result, Ok, Err}
use Rattle.std.specs.Io.KnownBytes.{Appends, Keeps}
use Rattle.replay_program.specs.OpeningRules.{opening_rules}
use Rattle.access_rules.specs.Deciding.{SiteRules, number}
use Rattle.rule_files.specs.declared.fault.RuleFault.{RuleFault}
use Rattle.slp_headers.specs.Headers.{heading_of}
use Rattle.directory_judge.specs.History.{Event}
use Rattle.directory_state.specs.Folds.{Fold}
use Rattle.directory_judge.specs.Meaning.{rules}
use Rattle.directory_questions.specs.Answers.{IsAnswer}
use Rattle.directory_questions.specs.Outcomes.{Outcome}
use Rattle.directory_questions.specs.Verdicts.{IsLegal, history_with}
use Rattle.slp_replies.specs.Tellings.{Tells}
use Rattle.slp_replies.specs.declared.answer.Sent.{Sent}
use Rattle.slp_stream.specs.Cutting.{front_of, IsCut}
use Rattle.slp_stream.specs.Framing.{Frames}
use Rattle.slp_script.specs.Commands.{Command}
use Rattle.replay_program.specs.Worlds.{World, opening_of, call_of, Answers, AnswersAll, Pieces, Does, closed_text, configured_world, is_loop, templated_world, end_text, end_refused, longest_on_stream, reloaded_world}
use Rattle.srv_template.specs.Conformity.{SiteTemplates}
use Rattle.srv_template.specs.declared.fault.ParseFault.{ParseFault}
use Rattle.site_config.specs.declared.config.Config.{Config}
use Rattle.site_config.specs.declared.fault.ConfigFault.{ConfigFault}
use Rattle.replay_program.specs.declared.agent.Agent.{Agent}
use Rattle.replay_program.specs.declared.fault.RunFault.{RunFault}
use Rattle.replay_program.specs.declared.fault.RunFault.TheVariants as fault
use Rattle.replay_program.specs.declared.session.Session.{Session}

-- the agent is one to which this happened
pub record IsAgent (w : World) (a : Agent) : Type 0 where
  pub legal : IsLegal (opening_of w) w.history
  pub fold : Fold (opening_of w) w.history a.directory
  pub listen : a.listen ≡ w.listen
  pub loop : a.loop_index ≡ w.loop
  pub moment : a.moment ≡ w.moment
  pub asker : a.asker ≡ w.asker

-- and so is the session, in which this came of the stream
pub record Holds (w : World) (s : Session) : Type 0 where
  pub agent : IsAgent w s.agent
  pub stream : s.stream ≡ w.stream
  pub limit : s.stream.limit ≡ longest_on_stream
  pub late : s.late ≡ w.late

-- what came of a message, answered in at most so many bytes: what was sent, the reply and the audit line, and the agent after it
pub record Takes (limit : ℕ) (w : World) (bytes : List ℕ) (what : Sent) (reply line : List ℕ) (a : Agent) : Type 0 where
  pub outcome : Outcome
  pub event : Option Event
  pub is : IsAnswer (opening_of w) w.history (call_of limit w bytes) outcome event
  pub told : Tells (rules opening_rules w.history) w.asker (heading_of bytes) outcome what reply line
  pub holds : IsAgent (record w { history = history_with event w.history }) a

-- something is written of which this holds; or writing failed, or there was no memory and nothing is written
abbrev pub Writes : Option (List ℕ) → Option (List ℕ) → (List ℕ → Type 0) → Result (Unit {0}) RunFault → Type 0
Writes old new holds told = MatchResult told (λ _. (now : List ℕ) × Appends old new now × holds now) (λ e. (e ≡ fault.Write) ⊎ ((e ≡ fault.NoMemory) × Keeps old new))

-- what a command may write and make of a session, whatever happened to it before
abbrev pub Acts : Session → Command → List ℕ → Session → Type 0
Acts s c now t = (w : World) → Holds w s → (v : World) × Does w c now v × Holds v t

-- what a message that is answered in at most so many bytes may write and make of an agent
abbrev pub Meets : ℕ → Agent → List ℕ → List ℕ → Agent → Type 0
Meets limit a bytes now b = (w : World) → IsAgent w a → (v : World) × Answers limit w bytes now v × IsAgent v b

-- what a piece of the stream may write and make of a session
abbrev pub TakesPiece : Session → List ℕ → List ℕ → Session → Type 0
TakesPiece s bytes now t = (w : World) → Holds w s → (v : World) × MatchOption w.stream.refused (Pieces w bytes now v) (λ _. (now ≡ closed_text) × (v ≡ w)) × Holds v t

-- what the messages that wait in a framer may write and make of an agent, and what they leave of the framer
abbrev pub Drains : Agent → Frames → List ℕ → Agent → Frames → Type 0
Drains a f now b g = (w : World) → IsAgent w a
    → (ms : List (List ℕ)) × (rest : List ℕ) × IsCut f.limit f.waiting ms rest
    × (u : World) × (said : List ℕ) × AnswersAll w ms said u
    × (now ≡ said ++ end_text (front_of f.limit rest))
    × (g ≡ record { limit = f.limit; waiting = rest; refused = end_refused (front_of f.limit rest) })
    × IsAgent u b

-- what came of the number of a loop, and the agent after it: at that loop, or the one that it was where no such loop is listened on
abbrev pub MovesTo : World → ℕ → Bool → Agent → Type 0
MovesTo w n true a = IsTrue (is_loop w n) × IsAgent (record w { loop = n - 1 }) a
MovesTo w n false a = (is_loop w n ≡ false) × IsAgent w a

-- what came of a configuration, and the agent after it: that of the new site, or the one that it was
abbrev pub ConfiguresTo : World → Result Config ConfigFault → Result (Unit {0}) ConfigFault → Agent → Type 0
ConfiguresTo w (Ok c) told a = (told ≡ Ok tt) × IsAgent (configured_world c w) a
ConfiguresTo w (Err e) told a = (told ≡ Err e) × IsAgent w a

-- what came of a template, and the agent after it: that of the site with these templates, or the one that it was
abbrev pub AddsTo : World → Result SiteTemplates ParseFault → Result (Unit {0}) ParseFault → Agent → Type 0
AddsTo w (Ok templates) told a = (told ≡ Ok tt) × IsAgent (templated_world templates w) a
AddsTo w (Err e) told a = (told ≡ Err e) × IsAgent w a

-- what came of a rule file, and the agent after it: that of the reload, or the one that it was
abbrev pub ReloadsTo : World → Result SiteRules RuleFault → Result ℕ RuleFault → Agent → Type 0
ReloadsTo w (Ok rs) told a = (told ≡ Ok (number rs)) × IsAgent (reloaded_world rs w) a
ReloadsTo w (Err e) told a = (told ≡ Err e) × IsAgent w a
