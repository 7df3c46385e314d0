-- What each command makes of a session.
use Rattle.std.proofs.Common.{◌≡◌, ◌⊎◌, ℕ, ◌+◌, ◌-◌, Bool, true, false, List, [], ◌∷◌, ◌++◌, codes, Option, Some, None, Result, Ok, Err, refl, sym, ap, ap₂, subst, ◌∙◌, inl, inr}
use Rattle.std.specs.Prelude.{MatchResult}
use Rattle.directory_questions.specs.Verdicts.{history_with}
use Rattle.slp_replies.specs.declared.answer.Sent.{Sent}
use Rattle.slp_script.specs.Commands.{Single}
use Rattle.slp_script.specs.declared.command.Order.TheVariants.{At, From, Loop, Udp, Open, Tcp, Sweep}
use Rattle.slp_script.specs.declared.command.Block.{Block}
use Rattle.slp_script.specs.declared.command.Block.TheVariants as block
use Rattle.replay_program.specs.Sessions.{Holds, IsAgent, Takes, TakesPiece, Acts, Meets, AddsTo, ConfiguresTo, MovesTo, ReloadsTo}
use Rattle.site_reports.specs.Reports.{config_text, rules_text, template_text}
use Rattle.replay_program.specs.Worlds.{World, Adds, Answers, Configures, Reloads, late_text, reloaded_world, swept_world, templated_world, templates_with, no_memory_text, answer_text, new_stream, longest_reply, late_world, configured_world}
use Rattle.replay_program.specs.Turns.{Closes, Turns, TurnsTo, TurnsOutside, TurnsInside}
use Rattle.replay_program.specs.declared.progress.OpenBlock.{OpenBlock}
use Rattle.replay_program.specs.declared.progress.Progress.{Progress}
use Rattle.replay_program.specs.declared.agent.Agent.{Agent}
use Rattle.replay_program.specs.declared.session.Session.{Session}
use Rattle.access_rules.specs.Deciding.{SiteRules}
use Rattle.rule_files.specs.RuleFiles.{rules_in_text}
use Rattle.rule_files.specs.declared.fault.RuleFault.{RuleFault}
use Rattle.rule_files.specs.declared.fault.RuleFault.TheVariants as rule_fault
use Rattle.slp_stream.specs.Framing.{Frames}
use Rattle.std.specs.Option.{option_map_or}
use Rattle.site_config.specs.Configurations.{config_of}
use Rattle.site_config.specs.declared.config.Config.{Config}
use Rattle.site_config.specs.declared.fault.ConfigFault.{ConfigFault}
use Rattle.site_config.specs.declared.fault.ConfigFault.TheVariants.{Range}
use Rattle.slp_text.specs.Ascii.{line_feed}
use Rattle.srv_template.specs.Conformity.{SiteTemplates}
use Rattle.template_files.specs.Reading.{template_in}
use Rattle.srv_template.specs.declared.fault.ParseFault.{ParseFault}
use Rattle.srv_template.specs.declared.fault.ParseFault.TheVariants as template

-- the agent does not know of the stream, nor whether it is too late for another site
pub IsAgent-beside : (w : World) (f : Frames) (late : Bool) (a : Agent) → IsAgent w a → IsAgent (record w { stream = f; late = late }) a
IsAgent-beside w f late a h = record { legal = h.legal; fold = h.fold; listen = h.listen; loop = h.loop; moment = h.moment; asker = h.asker }

pub Answers-beside : (limit : ℕ) (w : World) (m out : List ℕ) (v : World) → Answers limit w m out v → (v.stream ≡ w.stream) × (v.late ≡ w.late)
Answers-beside limit w m out v (inl a) = (ap (λ (x : World). x.stream) a.4, ap (λ (x : World). x.late) a.4)
Answers-beside limit w m out v (inr a) = (ap (λ (x : World). x.stream) a.1, ap (λ (x : World). x.late) a.1)

pub Acts-at : (s t : Session) (m : ℕ) → t ≡ record s { agent = record s.agent { moment = m } } → Acts s (Single (At m)) [] t
Acts-at s t m e = λ w h. (record w { moment = m }, (refl, refl), rw e (record { agent = record { legal = h.agent.legal; fold = h.agent.fold; listen = h.agent.listen; loop = h.agent.loop; moment = refl; asker = h.agent.asker }; stream = h.stream; limit = h.limit; late = h.late }))

pub Acts-from : (s t : Session) (a : ℕ) → t ≡ record s { agent = record s.agent { asker = a } } → Acts s (Single (From a)) [] t
Acts-from s t a e = λ w h. (record w { asker = a }, (refl, refl), rw e (record { agent = record { legal = h.agent.legal; fold = h.agent.fold; listen = h.agent.listen; loop = h.agent.loop; moment = h.agent.moment; asker = refl }; stream = h.stream; limit = h.limit; late = h.late }))

pub Acts-loop : (s : Session) (n : ℕ) (b : Agent) → ((w : World) → IsAgent w s.agent → MovesTo w n true b) → Acts s (Single (Loop n)) [] (record s { agent = b })
Acts-loop s n b moves = λ w h.
    let t = moves w h.agent in
    (record w { loop = n - 1 }, (t.0, refl, refl), record { agent = t.1; stream = h.stream; limit = h.limit; late = h.late })

pub Acts-open : (s t : Session) → t ≡ record s { stream = new_stream } → Acts s (Single Open) [] t
Acts-open s t e = λ w h. (record w { stream = new_stream }, (refl, refl), rw e (record { agent = IsAgent-beside w new_stream w.late s.agent h.agent; stream = refl; limit = refl; late = h.late }))

-- from now on it is too late for another site
Holds-late_world : (w : World) (s : Session) → Holds w s → Holds (late_world w) (record s { late = true })
Holds-late_world w s h = record { agent = IsAgent-beside w w.stream true s.agent h.agent; stream = h.stream; limit = h.limit; late = refl }

pub Acts-udp : (s : Session) (bytes now : List ℕ) (b : Agent) → Meets longest_reply s.agent bytes now b → Acts s (Single (Udp bytes)) now (record s { agent = b; late = true })
Acts-udp s bytes now b meets = λ w h.
    let k = meets (late_world w) (IsAgent-beside w w.stream true s.agent h.agent) in
    let same = Answers-beside longest_reply (late_world w) bytes now k.0 k.1 in
    (k.0, k.1, record { agent = k.2; stream = h.stream ∙ sym same.0; limit = h.limit; late = sym same.1 })

pub Acts-tcp : (s t : Session) (bytes now : List ℕ) → TakesPiece (record s { late = true }) bytes now t → Acts s (Single (Tcp bytes)) now t
Acts-tcp s t bytes now takes = λ w h. takes (late_world w) (Holds-late_world w s h)

-- ---- the end of a configuration

told_so : (w : World) (s : Session) (b : Agent) (h : Holds w s) (read : Result Config ConfigFault) (told : Result (Unit {0}) ConfigFault) → ConfiguresTo w read told b → (v : World) × Configures false w read (config_text told) v × Holds v (record s { agent = b })
told_so w s b h (Ok c) told t = (configured_world c w, (ap config_text t.0, refl), record { agent = t.1; stream = h.stream; limit = h.limit; late = h.late })
told_so w s b h (Err e) told t = (w, (ap config_text t.0, refl), record { agent = t.1; stream = h.stream; limit = h.limit; late = h.late })

pub Closes-told : (s : Session) (b : Agent) (kept : Option (List ℕ)) (told : Result (Unit {0}) ConfigFault) → s.late ≡ false → ((w : World) → IsAgent w s.agent → ConfiguresTo w (option_map_or config_of kept (Err Range)) told b) → Closes s block.Config kept (config_text told) (record s { agent = b })
Closes-told s b kept told early configures = λ w h.
    let read = option_map_or config_of kept (Err Range) in
    subst (λ late. (v : World) × Configures late w read (config_text told) v × Holds v (record s { agent = b })) (sym (sym h.late ∙ early)) (told_so w s b h read told (configures w h.agent))

-- ---- the end of a template

added_so : (w : World) (s : Session) (b : Agent) (h : Holds w s) (read : Result SiteTemplates ParseFault) (told : Result (Unit {0}) ParseFault) → AddsTo w read told b → (v : World) × Adds false w read (template_text told) v × Holds v (record s { agent = b })
added_so w s b h (Ok ts) told t = (templated_world ts w, (ap template_text t.0, refl), record { agent = t.1; stream = h.stream; limit = h.limit; late = h.late })
added_so w s b h (Err e) told t = (w, (ap template_text t.0, refl), record { agent = t.1; stream = h.stream; limit = h.limit; late = h.late })

pub Closes-added : (s : Session) (b : Agent) (kept : Option (List ℕ)) (told : Result (Unit {0}) ParseFault) → s.late ≡ false
    → ((w : World) → IsAgent w s.agent → AddsTo w (templates_with w (option_map_or template_in kept (Err (template.Line 1)))) told b) → Closes s block.Template kept (template_text told) (record s { agent = b })
Closes-added s b kept told early adds = λ w h.
    let read = templates_with w (option_map_or template_in kept (Err (template.Line 1))) in
    subst (λ late. (v : World) × Adds late w read (template_text told) v × Holds v (record s { agent = b })) (sym (sym h.late ∙ early)) (added_so w s b h read told (adds w h.agent))

-- a configuration or a template that comes too late
pub Closes-late : (s : Session) (b : Block) (kept : Option (List ℕ)) → (b ≡ block.Config) ⊎ (b ≡ block.Template) → s.late ≡ true → Closes s b kept late_text s
Closes-late s b kept (inl is) late = λ w h.
    rw is (subst (λ x. (v : World) × Configures x w (option_map_or config_of kept (Err Range)) late_text v × Holds v s) (sym (sym h.late ∙ late)) (w, (refl, refl), h))
Closes-late s b kept (inr is) late = λ w h.
    rw is (subst (λ x. (v : World) × Adds x w (templates_with w (option_map_or template_in kept (Err (template.Line 1)))) late_text v × Holds v s) (sym (sym h.late ∙ late)) (w, (refl, refl), h))

-- ---- the end of a rule file

ruled_so : (w : World) (s : Session) (b : Agent) (h : Holds w s) (read : Result SiteRules RuleFault) (told : Result ℕ RuleFault) → ReloadsTo w read told b → (v : World) × Reloads w read (rules_text told) v × Holds v (record s { agent = b; late = true })
ruled_so w s b h (Ok rs) told t = (reloaded_world rs w, (ap rules_text t.0, refl), record { agent = t.1; stream = h.stream; limit = h.limit; late = refl })
ruled_so w s b h (Err e) told t = (late_world w, (ap rules_text t.0, refl), record { agent = IsAgent-beside w w.stream true b t.1; stream = h.stream; limit = h.limit; late = refl })

pub Closes-ruled : (s : Session) (b : Agent) (kept : Option (List ℕ)) (told : Result ℕ RuleFault)
    → ((w : World) → IsAgent w s.agent → ReloadsTo w (option_map_or rules_in_text kept (Err (rule_fault.Shape 0))) told b) → Closes s block.Rules kept (rules_text told) (record s { agent = b; late = true })
Closes-ruled s b kept told reloads = λ w h. ruled_so w s b h (option_map_or rules_in_text kept (Err (rule_fault.Shape 0))) told (reloads w h.agent)

-- ---- a sweep

pub Acts-sweep : (s : Session) (b : Agent) → ((w : World) → IsAgent w s.agent → IsAgent (swept_world w) b) → Acts s (Single Sweep) (codes "# sweep" ++ line_feed ∷ []) (record s { agent = b; late = true })
Acts-sweep s b sweeps = λ w h. (swept_world w, (refl, refl), record { agent = sweeps w h.agent; stream = h.stream; limit = h.limit; late = refl })

-- ---- a message

-- a message that was answered
pub Meets-answered : (limit : ℕ) (a : Agent) (bytes : List ℕ) (what : Sent) (reply line : List ℕ) (b : Agent) → ((w : World) → IsAgent w a → Takes limit w bytes what reply line b) → Meets limit a bytes (answer_text reply line) b
Meets-answered limit a bytes what reply line b takes = λ w h.
    let k = takes w h in
    (record w { history = history_with k.event w.history }, inl (k.outcome, k.event, k.is, ap₂ answer_text k.told.replied k.told.lined, refl), k.holds)

-- a message that found no memory
pub Meets-refused : (limit : ℕ) (a : Agent) (bytes : List ℕ) (b : Agent) → ((w : World) → IsAgent w a → b ≡ a) → Meets limit a bytes (no_memory_text b.asker bytes) b
Meets-refused limit a bytes b same = λ w h.
    let e = same w h in
    (w, inr (ap (λ (n : ℕ). no_memory_text n bytes) (ap (λ (x : Agent). x.asker) e ∙ h.asker), refl), rw e h)

-- ---- a line

pub TurnsTo-outside : (p : Progress) (l now : List ℕ) (q : Progress) → p.block ≡ None → q.number ≡ p.number + 1 → TurnsOutside p.session l (p.number + 1) now q.session q.block → TurnsTo p l now q
TurnsTo-outside p l now q off number turns =
    record { number = number; turns = subst (λ (b : Option OpenBlock). Turns b p l now q) (sym off) turns }

pub TurnsTo-inside : (p : Progress) (l now : List ℕ) (q : Progress) (b : OpenBlock) → p.block ≡ Some b → q.number ≡ p.number + 1 → TurnsInside p.session l b now q.session q.block → TurnsTo p l now q
TurnsTo-inside p l now q b within number turns =
    record { number = number; turns = subst (λ (o : Option OpenBlock). Turns o p l now q) (sym within) turns }

-- more is known where it ended well
pub MatchResult-more : {A E : Type 0} (r : Result A E) (P Q : A → Type 0) (R : E → Type 0) → ((x : A) → P x → Q x) → MatchResult r P R → MatchResult r Q R
MatchResult-more (Ok x) P Q R more h = more x h
MatchResult-more (Err e) P Q R more h = h
