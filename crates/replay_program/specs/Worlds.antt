-- What a script may make the program write.
use Rattle.std.specs.Prelude.{◌≡◌, ◌⊎◌, ℕ, ◌+◌, ◌-◌, nat_lt, nat_le, Bool, true, false, ◌&&◌, IsTrue, ◌==◌, Result, Ok, Err, List, [], ◌∷◌, ◌++◌, length, codes, slice_get, Option, Some, None, MatchOption, if◌then◌else◌}
use Rattle.std.specs.List.{flat_map}
use Rattle.std.specs.Option.{option_map_or}
use Rattle.hex.specs.Hex.{encode_lower}
use Rattle.slp_headers.specs.Headers.{heading_of}
use Rattle.access_rules.specs.Deciding.{SiteRules, no_rules, number}
use Rattle.rule_files.specs.RuleFiles.{rules_in_text}
use Rattle.rule_files.specs.declared.fault.RuleFault.{RuleFault}
use Rattle.directory_judge.specs.History.{History, Event, Act, Sweep, Reload, now}
use Rattle.directory_judge.specs.Meaning.{rules}
use Rattle.directory_questions.specs.Answers.{IsAnswer}
use Rattle.directory_questions.specs.Calls.{Opening, Call}
use Rattle.directory_questions.specs.Outcomes.{Outcome, refusal_outcome}
use Rattle.directory_questions.specs.Verdicts.{history_with}
use Rattle.site_reports.specs.Reports.{configured_text, config_fault_text, added_text, template_fault_text, ruled_text, rule_fault_text}
use Rattle.slp_replies.specs.Tellings.{line_of}
use Rattle.slp_stream.specs.Cutting.{Front, Wanting, Whole, Bad, front_of, IsCut}
use Rattle.slp_stream.specs.Framing.{Frames}
use Rattle.slp_stream.specs.declared.fault.FrameFault.{FrameFault}
use Rattle.slp_stream.specs.declared.fault.FrameFault.TheVariants.{TooLong, TooShort, NoMemory}
use Rattle.slp_script.specs.Commands.{Command, Single, Text, Reads, StopsAt, block_start, IsBody, order_of}
use Rattle.slp_script.specs.declared.command.Block.{Block}
use Rattle.slp_script.specs.declared.command.Block.TheVariants as block
use Rattle.slp_script.specs.declared.command.Order.TheVariants as order
use Rattle.slp_text.specs.Reading.{read_then}
use Rattle.srv_template.specs.Conformity.{SiteTemplates}
use Rattle.template_files.specs.Reading.{template_in}
use Rattle.srv_template.specs.Templates.{Template, added_to}
use Rattle.srv_template.specs.declared.fault.ParseFault.{ParseFault}
use Rattle.slp_script.specs.Lines.{Line, lines_of, line_bytes, HasNoLf}
use Rattle.replay_program.specs.OpeningRules.{opening_rules}
use Rattle.replay_program.specs.Sites.{first_site}
use Rattle.site_config.specs.Configurations.{config_of}
use Rattle.site_config.specs.declared.config.Config.{Config}
use Rattle.site_config.specs.declared.fault.ConfigFault.{ConfigFault}
use Rattle.directory_judge.specs.Sites.{Site}
use Rattle.slp_text.specs.Ascii.{line_feed}

-- the bytes of a reply that is sent as a datagram
abbrev pub longest_reply : ℕ
longest_reply = 1400

-- the bytes of a message that comes on a stream, and of a reply that is sent on it
abbrev pub longest_on_stream : ℕ
longest_on_stream = 65535

-- a stream of which nothing came yet
abbrev pub new_stream : Frames
new_stream = record { limit = longest_on_stream; waiting = []; refused = None }

-- The site and what happened to it, the addresses and ports that are listened on, the loop at one of them (counted from 0) to which messages come, the
-- moment that was set, from where messages come, what came of the stream and is not a whole message, and whether it is too late for another site.
pub record World : Type 0 where
  pub site : Site
  pub history : History
  pub listen : List (ℕ × ℕ)
  pub loop : ℕ
  pub moment : ℕ
  pub asker : ℕ
  pub stream : Frames
  pub late : Bool

-- 127.0.0.1 and 127.0.0.2
abbrev pub opening_listen : List (ℕ × ℕ)
opening_listen = (0x7F000001, 427) ∷ (0x7F000002, 427) ∷ []

-- nothing happened to the opening site, it is moment 0, messages come from 10.0.0.1 to the first loop, and a stream is open
abbrev pub opening_world : World
opening_world = record { site = first_site; history = []; listen = opening_listen; loop = 0; moment = 0; asker = 0x0A000001; stream = new_stream; late = false }

-- the address at which messages arrive
abbrev pub own_at : List (ℕ × ℕ) → ℕ → ℕ
own_at listen loop = option_map_or (λ p. p.0) (slice_get listen loop) 0

-- the loop of this number, counted from 1, is one of those that are listened on
abbrev pub is_loop : World → ℕ → Bool
is_loop w n = nat_lt 0 n && nat_le n (length w.listen)

-- the rules and the site with which it began
abbrev pub opening_of : World → Opening
opening_of w = record { rules = opening_rules; site = w.site }

-- a message that is answered in at most so many bytes
abbrev pub call_of : ℕ → World → List ℕ → Call
call_of limit w bytes = record { own = own_at w.listen w.loop; moment = w.moment; asker = w.asker; bytes = bytes; limit = limit }

-- what is written for a message: the digits of the reply or a dash, and then the audit line, if any
abbrev pub answer_text : List ℕ → List ℕ → List ℕ
answer_text reply line = codes "> " ++ (if length reply == 0 then codes "-" else encode_lower reply) ++ line_feed ∷ line

abbrev pub outcome_text : SiteRules → ℕ → List ℕ → Outcome → List ℕ
outcome_text rs asker bytes r = answer_text r.reply (line_of rs asker (heading_of bytes) r)

-- the same for one that found no memory
abbrev pub no_memory_text : ℕ → List ℕ → List ℕ
no_memory_text asker bytes = outcome_text no_rules asker bytes (refusal_outcome (heading_of bytes))

-- what a message may be answered with, in at most so many bytes, and what it leaves
abbrev pub Answers : ℕ → World → List ℕ → List ℕ → World → Type 0
Answers limit w bytes out v =
    ((r : Outcome) × (change : Option Event) × IsAnswer (opening_of w) w.history (call_of limit w bytes) r change
    × (out ≡ outcome_text (rules opening_rules w.history) w.asker bytes r) × (v ≡ record w { history = history_with change w.history }))
    ⊎ ((out ≡ no_memory_text w.asker bytes) × (v ≡ w))

-- messages that came on a stream, one after the other
abbrev pub AnswersAll : World → List (List ℕ) → List ℕ → World → Type 0
AnswersAll w [] out v = (out ≡ []) × (v ≡ w)
AnswersAll w (m ∷ ms) out v = (mid : World) × (first rest : List ℕ) × (out ≡ first ++ rest) × Answers longest_on_stream w m first mid × AnswersAll mid ms rest v

-- what is written where a stream is cut no further
abbrev pub bad_length_text : FrameFault → List ℕ
bad_length_text TooLong = codes "! too-long" ++ line_feed ∷ []
bad_length_text TooShort = codes "! too-short" ++ line_feed ∷ []
bad_length_text NoMemory = []

abbrev pub closed_text : List ℕ
closed_text = codes "! closed" ++ line_feed ∷ []

-- what is written of the rest of a stream, and what is left of it: a bad length is told once
abbrev pub end_text : Front → List ℕ
end_text Wanting = []
end_text (Whole n) = []
end_text (Bad e) = bad_length_text e

abbrev pub end_refused : Front → Option FrameFault
end_refused Wanting = None
end_refused (Whole n) = None
end_refused (Bad e) = Some e

-- what a piece of a stream that is not refused may write, and what it leaves: its whole messages are answered
abbrev pub Pieces : World → List ℕ → List ℕ → World → Type 0
Pieces w bytes out v =
    (ms : List (List ℕ)) × (rest : List ℕ) × IsCut longest_on_stream (w.stream.waiting ++ bytes) ms rest
    × (u : World) × (said : List ℕ) × AnswersAll w ms said u
    × (out ≡ said ++ end_text (front_of longest_on_stream rest))
    × (v ≡ record u { stream = record { limit = longest_on_stream; waiting = rest; refused = end_refused (front_of longest_on_stream rest) } })

-- from now on it is too late for another site
abbrev pub late_world : World → World
late_world w = record w { late = true }

-- what the operator asks for happens, at the moment that was set or the clock
abbrev pub world_with : Act → World → World
world_with act w = record w { history = record { moment = now w.history w.moment; act = act } ∷ w.history; late = true }

abbrev pub swept_world : World → World
swept_world w = world_with Sweep w

abbrev pub reloaded_world : SiteRules → World → World
reloaded_world rs w = world_with (Reload rs) w

-- the text of a block: its lines, each with its LF
abbrev pub text_of : List Line → List ℕ
text_of body = flat_map line_bytes body

-- what is written of a block that comes too late
abbrev pub late_text : List ℕ
late_text = codes "! late" ++ line_feed ∷ []

-- the site of a configuration, with these templates
abbrev pub site_in : SiteTemplates → Config → Site
site_in templates c = record { scopes = c.scopes; capacity = c.capacity; templates = templates; boot = 1 }

-- a new site with the templates of the one before, at its first loop
abbrev pub configured_world : Config → World → World
configured_world c w = record w { site = site_in w.site.templates c; history = []; listen = c.listen; loop = 0 }

-- what a configuration may write, and what it leaves: a new site, unless it is refused or too late
abbrev pub Configures : Bool → World → Result Config ConfigFault → List ℕ → World → Type 0
Configures true w read out v = (out ≡ late_text) × (v ≡ w)
Configures false w (Ok c) out v = (out ≡ configured_text) × (v ≡ configured_world c w)
Configures false w (Err e) out v = (out ≡ config_fault_text e) × (v ≡ w)

-- the templates of the site with one more, if it is read and may be added
abbrev pub templates_with : World → Result Template ParseFault → Result SiteTemplates ParseFault
templates_with w read = read_then (added_to w.site.templates) read

-- the site with these templates, to which nothing happened
abbrev pub templated_world : SiteTemplates → World → World
templated_world templates w = record w { site = record w.site { templates = templates }; history = [] }

-- what a template may write, and what it leaves: the site with it, unless it is refused or too late
abbrev pub Adds : Bool → World → Result SiteTemplates ParseFault → List ℕ → World → Type 0
Adds true w templates out v = (out ≡ late_text) × (v ≡ w)
Adds false w (Ok templates) out v = (out ≡ added_text) × (v ≡ templated_world templates w)
Adds false w (Err e) out v = (out ≡ template_fault_text e) × (v ≡ w)

-- What a rule file may write, and what it leaves: its rules decide from now on, unless it is refused. Either way it is too late for another site.
abbrev pub Reloads : World → Result SiteRules RuleFault → List ℕ → World → Type 0
Reloads w (Ok rs) out v = (out ≡ ruled_text (number rs)) × (v ≡ reloaded_world rs w)
Reloads w (Err e) out v = (out ≡ rule_fault_text e) × (v ≡ late_world w)

-- what a command may write, and what it leaves
abbrev pub Does : World → Command → List ℕ → World → Type 0
Does w (Single order.Blank) out v = (out ≡ []) × (v ≡ w)
Does w (Single (order.At m)) out v = (out ≡ []) × (v ≡ record w { moment = m })
Does w (Single (order.From a)) out v = (out ≡ []) × (v ≡ record w { asker = a })
Does w (Single (order.Loop n)) out v = IsTrue (is_loop w n) × (out ≡ []) × (v ≡ record w { loop = n - 1 })
Does w (Single (order.Udp bytes)) out v = Answers longest_reply (late_world w) bytes out v
Does w (Single order.Open) out v = (out ≡ []) × (v ≡ record w { stream = new_stream })
Does w (Single (order.Tcp bytes)) out v = MatchOption w.stream.refused (Pieces (late_world w) bytes out v) (λ _. (out ≡ closed_text) × (v ≡ late_world w))
Does w (Single order.Sweep) out v = (out ≡ codes "# sweep" ++ line_feed ∷ []) × (v ≡ swept_world w)
Does w (Text block.Config body) out v = Configures w.late w (config_of (text_of body)) out v
Does w (Text block.Template body) out v = Adds w.late w (templates_with w (template_in (text_of body))) out v
Does w (Text block.Rules body) out v = Reloads w (rules_in_text (text_of body)) out v

-- what these commands may write one after the other, and what they leave
abbrev pub Prints : World → List Command → List ℕ → World → Type 0
Prints w [] out v = (out ≡ []) × (v ≡ w)
Prints w (c ∷ cs) out v = (mid : World) × (first rest : List ℕ) × (out ≡ first ++ rest) × Does w c first mid × Prints mid cs rest v

-- an output of these commands, from the beginning on
abbrev pub IsOutput : List Command → List ℕ → Type 0
IsOutput cs out = (final : World) × Prints opening_world cs out final

-- the script is these commands, and this is an output of theirs
abbrev pub Run : List ℕ → List ℕ → Type 0
Run script out = (cs : List Command) × Reads (lines_of script) cs × IsOutput cs out

-- after these commands, which left this world, the n-th line of all, counted from 1, names a loop that is not listened on
pub record NamesNoLoop (ls : List Line) (cs : List Command) (w : World) (n : ℕ) : Type 0 where
  pub before : List Line
  pub line : Line
  pub rest : List Line
  pub all : ls ≡ before ++ line ∷ rest
  pub reads : Reads before cs
  pub loop : ℕ
  pub names : order_of line ≡ Some (order.Loop loop)
  pub outside : is_loop w loop ≡ false
  pub number : n ≡ length before + 1

-- after these commands, which left this world, the n-th line of all is the first at fault
abbrev pub IsFirstFault : List Line → List Command → World → ℕ → Type 0
IsFirstFault ls cs w n = StopsAt ls cs n ⊎ NamesNoLoop ls cs w n

-- line n of the script is the first at fault, and this is an output of the commands before it
abbrev pub RunsUpTo : List ℕ → ℕ → List ℕ → Type 0
RunsUpTo script n out = (cs : List Command) × (final : World) × Prints opening_world cs out final × IsFirstFault (lines_of script) cs final n

-- this is an output of the commands with which what was read begins
abbrev pub RunsPart : List ℕ → List ℕ → Type 0
RunsPart read out = (cs : List Command) × (before rest : List Line) × (lines_of read ≡ before ++ rest) × Reads before cs × IsOutput cs out

-- a block that is begun, or nothing
abbrev pub IsUnfinished : List Line → Type 0
IsUnfinished ls = (ls ≡ []) ⊎ ((block : Block) × (body : List Line) × (ls ≡ block_start block body) × IsBody body)

-- these are all commands of what was read, up to a block and a line that are begun, and this is an output of theirs
abbrev pub RunsWhole : List ℕ → List ℕ → Type 0
RunsWhole read out = (cs : List Command) × (before unended : List Line) × (line : List ℕ) × (read ≡ flat_map line_bytes (before ++ unended) ++ line) × Reads before cs × IsUnfinished unended × HasNoLf line × IsOutput cs out
