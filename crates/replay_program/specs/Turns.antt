-- Where a run stands between two lines.
use Rattle.std.specs.Prelude.{◌≡◌, ◌⊎◌, ℕ, ◌+◌, ◌≤◌, nat_le, false, List, [], ◌++◌, length, Option, Some, None, Err, IsUtf8, string_bytes, if◌then◌else◌, ⊤}
use Rattle.std.specs.Option.{option_map, option_map_or}
use Rattle.site_config.specs.Configurations.{config_of, longest_text}
use Rattle.site_config.specs.declared.fault.ConfigFault.TheVariants.{Range}
use Rattle.rule_files.specs.RuleFiles.{rules_in_text}
use Rattle.rule_files.specs.declared.fault.RuleFault.TheVariants as rule_fault
use Rattle.std.specs.Io.KnownBytes.{Keeps}
use Rattle.slp_script.specs.Commands.{Command, Single, Reads, order_of, block_of, block_start, IsBody, IsBodyLine, block_end, longest_line}
use Rattle.slp_script.specs.declared.command.Block.{Block}
use Rattle.slp_script.specs.declared.command.Block.TheVariants as block
use Rattle.slp_script.specs.declared.command.Order.{Order}
use Rattle.slp_script.specs.declared.command.Order.TheVariants as order
use Rattle.replay_program.specs.Sessions.{Holds, Acts}
use Rattle.slp_script.specs.Lines.{Line, line_bytes}
use Rattle.template_files.specs.Reading.{template_in}
use Rattle.srv_template.specs.declared.fault.ParseFault.TheVariants as template
use Rattle.replay_program.specs.Worlds.{World, Prints, Configures, Adds, Reloads, is_loop, opening_world, templates_with, text_of}
use Rattle.replay_program.specs.declared.progress.OpenBlock.{OpenBlock}
use Rattle.replay_program.specs.declared.progress.Progress.{Progress}
use Rattle.replay_program.specs.declared.session.Session.{Session}
use Rattle.replay_program.specs.declared.fault.RunFault.{RunFault}
use Rattle.replay_program.specs.declared.fault.RunFault.TheVariants as fault
use Rattle.replay_program.specs.declared.fault.RunFault.TheVariants.{Read, Write, NoMemory}

-- what is kept of the text of a block: nothing where it is longer than a configuration, a template or a rule file may be
abbrev pub block_text : List Line → Option (List ℕ)
block_text body = if nat_le (length (text_of body)) longest_text then Some (text_of body) else None

-- these are the lines of the block that is open, after k lines
abbrev pub IsOpen : List Line → ℕ → Option OpenBlock → Type 0
IsOpen ls k None = ls ≡ []
IsOpen ls k (Some b) = (body : List Line) × (ls ≡ block_start b.block body) × IsBody body × (b.begun ≡ k + 1) × (option_map string_bytes b.text ≡ block_text body)

-- the lines brought the run here, and this was written
pub record Stands (ls : List Line) (out : List ℕ) (p : Progress) : Type 0 where
  pub before : List Line
  pub unended : List Line
  pub commands : List Command
  pub all : ls ≡ before ++ unended
  pub reads : Reads before commands
  pub world : World
  pub prints : Prints opening_world commands out world
  pub holds : Holds world p.session
  pub is_open : IsOpen unended (length before) p.block
  pub number : p.number ≡ length ls

-- one more line of a block, or its end, where this is kept of its text so far
abbrev pub block_text_with : Option (List ℕ) → Line → Option (List ℕ)
block_text_with None l = None
block_text_with (Some text) l = if nat_le (length (text ++ line_bytes l)) longest_text then Some (text ++ line_bytes l) else None

-- what the end of a block may write, and what it leaves, where this is kept of its text: a configuration that is too long is out of its range, a
-- template that is too long does not fit from its first line on, and a rule file that is too long is at fault itself
abbrev pub Ends : Block → World → Option (List ℕ) → List ℕ → World → Type 0
Ends block.Config w kept now v = Configures w.late w (option_map_or config_of kept (Err Range)) now v
Ends block.Template w kept now v = Adds w.late w (templates_with w (option_map_or template_in kept (Err (template.Line 1)))) now v
Ends block.Rules w kept now v = Reloads w (option_map_or rules_in_text kept (Err (rule_fault.Shape 0))) now v

-- the same of a session
abbrev pub Closes : Session → Block → Option (List ℕ) → List ℕ → Session → Type 0
Closes s block kept now t = (w : World) → Holds w s → (v : World) × Ends block w kept now v × Holds v t

-- a block that is just begun
abbrev pub Begins : Block → ℕ → Option OpenBlock → Type 0
Begins block number None = ⊥
Begins block number (Some b) = (b.block ≡ block) × (b.begun ≡ number) × (option_map string_bytes b.text ≡ Some [])

-- a block with one line more
abbrev pub Lengthens : OpenBlock → Line → Option OpenBlock → Type 0
Lengthens b l None = ⊥
Lengthens b l (Some c) = (c.block ≡ b.block) × (c.begun ≡ b.begun) × (option_map string_bytes c.text ≡ block_text_with (option_map string_bytes b.text) l)

-- what a line of this number outside a block may write and make of a session, and the block that it begins
abbrev pub TurnsOutside : Session → Line → ℕ → List ℕ → Session → Option OpenBlock → Type 0
TurnsOutside s l number now t left =
    ((order : Order) × (order_of l ≡ Some order) × Acts s (Single order) now t × (left ≡ None))
    ⊎ ((block : Block) × (block_of l ≡ Some block) × (now ≡ []) × (t ≡ s) × Begins block number left)

-- what a line inside a block may write and make of a session, and what of the block is open after it
abbrev pub TurnsInside : Session → Line → OpenBlock → List ℕ → Session → Option OpenBlock → Type 0
TurnsInside s l b now t left =
    ((l ≡ block_end) × Closes s b.block (option_map string_bytes b.text) now t × (left ≡ None))
    ⊎ (IsBodyLine l × (now ≡ []) × (t ≡ s) × Lengthens b l left)

-- what a line may write and leave, by the block that is open
abbrev pub Turns : Option OpenBlock → Progress → Line → List ℕ → Progress → Type 0
Turns None p l now q = TurnsOutside p.session l (p.number + 1) now q.session q.block
Turns (Some b) p l now q = TurnsInside p.session l b now q.session q.block

-- one line more
pub record TurnsTo (p : Progress) (l : Line) (now : List ℕ) (q : Progress) : Type 0 where
  pub number : q.number ≡ p.number + 1
  pub turns : Turns p.block p l now q

-- the order names a loop that is not listened on, whatever happened to the session before
abbrev pub LacksLoop : Session → Order → Type 0
LacksLoop s o = (loop : ℕ) × (o ≡ order.Loop loop) × ((w : World) → Holds w s → is_loop w loop ≡ false)

-- what an order of a line of this number that was not carried out leaves of what was written
abbrev pub OrderFails : Session → Order → ℕ → Option (List ℕ) → Option (List ℕ) → RunFault → Type 0
OrderFails s o number old new (fault.Line n) = (n ≡ number) × LacksLoop s o × Keeps old new
OrderFails s o number old new NoMemory = Keeps old new
OrderFails s o number old new Write = ⊤
OrderFails s o number old new Read = ⊥

-- the line is at fault outside a block: it is not an order and begins no block, or it names a loop that is not listened on
abbrev pub IsFaultOutside : Session → Line → Type 0
IsFaultOutside s l = ((order_of l ≡ None) × (block_of l ≡ None)) ⊎ ((o : Order) × (order_of l ≡ Some o) × LacksLoop s o)

-- what a line outside a block that was not carried out leaves of what was written
abbrev pub OutsideFails : Session → Line → ℕ → Option (List ℕ) → Option (List ℕ) → RunFault → Type 0
OutsideFails s l number old new (fault.Line n) = (n ≡ number) × IsFaultOutside s l × Keeps old new
OutsideFails s l number old new NoMemory = Keeps old new
OutsideFails s l number old new Write = ⊤
OutsideFails s l number old new Read = ⊥

-- the same inside a block
abbrev pub InsideFails : Line → ℕ → Option (List ℕ) → Option (List ℕ) → RunFault → Type 0
InsideFails l number old new (fault.Line n) = (n ≡ number) × (¬ ((length l ≤ longest_line) × IsUtf8 l)) × Keeps old new
InsideFails l number old new NoMemory = Keeps old new
InsideFails l number old new Write = ⊤
InsideFails l number old new Read = ⊥

-- the same, by the block that is open
abbrev pub TurnFailsBy : Option OpenBlock → Progress → Line → Option (List ℕ) → Option (List ℕ) → RunFault → Type 0
TurnFailsBy None p l old new e = OutsideFails p.session l (p.number + 1) old new e
TurnFailsBy (Some b) p l old new e = InsideFails l (p.number + 1) old new e

abbrev pub TurnFails : Progress → Line → Option (List ℕ) → Option (List ℕ) → RunFault → Type 0
TurnFails p l old new e = TurnFailsBy p.block p l old new e
