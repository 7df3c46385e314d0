-- What an agent prints of a reload and a sweep, and what it answers where a loop fails.
use Rattle.std.specs.Prelude.{◌≡◌, ℕ, Result, Ok, Err, List, [], ◌∷◌, ◌++◌, codes}
use Rattle.rule_files.specs.declared.fault.RuleFault.TheVariants as rule_fault
use Rattle.site_reports.specs.Reports.{rule_fault_text, ruled_text}
use Rattle.published_view.specs.declared.fault.ViewFault.{ViewFault}
use Rattle.published_view.specs.declared.fault.ViewFault.TheVariants as view_fault
use Rattle.slp_sockets.specs.declared.fault.LoopFault.{LoopFault}
use Rattle.slp_sockets.specs.declared.fault.LoopFault.TheVariants as loop_fault
use Rattle.slp_text.specs.Ascii.{line_feed}
use Rattle.site_opening.specs.declared.fault.ReadFault.{ReadFault}
use Rattle.site_opening.specs.declared.fault.ReadFault.TheVariants as read
use Rattle.site_opening.specs.declared.fault.StartFault.{StartFault}
use Rattle.site_opening.specs.declared.fault.StartFault.TheVariants.{Failed, NoMemory}
use Rattle.agent_watch.specs.declared.words.End.{End}
use Rattle.agent_watch.specs.declared.words.End.TheVariants.{Well, Badly}
use Rattle.agent_parts.specs.declared.fault.ReloadFault.{ReloadFault}
use Rattle.agent_parts.specs.declared.fault.ReloadFault.TheVariants.{File, Rules, Shut}

-- why the rules stay where a file of rules is not read, and where the writer refuses others
abbrev pub unread : ReadFault → ReloadFault
unread read.Failed = File
unread (read.Refused e) = Rules e

abbrev pub reload_refused : ViewFault → ReloadFault
reload_refused view_fault.NoPlace = Rules rule_fault.NoMemory
reload_refused view_fault.NoMemory = Rules rule_fault.NoMemory
reload_refused view_fault.Closed = Shut

-- the fault of a reload tells that the writer refuses the rules
abbrev pub IsRefused : ReloadFault → Type 0
IsRefused fault = (told : ViewFault) × (fault ≡ reload_refused told)

-- what the console prints of a reload: how many rules decide from now on, or why the old ones stay; a writer that is shut wants memory too
abbrev pub reload_text : Result ℕ ReloadFault → List ℕ
reload_text (Ok number) = ruled_text number
reload_text (Err File) = codes "! file" ++ line_feed ∷ []
reload_text (Err (Rules e)) = rule_fault_text e
reload_text (Err Shut) = rule_fault_text rule_fault.NoMemory

-- what the console prints of a sweep; a writer that is shut wants memory too
abbrev pub sweep_text : Result (Unit {0}) ViewFault → List ℕ
sweep_text (Ok x) = codes "# sweep" ++ line_feed ∷ []
sweep_text (Err e) = codes "! memory" ++ line_feed ∷ []

-- what the end of an operator's words tells: an input that failed is a fault, as a socket's
abbrev pub input_told : End → Result (Unit {0}) LoopFault
input_told Well = Ok tt
input_told Badly = Err loop_fault.Io

-- the status of an agent one of whose threads ended, beside those that ended before it
abbrev pub end_status : ℕ → Result (Unit {0}) LoopFault → ℕ
end_status before (Ok x) = before
end_status before (Err loop_fault.Io) = 1
end_status before (Err loop_fault.NoMemory) = 3

-- why an agent does not start where a loop is not opened
abbrev pub loop_start : LoopFault → StartFault
loop_start loop_fault.Io = Failed
loop_start loop_fault.NoMemory = NoMemory
