-- The status of a server that does not start, and what it prints.
use Rattle.std.specs.Prelude.{ℕ, Result, Ok, Err, List, []}
use Rattle.rule_files.specs.declared.fault.RuleFault.{RuleFault}
use Rattle.rule_files.specs.declared.fault.RuleFault.TheVariants as rule_fault
use Rattle.site_config.specs.declared.fault.ConfigFault.{ConfigFault}
use Rattle.site_config.specs.declared.fault.ConfigFault.TheVariants as config_fault
use Rattle.srv_template.specs.declared.fault.ParseFault.{ParseFault}
use Rattle.srv_template.specs.declared.fault.ParseFault.TheVariants as template_fault
use Rattle.site_reports.specs.Reports.{config_fault_text, rule_fault_text, template_fault_text}
use Rattle.site_opening.specs.declared.fault.StartFault.{StartFault}
use Rattle.site_opening.specs.declared.fault.StartFault.TheVariants.{Failed, Config, Rules, Template, NoMemory}
use Rattle.site_opening.specs.declared.fault.ReadFault.{ReadFault}
use Rattle.site_opening.specs.declared.fault.ReadFault.TheVariants as read
use Rattle.site_opening.specs.declared.files.FileFault.{FileFault}
use Rattle.site_opening.specs.declared.files.FileFault.TheVariants as file_fault

-- the status of a server that does not start: 1 where a file or a socket failed, 2 where something was refused, 3 where memory ran out
abbrev pub start_status : StartFault → ℕ
start_status Failed = 1
start_status (Config e) = 2
start_status (Rules e) = 2
start_status (Template e) = 2
start_status NoMemory = 3

-- what it prints: the refusal alone
abbrev pub start_text : StartFault → List ℕ
start_text Failed = []
start_text (Config e) = config_fault_text e
start_text (Rules e) = rule_fault_text e
start_text (Template e) = template_fault_text e
start_text NoMemory = []

-- 0 where there is nothing to refuse
abbrev pub opening_status : {A : Type 0} → Result A StartFault → ℕ
opening_status (Ok x) = 0
opening_status (Err e) = start_status e

-- why it does not start where a file is refused; want of memory is one thing wherever it is met
abbrev pub config_start : ConfigFault → StartFault
config_start config_fault.Toml = Config config_fault.Toml
config_start config_fault.Missing = Config config_fault.Missing
config_start config_fault.Range = Config config_fault.Range
config_start config_fault.NoMemory = NoMemory

abbrev pub rules_start : RuleFault → StartFault
rules_start (rule_fault.Shape n) = Rules (rule_fault.Shape n)
rules_start rule_fault.TwiceName = Rules rule_fault.TwiceName
rules_start rule_fault.NoMemory = NoMemory
rules_start rule_fault.Toml = Rules rule_fault.Toml

-- why it does not start where the rules of a file are not read
abbrev pub read_start : ReadFault → StartFault
read_start read.Failed = Failed
read_start (read.Refused e) = rules_start e

-- why the rules of a file are not read where the file fails
abbrev pub file_read : FileFault → ReadFault
file_read file_fault.Missing = read.Failed
file_read file_fault.Unread = read.Failed
file_read file_fault.NotText = read.Failed
file_read file_fault.NoMemory = read.Refused rule_fault.NoMemory

abbrev pub template_start : ParseFault → StartFault
template_start (template_fault.Line n) = Template (template_fault.Line n)
template_start template_fault.TwiceType = Template template_fault.TwiceType
template_start template_fault.NoMemory = NoMemory
template_start template_fault.TooMany = Template template_fault.TooMany

abbrev pub file_start : FileFault → StartFault
file_start file_fault.Missing = Failed
file_start file_fault.Unread = Failed
file_start file_fault.NotText = Failed
file_start file_fault.NoMemory = NoMemory
