-- What a console does with a word.
use Rattle.std.specs.Prelude.{◌≡◌, ◌⊎◌, ℕ, Bool, true, false, ◌∷◌, ◌++◌, [], codes, Result}
use Rattle.published_view.specs.declared.fault.ViewFault.{ViewFault}
use Rattle.loop_log.specs.Logging.{Logs}
use Rattle.slp_text.specs.Ascii.{line_feed}
use Rattle.agent_parts.specs.Statuses.{reload_text, sweep_text}
use Rattle.agent_parts.specs.declared.fault.ReloadFault.{ReloadFault}
use Rattle.agent_watch.specs.declared.words.Word.{Word}
use Rattle.agent_watch.specs.declared.words.Word.TheVariants.{Reload, Sweep, Stop, Unknown}

-- whether words are taken still
abbrev pub goes_on : Word → Bool
goes_on Reload = true
goes_on Sweep = true
goes_on Unknown = true
goes_on Stop = false

module _ {L : Type 0} (writes : Logs L) where
  -- what is printed of a word, in one piece; where its text finds no room, it is not
  abbrev pub Prints : Word → L → L → Type 0
  Prints Reload before after = (told : Result ℕ ReloadFault) × ((after ≡ before) ⊎ writes before (reload_text told) after)
  Prints Sweep before after = (told : Result (Unit {0}) ViewFault) × writes before (sweep_text told) after
  Prints Unknown before after = writes before (codes "! command" ++ line_feed ∷ []) after
  Prints Stop before after = after ≡ before
