-- What is kept of a block's text, and what it says.
use Rattle.std.proofs.Common.{◌≡◌, ℕ, Bool, true, false, List, [], ◌∷◌, ◌++◌, length, Some, None, Err, refl, sym, ap, ◌∙◌, arith, length-append}
use Rattle.std.specs.Prelude.{nat_le, if◌then◌else◌}
use Rattle.std.specs.Option.{option_map_or}
use Rattle.std.proofs.lemmas.Bool.{leb-false, lt-leb}
use Rattle.std.proofs.lemmas.List.{append-nil}
use Rattle.std.proofs.lemmas.Grind.{flat_map-append}
use borrow.Author.Tests.{lt-ltb}
use Rattle.rule_files.specs.RuleFiles.{rules_in_text}
use Rattle.rule_files.specs.declared.fault.RuleFault.TheVariants as rule_fault
use Rattle.site_config.specs.Configurations.{config_of, longest_text}
use Rattle.site_config.specs.declared.fault.ConfigFault.TheVariants.{Range}
use Rattle.template_files.specs.Reading.{template_in}
use Rattle.srv_template.specs.declared.fault.ParseFault.TheVariants as template
use Rattle.template_files.proofs.ParsedTemplates.{parsed-long}
use Rattle.slp_script.specs.Lines.{Line, line_bytes}
use Rattle.replay_program.specs.Worlds.{text_of}
use Rattle.replay_program.specs.Turns.{block_text, block_text_with}

pub text_of-snoc : (body : List Line) (l : Line) → text_of (body ++ l ∷ []) ≡ text_of body ++ line_bytes l
text_of-snoc body l = flat_map-append line_bytes body (l ∷ []) ∙ ap (λ (v : List ℕ). text_of body ++ v) (append-nil (line_bytes l))

grows : (text more : List ℕ) → nat_le (length text) longest_text ≡ false → nat_le (length (text ++ more)) longest_text ≡ false
grows text more e = lt-leb (length (text ++ more)) longest_text (omega (arith, leb-false (length text) longest_text e, length-append text more))

block_text_with-by : (b : Bool) (text : List ℕ) (l : Line) → nat_le (length text) longest_text ≡ b → block_text_with (if b then Some text else None) l ≡ (if nat_le (length (text ++ line_bytes l)) longest_text then Some (text ++ line_bytes l) else None)
block_text_with-by true text l e = refl
block_text_with-by false text l e = rw (grows text (line_bytes l) e) refl

-- a line more of the block is a line more of what is kept
pub block_text_with-kept : (body : List Line) (l : Line) → block_text_with (block_text body) l ≡ block_text (body ++ l ∷ [])
block_text_with-kept body l = rw (text_of-snoc body l) (block_text_with-by (nat_le (length (text_of body)) longest_text) (text_of body) l refl)

too_long-config : (text : List ℕ) → nat_le (length text) longest_text ≡ false → config_of text ≡ Err Range
unfolding config_of
too_long-config text e = rw (lt-ltb _ _ (leb-false (length text) longest_text e)) refl

config-by : (b : Bool) (text : List ℕ) → nat_le (length text) longest_text ≡ b → option_map_or config_of (if b then Some text else None) (Err Range) ≡ config_of text
config-by true text e = refl
config-by false text e = sym (too_long-config text e)

-- what is kept says what the whole text does
pub kept-config : (body : List Line) → option_map_or config_of (block_text body) (Err Range) ≡ config_of (text_of body)
kept-config body = config-by (nat_le (length (text_of body)) longest_text) (text_of body) refl

-- the same of a template
template-by : (b : Bool) (text : List ℕ) → nat_le (length text) longest_text ≡ b → option_map_or template_in (if b then Some text else None) (Err (template.Line 1)) ≡ template_in text
template-by true text e = refl
template-by false text e = sym (parsed-long text (leb-false (length text) longest_text e))

pub kept-template : (body : List Line) → option_map_or template_in (block_text body) (Err (template.Line 1)) ≡ template_in (text_of body)
kept-template body = template-by (nat_le (length (text_of body)) longest_text) (text_of body) refl

-- and of a rule file
too_long-rules : (text : List ℕ) → nat_le (length text) longest_text ≡ false → rules_in_text text ≡ Err (rule_fault.Shape 0)
unfolding rules_in_text
too_long-rules text e = rw (lt-ltb _ _ (leb-false (length text) longest_text e)) refl

rules-by : (b : Bool) (text : List ℕ) → nat_le (length text) longest_text ≡ b → option_map_or rules_in_text (if b then Some text else None) (Err (rule_fault.Shape 0)) ≡ rules_in_text text
rules-by true text e = refl
rules-by false text e = sym (too_long-rules text e)

pub kept-rules : (body : List Line) → option_map_or rules_in_text (block_text body) (Err (rule_fault.Shape 0)) ≡ rules_in_text (text_of body)
kept-rules body = rules-by (nat_le (length (text_of body)) longest_text) (text_of body) refl
