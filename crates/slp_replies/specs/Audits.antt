-- The line that tells what came of a message.
use Rattle.std.specs.Prelude.{ℕ, ◌==◌, List, [], ◌∷◌, ◌++◌, codes, chars, encode_utf8_all, slice_get, Option, Some, None, if◌then◌else◌}
use Rattle.std.specs.Fmt.{decimal}
use Rattle.std.specs.Option.{option_map_or}
use Rattle.slp_text.specs.Ascii.{line_feed}
use Rattle.slp_text.specs.Escapes.{escaped_text}
use Rattle.slp_text.specs.declared.escapes.Place.TheVariants.{Scope}
use Rattle.access_rules.specs.declared.rule.Action.{Action}
use Rattle.access_rules.specs.declared.rule.Action.TheVariants.{Register, Withdraw, See}
use Rattle.addresses.specs.Addresses.{address_text}
use Rattle.access_rules.specs.Deciding.{SiteRules, rules_in}
use Rattle.directory_judge.specs.Judgements.{because_of, decider_text}
use Rattle.directory_judge.specs.declared.reason.Decider.{Decider}
use Rattle.directory_judge.specs.declared.reason.Decider.TheVariants.{Rule}
use Rattle.slp_replies.specs.declared.copies.Audit.{Audit}
use Rattle.slp_replies.specs.declared.audit.AuditView.{AuditView}

-- the name of the rule at an index
abbrev pub name_at : SiteRules → ℕ → List ℕ
name_at rules index = option_map_or (λ r. r.name) (slice_get (rules_in rules) index) []

-- the name of the rule that decided, or nothing
abbrev pub rule_named : SiteRules → Decider → List ℕ
rule_named rules (Rule index) = name_at rules index
rule_named rules _ = []

-- the word for an action
abbrev pub action_text : Action → List ℕ
action_text Register = codes "register"
action_text Withdraw = codes "withdraw"
action_text See = codes "see"

-- a text, or a dash
abbrev pub text_or_dash : Option (List ℕ) → List ℕ
text_or_dash None = codes "-"
text_or_dash (Some text) = text

-- a scope with its escapes, or a dash
abbrev pub scope_or_dash : Option (List ℕ) → List ℕ
scope_or_dash None = codes "-"
scope_or_dash (Some scope) = encode_utf8_all (escaped_text Scope (chars scope))

-- how a line begins, and how it ends
abbrev pub beginning_text : ℕ → List ℕ
beginning_text code = (if code == 0 then codes "# allow code=" else codes "# deny code=") ++ decimal code ++ codes " by="

-- the end of a line: the scope, or a dash
abbrev pub ending_text : Option (List ℕ) → List ℕ
ending_text scope = codes " scope=" ++ scope_or_dash scope ++ line_feed ∷ []

-- what it says first, where a rule that decided has this name: the code, who decided, and what was asked for
abbrev pub head_text : List ℕ → Audit → List ℕ
head_text name a = beginning_text a.code ++ decider_text name a.because.decider ++ codes " action="
    ++ action_text a.action ++ codes " asker="

-- and then: by whom, and on what
abbrev pub tail_text : Audit → List ℕ
tail_text a = address_text a.asker ++ codes " type=" ++ text_or_dash a.because.kind ++ ending_text a.because.scope

-- the whole line, where a rule that decided has this name
unfoldable pub line_text : List ℕ → Audit → List ℕ
line_text name a = head_text name a ++ tail_text a

-- what is lent says
abbrev pub audit_of : AuditView → Audit
audit_of v = record { code = v.code; because = because_of v.finding.now; action = v.action; asker = v.asker }

-- the whole line
unfoldable pub audit_text : SiteRules → Audit → List ℕ
audit_text rules a = line_text (rule_named rules a.because.decider) a
