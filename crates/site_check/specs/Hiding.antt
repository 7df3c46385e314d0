-- Which rules fit whatever others fit.
use Rattle.std.specs.Prelude.{ℕ, Bool, true, false, ◌&&◌, ◌||◌, not, nat_le, List, Option, Some, None}
use Rattle.std.specs.List.{list_all, list_any}
use Rattle.slp_text.specs.Words.{bytes_eq}
use Rattle.service_url.specs.Types.{covers}
use Rattle.access_rules.specs.Deciding.{action_eq}
use Rattle.addresses.specs.Addresses.{has_address}
use Rattle.addresses.specs.declared.prefix.Prefix.{Prefix}
use Rattle.access_rules.specs.declared.rule.Rule.{Rule}

-- each address of a prefix is one of another: that has no more bits, and holds the first of them
abbrev pub is_inside : Prefix → Prefix → Bool
is_inside p wide = nat_le wide.bits p.bits && has_address wide p.addr

-- what is about every type, or about one that covers the other
abbrev pub hides_kind : Option (List ℕ) → Option (List ℕ) → Bool
hides_kind None narrow = true
hides_kind (Some wide) None = false
hides_kind (Some wide) (Some narrow) = covers wide narrow

-- what is about every scope, or about each of the others
abbrev pub hides_scopes : Option (List (List ℕ)) → Option (List (List ℕ)) → Bool
hides_scopes None narrow = true
hides_scopes (Some wide) None = false
hides_scopes (Some wide) (Some narrow) = list_all (λ s. list_any (λ k. bytes_eq k s) wide) narrow

-- a rule is about each asker, type, scope and owner that another is about, and about the same action
abbrev pub hides : Rule → Rule → Bool
hides wide narrow =
    action_eq wide.action narrow.action && list_all (λ p. list_any (is_inside p) wide.from) narrow.from
    && hides_kind wide.kind narrow.kind && hides_scopes wide.scopes narrow.scopes
    && (not wide.owner || narrow.owner)
