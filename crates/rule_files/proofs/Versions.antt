-- What a version of a rule file leaves out.
use Rattle.std.proofs.Common.{◌≡◌, ℕ, ◌+◌, Bool, true, false, cond, List, [], ◌∷◌, length, Option, Some, None, refl, sym, ap, ap₂, subst, ◌∙◌}
use Rattle.std.specs.Prelude.{◌&&◌, not, Result, Ok, Err, option_and_then}
use Rattle.std.specs.List.{list_all}
use Rattle.std.specs.Option.{option_map_or}
use Rattle.std.specs.Ordering.{match_ordering, nat_cmp}
use Rattle.std.specs.Cmp.Lexicographic.{slice_cmp}
use Rattle.std.specs.declared.cmp.Ordering.TheVariants.{Less, Equal, Greater}
use Rattle.std.proofs.lemmas.Bool.{and_parts}
use Rattle.std.proofs.lemmas.Map.Lookups.{exact_bytes}
use Rattle.std.proofs.lemmas.Option.{none-some, same_Some}
use Rattle.toml.specs.Data.{Data, as_bool, as_table, Members, no_members, member, get_member}
use Rattle.slp_text.specs.Reading.{read_map, read_then}
use Rattle.access_rules.specs.Deciding.{SiteRules, deed, hides_in, is_without_owners, rules_in}
use Rattle.rule_files.specs.RuleFiles.{are_named_once, deed_in, file_values_in, from_in, hides_from, is_common_key, is_file_key, matter_in, name_in, named_once, owner_key, rule_in, rule_of_table, rule_with, rules_from, rules_in_table, rules_of_values, version_in}
use Rattle.toml_tables.specs.Tables.{if_where, keys_of}
use Rattle.rule_files.specs.declared.fault.RuleFault.{RuleFault}
use Rattle.rule_files.specs.declared.fault.RuleFault.TheVariants.{Shape, TwiceName}
use Rattle.access_rules.specs.declared.hide.Hide.{Hide}
use Rattle.access_rules.specs.declared.rule.Action.{Action}
use Rattle.addresses.specs.declared.prefix.Prefix.{Prefix}
use Rattle.access_rules.specs.declared.rule.Rule.{Rule}
use Rattle.rule_files.specs.declared.version.Version.{Version}
use Rattle.rule_files.specs.declared.version.Version.TheVariants.{One}

-- ---- keys that are not there

equal_key : (p : List ℕ → Bool) (q k : List ℕ) → p q ≡ false → slice_cmp nat_cmp q k ≡ Equal → p k ≡ true → ⊥
equal_key p q k misses e passes = let same = exact_bytes q k e in let yes : p q ≡ true = subst (λ (x : List ℕ). p x ≡ true) (sym same) passes in let is : true ≡ false = sym yes ∙ misses in cc

-- a key that no key of the table may be is none of them
pub no-member : (p : List ℕ → Bool) (q : List ℕ) → p q ≡ false → (table : Members) → list_all p (keys_of table) ≡ true → get_member q table ≡ None
no-member p q misses no_members all = refl
no-member p q misses (member k d ms) all =
    let parts = and_parts (p k) (list_all p (keys_of ms)) all in
    elim (slice_cmp nat_cmp q k) as (λ o. slice_cmp nat_cmp q k ≡ o → match_ordering o (get_member q ms) (Some d) (get_member q ms) ≡ None) [
      | Less ↦ λ e. no-member p q misses ms parts.1
      | Equal ↦ λ e. absurd (equal_key p q k misses e parts.0)
      | Greater ↦ λ e. no-member p q misses ms parts.1
    ] refl

-- ---- version 1

abbrev rule_made : Option (Action × Bool) → Option (Option (List ℕ) × Option (List (List ℕ))) → Option Bool → Option (List ℕ) → Option (List Prefix) → Option Rule
rule_made deed matter owner name from =
    option_and_then (λ d. option_and_then (λ m. option_and_then (λ o. option_and_then (λ n. option_and_then (λ f.
    Some (record { name = n; from = f; action = d.0; kind = m.0; scopes = m.1; allow = d.1; owner = o })) from) name) owner) matter) deed

made-plain : (deed : Option (Action × Bool)) (matter : Option (Option (List ℕ) × Option (List (List ℕ)))) (name : Option (List ℕ)) (from : Option (List Prefix)) (r : Rule) → rule_made deed matter (Some false) name from ≡ Some r → r.owner ≡ false
made-plain None matter name from r is = absurd (none-some r is)
made-plain (Some d) None name from r is = absurd (none-some r is)
made-plain (Some d) (Some m) None from r is = absurd (none-some r is)
made-plain (Some d) (Some m) (Some n) None r is = absurd (none-some r is)
made-plain (Some d) (Some m) (Some n) (Some f) r is = ap (λ (x : Rule). x.owner) (sym (same_Some _ r is))

table-plain : (table : Members) (r : Rule) → rule_of_table One table ≡ Some r → r.owner ≡ false
table-plain table r =
    elim (list_all is_common_key (keys_of table)) as (λ b. list_all is_common_key (keys_of table) ≡ b → cond b (rule_with table) None ≡ Some r → r.owner ≡ false) [
      | true ↦ λ common is.
          made-plain (deed_in table) (matter_in table) (name_in table) (from_in table) r
          (ap (λ o. rule_made (deed_in table) (matter_in table) o (name_in table) (from_in table)) (ap (λ (o : Option Data). option_map_or as_bool o (Some false)) (sym (no-member is_common_key owner_key refl table common))) ∙ is)
      | false ↦ λ other is. absurd (none-some r is)
    ] refl

rule-plain : (o : Option Members) (r : Rule) → option_and_then (rule_of_table One) o ≡ Some r → r.owner ≡ false
rule-plain None r is = absurd (none-some r is)
rule-plain (Some table) r is = table-plain table r is

err-ok : {A X : Type 0} (f : RuleFault) (x : X) → ◌≡◌ {A = Result X RuleFault} (Err f) (Ok x) → A
err-ok f x is = absurd cc

same-ok : {X : Type 0} (a b : X) → ◌≡◌ {A = Result X RuleFault} (Ok a) (Ok b) → a ≡ b
same-ok a b is = cc

-- none of them is about owners
abbrev are-plain : List Rule → Type 0
are-plain rs = list_all (λ r. not r.owner) rs ≡ true

read-plain : (o : Option Rule) (rest : Result (List Rule) RuleFault) (n : ℕ) (rules : List Rule) → ((r : Rule) → o ≡ Some r → r.owner ≡ false) → ((rs : List Rule) → rest ≡ Ok rs → are-plain rs)
    → option_map_or (λ r. read_map (λ rs. r ∷ rs) rest) o (Err (Shape n)) ≡ Ok rules → are-plain rules
read-plain None rest n rules first later is = err-ok (Shape n) rules is
read-plain (Some r) (Err f) n rules first later is = err-ok f rules is
read-plain (Some r) (Ok rs) n rules first later is =
    subst are-plain (same-ok (r ∷ rs) rules is)
    (ap₂ (λ a b. not a && b) (first r refl) (later rs refl))

from-plain : (n : ℕ) (ds : List Data) (rules : List Rule) → rules_from One n ds ≡ Ok rules → are-plain rules
from-plain n [] rules is = subst are-plain (same-ok [] rules is) refl
from-plain n (d ∷ ds) rules is = read-plain (rule_in One d) (rules_from One (n + 1) ds) n rules (λ r. rule-plain (as_table d) r) (from-plain (n + 1) ds) is

-- what is read in the end has the rules and the hide tables that were read
pub named-are : (rs : List Rule) (hs : List Hide) (s : SiteRules) → named_once rs hs ≡ Ok s → (rules_in s ≡ rs) × (hides_in s ≡ hs)
named-are rs hs s =
    elim (are_named_once hs rs) as (λ b. ◌≡◌ {A = Result SiteRules RuleFault} (cond b (Ok (record { rules = rs; hides = hs })) (Err TwiceName)) (Ok s) → (rules_in s ≡ rs) × (hides_in s ≡ hs)) [
      | true ↦ λ is. let e = same-ok (record { rules = rs; hides = hs }) s is in (ap rules_in (sym e), ap hides_in (sym e))
      | false ↦ λ is. err-ok TwiceName s is
    ]

-- the parts of what is read
pub read-parts : (rules : Result (List Rule) RuleFault) (hides : Result (List Hide) RuleFault) (s : SiteRules)
    → read_then (λ rs. read_then (named_once rs) hides) rules ≡ Ok s → (rules ≡ Ok (rules_in s)) × (hides ≡ Ok (hides_in s))
read-parts (Err f) hides s is = err-ok f s is
read-parts (Ok rs) (Err f) s is = err-ok f s is
read-parts (Ok rs) (Ok hs) s is = let parts = named-are rs hs s is in (ap Ok (sym parts.0), ap Ok (sym parts.1))

-- ---- versions

-- what a table of a version says
module _ (table : Members) (version : Version) (s : SiteRules) where
  abbrev in-version : Option Version → Result SiteRules RuleFault
  in-version o = option_map_or (λ v. option_map_or (rules_of_values v) (file_values_in table) (Err (Shape 0))) o (Err (Shape 0))

  -- it has no key besides, and values of rules and of hide tables
  pub record IsSaid : Type 0 where
    pub keys : list_all (is_file_key version) (keys_of table) ≡ true
    pub values : List Data × List Data
    pub values_are : file_values_in table ≡ Some values
    pub read : rules_of_values version values ≡ Ok s

  said-values : list_all (is_file_key version) (keys_of table) ≡ true → (o : Option (List Data × List Data)) → file_values_in table ≡ o → option_map_or (rules_of_values version) o (Err (Shape 0)) ≡ Ok s → IsSaid
  said-values keys None are is = err-ok (Shape 0) s is
  said-values keys (Some values) are is = record { keys = keys; values = values; values_are = are; read = is }

  pub said-of : version_in table ≡ Some version → rules_in_table table ≡ Ok s → IsSaid
  unfolding rules_in_table
  said-of named is =
      let p : Version → Bool = λ v. list_all (is_file_key v) (keys_of table) in
      let there : in-version (cond (p version) (Some version) None) ≡ Ok s = ap (λ (o : Option Version). in-version (option_and_then (if_where p) o)) (sym named) ∙ is in
      elim (p version) as (λ b. p version ≡ b → in-version (cond b (Some version) None) ≡ Ok s → IsSaid) [
        | true ↦ λ keys read. said-values keys (file_values_in table) refl read
        | false ↦ λ keys read. err-ok (Shape 0) s read
      ] refl there

pub first-version : (table : Members) (rules : SiteRules) → version_in table ≡ Some One → rules_in_table table ≡ Ok rules → is_without_owners rules ≡ true
first-version table rules one is =
    let said = said-of table One rules one is in
    let parts = read-parts (rules_from One 1 said.values.0) (hides_from (length said.values.0 + 1) said.values.1) rules said.read in
    from-plain 1 said.values.0 (rules_in rules) parts.0
