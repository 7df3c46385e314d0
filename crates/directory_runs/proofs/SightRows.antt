-- Who sees what, worked out: rules by scope, rules of owners, and what hide tables take away.
use Rattle.std.proofs.Common.{◌≡◌, ℕ, true, false, List, [], ◌∷◌, codes, map, Some, None, refl, sym, subst, arith, ⊎_elim}
use Rattle.std.specs.Prelude.{Contains, IsTrue}
use Rattle.slp_text.proofs.KeySets.{here, there, member_cases}
use Rattle.attr_list.specs.Lists.{attributes_of}
use Rattle.access_rules.specs.Deciding.{SiteRules, deciding, deed}
use Rattle.access_rules.specs.declared.rule.Action.TheVariants.{See}
use Rattle.addresses.specs.declared.prefix.Prefix.{Prefix}
use Rattle.registry_core.specs.declared.entry.Entry.{Entry}
use Rattle.directory_judge.specs.History.{Event, Putting, Put, Set}
use Rattle.directory_judge.specs.Meaning.{founding}
use Rattle.directory_judge.specs.Sites.{Site}
use Rattle.directory_questions.specs.Items.{Open}
use Rattle.directory_questions.specs.Sights.{is_shown}
use Rattle.std.specs.FinMap as fin
use Rattle.directory_runs.proofs.Owners.{false-true}

-- 10.0.0.1 and 10.0.0.2
abbrev one : ℕ
one = 167772161

abbrev two : ℕ
two = 167772162

abbrev every : List Prefix
every = record { addr = 0; bits = 0 } ∷ []

abbrev a : List ℕ
a = codes "a"

abbrev b : List ℕ
b = codes "b"

abbrev two_scopes : Site
two_scopes = record { scopes = a ∷ b ∷ []; capacity = 16; templates = fin.empty; boot = 1 }

-- what 10.0.0.1 registered in both
abbrev printer : Entry
printer = record {
  url = codes "service:printer:lpr://a";
  language = codes "en";
  kind = codes "service:printer:lpr";
  scopes = a ∷ b ∷ [];
  attrs = attributes_of [];
  deadline = 300;
  owner = one;
}

nothing_in : (x : List ℕ) → Contains [] x → ⊥
nothing_in x has = omega (arith, has.1)

-- in one scope alone
in_one : (s x : List ℕ) → Contains (s ∷ []) x → s ≡ x
in_one s x has = ⊎_elim (λ same. same) (λ none. absurd (nothing_in x none)) (member_cases s x [] has)

-- ---- seeing is denied in a, and then allowed in every scope

abbrev hide_a : SiteRules
hide_a = record {
  rules = record { name = codes "hide-a"; from = every; action = See; kind = None; scopes = Some (a ∷ []); allow = false; owner = false }
      ∷ record { name = codes "see-all"; from = every; action = See; kind = None; scopes = None; allow = true; owner = false } ∷ [];
  hides = [];
}

not_in_a : Open hide_a two_scopes two (a ∷ []) printer → ⊥
not_in_a o = false-true (deciding hide_a (deed two See printer.kind one) a).allow refl (subst (λ (s : List ℕ). IsTrue (deciding hide_a (deed two See printer.kind one) s).allow) (sym (in_one a o.scope o.requested)) o.allowed)

in_b : Open hide_a two_scopes two (b ∷ []) printer
in_b = record { scope = b; stored = there a b (b ∷ []) (here b []); requested = here b []; supported = there a b (b ∷ []) (here b []); allowed = refl }

in_both : Open hide_a two_scopes two (a ∷ b ∷ []) printer
in_both = record { scope = b; stored = there a b (b ∷ []) (here b []); requested = there a b (b ∷ []) (here b []); supported = there a b (b ∷ []) (here b []); allowed = refl }

-- ---- each sees what it registered itself

abbrev mine : SiteRules
mine = record {
  rules = record {
    name = codes "mine";
    from = every;
    action = See;
    kind = None;
    scopes = None;
    allow = true;
    owner = true;
  } ∷ [];
  hides = [];
}

own_is_seen : Open mine two_scopes one (a ∷ []) printer
own_is_seen = record { scope = a; stored = here a (b ∷ []); requested = here a []; supported = here a (b ∷ []); allowed = refl }

another_is_not : Open mine two_scopes two (a ∷ []) printer → ⊥
another_is_not o = false-true (deciding mine (deed two See printer.kind one) o.scope).allow refl o.allowed

abbrev by_one : Putting
by_one = record { asker = one; url = printer.url; language = printer.language; kind = printer.kind; scopes = a ∷ b ∷ []; attributes = attributes_of []; lifetime = 300 }

abbrev registered : Event
registered = record { moment = 0; act = Put by_one }

-- whoever updates it
abbrev updated : Event
updated = record { moment = 1; act = Set (record { url = printer.url; language = printer.language; attributes = attributes_of []; lifetime = 300 }) }

an_update_founds_nothing : founding (printer.url, printer.language) (updated ∷ registered ∷ []) ≡ Some by_one
an_update_founds_nothing = refl

-- ---- a tag is hidden in a, but from its owner

abbrev location : List ℕ
location = codes "location"

abbrev hidden_in_a : SiteRules
hidden_in_a = record {
  rules = record {
    name = codes "all-see";
    from = every;
    action = See;
    kind = None;
    scopes = None;
    allow = true;
    owner = false;
  } ∷ [];
  hides = record {
    name = codes "in-a";
    from = every;
    kind = None;
    scopes = Some (a ∷ []);
    tags = map Some location ∷ [];
    spares_owner = true;
  } ∷ [];
}

hidden : is_shown hidden_in_a two (a ∷ []) printer location ≡ false
hidden = refl

shown_in_b : is_shown hidden_in_a two (b ∷ []) printer location ≡ true
shown_in_b = refl

shown_in_both : is_shown hidden_in_a two (a ∷ b ∷ []) printer location ≡ true
shown_in_both = refl

shown_to_its_owner : is_shown hidden_in_a one (a ∷ []) printer location ≡ true
shown_to_its_owner = refl

another_tag_is_shown : is_shown hidden_in_a two (a ∷ []) printer (codes "color") ≡ true
another_tag_is_shown = refl
