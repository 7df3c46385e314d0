-- A walk through entries: what it has found, and what is still to come.
use Rattle.std.proofs.Common.{◌≡◌, Bool, true, false, ◌||◌, List, [], refl, sym, ap, ◌∙◌}
use Rattle.std.specs.Prelude.{ℕ, filter}
use Rattle.std.specs.List.{list_any}
use Rattle.std.specs.Option.{option_map}
use Rattle.registry_core.specs.declared.entry.Entry.{Entry}
use Rattle.registry_core.specs.Entries.{outlives}
use Rattle.directory_judge.specs.Judgements.{Grounds, first_from, first_of}
use Rattle.directory_judge.specs.Walks.{entry_in, is_concerned, is_kept_back, IsRuledWalk}
use Rattle.directory_judge.specs.declared.withdrawals.Walk.{Walk}

-- what was found so far and what is still to come have what the whole has
pub record IsAhead (g : Grounds) (scopes : List (List ℕ)) (walk : Walk) (rest whole : List Entry) : Type 0 where
  pub is_live : (walk.is_live || list_any (outlives g.now) rest) ≡ list_any (outlives g.now) whole
  pub first : first_from (option_map entry_in walk.first) (filter (is_concerned g scopes) rest) ≡ first_of (filter (is_concerned g scopes) whole)
  pub kept : first_from (option_map entry_in walk.kept) (filter (is_kept_back g scopes) rest) ≡ first_of (filter (is_kept_back g scopes) whole)
  pub ruled : IsRuledWalk g walk

or-false : (a : Bool) → a ≡ (a || false)
or-false true = refl
or-false false = refl

pub ahead-is_live : (g : Grounds) (scopes : List (List ℕ)) (walk : Walk) (rest whole : List Entry) → IsAhead g scopes walk rest whole → rest ≡ [] → walk.is_live ≡ list_any (outlives g.now) whole
ahead-is_live g scopes walk rest whole ahead none = or-false walk.is_live ∙ ap (λ es. walk.is_live || list_any (outlives g.now) es) (sym none) ∙ ahead.is_live

pub ahead-first : (g : Grounds) (scopes : List (List ℕ)) (walk : Walk) (rest whole : List Entry) → IsAhead g scopes walk rest whole → rest ≡ [] → option_map entry_in walk.first ≡ first_of (filter (is_concerned g scopes) whole)
ahead-first g scopes walk rest whole ahead none = ap (λ es. first_from (option_map entry_in walk.first) (filter (is_concerned g scopes) es)) (sym none) ∙ ahead.first

pub ahead-kept : (g : Grounds) (scopes : List (List ℕ)) (walk : Walk) (rest whole : List Entry) → IsAhead g scopes walk rest whole → rest ≡ [] → option_map entry_in walk.kept ≡ first_of (filter (is_kept_back g scopes) whole)
ahead-kept g scopes walk rest whole ahead none = ap (λ es. first_from (option_map entry_in walk.kept) (filter (is_kept_back g scopes) es)) (sym none) ∙ ahead.kept
