-- What a test of tags accepts, and where values stand by one that is handed over.
use Rattle.std.specs.Prelude.{◌≡◌, ℕ, Bool, List}
use Rattle.std.specs.Fn.{AnyResult}
use Rattle.std.specs.declared.cmp.Ordering.{Ordering}
use Rattle.attr_values.specs.declared.value.Value.{Value}
use denote.Param.Members.{Shared}
use denote.Ref.{Bor}

-- each call of f at a tag answers what p says of the tag
abbrev pub AcceptsAs : {F : Type 0} → Shared F (Bor (List ℕ) × Unit {0}) Bool → F → (List ℕ → Bool) → Type 0
AcceptsAs {F} g f p = (tag : Bor (List ℕ)) → AnyResult g f (tag, tt) (λ r. r ≡ p tag.now)

-- each call of f at a value answers where it stands
abbrev pub StandsAs : {F : Type 0} → Shared F (Bor Value × Unit {0}) Ordering → F → (Value → Ordering) → Type 0
StandsAs {F} g f stand = (v : Bor Value) → AnyResult g f (v, tt) (λ r. r ≡ stand v.now)
