-- What a search takes at once: bytes of ASCII without white space, as their lower case.
use Rattle.std.proofs.Common.{◌≡◌, ℕ, true, false, List, [], ◌∷◌, ◌++◌, map, refl, sym, ap, ◌∙◌, append_assoc}
use Rattle.std.specs.Char.{to_ascii_lowercase}
use Rattle.std.specs.List.{list_all}
use Rattle.std.proofs.lemmas.List.{map-append}
use Rattle.std.proofs.lemmas.List.Folds.{list_all-append}
use Rattle.slp_text.specs.Keys.{is_word_byte}
use Rattle.slp_tags.specs.Searches.{front, has_front, star_at, floating, IsLongestEnd}
use Rattle.slp_tags.specs.Tags.{Sign}
use Rattle.slp_tags.proofs.Searches.{step-floats}

-- from n signs that came last to m, over bytes that are taken
abbrev pub IsSwept : List Sign → ℕ → ℕ → List ℕ → Type 0
IsSwept p n m taken = (list_all is_word_byte taken ≡ true) × (has_front m p ≡ true) × ((text : List ℕ) → floating p m text ≡ floating p n (map to_ascii_lowercase taken ++ text))

pub swept-none : (p : List Sign) (n : ℕ) → has_front n p ≡ true → IsSwept p n n []
swept-none p n h = (refl, h, λ text. refl)

pub swept-more : (p : List Sign) (n m k b c : ℕ) (taken : List ℕ) → is_word_byte b ≡ true → c ≡ to_ascii_lowercase b → star_at m p ≡ false → IsLongestEnd p k (front m p ++ c ∷ []) → IsSwept p n m taken → IsSwept p n k (taken ++ b ∷ [])
swept-more p n m k b c taken plain is past longest h = (
  list_all-append is_word_byte taken (b ∷ []) ∙ rw (h.0, plain) refl,
  longest.0.2,
  λ text. step-floats p m k c text h.1 past longest ∙ h.2 (c ∷ text)
      ∙ ap (floating p n) (ap (λ d. map to_ascii_lowercase taken ++ d ∷ text) is ∙ sym (append_assoc (map to_ascii_lowercase taken) (to_ascii_lowercase b ∷ []) text) ∙ ap (λ l. l ++ text) (sym (map-append to_ascii_lowercase taken (b ∷ [])))),
)
