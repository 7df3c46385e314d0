-- A text means the attributes that it is read as, and no others.
use Rattle.std.proofs.Common.{◌≡◌, ℕ, List, Ok, sym, ap, ◌∙◌, chars}
use Rattle.std.specs.Prelude.{◌↔◌}
use Rattle.slp_text.specs.Reading.{read_map}
use Rattle.attr_list.specs.Lists.{Attributes, Means, attributes_of}
use Rattle.attr_list.specs.Reading.{attributes_in, elements_of}
use Rattle.attr_list.proofs.InnerCharacters.{mapped_ok}
use Rattle.attr_list.proofs.ReadElements.{read-spelled}
use Rattle.attr_list.proofs.SpelledElements.{spelled-read}

-- what a text means is what it is read as
pub meaning : (text : List ℕ) (a : Attributes) → Means text a ↔ (attributes_in text ≡ Ok a)
meaning text a = (
  (λ m. ap (read_map attributes_of) (spelled-read (chars text) m.0 m.1) ∙ ap Ok (sym m.2)),
  (λ h. let r = mapped_ok attributes_of (elements_of (chars text)) a h in (r.0, read-spelled (chars text) r.0 r.1, sym r.2)),
)
