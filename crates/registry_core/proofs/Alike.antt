-- Entries alike.
use Rattle.std.proofs.Common.{◌≡◌, ◌==◌, true, refl, sym, subst, ◌∙◌, eqb-true}
use Rattle.std.specs.Prelude.{◌&&◌}
use Rattle.std.proofs.lemmas.Bool.{and_from, and_parts, eq-eqb}
use Rattle.slp_text.proofs.KeySets.{bytes_same}
use Rattle.slp_text.specs.Words.{bytes_eq, texts_eq}
use Rattle.registry_core.specs.declared.entry.Entry.{Entry}
use Rattle.registry_core.specs.Entries.{are_alike}
use Rattle.registry_core.proofs.SameTexts.{bytes_itself, texts_itself, texts_same}

-- what they have in common
pub record HaveSame (e f : Entry) : Type 0 where
  pub owner : e.owner ≡ f.owner
  pub kind : e.kind ≡ f.kind
  pub scopes : e.scopes ≡ f.scopes

pub alike-same : (e f : Entry) → are_alike e f ≡ true → HaveSame e f
alike-same e f alike =
    let scopes = and_parts (e.owner == f.owner && bytes_eq e.kind f.kind) (texts_eq e.scopes f.scopes) alike in
    let kinds = and_parts (e.owner == f.owner) (bytes_eq e.kind f.kind) scopes.0 in
    record { owner = eqb-true e.owner f.owner kinds.0; kind = bytes_same e.kind f.kind kinds.1; scopes = texts_same e.scopes f.scopes scopes.1 }

pub same-alike : (e f : Entry) → HaveSame e f → are_alike e f ≡ true
same-alike e f same =
    and_from _ _ (and_from _ _ (eq-eqb e.owner f.owner same.owner) (subst (λ k. bytes_eq e.kind k ≡ true) same.kind (bytes_itself e.kind))) (subst (λ s. texts_eq e.scopes s ≡ true) same.scopes (texts_itself e.scopes))

-- two that are alike to a third are alike
pub alike-both : (e f g : Entry) → are_alike e f ≡ true → are_alike e g ≡ true → are_alike f g ≡ true
alike-both e f g first second =
    let p = alike-same e f first in
    let q = alike-same e g second in
    same-alike f g (record { owner = sym p.owner ∙ q.owner; kind = sym p.kind ∙ q.kind; scopes = sym p.scopes ∙ q.scopes })

pub alike-itself : (e : Entry) → are_alike e e ≡ true
alike-itself e = same-alike e e (record { owner = refl; kind = refl; scopes = refl })
