-- Naming authorities, as they are read and as they are spelled (RFC 2608, section 10.1).
use Rattle.std.proofs.Common.{◌≡◌, ℕ, false, eqb, List, ◌++◌, length, Ok, refl, sym, ap, subst, ◌∙◌, arith, lit<, inl, inr}
use Rattle.std.proofs.lemmas.Bool.{eqb-true, eqb-false, ne_eqb}
use Rattle.byteorder.specs.Endian.{big_bytes}
use Rattle.slp_messages.specs.Fields.{IsString, IsAuthorityName, IsAuthority}
use Rattle.slp_messages.specs.declared.message.Authority.{Authority}
use Rattle.slp_messages.specs.declared.message.Authority.TheVariants.{All, Named}
use Rattle.slp_fields.specs.Reading.{number_at, string_at, authority_at}
use Rattle.slp_fields.specs.Spelling.{authority_bytes}
use Rattle.slp_wire.proofs.Numbers.{number_takes, number_again}
use Rattle.slp_wire.proofs.Parts.{string_takes, string_again}
use Rattle.slp_wire.proofs.Steps.{IsBytes, Takes, bind_ok, chosen, ok_is, from_ok}

-- what was read as an authority
abbrev Reading : List ℕ → Authority × List ℕ → Type 0
Reading bytes p = Takes bytes (authority_bytes p.0) p.1 × IsAuthority p.0

pub authority_takes : (bytes : List ℕ) (a : Authority) (rest : List ℕ) → IsBytes bytes → authority_at bytes ≡ Ok (a, rest) → Takes bytes (authority_bytes a) rest × IsAuthority a
unfolding authority_at
authority_takes bytes a rest fits h =
    let n = bind_ok (number_at bytes) _ (a, rest) h in
    let t = number_takes bytes n.0.0 n.0.1 fits n.1 in
    elim (chosen (eqb n.0.0 65535) _ _ (Ok (a, rest)) n.2) [
      | inl all ↦
          let front : Takes bytes (big_bytes 2 65535) n.0.1 = subst (λ (k : ℕ). Takes bytes (big_bytes 2 k) n.0.1) (eqb-true _ _ all.0) t.0 in
          from_ok (Reading bytes) (All, n.0.1) (a, rest) all.1 (front, tt)
      | inr named ↦
          let s = bind_ok (string_at bytes) _ (a, rest) named.1 in
          let u = string_takes bytes s.0.0 s.0.1 fits s.1 in
          let counted : n.0 ≡ (length s.0.0, s.0.0 ++ s.0.1) = ok_is n.0 (length s.0.0, s.0.0 ++ s.0.1) (sym n.1 ∙ ap number_at u.0.parts ∙ number_again (length s.0.0) (s.0.0 ++ s.0.1) u.1.short) in
          let size : n.0.0 ≡ length s.0.0 = ap (λ (p : ℕ × List ℕ). p.0) counted in
          let other : n.0.0 ≡ 65535 → ⊥ = eqb-false _ _ named.0 in
          let sound : IsAuthorityName s.0.0 = record { utf8 = u.1.utf8; short = omega (arith, u.1.short, size, other) } in
          from_ok (Reading bytes) (Named s.0.0, s.0.1) (a, rest) s.2 (u.0, sound)
    ]

pub authority_again : (a : Authority) (rest : List ℕ) → IsAuthority a → authority_at (authority_bytes a ++ rest) ≡ Ok (a, rest)
unfolding authority_at
authority_again All rest sound = rw (number_again 65535 rest (lit< tt)) refl
authority_again (Named text) rest sound =
    let whole : IsString text = record { utf8 = sound.utf8; short = omega (arith, sound.short) } in
    let other : eqb (length text) 65535 ≡ false = ne_eqb (length text) 65535 (λ (e : length text ≡ 65535). absurd (omega (arith, sound.short, e))) in
    rw (number_again (length text) (text ++ rest) whole.short, other, string_again text rest whole) refl
