use Rattle.std.proofs.Common.{◌≡◌, ℕ, ◌-◌, List, length, take, drop, ap, ◌∙◌, arith, length-drop, Some, None, if◌then◌else◌}
use Rattle.std.specs.Prelude.{slice_index}
use Rattle.std.proofs.lemmas.List.{take_all}
use Rattle.byteorder.specs.Endian.{big_number}
use Rattle.slp_headers.specs.Headers.{fields_of, Heading}
use Rattle.slp_headers.proofs.reading.read_header.Goals as goal

-- a number at a place, by all the bytes from there on
number_at : (w n : ℕ) (bytes : List ℕ) → big_number w (take (length bytes - n) (drop n bytes)) ≡ big_number w (drop n bytes)
number_at w n bytes = ap (big_number w) (take_all (length bytes - n) (drop n bytes) (omega (arith, length-drop n bytes)))

made : (v f l g e x m h d y : ℕ) (t u : List ℕ) → l ≡ m → g ≡ h → e ≡ d → x ≡ y → t ≡ u
    → ◌≡◌ {A = Heading} (record { version = v; function = f; length = m; flags = h; extension = d; xid = y; language = u }) (record { version = v; function = f; length = l; flags = g; extension = e; xid = x; language = t })
made v f l g e x m h d y t u a b i j k = cc

pub returns : goal.returns
returns c =
    let bytes = c.args.bytes.now in
    let r = c.in_ok-language.ensures in
    ap (λ b. if b then Some (fields_of bytes) else None) r.0
    ∙ ap Some (made (slice_index bytes 0) (slice_index bytes 1) _ _ _ _ _ _ _ _ _ _ (c.read_u24.ensures ∙ number_at 3 2 bytes) (c.read_u16.ensures ∙ number_at 2 5 bytes) (c.read_u24-2.ensures ∙ number_at 3 7 bytes) (c.read_u16-2.ensures ∙ number_at 2 10 bytes) r.1)
