-- Strings, entries and listings that are read are those that are spelled, and the other way round.
use Rattle.std.proofs.Common.{◌≡◌, ℕ, ◌≤◌, false, true, cond, eqb, ltb, List, [], ◌∷◌, ◌++◌, length, take, drop, Result, Ok, Err, refl, sym, ap, subst, ◌∙◌, append_assoc, arith, lit<}
use Rattle.std.specs.Str.{is_utf8}
use Rattle.std.proofs.lemmas.Bool.{eqb-true, ltb-false, le-ltb}
use Rattle.std.proofs.lemmas.List.{take_at, drop_at, take-append-drop, length-append, length-take, nil_from_length}
use Rattle.std.proofs.lemmas.Str.{IsUtf8-from_is_utf8, is_utf8-from_IsUtf8, IsUtf8-nil}
use Rattle.byteorder.specs.Endian.{big_bytes}
use Rattle.slp_headers.specs.Headers.{string}
use Rattle.slp_fields.specs.Steps.{◌>>=◌}
use Rattle.slp_messages.specs.Fields.{IsString, IsEntry}
use Rattle.slp_fields.specs.Reading.{byte_at, number_at, string_at, no_block_at, no_index_at, entry_at}
use Rattle.slp_fields.specs.Spelling.{entry_bytes, SpellsEntry}
use Rattle.slp_fields.specs.declared.fault.WireFault.{WireFault}
use Rattle.slp_fields.specs.declared.fault.WireFault.TheVariants.{Parse, Auth}
use Rattle.slp_messages.specs.declared.message.UrlEntry.{UrlEntry}
use Rattle.slp_wire.proofs.Numbers.{byte_takes, byte_again, number_takes, number_again}
use Rattle.slp_wire.proofs.Steps.{IsBytes, IsBytes-drop, Takes, Takes-then, bind_ok, unless_ok, if_ok, from_ok}

-- ---- strings

abbrev text_in : ℕ × List ℕ → Result (List ℕ × List ℕ) WireFault
text_in n = cond (is_utf8 (take n.0 n.1)) (Ok (take n.0 n.1, drop n.0 n.1)) (Err Parse)

abbrev string_in : ℕ × List ℕ → Result (List ℕ × List ℕ) WireFault
string_in n = cond (ltb (length n.1) n.0) (Err Parse) (text_in n)

pub string_takes : (bytes text rest : List ℕ) → IsBytes bytes → string_at bytes ≡ Ok (text, rest) → Takes bytes (string text) rest × IsString text
unfolding string_at
string_takes bytes text rest fits e =
    let b = bind_ok (number_at bytes) string_in (text, rest) e in
    let n = b.0 in
    let t = number_takes bytes n.0 n.1 fits b.1 in
    let g = unless_ok (ltb (length n.1) n.0) Parse (text_in n) (text, rest) b.2 in
    let u = if_ok (is_utf8 (take n.0 n.1)) Parse (Ok (take n.0 n.1, drop n.0 n.1)) (text, rest) g.1 in
    let long : n.0 ≤ length n.1 = ltb-false _ _ g.0 in
    let len : length (take n.0 n.1) ≡ n.0 = omega (arith, length-take n.0 n.1) in
    let second : Takes n.1 (take n.0 n.1) (drop n.0 n.1) = record { parts = sym (take-append-drop n.0 n.1); rest_fits = IsBytes-drop n.0 n.1 t.0.rest_fits } in
    let both = Takes-then bytes (big_bytes 2 n.0) n.1 (take n.0 n.1) (drop n.0 n.1) t.0 second in
    let whole : Takes bytes (string (take n.0 n.1)) (drop n.0 n.1) = subst (λ (k : ℕ). Takes bytes (big_bytes 2 k ++ take n.0 n.1) (drop n.0 n.1)) (sym len) both in
    let sound : IsString (take n.0 n.1) = record { utf8 = IsUtf8-from_is_utf8 (take n.0 n.1) u.0; short = omega (arith, t.1, len) } in
    from_ok (λ (p : List ℕ × List ℕ). Takes bytes (string p.0) p.1 × IsString p.0) (take n.0 n.1, drop n.0 n.1) (text, rest) u.1 (whole, sound)

pub string_again : (text rest : List ℕ) → IsString text → string_at (string text ++ rest) ≡ Ok (text, rest)
unfolding string_at
string_again text rest sound =
    let long : ltb (length (text ++ rest)) (length text) ≡ false = le-ltb _ _ (omega (arith, length-append text rest)) in
    let front : take (length text) (text ++ rest) ≡ text = take_at text rest (length text) refl in
    let back : drop (length text) (text ++ rest) ≡ rest = drop_at text rest (length text) refl in
    let good : is_utf8 text ≡ true = is_utf8-from_IsUtf8 text sound.utf8 in
    ap (λ (r : Result (ℕ × List ℕ) WireFault). r >>= string_in) (number_again (length text) (text ++ rest) sound.short) ∙ rw (long, front, good, back) refl

-- ---- no authentication

abbrev nothing_then : List ℕ → Result (Unit {0} × List ℕ) WireFault
nothing_then rest = Ok (tt, rest)

pub no_block_takes : (bytes : List ℕ) (none : Unit {0}) (rest : List ℕ) → IsBytes bytes → no_block_at bytes ≡ Ok (none, rest) → Takes bytes (0 ∷ []) rest
unfolding no_block_at
no_block_takes bytes none rest fits e =
    let b = bind_ok (byte_at bytes) (λ n. cond (eqb n.0 0) (nothing_then n.1) (Err Auth)) (none, rest) e in
    let t = byte_takes bytes b.0.0 b.0.1 fits b.1 in
    let g = if_ok (eqb b.0.0 0) Auth (nothing_then b.0.1) (none, rest) b.2 in
    let zero : b.0.0 ≡ 0 = eqb-true _ _ g.0 in
    let whole : Takes bytes (0 ∷ []) b.0.1 = subst (λ (k : ℕ). Takes bytes (k ∷ []) b.0.1) zero t.0 in
    from_ok (λ (x : Unit {0} × List ℕ). Takes bytes (0 ∷ []) x.1) (tt, b.0.1) (none, rest) g.1 whole

pub no_block_again : (rest : List ℕ) → no_block_at (0 ∷ rest) ≡ Ok (tt, rest)
unfolding no_block_at
no_block_again rest = rw (byte_again 0 rest) refl

pub no_index_takes : (bytes : List ℕ) (none : Unit {0}) (rest : List ℕ) → IsBytes bytes → no_index_at bytes ≡ Ok (none, rest) → Takes bytes (string []) rest
unfolding no_index_at
no_index_takes bytes none rest fits e =
    let b = bind_ok (string_at bytes) (λ s. cond (eqb (length s.0) 0) (nothing_then s.1) (Err Auth)) (none, rest) e in
    let t = string_takes bytes b.0.0 b.0.1 fits b.1 in
    let g = if_ok (eqb (length b.0.0) 0) Auth (nothing_then b.0.1) (none, rest) b.2 in
    let empty : b.0.0 ≡ [] = nil_from_length b.0.0 (eqb-true _ _ g.0) in
    let whole : Takes bytes (string []) b.0.1 = subst (λ (s : List ℕ). Takes bytes (string s) b.0.1) empty t.0 in
    from_ok (λ (x : Unit {0} × List ℕ). Takes bytes (string []) x.1) (tt, b.0.1) (none, rest) g.1 whole

nothing : IsString []
nothing = record { utf8 = IsUtf8-nil; short = lit< tt }

pub no_index_again : (rest : List ℕ) → no_index_at (string [] ++ rest) ≡ Ok (tt, rest)
unfolding no_index_at
no_index_again rest = rw (string_again [] rest nothing) refl

-- ---- entries

abbrev entry_after : ℕ → List ℕ → List ℕ → Result (UrlEntry × List ℕ) WireFault
entry_after lifetime url bytes = no_block_at bytes >>= λ none. Ok (record { lifetime = lifetime; url = url }, none.1)

pub entry_takes : (bytes : List ℕ) (e : UrlEntry) (rest : List ℕ) → IsBytes bytes → entry_at bytes ≡ Ok (e, rest) → (text : List ℕ) × Takes bytes text rest × SpellsEntry text e × IsEntry e
unfolding entry_at
entry_takes bytes e rest fits h =
    let a = bind_ok (byte_at bytes) (λ reserved. number_at reserved.1 >>= λ lifetime. string_at lifetime.1 >>= λ url. entry_after lifetime.0 url.0 url.1) (e, rest) h in
    let b = bind_ok (number_at a.0.1) (λ lifetime. string_at lifetime.1 >>= λ url. entry_after lifetime.0 url.0 url.1) (e, rest) a.2 in
    let c = bind_ok (string_at b.0.1) (λ url. entry_after b.0.0 url.0 url.1) (e, rest) b.2 in
    let made : UrlEntry = record { lifetime = b.0.0; url = c.0.0 } in
    let d = bind_ok (no_block_at c.0.1) (λ none. Ok (made, none.1)) (e, rest) c.2 in
    let ta = byte_takes bytes a.0.0 a.0.1 fits a.1 in
    let tb = number_takes a.0.1 b.0.0 b.0.1 ta.0.rest_fits b.1 in
    let tc = string_takes b.0.1 c.0.0 c.0.1 tb.0.rest_fits c.1 in
    let td = no_block_takes c.0.1 d.0.0 d.0.1 tc.0.rest_fits d.1 in
    let cd = Takes-then b.0.1 (string c.0.0) c.0.1 (0 ∷ []) d.0.1 tc.0 td in
    let bd = Takes-then a.0.1 (big_bytes 2 b.0.0) b.0.1 (string c.0.0 ++ 0 ∷ []) d.0.1 tb.0 cd in
    let ad = Takes-then bytes (a.0.0 ∷ []) a.0.1 (big_bytes 2 b.0.0 ++ (string c.0.0 ++ 0 ∷ [])) d.0.1 ta.0 bd in
    let spells : SpellsEntry (entry_bytes a.0.0 made) made = (a.0.0, ta.1, refl) in
    let sound : IsEntry made = record { lifetime = tb.1; url = tc.1 } in
    from_ok (λ (p : UrlEntry × List ℕ). (text : List ℕ) × Takes bytes text p.1 × SpellsEntry text p.0 × IsEntry p.0) (made, d.0.1) (e, rest) d.2 (entry_bytes a.0.0 made, ad, spells, sound)

pub entry_again : (text : List ℕ) (e : UrlEntry) (rest : List ℕ) → SpellsEntry text e → IsEntry e → entry_at (text ++ rest) ≡ Ok (e, rest)
unfolding entry_at
entry_again text e rest spells sound =
    let regrouped : text ++ rest ≡ spells.0 ∷ (big_bytes 2 e.lifetime ++ (string e.url ++ (0 ∷ rest))) = ap (λ (x : List ℕ). x ++ rest) spells.2 ∙ ap (λ (x : List ℕ). spells.0 ∷ (big_bytes 2 e.lifetime ++ (big_bytes 2 (length e.url) ++ x))) (append_assoc e.url (0 ∷ []) rest) in
    ap entry_at regrouped ∙ rw (byte_again spells.0 (big_bytes 2 e.lifetime ++ (string e.url ++ (0 ∷ rest))), number_again e.lifetime (string e.url ++ (0 ∷ rest)) sound.lifetime, string_again e.url (0 ∷ rest) sound.url, no_block_again rest) refl
