-- What is read as a tag, and where reading ends in a fault.
use Rattle.std.proofs.Common.{◌≡◌, ℕ, true, false, cond, ◌==◌, List, length, Result, Ok, Err, sym, ap, subst, ◌∙◌, chars, encode_utf8_all}
use Rattle.std.specs.Prelude.{IsUtf8}
use Rattle.std.proofs.lemmas.Str.{chars_from_encodes, scalars-chars}
use Rattle.slp_text.specs.Keys.{key_of, folded_text}
use Rattle.slp_text.specs.Reading.{read_map, read_then}
use Rattle.slp_text.specs.declared.faults.TextFault.{TextFault}
use Rattle.slp_text.proofs.KeysOfKeys.{fixed_key, key-again, key_chars, key_of-chars, scalars-fixed, key_of-folded_text}
use Rattle.attr_values.specs.Reading.{IsFault}
use Rattle.attr_values.specs.declared.fault.AttrFault.{AttrFault}
use Rattle.attr_values.specs.declared.fault.AttrFault.TheVariants.{BadEscape, BadTag, BadList, NoMemory}
use Rattle.attr_list.specs.Pieces.{IsTagKey}
use Rattle.attr_list.specs.Reading.{tag_by}

-- ---- faults

-- the fault that was read is a fault
pub fault-itself : {A : Type 0} (e : AttrFault) (r : Result A AttrFault) → r ≡ Err e → IsFault e r
fault-itself BadEscape r h = h
fault-itself BadTag r h = h
fault-itself BadList r h = h
fault-itself NoMemory r h = tt

-- nothing is read after a fault
pub fault-then : {A B : Type 0} (f : A → Result B AttrFault) (e : AttrFault) (r : Result A AttrFault) → IsFault e r → IsFault e (read_then f r)
fault-then f BadEscape r h = ap (read_then f) h
fault-then f BadTag r h = ap (read_then f) h
fault-then f BadList r h = ap (read_then f) h
fault-then f NoMemory r h = tt

-- nothing is made of a fault
pub fault-map : {A B : Type 0} (f : A → B) (e : AttrFault) (r : Result A AttrFault) → IsFault e r → IsFault e (read_map f r)
fault-map f BadEscape r h = ap (read_map f) h
fault-map f BadTag r h = ap (read_map f) h
fault-map f BadList r h = ap (read_map f) h
fault-map f NoMemory r h = tt

-- the fault of what reads the same
pub fault-same : {A : Type 0} (e : AttrFault) (r s : Result A AttrFault) → s ≡ r → IsFault e r → IsFault e s
fault-same e r s is h = subst (IsFault e) (sym is) h

-- ---- tags

-- a key is UTF-8
key_utf8 : (text : List ℕ) → IsUtf8 text → IsUtf8 (key_of text)
key_utf8 text u = (key_chars (chars text), (scalars-fixed (key_chars (chars text)) (fixed_key (chars text) (scalars-chars text u)), sym (key_of-chars text)))

-- a key that is not empty is that of a tag
pub tag_key : (text tag : List ℕ) → IsUtf8 text → tag ≡ key_of text → (length tag == 0) ≡ false → IsTagKey tag
tag_key text tag u is some = record {
  utf8 = subst IsUtf8 (sym is) (key_utf8 text u);
  is_some = λ none. let t : (length tag == 0) ≡ true = ap (λ cs. length cs == 0) none in cc;
  is_own_key = ap key_of is ∙ key-again text u ∙ sym is;
}

-- what was read is the same
same_ok : (x y : List ℕ) → ◌≡◌ {A = Result (List ℕ) TextFault} (Ok x) (Ok y) → x ≡ y
same_ok x y h = cc

-- text is what was unescaped, and tag its key
pub tag_by-key : (empty : AttrFault) (unescaped : Result (List ℕ) TextFault) (text tag : List ℕ) → IsUtf8 text → read_map encode_utf8_all unescaped ≡ Ok text → tag ≡ key_of text
    → tag_by empty unescaped ≡ cond (length tag == 0) (Err empty) (Ok tag)
tag_by-key empty (Ok cs) text tag u read is =
    let same : cs ≡ chars text = chars_from_encodes cs text u (same_ok (encode_utf8_all cs) text read) in
    let folded : folded_text cs ≡ tag = ap folded_text same ∙ sym (key_of-folded_text text) ∙ sym is in
    ap (λ k. cond (length k == 0) (Err empty) (Ok k)) folded
tag_by-key empty (Err e) text tag u read is = cc
