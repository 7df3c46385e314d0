-- What is read as a tag or as a value has no character raw that has a meaning between them.
use Rattle.std.proofs.Common.{◌≡◌, ℕ, Bool, true, false, ◌+◌, ◌*◌, cond, not, ◌==◌, List, [], ◌∷◌, Option, Some, None, Result, Ok, Err, refl, sym, ap, ap₂, ◌∙◌, arith}
use Rattle.std.specs.Prelude.{◌&&◌, ◌||◌, reverse}
use Rattle.std.specs.List.{list_all}
use Rattle.std.specs.Option.{option_map_or}
use Rattle.std.proofs.lemmas.Bool.{and_parts}
use Rattle.std.proofs.lemmas.Bool.Decides.{nat_tests}
use Rattle.std.proofs.lemmas.List.Folds.{list_all-append}
use Rattle.std.proofs.lemmas.Grind.{reverse_onto}
use Rattle.attr_values.specs.Values.{is_f, opaque_bytes, opaque_rest, value_by, value_of, value_of_form}
use Rattle.attr_values.specs.declared.value.Value.{Value}
use Rattle.attr_values.specs.declared.value.Value.TheVariants as value
use Rattle.slp_text.specs.Ascii.{backslash, comma, equals_sign, left_parenthesis, right_parenthesis}
use Rattle.slp_text.specs.Escapes.{digit_of, is_escapable, is_refused, unescaped_text_at, unescaped_text_from}
use Rattle.slp_text.specs.Keys.{is_white, squeezed_text, trim_start, trimmed_text}
use Rattle.slp_text.specs.Reading.{read_map}
use Rattle.slp_text.specs.declared.escapes.Place.TheVariants as place
use Rattle.slp_text.specs.declared.escapes.Stage.TheVariants.{Plain, Slash, Digit}
use Rattle.slp_text.specs.declared.faults.TextFault.{TextFault}
use Rattle.slp_text.specs.declared.faults.TextFault.TheVariants.{BadEscape, Reserved}

-- a test that holds, or one that does not
pub by_test : {A P : Type 0} (b : Bool) (x y r : A) → cond b x y ≡ r → (b ≡ true → x ≡ r → P) → (b ≡ false → y ≡ r → P) → P
by_test true x y r h f g = f refl h
by_test false x y r h f g = g refl h

-- what was read, of which something was made
pub mapped_ok : {A B E : Type 0} (f : A → B) (r : Result A E) (y : B) → read_map f r ≡ Ok y → (x : A) × (r ≡ Ok x) × (f x ≡ y)
mapped_ok f (Ok x) y h = (x, refl, cc)
mapped_ok f (Err e) y h = cc

-- it has no meaning between tags and values
abbrev pub is_inner : ℕ → Bool
is_inner c = not (c == left_parenthesis || c == right_parenthesis || c == comma || c == equals_sign)

-- none of them has
abbrev pub AreInner : List ℕ → Type 0
AreInner cs = list_all is_inner cs ≡ true

-- white space is inner
pub inner-white : (c : ℕ) → is_white c ≡ true → is_inner c ≡ true
inner-white c h = grind (arith, nat_tests)

-- so are the digits of escapes
inner-digit : (c d : ℕ) → digit_of c ≡ Some d → is_inner c ≡ true
inner-digit c d h = grind (arith, nat_tests)

-- what may stand raw in a tag is inner
inner-tag : (c : ℕ) → is_refused place.Tag c ≡ false → is_inner c ≡ true
inner-tag c h = grind (arith, nat_tests)

-- what may stand raw in a value is inner
inner-value : (c : ℕ) → is_refused place.Value c ≡ false → is_inner c ≡ true
inner-value c h = grind (arith, nat_tests)

-- a backslash is inner
inner-slash : (c : ℕ) → (c == backslash) ≡ true → is_inner c ≡ true
inner-slash c h = grind (arith, nat_tests)

-- one more in front
pub inner-more : (c : ℕ) (cs : List ℕ) → is_inner c ≡ true → AreInner cs → AreInner (c ∷ cs)
inner-more c cs h k = ap₂ (λ a b. a && b) h k

-- a digit of an escape, where one has to stand
by_digit : {A P : Type 0} (o : Option ℕ) (f : ℕ → Result A TextFault) (x : A) → option_map_or f o (Err BadEscape) ≡ Ok x → ((d : ℕ) → o ≡ Some d → f d ≡ Ok x → P) → P
by_digit None f x h k = cc
by_digit (Some d) f x h k = k d refl h

-- a fault is not what was read
no_fault : {A P : Type 0} (e : TextFault) (x : A) → ◌≡◌ {A = Result A TextFault} (Err e) (Ok x) → P
no_fault e x h = cc

module _ (allowed refused : ℕ → Bool) (raw : (c : ℕ) → refused c ≡ false → is_inner c ≡ true) where
  mutual
    -- what is read outside escapes is inner
    plain_inner : (cs xs : List ℕ) → unescaped_text_from allowed refused Plain cs ≡ Ok xs → AreInner cs
    plain_inner [] xs h = refl
    plain_inner (c ∷ cs) xs h =
        by_test (c == backslash) _ _ _ h
        (λ t k. inner-more c cs (inner-slash c t) (slash_inner cs xs k))
        (λ f k. by_test (refused c) _ _ _ k
        (λ t n. no_fault Reserved xs n)
        (λ g n. let r = mapped_ok (λ ys. c ∷ ys) (unescaped_text_from allowed refused Plain cs) xs n in inner-more c cs (raw c g) (plain_inner cs r.0 r.1)))

    -- and what is read after a backslash
    slash_inner : (cs xs : List ℕ) → unescaped_text_from allowed refused Slash cs ≡ Ok xs → AreInner cs
    slash_inner [] xs h = no_fault BadEscape xs h
    slash_inner (c ∷ cs) xs h =
        by_digit (digit_of c) (λ d. unescaped_text_from allowed refused (Digit d) cs) xs h (λ d is k. inner-more c cs (inner-digit c d is) (digit_inner d cs xs k))

    -- and after the first digit of an escape
    digit_inner : (d : ℕ) (cs xs : List ℕ) → unescaped_text_from allowed refused (Digit d) cs ≡ Ok xs → AreInner cs
    digit_inner d [] xs h = no_fault BadEscape xs h
    digit_inner d (c ∷ cs) xs h =
        by_digit (digit_of c) _ xs h
        (λ e is k. by_test (allowed (16 * d + e)) _ _ _ k
        (λ t n. let r = mapped_ok (λ ys. (16 * d + e) ∷ ys) (unescaped_text_from allowed refused Plain cs) xs n in inner-more c cs (inner-digit c e is) (plain_inner cs r.0 r.1))
        (λ f n. no_fault BadEscape xs n))

-- the characters of a tag are inner
pub tag-inner : (cs read : List ℕ) → unescaped_text_at place.Tag cs ≡ Ok read → AreInner cs
tag-inner cs read h = plain_inner is_escapable (is_refused place.Tag) inner-tag cs read h

-- ---- values

-- white space cut off at the start was inner
start-inner : (cs : List ℕ) → AreInner (trim_start cs) → AreInner cs
start-inner [] h = refl
start-inner (c ∷ cs) h =
    elim (is_white c) as (λ b. is_white c ≡ b → AreInner (cond b (trim_start cs) (c ∷ cs)) → AreInner (c ∷ cs)) [
      | true ↦ λ t k. inner-more c cs (inner-white c t) (start-inner cs k)
      | false ↦ λ f k. k
    ] refl h

-- turned round, the characters are the same
reverse-inner : (cs : List ℕ) → AreInner (reverse cs) → AreInner cs
reverse-inner [] h = refl
reverse-inner (c ∷ cs) h =
    let both = and_parts (list_all is_inner (reverse cs)) (list_all is_inner (c ∷ [])) (sym (list_all-append is_inner (reverse cs) (c ∷ [])) ∙ ap (list_all is_inner) (sym (reverse_onto cs c [])) ∙ h) in
    inner-more c cs (and_parts (is_inner c) true both.1).0 (reverse-inner cs both.0)

-- white space cut off at the ends was inner
trimmed-inner : (cs : List ℕ) → AreInner (trimmed_text cs) → AreInner cs
trimmed-inner cs h = start-inner cs (reverse-inner (trim_start cs) (start-inner (reverse (trim_start cs)) (reverse-inner (trim_start (reverse (trim_start cs))) h)))

-- an F is inner
inner-f : (c : ℕ) → is_f c ≡ true → is_inner c ≡ true
inner-f c h = grind (arith, nat_tests)

-- escapes of bytes are inner
bytes-inner : (cs bytes : List ℕ) → opaque_bytes cs ≡ Ok bytes → AreInner cs
bytes-inner cs bytes h = plain_inner (λ b. true) (λ c. true) (λ c h. cc) cs bytes h

-- the characters of an opaque value are inner
opaque-inner : (cs rest bytes : List ℕ) → opaque_rest cs ≡ Some rest → opaque_bytes rest ≡ Ok bytes → AreInner cs
opaque-inner [] rest bytes h k = cc
opaque-inner (b ∷ []) rest bytes h k = cc
opaque-inner (b ∷ f ∷ []) rest bytes h k = cc
opaque-inner (b ∷ f ∷ g ∷ cs) rest bytes h k =
    by_test (b == backslash && is_f f && is_f g) _ _ _ h
    (λ t e.
    let same : cs ≡ rest = cc in
    let last = and_parts (b == backslash && is_f f) (is_f g) t in
    let first = and_parts (b == backslash) (is_f f) last.0 in
    inner-more b (f ∷ g ∷ cs) (inner-slash b first.0) (inner-more f (g ∷ cs) (inner-f f first.1) (inner-more g cs (inner-f g last.1) (bytes-inner cs bytes (ap opaque_bytes same ∙ k)))))
    (λ t e. cc)

-- an option that is there, or none
by_option : {A B P : Type 0} (o : Option A) (f : A → B) (x r : B) → option_map_or f o x ≡ r → ((y : A) → o ≡ Some y → f y ≡ r → P) → (o ≡ None → x ≡ r → P) → P
by_option None f x r h k l = l refl h
by_option (Some y) f x r h k l = k y refl h

-- a value that was read comes of what was read
valued_ok : (f : List ℕ → Value) (r : Result (List ℕ) TextFault) (v : Value) → value_by f r ≡ Ok v → (cs : List ℕ) × (r ≡ Ok cs)
valued_ok f (Ok cs) v h = (cs, refl)
valued_ok f (Err e) v h = cc

-- the characters of a value are inner
pub value-inner : (cs : List ℕ) (v : Value) → value_of cs ≡ Ok v → AreInner cs
value-inner cs v h =
    by_option (opaque_rest (trimmed_text cs)) _ _ (Ok v) h
    (λ rest is k. let bytes = valued_ok value.Opaque (opaque_bytes rest) v k in trimmed-inner cs (opaque-inner (trimmed_text cs) rest bytes.0 is bytes.1))
    (λ is k. let read = valued_ok (λ read. value_of_form (squeezed_text read)) (unescaped_text_at place.Value cs) v k in plain_inner is_escapable (is_refused place.Value) inner-value cs read.0 read.1)

-- ---- white space

-- white space is inner, each character of it
pub whites-inner : (cs : List ℕ) → list_all is_white cs ≡ true → AreInner cs
whites-inner [] h = refl
whites-inner (c ∷ cs) h = let both = and_parts (is_white c) (list_all is_white cs) h in inner-more c cs (inner-white c both.0) (whites-inner cs both.1)
