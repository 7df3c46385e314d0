-- Addresses of four numbers with dots between them.
use Rattle.std.proofs.Common.{◌≡◌, ◌≢◌, ℕ, ◌+◌, ◌-◌, ◌*◌, ◌^◌, true, false, cond, List, [], ◌∷◌, ◌++◌, map, Option, Some, None, refl, sym, ap, ◌∙◌, ◌⊎◌, inl, inr, nat_lt}
use Rattle.std.specs.Prelude.{Bool, ◌&&◌, ◌==◌}
use Rattle.std.specs.Option.{option_and_then, option_map}
use Rattle.std.specs.List.{slice_split, onto_first}
use Rattle.std.proofs.lemmas.Bool.Decides.{eqb_tells}
use Rattle.slp_text.specs.Ascii.{colon, digit_zero, dot, is_digit}
use Rattle.slp_text.specs.Words.{Lacks}
use Rattle.addresses.specs.Addresses.{number_from, number_of, within_octet, octet_of, address_in, is_dot, address_of, within_port, both_of, address_and, port_of, socket_of, slash, within_bits, bits_of, prefix_with, prefix_of}

-- ---- texts that are cut at a byte
not_byte : (x byte : ℕ) → x ≢ byte → (x == byte) ≡ false
not_byte x byte h = elim (eqb_tells x byte) [ inl t ↦ absurd (h t.1) | inr f ↦ f.0 ]

pub split-none : (byte : ℕ) (xs : List ℕ) → Lacks byte xs → slice_split (λ x. x == byte) xs ≡ xs ∷ []
split-none byte [] h = refl
split-none byte (x ∷ xs) h =
    let other = not_byte x byte h.0 in
    rw (other, split-none byte xs h.1) refl

same_byte : (byte : ℕ) → (byte == byte) ≡ true
same_byte byte = elim (eqb_tells byte byte) [ inl t ↦ t.0 | inr f ↦ absurd (f.1 refl) ]

pub split-at : (byte : ℕ) (xs ys : List ℕ) → Lacks byte xs → slice_split (λ x. x == byte) (xs ++ byte ∷ ys) ≡ xs ∷ slice_split (λ x. x == byte) ys
split-at byte [] ys h = rw (same_byte byte) refl
split-at byte (x ∷ xs) ys h =
    let other = not_byte x byte h.0 in
    rw (other, split-at byte xs ys h.1) refl

-- a byte that is not a digit
abbrev pub IsNoDigit : ℕ → Type 0
IsNoDigit byte = (b : Bool) → (is_digit byte && b) ≡ false

no_number : (byte v : ℕ) (xs : List ℕ) → IsNoDigit byte → number_from v (byte ∷ xs) ≡ None
no_number byte v xs other = ap (λ b. cond b (number_from (v * 10 + (byte - digit_zero)) xs) None) (other (nat_lt (v * 10 + (byte - digit_zero)) (2 ^ 32)))

-- a number has no such byte
number_from-lacks : (byte v : ℕ) (d : List ℕ) (n : ℕ) → IsNoDigit byte → number_from v d ≡ Some n → Lacks byte d
number_from-lacks byte v [] n other h = tt
number_from-lacks byte v (x ∷ xs) n other h = (
  λ e. let k : number_from v (byte ∷ xs) ≡ Some n = rw e at h in let none = no_number byte v xs other in absurd (let e : None ≡ Some n = sym none ∙ k in cc),
  elim (is_digit x && nat_lt (v * 10 + (x - digit_zero)) (2 ^ 32)) as (λ b. cond b (number_from (v * 10 + (x - digit_zero)) xs) None ≡ Some n → Lacks byte xs) [
    | true ↦ λ k. number_from-lacks byte (v * 10 + (x - digit_zero)) xs n other k
    | false ↦ λ k. absurd cc
  ] h,
)

pub number_of-lacks : (byte : ℕ) (d : List ℕ) (n : ℕ) → IsNoDigit byte → number_of d ≡ Some n → Lacks byte d
number_of-lacks byte [] n other h = tt
number_of-lacks byte (x ∷ xs) n other h = number_from-lacks byte 0 (x ∷ xs) n other h

-- nor has one within a bound
pub bounded-lacks : (byte : ℕ) (within : ℕ → Option ℕ) (d : List ℕ) (n : ℕ) → IsNoDigit byte → option_and_then within (number_of d) ≡ Some n → Lacks byte d
bounded-lacks byte within d n other h =
    elim (number_of d) as (λ o. number_of d ≡ o → option_and_then within o ≡ Some n → Lacks byte d) [
      | Some m ↦ λ e k. number_of-lacks byte d m other e
      | None ↦ λ e k. absurd cc
    ] refl h

octet_of-lacks : (d : List ℕ) (n : ℕ) → octet_of d ≡ Some n → Lacks dot d
octet_of-lacks d n h = bounded-lacks dot within_octet d n (λ b. refl) h

-- a text is one part, or has two
pub parts : (p : ℕ → Bool) (d : List ℕ) → (slice_split p d ≡ d ∷ []) ⊎ ((f g : List ℕ) × (rest : List (List ℕ)) × (slice_split p d ≡ f ∷ g ∷ rest))
parts p [] = inl refl
parts p (x ∷ xs) =
    elim (p x) as (λ b. (cond b ([] ∷ slice_split p xs) (onto_first x (slice_split p xs)) ≡ (x ∷ xs) ∷ []) ⊎ ((f g : List ℕ) × (rest : List (List ℕ)) × (cond b ([] ∷ slice_split p xs) (onto_first x (slice_split p xs)) ≡ f ∷ g ∷ rest))) [
      | true ↦ elim (parts p xs) [
        | inl e ↦ inr ([], xs, [], ap (λ t. [] ∷ t) e)
        | inr q ↦ inr ([], q.0, q.1 ∷ q.2, ap (λ t. [] ∷ t) q.3)
      ]
      | false ↦ elim (parts p xs) [
        | inl e ↦ inl (ap (onto_first x) e)
        | inr q ↦ inr (x ∷ q.0, q.1, q.2, ap (onto_first x) q.3)
      ]
    ]

-- ---- what is not an address
one-not : (o : Option ℕ) → address_in (o ∷ []) ≡ None
one-not None = refl
one-not (Some a) = refl

two-not : (o p : Option ℕ) → address_in (o ∷ p ∷ []) ≡ None
two-not None p = refl
two-not (Some a) None = refl
two-not (Some a) (Some b) = refl

three-not : (o p q : Option ℕ) → address_in (o ∷ p ∷ q ∷ []) ≡ None
three-not None p q = refl
three-not (Some a) None q = refl
three-not (Some a) (Some b) None = refl
three-not (Some a) (Some b) (Some c) = refl

five-not : (o p q r s : Option ℕ) (rest : List (Option ℕ)) → address_in (o ∷ p ∷ q ∷ r ∷ s ∷ rest) ≡ None
five-not None p q r s rest = refl
five-not (Some a) None q r s rest = refl
five-not (Some a) (Some b) None r s rest = refl
five-not (Some a) (Some b) (Some c) None s rest = refl
five-not (Some a) (Some b) (Some c) (Some d) s rest = refl

fourth-not : (o p q : Option ℕ) → address_in (o ∷ p ∷ q ∷ None ∷ []) ≡ None
fourth-not None p q = refl
fourth-not (Some a) None q = refl
fourth-not (Some a) (Some b) None = refl
fourth-not (Some a) (Some b) (Some c) = refl

-- a text that was cut at its first dot
pub record IsCut (text front rest : List ℕ) : Type 0 where
  pub all : text ≡ front ++ dot ∷ rest
  pub lacks : Lacks dot front

split-cut : (text front rest : List ℕ) → IsCut text front rest → slice_split is_dot text ≡ front ∷ slice_split is_dot rest
split-cut text front rest c = ap (slice_split is_dot) c.all ∙ split-at dot front rest c.lacks

split-cut_2 : (text a rest b more : List ℕ) → IsCut text a rest → IsCut rest b more → slice_split is_dot text ≡ a ∷ b ∷ slice_split is_dot more
split-cut_2 text a rest b more f g = split-cut text a rest f ∙ ap (λ t. a ∷ t) (split-cut rest b more g)

pub address-one : (text : List ℕ) → Lacks dot text → address_of text ≡ None
address-one text h = rw (split-none dot text h) (one-not (octet_of text))

pub address-two : (text a rest : List ℕ) → IsCut text a rest → Lacks dot rest → address_of text ≡ None
address-two text a rest f h = rw (split-cut text a rest f, split-none dot rest h) (two-not (octet_of a) (octet_of rest))

pub address-three : (text a rest b more : List ℕ) → IsCut text a rest → IsCut rest b more → Lacks dot more → address_of text ≡ None
address-three text a rest b more f g h = rw (split-cut_2 text a rest b more f g, split-none dot more h) (three-not (octet_of a) (octet_of b) (octet_of more))

last-octet : (o p q : Option ℕ) (d : List ℕ) → address_in (o ∷ p ∷ q ∷ map octet_of (slice_split is_dot d)) ≡ address_in (o ∷ p ∷ q ∷ octet_of d ∷ [])
last-octet o p q d =
    elim (parts is_dot d) [
      | inl e ↦ rw e refl
      | inr t ↦ elim (octet_of d) as (λ r. octet_of d ≡ r → address_in (o ∷ p ∷ q ∷ map octet_of (slice_split is_dot d)) ≡ address_in (o ∷ p ∷ q ∷ r ∷ [])) [
        | Some n ↦ λ is. let one = split-none dot d (octet_of-lacks d n is) in absurd (let e : d ∷ [] ≡ t.0 ∷ t.1 ∷ t.2 = sym one ∙ t.3 in cc)
        | None ↦ λ is. rw t.3 (five-not o p q (octet_of t.0) (octet_of t.1) (map octet_of t.2) ∙ sym (fourth-not o p q))
      ] refl
    ]

pub address-four : (text a rest b more c d : List ℕ) → IsCut text a rest → IsCut rest b more → IsCut more c d → address_of text ≡ address_in (octet_of a ∷ octet_of b ∷ octet_of c ∷ octet_of d ∷ [])
address-four text a rest b more c d f g h =
    ap (λ t. address_in (map octet_of t)) (split-cut_2 text a rest b more f g ∙ ap (λ t. a ∷ b ∷ t) (split-cut more c d h))
    ∙ last-octet (octet_of a) (octet_of b) (octet_of c) d

-- ---- an address with a part after it
unpaired : (o : Option ℕ) → both_of {A = ℕ} {B = ℕ} o None ≡ None
unpaired None = refl
unpaired (Some a) = refl

-- a text that is cut at its first byte of a value, where what is read of the part after it has no such byte
cut-read : (byte : ℕ) (second : List ℕ → Option ℕ) (text host digits : List ℕ) → ((d : List ℕ) (n : ℕ) → second d ≡ Some n → Lacks byte d) → text ≡ host ++ byte ∷ digits → Lacks byte host
    → address_and second (slice_split (λ x. x == byte) text) ≡ both_of (address_of host) (second digits)
cut-read byte second text host digits lacks all h =
    ap (λ t. address_and second (slice_split (λ x. x == byte) t)) all ∙ ap (address_and second) (split-at byte host digits h) ∙ elim (parts (λ x. x == byte) digits) [
      | inl e ↦ ap (λ t. address_and second (host ∷ t)) e
      | inr t ↦ elim (second digits) as (λ o. second digits ≡ o → address_and second (host ∷ slice_split (λ x. x == byte) digits) ≡ both_of (address_of host) o) [
        | Some n ↦ λ is. let one = split-none byte digits (lacks digits n is) in absurd (let e : digits ∷ [] ≡ t.0 ∷ t.1 ∷ t.2 = sym one ∙ t.3 in cc)
        | None ↦ λ is. ap (λ u. address_and second (host ∷ u)) t.3 ∙ sym (unpaired (address_of host))
      ] refl
    ]

-- ---- an address with a port
pub no_colon : (text : List ℕ) → Lacks colon text → socket_of text ≡ None
no_colon text h = rw (split-none colon text h) refl

socket_cut : (text host digits : List ℕ) → text ≡ host ++ colon ∷ digits → Lacks colon host → socket_of text ≡ both_of (address_of host) (port_of digits)
socket_cut text host digits all h = cut-read colon port_of text host digits (λ d n is. bounded-lacks colon within_port d n (λ b. refl) is) all h

pub no_address : (text host digits : List ℕ) → text ≡ host ++ colon ∷ digits → Lacks colon host → address_of host ≡ None → socket_of text ≡ None
no_address text host digits all h none = socket_cut text host digits all h ∙ ap (λ o. both_of o (port_of digits)) none

pub no_port : (text host digits : List ℕ) → text ≡ host ++ colon ∷ digits → Lacks colon host → port_of digits ≡ None → socket_of text ≡ None
no_port text host digits all h none = socket_cut text host digits all h ∙ ap (λ o. both_of (address_of host) o) none ∙ unpaired (address_of host)

pub address_and_port : (text host digits : List ℕ) (a n : ℕ) → text ≡ host ++ colon ∷ digits → Lacks colon host → address_of host ≡ Some a → port_of digits ≡ Some n → socket_of text ≡ Some (a, n)
address_and_port text host digits a n all h some port = socket_cut text host digits all h ∙ ap (λ o. both_of o (port_of digits)) some ∙ ap (λ o. both_of (Some a) o) port

-- ---- an address with bits
pub no_slash : (text : List ℕ) → Lacks slash text → prefix_of text ≡ None
no_slash text h = rw (split-none slash text h) refl

prefix_cut : (text host digits : List ℕ) → text ≡ host ++ slash ∷ digits → Lacks slash host → prefix_of text ≡ option_map prefix_with (both_of (address_of host) (bits_of digits))
prefix_cut text host digits all h = ap (option_map prefix_with) (cut-read slash bits_of text host digits (λ d n is. bounded-lacks slash within_bits d n (λ b. refl) is) all h)

pub no_prefix : (text host digits : List ℕ) → text ≡ host ++ slash ∷ digits → Lacks slash host → address_of host ≡ None → prefix_of text ≡ None
no_prefix text host digits all h none =
    prefix_cut text host digits all h ∙ ap (λ o. option_map prefix_with (both_of o (bits_of digits))) none

pub no_bits : (text host digits : List ℕ) → text ≡ host ++ slash ∷ digits → Lacks slash host → bits_of digits ≡ None → prefix_of text ≡ None
no_bits text host digits all h none = prefix_cut text host digits all h ∙ ap (λ o. option_map prefix_with (both_of (address_of host) o)) none ∙ ap (option_map prefix_with) (unpaired (address_of host))

pub address_and_bits : (text host digits : List ℕ) (a n : ℕ) → text ≡ host ++ slash ∷ digits → Lacks slash host → address_of host ≡ Some a → bits_of digits ≡ Some n → prefix_of text ≡ Some (record { addr = a; bits = n })
address_and_bits text host digits a n all h some bits =
    prefix_cut text host digits all h ∙ ap (λ o. option_map prefix_with (both_of o (bits_of digits))) some ∙ ap (λ o. option_map prefix_with (both_of (Some a) o)) bits
