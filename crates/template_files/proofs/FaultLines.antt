-- A text is refused by one of its lines, or by the line past the last.
use Rattle.std.proofs.Common.{◌≡◌, ℕ, ◌+◌, ◌-◌, ◌≤◌, Bool, true, false, cond, List, [], ◌∷◌, ◌++◌, Option, Some, None, Result, Ok, Err, arith, length, nat_lt}
use Rattle.std.specs.List.{AllByRecursion}
use Rattle.std.specs.Option.{option_map_or}
use Rattle.std.specs.Str.Lines.{lines}
use Rattle.slp_text.specs.Reading.{read_map, read_then}
use Rattle.slp_text.specs.Words.{is_blank}
use Rattle.template_files.specs.Reading.{after_blanks, at_line, blocks_from, blocks_of, definition_in, definitions_after, definitions_from, description_word, from_blank, is_defined, longest_text, part_at, part_in, syntax_word, template_in, template_of_lines, to_blank, type_in, value_after, version_word, Block}
use Rattle.srv_template.specs.declared.definition.Definition.{Definition}
use Rattle.srv_template.specs.declared.fault.ParseFault.TheVariants.{Line}
use Rattle.template_files.proofs.Blocks.{after_blanks-shorter, from_blank-shorter}

-- a fault at which at most so many lines are left
abbrev Within : {A : Type 0} → ℕ → Result A ℕ → Type 0
Within n (Ok x) = Unit {0}
Within n (Err left) = left ≤ n

-- at most so many are left after a part, or at its fault
abbrev IsWithin : {A : Type 0} → ℕ → Result (A × List (List ℕ)) ℕ → Type 0
IsWithin n (Ok p) = length p.1 ≤ n
IsWithin n (Err left) = left ≤ n

-- ---- parts

part_at-within : {A : Type 0} (f : List ℕ → Option A) (ls : List (List ℕ)) (n : ℕ) → length ls ≤ n → IsWithin n (part_at f ls)
part_at-within f [] n h = omega arith
part_at-within f (l ∷ ls) n h = elim (f l) as (λ o. IsWithin n (option_map_or (λ x. Ok (x, ls)) o (Err (length (l ∷ ls))))) [ Some x ↦ omega arith | None ↦ h ]

part_in-within : {A : Type 0} (f : List ℕ → Option A) (ls : List (List ℕ)) (n : ℕ) → length ls ≤ n → IsWithin n (part_in f ls)
part_in-within f ls n h = let fewer = after_blanks-shorter ls in part_at-within f (after_blanks ls) n (omega arith)

then_within : {A B : Type 0} (g : A × List (List ℕ) → Result B ℕ) (r : Result (A × List (List ℕ)) ℕ) (n : ℕ)
    → ((p : A × List (List ℕ)) → length p.1 ≤ n → Within n (g p)) → IsWithin n r → Within n (read_then g r)
then_within g (Ok p) n more h = more p h
then_within g (Err left) n more h = h

mapped_within : {A B : Type 0} (f : A → B) (r : Result A ℕ) (n : ℕ) → Within n r → Within n (read_map f r)
mapped_within f (Ok x) n h = tt
mapped_within f (Err left) n h = h

-- ---- definitions

-- each block has at most so many lines left
abbrev AreWithin : ℕ → List Block → Type 0
AreWithin n bs = AllByRecursion (λ b. b.left ≤ n) bs

blocks-within : (inside : Bool) (ls : List (List ℕ)) (n : ℕ) → length ls ≤ n → AreWithin n (blocks_from inside ls)
blocks-within inside [] n h = tt
blocks-within true (l ∷ ls) n h =
    let fewer : length ls ≤ n = omega arith in
    elim (is_blank l) as (λ b. AreWithin n (cond b (blocks_from false ls) (blocks_from true ls))) [ true ↦ blocks-within false ls n fewer | false ↦ blocks-within true ls n fewer ]
blocks-within false (l ∷ ls) n h =
    let fewer : length ls ≤ n = omega arith in
    elim (is_blank l) as (λ b. AreWithin n (cond b (blocks_from false ls) (record { block = l ∷ to_blank ls; left = length (l ∷ ls) } ∷ blocks_from true ls))) [
      | true ↦ blocks-within false ls n fewer
      | false ↦ (h, blocks-within true ls n fewer)
    ]

definitions-within : (ds : List Definition) (bs : List Block) (n : ℕ) → AreWithin n bs → Within n (definitions_from ds bs)
definitions-within ds [] n h = tt
definitions-within ds (b ∷ bs) n h =
    elim (definition_in b.block) as (λ o. Within n (option_map_or (λ d. cond (is_defined ds d.tag) (Err b.left) (definitions_from (ds ++ d ∷ []) bs)) o (Err b.left))) [
      | Some d ↦ elim (is_defined ds d.tag) as (λ t. Within n (cond t (Err b.left) (definitions_from (ds ++ d ∷ []) bs))) [ true ↦ h.0 | false ↦ definitions-within (ds ++ d ∷ []) bs n h.1 ]
      | None ↦ h.0
    ]

-- ---- templates

after-within : (ls : List (List ℕ)) (n : ℕ) → length ls ≤ n → Within n (definitions_after ls)
after-within ls n h =
    then_within _ _ n
    (λ version v. then_within _ _ n
    (λ description d. then_within _ _ n
    (λ syntax s. let fewer = from_blank-shorter syntax.1 in definitions-within [] (blocks_of (from_blank syntax.1)) n (blocks-within false (from_blank syntax.1) n (omega arith)))
    (let fewer = from_blank-shorter description.1 in part_in-within (value_after syntax_word) (from_blank description.1) n (omega arith)))
    (part_in-within (value_after description_word) version.1 n v))
    (part_in-within (value_after version_word) ls n h)

template-within : (ls : List (List ℕ)) → Within (length ls) (template_of_lines ls)
template-within ls =
    then_within (λ type. read_map (λ ds. record { name = type.0; definitions = ds }) (definitions_after type.1)) (part_in type_in ls) (length ls)
    (λ type h. mapped_within _ _ (length ls) (after-within type.1 (length ls) h)) (part_in-within type_in ls (length ls) (omega arith))

line-within : {A : Type 0} (r : Result A ℕ) (n k : ℕ) → Within n r → at_line n r ≡ Err (Line k) → (1 ≤ k) × (k ≤ n + 1)
line-within (Ok x) n k h e = absurd (cc)
line-within (Err left) n k h e = let is : n + 1 - left ≡ k = cc in (omega arith, omega arith)

pub fault-line : (text : List ℕ) (n : ℕ) → template_in text ≡ Err (Line n) → (1 ≤ n) × (n ≤ length (lines text) + 1)
unfolding template_in
fault-line text n e =
    let ls = lines text in
    elim (nat_lt longest_text (length text)) as (λ b. cond b (Err (Line 1)) (at_line (length ls) (template_of_lines ls)) ≡ Err (Line n) → (1 ≤ n) × (n ≤ length ls + 1)) [
      | true ↦ λ h. let is : 1 ≡ n = cc in (omega arith, omega arith)
      | false ↦ λ h. line-within (template_of_lines ls) (length ls) n (template-within ls) h
    ] e
