-- A text means the template that its lines are read as, and no other.
use Rattle.std.proofs.Common.{◌≡◌, ℕ, ◌≤◌, Bool, true, false, cond, List, [], ◌∷◌, ◌++◌, Option, Some, None, Result, Ok, Err, refl, sym, ap, subst, ◌∙◌, append-nil, append_assoc, length}
use Rattle.std.specs.Prelude.{◌↔◌, ◌||◌}
use Rattle.std.specs.List.{AllByRecursion}
use Rattle.std.specs.Option.{option_map_or}
use Rattle.std.specs.Str.Lines.{lines}
use Rattle.std.proofs.lemmas.List.Folds.{list_any-append}
use Rattle.slp_text.specs.Reading.{read_map, read_then}
use Rattle.slp_text.specs.Words.{bytes_eq, is_blank}
use Rattle.attr_list.proofs.InnerCharacters.{mapped_ok}
use Rattle.slp_text.proofs.Readers.{then_ok}
use Rattle.template_files.specs.Meaning.{AreBlank, AreFilled, AreOfOwnTags, BeginsBlank, IsLongPart, IsPart, Means, SpellsDefinitions}
use Rattle.template_files.specs.Reading.{after_blanks, at_line, blocks_from, blocks_of, definition_in, definitions_after, definitions_from, description_word, from_blank, is_defined, longest_text, part_at, part_in, syntax_word, template_in, template_of_lines, to_blank, type_in, value_after, version_word}
use Rattle.srv_template.specs.Templates.{Template}
use Rattle.srv_template.specs.declared.definition.Definition.{Definition}
use Rattle.template_files.proofs.ParsedTemplates.{parsed-lines}
use Rattle.template_files.proofs.BlankLines.{blanks_before, first_block, from_filled, no_blocks, parted, to_line}

-- ---- parts

-- a part is read
part-read : {A : Type 0} (f : List ℕ → Option A) (x : A) (ls rest : List (List ℕ)) → IsPart f x ls rest → part_in f ls ≡ Ok (x, rest)
part-read f x ls rest p =
    ap (part_in f) p.all ∙ ap (part_at f) (to_line p.blanks p.line rest p.are_blank p.is_filled)
    ∙ ap (λ o. option_map_or (λ y. Ok (y, rest)) o (Err (length (p.line ∷ rest)))) p.gives

-- what is read is a part
read-at : {A : Type 0} (f : List ℕ → Option A) (p : A × List (List ℕ)) (ls all : List (List ℕ)) → after_blanks ls ≡ all → part_at f all ≡ Ok p → IsPart f p.0 ls p.1
read-at f p ls [] e r = absurd (cc)
read-at f p ls (l ∷ rest) e r =
    let before = blanks_before ls l rest e in
    elim (f l) as (λ o. f l ≡ o → option_map_or (λ y. Ok (y, rest)) o (Err (length (l ∷ rest))) ≡ Ok p → IsPart f p.0 ls p.1) [
      | None ↦ λ n h. absurd (cc)
      | Some x ↦ λ s h.
          let same : (x, rest) ≡ p = cc in
          subst (λ q. IsPart f q.0 ls q.1) same (record { blanks = before.0; line = l; all = before.1; are_blank = before.2; is_filled = before.3; gives = s })
    ] refl r

read-part : {A : Type 0} (f : List ℕ → Option A) (p : A × List (List ℕ)) (ls : List (List ℕ)) → part_in f ls ≡ Ok p → IsPart f p.0 ls p.1
read-part f p ls r = read-at f p ls (after_blanks ls) refl r

read-long : {A : Type 0} (f : List ℕ → Option A) (p : A × List (List ℕ)) (ls : List (List ℕ)) → part_in f ls ≡ Ok p → IsLongPart f p.0 ls (from_blank p.1)
read-long f p ls r =
    let both = parted p.1 in
    record { more = to_blank p.1; begins = subst (λ xs. IsPart f p.0 ls xs) (sym both.0) (read-part f p ls r); are_filled = both.1; ends = both.2 }

-- ---- tags

-- none is of the tag of one that is there
abbrev AreNew : List Definition → List Definition → Type 0
AreNew acc ds = AllByRecursion (λ d. is_defined acc d.tag ≡ false) ds

abbrev AreOthers : Definition → List Definition → Type 0
AreOthers d ds = AllByRecursion (λ e. bytes_eq d.tag e.tag ≡ false) ds

neither : (a b : Bool) → (a || b) ≡ false → (a ≡ false) × (b ≡ false)
neither true b h = absurd (cc)
neither false b h = (refl, h)

defined_then : (acc : List Definition) (d e : Definition) → is_defined (acc ++ d ∷ []) e.tag ≡ (is_defined acc e.tag || (bytes_eq d.tag e.tag || false))
defined_then acc d e = list_any-append (λ x. bytes_eq x.tag e.tag) acc (d ∷ [])

new_then : (acc : List Definition) (d : Definition) (ds : List Definition) → AreNew acc ds → AreOthers d ds → AreNew (acc ++ d ∷ []) ds
new_then acc d [] n o = tt
new_then acc d (e ∷ es) n o =
    (defined_then acc d e ∙ ap (λ b. b || (bytes_eq d.tag e.tag || false)) n.0 ∙ ap (λ b. b || false) o.0, new_then acc d es n.1 o.1)

new_before : (acc : List Definition) (d : Definition) (ds : List Definition) → AreNew (acc ++ d ∷ []) ds → AreNew acc ds × AreOthers d ds
new_before acc d [] n = (tt, tt)
new_before acc d (e ∷ es) n =
    let first = neither (is_defined acc e.tag) (bytes_eq d.tag e.tag || false) (sym (defined_then acc d e) ∙ n.0) in
    let more = new_before acc d es n.1 in
    ((first.0, more.0), ((neither (bytes_eq d.tag e.tag) false first.1).0, more.1))

all_new : (ds : List Definition) → AreNew [] ds
all_new [] = tt
all_new (d ∷ ds) = (refl, all_new ds)

-- ---- definitions

-- a first block is read as its definition
definition-read : (acc : List Definition) (blanks block rest : List (List ℕ)) (d : Definition) → AreBlank blanks → AreFilled block → BeginsBlank rest → definition_in block ≡ Some d → is_defined acc d.tag ≡ false
    → definitions_from acc (blocks_of (blanks ++ (block ++ rest))) ≡ definitions_from (acc ++ d ∷ []) (blocks_of rest)
definition-read acc blanks [] rest d h f b is new = absurd (cc)
definition-read acc blanks (l ∷ more) rest d h f b is new =
    let left = length (l ∷ (more ++ rest)) in
    ap (definitions_from acc) (first_block blanks l more rest h f b)
    ∙ ap (λ o. option_map_or (λ e. cond (is_defined acc e.tag) (Err left) (definitions_from (acc ++ e ∷ []) (blocks_of rest))) o (Err left)) is
    ∙ ap (λ t. cond t (Err left) (definitions_from (acc ++ d ∷ []) (blocks_of rest))) new

-- definitions are read of the lines that spell them
definitions-read : (acc : List Definition) (ls : List (List ℕ)) (ds : List Definition) → SpellsDefinitions ls ds → AreNew acc ds → AreOfOwnTags ds → definitions_from acc (blocks_of ls) ≡ Ok (acc ++ ds)
definitions-read acc ls [] h n o = ap (definitions_from acc) (no_blocks ls h) ∙ ap Ok (sym (append-nil acc))
definitions-read acc ls (d ∷ ds) h n o =
    ap (λ xs. definitions_from acc (blocks_of xs)) (h.3 ∙ append_assoc h.0 h.1 h.2) ∙ definition-read acc h.0 h.1 h.2 d h.4 h.5 h.6 h.7 n.0
    ∙ definitions-read (acc ++ d ∷ []) h.2 ds h.8 (new_then acc d ds n.1 o.0) o.1
    ∙ ap Ok (append_assoc acc (d ∷ []) ds)

-- what is read of lines after some definitions
record Gives (acc : List Definition) (ls : List (List ℕ)) (all : List Definition) : Type 0 where
  pub more : List Definition
  pub is_all : acc ++ more ≡ all
  pub spelled : SpellsDefinitions ls more
  pub new : AreNew acc more
  pub distinct : AreOfOwnTags more

no_more : (acc all : List Definition) → ◌≡◌ {A = Result (List Definition) ℕ} (Ok acc) (Ok all) → Gives acc [] all
no_more acc all e = let same : acc ≡ all = cc in record { more = []; is_all = append-nil acc ∙ same; spelled = tt; new = tt; distinct = tt }

blank_first : (l : List ℕ) (ls : List (List ℕ)) (ds : List Definition) → is_blank l ≡ true → SpellsDefinitions ls ds → SpellsDefinitions (l ∷ ls) ds
blank_first l ls [] t h = (t, h)
blank_first l ls (d ∷ ds) t h = (l ∷ h.0, h.1, h.2, ap (λ xs. l ∷ xs) h.3, (t, h.4), h.5, h.6, h.7, h.8)

gives_past : (l : List ℕ) (ls : List (List ℕ)) (acc all : List Definition) → is_blank l ≡ true → Gives acc ls all → Gives acc (l ∷ ls) all
gives_past l ls acc all t g = record { more = g.more; is_all = g.is_all; spelled = blank_first l ls g.more t g.spelled; new = g.new; distinct = g.distinct }

gives_first : (l : List ℕ) (ls : List (List ℕ)) (d : Definition) (acc all : List Definition) → is_blank l ≡ false → definition_in (l ∷ to_blank ls) ≡ Some d → is_defined acc d.tag ≡ false
    → Gives (acc ++ d ∷ []) (from_blank ls) all → Gives acc (l ∷ ls) all
gives_first l ls d acc all f is new g =
    let both = parted ls in
    let apart = new_before acc d g.more g.new in
    record {
      more = d ∷ g.more;
      is_all = sym (append_assoc acc (d ∷ []) g.more) ∙ g.is_all;
      spelled = ([], l ∷ to_blank ls, from_blank ls, ap (λ xs. l ∷ xs) (sym both.0), tt, (f, both.1), both.2, is, g.spelled);
      new = (new, apart.0);
      distinct = (apart.1, g.distinct);
    }

-- where the next block begins
abbrev begun : Bool → List (List ℕ) → List (List ℕ)
begun inside ls = cond inside (from_blank ls) ls

-- lines spell the definitions that are read of them
read-definitions : (inside : Bool) (ls : List (List ℕ)) (acc all : List Definition) → definitions_from acc (blocks_from inside ls) ≡ Ok all → Gives acc (begun inside ls) all
read-definitions true [] acc all e = no_more acc all e
read-definitions false [] acc all e = no_more acc all e
read-definitions true (l ∷ ls) acc all e =
    elim (is_blank l) as (λ b. is_blank l ≡ b → definitions_from acc (cond b (blocks_from false ls) (blocks_from true ls)) ≡ Ok all → Gives acc (cond b (l ∷ ls) (from_blank ls)) all) [
      | true ↦ λ t h. gives_past l ls acc all t (read-definitions false ls acc all h)
      | false ↦ λ f h. read-definitions true ls acc all h
    ] refl e
read-definitions false (l ∷ ls) acc all e =
    let left = length (l ∷ ls) in
    let block = l ∷ to_blank ls in
    elim (is_blank l) as (λ b. is_blank l ≡ b → definitions_from acc (cond b (blocks_from false ls) (record { block = block; left = left } ∷ blocks_from true ls)) ≡ Ok all → Gives acc (l ∷ ls) all) [
      | true ↦ λ t h. gives_past l ls acc all t (read-definitions false ls acc all h)
      | false ↦ λ f h.
          elim (definition_in block) as (λ o. definition_in block ≡ o
          → option_map_or (λ d. cond (is_defined acc d.tag) (Err left) (definitions_from (acc ++ d ∷ []) (blocks_from true ls))) o (Err left) ≡ Ok all → Gives acc (l ∷ ls) all) [
            | None ↦ λ n k. absurd (cc)
            | Some d ↦ λ is k.
                elim (is_defined acc d.tag) as (λ b. is_defined acc d.tag ≡ b → cond b (Err left) (definitions_from (acc ++ d ∷ []) (blocks_from true ls)) ≡ Ok all → Gives acc (l ∷ ls) all) [
                  | true ↦ λ t r. absurd (cc)
                  | false ↦ λ new r. gives_first l ls d acc all f is new (read-definitions true ls (acc ++ d ∷ []) all r)
                ] refl k
          ] refl h
    ] refl e

-- ---- templates

abbrev Part : Type 0
Part = List ℕ × List (List ℕ)

-- what is read after each part
abbrev after_syntax : Part → Result (List Definition) ℕ
after_syntax s = definitions_from [] (blocks_of (from_blank s.1))

abbrev after_description : Part → Result (List Definition) ℕ
after_description d = read_then after_syntax (part_in (value_after syntax_word) (from_blank d.1))

abbrev after_version : Part → Result (List Definition) ℕ
after_version v = read_then after_description (part_in (value_after description_word) v.1)

abbrev template_of : List ℕ → List Definition → Template
template_of name ds = record { name = name; definitions = ds }

abbrev after_type : Part → Result Template ℕ
after_type p = read_map (template_of p.0) (definitions_after p.1)

long-read : {A B : Type 0} (f : List ℕ → Option A) (x : A) (ls rest : List (List ℕ)) (next : A → List (List ℕ) → Result B ℕ) → IsLongPart f x ls rest
    → read_then (λ p. next p.0 (from_blank p.1)) (part_in f ls) ≡ next x rest
long-read f x ls rest next p =
    ap (read_then (λ q. next q.0 (from_blank q.1))) (part-read f x ls (p.more ++ rest) p.begins) ∙ ap (next x) (from_filled p.more rest p.are_filled p.ends)

-- the template that a text means is read
means-read : (text : List ℕ) (t : Template) → Means text t → template_of_lines (lines text) ≡ Ok t
means-read text t m =
    ap (read_then after_type) (part-read type_in t.name (lines text) m.after_type m.type)
    ∙ ap (λ r. read_map (template_of t.name) (read_then after_version r)) (part-read (value_after version_word) m.version m.after_type m.after_version m.is_version)
    ∙ ap (read_map (template_of t.name)) (long-read (value_after description_word) m.description m.after_version m.after_description (λ x rest. read_then after_syntax (part_in (value_after syntax_word) rest)) m.is_description)
    ∙ ap (read_map (template_of t.name)) (long-read (value_after syntax_word) m.syntax m.after_description m.after_syntax (λ x rest. definitions_from [] (blocks_of rest)) m.is_syntax)
    ∙ ap (read_map (template_of t.name)) (definitions-read [] m.after_syntax t.definitions m.definitions (all_new t.definitions) m.distinct)

-- lines whose parts are read mean the template of what they give
parts-mean : (text : List ℕ) (type version description syntax : Part) (ds : List Definition) → part_in type_in (lines text) ≡ Ok type → part_in (value_after version_word) type.1 ≡ Ok version
    → part_in (value_after description_word) version.1 ≡ Ok description → part_in (value_after syntax_word) (from_blank description.1) ≡ Ok syntax → Gives [] (from_blank syntax.1) ds → Means text (template_of type.0 ds)
parts-mean text type version description syntax ds t v d s g =
    subst (λ all. Means text (template_of type.0 all)) g.is_all (record {
      after_type = type.1;
      type = read-part type_in type (lines text) t;
      version = version.0;
      after_version = version.1;
      is_version = read-part (value_after version_word) version type.1 v;
      description = description.0;
      after_description = from_blank description.1;
      is_description = read-long (value_after description_word) description version.1 d;
      syntax = syntax.0;
      after_syntax = from_blank syntax.1;
      is_syntax = read-long (value_after syntax_word) syntax (from_blank description.1) s;
      definitions = g.spelled;
      distinct = g.distinct;
    })

read-after : (text : List ℕ) (type : Part) (ds : List Definition) → part_in type_in (lines text) ≡ Ok type → definitions_after type.1 ≡ Ok ds → Means text (template_of type.0 ds)
read-after text type ds t e =
    let v = then_ok after_version (part_in (value_after version_word) type.1) ds e in
    let d = then_ok after_description (part_in (value_after description_word) v.0.1) ds v.2 in
    let s = then_ok after_syntax (part_in (value_after syntax_word) (from_blank d.0.1)) ds d.2 in
    parts-mean text type v.0 d.0 s.0 ds t v.1 d.1 s.1 (read-definitions false (from_blank s.0.1) [] ds s.2)

-- the template that is read is meant
read-means : (text : List ℕ) (t : Template) → template_of_lines (lines text) ≡ Ok t → Means text t
read-means text t e =
    let type = then_ok after_type (part_in type_in (lines text)) t e in
    let ds = mapped_ok (template_of type.0.0) (definitions_after type.0.1) t type.2 in
    subst (Means text) ds.2 (read-after text type.0 ds.0 type.1 ds.1)

-- ---- texts

at_line-ok : {A : Type 0} (n : ℕ) (r : Result A ℕ) (x : A) → at_line n r ≡ Ok x → r ≡ Ok x
at_line-ok n (Ok y) x e = cc
at_line-ok n (Err left) x e = absurd (cc)

pub meaning : (text : List ℕ) (t : Template) → length text ≤ longest_text → Means text t ↔ (template_in text ≡ Ok t)
meaning text t h = (
  (λ m. parsed-lines text (lines text) h refl ∙ ap (at_line (length (lines text))) (means-read text t m)),
  (λ e. read-means text t (at_line-ok (length (lines text)) (template_of_lines (lines text)) t (sym (parsed-lines text (lines text) h refl) ∙ e))),
)
