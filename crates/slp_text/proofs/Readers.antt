-- Reading that goes through characters once, from a stage of an escape on.
use Rattle.std.proofs.Common.{◌≡◌, ℕ, Bool, true, false, List, [], ◌∷◌, cond, map, Result, Ok, Err, refl, sym, ap, subst, ◌∙◌}
use Rattle.std.specs.List.{slice_split, onto_first}
use Rattle.slp_text.specs.Reading.{IsFault, read_map, read_then, read_all}
use Rattle.slp_text.specs.declared.escapes.Stage.{Stage}
use Rattle.slp_text.specs.declared.escapes.Stage.TheVariants.{Plain}
use Rattle.slp_text.specs.declared.escapes.Step.{Step}
use Rattle.slp_text.specs.declared.escapes.Step.TheVariants.{Within, Read}
use Rattle.slp_text.specs.declared.faults.TextFault.{TextFault}
use Rattle.slp_text.specs.declared.faults.TextFault.TheVariants.{BadEscape, Reserved, NotUtf8, NoMemory}

pub read_map-read_map : {A B C E : Type 0} (f : B → C) (g : A → B) (h : A → C) (r : Result A E) → ((x : A) → h x ≡ f (g x)) → read_map h r ≡ read_map f (read_map g r)
read_map-read_map f g h (Ok x) e = ap Ok (e x)
read_map-read_map f g h (Err x) e = refl

pub read_map-same : {A E : Type 0} (r : Result A E) → read_map (λ (x : A). x) r ≡ r
read_map-same (Ok x) = refl
read_map-same (Err x) = refl

pub fault_is : {A : Type 0} (e : TextFault) (read : Result A TextFault) → read ≡ Err e → IsFault e read
fault_is BadEscape read h = h
fault_is Reserved read h = h
fault_is NotUtf8 read h = h
fault_is NoMemory read h = tt

pub mapped_fault : {A B : Type 0} (f : A → B) (e : TextFault) (r : Result A TextFault) → IsFault e r → IsFault e (read_map f r)
mapped_fault f BadEscape r is = ap (read_map f) is
mapped_fault f Reserved r is = ap (read_map f) is
mapped_fault f NotUtf8 r is = ap (read_map f) is
mapped_fault f NoMemory r is = tt

mapped_first : {B C : Type 0} (f : B → C) (r : Result B TextFault) (rest : Result (List B) TextFault)
    → read_then (λ y. read_map (λ ys. y ∷ ys) (read_map (map f) rest)) (read_map f r) ≡ read_map (map f) (read_then (λ y. read_map (λ ys. y ∷ ys) rest) r)
mapped_first f (Ok y) (Ok ys) = refl
mapped_first f (Ok y) (Err e) = refl
mapped_first f (Err e) rest = refl

pub read_all-map : {A B C : Type 0} (f : B → C) (read : A → Result B TextFault) (xs : List A) → read_all (λ x. read_map f (read x)) xs ≡ read_map (map f) (read_all read xs)
read_all-map f read [] = refl
read_all-map f read (x ∷ xs) = ap (λ r. read_then (λ y. read_map (λ ys. y ∷ ys) r) (read_map f (read x))) (read_all-map f read xs) ∙ mapped_first f (read x) (read_all read xs)

-- the next stage and what is done to what the rest gives, or a fault
abbrev pub Event : Type 0 → Type 0
Event B = Result (Stage × (B → B)) TextFault

-- what a step does to the list of what is read
abbrev pub event_of : {A : Type 0} → Result (Step A) TextFault → Event (List A)
event_of (Ok (Within s)) = Ok (s, λ xs. xs)
event_of (Ok (Read x)) = Ok (Plain, λ xs. x ∷ xs)
event_of (Err e) = Err e

abbrev pub Reads : Type 0 → Type 0
Reads B = Stage → List ℕ → Result B TextFault

abbrev pub after : {B : Type 0} → Reads B → Event B → List ℕ → Result B TextFault
after reads (Ok m) cs = read_map m.1 (reads m.0 cs)
after reads (Err e) cs = Err e

-- each character does what its event says
abbrev pub IsReader : {B : Type 0} → Reads B → (Stage → ℕ → Event B) → Type 0
IsReader reads event = (s : Stage) (c : ℕ) (cs : List ℕ) → reads s (c ∷ cs) ≡ after reads (event s c) cs

-- ---- a list of what is read between separators

abbrev pub on_head : {B : Type 0} → (B → B) → List B → List B
on_head h [] = []
on_head h (b ∷ bs) = h b ∷ bs

abbrev pub ended : {B : Type 0} → Result B TextFault → Event (List B)
ended (Ok b) = Ok (Plain, λ bs. b ∷ bs)
ended (Err e) = Err e

abbrev pub lifted : {B : Type 0} → Event B → Event (List B)
lifted (Ok m) = Ok (m.0, on_head m.1)
lifted (Err e) = Err e

-- the first part is read from the stage on, the others from the start
abbrev pub first_of : {B : Type 0} → Reads B → Stage → List (List ℕ) → Result (List B) TextFault
first_of reads s [] = Ok []
first_of reads s (p ∷ ps) = read_then (λ b. read_map (λ bs. b ∷ bs) (read_all (reads Plain) ps)) (reads s p)

abbrev pub splits : {B : Type 0} → (ℕ → Bool) → Reads B → Reads (List B)
splits separates reads s cs = first_of reads s (slice_split separates cs)

abbrev pub split_event : {B : Type 0} → (ℕ → Bool) → Reads B → (Stage → ℕ → Event B) → Stage → ℕ → Event (List B)
split_event separates reads event s c = cond (separates c) (ended (reads s [])) (lifted (event s c))

read_all-splits : {B : Type 0} (reads : Reads B) (ps : List (List ℕ)) → read_all (reads Plain) ps ≡ first_of reads Plain ps
read_all-splits reads [] = refl
read_all-splits reads (p ∷ ps) = refl

-- a list that is not empty
abbrev Shape : List (List ℕ) → Type 0
Shape ps = (q : List ℕ) × (qs : List (List ℕ)) × (ps ≡ q ∷ qs)

onto_first-shape : (c : ℕ) (ps : List (List ℕ)) → Shape ps → Shape (onto_first c ps)
onto_first-shape c [] h = cc h.2
onto_first-shape c (p ∷ ps) h = (c ∷ p, ps, refl)

split_shape : (separates : ℕ → Bool) (cs : List ℕ) → Shape (slice_split separates cs)
split_shape separates [] = ([], [], refl)
split_shape separates (c ∷ cs) =
    elim (separates c) as (λ b. Shape (cond b ([] ∷ slice_split separates cs) (onto_first c (slice_split separates cs)))) [
      | true ↦ ([], slice_split separates cs, refl)
      | false ↦ onto_first-shape c (slice_split separates cs) (split_shape separates cs)
    ]

at_separator : {B : Type 0} (reads : Reads B) (ps : List (List ℕ)) (r : Result B TextFault) (rest : Result (List B) TextFault) → read_all (reads Plain) ps ≡ rest
    → read_then (λ b. read_map (λ bs. b ∷ bs) (read_all (reads Plain) ps)) r ≡ after (λ s cs. rest) (ended r) []
at_separator reads ps (Ok b) rest e = ap (read_map (λ bs. b ∷ bs)) e
at_separator reads ps (Err x) rest e = refl

after_same : {B : Type 0} (f g : Reads B) (m : Event B) (xs ys : List ℕ) → ((s : Stage) → f s xs ≡ g s ys) → after f m xs ≡ after g m ys
after_same f g (Ok m) xs ys e = ap (read_map m.1) (e m.0)
after_same f g (Err x) xs ys e = refl

after_ended : {B : Type 0} (f g : Reads (List B)) (r : Result B TextFault) (xs ys : List ℕ) → f Plain xs ≡ g Plain ys → after f (ended r) xs ≡ after g (ended r) ys
after_ended f g (Ok b) xs ys e = ap (read_map (λ bs. b ∷ bs)) e
after_ended f g (Err x) xs ys e = refl

heads : {B : Type 0} (h : B → B) (b : B) (r : Result (List B) TextFault) → read_map (λ bs. h b ∷ bs) r ≡ read_map (on_head h) (read_map (λ bs. b ∷ bs) r)
heads h b (Ok bs) = refl
heads h b (Err e) = refl

mapped_head : {B : Type 0} (h : B → B) (all : Result (List B) TextFault) (r : Result B TextFault)
    → read_then (λ b. read_map (λ bs. b ∷ bs) all) (read_map h r) ≡ read_map (on_head h) (read_then (λ b. read_map (λ bs. b ∷ bs) all) r)
mapped_head h all (Ok b) = heads h b all
mapped_head h all (Err e) = refl

in_part : {B : Type 0} (reads : Reads B) (m : Event B) (p : List ℕ) (ps : List (List ℕ))
    → read_then (λ b. read_map (λ bs. b ∷ bs) (read_all (reads Plain) ps)) (after reads m p) ≡ after (λ s cs. first_of reads s (p ∷ ps)) (lifted m) []
in_part reads (Ok m) p ps = mapped_head m.1 (read_all (reads Plain) ps) (reads m.0 p)
in_part reads (Err e) p ps = refl

inside : {B : Type 0} (reads : Reads B) (event : Stage → ℕ → Event B) → IsReader reads event → (s : Stage) (c : ℕ) (ps : List (List ℕ)) → Shape ps
    → first_of reads s (onto_first c ps) ≡ after (λ t ds. first_of reads t ps) (lifted (event s c)) []
inside reads event law s c [] h = cc h.2
inside reads event law s c (p ∷ ps) h =
    ap (read_then (λ b. read_map (λ bs. b ∷ bs) (read_all (reads Plain) ps))) (law s c p) ∙ in_part reads (event s c) p ps

pub split_reader : {B : Type 0} (separates : ℕ → Bool) (reads : Reads B) (event : Stage → ℕ → Event B) → IsReader reads event → IsReader (splits separates reads) (split_event separates reads event)
split_reader separates reads event law s c cs =
    let parts = slice_split separates cs in
    elim (separates c) as (λ b. first_of reads s (cond b ([] ∷ parts) (onto_first c parts)) ≡ after (splits separates reads) (cond b (ended (reads s [])) (lifted (event s c))) cs) [
      | true ↦ at_separator reads parts (reads s []) (splits separates reads Plain cs) (read_all-splits reads parts)
          ∙ after_ended (λ t ds. splits separates reads Plain cs) (splits separates reads) (reads s []) [] cs refl
      | false ↦ inside reads event law s c parts (split_shape separates cs)
          ∙ after_same (λ t ds. first_of reads t parts) (splits separates reads) (lifted (event s c)) [] cs (λ t. refl)
    ]

pub read_all-split : {B : Type 0} (separates : ℕ → Bool) (reads : Reads B) (cs : List ℕ) → read_all (reads Plain) (slice_split separates cs) ≡ splits separates reads Plain cs
read_all-split separates reads cs = read_all-splits reads (slice_split separates cs)

first_of-same : {B C : Type 0} (f g : List B → C) → ((b : B) (bs : List B) → f (b ∷ bs) ≡ g (b ∷ bs)) → (r : Result B TextFault) (rest : Result (List B) TextFault)
    → read_map f (read_then (λ b. read_map (λ bs. b ∷ bs) rest) r) ≡ read_map g (read_then (λ b. read_map (λ bs. b ∷ bs) rest) r)
first_of-same f g same (Ok b) (Ok bs) = ap Ok (same b bs)
first_of-same f g same (Ok b) (Err e) = refl
first_of-same f g same (Err e) rest = refl

shaped-same : {B C : Type 0} (reads : Reads B) (f g : List B → C) → ((b : B) (bs : List B) → f (b ∷ bs) ≡ g (b ∷ bs)) → (s : Stage) (ps : List (List ℕ)) → Shape ps
    → read_map f (first_of reads s ps) ≡ read_map g (first_of reads s ps)
shaped-same reads f g same s [] h = cc h.2
shaped-same reads f g same s (p ∷ ps) h = first_of-same f g same (reads s p) (read_all (reads Plain) ps)

-- what is read between separators is never an empty list
pub splits-same : {B C : Type 0} (separates : ℕ → Bool) (reads : Reads B) (f g : List B → C) → ((b : B) (bs : List B) → f (b ∷ bs) ≡ g (b ∷ bs)) → (s : Stage) (cs : List ℕ)
    → read_map f (splits separates reads s cs) ≡ read_map g (splits separates reads s cs)
splits-same separates reads f g same s cs = shaped-same reads f g same s (slice_split separates cs) (split_shape separates cs)

-- ---- what holds on the way

-- what the rest gives is made the whole by f
abbrev pub Follows : {B C : Type 0} → Reads B → (B → C) → Stage → List ℕ → Result C TextFault → Type 0
Follows reads f s cs whole = read_map f (reads s cs) ≡ whole

pub Follows-step : {B C : Type 0} (reads : Reads B) (event : Stage → ℕ → Event B) (f g : B → C) (h : B → B) (s t : Stage) (c : ℕ) (cs : List ℕ) (whole : Result C TextFault)
    → IsReader reads event → event s c ≡ Ok (t, h) → ((b : B) → g b ≡ f (h b)) → Follows reads f s (c ∷ cs) whole → Follows reads g t cs whole
Follows-step reads event f g h s t c cs whole law is same follows =
    read_map-read_map f h g (reads t cs) same ∙ ap (read_map f) (sym (law s c cs ∙ ap (λ m. after reads m cs) is)) ∙ follows

pub Follows-fault : {B C : Type 0} (reads : Reads B) (event : Stage → ℕ → Event B) (f : B → C) (s : Stage) (c : ℕ) (cs : List ℕ) (whole : Result C TextFault) (e : TextFault)
    → IsReader reads event → event s c ≡ Err e → Follows reads f s (c ∷ cs) whole → whole ≡ Err e
Follows-fault reads event f s c cs whole e law is follows =
    sym follows ∙ ap (read_map f) (law s c cs ∙ ap (λ m. after reads m cs) is)

-- the end of it
pub Follows-end : {B C : Type 0} (reads : Reads B) (f : B → C) (s : Stage) (r : Result B TextFault) (cs : List ℕ) (whole : Result C TextFault)
    → cs ≡ [] → reads s [] ≡ r → Follows reads f s cs whole → whole ≡ read_map f r
Follows-end reads f s r cs whole none is follows = sym (subst (λ ds. Follows reads f s ds whole) none follows) ∙ ap (read_map f) is

-- what was read first, and what was read then
pub then_ok : {A B E : Type 0} (f : A → Result B E) (r : Result A E) (y : B) → read_then f r ≡ Ok y → (x : A) × (r ≡ Ok x) × (f x ≡ Ok y)
then_ok f (Ok x) y h = (x, refl, h)
then_ok f (Err e) y h = cc
