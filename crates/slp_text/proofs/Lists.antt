-- What a list of parts between commas still gives.
use Rattle.std.proofs.Common.{◌≡◌, ℕ, true, false, List, [], ◌∷◌, cond, Result, Ok, Err, refl, sym, ap, ◌∙◌, eqb-true, ◌++◌}
use Rattle.std.specs.Prelude.{filter}
use Rattle.slp_text.specs.Ascii.{comma}
use Rattle.slp_text.specs.Escapes.{is_escapable, is_refused}
use Rattle.slp_text.specs.Reading.{read_map, read_then, IsFault}
use Rattle.slp_text.specs.Lists.{is_comma, is_some_text}
use Rattle.slp_text.specs.Steps.{step_of}
use Rattle.slp_text.specs.declared.escapes.Place.{Place}
use Rattle.slp_text.specs.declared.escapes.Step.{Step}
use Rattle.slp_text.specs.declared.escapes.Step.TheVariants.{Within, Read}
use Rattle.slp_text.specs.declared.faults.TextFault.TheVariants.{BadEscape, Reserved, NotUtf8, NoMemory}
use Rattle.slp_text.specs.declared.escapes.Stage.{Stage}
use Rattle.slp_text.specs.declared.escapes.Stage.TheVariants.{Plain}
use Rattle.slp_text.specs.declared.faults.TextFault.{TextFault}
use Rattle.slp_text.proofs.Readers.{Event, Reads, IsReader, event_of, splits, split_event, split_reader, on_head, ended, lifted, Follows, Follows-step, Follows-fault, Follows-end, fault_is}
use Rattle.slp_text.proofs.EscapeReaders.{unescapes, unescape_reader}

pub on_head-same : {A C : Type 0} (f : List (List A) → C) (ps : List (List A)) → f ps ≡ f (on_head (λ xs. xs) ps)
on_head-same f [] = refl
on_head-same f (p ∷ ps) = refl

-- how what is in a part of a list is read, one character at a time
pub record PartReader (A : Type 0) : Type 0 where
  pub reads : Reads (List A)
  pub step : Stage → ℕ → Result (Step A) TextFault
  pub law : IsReader reads (λ s c. event_of (step s c))
  pub nothing : reads Plain [] ≡ Ok []

-- the characters of a part at a place, with its escapes read
abbrev pub characters_at : Place → PartReader ℕ
characters_at place = record {
  reads = unescapes is_escapable (is_refused place);
  step = λ s c. step_of is_escapable (is_refused place c) s c;
  law = unescape_reader is_escapable (is_refused place);
  nothing = refl;
}

module _ {A : Type 0} (part : PartReader A) where
  abbrev pub list_parts : Reads (List (List A))
  list_parts = splits is_comma part.reads

  abbrev pub part_event : Stage → ℕ → Event (List A)
  part_event s c = event_of (part.step s c)

  abbrev pub list_event : Stage → ℕ → Event (List (List A))
  list_event = split_event is_comma part.reads part_event

  pub list_reader : IsReader list_parts list_event
  list_reader = split_reader is_comma part.reads part_event part.law

  comma_event : (s : Stage) (c : ℕ) (r : Result (List A) TextFault) → c ≡ comma → part.reads s [] ≡ r → list_event s c ≡ ended r
  comma_event s c r is end = ap (λ d. list_event s d) is ∙ ap ended end

  other_event : (s : Stage) (c : ℕ) (r : Result (Step A) TextFault) → (c ≡ comma → ⊥) → part.step s c ≡ r → list_event s c ≡ lifted (event_of r)
  other_event s c r other is =
      elim (is_comma c) as (λ b. is_comma c ≡ b → cond b (ended (part.reads s [])) (lifted (part_event s c)) ≡ lifted (event_of r)) [
        | true ↦ λ t. absurd (other (eqb-true c comma t))
        | false ↦ λ f. ap (λ m. lifted (event_of m)) is
      ] refl

  nothing_at : (s : Stage) → s ≡ Plain → part.reads s [] ≡ Ok []
  nothing_at s plain = ap (λ t. part.reads t []) plain ∙ part.nothing

  -- f makes the whole of what characters give from a stage on
  module _ {C : Type 0} (f : List (List A) → C) (s : Stage) (cs : List ℕ) (whole : Result C TextFault) where
    pub list-within : (t : Stage) (c : ℕ) → (c ≡ comma → ⊥) → part.step s c ≡ Ok (Within t) → Follows list_parts f s (c ∷ cs) whole → Follows list_parts f t cs whole
    list-within t c other is =
        Follows-step list_parts list_event f f (on_head (λ xs. xs)) s t c cs whole list_reader (other_event s c (Ok (Within t)) other is) (on_head-same f)

    pub list-read : (g : List (List A) → C) (d : A) (c : ℕ) → (c ≡ comma → ⊥) → part.step s c ≡ Ok (Read d) → ((ps : List (List A)) → g ps ≡ f (on_head (λ xs. d ∷ xs) ps))
        → Follows list_parts f s (c ∷ cs) whole → Follows list_parts g Plain cs whole
    list-read g d c other is =
        Follows-step list_parts list_event f g (on_head (λ xs. d ∷ xs)) s Plain c cs whole list_reader (other_event s c (Ok (Read d)) other is)

    pub list-fault : (e : TextFault) (c : ℕ) → (c ≡ comma → ⊥) → part.step s c ≡ Err e → Follows list_parts f s (c ∷ cs) whole → IsFault e whole
    list-fault e c other is follows = fault_is e whole (Follows-fault list_parts list_event f s c cs whole e list_reader (other_event s c (Err e) other is) follows)

    pub list-comma : (g : List (List A) → C) (c : ℕ) → c ≡ comma → s ≡ Plain → ((ps : List (List A)) → g ps ≡ f ([] ∷ ps)) → Follows list_parts f s (c ∷ cs) whole → Follows list_parts g Plain cs whole
    list-comma g c same plain =
        Follows-step list_parts list_event f g (λ ps. [] ∷ ps) s Plain c cs whole list_reader (comma_event s c (Ok []) same (nothing_at s plain))

    comma-fault : (e : TextFault) (c : ℕ) → c ≡ comma → part.reads s [] ≡ Err e → Follows list_parts f s (c ∷ cs) whole → whole ≡ Err e
    comma-fault e c same is = Follows-fault list_parts list_event f s c cs whole e list_reader (comma_event s c (Err e) same is)

    pub list-comma-fault : (e : TextFault) (c : ℕ) → c ≡ comma → IsFault e (part.reads s []) → Follows list_parts f s (c ∷ cs) whole → IsFault e whole
    list-comma-fault BadEscape c same is follows = comma-fault BadEscape c same is follows
    list-comma-fault Reserved c same is follows = comma-fault Reserved c same is follows
    list-comma-fault NotUtf8 c same is follows = comma-fault NotUtf8 c same is follows
    list-comma-fault NoMemory c same is follows = tt

    end-is : (r : Result (List A) TextFault) → cs ≡ [] → part.reads s [] ≡ r → Follows list_parts f s cs whole → whole ≡ read_map f (read_then (λ b. Ok (b ∷ [])) r)
    end-is r none is follows =
        Follows-end list_parts f s (read_then (λ b. Ok (b ∷ [])) r) cs whole none (ap (read_then (λ b. Ok (b ∷ []))) is) follows

    pub list-end-fault : (e : TextFault) → cs ≡ [] → IsFault e (part.reads s []) → Follows list_parts f s cs whole → IsFault e whole
    list-end-fault BadEscape none is follows = end-is (Err BadEscape) none is follows
    list-end-fault Reserved none is follows = end-is (Err Reserved) none is follows
    list-end-fault NotUtf8 none is follows = end-is (Err NotUtf8) none is follows
    list-end-fault NoMemory none is follows = tt

    pub list-end : (all : C) → cs ≡ [] → s ≡ Plain → all ≡ f ([] ∷ []) → Follows list_parts f s cs whole → whole ≡ Ok all
    list-end all none plain is follows = end-is (Ok []) none (nothing_at s plain) follows ∙ ap Ok (sym is)

pub kept : {A : Type 0} (k : List A) (ks : List (List A)) → filter is_some_text (k ∷ ks) ≡ filter is_some_text (k ∷ []) ++ filter is_some_text ks
kept k ks =
    elim (is_some_text k) as (λ b. cond b (k ∷ filter is_some_text ks) (filter is_some_text ks) ≡ cond b (k ∷ []) [] ++ filter is_some_text ks) [ true ↦ refl | false ↦ refl ]
