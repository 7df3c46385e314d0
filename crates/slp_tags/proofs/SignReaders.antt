-- Parts of lists of tags are read one character at a time.
use Rattle.std.proofs.Common.{◌≡◌, ℕ, true, false, List, [], ◌∷◌, cond, Some, None, Result, Ok, Err, refl, sym, ap, ◌∙◌}
use Rattle.slp_text.specs.Escapes.{is_escapable, is_refused}
use Rattle.slp_tags.specs.Parts.{sign_in, sign_step}
use Rattle.slp_text.specs.Reading.{read_map, IsFault}
use Rattle.slp_text.specs.Steps.{part_end, step_of}
use Rattle.slp_tags.specs.Tags.{Sign, is_star, signs_of}
use Rattle.slp_text.specs.declared.escapes.Place.TheVariants.{Tag}
use Rattle.slp_text.specs.declared.escapes.Stage.{Stage}
use Rattle.slp_text.specs.declared.escapes.Stage.TheVariants.{Plain, Slash, Digit}
use Rattle.slp_text.specs.declared.escapes.Step.{Step}
use Rattle.slp_text.specs.declared.escapes.Step.TheVariants.{Within, Read}
use Rattle.slp_text.specs.declared.faults.TextFault.{TextFault}
use Rattle.slp_text.proofs.Readers.{Reads, IsReader, after, event_of, splits, split_reader, splits-same, on_head, ended, lifted, read_map-read_map, mapped_fault}
use Rattle.slp_text.proofs.Lists.{PartReader, characters_at, part_event}

-- the pieces of a part between its raw `*`s
abbrev pub piece_reads : Reads (List (List ℕ))
piece_reads = splits is_star (characters_at Tag).reads

abbrev pub sign_reads : Reads (List Sign)
sign_reads s cs = read_map signs_of (piece_reads s cs)

signs_of-more : (d : ℕ) (p : List ℕ) (ps : List (List ℕ)) → signs_of (on_head (λ xs. d ∷ xs) (p ∷ ps)) ≡ Some d ∷ signs_of (p ∷ ps)
signs_of-more d p [] = refl
signs_of-more d p (q ∷ ps) = refl

-- what is done to the pieces, and to their signs
same_signs : (f : List (List ℕ) → List (List ℕ)) (g : List Sign → List Sign) → ((p : List ℕ) (ps : List (List ℕ)) → signs_of (f (p ∷ ps)) ≡ g (signs_of (p ∷ ps))) → (s : Stage) (cs : List ℕ)
    → read_map signs_of (read_map f (piece_reads s cs)) ≡ read_map g (sign_reads s cs)
same_signs f g same s cs =
    sym (read_map-read_map signs_of f (λ ps. signs_of (f ps)) (piece_reads s cs) (λ ps. refl))
    ∙ splits-same is_star (characters_at Tag).reads (λ ps. signs_of (f ps)) (λ ps. g (signs_of ps)) same s cs
    ∙ read_map-read_map g signs_of (λ ps. g (signs_of ps)) (piece_reads s cs) (λ ps. refl)

at_star : (s : Stage) (cs : List ℕ)
    → read_map signs_of (after piece_reads (ended (part_end Tag s)) cs) ≡ after sign_reads (event_of (read_map (λ piece. Read None) (part_end Tag s))) cs
at_star Plain cs = same_signs (λ ps. [] ∷ ps) (λ ss. None ∷ ss) (λ p ps. refl) Plain cs
at_star Slash cs = refl
at_star (Digit d) cs = refl

at_other : (m : Result (Step ℕ) TextFault) (cs : List ℕ)
    → read_map signs_of (after piece_reads (lifted (event_of m)) cs) ≡ after sign_reads (event_of (read_map sign_in m)) cs
at_other (Ok (Within t)) cs = same_signs (on_head (λ xs. xs)) (λ ss. ss) (λ p ps. refl) t cs
at_other (Ok (Read d)) cs = same_signs (on_head (λ xs. d ∷ xs)) (λ ss. Some d ∷ ss) (signs_of-more d) Plain cs
at_other (Err e) cs = refl

pub sign_law : IsReader sign_reads (λ s c. event_of (sign_step s c))
sign_law s c cs =
    ap (read_map signs_of) (split_reader is_star (characters_at Tag).reads (part_event (characters_at Tag)) (characters_at Tag).law s c cs)
    ∙ elim (is_star c) as (λ b. read_map signs_of (after piece_reads (cond b (ended (part_end Tag s)) (lifted (part_event (characters_at Tag) s c))) cs)
    ≡ after sign_reads (event_of (cond b (read_map (λ piece. Read None) (part_end Tag s)) (read_map sign_in (step_of is_escapable (is_refused Tag c) s c)))) cs) [
      | true ↦ at_star s cs
      | false ↦ at_other (step_of is_escapable (is_refused Tag c) s c) cs
    ]

-- the signs of a part of a list of tags
abbrev pub signs_in_tags : PartReader Sign
signs_in_tags = record { reads = sign_reads; step = sign_step; law = sign_law; nothing = refl }

pub sign_end : (e : TextFault) (s : Stage) → IsFault e (part_end Tag s) → IsFault e (sign_reads s [])
sign_end e Plain is = mapped_fault (λ piece. []) e (part_end Tag Plain) is
sign_end e Slash is = mapped_fault (λ piece. []) e (part_end Tag Slash) is
sign_end e (Digit d) is = mapped_fault (λ piece. []) e (part_end Tag (Digit d)) is
