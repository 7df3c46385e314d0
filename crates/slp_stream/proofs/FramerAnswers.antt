-- What an answer says of the stream: for callers of a framer.
use Rattle.std.proofs.Common.{◌≡◌, ℕ, ◌≤◌, List, [], ◌∷◌, ◌++◌, length, take, drop, Option, Some, None, Result, Ok, Err, refl, sym, ap, ◌∙◌, subst, append_assoc, arith}
use Rattle.std.specs.Option.{option_map_or}
use Rattle.std.proofs.lemmas.List.{length-take-le, take-append-drop, append-nil}
use Rattle.slp_stream.specs.Cutting.{Front, Wanting, Whole, Bad, front_of, shortest, IsEnd, IsCut}
use Rattle.slp_stream.specs.Framing.{Frames, answer_at, next_answer, frames_left_at, frames_left}
use Rattle.slp_stream.specs.declared.fault.FrameFault.{FrameFault}
use Rattle.slp_stream.proofs.Cuts.{whole_is_held}

abbrev Answer : Type 0
Answer = Option (Result (List ℕ) FrameFault)

abbrev front : Frames → Front
front f = front_of f.limit f.waiting

-- the message stood in front and was taken off, and nothing else changed
pub record IsTaken (f : Frames) (message : List ℕ) (after : Frames) : Type 0 where
  pub unrefused : f.refused ≡ None
  pub whole : front_of f.limit f.waiting ≡ Whole (length message)
  pub parts : f.waiting ≡ message ++ after.waiting
  pub least : shortest ≤ length message
  pub within : length message ≤ f.limit
  pub refused : after.refused ≡ None
  pub limit : after.limit ≡ f.limit

taken_at : (x : Front) (f : Frames) (message : List ℕ) (after : Frames) → f.refused ≡ None → front f ≡ x → Some (Ok message) ≡ answer_at x f.waiting → after ≡ frames_left_at x f → IsTaken f message after
taken_at Wanting f message after going is given left = absurd cc
taken_at (Bad e) f message after going is given left = absurd cc
taken_at (Whole n) f message after going is given left =
    let held = whole_is_held f.limit (length f.waiting) _ n is in
    let same : message ≡ take n f.waiting = cc in
    let long : length message ≡ n = ap length same ∙ length-take-le n f.waiting (omega arith) in
    let rest : after.waiting ≡ drop n f.waiting = ap (λ (x : Frames). x.waiting) left in
    record {
      unrefused = going;
      whole = is ∙ ap Whole (sym long);
      parts = sym (take-append-drop n f.waiting) ∙ ap (λ (x : List ℕ). x ++ drop n f.waiting) (sym same) ∙ ap (λ (x : List ℕ). message ++ x) (sym rest);
      least = omega arith;
      within = omega arith;
      refused = ap (λ (x : Frames). x.refused) left ∙ going;
      limit = ap (λ (x : Frames). x.limit) left;
    }

taken_unless : (refused : Option FrameFault) (f : Frames) (message : List ℕ) (after : Frames) → f.refused ≡ refused → Some (Ok message) ≡ option_map_or (λ e. Some (Err e)) refused (answer_at (front f) f.waiting) → after ≡ option_map_or (λ _. f) refused (frames_left_at (front f) f) → IsTaken f message after
taken_unless None f message after is given left = taken_at (front f) f message after is refl given left
taken_unless (Some e) f message after is given left = absurd cc

pub gave_message : (f : Frames) (message : List ℕ) (after : Frames) → Some (Ok message) ≡ next_answer f → after ≡ frames_left f → IsTaken f message after
gave_message f message after given left = taken_unless f.refused f message after refl given left

none_at : (x : Front) (f after : Frames) → front f ≡ x → None ≡ answer_at x f.waiting → after ≡ frames_left_at x f → (front f ≡ Wanting) × (after ≡ f)
none_at Wanting f after is given left = (is, left)
none_at (Whole n) f after is given left = absurd cc
none_at (Bad e) f after is given left = absurd cc

none_unless : (refused : Option FrameFault) (f after : Frames) → None ≡ option_map_or (λ e. Some (Err e)) refused (answer_at (front f) f.waiting) → after ≡ option_map_or (λ _. f) refused (frames_left_at (front f) f) → (front f ≡ Wanting) × (after ≡ f)
none_unless None f after given left = none_at (front f) f after refl given left
none_unless (Some e) f after given left = absurd cc

-- where nothing is given, more bytes are wanted
pub gave_none : (f after : Frames) → None ≡ next_answer f → after ≡ frames_left f → (front_of f.limit f.waiting ≡ Wanting) × (after ≡ f)
gave_none f after given left = none_unless f.refused f after given left

-- the first messages of the stream, as far as the rest: what a loop over answers keeps
abbrev pub Leads : ℕ → List ℕ → List (List ℕ) → List ℕ → Type 0
Leads limit stream first rest = (ms : List (List ℕ)) (end : List ℕ) → IsCut limit rest ms end → IsCut limit stream (first ++ ms) end

pub leads_on : (limit : ℕ) (stream : List ℕ) (first : List (List ℕ)) (f : Frames) (message : List ℕ) (after : Frames) → f.limit ≡ limit → Leads limit stream first f.waiting → IsTaken f message after → Leads limit stream (first ++ message ∷ []) after.waiting
leads_on limit stream first f message after same leads taken ms end p =
    let whole : front_of limit f.waiting ≡ Whole (length message) = subst (λ (n : ℕ). front_of n f.waiting ≡ Whole (length message)) same taken.whole in
    rw append_assoc (leads (message ∷ ms) end (after.waiting, taken.parts, whole, p))

-- where nothing is given, the first messages are the whole cut
pub leads_to_end : (limit : ℕ) (stream : List ℕ) (first : List (List ℕ)) (f after : Frames) → f.limit ≡ limit → Leads limit stream first f.waiting → None ≡ next_answer f → after ≡ frames_left f → IsCut limit stream first after.waiting
leads_to_end limit stream first f after same leads given left =
    let none = gave_none f after given left in
    let wanting : front_of limit f.waiting ≡ Wanting = subst (λ (n : ℕ). front_of n f.waiting ≡ Wanting) same none.0 in
    let rest : after.waiting ≡ f.waiting = ap (λ (x : Frames). x.waiting) none.1 in
    let cut : IsCut limit stream (first ++ []) f.waiting = leads [] f.waiting (refl, subst IsEnd (sym wanting) tt) in
    subst (λ (x : List ℕ). IsCut limit stream first x) (sym rest) (rw append-nil at cut)
