use Rattle.std.proofs.Common.{◌≡◌, ℕ, ◌-◌, Some, None, Err, Ok, List, length, take, drop, refl, sym, ap, ap₂, ◌∙◌, arith, length-drop}
use Rattle.std.specs.Option.{option_map_or}
use Rattle.std.proofs.lemmas.List.{drop-drop, take_all}
use Rattle.slp_stream.specs.Cutting.{Front, front_of}
use Rattle.slp_stream.specs.Framing.{Frames, next_answer, frames_left, answer_at, frames_left_at, front_in}
use Rattle.slp_stream.specs.declared.fault.FrameFault.{FrameFault}
use Rattle.slp_stream.specs.contracts.framer.Framer.{the_view}
use Rattle.slp_stream.proofs.framer.Framer.next.Goals as goal

refused_next : (f : Frames) (e : FrameFault) → f.refused ≡ Some e → (Some (Err e) ≡ next_answer f) × (f ≡ frames_left f)
refused_next f e is = (
  ap (λ r. option_map_or (λ d. Some (Err d)) r (answer_at (front_of f.limit f.waiting) f.waiting)) (sym is),
  ap (λ r. option_map_or (λ _. f) r (frames_left_at (front_of f.limit f.waiting) f)) (sym is),
)

going_next : (f : Frames) (x : Front) → f.refused ≡ None → front_of f.limit f.waiting ≡ x → (answer_at x f.waiting ≡ next_answer f) × (frames_left_at x f ≡ frames_left f)
going_next f x none is = (
  ap (λ y. answer_at y f.waiting) (sym is) ∙ ap (λ r. option_map_or (λ d. Some (Err d)) r (answer_at (front_of f.limit f.waiting) f.waiting)) (sym none),
  ap (λ y. frames_left_at y f) (sym is) ∙ ap (λ r. option_map_or (λ _. f) r (frames_left_at (front_of f.limit f.waiting) f)) (sym none),
)

-- what stands behind the bytes that were given
behind : (start : ℕ) (held bytes : List ℕ) → held ≡ bytes → take (length held - start) (drop start held) ≡ drop start bytes
behind start held bytes is = take_all (length held - start) (drop start held) (omega (arith, length-drop start held)) ∙ ap (drop start) is

pub returns-in-Some : goal.returns-in-Some
returns-in-Some c =
    let next = refused_next (the_view c.self.inside) c.in-Some.fault c.in-Some.is in
    ((refl, λ _. tt, next.1 ∙ ap frames_left c.self.view_is), record { answer = next.0 ∙ ap next_answer c.self.view_is; state = tt })

pub returns-in-Ok-None : goal.returns-in-Ok-None
returns-in-Ok-None c =
    let s = c.self.inside in
    let front = ap (front_of s.limit) (sym (behind s.start c.deref.result.now s.bytes.items c.deref.ensures.value)) ∙ c.whole_length.ensures ∙ ap front_in c.in-Ok-None.is ∙ ap (λ o. front_in (Ok o)) c.in-Ok-None.field-0-is in
    let next = going_next (the_view s) _ c.in_default.is front in
    ((refl, λ _. tt, next.1 ∙ ap frames_left c.self.view_is), record { answer = next.0 ∙ ap next_answer c.self.view_is; state = tt })

pub returns-in-Ok-Some : goal.returns-in-Ok-Some
returns-in-Ok-Some c =
    let s = c.self.inside in
    let n = c.in-Ok-Some.length in
    let front = ap (front_of s.limit) (sym (behind s.start c.deref.result.now s.bytes.items c.deref.ensures.value)) ∙ c.whole_length.ensures ∙ ap front_in c.in-Ok-Some.is ∙ ap (λ o. front_in (Ok o)) c.in-Ok-Some.field-0-is in
    let next = going_next (the_view s) _ c.in_default.is front in
    let left = ap (λ w. record (the_view s) { waiting = w }) (sym (drop-drop n s.start s.bytes.items)) in
    let given = ap₂ (λ k xs. Some (Ok (take k (drop s.start xs)))) (omega arith) c.deref-in-Ok-Some.ensures.value in
    ((refl, λ _. tt, left ∙ next.1 ∙ ap frames_left c.self.view_is), record { answer = given ∙ next.0 ∙ ap next_answer c.self.view_is; state = tt })

pub returns-in-Err : goal.returns-in-Err
returns-in-Err c =
    let s = c.self.inside in
    let front = ap (front_of s.limit) (sym (behind s.start c.deref.result.now s.bytes.items c.deref.ensures.value)) ∙ c.whole_length.ensures ∙ ap front_in c.in-Err.is in
    let next = going_next (the_view s) _ c.in_default.is front in
    ((refl, λ _. tt, next.1 ∙ ap frames_left c.self.view_is), record { answer = next.0 ∙ ap next_answer c.self.view_is; state = tt })
