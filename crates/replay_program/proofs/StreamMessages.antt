-- What comes of a stream, message by message.
use Rattle.std.proofs.Common.{◌≡◌, ℕ, List, [], ◌∷◌, ◌++◌, Option, Some, None, Result, Ok, Err, refl, sym, ap, ◌∙◌, subst, append_assoc}
use Rattle.std.specs.Prelude.{MatchOption}
use Rattle.std.specs.Option.{option_map_or}
use Rattle.std.proofs.lemmas.List.{append-nil}
use Rattle.slp_stream.specs.Cutting.{Front, Wanting, Whole, Bad, front_of, IsEnd, IsCut}
use Rattle.slp_stream.specs.Framing.{Frames, Refuses, answer_at, next_answer, frames_left_at, frames_left}
use Rattle.slp_stream.specs.declared.fault.FrameFault.{FrameFault}
use Rattle.slp_stream.specs.declared.fault.FrameFault.TheVariants.{NoMemory}
use Rattle.slp_stream.proofs.FramerAnswers.{Leads, gave_message, gave_none, leads_on, leads_to_end}
use Rattle.replay_program.specs.Sessions.{IsAgent, TakesPiece, Meets, Drains}
use Rattle.replay_program.specs.Worlds.{World, Answers, AnswersAll, Pieces, bad_length_text, closed_text, end_text, end_refused, longest_on_stream}
use Rattle.replay_program.specs.declared.agent.Agent.{Agent}
use Rattle.replay_program.specs.declared.session.Session.{Session}
use Rattle.replay_program.proofs.CommandsDone.{Answers-beside, IsAgent-beside}

AnswersAll-snoc : (w : World) (ms : List (List ℕ)) (said : List ℕ) (u : World) (m now : List ℕ) (v : World) → AnswersAll w ms said u → Answers longest_on_stream u m now v → AnswersAll w (ms ++ m ∷ []) (said ++ now) v
AnswersAll-snoc w [] said u m now v h a =
    (v, now, [], rw (h.0) (sym (append-nil now)), subst (λ (x : World). Answers longest_on_stream x m now v) h.1 a, (refl, refl))
AnswersAll-snoc w (n ∷ ms) said u m now v h a =
    (h.0, h.1, h.2 ++ now, rw (h.3) (append_assoc h.1 h.2 now), h.4, AnswersAll-snoc h.0 ms h.2 u m now v h.5 a)

AnswersAll-late : (w : World) (ms : List (List ℕ)) (out : List ℕ) (v : World) → AnswersAll w ms out v → v.late ≡ w.late
AnswersAll-late w [] out v a = ap (λ (x : World). x.late) a.1
AnswersAll-late w (m ∷ ms) out v a = AnswersAll-late a.0 ms a.2 v a.5 ∙ (Answers-beside longest_on_stream w m a.1 a.0 a.4).1

-- these messages were answered so far, and this is left of the framer
pub record Drained (a : Agent) (f : Frames) (ms : List (List ℕ)) (said : List ℕ) (b : Agent) (g : Frames) : Type 0 where
  pub refused : g.refused ≡ None
  pub limit : g.limit ≡ f.limit
  pub leads : Leads f.limit f.waiting ms g.waiting
  pub did : (w : World) → IsAgent w a → (u : World) × AnswersAll w ms said u × IsAgent u b

pub Drained-begin : (a : Agent) (f : Frames) → f.refused ≡ None → Drained a f [] [] a f
Drained-begin a f none = record { refused = none; limit = refl; leads = λ ms end p. p; did = λ w h. (w, (refl, refl), h) }

pub Drained-more : (a : Agent) (f : Frames) (ms : List (List ℕ)) (said : List ℕ) (b : Agent) (g : Frames) (m now : List ℕ) (u : Agent) (after : Frames) → Drained a f ms said b g → Some (Ok m) ≡ next_answer g → after ≡ frames_left g → Meets longest_on_stream b m now u → Drained a f (ms ++ m ∷ []) (said ++ now) u after
Drained-more a f ms said b g m now u after d given left meets =
    let taken = gave_message g m after given left in
    record {
      refused = taken.refused;
      limit = taken.limit ∙ d.limit;
      leads = leads_on f.limit f.waiting ms g m after d.limit d.leads taken;
      did = λ w h.
          let k = d.did w h in
          let n = meets k.0 k.2 in
          (n.0, AnswersAll-snoc w ms said k.0 m now n.0 k.1 n.1, n.2);
    }

kept : (g : Frames) (limit : ℕ) → g.limit ≡ limit → g.refused ≡ None → g ≡ record { limit = limit; waiting = g.waiting; refused = None }
kept g limit same none = ap (λ (n : ℕ). record g { limit = n }) same ∙ ap (λ (r : Option FrameFault). record { limit = limit; waiting = g.waiting; refused = r }) none

-- more bytes are wanted
pub Drained-wants : (a : Agent) (f : Frames) (ms : List (List ℕ)) (said : List ℕ) (b : Agent) (g after : Frames) → Drained a f ms said b g → None ≡ next_answer g → after ≡ frames_left g → Drains a f said b after
Drained-wants a f ms said b g after d given left = λ w h.
    let k = d.did w h in
    let cut = leads_to_end f.limit f.waiting ms g after d.limit d.leads given left in
    let none = gave_none g after given left in
    let wanting : front_of f.limit after.waiting ≡ Wanting = rw (none.1, ← d.limit) none.0 in
    let same : after ≡ record { limit = f.limit; waiting = after.waiting; refused = None } = rw (none.1) (kept g f.limit d.limit d.refused) in
    (ms, after.waiting, cut, k.0, said, k.1, rw wanting (sym (append-nil said)), rw wanting same, k.2)

-- a length that no message has
bad_at : (x : Front) (g : Frames) (e : FrameFault) (after : Frames) → front_of g.limit g.waiting ≡ x → Some (Err e) ≡ answer_at x g.waiting → after ≡ frames_left_at x g → (front_of g.limit g.waiting ≡ Bad e) × (after ≡ record g { refused = Some e })
bad_at Wanting g e after is given left = absurd cc
bad_at (Whole n) g e after is given left = absurd cc
bad_at (Bad d) g e after is given left =
    let same : d ≡ e = cc in
    (is ∙ ap Bad same, left ∙ ap (λ (x : FrameFault). record g { refused = Some x }) same)

bad_unless : (refused : Option FrameFault) (g : Frames) (e : FrameFault) (after : Frames) → refused ≡ None → Some (Err e) ≡ option_map_or (λ e. Some (Err e)) refused (answer_at (front_of g.limit g.waiting) g.waiting) → after ≡ option_map_or (λ _. g) refused (frames_left_at (front_of g.limit g.waiting) g) → (front_of g.limit g.waiting ≡ Bad e) × (after ≡ record g { refused = Some e })
bad_unless None g e after none given left = bad_at (front_of g.limit g.waiting) g e after refl given left
bad_unless (Some x) g e after none given left = absurd cc

pub Drained-bad : (a : Agent) (f : Frames) (ms : List (List ℕ)) (said : List ℕ) (b : Agent) (g : Frames) (e : FrameFault) (after : Frames) → Drained a f ms said b g → Some (Err e) ≡ next_answer g → after ≡ frames_left g → Drains a f (said ++ bad_length_text e) b after
Drained-bad a f ms said b g e after d given left = λ w h.
    let k = d.did w h in
    let bad = bad_unless g.refused g e after d.refused given left in
    let front : front_of f.limit g.waiting ≡ Bad e = rw (← d.limit) bad.0 in
    let cut : IsCut f.limit f.waiting (ms ++ []) g.waiting = d.leads [] g.waiting (refl, subst IsEnd (sym front) tt) in
    let same : after ≡ record { limit = f.limit; waiting = g.waiting; refused = Some e } = bad.1 ∙ ap (λ (n : ℕ). record { limit = n; waiting = g.waiting; refused = Some e }) d.limit in
    (ms, g.waiting, rw append-nil at cut, k.0, said, k.1, rw front refl, rw front same, k.2)

-- ---- what a piece makes of a session

-- the piece was fed, and what waited then was answered
pub TakesPiece-fed : (s : Session) (bytes now : List ℕ) (f g : Frames) (b : Agent) → s.stream.refused ≡ None → f ≡ record s.stream { waiting = s.stream.waiting ++ bytes } → Drains s.agent f now b g → TakesPiece s bytes now (record s { agent = b; stream = g })
TakesPiece-fed s bytes now f g b none fed drains = λ w h.
    let d = drains w h.agent in
    let limit : f.limit ≡ longest_on_stream = ap (λ (x : Frames). x.limit) fed ∙ h.limit in
    let waiting : f.waiting ≡ w.stream.waiting ++ bytes = ap (λ (x : Frames). x.waiting) fed ∙ ap (λ (x : Frames). x.waiting ++ bytes) h.stream in
    let going : w.stream.refused ≡ None = ap (λ (x : Frames). x.refused) (sym h.stream) ∙ none in
    let left : Frames = record { limit = longest_on_stream; waiting = d.1; refused = end_refused (front_of longest_on_stream d.1) } in
    let same : g ≡ left = subst (λ (n : ℕ). g ≡ record { limit = n; waiting = d.1; refused = end_refused (front_of n d.1) }) limit d.7 in (
      record d.3 { stream = left },
      subst (λ (o : Option FrameFault). MatchOption o (Pieces w bytes now (record d.3 { stream = left })) (λ _. (now ≡ closed_text) × (record d.3 { stream = left } ≡ w))) (sym going) (
        d.0,
        d.1,
        subst (λ (x : List ℕ). IsCut longest_on_stream x d.0 d.1) waiting (subst (λ (n : ℕ). IsCut n f.waiting d.0 d.1) limit d.2),
        d.3,
        d.4,
        d.5,
        subst (λ (n : ℕ). now ≡ d.4 ++ end_text (front_of n d.1)) limit d.6,
        refl,
      ),
      record {
        agent = IsAgent-beside d.3 left d.3.late b d.8;
        stream = same;
        limit = ap (λ (x : Frames). x.limit) same;
        late = h.late ∙ sym (AnswersAll-late w d.0 d.4 d.3 d.5);
      },
    )

-- ---- a stream that is cut no further

closed_so : (P Q : Type 0) (o : Option FrameFault) (e : FrameFault) → MatchOption o (e ≡ NoMemory) (λ d. ◌≡◌ {A = Result (Unit {0}) FrameFault} (Err e) (Err d)) → (e ≡ NoMemory → ⊥) → Q → MatchOption o P (λ _. Q)
closed_so P Q None e h some q = absurd (some h)
closed_so P Q (Some d) e h some q = q

pub TakesPiece-closed : (s : Session) (e : FrameFault) (bytes : List ℕ) (f : Frames) → Refuses s.stream (Err e) → (e ≡ NoMemory → ⊥) → f ≡ s.stream → TakesPiece s bytes closed_text (record s { stream = f })
TakesPiece-closed s e bytes f refuses some same = λ w h. (
  w,
  subst (λ (g : Frames). MatchOption g.refused (Pieces w bytes closed_text w) (λ _. (closed_text ≡ closed_text) × (w ≡ w))) h.stream (closed_so _ _ s.stream.refused e refuses some (refl, refl)),
  record { agent = h.agent; stream = same ∙ h.stream; limit = ap (λ (g : Frames). g.limit) same ∙ h.limit; late = h.late },
)
