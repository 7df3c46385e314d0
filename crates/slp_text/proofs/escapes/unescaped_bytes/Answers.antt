use Rattle.std.proofs.Common.{◌≡◌, ◌<◌, ◌+◌, ℕ, Bool, true, false, List, [], ◌∷◌, ◌++◌, Ok, refl, sym, ap, ◌∙◌, length, drop, get_or, arith, append_assoc, append-nil, add-one, drop-cons}
use Rattle.std.proofs.lemmas.Result.{err_from_is_err_and}
use Rattle.slp_text.specs.Escapes.{unescaped_bytes}
use Rattle.slp_text.specs.Reading.{read_map}
use Rattle.slp_text.specs.declared.escapes.Stage.TheVariants.{Plain}
use Rattle.std.proofs.lemmas.List.{drop_all}
use Rattle.slp_text.proofs.Readers.{event_of, read_map-same, Follows-step, Follows-fault, fault_is}
use Rattle.slp_text.proofs.EscapeReaders.{unescapes, unescape_event, unescape_reader, begun_escape}
use Rattle.slp_text.proofs.escapes.unescaped_bytes.Goals as goal
use Rattle.slp_text.proofs.escapes.unescaped_bytes.Goals.{in-Within, in-Read+in_ok-push-in-Read}

abbrev any : ℕ → Bool
any b = true

abbrev raw : ℕ → Bool
raw b = false

-- the byte at an index and those after it
cut_at : (bytes : List ℕ) (i : ℕ) → i < length bytes → drop i bytes ≡ get_or bytes i 0 ∷ drop (i + 1) bytes
cut_at bytes i h = rw (add-one, drop-cons bytes i 0)

pub returns-in_err-next-clause-value : goal.returns-in_err-next-clause-value
returns-in_err-next-clause-value c =
    let bytes = c.as_bytes-b-items.result.now in
    let i = c.loop-b.b-index in
    let text = rw (cut_at bytes i (omega arith)) at c.loop-b.invariant.text in
    let k = c.in_err-next.ensures.value in
    let is = Follows-fault (unescapes any raw) (unescape_event any raw) (λ xs. c.loop-b.read.items ++ xs) c.loop-b.stage (get_or bytes i 0) (drop (i + 1) bytes) (unescaped_bytes c.args.text.now) c.in_err-next.field-0.0
    (unescape_reader any raw) (ap event_of (sym c.in_err-next.ensures.value)) text in
    let p = err_from_is_err_and c.from_residual.result c.from_residual.ensures.1 in
    rw (p.1, p.2) (fault_is c.in_err-next.field-0.0 _ is)

pub loop-b-preserved : goal.loop-b-preserved
loop-b-preserved c =
    let bytes = c.as_bytes-b-items.result.now in
    let i = c.loop-b.b-index in
    let b = get_or bytes i 0 in
    let items = c.loop-b.read.items in
    let whole = unescaped_bytes c.args.text.now in
    let text = rw (cut_at bytes i (omega arith)) at c.loop-b.invariant.text in
    elim c.match-branch-2.branch [
      | in-Within w ↦ record {
        stage = rw w.stage-is (rw w.in-Within.is at c.in_ok-next.ensures.stage);
        text = rw (w.stage-is, w.read-is)
            (Follows-step (unescapes any raw) (unescape_event any raw) (λ xs. items ++ xs) (λ xs. items ++ xs) (λ xs. xs) c.loop-b.stage w.in-Within.next b (drop (i + 1) bytes) whole
            (unescape_reader any raw) (ap event_of (sym c.in_ok-next.ensures.value ∙ ap Ok w.in-Within.is)) (λ xs. refl) text);
      }
      | in-Read+in_ok-push-in-Read w ↦ record {
        stage = rw w.stage-is tt;
        text = rw (w.stage-is, w.read-is)
            (Follows-step (unescapes any raw) (unescape_event any raw) (λ xs. items ++ xs) (λ xs. w.push.new.self.items ++ xs) (λ xs. w.in-Read.d ∷ xs) c.loop-b.stage Plain b (drop (i + 1) bytes) whole
            (unescape_reader any raw) (ap event_of (sym c.in_ok-next.ensures.value ∙ ap Ok w.in-Read.is))
            (λ xs. ap (λ t. t ++ xs) w.in_ok-push-in-Read.ensures.items ∙ append_assoc items (w.in-Read.d ∷ []) xs) text);
      }
    ]

pub returns-in_err-push-in-Read-clause-value : goal.returns-in_err-push-in-Read-clause-value
returns-in_err-push-in-Read-clause-value c =
    let p = err_from_is_err_and c.from_residual-in_err-push-in-Read.result c.from_residual-in_err-push-in-Read.ensures.1 in
    rw (p.1, p.2) tt

pub returns-in-Plain-clause-value : goal.returns-in-Plain-clause-value
returns-in-Plain-clause-value c =
    let ended = drop_all c.loop-b.b-index c.as_bytes-b-items.result.now c.loop-b-test.false in
    let text = rw (ended, c.in-Plain.is) at c.loop-b.invariant.text in
    sym text ∙ ap Ok (append-nil _)

pub loop-b-init : goal.loop-b-init
loop-b-init c = record { stage = tt; text = rw (c.new-read.ensures.items, c.as_bytes-b-items.ensures.value) (read_map-same _) }

pub returns-in_default-clause-value : goal.returns-in_default-clause-value
returns-in_default-clause-value c =
    let ended = drop_all c.loop-b.b-index c.as_bytes-b-items.result.now c.loop-b-test.false in
    let text = rw ended at c.loop-b.invariant.text in
    sym text ∙ ap (read_map (λ xs. c.loop-b.read.items ++ xs)) (begun_escape any raw c.loop-b.stage c.in_default.not-Plain)

pub read_byte-requires : goal.read_byte-requires
read_byte-requires c = c.loop-b.invariant.stage

pub returns-in_err-next-clause-fault : goal.returns-in_err-next-clause-fault
returns-in_err-next-clause-fault c =
    let p = err_from_is_err_and c.from_residual.result c.from_residual.ensures.1 in
    rw (p.1, p.2) c.in_err-next.ensures.fault

pub returns-in_err-push-in-Read-clause-fault : goal.returns-in_err-push-in-Read-clause-fault
returns-in_err-push-in-Read-clause-fault c =
    let p = err_from_is_err_and c.from_residual-in_err-push-in-Read.result c.from_residual-in_err-push-in-Read.ensures.1 in
    rw (p.1, p.2) (λ same. cc)

pub returns-in_default-clause-fault : goal.returns-in_default-clause-fault
returns-in_default-clause-fault c = λ same. cc
