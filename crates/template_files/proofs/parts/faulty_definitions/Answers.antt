use Rattle.std.proofs.Common.{◌≡◌, ◌-◌, ap, sym, ◌∙◌, drop, length, rules}
use Rattle.std.proofs.lemmas.List.{drop-map, length-map, take_rest}
use Rattle.std.specs.Prelude.{Some}
use Rattle.template_files.specs.Faults.{refusal_of}
use Rattle.template_files.specs.Parts.{refused_in}
use Rattle.template_files.specs.Stops.{texts_of}
use Rattle.template_files.specs.declared.parts.Part.TheVariants.{Definitions}
use Rattle.template_files.proofs.parts.faulty_definitions.Goals as goal
use Rattle.template_files.proofs.parts.faulty_definitions.Goals.{in-Ok, in-Err-Left+in_ok-fault-in-Err-Left, in-Err-NoMemory}

pub returns : goal.returns
returns c =
    let all = c.args.lines.now in
    elim c.match-read_definitions.branch [
      | in-Ok w ↦ rw w.result-is (sym (ap (refused_in (texts_of all)) w.in-Ok.ensures))
      | in-Err-Left+in_ok-fault-in-Err-Left w ↦
          let left = rw w.in-Err-Left.field-0-is at w.in-Err-Left.ensures in
          let place = w.saturating_sub-place.result in
          let counted : place ≡ length (texts_of all) - w.in-Err-Left.left = w.saturating_sub-place.ensures ∙ ap (λ n. n - w.in-Err-Left.left) (sym (length-map all (λ l. l.now))) in
          let lines = ap texts_of (take_rest all place) ∙ sym (drop-map (λ l. l.now) place all) ∙ ap (λ n. drop n (texts_of all)) counted in
          rw w.result-is (ap (λ f. Some (Definitions f)) (w.in_ok-fault-in-Err-Left.ensures ∙ ap refusal_of lines) ∙ sym (ap (refused_in (texts_of all)) left))
      | in-Err-NoMemory w ↦ search rules
    ]
