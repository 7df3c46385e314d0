-- A text is read by its lines.
use Rattle.std.proofs.Common.{◌≡◌, ◌<◌, ◌≤◌, ℕ, true, false, cond, List, length, Err, sym, ap, ◌∙◌, arith}
use Rattle.std.specs.Prelude.{nat_lt}
use Rattle.std.specs.Str.Lines.{lines}
use Rattle.std.proofs.lemmas.Bool.Decides.{nat_tests}
use Rattle.template_files.specs.Reading.{at_line, longest_text, template_in, template_of_lines}
use Rattle.srv_template.specs.declared.fault.ParseFault.TheVariants.{Line}

pub parsed-long : (text : List ℕ) → longest_text < length text → template_in text ≡ Err (Line 1)
unfolding template_in
parsed-long text long =
    let t : nat_lt longest_text (length text) ≡ true = grind (arith, nat_tests) in
    ap (λ b. cond b (Err (Line 1)) (at_line (length (lines text)) (template_of_lines (lines text)))) t

pub parsed-lines : (text : List ℕ) (ls : List (List ℕ)) → length text ≤ longest_text → ls ≡ lines text → template_in text ≡ at_line (length ls) (template_of_lines ls)
unfolding template_in
parsed-lines text ls short is =
    let f : nat_lt longest_text (length text) ≡ false = grind (arith, nat_tests) in
    ap (λ b. cond b (Err (Line 1)) (at_line (length (lines text)) (template_of_lines (lines text)))) f ∙ ap (λ l. at_line (length l) (template_of_lines l)) (sym is)
