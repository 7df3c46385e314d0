use Rattle.std.proofs.Common.{◌≡◌, ◌++◌, ◌+◌, true, false, List, ℕ, [], ◌∷◌, cond, take, sym, ap, ◌∙◌, append-nil}
use Rattle.std.specs.List.{list_any}
use Rattle.std.proofs.lemmas.List.Elements.{filter_more}
use Rattle.slp_text.specs.Sets.{common_keys}
use Rattle.slp_text.specs.Words.{bytes_eq}
use Rattle.slp_scopes.proofs.scopes.shared.Goals as goal
use Rattle.slp_scopes.proofs.scopes.shared.Goals.{then-has+in_ok-copy+in_ok-push, else-has}

pub loop-k-preserved : goal.loop-k-preserved
loop-k-preserved c =
    let keys = c.args.keys.now in
    let other = c.args.other.now in
    let k = c.k-item.result in
    let P = λ (j : List ℕ). list_any (λ (o : List ℕ). bytes_eq o j) other in
    let one = λ (j : List ℕ). cond (P j) (j ∷ []) [] in
    let more : common_keys (take (c.loop-k.k-index + 1) keys) other ≡ common_keys (take c.loop-k.k-index keys) other ++ one k =
    filter_more P keys c.loop-k.k-index k c.loop-k-test.true ∙ ap (λ j. common_keys (take c.loop-k.k-index keys) other ++ one j) (sym c.k-item.is) in
    elim c.if-has.branch [
      | then-has+in_ok-copy+in_ok-push w ↦
          let t : P k ≡ true = sym c.has.ensures ∙ w.if-has.true in
          ap (λ v. v.items) w.found-is ∙ w.in_ok-push.ensures.items ∙ ap (λ j. c.loop-k.found.items ++ j ∷ []) w.in_ok-copy.ensures
          ∙ ap (λ b. c.loop-k.found.items ++ cond b (k ∷ []) []) (sym t) ∙ ap (λ ks. ks ++ one k) c.loop-k.invariant ∙ sym more
      | else-has w ↦
          let f : P k ≡ false = sym c.has.ensures ∙ w.if-has.false in
          ap (λ v. v.items) w.found-is ∙ sym (append-nil c.loop-k.found.items)
          ∙ ap (λ b. c.loop-k.found.items ++ cond b (k ∷ []) []) (sym f) ∙ ap (λ ks. ks ++ one k) c.loop-k.invariant ∙ sym more
    ]
