use Rattle.std.proofs.Common.{◌+◌, ◌∷◌, ◌++◌, drop, sym, ap, ◌∙◌, append_assoc}
use Rattle.std.specs.Prelude.{string_bytes}
use Rattle.slp_scopes.proofs.PrintedParts.{printed_from, with_commas, printed_from-more, key_at}
use Rattle.slp_scopes.proofs.scopes.append_printed.Goals as goal

pub loop-k-preserved : goal.loop-k-preserved
loop-k-preserved c =
    let now = c.loop-k.invariant in
    let more = c.append_scope.ensures.start in
    let k = c.k-item.result in
    let i = c.loop-k.k-index in
    let here = key_at c.args.keys.now i k c.loop-k-test.true ∙ ap (λ j. j ∷ drop (i + 1) c.args.keys.now) (sym c.k-item.is) in
    record {
      start = (now.start.0 ++ more.0, more.1 ∙ ap (λ t. t ++ more.0) now.start.1 ∙ append_assoc _ now.start.0 more.0);
      text = ap (λ t. t ++ with_commas (drop (i + 1) c.args.keys.now)) c.in_ok-append_scope.ensures.ok
          ∙ printed_from-more c.loop-k.begun (string_bytes c.loop-k.out) k (drop (i + 1) c.args.keys.now)
          ∙ ap (λ ks. string_bytes c.loop-k.out ++ printed_from c.loop-k.begun ks) (sym here) ∙ now.text;
    }
