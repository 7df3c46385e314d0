use Rattle.std.proofs.Common.{◌≡◌, ◌++◌, ◌∷◌, [], subst, arith}
use Rattle.agent_watch.specs.Words.{kept}
use Rattle.agent_watch.proofs.Lines.{kept_full}
use Rattle.agent_watch.proofs.words.Line.push.Goals as goal

pub returns-else-self-lt-LONGEST_WORD : goal.returns-else-self-lt-LONGEST_WORD
returns-else-self-lt-LONGEST_WORD c =
    subst (λ xs. xs ≡ kept (xs ++ c.args.byte ∷ [])) c.self.view_is (kept_full c.self.inside.bytes c.self.inside.length c.args.byte (omega (arith, c.self.invariant, c.if-self-lt-LONGEST_WORD.false)) (omega (arith, c.self.invariant, c.self.told)))
