use Rattle.std.proofs.Common.{◌∙◌, chars}
use Rattle.std.proofs.lemmas.Str.{encodes-chars}
use Rattle.slp_text.proofs.Characters.{no_more, one_more}
use Rattle.slp_text.proofs.SqueezedTexts.{squeezed-done}
use Rattle.slp_text.proofs.folding.squeeze.Goals as goal

pub loop-c-init : goal.loop-c-init
loop-c-init c = (chars c.args.text.now, encodes-chars _ c.utf8.text ∙ cc, c.new-squeezed.ensures (chars c.args.text.now))

pub loop-c-preserved : goal.loop-c-preserved
loop-c-preserved c =
    let now = c.loop-c.invariant in
    let cut = one_more now.0 _ _ c.in-Some.c now.1 c.in-Some.ensures.steps.0 in
    let text = rw cut.1 at now.2 in
    (cut.0, cut.2, c.in_ok-push.ensures cut.0 ∙ text)

pub returns : goal.returns
returns c =
    let now = c.loop-c.invariant in
    let ended = no_more now.0 _ now.1 c.in-None.ensures.steps.0.0 in
    squeezed-done _ _ _ _ (rw ended at now.2)
