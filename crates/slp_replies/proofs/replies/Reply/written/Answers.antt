use Rattle.std.proofs.Common.{◌≡◌, ◌==◌, Bool, true, false, ℕ, List, [], ◌∷◌, refl, ap, ◌∙◌}
use Rattle.std.specs.Prelude.{◌≢◌, ◌&&◌, ◌||◌, not, if◌then◌else◌}
use Rattle.std.specs.Option.{option_copied}
use Rattle.slp_headers.specs.Headers.{heading_in}
use Rattle.directory_judge.specs.Judgements.{by_step}
use Rattle.directory_judge.specs.declared.reason.Because.{Because}
use Rattle.directory_judge.specs.declared.reason.Decider.TheVariants as decider
use Rattle.directory_questions.specs.Outcomes.{code_sent, is_to_many, outcome}
use Rattle.slp_replies.specs.Tellings.{code_of}
use Rattle.slp_replies.specs.declared.answer.Sent.TheVariants as sent
use Rattle.slp_replies.proofs.replies.Reply.written.Goals as goal

-- a code was sent where there are bytes
told : (is_silent : Bool) (reply : List ℕ) (because : Because) → reply ≢ [] → code_of (if is_silent then sent.Silence else sent.Bytes 0) ≡ code_sent (outcome (if is_silent then [] else reply) 0 because)
told true reply because some = refl
told false [] because some = absurd (some refl)
told false (b ∷ bs) because some = refl

pub returns : goal.returns
returns c =
    let head = heading_in c.args.self.now.heard.now.header in
    let because = by_step decider.Nobody (option_copied c.args.kind) in
    record {
      replied = c.keep-sent.ensures.bytes;
      lined = rw (c.by_nobody.ensures.code, c.by_nobody.ensures.because) at c.in_ok-tell.ensures;
      sent = ap code_of c.keep-sent.ensures.sent ∙ told (is_to_many head && (not (0 == 0) || c.args.is_empty)) c.args.answer.now.bytes.items because c.requires.written;
    }
