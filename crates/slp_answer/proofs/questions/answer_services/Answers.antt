use Rattle.std.proofs.Common.{sym, ap, ◌∙◌, arith}
use Rattle.std.specs.List.{list_any}
use Rattle.slp_headers.specs.Headers.{heading_in}
use Rattle.directory_judge.specs.Judgements.{supports}
use Rattle.directory_judge.specs.Sites.{Site}
use Rattle.directory_questions.specs.Calls.{call_in}
use Rattle.directory_questions.specs.declared.query.Target.TheVariants.{Kind}
use Rattle.directory_state.specs.Fronts.{items_in}
use Rattle.directory_state.proofs.Sources.{of-some, source-placed}
use Rattle.slp_answer.proofs.Sizes.{room-short}
use Rattle.slp_answer.proofs.AnswersTold.{found-supported, listed-answer}
use Rattle.slp_answer.proofs.questions.answer_services.Goals as goal

pub services-requires-clause-short : goal.services-requires-clause-short
services-requires-clause-short g c =
    let found = c.in-Ok-Some.found in
    let fits = room-short (heading_in c.args.reply.now.heard.now.header) c.room_in-room.result (items_in found) found.is_cut c.args.reply.now.heard.now.call.now.limit c.room_in-room.ensures.bytes c.room_in-room.ensures.each (of-some _ _ _ c.in-Ok-Some.field-0-is c.in-Ok-Some.ensures.fits) in
    omega (arith, fits, c.args.reply.now.heard.now.call.now.most)

pub returns-in_ok-sent-in-Ok-Some-clause-told : goal.returns-in_ok-sent-in-Ok-Some-clause-told
returns-in_ok-sent-in-Ok-Some-clause-told g c = λ o h k legal.
    let found = c.in-Ok-Some.found in
    let is = c.in-Ok-Some.field-0-is in
    let all = of-some _ _ _ is (c.in-Ok-Some.ensures.items o h k legal) in
    let supported = ap (λ (p : Site). list_any (supports p) c.args.query.now.scopes) (sym (source-placed o h (Kind c.args.query.now.kind) c.args.source.now k)) ∙ found-supported c.in-Ok-Some.field-0 _ _ c.in-Ok-Some.ensures.scope in
    listed-answer o h (call_in c.args.reply.now.heard.now.call.now) (heading_in c.args.reply.now.heard.now.header) c.args.reply.now.rules.now c.args.query.now all.0 (items_in found) found.is_cut c.room_in-room.result
    c.in_ok-sent-in-Ok-Some.sent c.services.new.answer.bytes.items c.services.new.answer.audit.items c.room_in-room.ensures.bytes c.room_in-room.ensures.each supported (of-some _ _ _ is (c.in-Ok-Some.ensures.language o h k legal).1) all.1 all.2 c.in_ok-sent-in-Ok-Some.ensures
