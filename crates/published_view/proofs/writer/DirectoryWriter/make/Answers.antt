use Rattle.std.proofs.Common.{true, ◌∷◌, Option, Some, sym, ap, ◌∙◌, subst}
use Rattle.directory_judge.specs.Contents.{content}
use Rattle.directory_judge.specs.History.{Event, History}
use Rattle.directory_judge.specs.Sites.{Site}
use Rattle.slp_answer.specs.AskedChanges.{IsAskedAt}
use Rattle.directory_questions.specs.Calls.{Call}
use Rattle.directory_questions.specs.Verdicts.{IsLegal}
use Rattle.directory_questions.proofs.Requests.{heard_asks}
use Rattle.directory_state.specs.Events.{call_anywhere}
use Rattle.directory_state.specs.Folds.{StandsFor}
use Rattle.published_view.specs.Traces.{IsWritten}
use Rattle.published_view.proofs.Asking.{changed_so, handed_out, unchanged, written_out}
use Rattle.published_view.proofs.Writers.{folded_at, legal_at, published, told_at}
use Rattle.published_view.proofs.writer.DirectoryWriter.make.Goals as goal

pub returns-in_default-clause-made : goal.returns-in_default-clause-made
returns-in_default-clause-made g c = unchanged (told_at c.self.inside.own c.args.self.now.history c.self.invariant.1 (ap published c.self.view_is) c.in_ok-sent.ensures) c.in_default.is

pub returns-in_default-clause-legal : goal.returns-in_default-clause-legal
returns-in_default-clause-legal g c = legal_at c.self.inside.own c.args.self.now.history c.self.invariant.1 (ap published c.self.view_is)

pub put_out-requires-clause-legal : goal.put_out-requires-clause-legal
put_out-requires-clause-legal g c =
    let h = c.args.self.now.history in
    let same = ap published c.self.view_is in
    let told = told_at c.self.inside.own h c.self.invariant.1 same c.in_ok-sent.ensures in
    subst (λ (e : Event). IsLegal g.J.Naming.opening (e ∷ h)) (sym c.requires.event) (handed_out told (legal_at c.self.inside.own h c.self.invariant.1 same) c.in-Some.change c.in-Some.is).0

pub put_out-requires-clause-written : goal.put_out-requires-clause-written
put_out-requires-clause-written g c =
    let h = c.args.self.now.history in
    let same = ap published c.self.view_is in
    let told = told_at c.self.inside.own h c.self.invariant.1 same c.in_ok-sent.ensures in
    subst (λ (q : Option Call). IsWritten g.J.Naming.opening q h (g.E.Happening.event ∷ h)) (sym c.requires.asks) (subst (λ (e : Event). IsWritten g.J.Naming.opening (Some (call_anywhere c.args.heard.now.call.now.moment c.args.heard.now.call.now.asker c.args.heard.now.call.now.bytes.now)) h (e ∷ h)) (sym c.requires.event) (written_out told (legal_at c.self.inside.own h c.self.invariant.1 same) c.in-Some.change c.in-Some.is c.args.heard.now.call.now.are_bytes (heard_asks c.args.heard.now true c.requires.change)))

pub put_out-requires-clause-stands : goal.put_out-requires-clause-stands
put_out-requires-clause-stands g c =
    let h = c.args.self.now.history in
    let same = ap published c.self.view_is in
    let told = told_at c.self.inside.own h c.self.invariant.1 same c.in_ok-sent.ensures in
    subst (λ (e : Event). StandsFor h (content c.in-Some.change) e) (sym c.requires.event) (handed_out told (legal_at c.self.inside.own h c.self.invariant.1 same) c.in-Some.change c.in-Some.is).1

pub returns-clause-made : goal.returns-clause-made
returns-clause-made g c =
    let h = c.args.self.now.history in
    let same = ap published c.self.view_is in
    let told = told_at c.self.inside.own h c.self.invariant.1 same c.in_ok-sent.ensures in
    changed_so told (legal_at c.self.inside.own h c.self.invariant.1 same) c.in-Some.change c.in-Some.is c.put_out.new.self.history
    (ap published c.in_ok-put_out.ensures.made ∙ ap (λ (e : Event). e ∷ h) c.requires.event)

pub returns-clause-legal : goal.returns-clause-legal
returns-clause-legal g c =
    let h = c.args.self.now.history in
    let same = ap published c.self.view_is in
    let told = told_at c.self.inside.own h c.self.invariant.1 same c.in_ok-sent.ensures in
    let legal = handed_out told (legal_at c.self.inside.own h c.self.invariant.1 same) c.in-Some.change c.in-Some.is in
    subst (λ (x : History). IsLegal g.J.Naming.opening x) (sym (ap published c.in_ok-put_out.ensures.made)) (subst (λ (e : Event). IsLegal g.J.Naming.opening (e ∷ h)) (sym c.requires.event) legal.0)

pub acknowledge_heard-requires-clause-asked : goal.acknowledge_heard-requires-clause-asked
acknowledge_heard-requires-clause-asked g c =
    let fold = folded_at c.self.inside.own c.args.self.now.history c.self.invariant.1 (ap published c.self.view_is) in
    subst (λ (s : Site). IsAskedAt s c.args.heard.now.call.now.bytes.now c.args.asked) (sym fold.placed) c.requires.asked
