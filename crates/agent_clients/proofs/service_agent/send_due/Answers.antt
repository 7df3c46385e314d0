use Rattle.std.proofs.Common.{◌<◌, ◌++◌, ◌∙◌, ℕ, List, length, map, refl, sym, ap, append-nil, arith}
use Rattle.std.proofs.lemmas.List.{drop_all, take_all}
use Rattle.std.proofs.lemmas.Result.{err_from_is_err_and}
use Rattle.agent_clients.specs.Keeping.{sent, xid_after}
use Rattle.agent_clients.proofs.Sendings.{sent_more, xid_more, front_stays}
use Rattle.agent_clients.proofs.service_agent.send_due.Goals as goal

pub loop-lease-preserved : goal.loop-lease-preserved
loop-lease-preserved c =
    let within : c.loop-lease.lease-index < length c.args.kept.now = omega arith in
    record {
      messages = sent_more c.args.now c.args.last c.loop-lease.xid c.in_ok-xid.xid c.loop-lease.lease-index c.args.kept.now c.lease-item.result within c.lease-item.is c.in_ok-xid.ensures.last _ _ _ c.loop-lease.invariant.messages c.in_ok-xid.ensures.messages;
      last = xid_more c.args.now c.args.last c.loop-lease.xid c.in_ok-xid.xid c.loop-lease.lease-index c.args.kept.now c.lease-item.result within c.lease-item.is c.in_ok-xid.ensures.last c.loop-lease.invariant.last;
      kept = front_stays c.args.messages.now.items c.loop-lease.messages.items c.send_if_due.new.messages.items c.loop-lease.invariant.kept c.send_if_due.ensures.kept;
    }

pub loop-lease-init : goal.loop-lease-init
loop-lease-init c = record { messages = refl; last = refl; kept = take_all (length c.args.messages.now.items) c.args.messages.now.items (omega arith) }

pub returns-in_err-xid-clause-messages : goal.returns-in_err-xid-clause-messages
returns-in_err-xid-clause-messages c =
    let p = err_from_is_err_and c.from_residual.result c.from_residual.ensures.1 in
    rw p.1 tt

pub returns-in_err-xid-clause-last : goal.returns-in_err-xid-clause-last
returns-in_err-xid-clause-last c =
    let p = err_from_is_err_and c.from_residual.result c.from_residual.ensures.1 in
    rw p.1 tt

pub returns-in_err-xid-clause-kept : goal.returns-in_err-xid-clause-kept
returns-in_err-xid-clause-kept c = front_stays c.args.messages.now.items c.loop-lease.messages.items c.send_if_due.new.messages.items c.loop-lease.invariant.kept c.send_if_due.ensures.kept

pub returns-clause-messages : goal.returns-clause-messages
returns-clause-messages c =
    let olds : List (List ℕ) = map (λ v. v.items) c.loop-lease.messages.items in
    let none = drop_all c.loop-lease.lease-index c.args.kept.now (omega (arith, c.loop-lease-test.false)) in
    sym (append-nil olds) ∙ ap (λ ks. olds ++ sent c.args.now c.loop-lease.xid ks) (sym none) ∙ c.loop-lease.invariant.messages

pub returns-clause-last : goal.returns-clause-last
returns-clause-last c =
    let none = drop_all c.loop-lease.lease-index c.args.kept.now (omega (arith, c.loop-lease-test.false)) in
    ap (xid_after c.args.now c.loop-lease.xid) (sym none) ∙ c.loop-lease.invariant.last

pub returns-clause-kept : goal.returns-clause-kept
returns-clause-kept c = c.loop-lease.invariant.kept
