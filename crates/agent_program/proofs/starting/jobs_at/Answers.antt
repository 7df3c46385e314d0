use Rattle.std.proofs.Common.{◌≡◌, ◌++◌, ◌∷◌, [], length, get_or, ap, ◌∙◌, subst, vec_len, arith}
use Rattle.std.specs.Prelude.{IfSome}
use Rattle.std.proofs.lemmas.List.{take_all}
use Rattle.agent_parts.specs.Jobs.{AreLoops, IsLoop}
use Rattle.agent_parts.specs.declared.threads.Job.TheVariants.{Other}
use Rattle.agent_program.proofs.Loops.{Beside, loop_more, beside_next, beside_all}
use Rattle.agent_program.proofs.starting.jobs_at.Goals as goal

pub loop-view-preserved : goal.loop-view-preserved
loop-view-preserved g c =
    let before = c.loop-view.invariant in
    let rest = c.in-Some.ensures.steps.1 in
    let places = c.args.config.now.listen in
    let one = subst (λ n. IsLoop (λ d. d.own) c.in_ok-job.job (get_or places n (0, 0))) c.len.ensures c.in_ok-job.ensures.one in
    let other = subst (λ n. IfSome c.in_ok-job.other (λ j. IsLoop (λ d. d.own) j (get_or places n (0, 0)))) c.len.ensures c.in_ok-job.ensures.other.1 in record {
      count = omega (arith, before.count, c.in_ok-push.ensures.len, rest);
      loops = loop_more (λ d. d.own) c.loop-view.jobs.items c.push.new.self.items places (vec_len c.loop-view.jobs) (vec_len c.push.new.self) c.in_ok-job.job c.in_ok-push.ensures.items c.in_ok-push.ensures.len (omega (arith, before.count, c.requires, rest)) before.loops one;
      beside = beside_next (λ d. d.own) c.pop.result c.in_ok-job.other places (vec_len c.args.others) (vec_len c.loop-view.jobs) (vec_len c.push.new.self) (vec_len c.loop-view.others) (vec_len c.pop.new.self) c.loop-view.beside.items c.add.new.all.items
          c.in_ok-push.ensures.len (omega (arith, before.count, c.requires, rest)) c.pop.ensures.cases c.in_ok-job.ensures.other.0 other c.in_ok-add.ensures before.beside;
    }

pub returns : goal.returns
returns g c =
    let before = c.loop-view.invariant in
    let none = c.in-None.ensures.steps.0 in
    let places = c.args.config.now.listen in
    let all : vec_len c.loop-view.jobs ≡ length places = omega (arith, before.count, c.requires, none) in record {
      loops = c.loop-view.jobs.items;
      beside = c.loop-view.beside.items;
      sweeping = c.new-sweeping.result;
      are = c.in_ok-push-2.ensures.items ∙ ap (λ js. js ++ Other c.new-sweeping.result ∷ []) c.in_ok-append.ensures.items;
      serve = subst (λ ps. AreLoops (λ d. d.own) c.loop-view.jobs.items ps) (take_all (vec_len c.loop-view.jobs) places (omega (arith, all))) before.loops;
      serve_beside = beside_all (λ d. d.own) places (vec_len c.args.others) (vec_len c.loop-view.others) c.loop-view.beside.items
          (subst (λ n. Beside (λ d. d.own) places (vec_len c.args.others) n (vec_len c.loop-view.others) c.loop-view.beside.items) all before.beside);
      sweeps = ap (λ t. t.interval) c.new-sweeping.ensures.1;
    }
