use Rattle.std.proofs.Common.{ap, sym, subst, ◌-◌, ◌∙◌, arith}
use Rattle.lj_queue.specs.PoolPass.{PopsFor, PoolPass}
use Rattle.lj_queue.proofs.Pops.{none_more, pops_more, pushes_again}
use Rattle.lj_queue.proofs.queue_worker.work_queue.Goals as goal

pub loop-init : goal.loop-init
loop-init g c =
    let same = c.into_parts-counted.ensures in
    let sends_back = g.G.Gate.sends_back c.args.gate.now in
    record {
      next = tt;
      finite = tt;
      number = ap (λ (t : PoolPass). t.number) same;
      rises = omega arith;
      pops = subst (PopsFor (c.args.share - c.args.share) sends_back c.args.pass) (sym same)
          (none_more sends_back c.args.share c.args.pass);
    }

pub loop-preserved-in-Some-kept : goal.loop-preserved-in-Some-kept
loop-preserved-in-Some-kept g c =
    let at = c.loop.invariant in
    let took = c.in-Some-kept.ensures.unchanged ∙ c.in-Some-take.ensures.popped in
    record {
      next = tt;
      finite = tt;
      number = ap (λ (t : PoolPass). t.number) took ∙ at.number;
      rises = omega (arith, at.rises, c.give_or_put_by.ensures.never_falls);
      pops = pops_more (g.G.Gate.sends_back c.args.gate.now) c.args.pass c.loop.counted c.kept.new.pass
          c.in-Some-take.ticket c.args.share c.loop.share c.give_or_put_by.new.share at.pops took c.give_or_put_by.ensures.one_at_most;
    }

pub loop-preserved : goal.loop-preserved
loop-preserved g c =
    let at = c.loop.invariant in
    let popped = c.in-Some-take.ensures.popped in
    let pushed = c.in_default-kept.ensures.pushed in
    record {
      next = tt;
      finite = tt;
      number = ap (λ (t : PoolPass). t.number) pushed ∙ ap (λ (t : PoolPass). t.number) popped ∙ at.number;
      rises = at.rises;
      pops = pushes_again (g.G.Gate.sends_back c.args.gate.now) c.args.pass c.loop.counted c.take.new.pass
          c.kept.new.pass c.in-Some-take.ticket (c.loop.share - c.args.share) at.pops popped pushed
          c.in_default-kept.ensures.sent_back;
    }
