use Rattle.std.proofs.Common.{sym, ◌∙◌}
use Rattle.jd_layout.proofs.Apart.{left_more, apart_more, not_apart}
use Rattle.jd_layout.proofs.ids.are_apart_in.Goals as goal

pub loop-process-preserved : goal.loop-process-preserved
loop-process-preserved c =
    let there = sym c.take_id.ensures.found ∙ c.if-not-take_id.false in
    record {
      left = left_more c.args.set c.loop-process.set c.take_id.new.set c.args.procs.now c.loop-process.process-index c.loop-process-test.true
          c.loop-process.invariant.left c.take_id.ensures.others;
      apart = apart_more c.args.set c.loop-process.set c.args.procs.now c.loop-process.process-index c.loop-process-test.true
          c.loop-process.invariant.left there c.loop-process.invariant.apart;
    }

pub returns-then-not-take_id : goal.returns-then-not-take_id
returns-then-not-take_id c =
    let gone = sym c.take_id.ensures.found ∙ c.if-not-take_id.true in (
      (λ never. Prim.cc),
      λ valid. absurd (not_apart c.args.set c.loop-process.set c.args.procs.now c.loop-process.process-index c.loop-process-test.true
          c.loop-process.invariant.left gone valid),
    )
