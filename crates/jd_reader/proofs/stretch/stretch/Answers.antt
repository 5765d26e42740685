use Rattle.std.proofs.Common.{Some, sym, ◌∙◌, arith}
use Rattle.jd_grammar.proofs.Refuse.{run_next}
use Rattle.jd_precedence.specs.State.{plain_frames, plain_now, state}
use Rattle.jd_reader.specs.Reading.{plain_bottom, plain_context, plain_reading}
use Rattle.jd_reader.proofs.Stretches.{goes_on, stops}
use Rattle.jd_reader.proofs.Verdicts.{stopped_there, deep_at, within_limit}
use Rattle.jd_reader.proofs.stretch.stretch.Goals as goal

pub returns-in-Err-clause-refused : goal.returns-in-Err-clause-refused
returns-in-Err-clause-refused c =
    let l = c.loop-place in
    let r = l.invariant.read in
    stopped_there c.args.tokens.now l.place _ (plain_reading c.args.context.now c.args.bottom.now l.frames l.now) c.in-Err.stop c.refusal_of.result c.fault_of.result c.loop-place-test.true r.read r.within
    (stops _ (plain_context c.args.context.now) (plain_bottom c.args.bottom.now) (plain_frames l.frames) (plain_now l.now) c.step.new.frames c.in-Err.stop (sym c.is_inner.ensures ∙ c.if-not-is_inner.false) c.in-Err.ensures)
    c.refusal_of.ensures c.fault_of.ensures

pub returns-then-expression_needs-gt-NESTING_LIMIT-clause-refused : goal.returns-then-expression_needs-gt-NESTING_LIMIT-clause-refused
returns-then-expression_needs-gt-NESTING_LIMIT-clause-refused c =
    let l = c.loop-place in
    let r = l.invariant.read in
    deep_at c.args.tokens.now l.place _ (plain_reading c.args.context.now c.args.bottom.now l.frames l.now) (plain_reading c.args.context.now c.args.bottom.now c.step.new.frames c.in-Ok.next)
    c.expression_needs.result c.refusal_of-then-expression_needs-gt-NESTING_LIMIT.result c.loop-place-test.true r.read r.within
    (goes_on _ (plain_context c.args.context.now) (plain_bottom c.args.bottom.now) (plain_frames l.frames) (plain_now l.now) (Some (state c.step.new.frames c.in-Ok.next)) (sym c.is_inner.ensures ∙ c.if-not-is_inner.false) c.in-Ok.ensures)
    c.expression_needs.ensures c.if-expression_needs-gt-NESTING_LIMIT.true c.refusal_of-then-expression_needs-gt-NESTING_LIMIT.ensures

pub loop-place-preserved : goal.loop-place-preserved
loop-place-preserved c =
    let l = c.loop-place in
    let r = l.invariant.read in
    let next = plain_reading c.args.context.now c.args.bottom.now c.step.new.frames c.in-Ok.next in
    record {
      read = record {
        read = run_next c.args.tokens.now l.place _ (plain_reading c.args.context.now c.args.bottom.now l.frames l.now) (Some next) c.loop-place-test.true r.read
            (goes_on _ (plain_context c.args.context.now) (plain_bottom c.args.bottom.now) (plain_frames l.frames) (plain_now l.now) (Some (state c.step.new.frames c.in-Ok.next)) (sym c.is_inner.ensures ∙ c.if-not-is_inner.false) c.in-Ok.ensures);
        within = within_limit next c.expression_needs.result c.expression_needs.ensures c.if-expression_needs-gt-NESTING_LIMIT.false;
      };
      further = omega arith;
    }
