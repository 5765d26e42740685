use Rattle.jd_tree.proofs.Naming.{seen_more, still_apart}
use Rattle.jd_tree.proofs.names.are_apart.Goals as goal

pub loop-key-preserved : goal.loop-key-preserved
loop-key-preserved c = record {
  seen = seen_more c.loop-key.seen c.insert.new.set c.args.numbers.now c.loop-key.key-index c.loop-key-test.true c.loop-key.invariant.seen c.in_ok-added.ensures.others;
  apart = still_apart c.loop-key.seen c.args.numbers.now c.loop-key.key-index c.loop-key.apart c.in_ok-added.added c.both-apart.result c.loop-key-test.true
      c.loop-key.invariant.seen c.loop-key.invariant.apart c.in_ok-added.ensures.added c.both-apart.ensures;
}
