use Rattle.std.proofs.Common.{arith}
use Rattle.jd_layout.proofs.Products.{left_more, fits_more}
use Rattle.jd_layout.proofs.counts.parts_in.Goals as goal

pub loop-pieces-preserved : goal.loop-pieces-preserved
loop-pieces-preserved c = record {
  left = left_more c.args.dist.now c.loop-pieces.pieces-index c.loop-pieces.parts c.loop-pieces-test.true c.loop-pieces.invariant.left;
  fits = fits_more 32 c.loop-pieces.pieces-index c.loop-pieces.parts _ c.loop-pieces.invariant.fits (omega (arith, c.type_inv.dist c.loop-pieces.pieces-index));
}
