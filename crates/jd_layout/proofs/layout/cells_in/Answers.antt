use Rattle.std.proofs.Common.{◌+◌, get_or, arith}
use Rattle.jd_layout.proofs.Products.{left_more, fits_more, few_cells}
use Rattle.jd_layout.proofs.layout.cells_in.Goals as goal

pub overflow_mul-cells : goal.overflow_mul-cells
overflow_mul-cells c =
    let more = fits_more 18 c.loop-size.size-index c.loop-size.cells (get_or c.args.dims.now c.loop-size.size-index 0) c.loop-size.invariant.fits
    (c.requires.short c.loop-size.size-index 0 c.loop-size-test.true) in
    omega (arith, few_cells (c.loop-size.size-index + 1) _ (omega arith) more)

pub loop-size-preserved : goal.loop-size-preserved
loop-size-preserved c = record {
  left = left_more c.args.dims.now c.loop-size.size-index c.loop-size.cells c.loop-size-test.true c.loop-size.invariant.left;
  fits = fits_more 18 c.loop-size.size-index c.loop-size.cells _ c.loop-size.invariant.fits (c.requires.short c.loop-size.size-index 0 c.loop-size-test.true);
}
