use Rattle.jd_value.proofs.Joining.{add_one}
use Rattle.jd_value.specs.ShownGrid.{slab_text}
use Rattle.jd_value.specs.Words.{mark_text}
use Rattle.jd_value.specs.declared.mark.Mark.TheVariants as m
use Rattle.jd_value.proofs.print_grid.push_slabs.Goals as goal

pub loop-slab-preserved : goal.loop-slab-preserved
loop-slab-preserved c =
    add_one c.args.out.now (mark_text m.NextSlab) (slab_text c.args.array.now) c.loop-slab.slab c.loop-slab.invariant c.in_ok-push_separator.ensures
    c.in_ok-push_slab.ensures
