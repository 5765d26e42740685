use Rattle.jd_array.proofs.Coordinates.{slice_by_index}
use Rattle.jd_array.proofs.slices.slice_is_by_index.Goals as goal

pub returns : goal.returns
returns c = slice_by_index c.args._array.now c.args._picks.now c.requires
