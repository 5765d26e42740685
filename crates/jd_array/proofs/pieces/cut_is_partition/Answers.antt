use Rattle.jd_array.proofs.Cuts.{is_cut}
use Rattle.jd_array.proofs.pieces.cut_is_partition.Goals as goal

pub returns : goal.returns
returns c = is_cut c.args._size c.args.pieces c.requires
