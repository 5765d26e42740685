use Rattle.jd_desk.proofs.Moves.{begins}
use Rattle.jd_desk.proofs.desk.UnnamedDesk.new.Goals as goal

pub of_words-requires : goal.of_words-requires
of_words-requires g c = begins
