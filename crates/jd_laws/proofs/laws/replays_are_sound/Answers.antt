use Rattle.jd_laws.proofs.Sound as lemmas
use Rattle.jd_laws.proofs.laws.replays_are_sound.Goals as goal

pub returns : goal.returns
returns c = lemmas.replays_are_sound
