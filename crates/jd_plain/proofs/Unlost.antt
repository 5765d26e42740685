-- Where no loss was noticed, no request is answered by one.
use Rattle.std.proofs.Common.{◌≡◌, ℕ, Bool, false, Option, None, Some, refl, is_some, ap}
use Rattle.jd_model.specs.Outcome.{Outcome}
use Rattle.jd_model.specs.declared.life.Answer.{Answer}
use Rattle.jd_model.specs.declared.life.Answer.TheVariants.{Asked, Kept, Given}
use Rattle.jd_model.specs.Machine.{Request, exited_by, exited}
use Rattle.jd_plain.specs.declared.plain.Plain.{Plain}
use Rattle.jd_plain.specs.State.{state_of}

pub exited_by-kept : (w : ℕ) (a : Answer) → exited_by false w a ≡ None
exited_by-kept w Asked = refl
exited_by-kept w (Kept o) = refl
exited_by-kept w Given = refl

pub exited-none : (x : Plain) (p : ℕ) (o : Option Request) → exited (state_of x) p o ≡ None
exited-none x p None = refl
exited-none x p (Some q) = exited_by-kept q.cell.owner q.answer
