-- A token that only the expression takes, with what stands round the expression.
use Rattle.std.proofs.Common.{◌≡◌, true, List, Option, None, Err, sym, ap, ◌∙◌}
use Rattle.jd_grammar.specs.declared.token.Token.{Token}
use Rattle.jd_grammar.specs.Frames.{Frame, Now, State}
use Rattle.jd_grammar.specs.Machine.{step_at}
use Rattle.jd_grammar.specs.Reader.{Context, Bottom, Config, at_expression, step}
use Rattle.jd_precedence.specs.declared.frames.Frame.{Frame as code-frame}
use Rattle.jd_precedence.specs.declared.stop.Stop.{Stop}
use Rattle.jd_precedence.specs.declared.stop.Stop.TheVariants.{Refused, OutOfMemory}
use Rattle.jd_precedence.specs.State.{Steps}
use Rattle.jd_reader.specs.Reading.{Leads}
use Rattle.jd_reader.specs.Routes.{is_inner, goes}
use Rattle.jd_reader.proofs.Routes.{inner_goes}

abbrev reading : Context → Bottom → List Frame → Now → Config
reading ctx b fs n = record { context = ctx; mode = at_expression b (record { frames = fs; now = n }) }

-- the whole goes on as the expression does
pub goes_on : (t : Token) (ctx : Context) (b : Bottom) (fs : List Frame) (n : Now) (x : Option State) → is_inner t.kind fs n ≡ true → step_at t fs n ≡ x → step t (reading ctx b fs n) ≡ goes x ctx b
goes_on t ctx b fs n x h e = sym (inner_goes t ctx b fs n h) ∙ ap (λ (y : Option State). goes y ctx b) e

-- and stops where it does
pub stops : (t : Token) (ctx : Context) (b : Bottom) (fs : List Frame) (n : Now) (gs : List code-frame) (x : Stop) → is_inner t.kind fs n ≡ true → Steps (step_at t fs n) gs (Err x) → Leads (step t (reading ctx b fs n)) (Err x)
stops t ctx b fs n gs Refused h e = goes_on t ctx b fs n None h e
stops t ctx b fs n gs OutOfMemory h e = tt
