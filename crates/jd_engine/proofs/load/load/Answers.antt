use Rattle.std.proofs.Common.{subst, ◌+◌, ◌∙◌}
use Rattle.jd_syntax.specs.declared.parsing.TheConstants.{MAX_SCRIPT}
use Rattle.jd_engine.specs.Loading.{Loads}
use Rattle.jd_engine.proofs.Contents.{loads_whole, told_bytes}
use Rattle.jd_engine.proofs.load.load.Goals as goal

pub returns-in-Ok-read_up_to-clause-loads : goal.returns-in-Ok-read_up_to-clause-loads
returns-in-Ok-read_up_to-clause-loads g c = λ kept content e f.
    let bytes = told_bytes _ c.args.name.now _ (MAX_SCRIPT + 1) c.in-Ok-read_up_to.bytes.items kept content c.in-Ok.ensures.opens c.in-Ok-read_up_to.ensures.bytes e f in
    loads_whole content c.parsed.result (subst (λ b. Loads b c.parsed.result) (c.as_slice.ensures.value ∙ bytes) c.parsed.ensures.loads)
