use Rattle.jd_reader.specs.Answers.{IsRefusal}
use Rattle.jd_syntax.specs.Refusal.{IsRefusedToken}
use Rattle.jd_syntax.proofs.Readings.{told}
use Rattle.jd_syntax.proofs.parsing.read_tokens.Goals as goal

pub returns-in-Err-Refused : goal.returns-in-Err-Refused
returns-in-Err-Refused c =
    let h : IsRefusal c.args.tokens.now c.in-Err-Refused.place c.in-Err-Refused.refusal = rw c.in-Err-Refused.field-0-is at c.in-Err-Refused.ensures.refused in
    let k = told c.args.tokens.now c.in-Err-Refused.place c.in-Err-Refused.refusal h in
    rw c.kind_of.ensures k
