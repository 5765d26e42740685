use Rattle.std.proofs.Common.{rules, ◌≡◌, ◌∙◌, ap, subst}
use Rattle.jd_grammar.specs.Promise.{SpellsWithin}
use Rattle.jd_lexer.specs.Lexing.{lexed_of}
use Rattle.jd_script.specs.PlainScript.{plain_block}
use Rattle.jd_syntax.specs.Refusal.{IsRefusedToken}
use Rattle.jd_syntax.specs.Answers.{refused_at}
use Rattle.jd_syntax.proofs.Readings.{refused, stopped_behind}
use Rattle.jd_syntax.proofs.parsing.read_cut.Goals as goal

pub returns-in-Err-Refused : goal.returns-in-Err-Refused
returns-in-Err-Refused c = λ bytes text end lexed.
    let h : IsRefusedToken c.in-Err-Refused.kind c.as_slice.result.now c.in-Err-Refused.place = rw c.in-Err-Refused.field-0-is at c.in-Err-Refused.ensures in
    let read : c.as_slice.result.now ≡ c.args.lexer.tokens = search rules in
    let told : c.as_slice-in-Err-Refused.result.now ≡ c.args.lexer.tokens = search rules in
    refused bytes text (lexed_of c.args.lexer, c.args.stop) c.args.lexer.tokens c.in-Err-Refused.kind c.in-Err-Refused.place c.args.end c.refused.result lexed (λ i. c.args.lexer.tokens) end
    (subst (λ ts. IsRefusedToken c.in-Err-Refused.kind ts c.in-Err-Refused.place) read h)
    (let given = c.refused.ensures in search (rules, told))

pub returns-in-Some : goal.returns-in-Some
returns-in-Some c = λ bytes text end lexed.
    let read : c.as_slice.result.now ≡ c.args.lexer.tokens = search rules in
    stopped_behind bytes text (lexed_of c.args.lexer, c.args.stop) (plain_block c.in-Ok.block) c.in-Some.place lexed c.in-Some.is
    (subst (λ ts. SpellsWithin ts (plain_block c.in-Ok.block)) read c.in-Ok.ensures)
