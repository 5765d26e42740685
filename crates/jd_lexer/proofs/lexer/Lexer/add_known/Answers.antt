use Rattle.std.proofs.Common.{◌+◌, length, ◌-◌, ◌∷◌, ◌∙◌, sym, ap, arith, take, drop, get_or}
use Rattle.jd_lexer.specs.Lexing.{lexed_of}
use Rattle.jd_lexer.proofs.Known.{known_read, known_added, piece_len}
use Rattle.jd_lexer.proofs.lexer.Lexer.add_known.Goals as goal

pub returns-in_ok-add_token-in-Some-clause-lexeme :
    goal.returns-in_ok-add_token-in-Some-clause-lexeme
returns-in_ok-add_token-in-Some-clause-lexeme c =
    known_read (lexed_of c.args.self.now).names c.slice.result.now c.in-Some.number (get_or c.args.bytes.now c.args.at 0) (c.name_end-end.result - c.args.at - 1) (drop (c.args.at + 1) c.args.bytes.now)
    c.requires.names (sym c.known_number.ensures.number ∙ c.in-Some.is) (sym c.is_letter.ensures ∙ c.if-not-is_letter.false) (omega (arith, c.name_end-end.ensures.end))
    (c.slice.ensures ∙ ap (λ n. take n (get_or c.args.bytes.now c.args.at 0 ∷ drop (c.args.at + 1) c.args.bytes.now)) (omega (arith, c.name_end-end.ensures.end)))

pub returns-in_ok-add_token-in-Some-clause-added :
    goal.returns-in_ok-add_token-in-Some-clause-added
returns-in_ok-add_token-in-Some-clause-added c =
    c.in_ok-add_token-in-Some.ensures ∙ known_added (lexed_of c.args.self.now) c.slice.result.now _ c.in-Some.number c.args.at c.name_end-end.result
    (sym c.known_number.ensures.number ∙ c.in-Some.is) (c.slice.ensures ∙ ap (λ n. take n (get_or c.args.bytes.now c.args.at 0 ∷ drop (c.args.at + 1) c.args.bytes.now)) (omega (arith, c.name_end-end.ensures.end)))
    (ap (λ text. c.args.at + length text) c.slice.ensures ∙ piece_len c.args.bytes.now c.args.at c.name_end-end.result (omega (arith, c.name_end-end.ensures.end)) c.name_end-end.ensures.within)
