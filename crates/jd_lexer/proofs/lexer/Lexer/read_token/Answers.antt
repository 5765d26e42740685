use Rattle.std.proofs.Common.{rules, ◌≡◌, ◌≤◌, ◌+◌, ◌∙◌, refl, sym, ap, subst, arith, drop, take, get_or, length, ◌∷◌}
use Rattle.jd_lexer.specs.Lexical.{Lexed, with_lexeme}
use Rattle.jd_lexer.specs.Lexing.{lexed_of}
use Rattle.jd_lexer.specs.Words.{word_kind}
use Rattle.jd_lexer.specs.Names.{AreNoWords}
use Rattle.jd_lexer.proofs.Scan.{scan_token, within_more}
use Rattle.jd_lexer.proofs.Known.{read_is_no_word, with_lexeme_no_words, piece_len}
use Rattle.jd_lexer.proofs.lexer.Lexer.read_token.Goals as goal

pub returns-in_ok-add-in-Some-clause-read : goal.returns-in_ok-add-in-Some-clause-read
returns-in_ok-add-in-Some-clause-read c =
    let within : c.args.at + 1 + c.in-Some.more ≤ length c.args.bytes.now = search rules in
    let added : lexed_of c.add.new.self ≡ with_lexeme (lexed_of c.args.self.now) c.in-Some.lexeme c.args.at c.slice.result.now = c.in_ok-add-in-Some.ensures in
    let text : c.slice.result.now ≡ take (c.in-Some.more + 1) (get_or c.args.bytes.now c.args.at 0 ∷ drop (c.args.at + 1) c.args.bytes.now) =
    c.slice.ensures ∙ ap (λ n. take n (get_or c.args.bytes.now c.args.at 0 ∷ drop (c.args.at + 1) c.args.bytes.now)) (omega arith) in
    let read = sym c.in-Some.is ∙ c.in_ok-lexeme.ensures.lexeme in
    record {
      later = omega arith;
      within = within;
      counts = rw added (within_more (lexed_of c.args.self.now) c.in-Some.lexeme c.args.at (c.args.at + 1 + c.in-Some.more) c.slice.result.now c.requires.counts (omega arith));
      names = subst (λ (s : Lexed). AreNoWords s.names) (sym added) (with_lexeme_no_words (lexed_of c.args.self.now) c.in-Some.lexeme c.args.at c.slice.result.now c.requires.names
          (λ name. ap word_kind text ∙ read_is_no_word (get_or c.args.bytes.now c.args.at 0) (drop (c.args.at + 1) c.args.bytes.now) c.in-Some.lexeme c.in-Some.more read name));
      told = scan_token c.args.bytes.now c.args.at c.in-Some.more (lexed_of c.args.self.now) (lexed_of c.add.new.self) c.in-Some.lexeme c.slice.result.now _
          c.requires.place within c.requires.gap read text added refl;
    }

pub add-requires-clause-within : goal.add-requires-clause-within
add-requires-clause-within c =
    let end = c.args.at + 1 + c.in-Some.more in
    let within : end ≤ length c.args.bytes.now = search rules in
    let ends : c.args.at + length c.slice.result.now ≡ end =
    ap (λ text. c.args.at + length text) c.slice.ensures ∙ piece_len c.args.bytes.now c.args.at end (omega arith) within in
    omega (arith, ends, within, c.requires.short)
