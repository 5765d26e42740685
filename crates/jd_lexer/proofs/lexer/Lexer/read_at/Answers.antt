use Rattle.std.proofs.Common.{◌≡◌, ◌+◌, ◌∙◌, refl, sym, ap, subst, arith, drop, take, get_or, ◌∷◌}
use Rattle.std.specs.Prelude.{None, ◌||◌, nat_lt}
use Rattle.jd_lexer.specs.declared.lexeme.Lexeme.TheVariants as lexeme
use Rattle.jd_lexer.specs.Lexical.{Lexed, gap_at}
use Rattle.jd_lexer.specs.Lexing.{lexed_of}
use Rattle.jd_lexer.specs.Names.{AreNoWords}
use Rattle.jd_lexer.proofs.Scan.{scan_gap, scan_token, within_more, within_later}
use Rattle.jd_lexer.proofs.Known.{read_is_no_word, with_lexeme_no_words}
use Rattle.jd_lexer.proofs.lexer.Lexer.read_at.Goals as goal

pub returns-in-Some-clause-read : goal.returns-in-Some-clause-read
returns-in-Some-clause-read c = record {
  later = omega arith;
  within = c.in-Some.ensures.within;
  counts = rw c.add_gap.ensures (within_later (lexed_of c.args.self.now) c.args.at (c.args.at + 1 + c.in-Some.more) c.requires.counts (omega arith));
  names = subst (λ (s : Lexed). AreNoWords s.names) (sym c.add_gap.ensures) c.requires.names;
  told = rw c.add_gap.ensures (scan_gap c.args.bytes.now c.args.at c.in-Some.more (lexed_of c.args.self.now) _ c.requires.place c.in-Some.ensures.within
      (c.in-Some.ensures.gap ∙ ap (λ b. gap_at b (get_or c.args.bytes.now c.args.at 0) (drop (c.args.at + 1) c.args.bytes.now)) c.is_end_blank.ensures) refl);
}

pub returns-in-Some-2-clause-read : goal.returns-in-Some-2-clause-read
returns-in-Some-2-clause-read c =
    let within = rw c.in-Some-2.is at c.in_ok-more.ensures.within in
    let read = rw c.in-Some-2.is at c.in_ok-more.ensures.lexeme in
    let added = rw c.in-Some-2.is at c.in_ok-more.ensures.added in
    let text = take (c.in-Some-2.more + 1) (get_or c.args.bytes.now c.args.at 0 ∷ drop (c.args.at + 1) c.args.bytes.now) in
    record {
      later = omega arith;
      within = within;
      counts = rw added (within_more (lexed_of c.args.self.now) lexeme.Name c.args.at (c.args.at + 1 + c.in-Some-2.more) text c.requires.counts (omega arith));
      names = subst (λ (s : Lexed). AreNoWords s.names) (sym added) (with_lexeme_no_words (lexed_of c.args.self.now) lexeme.Name c.args.at text c.requires.names
          (read_is_no_word (get_or c.args.bytes.now c.args.at 0) (drop (c.args.at + 1) c.args.bytes.now) lexeme.Name c.in-Some-2.more read));
      told = scan_token c.args.bytes.now c.args.at c.in-Some-2.more (lexed_of c.args.self.now) (lexed_of c.add_known.new.self) lexeme.Name text _
          c.requires.place within
          (c.in_default.ensures.gap ∙ ap (λ b. gap_at b (get_or c.args.bytes.now c.args.at 0) (drop (c.args.at + 1) c.args.bytes.now)) c.is_end_blank.ensures)
          read refl added refl;
    }

pub read_token-requires-clause-gap : goal.read_token-requires-clause-gap
read_token-requires-clause-gap c =
    let same = rw c.in_default-2.is at c.in_ok-more.ensures.unchanged in
    subst (λ (s : Lexed). None ≡ gap_at (nat_lt 0 s.nest || s.joined) (get_or c.args.bytes.now c.args.at 0) (drop (c.args.at + 1) c.args.bytes.now)) (sym same)
    (c.in_default.ensures.gap ∙ ap (λ b. gap_at b (get_or c.args.bytes.now c.args.at 0) (drop (c.args.at + 1) c.args.bytes.now)) c.is_end_blank.ensures)
