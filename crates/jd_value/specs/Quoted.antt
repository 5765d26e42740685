-- Texts in double quotes.
use Rattle.std.specs.Prelude.{ℕ, List, [], ◌∷◌, ◌++◌, ◌==◌, if◌then◌else◌, flat_map}
use Rattle.jd_value.specs.Words.{mark_text}
use Rattle.jd_value.specs.declared.mark.Mark.TheVariants as m

-- a byte inside quotes: `"`, `\`, the end of a line, the tab and `$` with a `\` before them
abbrev pub escaped : ℕ → List ℕ
escaped byte =
    if byte == 34 then mark_text m.EscapedQuote else (if byte == 92 then mark_text m.EscapedBackslash else
    (if byte == 10 then mark_text m.EscapedNewline else (if byte == 9 then mark_text m.EscapedTab else
    (if byte == 36 then mark_text m.EscapedDollar else byte ∷ []))))

abbrev pub quoted : List ℕ → List ℕ
quoted text = mark_text m.Quote ++ flat_map escaped text ++ mark_text m.Quote
