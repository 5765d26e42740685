-- Bytes spell a script or are refused.
use Rattle.std.proofs.Common.{ℕ, ◌≡◌, ◌≤◌, ◌⊎◌, true, false, List, length, Option, Some, None, Err, if◌then◌else◌, refl, subst, inl, inr, ⊎_elim}
use Rattle.std.proofs.lemmas.Bool.{cases_lt}
use Rattle.std.specs.Prelude.{◌==◌}
use Rattle.jd_grammar.specs.declared.token.Token.{Token}
use Rattle.jd_lexer.specs.Lexical.{lexed}
use Rattle.jd_reader.proofs.Total.{IsJudged, are_judged}
use Rattle.jd_syntax.specs.declared.fault.ParseKind.{ParseKind}
use Rattle.jd_syntax.specs.declared.fault.ParseKind.TheVariants as kind
use Rattle.jd_syntax.specs.declared.parsing.Stop.TheVariants as stop
use Rattle.jd_syntax.specs.Spelling.{Script, max_script, IsText, Spells}
use Rattle.jd_syntax.specs.Refusal.{place_of, IsRefused, AreSpelledOrRefused}
use Rattle.jd_syntax.specs.Answers.{kind_of, refused_at, Reads}
use Rattle.jd_syntax.proofs.Texts.{utf8_or_not}
use Rattle.jd_syntax.proofs.Readings.{told, found, stopped_behind, refused}

abbrev AreJudged : List ℕ → Type 0
AreJudged bytes = ((s : Script) × Spells bytes s) ⊎ ((k : ParseKind) × (n : ℕ) × IsRefused bytes k n)

-- a refused token stands at a place, whatever memory there is
refusal_of : (ts : List Token) (k : ParseKind) (n : ℕ) (x : Option ℕ) (end : ℕ) → (l : ParseKind) × (at : ℕ) × (refused_at ts k n x end ≡ stop.Refused l at)
refusal_of ts k n None end = (k, place_of ts n end, refl)
refusal_of ts k n (Some place) end =
    elim (n == length ts) as (λ b. (l : ParseKind) × (at : ℕ) × ((if b then stop.Refused kind.Token place else stop.Refused k (place_of ts n end)) ≡ stop.Refused l at)) [
      | true ↦ (kind.Token, place, refl)
      | false ↦ (k, place_of ts n end, refl)
    ]

text_judged : (bytes : List ℕ) → IsText bytes → (x : Option ℕ) → (lexed bytes).1 ≡ x → IsJudged (lexed bytes).0.tokens → AreJudged bytes
text_judged bytes text None e (inl w) = inl (_, found bytes text (lexed bytes) w.0 refl e w.1)
text_judged bytes text (Some at) e (inl w) = inr (kind.Token, at, stopped_behind bytes text (lexed bytes) w.0 at refl e w.1)
text_judged bytes text x e (inr w) =
    let ts = (lexed bytes).0.tokens in
    let at = refusal_of ts (kind_of w.1) w.0 (lexed bytes).1 (length bytes) in
    let h = refused bytes text (lexed bytes) ts (kind_of w.1) w.0 (length bytes) (refused_at ts (kind_of w.1) w.0 (lexed bytes).1 (length bytes)) refl refl refl (told ts w.0 w.1 w.2) refl in
    inr (at.0, at.1, subst (λ s. Reads bytes (Err s)) at.2 h)

short_judged : (bytes : List ℕ) → length bytes ≤ max_script → AreJudged bytes
short_judged bytes short = ⊎_elim
    (λ utf8. text_judged bytes (record { short = short; utf8 = utf8 }) (lexed bytes).1 refl (are_judged (lexed bytes).0.tokens))
    (λ fault. inr (kind.Bytes, fault.0, (short, fault.1)))
    (utf8_or_not bytes)

pub spelled_or_refused : AreSpelledOrRefused
spelled_or_refused bytes = ⊎_elim
    (λ long. inr (kind.TooLong, 0, (long, refl)))
    (λ short. short_judged bytes short)
    (cases_lt max_script (length bytes))
