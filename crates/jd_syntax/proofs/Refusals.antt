-- Bytes are spelled or refused, in one way.
use Rattle.std.proofs.Common.{ℕ, zero, suc, ◌≡◌, ◌≤◌, ◌<◌, ◌+◌, true, false, List, [], ◌∷◌, ◌++◌, length, take, Option, Some, None, refl, sym, ap, subst, ◌∙◌, arith, append-nil}
use Rattle.std.proofs.lemmas.List.{take_all}
use Rattle.std.proofs.lemmas.Bool.Decides.{nat_tests}
use Rattle.std.specs.Prelude.{nat_lt}
use Rattle.std.specs.Str.{IsUtf8, IsValidUpTo}
use Rattle.jd_grammar.specs.declared.token.Token.{Token}
use Rattle.jd_grammar.specs.Script.{Block}
use Rattle.jd_grammar.specs.Promise as tokens
use Rattle.jd_grammar.specs.Promise.{SpellsWithin, IsPrefixWithin}
use Rattle.jd_grammar.proofs.Promises.{spell_one_script, are_refused_once, shorter}
use Rattle.jd_lexer.specs.Lexical.{lexed}
use Rattle.jd_lexer.proofs.Cuts.{cut_whole}
use Rattle.jd_lexer.specs.Cutting.{Cut}
use Rattle.jd_syntax.specs.declared.fault.ParseKind.{ParseKind}
use Rattle.jd_syntax.specs.declared.fault.ParseKind.TheVariants as kind
use Rattle.jd_syntax.specs.Spelling.{Script, max_script, IsText, Spells, IsCut, SpellOneScript}
use Rattle.jd_syntax.specs.Refusal.{IsRefusedToken, place_of, IsRefusedAt, IsRefused, AreRefusedOnce, AreNotBoth}

-- ---- what is spelled

pub one_script : SpellOneScript
one_script bytes s t v w =
    let b : s.block ≡ t.block = spell_one_script (lexed bytes).0.tokens s.block t.block v.written.0 w.written.0 in
    let x : s.texts ≡ t.texts = v.texts ∙ sym w.texts in
    let y : s.names ≡ t.names = v.names ∙ sym w.names in
    λ i. record { block = b i; texts = x i; names = y i }

-- the tokens of the tree are cut from the bytes
pub spells_cut : (bytes : List ℕ) (s : Script) → Spells bytes s → IsCut bytes s
spells_cut bytes s w =
    let P : List (List ℕ) → Type 0 = λ ts. Cut ts (lexed bytes).0.names [] 0 bytes (lexed bytes).0.tokens in
    let Q : List (List ℕ) → Type 0 = λ ns. Cut s.texts ns [] 0 bytes (lexed bytes).0.tokens in
    let R : List Token → Type 0 = λ us. Cut s.texts s.names [] 0 bytes us in
    subst R (sym w.written.0.tokens) (subst Q (sym w.names) (subst P (sym w.texts) (cut_whole bytes w.whole)))

-- ---- beginnings

-- a script is a beginning of itself
pub whole_prefix : (ts : List Token) (s : Block) → SpellsWithin ts s → IsPrefixWithin ts
whole_prefix ts s w = ([], s, (subst (λ us. tokens.Spells us s) (sym (append-nil ts)) w.0, w.1))

-- what is refused at its end is a beginning
pub end_prefix : (ts : List Token) → tokens.IsRefusedAt ts (length ts) → IsPrefixWithin ts
end_prefix ts r = subst IsPrefixWithin (take_all (length ts) ts (omega arith)) r.before

-- no token of a beginning is refused
prefix_end : (ts : List Token) (n : ℕ) → IsPrefixWithin ts → tokens.IsRefusedAt ts n → n ≡ length ts
prefix_end ts n p r = elim (nat_lt n (length ts)) as (λ b. nat_lt n (length ts) ≡ b → n ≡ length ts) [
  | true ↦ λ h. let l : n < length ts = grind (arith, nat_tests) in
      absurd (r.after l (shorter ts (n + 1) (length ts) (omega arith) (subst IsPrefixWithin (sym (take_all (length ts) ts (omega arith))) p)))
  | false ↦ λ h. let l : length ts ≤ n = grind (arith, nat_tests) in omega (arith, r.inside)
] refl

-- ---- one place, one reason

pub token_refused : (k : ParseKind) (ts : List Token) (n : ℕ) → IsRefusedToken k ts n → tokens.IsRefusedAt ts n
token_refused kind.WideNumber ts n h = h.refused
token_refused kind.TooDeep ts n h = h.0.refused
token_refused kind.Form ts n h = h.0.refused
token_refused kind.Bytes ts n h = absurd h
token_refused kind.Token ts n h = absurd h
token_refused kind.TooLong ts n h = absurd h

one_kind : (k l : ParseKind) (ts : List Token) (n : ℕ) → IsRefusedToken k ts n → IsRefusedToken l ts n → k ≡ l
one_kind kind.WideNumber kind.WideNumber ts n g h = refl
one_kind kind.WideNumber kind.TooDeep ts n g h = absurd (h.1 g)
one_kind kind.WideNumber kind.Form ts n g h = absurd (h.1 g)
one_kind kind.TooDeep kind.WideNumber ts n g h = absurd (g.1 h)
one_kind kind.TooDeep kind.TooDeep ts n g h = refl
one_kind kind.TooDeep kind.Form ts n g h = absurd (h.0.unlimited g.0.there g.0.unlimited)
one_kind kind.Form kind.WideNumber ts n g h = absurd (g.1 h)
one_kind kind.Form kind.TooDeep ts n g h = absurd (g.0.unlimited h.0.there h.0.unlimited)
one_kind kind.Form kind.Form ts n g h = refl
one_kind kind.Bytes l ts n g h = absurd g
one_kind kind.Token l ts n g h = absurd g
one_kind kind.TooLong l ts n g h = absurd g
one_kind k kind.Bytes ts n g h = absurd h
one_kind k kind.Token ts n g h = absurd h
one_kind k kind.TooLong ts n g h = absurd h

one_token : (bytes : List ℕ) (k l : ParseKind) (m n : ℕ) → IsRefusedAt bytes k m → IsRefusedAt bytes l n → (k ≡ l) × (m ≡ n)
one_token bytes k l m n g h =
    let ts = (lexed bytes).0.tokens in
    let e : g.number ≡ h.number = are_refused_once ts g.number h.number (token_refused k ts g.number g.refused) (token_refused l ts h.number h.refused) in
    (one_kind k l ts h.number (subst (IsRefusedToken k ts) e g.refused) h.refused, g.place ∙ ap (λ i. place_of ts i (length bytes)) e ∙ sym h.place)

-- where no token begins behind a beginning, no token before is refused
not_token : (bytes : List ℕ) (k : ParseKind) (m n : ℕ) → (lexed bytes).1 ≡ Some m → IsPrefixWithin (lexed bytes).0.tokens → IsRefusedAt bytes k n → ⊥
not_token bytes k m n e p h =
    let ts = (lexed bytes).0.tokens in
    let none = h.end (prefix_end ts h.number p (token_refused k ts h.number h.refused)) in
    cc

not_longer : (bytes : List ℕ) → max_script < length bytes → length bytes ≤ max_script → ⊥
not_longer bytes a b = omega arith

not_valid : (bytes : List ℕ) (n : ℕ) → IsValidUpTo bytes n → IsUtf8 bytes → ⊥
not_valid bytes n v u = v.longest (length bytes) v.short (subst IsUtf8 (sym (take_all (length bytes) bytes (omega arith))) u)

one_valid : (bytes : List ℕ) (m n : ℕ) → IsValidUpTo bytes m → IsValidUpTo bytes n → m ≡ n
one_valid bytes m n v w =
    let a : n ≤ m = upto m n v w in
    let b : m ≤ n = upto n m w v in
    omega arith
  where
    upto : (m n : ℕ) → IsValidUpTo bytes m → IsValidUpTo bytes n → n ≤ m
    upto m n v w = elim (nat_lt m n) as (λ b. nat_lt m n ≡ b → n ≤ m) [
      | true ↦ λ h. let l : m < n = grind (arith, nat_tests) in absurd (v.longest n l w.front)
      | false ↦ λ h. grind (arith, nat_tests)
    ] refl

pub refused_once : AreRefusedOnce
refused_once bytes kind.TooLong kind.TooLong m n g h = (refl, g.1 ∙ sym h.1)
refused_once bytes kind.TooLong kind.Bytes m n g h = absurd (not_longer bytes g.0 h.0)
refused_once bytes kind.TooLong kind.Token m n g h = absurd (not_longer bytes g.0 h.0.short)
refused_once bytes kind.TooLong kind.WideNumber m n g h = absurd (not_longer bytes g.0 h.0.short)
refused_once bytes kind.TooLong kind.TooDeep m n g h = absurd (not_longer bytes g.0 h.0.short)
refused_once bytes kind.TooLong kind.Form m n g h = absurd (not_longer bytes g.0 h.0.short)
refused_once bytes kind.Bytes kind.TooLong m n g h = absurd (not_longer bytes h.0 g.0)
refused_once bytes kind.Bytes kind.Bytes m n g h = (refl, one_valid bytes m n g.1 h.1)
refused_once bytes kind.Bytes kind.Token m n g h = absurd (not_valid bytes m g.1 h.0.utf8)
refused_once bytes kind.Bytes kind.WideNumber m n g h = absurd (not_valid bytes m g.1 h.0.utf8)
refused_once bytes kind.Bytes kind.TooDeep m n g h = absurd (not_valid bytes m g.1 h.0.utf8)
refused_once bytes kind.Bytes kind.Form m n g h = absurd (not_valid bytes m g.1 h.0.utf8)
refused_once bytes kind.Token kind.TooLong m n g h = absurd (not_longer bytes h.0 g.0.short)
refused_once bytes kind.Token kind.Bytes m n g h = absurd (not_valid bytes n h.1 g.0.utf8)
refused_once bytes kind.Token kind.Token m n g h = let e : Some m ≡ Some n = sym g.1 ∙ h.1 in (refl, (cc))
refused_once bytes kind.Token kind.WideNumber m n g h = absurd (not_token bytes kind.WideNumber m n g.1 g.2 h.1)
refused_once bytes kind.Token kind.TooDeep m n g h = absurd (not_token bytes kind.TooDeep m n g.1 g.2 h.1)
refused_once bytes kind.Token kind.Form m n g h = absurd (not_token bytes kind.Form m n g.1 g.2 h.1)
refused_once bytes kind.WideNumber kind.TooLong m n g h = absurd (not_longer bytes h.0 g.0.short)
refused_once bytes kind.WideNumber kind.Bytes m n g h = absurd (not_valid bytes n h.1 g.0.utf8)
refused_once bytes kind.WideNumber kind.Token m n g h = absurd (not_token bytes kind.WideNumber n m h.1 h.2 g.1)
refused_once bytes kind.WideNumber kind.WideNumber m n g h = one_token bytes kind.WideNumber kind.WideNumber m n g.1 h.1
refused_once bytes kind.WideNumber kind.TooDeep m n g h = one_token bytes kind.WideNumber kind.TooDeep m n g.1 h.1
refused_once bytes kind.WideNumber kind.Form m n g h = one_token bytes kind.WideNumber kind.Form m n g.1 h.1
refused_once bytes kind.TooDeep kind.TooLong m n g h = absurd (not_longer bytes h.0 g.0.short)
refused_once bytes kind.TooDeep kind.Bytes m n g h = absurd (not_valid bytes n h.1 g.0.utf8)
refused_once bytes kind.TooDeep kind.Token m n g h = absurd (not_token bytes kind.TooDeep n m h.1 h.2 g.1)
refused_once bytes kind.TooDeep kind.WideNumber m n g h = one_token bytes kind.TooDeep kind.WideNumber m n g.1 h.1
refused_once bytes kind.TooDeep kind.TooDeep m n g h = one_token bytes kind.TooDeep kind.TooDeep m n g.1 h.1
refused_once bytes kind.TooDeep kind.Form m n g h = one_token bytes kind.TooDeep kind.Form m n g.1 h.1
refused_once bytes kind.Form kind.TooLong m n g h = absurd (not_longer bytes h.0 g.0.short)
refused_once bytes kind.Form kind.Bytes m n g h = absurd (not_valid bytes n h.1 g.0.utf8)
refused_once bytes kind.Form kind.Token m n g h = absurd (not_token bytes kind.Form n m h.1 h.2 g.1)
refused_once bytes kind.Form kind.WideNumber m n g h = one_token bytes kind.Form kind.WideNumber m n g.1 h.1
refused_once bytes kind.Form kind.TooDeep m n g h = one_token bytes kind.Form kind.TooDeep m n g.1 h.1
refused_once bytes kind.Form kind.Form m n g h = one_token bytes kind.Form kind.Form m n g.1 h.1

-- ---- spelled or refused

token_not_spelled : (bytes : List ℕ) (s : Script) (k : ParseKind) (n : ℕ) → Spells bytes s → IsRefusedAt bytes k n → ⊥
token_not_spelled bytes s k n w h = (token_refused k (lexed bytes).0.tokens h.number h.refused).no_script s.block w.written

pub not_both : AreNotBoth
not_both bytes s kind.TooLong n w h = not_longer bytes h.0 w.text.short
not_both bytes s kind.Bytes n w h = not_valid bytes n h.1 w.text.utf8
not_both bytes s kind.Token n w h = let e : Some n ≡ None = sym h.1 ∙ w.whole in cc
not_both bytes s kind.WideNumber n w h = token_not_spelled bytes s kind.WideNumber n w h.1
not_both bytes s kind.TooDeep n w h = token_not_spelled bytes s kind.TooDeep n w h.1
not_both bytes s kind.Form n w h = token_not_spelled bytes s kind.Form n w h.1
