-- What reading the tokens says of the bytes.
use Rattle.std.proofs.Common.{ℕ, ◌≡◌, true, false, List, length, Option, Some, None, Err, if◌then◌else◌, refl, sym, ap, subst, ◌∙◌, arith}
use Rattle.std.specs.Prelude.{◌==◌, nat_eq}
use Rattle.std.proofs.lemmas.Bool.Decides.{nat_tests}
use Rattle.jd_grammar.specs.declared.token.Token.{Token}
use Rattle.jd_grammar.specs.Script.{Block}
use Rattle.jd_grammar.specs.Promise as tokens
use Rattle.jd_grammar.specs.Promise.{SpellsWithin, IsPrefixWithin}
use Rattle.jd_lexer.specs.Lexical.{Lexed, lexed}
use Rattle.jd_reader.specs.declared.refusal.Refusal.{Refusal}
use Rattle.jd_reader.specs.declared.refusal.Refusal.TheVariants as refusal
use Rattle.jd_reader.specs.Answers.{IsRefusal}
use Rattle.jd_syntax.specs.declared.fault.ParseKind.{ParseKind}
use Rattle.jd_syntax.specs.declared.fault.ParseKind.TheVariants as kind
use Rattle.jd_syntax.specs.declared.parsing.Stop.{Stop}
use Rattle.jd_syntax.specs.declared.parsing.Stop.TheVariants as stop
use Rattle.jd_syntax.specs.Spelling.{IsText, Spells}
use Rattle.jd_syntax.specs.Refusal.{IsRefusedToken, place_of, IsRefused}
use Rattle.jd_syntax.specs.Answers.{kind_of, refused_at, Reads}
use Rattle.jd_syntax.proofs.Refusals.{whole_prefix, end_prefix, token_refused}

-- the reader's reason, by its kind
pub told : (ts : List Token) (n : ℕ) (r : Refusal) → IsRefusal ts n r → IsRefusedToken (kind_of r) ts n
told ts n refusal.Misplaced h = h
told ts n refusal.TooDeep h = h
told ts n refusal.TooLarge h = h

module _ (bytes : List ℕ) (text : IsText bytes) where
  -- tokens throughout that are a script
  pub found : (r : Lexed × Option ℕ) (b : Block) → r ≡ lexed bytes → r.1 ≡ None → SpellsWithin r.0.tokens b → Spells bytes (record { block = b; texts = r.0.texts; names = r.0.names })
  found r b e n w = record {
    text = text;
    whole = sym (ap (λ (x : Lexed × Option ℕ). x.1) e) ∙ n;
    written = subst (λ (x : Lexed × Option ℕ). SpellsWithin x.0.tokens b) e w;
    texts = ap (λ (x : Lexed × Option ℕ). x.0.texts) e;
    names = ap (λ (x : Lexed × Option ℕ). x.0.names) e;
  }

  -- a place where no token begins, behind tokens that are a beginning
  stopped : (r : Lexed × Option ℕ) (place : ℕ) → r ≡ lexed bytes → r.1 ≡ Some place → IsPrefixWithin r.0.tokens → IsRefused bytes kind.Token place
  stopped r place e n p = (text, sym (ap (λ (x : Lexed × Option ℕ). x.1) e) ∙ n, subst (λ (x : Lexed × Option ℕ). IsPrefixWithin x.0.tokens) e p)

  pub stopped_behind : (r : Lexed × Option ℕ) (b : Block) (place : ℕ) → r ≡ lexed bytes → r.1 ≡ Some place → SpellsWithin r.0.tokens b → IsRefused bytes kind.Token place
  stopped_behind r b place e n w = stopped r place e n (whole_prefix r.0.tokens b w)

  -- a token that is refused
  at_token : (r : Lexed × Option ℕ) (k : ParseKind) (n : ℕ) → r ≡ lexed bytes → IsRefusedToken k r.0.tokens n → (n ≡ length r.0.tokens → r.1 ≡ None) → IsRefused bytes k (place_of r.0.tokens n (length bytes))
  at_token r k n e h w = subst (λ (x : Lexed × Option ℕ). IsRefusedToken k x.0.tokens n → (n ≡ length x.0.tokens → x.1 ≡ None) → IsRefused bytes k (place_of x.0.tokens n (length bytes))) (sym e) (own k n) h w
    where
      own : (k : ParseKind) (n : ℕ) → IsRefusedToken k (lexed bytes).0.tokens n → (n ≡ length (lexed bytes).0.tokens → (lexed bytes).1 ≡ None) → IsRefused bytes k (place_of (lexed bytes).0.tokens n (length bytes))
      own kind.WideNumber n h w = (text, record { number = n; refused = h; place = refl; end = w })
      own kind.TooDeep n h w = (text, record { number = n; refused = h; place = refl; end = w })
      own kind.Form n h w = (text, record { number = n; refused = h; place = refl; end = w })
      own kind.Bytes n h w = absurd h
      own kind.Token n h w = absurd h
      own kind.TooLong n h w = absurd h

  abbrev IsStopped : Stop → Type 0
  IsStopped x = Reads bytes (Err x)

  refused_stop : (r : Lexed × Option ℕ) (k : ParseKind) (n : ℕ) (x : Option ℕ) → r ≡ lexed bytes → r.1 ≡ x → IsRefusedToken k r.0.tokens n → IsStopped (refused_at r.0.tokens k n x (length bytes))
  refused_stop r k n None e q h = at_token r k n e h (λ _. q)
  refused_stop r k n (Some place) e q h =
      elim (n == length r.0.tokens) as (λ b. nat_eq n (length r.0.tokens) ≡ b → IsStopped (if b then stop.Refused kind.Token place else stop.Refused k (place_of r.0.tokens n (length bytes)))) [
        | true ↦ λ t. let l : n ≡ length r.0.tokens = grind (arith, nat_tests) in
            stopped r place e q (end_prefix r.0.tokens (subst (tokens.IsRefusedAt r.0.tokens) l (token_refused k r.0.tokens n h)))
        | false ↦ λ t. at_token r k n e h (λ l. let no : nat_eq n (length r.0.tokens) ≡ true = grind (arith, nat_tests) in cc)
      ] refl

  pub refused : (r : Lexed × Option ℕ) (ts : List Token) (k : ParseKind) (n end : ℕ) (answer : Stop) → r ≡ lexed bytes → ts ≡ r.0.tokens → end ≡ length bytes
      → IsRefusedToken k ts n → answer ≡ refused_at ts k n r.1 end → Reads bytes (Err answer)
  refused r ts k n end answer l e q h a =
      let same : answer ≡ refused_at r.0.tokens k n r.1 (length bytes) = a ∙ ap (λ us. refused_at us k n r.1 end) e ∙ ap (refused_at r.0.tokens k n r.1) q in
      subst IsStopped (sym same) (refused_stop r k n r.1 l refl (subst (λ us. IsRefusedToken k us n) e h))
