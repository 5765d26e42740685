-- What is read of a script cuts it into its tokens.
use Rattle.std.proofs.Common.{ℕ, zero, suc, ◌≡◌, ◌≤◌, ◌+◌, Bool, true, false, IsTrue, List, [], ◌∷◌, ◌++◌, length, take, drop, slice_get, Option, Some, None, if◌then◌else◌, refl, sym, ap, subst, ◌∙◌, arith, append_assoc, append-nil}
use Rattle.std.specs.Prelude.{not, ◌&&◌, ◌||◌, nat_lt, ◌==◌}
use Rattle.std.specs.List.{list_any}
use Rattle.std.specs.Str.{bytes_eq}
use Rattle.std.proofs.lemmas.List.{take-append-drop, length-take-le}
use Rattle.std.proofs.lemmas.Slice.Eq.{bytes_eq-Decides}
use Rattle.jd_grammar.specs.declared.token.Token.{Token}
use Rattle.jd_grammar.specs.declared.token.Kind.{Kind}
use Rattle.jd_grammar.specs.declared.token.Kind.TheVariants as kind
use Rattle.jd_grammar.specs.declared.token.Name.TheVariants as name
use Rattle.jd_lexer.specs.declared.lexeme.Lexeme.{Lexeme}
use Rattle.jd_lexer.specs.declared.lexeme.Lexeme.TheVariants as lexeme
use Rattle.jd_lexer.specs.Words.{number_in, with_name}
use Rattle.jd_lexer.specs.Lexical.{Lexed, start, with_gap, with_lexeme, starts_with, comment_len, gap_at, lexeme_at, next, scan, lexed}
use Rattle.jd_lexer.specs.Cutting.{is_skipped, Means, Cut, done, skipped, token, IsStop, Stops, IsCut}
use Rattle.jd_lexer.proofs.Pieces.{Fits, lexeme_fits, IsGap, gap_ok}

-- the lists only grow
abbrev Extends : List (List ℕ) → List (List ℕ) → Type 0
Extends xs ys = (zs : List (List ℕ)) × (xs ++ zs ≡ ys)

extends_same : (xs : List (List ℕ)) → Extends xs xs
extends_same xs = ([], append-nil xs)

extends_more : (xs us ys : List (List ℕ)) → Extends (xs ++ us) ys → Extends xs ys
extends_more xs us ys e = (us ++ e.0, sym (append_assoc xs us e.0) ∙ e.1)

get_front : (xs zs : List (List ℕ)) (i : ℕ) (x : List ℕ) → slice_get xs i ≡ Some x → slice_get (xs ++ zs) i ≡ Some x
get_front [] zs i x h = cc
get_front (y ∷ xs) zs zero x h = h
get_front (y ∷ xs) zs (suc i) x h = get_front xs zs i x h

get_kept : (xs ys : List (List ℕ)) (i : ℕ) (x : List ℕ) → Extends xs ys → slice_get xs i ≡ Some x → slice_get ys i ≡ Some x
get_kept xs ys i x e h = subst (λ zs. slice_get zs i ≡ Some x) e.1 (get_front xs e.0 i x h)

get_end : (xs : List (List ℕ)) (x : List ℕ) → slice_get (xs ++ x ∷ []) (length xs) ≡ Some x
get_end [] x = refl
get_end (y ∷ xs) x = get_end xs x

extends_name : (names : List (List ℕ)) (n : List ℕ) (ys : List (List ℕ)) → Extends (with_name names n) ys → Extends names ys
extends_name names n ys =
    elim (list_any (bytes_eq n) names) as (λ b. Extends (if b then names else names ++ n ∷ []) ys → Extends names ys) [ true ↦ λ e. e | false ↦ λ e. extends_more names (n ∷ []) ys e ]

number_get : (names : List (List ℕ)) (n : List ℕ) → slice_get (with_name names n) (number_in names n) ≡ Some n
number_get [] n = refl
number_get (x ∷ names) n =
    elim (bytes_eq n x) as (λ d. bytes_eq n x ≡ d → slice_get (if d || list_any (bytes_eq n) names then x ∷ names else x ∷ (names ++ n ∷ [])) (if not d then 1 + number_in names n else 0) ≡ Some n) [
      | true ↦ λ e. ap Some (sym ((bytes_eq-Decides n x).0 e))
      | false ↦ λ e.
          let q : 1 + number_in names n ≡ suc (number_in names n) = omega arith in
          rw q ((elim (list_any (bytes_eq n) names) as (λ b. slice_get (if b then names else names ++ n ∷ []) (number_in names n) ≡ Some n → slice_get (if b then x ∷ names else x ∷ (names ++ n ∷ [])) (suc (number_in names n)) ≡ Some n) [
            | true ↦ λ h. h
            | false ↦ λ h. h
          ]) (number_get names n))
    ] refl

-- ---- one turn

-- what is read from a place on, of which the first bytes belong to what was read before
record IsCutFrom (at skip : ℕ) (s : Lexed) (bs : List ℕ) (r : Lexed × Option ℕ) : Type 0 where
  tokens : List Token
  adds : r.0.tokens ≡ s.tokens ++ tokens
  texts : Extends s.texts r.0.texts
  names : Extends s.names r.0.names
  end : List ℕ
  stops : Stops (at + length bs) r.1 end
  cut : Cut r.0.texts r.0.names end (at + skip) (drop skip bs) tokens

-- the token that a lexeme becomes, and what it says
record IsAdded (s t : Lexed) (x : Lexeme) (at : ℕ) (bytes : List ℕ) : Type 0 where
  kind : Kind
  tokens : t.tokens ≡ s.tokens ++ record { kind = kind; start = at; end = at + length bytes; spaced = s.spaced } ∷ []
  texts : (ys : List (List ℕ)) → Extends t.texts ys → Extends s.texts ys
  names : (ys : List (List ℕ)) → Extends t.names ys → Extends s.names ys
  means : (ys zs : List (List ℕ)) → Extends t.texts ys → Extends t.names zs → Means ys zs bytes x kind

added : (s : Lexed) (x : Lexeme) (at : ℕ) (bytes : List ℕ) → IsAdded s (with_lexeme s x at bytes) x at bytes
added s (lexeme.Plain k) at bytes = record { kind = k; tokens = refl; texts = λ ys e. e; names = λ ys e. e; means = λ ys zs e f. refl }
added s (lexeme.Text t) at bytes = record {
  kind = kind.Text (length s.texts);
  tokens = refl;
  texts = λ ys e. extends_more s.texts (t ∷ []) ys e;
  names = λ ys e. e;
  means = λ ys zs e f. (length s.texts, refl, get_kept (s.texts ++ t ∷ []) ys (length s.texts) t e (get_end s.texts t));
}
added s lexeme.Name at bytes = record {
  kind = kind.Name (name.Other (number_in s.names bytes));
  tokens = refl;
  texts = λ ys e. e;
  names = λ ys e. extends_name s.names bytes ys e;
  means = λ ys zs e f. (number_in s.names bytes, refl, get_kept (with_name s.names bytes) zs (number_in s.names bytes) bytes f (number_get s.names bytes));
}

abbrev Reads : ℕ → ℕ → List ℕ → Lexed → ℕ → Type 0
Reads at b bs t n = IsCutFrom (at + 1) n t bs (scan (at + 1) n t bs)

behind : (at b : ℕ) (bs : List ℕ) (x : Option ℕ) (end : List ℕ) → Stops (at + 1 + length bs) x end → Stops (at + length (b ∷ bs)) x end
behind at b bs None end h = h
behind at b bs (Some n) end h = (omega (arith, h.0), h.1)

whole : (n : ℕ) (x : Option ℕ) (end : List ℕ) → Stops (0 + n) x end → Stops n x end
whole n None end h = h
whole n (Some at) end h = (omega (arith, h.0), h.1)

gap_turn : (at b : ℕ) (bs : List ℕ) (s : Lexed) (n : ℕ) → n ≤ length bs → IsTrue (is_skipped b (take n bs)) → Reads at b bs (with_gap s) n → IsCutFrom at 0 s (b ∷ bs) (scan (at + 1) n (with_gap s) bs)
gap_turn at b bs s n fits sk c = record {
  tokens = c.tokens;
  adds = c.adds;
  texts = c.texts;
  names = c.names;
  end = c.end;
  stops = behind at b bs (scan (at + 1) n (with_gap s) bs).1 c.end c.stops;
  cut =
      let r = scan (at + 1) n (with_gap s) bs in
      let P : ℕ → Type 0 = λ m. Cut r.0.texts r.0.names c.end m (drop n bs) c.tokens in
      let inner : Cut r.0.texts r.0.names c.end (at + 1 + length (take n bs)) (drop n bs) c.tokens = subst P (ap (λ m. at + 1 + m) (sym (length-take-le n bs fits))) c.cut in
      let Q : List ℕ → Type 0 = λ l. Cut r.0.texts r.0.names c.end at (b ∷ l) c.tokens in
      let R : ℕ → Type 0 = λ m. Cut r.0.texts r.0.names c.end m (b ∷ bs) c.tokens in
      let whole : Cut r.0.texts r.0.names c.end at (b ∷ bs) c.tokens = subst Q (take-append-drop n bs) (skipped at b (take n bs) (drop n bs) c.tokens sk inner) in
      let zero_more : at ≡ at + 0 = omega arith in
      subst R zero_more whole;
}

token_turn : (at b : ℕ) (bs : List ℕ) (s : Lexed) (x : Lexeme) (n : ℕ) → n ≤ length bs → lexeme_at b bs ≡ Some (x, n)
    → Reads at b bs (with_lexeme s x at (b ∷ take n bs)) n → IsCutFrom at 0 s (b ∷ bs) (scan (at + 1) n (with_lexeme s x at (b ∷ take n bs)) bs)
token_turn at b bs s x n fits l c =
    let a = added s x at (b ∷ take n bs) in
    let r = scan (at + 1) n (with_lexeme s x at (b ∷ take n bs)) bs in
    let tok : Token = record { kind = a.kind; start = at; end = at + length (b ∷ take n bs); spaced = s.spaced } in
    record {
      tokens = tok ∷ c.tokens;
      adds = c.adds ∙ ap (λ us. us ++ c.tokens) a.tokens ∙ append_assoc s.tokens (tok ∷ []) c.tokens;
      texts = a.texts r.0.texts c.texts;
      names = a.names r.0.names c.names;
      end = c.end;
      stops = behind at b bs r.1 c.end c.stops;
      cut =
          let P : ℕ → Type 0 = λ m. Cut r.0.texts r.0.names c.end m (drop n bs) c.tokens in
          let inner : Cut r.0.texts r.0.names c.end (at + 1 + length (take n bs)) (drop n bs) c.tokens = subst P (ap (λ m. at + 1 + m) (sym (length-take-le n bs fits))) c.cut in
          let found : lexeme_at b (take n bs ++ drop n bs) ≡ Some (x, length (take n bs)) = ap (lexeme_at b) (take-append-drop n bs) ∙ l ∙ ap (λ m. Some (x, m)) (sym (length-take-le n bs fits)) in
          let one = token at b (take n bs) (drop n bs) c.tokens x a.kind s.spaced found (a.means r.0.texts r.0.names c.texts c.names) inner in
          let Q : List ℕ → Type 0 = λ l. Cut r.0.texts r.0.names c.end at (b ∷ l) (record { kind = a.kind; start = at; end = at + 1 + length (take n bs); spaced = s.spaced } ∷ c.tokens) in
          let whole : Cut r.0.texts r.0.names c.end at (b ∷ bs) (record { kind = a.kind; start = at; end = at + 1 + length (take n bs); spaced = s.spaced } ∷ c.tokens) = subst Q (take-append-drop n bs) one in
          let R : ℕ → Type 0 = λ m. Cut r.0.texts r.0.names c.end at (b ∷ bs) (record { kind = a.kind; start = at; end = m; spaced = s.spaced } ∷ c.tokens) in
          let ends : at + 1 + length (take n bs) ≡ at + length (b ∷ take n bs) = omega arith in
          let S : ℕ → Type 0 = λ m. Cut r.0.texts r.0.names c.end m (b ∷ bs) (tok ∷ c.tokens) in
          let zero_more : at ≡ at + 0 = omega arith in
          subst S zero_more (subst R ends whole);
    }

-- neither a blank nor a token
stopped : (at b : ℕ) (bs : List ℕ) (s : Lexed) → IsStop (b ∷ bs) → IsCutFrom at 0 s (b ∷ bs) (s, Some at)
stopped at b bs s e = record {
  tokens = [];
  adds = sym (append-nil s.tokens);
  texts = extends_same s.texts;
  names = extends_same s.names;
  end = b ∷ bs;
  stops = (refl, e);
  cut = done (at + 0);
}

abbrev one_byte : Option ℕ
one_byte = Some 0

abbrev no_blank : Option ℕ
no_blank = None

-- a place that is no blank wherever a line goes on is none elsewhere
no_gap : (e : Bool) (b : ℕ) (bs : List ℕ) → gap_at e b bs ≡ None → gap_at false b bs ≡ None
no_gap true b bs h =
    (elim (b == 32 || b == 9) as (λ c. (if c then one_byte else (if b == 35 then Some (comment_len bs) else (if b == 13 && starts_with 10 bs then one_byte else (if b == 10 && true then one_byte else no_blank)))) ≡ no_blank
    → (if c then one_byte else (if b == 35 then Some (comment_len bs) else (if b == 13 && starts_with 10 bs then one_byte else (if b == 10 && false then one_byte else no_blank)))) ≡ no_blank) [
      | true ↦ λ g. g
      | false ↦ elim (b == 35) as (λ c. (if c then Some (comment_len bs) else (if b == 13 && starts_with 10 bs then one_byte else (if b == 10 && true then one_byte else no_blank))) ≡ no_blank
          → (if c then Some (comment_len bs) else (if b == 13 && starts_with 10 bs then one_byte else (if b == 10 && false then one_byte else no_blank))) ≡ no_blank) [
            | true ↦ λ g. g
            | false ↦ elim (b == 13 && starts_with 10 bs) as (λ c. (if c then one_byte else (if b == 10 && true then one_byte else no_blank)) ≡ no_blank → (if c then one_byte else (if b == 10 && false then one_byte else no_blank)) ≡ no_blank) [
              | true ↦ λ g. g
              | false ↦ elim (b == 10) as (λ c. (if c && true then one_byte else no_blank) ≡ no_blank → (if c && false then one_byte else no_blank) ≡ no_blank) [ true ↦ λ g. refl | false ↦ λ g. refl ]
            ]
          ]
    ]) h
no_gap false b bs h = h

turn : (at b : ℕ) (bs : List ℕ) (s : Lexed) → ((n : ℕ) (t : Lexed) → n ≤ length bs → Reads at b bs t n)
    → (e : Bool) (g : Option ℕ) → gap_at e b bs ≡ g → IsGap b bs g → (x : Option (Lexeme × ℕ)) → lexeme_at b bs ≡ x → Fits (length bs) x
    → IsCutFrom at 0 s (b ∷ bs) (next at s (b ∷ bs) g x (λ n t. scan (at + 1) n t bs))
turn at b bs s go e (Some n) g h x l f = gap_turn at b bs s n h.0 h.1 (go n (with_gap s) h.0)
turn at b bs s go e None g h None l f = stopped at b bs s (l, no_gap e b bs g)
turn at b bs s go e None g h (Some x) l f =
    let q : x.1 + 1 ≡ suc x.1 = omega arith in
    rw q (token_turn at b bs s x.0 x.1 f l (go x.1 (with_lexeme s x.0 at (b ∷ take x.1 bs)) f))

cut_from : (at skip : ℕ) (s : Lexed) (bs : List ℕ) → skip ≤ length bs → IsCutFrom at skip s bs (scan at skip s bs)
cut_from at zero s [] h = record {
  tokens = [];
  adds = sym (append-nil s.tokens);
  texts = extends_same s.texts;
  names = extends_same s.names;
  end = [];
  stops = refl;
  cut = done (at + 0);
}
cut_from at (suc n) s [] h = absurd (omega arith)
cut_from at (suc n) s (b ∷ bs) h =
    let c = cut_from (at + 1) n s bs (omega arith) in
    let r = scan (at + 1) n s bs in
    let P : ℕ → Type 0 = λ m. Cut r.0.texts r.0.names c.end m (drop n bs) c.tokens in
    let q : at + 1 + n ≡ at + suc n = omega arith in
    record { tokens = c.tokens; adds = c.adds; texts = c.texts; names = c.names; end = c.end; stops = behind at b bs r.1 c.end c.stops; cut = subst P q c.cut }
cut_from at zero s (b ∷ bs) h =
    turn at b bs s (λ n t f. cut_from (at + 1) n t bs f) (nat_lt 0 s.nest || s.joined) (gap_at (nat_lt 0 s.nest || s.joined) b bs) refl (gap_ok (nat_lt 0 s.nest || s.joined) b bs) (lexeme_at b bs) refl (lexeme_fits b bs)

pub cut_all : (bytes : List ℕ) → IsCut bytes (lexed bytes)
cut_all bytes =
    let c = cut_from 0 0 start bytes (omega arith) in
    let r = lexed bytes in
    record { end = c.end; stops = whole (length bytes) r.1 c.end c.stops; cut = subst (λ ts. Cut r.0.texts r.0.names c.end 0 bytes ts) (sym c.adds) c.cut }

-- a script that is read throughout is cut throughout
pub cut_whole : (bytes : List ℕ) → (lexed bytes).1 ≡ None → Cut (lexed bytes).0.texts (lexed bytes).0.names [] 0 bytes (lexed bytes).0.tokens
cut_whole bytes h =
    let c = cut_all bytes in
    let r = lexed bytes in
    let stops : c.end ≡ [] = subst (λ x. Stops (length bytes) x c.end) h c.stops in
    subst (λ end. Cut r.0.texts r.0.names end 0 bytes r.0.tokens) stops c.cut
