-- The place of a refusal lies within the bytes.
use Rattle.std.proofs.Common.{ℕ, zero, suc, ◌≡◌, ◌≤◌, ◌+◌, List, [], ◌∷◌, ◌++◌, length, Option, Some, None, sym, subst, ◌∙◌, arith, length-append}
use Rattle.jd_grammar.specs.declared.token.Token.{Token}
use Rattle.jd_lexer.specs.Lexical.{lexed}
use Rattle.jd_lexer.specs.Cutting.{Cut, done, skipped, token, Stops, IsStop}
use Rattle.jd_lexer.proofs.Cuts.{cut_all}
use Rattle.jd_syntax.specs.declared.fault.ParseKind.{ParseKind}
use Rattle.jd_syntax.specs.declared.fault.ParseKind.TheVariants as kind
use Rattle.jd_syntax.specs.Refusal.{place_of, IsRefusedAt, IsRefused}

-- no token begins behind the bytes that it is cut from
cut_within : (texts names : List (List ℕ)) (end : List ℕ) (at : ℕ) (bs : List ℕ) (ts : List Token) (n m : ℕ)
    → Cut texts names end at bs ts → at + length bs ≤ m → place_of ts n m ≤ m
cut_within texts names end at bs ts n m (done b) h = omega arith
cut_within texts names end at bs ts n m (skipped b a more rest us s c) h =
    cut_within texts names end (b + 1 + length more) rest us n m c (omega (arith, length-append more rest))
cut_within texts names end at bs ts zero m (token b a more rest us x k spaced l means c) h = omega (arith, length-append more rest)
cut_within texts names end at bs ts (suc n) m (token b a more rest us x k spaced l means c) h =
    cut_within texts names end (b + 1 + length more) rest us n m c (omega (arith, length-append more rest))

token_within : (bytes : List ℕ) (k : ParseKind) (place : ℕ) → IsRefusedAt bytes k place → place ≤ length bytes
token_within bytes k place h =
    let c = cut_all bytes in
    let r = lexed bytes in
    let w = cut_within r.0.texts r.0.names c.end 0 bytes r.0.tokens h.number (length bytes) c.cut (omega arith) in
    omega (arith, h.place, w)

stop_within : (n : ℕ) (x : Option ℕ) (end : List ℕ) (place : ℕ) → Stops n x end → x ≡ Some place → place ≤ n
stop_within n None end place s e = cc
stop_within n (Some at) end place s e = let q : at ≡ place = cc in omega (arith, s.0)

pub within : (bytes : List ℕ) (k : ParseKind) (place : ℕ) → IsRefused bytes k place → place ≤ length bytes
within bytes kind.TooLong place h = omega (arith, h.1)
within bytes kind.Bytes place h = omega (arith, h.1.short)
within bytes kind.Token place h = let c = cut_all bytes in stop_within (length bytes) (lexed bytes).1 c.end place c.stops h.1
within bytes kind.WideNumber place h = token_within bytes kind.WideNumber place h.1
within bytes kind.TooDeep place h = token_within bytes kind.TooDeep place h.1
within bytes kind.Form place h = token_within bytes kind.Form place h.1
