-- Which tokens may become a script within the limit.
use Rattle.std.proofs.Common.{ℕ, ◌≡◌, ◌≤◌, ◌<◌, max, Bool, false, List, [], ◌∷◌, ◌++◌, Some, refl, sym, ap, subst, ◌∙◌, arith}
use Rattle.jd_grammar.specs.declared.token.Token.{Token}
use Rattle.jd_grammar.specs.Grammar.{Syntax}
use Rattle.jd_grammar.specs.Frames.{Frame, Now, wanted, got, pending, have}
use Rattle.jd_grammar.specs.Machine.{close}
use Rattle.jd_grammar.specs.Depth.{height}
use Rattle.jd_grammar.specs.Shortest.{wrap}
use Rattle.jd_grammar.specs.Script.{bare, returned, Block, block, Lines}
use Rattle.jd_grammar.specs.Reader.{Outer, Bottom, in_lead, in_header, Mode, at_expression, at_words, complete, Config, start, Whole, nothing_whole, a_place, a_header, with_expression, without_expression, whole_at, whole_of, and_then, run, finish_place, finish}
use Rattle.jd_grammar.specs.ScriptDepth.{depth_place, depth_lines, depth, limit, is_fresh, mode_needs, has_begun, round_needs, needs}
use Rattle.jd_grammar.specs.Promise.{SpellsWithin, IsPrefixWithin}
use Rattle.jd_grammar.proofs.Under.{close_wrap}
use Rattle.jd_grammar.proofs.ScriptFinish.{script, script_end}
use Rattle.jd_grammar.proofs.ScriptNesting.{over, over_below, NoLess, run_needs, finish_depth, script_depth}
use Rattle.jd_grammar.proofs.Theorems.{run_gives, sound, becomes, run_append, answered}

-- ---- what is whole is no deeper than what was read

abbrev NoMore : ℕ → Whole → Type 0
NoMore n (a_place p) = depth_place p ≤ n
NoMore n w = n ≤ n

with_exact : (n : ℕ) (b : Bottom) (r : List Frame × Syntax) → over b (height (wrap r.0 r.1)) ≤ n → NoMore n (with_expression b r)
with_exact n (in_lead l) ([], e) h = h
with_exact n (in_header x d) ([], e) h = omega arith
with_exact n (in_lead l) (_ ∷ fs, e) h = omega arith
with_exact n (in_header x d) (_ ∷ fs, e) h = omega arith

without_exact : (n : ℕ) (b : Bottom) (fs : List Frame) → NoMore n (without_expression b fs)
without_exact n (in_lead bare) [] = omega arith
without_exact n (in_lead (returned t)) [] = omega arith
without_exact n (in_lead bare) (_ ∷ fs) = omega arith
without_exact n (in_lead (returned t)) (_ ∷ fs) = omega arith
without_exact n _ fs = omega arith

got_begun : (fs : List Frame) (e : Syntax) → is_fresh fs (got e) ≡ false
got_begun [] e = refl
got_begun (f ∷ fs) e = refl

whole_exact : (b : Bottom) (fs : List Frame) (n : Now) → NoMore (mode_needs (at_expression b (record { frames = fs; now = n }))) (whole_at b fs n)
whole_exact b fs wanted = without_exact (mode_needs (at_expression b (record { frames = fs; now = wanted }))) b fs
whole_exact b fs (got e) = with_exact (mode_needs (at_expression b (have fs e))) b (close 0 fs e)
    (subst (λ h. over b h ≤ mode_needs (at_expression b (have fs e))) (sym (ap height (close_wrap 0 fs e))) (over_below b (have fs e) (got_begun fs e)))
whole_exact b fs (pending x) = omega arith

mode_no_more : (m : Mode) → NoMore (mode_needs m) (whole_of m)
mode_no_more (at_expression b s) = whole_exact b s.frames s.now
mode_no_more (at_words x) = omega arith
mode_no_more (complete s) = omega arith

finish_at : (os : List Outer) (ls : Lines) (b : Bool) (h : ℕ) (w : Whole) (s : Block) → NoMore h w → finish_place os ls w ≡ Some s → depth s ≤ round_needs os ls b h
finish_at [] ls b h (a_place p) s v e = let q : block ls p ≡ s = cc in subst (λ x. depth x ≤ max (depth_lines ls) h) q (omega (arith, v))
finish_at [] ls b h nothing_whole s v e = cc
finish_at [] ls b h (a_header x d c) s v e = cc
finish_at (o ∷ os) ls b h w s v e = cc

pub finish_exact : (c : Config) (s : Block) → finish c ≡ Some s → depth s ≤ needs c
finish_exact c s h = finish_at c.context.outer c.context.lines (has_begun c.mode) (mode_needs c.mode) (whole_of c.mode) s (mode_no_more c.mode) h

-- ---- the theorems

pub sound_within : (ts : List Token) (c : Config) (s : Block) → run ts start ≡ Some c → needs c ≤ limit → finish c ≡ Some s → SpellsWithin ts s
sound_within ts c s h n f = (sound ts c s h f, omega (arith, n, finish_exact c s f))

pub viable_within : (ts : List Token) (c : Config) → run ts start ≡ Some c → needs c ≤ limit → IsPrefixWithin ts
viable_within ts c h n = (script_end c, script c, (becomes ts c h, omega (arith, n, script_depth c (run_gives ts c h).config)))

pub too_deep : (ts : List Token) (c : Config) → run ts start ≡ Some c → limit < needs c → IsPrefixWithin ts → ⊥
too_deep ts c h n p =
    let a = answered (ts ++ p.0) p.1 p.2.0 in
    let r = run_gives ts c h in
    let e : run p.0 c ≡ Some a.0 = sym (run_append ts p.0 start ∙ ap (λ x. and_then x (run p.0)) h) ∙ a.1 in
    let u : NoLess (needs c) (Some a.0) = subst (NoLess (needs c)) e (run_needs p.0 c r.config) in
    let v = finish_depth a.0 p.1 a.2 in
    let q : depth p.1 ≤ limit = p.2.1 in
    omega arith

-- a script within the limit is read within it
pub answered_within : (ts : List Token) (s : Block) → SpellsWithin ts s → (d : Config) × (run ts start ≡ Some d) × (finish d ≡ Some s) × (needs d ≤ limit)
answered_within ts s w =
    let a = answered ts s w.0 in
    (a.0, a.1, a.2, omega (arith, w.1, finish_depth a.0 s a.2))
