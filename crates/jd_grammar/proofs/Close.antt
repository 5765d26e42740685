-- Ending what binds tightly enough keeps the tokens and the order of a state.
use Rattle.std.proofs.Common.{ℕ, ◌≡◌, ◌≤◌, ◌<◌, Bool, true, false, IsTrue, List, [], ◌∷◌, nat_le, if◌then◌else◌, refl, arith}
use Rattle.std.proofs.lemmas.Bool.Decides.{nat_tests}
use Rattle.jd_grammar.specs.declared.token.Token.{Token}
use Rattle.jd_grammar.specs.declared.token.Kind.{Kind}
use Rattle.jd_grammar.specs.declared.token.Kind.TheVariants.{OrElse, AndAlso, Colon, Plus, Star}
use Rattle.jd_grammar.specs.Kinds.{strength}
use Rattle.jd_grammar.specs.Grammar.{Syntax, leaf, sign, ending, bracket, matrix, comprehension, remote, Head, unary, binary, choice, lambda, spawn, keyword, grouped, called, itemed, indexed, put, asks, level, is_negation, touches, IsAt}
use Rattle.jd_grammar.specs.Frames.{Fixed, in_bracket, Frame, open_end, fixed, have, demand, demand_of, ranges, negated}
use Rattle.jd_grammar.specs.Machine.{close}
use Rattle.jd_grammar.proofs.Invariant.{put_frames, AreFrames, IsState}

pub le_of : (p s : ℕ) → nat_le p s ≡ true → p ≤ s
le_of p s h = grind (arith, nat_tests)

pub test_le : (p s : ℕ) → p ≤ s → nat_le p s ≡ true
test_le p s h = grind (arith, nat_tests)

pub test_gt : (p s : ℕ) → s < p → nat_le p s ≡ false
test_gt p s h = grind (arith, nat_tests)

pub strength_le : (k : Kind) → strength k ≤ 8
strength_le OrElse = omega arith
strength_le AndAlso = omega arith
strength_le Colon = omega arith
strength_le Plus = omega arith
strength_le Star = omega arith
strength_le _ = omega arith

-- an operand binds at least as tightly as the construct
pub level_asks : (h : Head) → level h ≤ asks h
level_asks (unary t) = omega arith
level_asks (binary l t) = omega arith
level_asks (choice c q x t) = omega arith
level_asks (lambda ns t) = omega arith
level_asks (spawn t a) = omega arith
level_asks (keyword n t) = omega arith

pub asks_le : (h : Head) → asks h ≤ 9
asks_le (unary t) = omega arith
asks_le (binary l t) = omega (arith, strength_le t.kind)
asks_le (choice c q x t) = omega arith
asks_le (lambda ns t) = omega arith
asks_le (spawn t a) = omega arith
asks_le (keyword n t) = omega arith

demand_of_le : (f : Fixed) → demand_of f ≤ 3
demand_of_le (in_bracket (called f) o es) = omega arith
demand_of_le (in_bracket grouped o es) = omega arith
demand_of_le (in_bracket itemed o es) = omega arith
demand_of_le (in_bracket (indexed f) o es) = omega arith
demand_of_le _ = omega arith

pub demand_le : (fs : List Frame) → demand fs ≤ 9
demand_le [] = omega arith
demand_le (open_end h ∷ fs) = asks_le h
demand_le (fixed f ∷ fs) = omega (arith, demand_of_le f)

pub weaken : (r g : Bool) (m n : ℕ) (e : Syntax) → n ≤ m → IsAt r g m e → IsAt r g n e
weaken r g m n (leaf t) h w = w
weaken r g m n (sign t) h w = (omega arith, w.1)
weaken r g m n (ending d e) h w = (omega arith, w.1, w.2)
weaken r g m n (bracket b o es last c) h w = w
weaken r g m n (matrix o a cells c) h w = w
weaken r g m n (comprehension o e gens c) h w = w
weaken r g m n (remote c type shut o size closes comma place last) h w = w

pub close_put : (p : ℕ) (fs : List Frame) (e : Syntax) (rest : List Token) → put_frames (close p fs e).0 (put (close p fs e).1 rest) ≡ put_frames fs (put e rest)
close_put p [] e rest = refl
close_put p (open_end h ∷ fs) e rest =
    elim (nat_le p (level h)) as (λ b. let r = if b then close p fs (ending h e) else (open_end h ∷ fs, e) in put_frames r.0 (put r.1 rest) ≡ put_frames fs (put (ending h e) rest))
    [ true ↦ close_put p fs (ending h e) rest | false ↦ refl ]
close_put p (fixed f ∷ fs) e rest = refl

-- what closing leaves
pub record IsClosed (p : ℕ) (fs : List Frame) (r : List Frame × Syntax) : Type 0 where
  pub level : ℕ
  pub frames : AreFrames r.0
  pub operand : IsAt (ranges r.0) (negated r.0) level r.1
  pub fits : demand r.0 ≤ level
  pub bound : p ≤ level
  pub same : ranges r.0 ≡ ranges fs

close_ok : (p m : ℕ) (fs : List Frame) (e : Syntax) → p ≤ m → IsAt (ranges fs) (negated fs) m e → demand fs ≤ m → AreFrames fs → IsClosed p fs (close p fs e)
close_ok p m [] e pm w d fw = record { level = m; frames = fw; operand = w; fits = d; bound = pm; same = refl }
close_ok p m (open_end h ∷ fs) e pm w d fw =
    elim (nat_le p (level h)) as (λ b. nat_le p (level h) ≡ b → IsClosed p (open_end h ∷ fs) (if b then close p fs (ending h e) else (open_end h ∷ fs, e))) [
      | true ↦ λ k. (let c = close_ok p (level h) fs (ending h e) (le_of p (level h) k) (omega arith, fw.0, weaken (ranges fs) (is_negation h) m (asks h) e d w) fw.1 fw.2 in
          record { level = c.level; frames = c.frames; operand = c.operand; fits = c.fits; bound = c.bound; same = c.same })
      | false ↦ λ k. record { level = m; frames = fw; operand = w; fits = d; bound = pm; same = refl }
    ] refl
close_ok p m (fixed f ∷ fs) e pm w d fw = record { level = m; frames = fw; operand = w; fits = d; bound = pm; same = refl }

pub closed : (p : ℕ) (fs : List Frame) (e : Syntax) → p ≤ 9 → IsState (have fs e) → IsClosed p fs (close p fs e)
closed p fs e h w = close_ok p 10 fs e (omega arith) w.now (omega (arith, demand_le fs)) w.frames

-- only an operator as an argument has to touch what follows it
pub touches_of : (r g : Bool) (n : ℕ) (e : Syntax) (t : Token) → IsAt r g n e → 1 ≤ n → IsTrue (touches e t)
touches_of r g n (leaf u) t w h = refl
touches_of r g n (sign u) t w h = absurd (omega (arith, w.0, h))
touches_of r g n (ending d e) t w h = refl
touches_of r g n (bracket b o es last c) t w h = refl
touches_of r g n (matrix o a cells c) t w h = refl
touches_of r g n (comprehension o e gens c) t w h = refl
touches_of r g n (remote c type shut o size closes comma place last) t w h = refl
