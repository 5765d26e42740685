-- The least depth of what was read as a fold over the frames.
use Rattle.std.proofs.Common.{ℕ, ◌≡◌, ◌≤◌, ◌+◌, max, Bool, true, false, ◌&&◌, not, List, [], ◌∷◌, None, nat_le, if◌then◌else◌, refl, sym, ap, ◌∙◌, arith}
use Rattle.std.proofs.lemmas.Bool.Decides.{nat_tests}
use Rattle.jd_grammar.specs.declared.token.Token.{Token}
use Rattle.jd_grammar.specs.declared.token.Kind.TheVariants.{Comma, CloseParen, CloseBracket}
use Rattle.jd_grammar.specs.Kinds.{is_minus}
use Rattle.jd_grammar.specs.Grammar.{Syntax, ending, bracket, matrix, Head, unary, binary, choice, lambda, spawn, keyword, Bracket, grouped, called, itemed, indexed, Items, none, more, just, is_row, is_full}
use Rattle.jd_grammar.specs.Rows.{begins_tight, is_plain, is_chain, is_long, first_of, cells_of, with_cell, count_cells, most_atoms}
use Rattle.jd_grammar.specs.Depth.{height}
use Rattle.jd_grammar.specs.Frames.{Hold, spawning, rows, Fixed, in_bracket, in_middle, in_group, in_generator, in_size, in_place, Frame, open_end, fixed}
use Rattle.jd_grammar.specs.Shortest.{token, zero_leaf, held, shut_row, shut_bracket, shut, wrap}
use Rattle.jd_grammar.specs.Profile.{Profile, row_height, profile, flat, row_profile, behind_head, first_element, in_brackets, in_hold, in_fixed, depth_in}
use Rattle.jd_grammar.proofs.RowFacts.{both, le_of, count_with}
use Rattle.jd_grammar.proofs.Under.{tight_flat, binary_row, called_row, binary_count, single_full, full_few, height_rows, height_with_cell, height_with_generator}

-- profiles of one shape that agree on their numbers where these count
row_same : (tall : ℕ) (tight chain long : Bool) (a b c d : ℕ) → (chain ≡ true → a ≡ b) → (chain ≡ true → c ≡ d) → row_profile tall tight chain long a c ≡ row_profile tall tight chain long b d
row_same tall tight true long a b c d h k = ap (λ x. row_profile tall tight true long x c) (h refl) ∙ ap (λ x. row_profile tall tight true long b x) (k refl)
row_same tall tight false long a b c d h k = refl

-- where it is a row, its numbers are the profile's
row_of : (e : Syntax) → is_chain e ≡ true → row_height e ≡ (if is_chain e then row_height e else 0)
row_of e h = ap (λ b. if b then row_height e else 0) (sym h)

count_of : (e : Syntax) → is_chain e ≡ true → count_cells (cells_of e) ≡ (if is_chain e then count_cells (cells_of e) else 0)
count_of e h = ap (λ b. if b then count_cells (cells_of e) else 0) (sym h)

behind_unary : (t : Token) (e : Syntax) → profile (ending (unary t) e) ≡ behind_head (unary t) (profile e)
behind_unary t e = row_same (1 + max 0 (height e)) false (is_minus t.kind && (begins_tight e && is_chain e)) (is_long e)
    (row_height (ending (unary t) e)) (max 1 (profile e).row) (count_cells (cells_of e)) (profile e).count
    (λ h. let a = both (is_minus t.kind) (begins_tight e && is_chain e) h in let b = both (begins_tight e) (is_chain e) a.1 in omega (arith, tight_flat e b.0, row_of e b.1))
    (λ h. let a = both (is_minus t.kind) (begins_tight e && is_chain e) h in count_of e (both (begins_tight e) (is_chain e) a.1).1)

behind_binary : (l : Syntax) (t : Token) (e : Syntax) → profile (ending (binary l t) e) ≡ behind_head (binary l t) (profile e)
behind_binary l t e = row_same (1 + max (height l) (height e)) false ((is_minus t.kind && t.spaced) && ((begins_tight e && is_chain e) && is_chain l)) true
    (row_height (ending (binary l t) e)) (max (row_height l) (max 1 (profile e).row)) (count_cells (cells_of (ending (binary l t) e))) (count_cells (cells_of l) + 1 + (profile e).count)
    (λ h. let c = parts h in omega (arith, binary_row l t e, tight_flat e c.0, row_of e c.1))
    (λ h. let c = parts h in omega (arith, binary_count l t e, count_of e c.1))
  where
    parts : ((is_minus t.kind && t.spaced) && ((begins_tight e && is_chain e) && is_chain l)) ≡ true → (begins_tight e ≡ true) × (is_chain e ≡ true)
    parts h = both (begins_tight e) (is_chain e) (both (begins_tight e && is_chain e) (is_chain l) (both (is_minus t.kind && t.spaced) ((begins_tight e && is_chain e) && is_chain l) h).1).0

pub behind_head_is : (h : Head) (e : Syntax) → profile (ending h e) ≡ behind_head h (profile e)
behind_head_is (unary t) e = behind_unary t e
behind_head_is (binary l t) e = behind_binary l t e
behind_head_is (choice c q x t) e = refl
behind_head_is (lambda ns t) e = refl
behind_head_is (spawn t a) e = refl
behind_head_is (keyword n t) e = refl

-- ---- brackets

test_few : (a b : Bool) → (a ≡ true → b ≡ true) → (b ≡ true → a ≡ true) → a ≡ b
test_few true true f g = refl
test_few true false f g = sym (f refl)
test_few false true f g = g refl
test_few false false f g = refl

few_test : (n : ℕ) → n + 1 ≤ 262144 → nat_le (n + 1) most_atoms ≡ true
few_test n h = grind (arith, nat_tests)

full_is : (e : Syntax) → is_full (cells_of e) ≡ nat_le (count_cells (cells_of e) + 1) most_atoms
full_is e = test_few (is_full (cells_of e)) (nat_le (count_cells (cells_of e) + 1) most_atoms)
    (λ h. few_test (count_cells (cells_of e)) (full_few (cells_of e) h)) (λ h. single_full e (le_of (count_cells (cells_of e) + 1) most_atoms h))

-- the profile of a first element in brackets, with its tests
abbrev shut_profile : Bool → Bool → Syntax → ℕ → Profile
shut_profile row full e tall = flat (if row then (if full then 1 + row_height e else 1 + tall) else 1 + tall) true false false

first_shut : (o : Token) (e : Syntax) → profile (shut_bracket itemed o none e) ≡ shut_profile (is_row e) (is_full (cells_of e)) e (height e)
first_shut o e = elim (is_row e) as (λ x. profile (if not x then bracket itemed o none (just e) (token CloseBracket) else shut_row o e) ≡ shut_profile x (is_full (cells_of e)) e (height e)) [
  | true ↦ elim (is_full (cells_of e)) as (λ b. profile (if b then matrix o (first_of e) (cells_of e) (token CloseBracket) else bracket itemed o (more e (token Comma) none) (just zero_leaf) (token CloseBracket)) ≡ shut_profile true b e (height e)) [
    | true ↦ refl
    | false ↦ ap (λ h. flat h true false false) (omega arith)
  ]
  | false ↦ ap (λ h. flat h true false false) (omega arith)
]

first_is : (e : Syntax) → shut_profile (is_row e) (is_full (cells_of e)) e (height e) ≡ flat (first_element (profile e)) true false false
first_is e = elim (is_chain e) as (λ c. is_chain e ≡ c → shut_profile (c && is_long e) (is_full (cells_of e)) e (height e)
    ≡ flat (if c && is_long e then (if nat_le ((if c then count_cells (cells_of e) else 0) + 1) most_atoms then 1 + (if c then row_height e else 0) else 1 + height e) else 1 + height e) true false false) [
      | true ↦ λ h. ap (λ b. shut_profile (is_long e) b e (height e)) (full_is e)
      | false ↦ λ h. refl
    ] refl

pub bracket_is : (b : Bracket) (o : Token) (es : Items) (e : Syntax) → profile (shut_bracket b o es e) ≡ in_brackets b o.spaced es (profile e)
bracket_is (called f) o none e = row_same (1 + max (height f) (max 0 (height e))) (begins_tight f) ((o.spaced && is_plain e) && is_chain f) true
    (row_height (bracket (called f) o none (just e) (token CloseParen))) (max (row_height f) (1 + max 0 (height e))) (count_cells (cells_of (bracket (called f) o none (just e) (token CloseParen)))) (count_cells (cells_of f) + 1)
    (λ h. called_row f o none (just e) (token CloseParen)) (λ h. count_with (cells_of f) None (bracket grouped o none (just e) (token CloseParen)))
bracket_is (called f) o (more x c es) e = refl
bracket_is grouped o none e = ap (λ r. row_profile (1 + max 0 (max 0 (height e))) false true false r 0) (omega arith)
bracket_is grouped o (more x c es) e = refl
bracket_is itemed o none e = first_shut o e ∙ first_is e
bracket_is itemed o (more x c es) e = refl
bracket_is (indexed f) o es e = refl

held_is : (hold : Hold) (p : Token) (e : Syntax) → profile (held hold (bracket grouped p none (just e) (token CloseParen))) ≡ flat (in_hold hold (1 + height e)) true false false
held_is (spawning s) p e = ap (λ h. flat h true false false) (omega arith)
held_is (rows o x cells q) p e = ap (λ h. flat h true false false)
    (height_rows o x (with_cell cells q (bracket grouped p none (just e) (token CloseParen))) ∙ ap (λ h. 1 + max (height x) h) (height_with_cell cells q (bracket grouped p none (just e) (token CloseParen)) ∙ omega arith))

pub fixed_is : (f : Fixed) (e : Syntax) → profile (shut f e) ≡ in_fixed f (profile e)
fixed_is (in_bracket b o es) e = bracket_is b o es e
fixed_is (in_middle c q) e = refl
fixed_is (in_group hold p) e = held_is hold p e
fixed_is (in_generator o x gens t n i) e = ap (λ h. flat (1 + max (height x) h) true false false) (height_with_generator gens t n i e)
fixed_is (in_size c type z o) e = refl
fixed_is (in_place c type z o size p comma) e = refl

-- the depth of the whole is the fold over the frames
pub wrap_depth : (fs : List Frame) (e : Syntax) → height (wrap fs e) ≡ depth_in fs (profile e)
wrap_depth [] e = refl
wrap_depth (open_end h ∷ fs) e = wrap_depth fs (ending h e) ∙ ap (depth_in fs) (behind_head_is h e)
wrap_depth (fixed f ∷ fs) e = wrap_depth fs (shut f e) ∙ ap (depth_in fs) (fixed_is f e)
