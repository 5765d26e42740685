-- The profiles of what is ended as soon as it may be.
use Rattle.std.proofs.Common.{ℕ, ◌≡◌, ◌≤◌, ◌<◌, ◌+◌, max, min, Bool, true, false, ◌&&◌, not, List, ◌∷◌, drop, Some, None, nat_le, if◌then◌else◌, refl, sym, ap, ◌∙◌, arith}
use Rattle.std.proofs.lemmas.Bool.Decides.{nat_tests}
use Rattle.jd_grammar.specs.declared.token.Token.{Token}
use Rattle.jd_grammar.specs.declared.token.Kind.TheVariants.{Comma, CloseBracket}
use Rattle.jd_grammar.specs.Kinds.{is_argument}
use Rattle.jd_grammar.specs.Grammar.{Syntax, sign, bracket, matrix, unary, grouped, called, itemed, Items, none, more, just, Generators, is_row, is_full}
use Rattle.jd_grammar.specs.Rows.{begins_tight, is_chain, is_long, first_of, cells_of, with_cell, count_cells, most_atoms}
use Rattle.jd_grammar.specs.Depth.{height, height_items, height_generators}
use Rattle.jd_grammar.specs.Profile.{Profile, row_height, profile, flat, first_element}
use Rattle.jd_grammar.specs.Frames.{Hold, spawning, rows, in_bracket, Frame, open_end, fixed, operator, atoms, want, await}
use Rattle.jd_grammar.specs.Machine.{with_generator}
use Rattle.jd_grammar.specs.Shortest.{token, zero_leaf, held, shut_row, shut_bracket, wrap, Ready, want_ready, depth_of, sign_ready, zero_ready, words_ready, needs}
use Rattle.jd_grammar.proofs.RowFacts.{le_of}
use Rattle.jd_grammar.proofs.Under.{single_full, full_few, height_rows, height_with_cell, height_with_generator}
use Rattle.jd_precedence.specs.Parts.{are_none}
use Rattle.jd_precedence.specs.Depths.{wrapped, first_parts, held_parts, sign_argument, in_call, least_with}

-- ---- a first element

test_few : (a b : Bool) → (a ≡ true → b ≡ true) → (b ≡ true → a ≡ true) → a ≡ b
test_few true true f g = refl
test_few true false f g = sym (f refl)
test_few false true f g = g refl
test_few false false f g = refl

few_test : (n : ℕ) → n + 1 ≤ 262144 → nat_le (n + 1) most_atoms ≡ true
few_test n h = grind (arith, nat_tests)

full_is : (e : Syntax) → is_full (cells_of e) ≡ nat_le (count_cells (cells_of e) + 1) most_atoms
full_is e = test_few (is_full (cells_of e)) (nat_le (count_cells (cells_of e) + 1) most_atoms)
    (λ h. few_test (count_cells (cells_of e)) (full_few (cells_of e) h)) (λ h. single_full e (le_of (count_cells (cells_of e) + 1) most_atoms h))

abbrev shut_profile : Bool → Bool → Syntax → ℕ → Profile
shut_profile row full e tall = flat (if row then (if full then 1 + row_height e else 1 + tall) else 1 + tall) true false false

first_shut : (o : Token) (e : Syntax) → profile (shut_bracket itemed o none e) ≡ shut_profile (is_row e) (is_full (cells_of e)) e (height e)
first_shut o e = elim (is_row e) as (λ x. profile (if not x then bracket itemed o none (just e) (token CloseBracket) else shut_row o e) ≡ shut_profile x (is_full (cells_of e)) e (height e)) [
  | true ↦ elim (is_full (cells_of e)) as (λ b. profile (if b then matrix o (first_of e) (cells_of e) (token CloseBracket) else bracket itemed o (more e (token Comma) none) (just zero_leaf) (token CloseBracket)) ≡ shut_profile true b e (height e)) [
    | true ↦ refl
    | false ↦ ap (λ h. flat h true false false) (omega arith)
  ]
  | false ↦ ap (λ h. flat h true false false) (omega arith)
]

first_is : (e : Syntax) → shut_profile (is_row e) (is_full (cells_of e)) e (height e) ≡ flat (first_element (profile e)) true false false
first_is e = elim (is_chain e) as (λ c. is_chain e ≡ c → shut_profile (c && is_long e) (is_full (cells_of e)) e (height e)
    ≡ flat (if c && is_long e then (if nat_le ((if c then count_cells (cells_of e) else 0) + 1) most_atoms then 1 + (if c then row_height e else 0) else 1 + height e) else 1 + height e) true false false) [
      | true ↦ λ h. ap (λ b. shut_profile (is_long e) b e (height e)) (full_is e)
      | false ↦ λ h. refl
    ] refl

element_parts : (c l few : Bool) (row tall : ℕ) → (if c && l then (if few then 1 + row else 1 + tall) else 1 + tall) ≡ 1 + (if (c && l) && few then row else tall)
element_parts true true true row tall = refl
element_parts true true false row tall = refl
element_parts true false few row tall = refl
element_parts false l few row tall = refl

pub first_profile : (o : Token) (e : Syntax) → profile (shut_bracket itemed o none e) ≡ flat (1 + first_parts (profile e)) true false false
first_profile o e = first_shut o e ∙ first_is e
    ∙ ap (λ h. flat h true false false) (element_parts (profile e).chain (profile e).long (nat_le ((profile e).count + 1) most_atoms) (profile e).row (profile e).tall)

pub few_count : (n m : ℕ) → m ≡ min n 4294967295 → m < 262144 → nat_le (n + 1) 262144 ≡ true
few_count n m h k = let g : n + 1 ≤ 262144 = omega arith in grind (arith, nat_tests)

pub many_count : (n m : ℕ) → m ≡ min n 4294967295 → 262144 ≤ m → nat_le (n + 1) 262144 ≡ false
many_count n m h k = let g : 262144 < n + 1 = omega arith in grind (arith, nat_tests)

-- ---- lists, atoms and comprehensions

pub group_list : (o : Token) (es : Items) (e : Syntax) → are_none es ≡ false → profile (shut_bracket grouped o es e) ≡ flat (1 + max 0 (max (height_items es) (height e))) true false false
group_list o none e h = cc
group_list o (more x c es) e h = refl

pub item_list : (o : Token) (es : Items) (e : Syntax) → are_none es ≡ false → profile (shut_bracket itemed o es e) ≡ flat (1 + max 0 (max (height_items es) (height e))) true false false
item_list o none e h = cc
item_list o (more x c es) e h = refl

pub call_list : (f : Syntax) (o : Token) (es : Items) (e : Syntax) → are_none es ≡ false → profile (shut_bracket (called f) o es e) ≡ flat (1 + max (height f) (max (height_items es) (height e))) true (begins_tight f) true
call_list f o none e h = cc
call_list f o (more x c es) e h = refl

pub held_profile : (hold : Hold) (a : Syntax) → profile (held hold a) ≡ flat (1 + held_parts hold (height a)) true false false
held_profile (spawning s) a = refl
held_profile (rows o x cells q) a = ap (λ h. flat h true false false) (height_rows o x (with_cell cells q a) ∙ ap (λ h. 1 + max (height x) h) (height_with_cell cells q a))

pub atoms_profile : (hold : Hold) (fs : List Frame) → profile (words_ready (atoms hold) fs).operand ≡ flat (1 + held_parts hold 0) true false false
atoms_profile (spawning s) fs = refl
atoms_profile (rows o x cells None) fs = ap (λ h. flat h true false false) (height_rows o x cells ∙ omega arith)
atoms_profile (rows o x cells (Some t)) fs = held_profile (rows o x cells (Some t)) zero_leaf

pub generators_height : (gens : Generators) (t n i : Token) (e : Syntax) → height_generators (with_generator gens t n i e) ≡ max (height_generators gens) (height e)
generators_height gens t n i e = height_with_generator gens t n i e

-- ---- what was read last

pick_least : (a b : ℕ) (f g : Ready) → (c : Bool) → height (wrap f.frames f.operand) ≡ a → height (wrap g.frames g.operand) ≡ b → c ≡ nat_le a b → height (wrap (if c then f else g).frames (if c then f else g).operand) ≡ min a b
pick_least a b f g true h k l = h ∙ (let m : a ≤ b = le_of a b (sym l) in omega arith)
pick_least a b f g false h k l = k ∙ (let m : b < a = above a b (sym l) in omega arith)
  where
    above : (x y : ℕ) → nat_le x y ≡ false → y < x
    above x y p = grind (arith, nat_tests)

sign_least : (x : Bool) (s : Token) (fs : List Frame) (f g : Ready) → height (wrap f.frames f.operand) ≡ height (wrap fs (sign s)) →
    height (wrap (if x && nat_le (depth_of f) (depth_of g) then f else g).frames (if x && nat_le (depth_of f) (depth_of g) then f else g).operand) ≡ least_with (if x then Some s else None) fs (height (wrap g.frames g.operand))
sign_least true s fs f g h = pick_least (height (wrap fs (sign s))) (height (wrap g.frames g.operand)) f g (nat_le (depth_of f) (depth_of g)) h refl (ap (λ n. nat_le n (depth_of g)) h)
sign_least false s fs f g h = refl

pub want_depth : (fs : List Frame) → height (wrap (want_ready fs).frames (want_ready fs).operand) ≡ least_with (sign_argument fs) (drop 1 fs) (height (wrap fs zero_leaf))
want_depth (open_end (unary s) ∷ (fixed (in_bracket (called f) o es) ∷ fs)) =
    sign_least (is_argument s.kind) s (fixed (in_bracket (called f) o es) ∷ fs) (sign_ready f o es s fs) (zero_ready (open_end (unary s) ∷ (fixed (in_bracket (called f) o es) ∷ fs))) refl
want_depth fs = refl

pub operator_depth : (s : Token) (fs : List Frame) → height (wrap (words_ready (operator s) fs).frames (words_ready (operator s) fs).operand) ≡ (if in_call fs then height (wrap fs (sign s)) else height (wrap fs zero_leaf))
operator_depth s (fixed (in_bracket (called f) o es) ∷ fs) = refl
operator_depth s fs = refl

-- ---- the frames round an operand

-- one frame more round it
pub wrap_next : (f : Frame) (fs : List Frame) (e : Syntax) → wrap (f ∷ fs) e ≡ wrap fs (wrapped f e)
wrap_next (open_end h) fs e = refl
wrap_next (fixed f) fs e = refl

-- the least depth where an operand is wanted
pub none_needs : (fs : List Frame) (n : ℕ) → None ≡ sign_argument fs → n ≡ min (height (wrap fs zero_leaf)) 255 → n ≡ min (needs (want fs)) 255
none_needs fs n h e = e ∙ ap (λ x. min x 255) (sym (want_depth fs ∙ ap (λ s. least_with s (drop 1 fs) (height (wrap fs zero_leaf))) (sym h)))

least_capped : (a b m n r : ℕ) → m ≡ min a 255 → n ≡ min b 255 → r ≡ min m n → r ≡ min (min a b) 255
least_capped a b m n r h k l = omega arith

pub some_needs : (fs : List Frame) (s : Token) (m n r : ℕ) → Some s ≡ sign_argument fs → m ≡ min (height (wrap (drop 1 fs) (sign s))) 255 → n ≡ min (height (wrap fs zero_leaf)) 255 → r ≡ min m n → r ≡ min (needs (want fs)) 255
some_needs fs s m n r h hm hn hr = least_capped (height (wrap (drop 1 fs) (sign s))) (height (wrap fs zero_leaf)) m n r hm hn hr
    ∙ ap (λ x. min x 255) (sym (want_depth fs ∙ ap (λ o. least_with o (drop 1 fs) (height (wrap fs zero_leaf))) (sym h)))

pub operator_needs : (s : Token) (fs : List Frame) (n : ℕ) → true ≡ in_call fs → n ≡ min (height (wrap fs (sign s))) 255 → n ≡ min (needs (await fs (operator s))) 255
operator_needs s fs n h e = e ∙ ap (λ x. min x 255) (sym (operator_depth s fs ∙ ap (λ b. if b then height (wrap fs (sign s)) else height (wrap fs zero_leaf)) (sym h)))
