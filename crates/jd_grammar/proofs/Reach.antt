-- The machine reads each expression of the grammar.
use Rattle.std.proofs.Common.{ℕ, ◌≡◌, ◌≤◌, ◌+◌, Bool, true, false, ◌&&◌, IsTrue, List, ◌∷◌, Some, None, nat_le, if◌then◌else◌, refl, sym, ap, subst, ◌∙◌, arith}
use Rattle.jd_grammar.specs.declared.token.Token.{Token}
use Rattle.jd_grammar.specs.declared.token.Word.{Word}
use Rattle.jd_grammar.specs.declared.token.Word.TheVariants as word
use Rattle.jd_grammar.specs.declared.token.Kind.{Kind}
use Rattle.jd_grammar.specs.declared.token.Kind.TheVariants.{Number, Wide, Name, Question, Colon, Comma, Arrow, Assign, For, In, OpenParen, OpenBracket, CloseBracket, OpenBrace, CloseBrace}
use Rattle.jd_grammar.specs.Kinds.{is_leaf, is_least, is_name, is_number, is_minus, left, stands, is_word, is_element_type}
use Rattle.jd_grammar.specs.Grammar.{Channel, Syntax, leaf, sign, ending, bracket, matrix, comprehension, remote, Head, unary, binary, choice, lambda, spawn, keyword, Bracket, grouped, called, itemed, indexed, Cells, no_cells, cell, row, Items, none, more, Maybe, nothing, just, Generators, no_more, generator, put, put_head, put_bracket, put_cells, put_items, put_maybe, put_generators, put_channel, closes, opens, item_level, is_shape, last_touches, is_tight, is_atom, are_many, is_full, count, asks, level, is_negation, IsAt, IsHead, IsBracket, AreCells, AreItems, IsAtMaybe, AreGenerators, IsChannel}
use Rattle.jd_grammar.specs.Rows.{is_chain, with_cell, joined, first_of, cells_of}
use Rattle.jd_grammar.specs.Frames.{Hold, spawning, rows, Fixed, in_bracket, in_middle, in_group, in_generator, in_size, in_place, Frame, open_end, fixed, atoms, generator_name, generator_in, element_type, type_end, size_begin, place_begin, State, want, have, await, demand, ranges, negated}
use Rattle.jd_grammar.specs.Machine.{close, with_item, with_generator, bracket_step, filled, group_step, at_binary, at_end, fixed_step, generator_step, generator_in_step, type_end_step, size_begin_step, size_step, place_begin_step, place_step}
use Rattle.jd_grammar.proofs.Close.{test_le, level_asks, asks_le, demand_le}
use Rattle.jd_grammar.proofs.PartSteps.{count_with_generator}
use Rattle.jd_grammar.proofs.Steps.{Follows, at_want, at_have, if_some, and_true, leaf_steps, unary_steps, spawn_steps, left_ge, left_le, strength_left, stays, binary_steps, question_steps, arrow_steps, keyword_steps, is_ender, ender_have, separator_ends, closer_ends, for_ends, comma_ends, item_steps, close_steps, empty_steps, sign_runs, leaf_atom, minus_atom, open_atom, minus_of}
use Rattle.jd_grammar.proofs.RowFacts.{prefix_begun, prefix_goes}
use Rattle.jd_grammar.proofs.RowSplit.{level_plain}
use Rattle.jd_grammar.proofs.RowSteps.{whole as shape_whole}
use Rattle.jd_grammar.proofs.RowSteps.{joined_none, joined_cell, joined_row, fits, spawn_fits, cell_fits, row_fits, next_row_runs, rows_end_runs, Shape, bare, behind_minus, difference, frames_of, last_of, with_call, call_chain, call_first, call_cells, call_runs, minus_chain, difference_chain, row_end_runs, second_runs, first_row_runs, minus_runs, number_runs}
use Rattle.jd_grammar.proofs.Absurd.{no}

-- After the tokens of e the machine has e, but for what a token of the next strength ends.
pub record IsReached (m : Follows) (n : ℕ) (fs : List Frame) (e : Syntax) (rest : List Token) : Type 0 where
  pub frames : List Frame
  pub operand : Syntax
  pub runs : m.run (put e rest) (want fs) ≡ m.run rest (have frames operand)
  pub closes : (p : ℕ) → p ≤ n → p ≤ 8 → close p frames operand ≡ close p fs e
  pub same : ranges frames ≡ ranges fs
  pub exact : 10 ≤ n → have frames operand ≡ have fs e

-- an operator as an argument is read otherwise
abbrev pub is_sign : Syntax → Bool
is_sign (sign t) = true
is_sign (leaf t) = false
is_sign (ending h e) = false
is_sign (bracket b o es last c) = false
is_sign (matrix o a cells c) = false
is_sign (comprehension o e gens c) = false
is_sign (remote c type shut o size closes comma place last) = false

pub no_sign : (r g : Bool) (n : ℕ) (e : Syntax) → IsAt r g n e → 1 ≤ n → is_sign e ≡ false
no_sign r g n (leaf t) w h = refl
no_sign r g n (sign t) w h = absurd (omega (arith, w.0, h))
no_sign r g n (ending d e) w h = refl
no_sign r g n (bracket b o es last c) w h = refl
no_sign r g n (matrix o a cells c) w h = refl
no_sign r g n (comprehension o e gens c) w h = refl
no_sign r g n (remote c type shut o size closes comma place last) w h = refl

asks_ge : (h : Head) → 1 ≤ asks h
asks_ge (unary t) = omega arith
asks_ge (binary l t) = omega arith
asks_ge (choice c q x t) = omega arith
asks_ge (lambda ns t) = omega arith
asks_ge (spawn t a) = omega arith
asks_ge (keyword n t) = omega arith

level_le : (h : Head) → level h ≤ 9
level_le h = omega (arith, level_asks h, asks_le h)

-- the next token ends what it ends behind the whole expression
pub ends : (m : Follows) (n : ℕ) (f : Fixed) (fs : List Frame) (e : Syntax) (t : Token) (rest : List Token) (d : State) → IsReached m n (fixed f ∷ fs) e (t ∷ rest)
    → is_ender t.kind ≡ true → fixed_step f t.kind t fs e ≡ Some d → m.run (put e (t ∷ rest)) (want (fixed f ∷ fs)) ≡ m.run rest d
ends m n f fs e t rest d r k s = r.runs ∙ m.goes t rest (have r.frames r.operand) d
    (ender_have t.kind t r.frames r.operand k ∙ ap (at_end t.kind t) (r.closes 0 (omega arith) (omega arith)) ∙ s)

-- ---- items

pub after : Items → Items → Items
after none es = es
after (more e t ds) es = more e t (after ds es)

after_none : (es : Items) → after es none ≡ es
unfolding after
after_none none = refl
after_none (more e t es) = ap (more e t) (after_none es)

after_more : (ds : Items) (e : Syntax) (t : Token) (es : Items) → after (with_item ds e t) es ≡ after ds (more e t es)
unfolding after
after_more none e t es = refl
after_more (more x c ds) e t es = ap (more x c) (after_more ds e t es)

none_after : (es : Items) → after none es ≡ es
unfolding after
none_after es = refl

pub chained : Generators → Generators → Generators
chained no_more gens = gens
chained (generator t n i e ds) gens = generator t n i e (chained ds gens)

chained_none : (gens : Generators) → chained gens no_more ≡ gens
unfolding chained
chained_none no_more = refl
chained_none (generator t n i e gens) = ap (generator t n i e) (chained_none gens)

chained_more : (ds : Generators) (t n i : Token) (e : Syntax) (gens : Generators) → chained (with_generator ds t n i e) gens ≡ chained ds (generator t n i e gens)
unfolding chained
chained_more no_more t n i e gens = refl
chained_more (generator s u j x ds) t n i e gens = ap (generator s u j x) (chained_more ds t n i e gens)

none_chained : (gens : Generators) → chained no_more gens ≡ gens
unfolding chained
none_chained gens = refl

count_chained : (ds gens : Generators) → count (chained ds gens) ≡ count ds + count gens
unfolding chained
count_chained no_more gens = omega arith
count_chained (generator t n i e ds) gens = omega (arith, count_chained ds gens)

number_name : (t : Token) → IsTrue (is_tight t) → IsTrue (if is_leaf t.kind then true else true && is_least t.kind t.spaced)
number_name t h = number t.kind t.spaced h
  where
    number : (k : Kind) (b : Bool) → (if b then false else (if is_number k then true else is_least k b)) ≡ true → IsTrue (if is_leaf k then true else is_least k b)
    number (Number n) b h = refl
    number (Wide g) false h = h
    number (Wide g) true h = no h
    number _ true h = no h
    number _ false h = no h

both : (a b : Bool) → (a && b) ≡ true → (a ≡ true) × (b ≡ true)
both true b h = (refl, h)
both false b h = no h

-- an item, and the token behind it
item_runs : (m : Follows) (e : Syntax) (b : Bracket) (o : Token) (es : Items) (fs : List Frame) → IsAt true false (item_level b) e → (t : Token) → is_ender t.kind ≡ true → (d : State)
    → bracket_step b o es t.kind t fs e ≡ Some d → (rest : List Token) → (is_sign e ≡ false → IsReached m (item_level b) (fixed (in_bracket b o es) ∷ fs) e (t ∷ rest))
    → m.run (put e (t ∷ rest)) (want (fixed (in_bracket b o es) ∷ fs)) ≡ m.run rest d
item_runs m (sign u) (called f) o es fs w t k d s rest r = sign_runs m u t f o es fs rest d w.1 k s
item_runs m (sign u) grouped o es fs w t k d s rest r = absurd (omega (arith, w.0))
item_runs m (sign u) itemed o es fs w t k d s rest r = absurd (omega (arith, w.0))
item_runs m (sign u) (indexed f) o es fs w t k d s rest r = absurd (omega (arith, w.0))
item_runs m (leaf u) b o es fs w t k d s rest r = ends m (item_level b) (in_bracket b o es) fs (leaf u) t rest d (r refl) k s
item_runs m (ending h e) b o es fs w t k d s rest r = ends m (item_level b) (in_bracket b o es) fs (ending h e) t rest d (r refl) k s
item_runs m (bracket x p xs l c) b o es fs w t k d s rest r = ends m (item_level b) (in_bracket b o es) fs (bracket x p xs l c) t rest d (r refl) k s
item_runs m (matrix p a cells c) b o es fs w t k d s rest r = ends m (item_level b) (in_bracket b o es) fs (matrix p a cells c) t rest d (r refl) k s
item_runs m (comprehension p e gens c) b o es fs w t k d s rest r = ends m (item_level b) (in_bracket b o es) fs (comprehension p e gens c) t rest d (r refl) k s
item_runs m (remote c a1 a2 a3 size a4 a5 place a6) b o es fs w t k d s rest r = ends m (item_level b) (in_bracket b o es) fs (remote c a1 a2 a3 size a4 a5 place a6) t rest d (r refl) k s

-- one generator, and the token behind it
generator_runs : (m : Follows) (o : Token) (e : Syntax) (ds : Generators) (t n i : Token) (x : Syntax) (fs : List Frame) (u : Token) (rest : List Token) (d : State) → IsTrue (is_name n.kind) → i.kind ≡ In
    → IsReached m 1 (fixed (in_generator o e ds t n i) ∷ fs) x (u ∷ rest) → is_ender u.kind ≡ true → generator_step o e ds t n i u.kind u fs x ≡ Some d
    → m.run (n ∷ i ∷ put x (u ∷ rest)) (await fs (generator_name o e ds t)) ≡ m.run rest d
generator_runs m o e ds t n i x fs u rest d a b r k s =
    m.goes n (i ∷ put x (u ∷ rest)) (await fs (generator_name o e ds t)) (await fs (generator_in o e ds t n)) (if_some (is_name n.kind) (await fs (generator_in o e ds t n)) a)
    ∙ m.goes i (put x (u ∷ rest)) (await fs (generator_in o e ds t n)) (want (fixed (in_generator o e ds t n i) ∷ fs)) (ap (λ k. generator_in_step o e ds t n k i fs) b)
    ∙ ends m 1 (in_generator o e ds t n i) fs x u rest d r k s

with_chained : (ds : Generators) (t n i : Token) (e : Syntax) → with_generator ds t n i e ≡ chained ds (generator t n i e no_more)
with_chained ds t n i e = sym (chained_none (with_generator ds t n i e)) ∙ chained_more ds t n i e no_more

-- the generators behind the first word of the first one
abbrev RunGenerators : Follows → Token → Syntax → Generators → Token → List Frame → Generators → List Token → Type 0
RunGenerators m o e ds c fs no_more rest = Unit {0}
RunGenerators m o e ds c fs (generator t n i x gens) rest = m.run (n ∷ i ∷ put x (put_generators gens (c ∷ rest))) (await fs (generator_name o e ds t)) ≡ m.run rest (have fs (comprehension o e (chained ds (generator t n i x gens)) c))

word_leaf : (w : Word) (k : Kind) → is_word w k ≡ true → is_leaf k ≡ true
word_leaf w (Name n) h = refl
word_leaf w _ h = no h

name_leaf : (k : Kind) → is_name k ≡ true → is_leaf k ≡ true
name_leaf (Name n) h = refl
name_leaf _ h = no h

leaf_runs : (m : Follows) (t : Token) (fs : List Frame) (rest : List Token) → is_leaf t.kind ≡ true → m.run (t ∷ rest) (want fs) ≡ m.run rest (have fs (leaf t))
leaf_runs m t fs rest k = m.goes t rest (want fs) (have fs (leaf t)) (leaf_steps t fs (ap (λ b. if b then true else negated fs && is_least t.kind t.spaced) k))

-- `RemoteChannel(() -> Channel{type}(`
channel_runs : (m : Follows) (c : Channel) (type shut o : Token) (fs : List Frame) (rest : List Token) → IsChannel c → IsTrue (is_element_type type.kind) → shut.kind ≡ CloseBrace → o.kind ≡ OpenParen
    → m.run (put_channel c (type ∷ shut ∷ o ∷ rest)) (want fs) ≡ m.run rest (want (fixed (in_size c type shut o) ∷ fs))
channel_runs m c type shut o fs rest w k s p =
    let more = type ∷ shut ∷ o ∷ rest in
    let gs = fixed (in_bracket (called (leaf c.callee)) c.opens none) ∷ fs in
    let ns = bracket grouped c.none_opens none nothing c.none_closes in
    leaf_runs m c.callee fs (c.opens ∷ c.none_opens ∷ c.none_closes ∷ c.arrow ∷ c.word ∷ c.brace ∷ type ∷ shut ∷ o ∷ rest) (word_leaf word.RemoteChannel c.callee.kind w.0)
    ∙ at_have m OpenParen c.opens fs (leaf c.callee) (c.none_opens ∷ c.none_closes ∷ c.arrow ∷ c.word ∷ c.brace ∷ type ∷ shut ∷ o ∷ rest) (want gs) w.1 refl
    ∙ at_want m OpenParen c.none_opens gs (c.none_closes ∷ c.arrow ∷ c.word ∷ c.brace ∷ type ∷ shut ∷ o ∷ rest) (want (fixed (in_bracket grouped c.none_opens none) ∷ gs)) w.2 refl
    ∙ m.goes c.none_closes (c.arrow ∷ c.word ∷ c.brace ∷ type ∷ shut ∷ o ∷ rest) (want (fixed (in_bracket grouped c.none_opens none) ∷ gs)) (have gs ns) (empty_steps grouped c.none_opens none c.none_closes gs w.3 refl)
    ∙ at_have m Arrow c.arrow gs ns (c.word ∷ c.brace ∷ type ∷ shut ∷ o ∷ rest) (want (open_end (lambda ns c.arrow) ∷ gs)) w.4 refl
    ∙ leaf_runs m c.word (open_end (lambda ns c.arrow) ∷ gs) (c.brace ∷ type ∷ shut ∷ o ∷ rest) (word_leaf word.Channel c.word.kind w.5)
    ∙ at_have m OpenBrace c.brace (open_end (lambda ns c.arrow) ∷ gs) (leaf c.word) (type ∷ shut ∷ o ∷ rest) (await fs (element_type c)) w.6
    (if_some (is_word word.RemoteChannel c.callee.kind && is_word word.Channel c.word.kind) (await fs (element_type c)) (and_true (is_word word.RemoteChannel c.callee.kind) (is_word word.Channel c.word.kind) w.0 w.5))
    ∙ m.goes type (shut ∷ o ∷ rest) (await fs (element_type c)) (await fs (type_end c type)) (if_some (is_element_type type.kind) (await fs (type_end c type)) k)
    ∙ m.goes shut (o ∷ rest) (await fs (type_end c type)) (await fs (size_begin c type shut)) (ap (λ k. type_end_step c type k shut fs) s)
    ∙ m.goes o rest (await fs (size_begin c type shut)) (want (fixed (in_size c type shut o) ∷ fs)) (ap (λ k. size_begin_step c type shut k o fs) p)

atom_chain : (t : Token) → is_atom (leaf t) ≡ true → is_chain (leaf t) ≡ true
atom_chain t h = at t.kind h
  where
    at : (k : Kind) → (if is_number k then true else is_name k) ≡ true → (if is_number k then true else (if is_name k then true else is_least k t.spaced)) ≡ true
    at (Number n) h = refl
    at (Name n) h = refl
    at _ h = no h

atom_many : (a : Syntax) (cells : Cells) → IsTrue (is_atom a) → IsTrue (are_many cells) → IsTrue (are_many (joined (cells_of a) cells))
atom_many (leaf t) cells i m = m
atom_many (ending (unary t) (leaf n)) cells i m = m
atom_many (bracket grouped o none (just e) c) cells i m = m
atom_many _ cells i m = no i

atom_cells : (a : Syntax) (cells : Cells) → IsTrue (is_atom a) → joined (cells_of a) cells ≡ cells
atom_cells (leaf t) cells i = refl
atom_cells (ending (unary t) (leaf n)) cells i = refl
atom_cells (bracket grouped o none (just e) c) cells i = refl
atom_cells _ cells i = no i

atom_matrix : (o : Token) (a : Syntax) (cells : Cells) (c : Token) → IsTrue (is_atom a) → matrix o (first_of a) (joined (cells_of a) cells) c ≡ matrix o a cells c
atom_matrix o (leaf t) cells c i = refl
atom_matrix o (ending (unary t) (leaf n)) cells c i = refl
atom_matrix o (bracket grouped p none (just e) z) cells c i = refl
atom_matrix o _ cells c i = no i

mutual
  pub reach : (m : Follows) (n : ℕ) (e : Syntax) (fs : List Frame) → IsAt (ranges fs) (negated fs) n e → is_sign e ≡ false → demand fs ≤ n → (rest : List Token) → IsReached m n fs e rest
  reach m n (leaf t) fs w g d rest = record { frames = fs; operand = leaf t; runs = m.goes t rest (want fs) (have fs (leaf t)) (leaf_steps t fs w); closes = λ p h k. refl; same = refl; exact = λ h. refl }
  reach m n (sign t) fs w g d rest = no (sym g)
  reach m n (ending h e) fs w g d rest =
      let r = reach m (asks h) e (open_end h ∷ fs) w.2 (no_sign (ranges fs) (is_negation h) (asks h) e w.2 (asks_ge h)) (omega arith) rest in
      record {
        frames = r.frames;
        operand = r.operand;
        runs = reach_head m h fs w.1 (omega (arith, w.0, d)) (put e rest) ∙ r.runs;
        closes = λ p l k. r.closes p (omega (arith, w.0, level_asks h)) k ∙ ap (λ b. if b then close p fs (ending h e) else (open_end h ∷ fs, e)) (test_le p (level h) (omega (arith, w.0)));
        same = r.same;
        exact = λ l. absurd (omega (arith, w.0, level_le h));
      }
  reach m n (bracket b o most last c) fs w g d rest = record {
    frames = fs;
    operand = bracket b o most last c;
    runs = reach_bracket m b o fs w.0 w.1 (put_items most (put_maybe last (c ∷ rest)))
        ∙ reach_items m most b o none fs w.2 (put_maybe last (c ∷ rest))
        ∙ ap (λ es. m.run (put_maybe last (c ∷ rest)) (want (fixed (in_bracket b o es) ∷ fs))) (none_after most)
        ∙ reach_last m last b o most c fs w.3 w.4 w.5 w.6 rest;
    closes = λ p h k. refl;
    same = refl;
    exact = λ h. refl;
  }
  reach m n (matrix o a cells c) fs w g d rest = record {
    frames = fs;
    operand = matrix o a cells c;
    runs = at_want m OpenBracket o fs (put a (put_cells cells (c ∷ rest))) (want (fixed (in_bracket itemed o none) ∷ fs)) w.0 refl
        ∙ reach_first m a fs o w.1 w.2 (put_cells cells (c ∷ rest)) (m.run rest (have fs (matrix o a cells c)))
        (λ s e q. reach_chain m cells s o c fs w.3 w.6 q
        (subst (λ y. IsTrue (are_many (joined (cells_of y) cells))) (sym e) (atom_many a cells w.2 w.4))
        (subst (λ y. is_full (joined (cells_of y) cells) ≡ true) (sym e) (ap is_full (atom_cells a cells w.2) ∙ w.5)) rest
        ∙ ap (λ y. m.run rest (have fs (matrix o (first_of y) (joined (cells_of y) cells) c))) e ∙ ap (λ y. m.run rest (have fs y)) (atom_matrix o a cells c w.2));
    closes = λ p h k. refl;
    same = refl;
    exact = λ h. refl;
  }
  reach m n (comprehension o e no_more c) fs w g d rest = absurd (omega (arith, w.3))
  reach m n (comprehension o e (generator t v i x gens) c) fs w g d rest =
      let r = reach m 1 e (fixed (in_bracket itemed o none) ∷ fs) w.1 (no_sign true false 1 e w.1 (omega arith)) (omega arith) (t ∷ v ∷ i ∷ put x (put_generators gens (c ∷ rest))) in
      record {
        frames = fs;
        operand = comprehension o e (generator t v i x gens) c;
        runs = at_want m OpenBracket o fs (put e (t ∷ v ∷ i ∷ put x (put_generators gens (c ∷ rest)))) (want (fixed (in_bracket itemed o none) ∷ fs)) w.0 refl
            ∙ ends m 1 (in_bracket itemed o none) fs e t (v ∷ i ∷ put x (put_generators gens (c ∷ rest))) (await fs (generator_name o e no_more t)) r (ap is_ender w.2.0 ∙ for_ends) (ap (λ k. bracket_step itemed o none k t fs e) w.2.0)
            ∙ reach_generators m (generator t v i x gens) For o e no_more c fs w.2 (omega (arith, w.4)) w.5 rest
            ∙ ap (λ gs. m.run rest (have fs (comprehension o e gs c))) (none_chained (generator t v i x gens));
        closes = λ p h k. refl;
        same = refl;
        exact = λ h. refl;
      }
  reach m n (remote c type shut o size z comma place last) fs w g d rest =
      let a = reach m 1 size (fixed (in_size c type shut o) ∷ fs) w.4 (no_sign true false 1 size w.4 (omega arith)) (omega arith) (z ∷ comma ∷ put place (last ∷ rest)) in
      let b = reach m 1 place (fixed (in_place c type shut o size z comma) ∷ fs) w.7 (no_sign true false 1 place w.7 (omega arith)) (omega arith) (last ∷ rest) in
      record {
        frames = fs;
        operand = remote c type shut o size z comma place last;
        runs = channel_runs m c type shut o fs (put size (z ∷ comma ∷ put place (last ∷ rest))) w.0 w.1 w.2 w.3
            ∙ ends m 1 (in_size c type shut o) fs size z (comma ∷ put place (last ∷ rest)) (await fs (place_begin c type shut o size z)) a (ap is_ender w.5 ∙ closer_ends grouped) (ap (λ k. size_step c type shut o k z fs size) w.5)
            ∙ m.goes comma (put place (last ∷ rest)) (await fs (place_begin c type shut o size z)) (want (fixed (in_place c type shut o size z comma) ∷ fs)) (ap (λ k. place_begin_step c type shut o size z k comma fs) w.6)
            ∙ ends m 1 (in_place c type shut o size z comma) fs place last rest (have fs (remote c type shut o size z comma place last)) b (ap is_ender w.8 ∙ closer_ends grouped) (ap (λ k. place_step c type shut o size z comma k last fs place) w.8);
        closes = λ p h k. refl;
        same = refl;
        exact = λ h. refl;
      }

  reach_head : (m : Follows) (h : Head) (fs : List Frame) → IsHead (ranges fs) (negated fs) h → demand fs ≤ level h → (rest : List Token)
      → m.run (put_head h rest) (want fs) ≡ m.run rest (want (open_end h ∷ fs))
  reach_head m (unary t) fs w d rest = m.goes t rest (want fs) (want (open_end (unary t) ∷ fs)) (unary_steps t fs w)
  reach_head m (binary l t) fs w d rest =
      let s = strength_left t.kind w.0 in
      let g = left_ge t.kind w.0 in
      let u = left_le t.kind in
      let a = reach m (left t.kind) l fs w.2 (no_sign (ranges fs) (negated fs) (left t.kind) l w.2 (omega arith)) (omega arith) (t ∷ rest) in
      a.runs ∙ m.goes t rest (have a.frames a.operand) (want (open_end (binary l t) ∷ fs))
      (binary_steps t a.frames fs a.operand l w.0 (ap (stands t.kind) a.same ∙ w.1) (a.closes (left t.kind) (omega arith) u ∙ stays (left t.kind) fs l g u (omega arith)) d)
  reach_head m (choice c q x t) fs w d rest =
      let a = reach m 3 c fs w.0 (no_sign (ranges fs) (negated fs) 3 c w.0 (omega arith)) (omega arith) (q ∷ put x (t ∷ rest)) in
      let b = reach m 3 x (fixed (in_middle c q) ∷ fs) w.2 (no_sign false false 3 x w.2 (omega arith)) (omega arith) (t ∷ rest) in
      a.runs ∙ at_have m Question q a.frames a.operand (put x (t ∷ rest)) (want (fixed (in_middle c q) ∷ fs)) w.1
      (question_steps q a.frames fs a.operand c (a.closes 3 (omega arith) (omega arith) ∙ stays 3 fs c (omega arith) (omega arith) (omega arith)) d)
      ∙ b.runs ∙ at_have m Colon t b.frames b.operand rest (want (open_end (choice c q x t) ∷ fs)) w.3
      (ap (λ y. if y then at_binary t (close 7 b.frames b.operand) else at_end Colon t (close 0 b.frames b.operand)) b.same
      ∙ ap (at_end Colon t) (b.closes 0 (omega arith) (omega arith)))
  reach_head m (lambda ns t) fs w d rest =
      let a = reach m 10 ns fs w.0 (no_sign (ranges fs) (negated fs) 10 ns w.0 (omega arith)) (omega (arith, demand_le fs)) (t ∷ rest) in
      a.runs ∙ ap (m.run (t ∷ rest)) (a.exact (omega arith)) ∙ at_have m Arrow t fs ns rest (want (open_end (lambda ns t) ∷ fs)) w.2 (arrow_steps t fs ns d w.1)
  reach_head m (spawn t a) fs w d rest =
      m.goes t (put a rest) (want fs) (await fs (atoms (spawning t))) (spawn_steps t fs w.0 d) ∙ reach_atom m a (spawning t) fs w.1 w.2 (spawn_fits t a w.2) rest
  reach_head m (keyword n t) fs w d rest =
      leaf_runs m n fs (t ∷ rest) (name_leaf n.kind w.0) ∙ at_have m Assign t fs (leaf n) rest (want (open_end (keyword n t) ∷ fs)) w.1 (keyword_steps n t fs d w.0)

  -- an atom, where one is wanted
  reach_atom : (m : Follows) (a : Syntax) (hold : Hold) (fs : List Frame) → IsAt true false 9 a → IsTrue (is_atom a) → fits hold a ≡ true → (rest : List Token)
      → m.run (put a rest) (await fs (atoms hold)) ≡ m.run rest (filled hold a fs)
  reach_atom m (leaf t) hold fs w i f rest = leaf_atom m hold t fs rest i f
  reach_atom m (ending (unary t) (leaf n)) hold fs w i f rest =
      let b = both (is_minus t.kind) (is_tight n) i in minus_atom m hold t n fs rest (minus_of t.kind b.0) b.1 f
  reach_atom m (bracket grouped o none (just e) c) hold fs w i f rest =
      let r = reach m 1 e (fixed (in_group hold o) ∷ fs) w.3 (no_sign true false 1 e w.3 (omega arith)) (omega arith) (c ∷ rest) in
      open_atom m hold o fs (put e (c ∷ rest)) w.1 f
      ∙ ends m 1 (in_group hold o) fs e c rest (filled hold (bracket grouped o none (just e) c) fs) r (ap is_ender w.4 ∙ closer_ends grouped) (ap (λ k. group_step hold o k c fs e) w.4)
  reach_atom m _ hold fs w i f rest = no i

  -- the first atom of a matrix is read as an expression
  reach_first : (m : Follows) (a : Syntax) (fs : List Frame) (o : Token) → IsAt true false 9 a → IsTrue (is_atom a) → (rest : List Token) (target : m.to)
      → ((s : Shape) → shape_whole s ≡ a → is_chain (shape_whole s) ≡ true → m.run rest (have (frames_of s (fixed (in_bracket itemed o none) ∷ fs)) (last_of s)) ≡ target)
      → m.run (put a rest) (want (fixed (in_bracket itemed o none) ∷ fs)) ≡ target
  reach_first m (leaf t) fs o w i rest target go =
      m.goes t rest (want (fixed (in_bracket itemed o none) ∷ fs)) (have (fixed (in_bracket itemed o none) ∷ fs) (leaf t)) (leaf_steps t (fixed (in_bracket itemed o none) ∷ fs) w)
      ∙ go (bare (leaf t)) refl (atom_chain t i)
  reach_first m (ending (unary t) (leaf n)) fs o w i rest target go =
      let b = both (is_minus t.kind) (is_tight n) i in
      m.goes t (n ∷ rest) (want (fixed (in_bracket itemed o none) ∷ fs)) (want (open_end (unary t) ∷ (fixed (in_bracket itemed o none) ∷ fs))) (unary_steps t (fixed (in_bracket itemed o none) ∷ fs) w.1)
      ∙ m.goes n rest (want (open_end (unary t) ∷ (fixed (in_bracket itemed o none) ∷ fs))) (have (open_end (unary t) ∷ (fixed (in_bracket itemed o none) ∷ fs)) (leaf n)) (leaf_steps n (open_end (unary t) ∷ (fixed (in_bracket itemed o none) ∷ fs)) w.2)
      ∙ go (behind_minus t (leaf n)) refl (minus_chain t n (minus_of t.kind b.0) b.1)
  reach_first m (bracket grouped p none (just y) z) fs o w i rest target go =
      let r = reach m 1 y (fixed (in_bracket grouped p none) ∷ (fixed (in_bracket itemed o none) ∷ fs)) w.3 (no_sign true false 1 y w.3 (omega arith)) (omega arith) (z ∷ rest) in
      at_want m OpenParen p (fixed (in_bracket itemed o none) ∷ fs) (put y (z ∷ rest)) (want (fixed (in_bracket grouped p none) ∷ (fixed (in_bracket itemed o none) ∷ fs))) w.1 refl
      ∙ ends m 1 (in_bracket grouped p none) (fixed (in_bracket itemed o none) ∷ fs) y z rest (have (fixed (in_bracket itemed o none) ∷ fs) (bracket grouped p none (just y) z)) r
      (ap is_ender w.4 ∙ closer_ends grouped) (close_steps grouped p none z (fixed (in_bracket itemed o none) ∷ fs) y w.4 refl w.6)
      ∙ go (bare (bracket grouped p none (just y) z)) refl refl
  reach_first m _ fs o w i rest target go = no i

  -- what the rest of a matrix makes of the atoms that were read as an expression
  reach_chain : (m : Follows) (cells : Cells) (s : Shape) (o c : Token) (fs : List Frame) → AreCells cells → c.kind ≡ CloseBracket → is_chain (shape_whole s) ≡ true
      → IsTrue (are_many (joined (cells_of (shape_whole s)) cells)) → is_full (joined (cells_of (shape_whole s)) cells) ≡ true → (rest : List Token)
      → m.run (put_cells cells (c ∷ rest)) (have (frames_of s (fixed (in_bracket itemed o none) ∷ fs)) (last_of s)) ≡ m.run rest (have fs (matrix o (first_of (shape_whole s)) (joined (cells_of (shape_whole s)) cells) c))
  reach_chain m no_cells s o c fs w k q y f rest =
      let j = joined_none (cells_of (shape_whole s)) in
      row_end_runs m s o c fs rest k q (subst (λ ds. IsTrue (are_many ds)) j y) (ap is_full (sym j) ∙ f)
      ∙ ap (λ ds. m.run rest (have fs (matrix o (first_of (shape_whole s)) ds c))) (sym j)
  reach_chain m (cell (leaf t) cells) s o c fs w k q y f rest =
      let e = shape_whole s in
      let j = joined_cell (cells_of (shape_whole s)) (leaf t) cells in
      let g : is_full (joined (with_cell (cells_of (shape_whole s)) None (leaf t)) cells) ≡ true = ap is_full j ∙ f in
      second_runs m s o t fs (put_cells cells (c ∷ rest)) w.1 q w.2 (prefix_begun (with_cell (cells_of (shape_whole s)) None (leaf t)) cells g)
      ∙ reach_cells m cells o (first_of (shape_whole s)) (with_cell (cells_of (shape_whole s)) None (leaf t)) c fs w.3 k g rest
      ∙ ap (λ ds. m.run rest (have fs (matrix o (first_of (shape_whole s)) ds c))) j
  reach_chain m (cell (ending (unary t) (leaf n)) cells) s o c fs w k q y f rest =
      let b = both (is_minus t.kind) (is_tight n) w.1 in
      let a = ending (unary t) (leaf n) in
      let ds = with_cell (cells_of (shape_whole s)) None (ending (unary t) (leaf n)) in
      let i : joined (cells_of (ending (binary (shape_whole s) t) (leaf n))) cells ≡ joined (cells_of (shape_whole s)) (cell (ending (unary t) (leaf n)) cells) =
      ap (λ ds. joined ds cells) (joined_none (with_cell (cells_of (shape_whole s)) None (ending (unary t) (leaf n)))) ∙ joined_cell (cells_of (shape_whole s)) (ending (unary t) (leaf n)) cells in
      let j = joined_cell (cells_of (shape_whole s)) (ending (unary t) (leaf n)) cells in
      let g : is_full (joined (with_cell (cells_of (shape_whole s)) None (ending (unary t) (leaf n))) cells) ≡ true = ap is_full j ∙ f in
      minus_runs m s o t fs (n ∷ put_cells cells (c ∷ rest)) (minus_of t.kind b.0) q
      ∙ number_runs m (shape_whole s) o t n fs (put_cells cells (c ∷ rest)) (m.run rest (have fs (matrix o (first_of (shape_whole s)) (joined (cells_of (shape_whole s)) (cell (ending (unary t) (leaf n)) cells)) c)))
      (minus_of t.kind b.0) w.2 q b.1 (prefix_begun (with_cell (cells_of (shape_whole s)) None (ending (unary t) (leaf n))) cells g)
      (reach_chain m cells (difference (shape_whole s) t (leaf n)) o c fs w.3 k (difference_chain (shape_whole s) t n q (minus_of t.kind b.0) w.2 b.1)
      (subst (λ ds. IsTrue (are_many ds)) (sym i) y) (ap is_full i ∙ f) rest
      ∙ ap (λ ds. m.run rest (have fs (matrix o (first_of (shape_whole s)) ds c))) i)
      (reach_cells m cells o (first_of (shape_whole s)) (with_cell (cells_of (shape_whole s)) None (ending (unary t) (leaf n))) c fs w.3 k g rest
      ∙ ap (λ ds. m.run rest (have fs (matrix o (first_of (shape_whole s)) ds c))) j)
  reach_chain m (cell (bracket grouped p none (just x) z) cells) s o c fs w k q y f rest =
      let gs = fixed (in_bracket itemed o none) ∷ fs in
      let a = reach m 1 x (fixed (in_bracket (called (last_of s)) p none) ∷ frames_of s (fixed (in_bracket itemed o none) ∷ fs)) w.0.3 (no_sign true false 1 x w.0.3 (omega arith)) (omega arith) (z ∷ put_cells cells (c ∷ rest)) in
      let j : joined (cells_of (shape_whole (with_call s p x z))) cells ≡ joined (cells_of (shape_whole s)) (cell (bracket grouped p none (just x) z) cells) =
      ap (λ ds. joined ds cells) (call_cells s p x z) ∙ joined_cell (cells_of (shape_whole s)) (bracket grouped p none (just x) z) cells in
      at_have m OpenParen p (frames_of s (fixed (in_bracket itemed o none) ∷ fs)) (last_of s) (put x (z ∷ put_cells cells (c ∷ rest))) (want (fixed (in_bracket (called (last_of s)) p none) ∷ frames_of s (fixed (in_bracket itemed o none) ∷ fs))) w.0.1 refl
      ∙ ends m 1 (in_bracket (called (last_of s)) p none) (frames_of s (fixed (in_bracket itemed o none) ∷ fs)) x z (put_cells cells (c ∷ rest))
      (have (frames_of s (fixed (in_bracket itemed o none) ∷ fs)) (bracket (called (last_of s)) p none (just x) z)) a (ap is_ender w.0.4 ∙ closer_ends grouped)
      (close_steps (called (last_of s)) p none z (frames_of s (fixed (in_bracket itemed o none) ∷ fs)) x w.0.4 refl w.0.6)
      ∙ call_runs m s p x z (fixed (in_bracket itemed o none) ∷ fs) (put_cells cells (c ∷ rest))
      ∙ reach_chain m cells (with_call s p x z) o c fs w.3 k (call_chain s p x z q w.2 (level_plain true false 1 x (omega arith) w.0.3)) (subst (λ ds. IsTrue (are_many ds)) (sym j) y) (ap is_full j ∙ f) rest
      ∙ ap (λ a. m.run rest (have fs (matrix o a (joined (cells_of (shape_whole (with_call s p x z))) cells) c))) (call_first s p x z)
      ∙ ap (λ ds. m.run rest (have fs (matrix o (first_of (shape_whole s)) ds c))) j
  reach_chain m (cell _ cells) s o c fs w k q y f rest = no w.1
  reach_chain m (row t x cells) s o c fs w k q y f rest =
      let j = joined_row (cells_of (shape_whole s)) t x cells in
      let g : is_full (joined (with_cell (cells_of (shape_whole s)) (Some t) x) cells) ≡ true = ap is_full j ∙ f in
      first_row_runs m s o t fs (put x (put_cells cells (c ∷ rest))) w.0 q (prefix_goes (cells_of (shape_whole s)) t x cells f)
      ∙ reach_atom m x (rows o (first_of (shape_whole s)) (cells_of (shape_whole s)) (Some t)) fs w.1 w.2
      (row_fits o (first_of (shape_whole s)) (cells_of (shape_whole s)) t x w.2 (prefix_begun (with_cell (cells_of (shape_whole s)) (Some t) x) cells g)) (put_cells cells (c ∷ rest))
      ∙ reach_cells m cells o (first_of (shape_whole s)) (with_cell (cells_of (shape_whole s)) (Some t) x) c fs w.3 k g rest
      ∙ ap (λ ds. m.run rest (have fs (matrix o (first_of (shape_whole s)) ds c))) j

  reach_cells : (m : Follows) (cells : Cells) (o : Token) (a : Syntax) (ds : Cells) (c : Token) (fs : List Frame) → AreCells cells → c.kind ≡ CloseBracket → is_full (joined ds cells) ≡ true → (rest : List Token)
      → m.run (put_cells cells (c ∷ rest)) (await fs (atoms (rows o a ds None))) ≡ m.run rest (have fs (matrix o a (joined ds cells) c))
  reach_cells m no_cells o a ds c fs w k f rest =
      let j = joined_none ds in
      rows_end_runs m o a ds c fs rest k (ap is_full (sym j) ∙ f) ∙ ap (λ es. m.run rest (have fs (matrix o a es c))) (sym j)
  reach_cells m (cell x cells) o a ds c fs w k f rest =
      let j = joined_cell ds x cells in
      let g : is_full (joined (with_cell ds None x) cells) ≡ true = ap is_full j ∙ f in
      reach_atom m x (rows o a ds None) fs w.0 w.1 (cell_fits o a ds x w.1 w.2 (prefix_begun (with_cell ds None x) cells g)) (put_cells cells (c ∷ rest))
      ∙ reach_cells m cells o a (with_cell ds None x) c fs w.3 k g rest
      ∙ ap (λ es. m.run rest (have fs (matrix o a es c))) j
  reach_cells m (row t x cells) o a ds c fs w k f rest =
      let j = joined_row ds t x cells in
      let g : is_full (joined (with_cell ds (Some t) x) cells) ≡ true = ap is_full j ∙ f in
      next_row_runs m o a ds t fs (put x (put_cells cells (c ∷ rest))) w.0 (prefix_goes ds t x cells f)
      ∙ reach_atom m x (rows o a ds (Some t)) fs w.1 w.2 (row_fits o a ds t x w.2 (prefix_begun (with_cell ds (Some t) x) cells g)) (put_cells cells (c ∷ rest))
      ∙ reach_cells m cells o a (with_cell ds (Some t) x) c fs w.3 k g rest
      ∙ ap (λ es. m.run rest (have fs (matrix o a es c))) j

  -- the beginning of a bracket
  reach_bracket : (m : Follows) (b : Bracket) (o : Token) (fs : List Frame) → IsBracket (ranges fs) (negated fs) b → o.kind ≡ opens b → (rest : List Token)
      → m.run (put_bracket b (o ∷ rest)) (want fs) ≡ m.run rest (want (fixed (in_bracket b o none) ∷ fs))
  reach_bracket m grouped o fs w k rest = at_want m OpenParen o fs rest (want (fixed (in_bracket grouped o none) ∷ fs)) k refl
  reach_bracket m itemed o fs w k rest = at_want m OpenBracket o fs rest (want (fixed (in_bracket itemed o none) ∷ fs)) k refl
  reach_bracket m (called f) o fs w k rest =
      let a = reach m 10 f fs w (no_sign (ranges fs) (negated fs) 10 f w (omega arith)) (omega (arith, demand_le fs)) (o ∷ rest) in
      a.runs ∙ ap (m.run (o ∷ rest)) (a.exact (omega arith)) ∙ at_have m OpenParen o fs f rest (want (fixed (in_bracket (called f) o none) ∷ fs)) k refl
  reach_bracket m (indexed f) o fs w k rest =
      let a = reach m 10 f fs w (no_sign (ranges fs) (negated fs) 10 f w (omega arith)) (omega (arith, demand_le fs)) (o ∷ rest) in
      a.runs ∙ ap (m.run (o ∷ rest)) (a.exact (omega arith)) ∙ at_have m OpenBracket o fs f rest (want (fixed (in_bracket (indexed f) o none) ∷ fs)) k refl

  reach_generators : (m : Follows) (gens : Generators) (k : Kind) (o : Token) (e : Syntax) (ds : Generators) (c : Token) (fs : List Frame) → AreGenerators k gens → count ds + count gens ≤ 3 → c.kind ≡ CloseBracket → (rest : List Token)
      → RunGenerators m o e ds c fs gens rest
  reach_generators m no_more k o e ds c fs w h z rest = tt
  reach_generators m (generator t n i x no_more) k o e ds c fs w h z rest =
      let r = reach m 1 x (fixed (in_generator o e ds t n i) ∷ fs) w.3 (no_sign true false 1 x w.3 (omega arith)) (omega arith) (c ∷ rest) in
      generator_runs m o e ds t n i x fs c rest (have fs (comprehension o e (with_generator ds t n i x) c)) w.1 w.2 r (ap is_ender z ∙ closer_ends itemed) (ap (λ k. generator_step o e ds t n i k c fs x) z)
      ∙ ap (λ gs. m.run rest (have fs (comprehension o e gs c))) (with_chained ds t n i x)
  reach_generators m (generator t n i x (generator u v j y gens)) k o e ds c fs w h z rest =
      let more = v ∷ j ∷ put y (put_generators gens (c ∷ rest)) in
      let r = reach m 1 x (fixed (in_generator o e ds t n i) ∷ fs) w.3 (no_sign true false 1 x w.3 (omega arith)) (omega arith) (u ∷ more) in
      generator_runs m o e ds t n i x fs u more (await fs (generator_name o e (with_generator ds t n i x) u)) w.1 w.2 r (ap is_ender w.4.0 ∙ comma_ends)
      (ap (λ k. generator_step o e ds t n i k u fs x) w.4.0 ∙ if_some (nat_le (count ds) 1) (await fs (generator_name o e (with_generator ds t n i x) u)) (test_le (count ds) 1 (omega arith)))
      ∙ reach_generators m (generator u v j y gens) Comma o e (with_generator ds t n i x) c fs w.4 (omega (arith, count_with_generator ds t n i x)) z rest
      ∙ ap (λ gs. m.run rest (have fs (comprehension o e gs c))) (chained_more ds t n i x (generator u v j y gens))

  reach_items : (m : Follows) (es : Items) (b : Bracket) (o : Token) (ds : Items) (fs : List Frame) → AreItems b es → (rest : List Token)
      → m.run (put_items es rest) (want (fixed (in_bracket b o ds) ∷ fs)) ≡ m.run rest (want (fixed (in_bracket b o (after ds es)) ∷ fs))
  reach_items m none b o ds fs w rest = ap (λ x. m.run rest (want (fixed (in_bracket b o x) ∷ fs))) (sym (after_none ds))
  reach_items m (more e t es) b o ds fs w rest =
      item_runs m e b o ds fs w.0 t (separator_ends b t.kind w.1) (want (fixed (in_bracket b o (with_item ds e t)) ∷ fs)) (item_steps b o ds t fs e w.1 w.2) (put_items es rest)
      (λ g. reach m (item_level b) e (fixed (in_bracket b o ds) ∷ fs) w.0 g (omega arith) (t ∷ put_items es rest))
      ∙ reach_items m es b o (with_item ds e t) fs w.3 rest
      ∙ ap (λ x. m.run rest (want (fixed (in_bracket b o x) ∷ fs))) (after_more ds e t es)

  reach_last : (m : Follows) (last : Maybe) (b : Bracket) (o : Token) (es : Items) (c : Token) (fs : List Frame) → IsAtMaybe (item_level b) last → c.kind ≡ closes b → IsTrue (is_shape b es last) → IsTrue (last_touches last c)
      → (rest : List Token) → m.run (put_maybe last (c ∷ rest)) (want (fixed (in_bracket b o es) ∷ fs)) ≡ m.run rest (have fs (bracket b o es last c))
  reach_last m nothing b o es c fs w k h g rest = m.goes c rest (want (fixed (in_bracket b o es) ∷ fs)) (have fs (bracket b o es nothing c)) (empty_steps b o es c fs k h)
  reach_last m (just e) b o es c fs w k h g rest =
      item_runs m e b o es fs w c (ap is_ender k ∙ closer_ends b) (have fs (bracket b o es (just e) c)) (close_steps b o es c fs e k h g) rest
      (λ g. reach m (item_level b) e (fixed (in_bracket b o es) ∷ fs) w g (omega arith) (c ∷ rest))
