-- Numbers in a row, cut into pieces that follow one another.
use Rattle.std.proofs.Common.{ℕ, zero, suc, ◌+◌, ◌*◌, ◌≡◌, ℤ, pos, ◌+ℤ◌, List, [], ◌∷◌, ◌++◌, length, get_or, map, refl, sym, ap, ◌∙◌, arith}
use Rattle.std.specs.List.{flat_map, range_with_len}
use Rattle.std.proofs.lemmas.Int.{ints}
use Rattle.std.proofs.lemmas.Grind.{flat_map-append}
use Rattle.std.proofs.lemmas.List.{append-nil, map-id, take_all}
use Rattle.jd_value.specs.Span.{Ends, span_length, span_items}
use Rattle.jd_array.specs.Cut.{piece_length, piece_start}
use Rattle.jd_array.proofs.Placed.{cells_in_row}
use Rattle.jd_layout.specs.Blocks.{piece_range}
use Rattle.jd_layout.proofs.Located.{range_length}

pub range_append : (a n m : ℕ) → range_with_len a (n + m) ≡ range_with_len a n ++ range_with_len (a + n) m
range_append a zero m = let e : zero + m ≡ m = omega arith in let z : a ≡ a + 0 = omega arith in
    ap (λ (k : ℕ). range_with_len a k) e ∙ ap (λ (s : ℕ). range_with_len s m) z
range_append a (suc n) m =
    let e : suc n + m ≡ suc (n + m) = omega arith in
    let s : a + 1 + n ≡ a + suc n = omega arith in
    ap (λ (k : ℕ). range_with_len a k) e ∙ ap (λ (xs : List ℕ). a ∷ xs) (range_append (a + 1) n m)
    ∙ ap (λ (k : ℕ). a ∷ (range_with_len (a + 1) n ++ range_with_len k m)) s

-- rows of one length, one after the other
pub rows_join : (k a n : ℕ) → flat_map (λ q. range_with_len (k * q) k) (range_with_len a n) ≡ range_with_len (k * a) (k * n)
rows_join k a zero = let none : k * 0 ≡ 0 = omega arith in ap (λ (m : ℕ). range_with_len (k * a) m) (sym none)
rows_join k a (suc n) =
    let next : k * (a + 1) ≡ k * a + k = omega arith in
    let more : k + k * n ≡ k * suc n = omega arith in
    ap (λ (xs : List ℕ). range_with_len (k * a) k ++ xs) (rows_join k (a + 1) n ∙ ap (λ (s : ℕ). range_with_len s (k * n)) next)
    ∙ sym (range_append (k * a) k (k * n)) ∙ ap (λ (m : ℕ). range_with_len (k * a) m) more

-- the pieces of a cut, one after the other
pub pieces_join : (size pieces n : ℕ) → flat_map (λ j. range_with_len (piece_start size pieces j) (piece_length size pieces j)) (range_with_len 0 n) ≡ range_with_len 0 (piece_start size pieces n)
pieces_join size pieces zero = refl
pieces_join size pieces (suc n) =
    let f : ℕ → List ℕ = λ j. range_with_len (piece_start size pieces j) (piece_length size pieces j) in
    let last : range_with_len 0 (suc n) ≡ range_with_len 0 n ++ n ∷ [] = let e : suc n ≡ n + 1 = omega arith in let z : 0 + n ≡ n = omega arith in
    ap (λ (m : ℕ). range_with_len 0 m) e ∙ range_append 0 n 1 ∙ ap (λ (m : ℕ). range_with_len 0 n ++ m ∷ []) z in
    let start : 0 + piece_start size pieces n ≡ piece_start size pieces n = omega arith in
    ap (λ (xs : List ℕ). flat_map f xs) last ∙ flat_map-append f (range_with_len 0 n) (n ∷ [])
    ∙ ap (λ (xs : List ℕ). xs ++ flat_map f (n ∷ [])) (pieces_join size pieces n)
    ∙ ap (λ (xs : List ℕ). range_with_len 0 (piece_start size pieces n) ++ xs) (append-nil (f n) ∙ ap (λ (s : ℕ). range_with_len s (piece_length size pieces n)) (sym start))
    ∙ sym (range_append 0 (piece_start size pieces n) (piece_length size pieces n))

pub moved : {X : Type 0} (g h : ℕ → X) (a b n : ℕ) → ((m : ℕ) → g (a + m) ≡ h (b + m)) → map g (range_with_len a n) ≡ map h (range_with_len b n)
moved g h a b zero same = refl
moved g h a b (suc n) same =
    let at_a : a ≡ a + 0 = omega arith in
    let at_b : b + 0 ≡ b = omega arith in
    let head = ap g at_a ∙ same 0 ∙ ap h at_b in
    let rest = moved g h (a + 1) (b + 1) n
    (λ m. let in_a : a + 1 + m ≡ a + (m + 1) = omega arith in let in_b : b + (m + 1) ≡ b + 1 + m = omega arith in ap g in_a ∙ same (m + 1) ∙ ap h in_b) in
    ap (λ x. x ∷ map g (range_with_len (a + 1) n)) head ∙ ap (λ xs. h b ∷ xs) rest

-- the indexes of a range are those of the numbers in a row
pub piece_items : (size pieces piece : ℕ) → span_items (piece_range size pieces piece) ≡ map (λ m. pos (m + 1)) (range_with_len (piece_start size pieces piece) (piece_length size pieces piece))
piece_items size pieces piece =
    ap (λ (n : ℕ). map (λ m. pos (piece_start size pieces piece + 1) +ℤ pos m) (range_with_len 0 n)) (range_length size pieces piece)
    ∙ moved (λ m. pos (piece_start size pieces piece + 1) +ℤ pos m) (λ m. pos (m + 1)) 0 (piece_start size pieces piece) (piece_length size pieces piece) (λ m. omega (arith, ints))

abbrev pub whole_range : ℕ → Ends
whole_range size = record { first = pos 1; last = pos size }

pub whole_items : (size : ℕ) → span_items (whole_range size) ≡ map (λ m. pos (m + 1)) (range_with_len 0 size)
whole_items size =
    let count : span_length (whole_range size) ≡ size = omega (arith, ints) in
    ap (λ (n : ℕ). map (λ m. pos 1 +ℤ pos m) (range_with_len 0 n)) count
    ∙ moved (λ m. pos 1 +ℤ pos m) (λ m. pos (m + 1)) 0 0 size (λ m. omega (arith, ints))

pub shifted : (a n : ℕ) → range_with_len a n ≡ map (λ m. a + m) (range_with_len 0 n)
shifted a n = sym (map-id (range_with_len a n)) ∙ moved (λ m. m) (λ m. a + m) a 0 n (λ m. omega arith)

pub cells_whole : (cells : List ℤ) → map (λ k. get_or cells k (pos 0)) (range_with_len 0 (length cells)) ≡ cells
cells_whole cells = cells_in_row cells 0 (length cells) (omega arith) ∙ take_all (length cells) cells (omega arith)
