-- The depth of a script by its open blocks.
use Rattle.std.proofs.Common.{ℕ, ◌≡◌, ◌+◌, max, min, Bool, true, false, IsTrue, ◌↔◌, map, List, [], ◌∷◌, if◌then◌else◌, refl, sym, ap, ◌∙◌, arith}
use Rattle.jd_grammar.specs.Script.{Lines, no_lines, line, Place}
use Rattle.jd_grammar.specs.declared.token.Token.{Token}
use Rattle.jd_grammar.specs.Reader.{Outer}
use Rattle.jd_script.specs.declared.tree.Line.{Line}
use Rattle.jd_script.specs.PlainScript.{lines_from, plain_line}
use Rattle.jd_grammar.specs.ScriptDepth.{depth_lines, has_token, outer_needs, round_needs}
use Rattle.jd_reader.specs.Rounds.{round_at}

has_always : (ls : Lines) → has_token ls true ≡ true
has_always no_lines = refl
has_always (line ls m t) = refl

-- the grammar's measure by numbers alone
pub round_is : (os : List Outer) (ls : Lines) (b : Bool) (h : ℕ) → round_needs os ls b h ≡ round_at os (depth_lines ls) (has_token ls b) h
round_is [] ls b h = refl
round_is (o ∷ os) ls b h = round_is os o.lines true (outer_needs o (if has_token ls b then 1 + max (depth_lines ls) h else 0))
    ∙ ap (λ x. round_at os (depth_lines o.lines) x (outer_needs o (if has_token ls b then 1 + max (depth_lines ls) h else 0))) (has_always o.lines)

inner_capped : (b : Bool) (d e g h : ℕ) → min d 255 ≡ min e 255 → min g 255 ≡ min h 255 → min (if b then 1 + max d g else 0) 255 ≡ min (if b then 1 + max e h else 0) 255
inner_capped true d e g h p q = omega arith
inner_capped false d e g h p q = refl

outer_capped : (o : Outer) (g h : ℕ) → min g 255 ≡ min h 255 → min (outer_needs o g) 255 ≡ min (outer_needs o h) 255
outer_capped o g h p = omega arith

-- numbers that agree up to the bound give depths that do
pub round_capped : (os : List Outer) (d e : ℕ) (b : Bool) (g h : ℕ) → min d 255 ≡ min e 255 → min g 255 ≡ min h 255 → min (round_at os d b g) 255 ≡ min (round_at os e b h) 255
round_capped [] d e b g h p q = omega arith
round_capped (o ∷ os) d e b g h p q = round_capped os (depth_lines o.lines) (depth_lines o.lines) true (outer_needs o (if b then 1 + max d g else 0)) (outer_needs o (if b then 1 + max e h else 0)) refl
    (outer_capped o (if b then 1 + max d g else 0) (if b then 1 + max e h else 0) (inner_capped b d e g h p q))

same_cap : (a b : ℕ) → a ≡ min b 255 → min a 255 ≡ min b 255
same_cap a b h = omega arith

-- one statement more round them
pub round_step : (o : Outer) (os : List Outer) (d : ℕ) (b : Bool) (h i x e : ℕ) → i ≡ min (if b then 1 + max d h else 0) 255 → x ≡ min (outer_needs o i) 255 → e ≡ min (depth_lines o.lines) 255 →
    min (round_at os e true x) 255 ≡ min (round_at (o ∷ os) d b h) 255
round_step o os d b h i x e hi hx he = round_capped os e (depth_lines o.lines) true x (outer_needs o (if b then 1 + max d h else 0)) (same_cap e (depth_lines o.lines) he)
    (same_cap x (outer_needs o i) hx ∙ outer_capped o i (if b then 1 + max d h else 0) (same_cap i (if b then 1 + max d h else 0) hi))

-- ---- the whole script

pub script_is : (os : List Outer) (ls : Lines) (b : Bool) (h n : ℕ) (t : Bool) (g x : ℕ) → n ≡ min (depth_lines ls) 255 → t ≡ has_token ls b → g ≡ min h 255 → x ≡ min (round_at os n t g) 255 → x ≡ min (round_needs os ls b h) 255
script_is os ls b h n t g x hn ht hg hx = hx ∙ round_capped os n (depth_lines ls) t g h (same_cap n (depth_lines ls) hn) (same_cap g h hg)
    ∙ ap (λ y. min (round_at os (depth_lines ls) y h) 255) ht ∙ ap (λ y. min y 255) (sym (round_is os ls b h))

has_from : (ls : Lines) (m : Place) (t : Token) (xs : List (Place × Token)) (b : Bool) → has_token (lines_from (line ls m t) xs) b ≡ true
has_from ls m t [] b = refl
has_from ls m t (x ∷ xs) b = has_from (line ls m t) x.0 x.1 xs b

pub token_none : (xs : List Line) (e b : Bool) → (IsTrue e ↔ (xs ≡ [])) → e ≡ true → b ≡ has_token (lines_from no_lines (map plain_line xs)) b
token_none [] e b h k = refl
token_none (x ∷ xs) e b h k = let f = h.0 k in cc

pub token_some : (xs : List Line) (e b : Bool) → (IsTrue e ↔ (xs ≡ [])) → e ≡ false → true ≡ has_token (lines_from no_lines (map plain_line xs)) b
token_some [] e b h k = let f = h.1 refl in cc
token_some (x ∷ xs) e b h k = sym (has_from no_lines (plain_line x).0 (plain_line x).1 (map plain_line xs) b)
