-- What references to texts point to, and what is known of the texts that are names.
use Rattle.std.specs.Prelude.{ℕ, ◌≡◌, ◌+◌, List, [], ◌∷◌, Option, None, All, take, position, option_map, if◌then◌else◌}
use Rattle.std.specs.Str.{bytes_eq}
use Rattle.jd_lexer.specs.Lexical.{is_letter, name_len}
use Rattle.jd_lexer.specs.Words.{word_kind}
use denote.Ref.{Bor}

abbrev pub texts_of : List (Bor (List ℕ)) → List (List ℕ)
texts_of [] = []
texts_of (k ∷ ks) = k.now ∷ texts_of ks

-- none of the names is a word
abbrev pub AreNoWords : List (List ℕ) → Type 0
AreNoWords names = All (λ name. word_kind name ≡ None) names

-- how many bytes the name behind a letter has, where it is among the names
abbrev pub known_at : List (List ℕ) → ℕ → List ℕ → Option ℕ
known_at names a bs = if is_letter a then option_map (λ (n : ℕ). name_len bs) (position (bytes_eq (take (name_len bs + 1) (a ∷ bs))) names) else None
