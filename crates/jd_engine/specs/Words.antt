-- What the words after the program's name ask for.
use Rattle.std.specs.Prelude.{ℕ, ◌+◌, ◌-◌, ◌*◌, ◌==◌, nat_le, Bool, true, false, not, ◌&&◌, if◌then◌else◌, List, [], ◌∷◌, Option, Some, None, String, string_bytes, codes}
use Rattle.std.specs.Str.{bytes_eq}
use Rattle.std.specs.declared.alloc.Global.{Global}

abbrev pub is_digit : ℕ → Bool
is_digit c = nat_le 48 c && nat_le c 57

-- The number that these digits make behind n.
abbrev pub digits_from : ℕ → List ℕ → Option ℕ
digits_from n [] = Some n
digits_from n (c ∷ cs) = if is_digit c then digits_from (n * 10 + (c - 48)) cs else None

-- A number is one digit or more.
abbrev pub number_of : List ℕ → Option ℕ
number_of [] = None
number_of (c ∷ cs) = digits_from 0 (c ∷ cs)

abbrev pub at_most : ℕ → Option ℕ → Option ℕ
at_most most None = None
at_most most (Some n) = if nat_le n most then Some n else None

-- So many workers at most are built today.
abbrev pub max_workers : ℕ
max_workers = 1

-- A word that begins with `-` is an option and no file, but for `-` itself.
abbrev pub is_file : List ℕ → Bool
is_file (c ∷ d ∷ cs) = not (c == 45)
is_file _ = true

pub record Command : Type 0 where
  pub file : List ℕ
  pub workers : ℕ

abbrev pub with_workers : List ℕ → Option ℕ → Option Command
with_workers file None = None
with_workers file (Some n) = Some (record { file = file; workers = n })

abbrev pub simulated : List ℕ → Option ℕ → Option Command
simulated file workers = if is_file file then with_workers file workers else None

-- `sim FILE` runs without workers, `sim -p N FILE` with N of them. Other words ask for nothing.
abbrev pub command_of : List (String Global) → Option Command
command_of (command ∷ file ∷ []) = if bytes_eq (string_bytes command) (codes "sim") then simulated (string_bytes file) (Some 0) else None
command_of (command ∷ option ∷ number ∷ file ∷ []) =
    if bytes_eq (string_bytes command) (codes "sim") && bytes_eq (string_bytes option) (codes "-p")
    then simulated (string_bytes file) (at_most max_workers (number_of (string_bytes number))) else None
command_of _ = None
