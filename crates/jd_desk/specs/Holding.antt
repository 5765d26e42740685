-- What a seat holds, beside a list: its entries with their places, and the lists that it saw.
use Rattle.std.specs.Prelude.{◌≡◌, ℕ, ◌+◌, ◌<◌, ◌==◌, List, [], ◌∷◌, ◌++◌, length, All, count_by, Some, slice_get, map, Bool, false}
use Rattle.std.specs.List.{enumerate_from}
use Rattle.std.specs.List.Sorted.{IsStrictlyIncreasing}
use Rattle.atomic_table.specs.Seated.{TableId}
use Rattle.jd_desk.specs.declared.seat.Holding.{Holding}

-- the name of no table
abbrev pub no_table : TableId
no_table = record { words = 0; slots = 0; views_name = 0; atom = 0; block = 0; offset = 0; slot_names = [] }

-- a desk that has no name yet: the value at it, and the table that it will be named for
pub record Unnamed (T : Type 0) : Type 0 where
  pub value : T
  pub table : TableId

module _ {E : Type 0} where
  -- so many shares, no entry, and no list seen
  abbrev pub only_shares : ℕ → Holding E
  only_shares n = record { shares = n; entries = []; seen = [] }

  -- the shares, the entries and the lists seen of both
  abbrev pub both_held : Holding E → Holding E → Holding E
  both_held a b = record { shares = a.shares + b.shares; entries = a.entries ++ b.entries; seen = a.seen ++ b.seen }

  -- the list begins with xs
  abbrev pub IsPrefix : List E → List E → Type 0
  IsPrefix xs list = (rest : List E) × (list ≡ xs ++ rest)

  -- the entry is in the list, at its place
  abbrev pub IsAtPlace : List E → ℕ × E → Type 0
  IsAtPlace list entry = slice_get list entry.0 ≡ Some entry.1

  -- each of the entries is
  abbrev pub AreAtPlaces : List E → List (ℕ × E) → Type 0
  AreAtPlaces list entries = All (IsAtPlace list) entries

  -- how many of the entries have this place
  abbrev pub count_at : ℕ → List (ℕ × E) → ℕ
  count_at place entries = count_by (λ e. e.0 == place) entries

  -- the entries are the whole list: each is at its place, and each place of the list is there once
  pub record IsWhole (list : List E) (entries : List (ℕ × E)) : Type 0 where
    pub placed : AreAtPlaces list entries
    pub once : (place : ℕ) → place < length list → count_at place entries ≡ 1

  -- what a seat holds is true of the list: its entries are there at their places, and the list begins with each list that it saw
  pub record FitsList (list : List E) (held : Holding E) : Type 0 where
    pub entries : AreAtPlaces list held.entries
    pub seen : All (λ xs. IsPrefix xs list) held.seen

  -- A turn found one list and left another. The seat gets exactly what was appended, each entry with its place,
  -- above all places that it had, and has seen the list that was left. Its shares stay.
  pub record TakesTurn (found left : List E) (old new : Holding E) : Type 0 where
    pub appended : List E
    pub grows : left ≡ found ++ appended
    pub fits : FitsList found old
    pub above : All (λ e. e.0 < length found) old.entries
    pub gets : new ≡ record { shares = old.shares; entries = old.entries ++ enumerate_from (length found) appended; seen = old.seen ++ left ∷ [] }

  -- each entry's place is above that of the one before it
  abbrev pub PlacesRise : List (ℕ × E) → Type 0
  PlacesRise entries = IsStrictlyIncreasing (map (λ e. e.0) entries)

  -- no entry is of this kind
  abbrev pub LacksKind : (E → Bool) → List (ℕ × E) → Type 0
  LacksKind kind entries = All (λ e. kind e.1 ≡ false) entries
