-- Files in memory, as the pairs of their names and bytes.
use Rattle.std.specs.Prelude.{ℕ, Option, Some, None, List, [], ◌∷◌, string_bytes, slice_get, map, String}
use Rattle.std.specs.declared.alloc.Global.{Global}
use Rattle.jd_source.specs.declared.memory.MemFile.{MemFile}

abbrev pub file_pairs : List MemFile → List (List ℕ × List ℕ)
file_pairs [] = []
file_pairs (f ∷ fs) = (string_bytes f.name, f.bytes.items) ∷ file_pairs fs

-- The bytes of the file at a place, none past the end.
abbrev pub bytes_in : Option MemFile → List ℕ
bytes_in None = []
bytes_in (Some f) = f.bytes.items

abbrev pub bytes_at : List MemFile → ℕ → List ℕ
bytes_at files place = bytes_in (slice_get files place)

-- The bytes of the file that was begun, none before the first.
abbrev pub begun_bytes : List MemFile → Option ℕ → List ℕ
begun_bytes files None = []
begun_bytes files (Some place) = bytes_at files place

abbrev pub texts_of : List (String Global) → List (List ℕ)
texts_of names = map string_bytes names
