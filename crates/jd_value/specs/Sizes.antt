-- How large a value is, and how deep it nests. A value's parts are the elements of a list or tuple and the fault of an
-- exception; a fault's part is the one inside `Remote`.
use Rattle.std.specs.Prelude.{ℕ, ◌+◌, ◌/◌, max, List, [], ◌∷◌, length, sum}
use Rattle.jd_value.specs.declared.fault.Fault.{Fault, Fault-F, fold-Fault}
use Rattle.jd_value.specs.declared.fault.Fault.TheOpen as f
use Rattle.jd_value.specs.declared.value.Value.{Value, fold-Value}
use Rattle.jd_value.specs.declared.value.Value.TheOpen.{Value-F}
use Rattle.jd_value.specs.declared.value.Value.TheOpen as v

-- a word for every 8 bytes that are begun
abbrev pub text_words : List ℕ → ℕ
text_words text = (length text + 7) / 8

-- one level of a fault, with the words of its part in its place
abbrev pub fault_words_at : Fault-F ℕ → ℕ
fault_words_at (f.Error text) = 1 + text_words text
fault_words_at (f.Undef name) = 1 + text_words name
fault_words_at (f.Remote process part) = 1 + part
fault_words_at _ = 1

abbrev pub fault_words : Fault → ℕ
fault_words = fold-Fault ℕ fault_words_at

-- one level of a value, with the words of its parts in their places
abbrev pub words_at : Value-F ℕ → ℕ
words_at (v.Text text) = 1 + text_words text
words_at (v.List parts) = 1 + sum parts
words_at (v.Tuple parts) = 1 + sum parts
words_at (v.Grid array) = 1 + length array.cells
words_at (v.Exception fault) = 1 + fault_words fault
words_at _ = 1

-- 1 for the value, the words of its parts, 1 for each cell of a grid, and the words of its texts
abbrev pub words : Value → ℕ
words = fold-Value ℕ words_at

-- 0 where there is none
abbrev pub greatest : List ℕ → ℕ
greatest [] = 0
greatest (n ∷ ns) = max n (greatest ns)

abbrev pub fault_depth_at : Fault-F ℕ → ℕ
fault_depth_at (f.Remote process part) = 1 + part
fault_depth_at _ = 1

abbrev pub fault_depth : Fault → ℕ
fault_depth = fold-Fault ℕ fault_depth_at

-- one level of a value, with the depths of its parts in their places
abbrev pub depth_at : Value-F ℕ → ℕ
depth_at (v.List parts) = 1 + greatest parts
depth_at (v.Tuple parts) = 1 + greatest parts
depth_at (v.Exception fault) = 1 + fault_depth fault
depth_at _ = 1

-- 1 for a value without parts, else 1 more than the greatest depth of its parts
abbrev pub depth : Value → ℕ
depth = fold-Value ℕ depth_at
