-- What the tokens are good for.
use Rattle.std.specs.Prelude.{ℕ, Bool, true, false, ◌&&◌, not, nat_eq, if◌then◌else◌}
use Rattle.jd_grammar.specs.declared.token.Word.{Word}
use Rattle.jd_grammar.specs.declared.token.Word.TheVariants as word
use Rattle.jd_grammar.specs.declared.token.Name as a-name
use Rattle.jd_grammar.specs.declared.token.Name.TheVariants as name
use Rattle.jd_grammar.specs.declared.token.Kind.{Kind}
use Rattle.jd_grammar.specs.declared.token.Kind.TheVariants.{Number, Wide, Text, Name, True, False, Nothing, SpawnAt, FetchFrom, Plus, Minus, Star, Divide, Percent, And, Or, Xor, Not, Complement, Equal, Unequal, Less, LessEqual, Greater, GreaterEqual, AndAlso, OrElse, Colon, Comma}

-- ---- operands

-- an operand of one token
abbrev pub is_leaf : Kind → Bool
is_leaf (Number n) = true
is_leaf (Text n) = true
is_leaf (Name n) = true
is_leaf True = true
is_leaf False = true
is_leaf Nothing = true
is_leaf _ = false

abbrev pub is_number : Kind → Bool
is_number (Number n) = true
is_number _ = false

abbrev pub is_name : Kind → Bool
is_name (Name n) = true
is_name _ = false

-- 2^63, with no blank before it
abbrev pub is_least : Kind → Bool → Bool
is_least (Wide b) spaced = b && not spaced
is_least _ spaced = false

-- a number that is no operand by itself
abbrev pub is_wide : Kind → Bool
is_wide (Wide b) = true
is_wide _ = false

-- ---- operators

abbrev pub is_unary : Kind → Bool
is_unary Plus = true
is_unary Minus = true
is_unary Not = true
is_unary Complement = true
is_unary _ = false

abbrev pub is_minus : Kind → Bool
is_minus Minus = true
is_minus _ = false

-- an operator that may stand as an argument
abbrev pub is_argument : Kind → Bool
is_argument Plus = true
is_argument Star = true
is_argument And = true
is_argument Or = true
is_argument Xor = true
is_argument _ = false

abbrev pub is_spawn : Kind → Bool
is_spawn SpawnAt = true
is_spawn FetchFrom = true
is_spawn _ = false

-- How tightly a binary operator binds, and 0 for any other token. The levels of expressions: 0 an argument, 1 any
-- expression, 2 a conditional, 3 `||`, 4 `&&`, 5 a comparison, 6 a range, 7 a sum, 8 a product, 9 a unary, 10 what
-- takes arguments.
abbrev pub strength : Kind → ℕ
strength OrElse = 3
strength AndAlso = 4
strength Equal = 5
strength Unequal = 5
strength Less = 5
strength LessEqual = 5
strength Greater = 5
strength GreaterEqual = 5
strength Colon = 6
strength Plus = 7
strength Minus = 7
strength Or = 7
strength Xor = 7
strength Star = 8
strength Divide = 8
strength Percent = 8
strength And = 8
strength _ = 0

-- how tightly its left operand binds: comparisons and ranges don't chain
abbrev pub left : Kind → ℕ
left OrElse = 3
left AndAlso = 4
left Colon = 7
left Plus = 7
left Minus = 7
left Or = 7
left Xor = 7
left Star = 8
left Divide = 8
left Percent = 8
left And = 8
left _ = 6

-- whether a binary operator may stand where ranges may, or may not, stand
abbrev pub stands : Kind → Bool → Bool
stands Colon ranges = ranges
stands _ ranges = true

abbrev pub is_comma : Kind → Bool
is_comma Comma = true
is_comma _ = false

-- ---- names

abbrev pub word_number : Word → ℕ
word_number word.Any = 0
word_number word.Channel = 1
word_number word.Distributed = 2
word_number word.DistributedArrays = 3
word_number word.Div = 4
word_number word.Finalize = 5
word_number word.Int = 6
word_number word.Max = 7
word_number word.Min = 8
word_number word.Mod = 9
word_number word.Println = 10
word_number word.Push = 11
word_number word.Rem = 12
word_number word.RemoteChannel = 13
word_number word.Typemax = 14
word_number word.Typemin = 15
word_number word.Xor = 16

abbrev pub same_name : a-name.Name → a-name.Name → Bool
same_name (name.Word a) (name.Word b) = nat_eq (word_number a) (word_number b)
same_name (name.Other a) (name.Other b) = nat_eq a b
same_name _ _ = false

-- whether it is this name
abbrev pub is_named : a-name.Name → Kind → Bool
is_named a (Name b) = same_name a b
is_named a _ = false

-- whether it is this word
abbrev pub is_word : Word → Kind → Bool
is_word w k = is_named (name.Word w) k

-- the type of a channel's elements
abbrev pub is_element_type : Kind → Bool
is_element_type k = if is_word word.Int k then true else is_word word.Any k
