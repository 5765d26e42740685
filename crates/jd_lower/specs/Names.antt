-- The texts of names.
use Rattle.std.specs.Prelude.{ℕ, Bool, false, List, [], Option, Some, None, codes, slice_get}
use Rattle.std.specs.Str.{bytes_eq}
use Rattle.jd_grammar.specs.declared.token.Word.{Word}
use Rattle.jd_grammar.specs.declared.token.Word.TheVariants as word
use Rattle.jd_grammar.specs.declared.token.Name.{Name}
use Rattle.jd_grammar.specs.declared.token.Name.TheVariants as name
use Rattle.jd_grammar.specs.declared.token.Kind.{Kind}
use Rattle.jd_grammar.specs.declared.token.Kind.TheVariants as kind

-- how a word is spelled
unfoldable pub word_text : Word → List ℕ
word_text word.Any = codes "Any"
word_text word.Channel = codes "Channel"
word_text word.Distributed = codes "Distributed"
word_text word.DistributedArrays = codes "DistributedArrays"
word_text word.Div = codes "div"
word_text word.Finalize = codes "finalize"
word_text word.Int = codes "Int"
word_text word.Max = codes "max"
word_text word.Min = codes "min"
word_text word.Mod = codes "mod"
word_text word.Println = codes "println"
word_text word.Push = codes "push!"
word_text word.Rem = codes "rem"
word_text word.RemoteChannel = codes "RemoteChannel"
word_text word.Typemax = codes "typemax"
word_text word.Typemin = codes "typemin"
word_text word.Xor = codes "xor"

-- the text of a number, empty where there is none
abbrev pub text : Option (List ℕ) → List ℕ
text None = []
text (Some bytes) = bytes

-- how a name is spelled
abbrev pub name_text : List (List ℕ) → Name → List ℕ
name_text names (name.Word w) = word_text w
name_text names (name.Other n) = text (slice_get names n)

-- the name of a variable, where the token is a name
abbrev pub name_in : List (List ℕ) → Kind → Option (List ℕ)
name_in names (kind.Name n) = Some (name_text names n)
name_in names _ = None

unfoldable pub fetch_text : List ℕ
fetch_text = codes "fetch"

unfoldable pub remote_call_text : List ℕ
remote_call_text = codes "remotecall"

-- whether a name is spelled so
abbrev pub is_spelled : List ℕ → List (List ℕ) → Kind → Bool
is_spelled spelling names (kind.Name n) = bytes_eq (name_text names n) spelling
is_spelled spelling names _ = false

abbrev pub is_fetch : List (List ℕ) → Kind → Bool
is_fetch names k = is_spelled fetch_text names k

abbrev pub is_remote_call : List (List ℕ) → Kind → Bool
is_remote_call names k = is_spelled remote_call_text names k
