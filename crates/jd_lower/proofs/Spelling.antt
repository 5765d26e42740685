-- The words and their spelling.
use Rattle.std.proofs.Common.{refl}
use Rattle.jd_grammar.specs.declared.token.Word.TheVariants as word
use Rattle.jd_lower.specs.Names.{word_text}
use Rattle.jd_lower.specs.Laws.{AreSpelledAsRead}

pub as_read : AreSpelledAsRead
unfolding word_text
as_read word.Any = refl
as_read word.Channel = refl
as_read word.Distributed = refl
as_read word.DistributedArrays = refl
as_read word.Div = refl
as_read word.Finalize = refl
as_read word.Int = refl
as_read word.Max = refl
as_read word.Min = refl
as_read word.Mod = refl
as_read word.Println = refl
as_read word.Push = refl
as_read word.Rem = refl
as_read word.RemoteChannel = refl
as_read word.Typemax = refl
as_read word.Typemin = refl
as_read word.Xor = refl
