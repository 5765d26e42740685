-- The beginning of a channel by its parts.
use Rattle.std.proofs.Common.{◌≡◌, Bool, true, false, ◌&&◌, List, ◌∷◌, Option, Some, None, if◌then◌else◌, refl, ap, ◌∙◌}
use Rattle.jd_grammar.specs.declared.token.Token.{Token}
use Rattle.jd_grammar.specs.declared.token.Word.TheVariants as word
use Rattle.jd_grammar.specs.Kinds.{is_word}
use Rattle.jd_grammar.specs.Grammar.{Channel, Syntax, leaf, bracket, lambda, Bracket, grouped, called, Items, none, nothing}
use Rattle.jd_grammar.specs.Frames.{Frame, open_end, fixed, in_bracket, await, element_type}
use Rattle.jd_grammar.specs.Machine.{at_brace}
use Rattle.jd_precedence.specs.Parts.{leaf_token_in, empty_group_in, callee_token, are_none, channel_from, a_channel, awaits_type}
use Rattle.jd_precedence.specs.declared.frames.Signs.{Signs}

await_if : (x : Bool) (fs : List Frame) (c : Channel) → (if x then Some (await fs (element_type c)) else None) ≡ awaits_type fs (if x then Some c else None)
await_if true fs c = refl
await_if false fs c = refl

pub brace_is : (s : Signs) (ns : Syntax) (b : Bracket) (es : Items) (fs : List Frame) (e : Syntax) →
    at_brace s.brace (open_end (lambda ns s.arrow) ∷ (fixed (in_bracket b s.opens es) ∷ fs)) e
    ≡ awaits_type fs (channel_from s (empty_group_in ns) (callee_token b) (are_none es) (leaf_token_in e))
brace_is s (bracket grouped l none nothing r) (called (leaf f)) none fs (leaf w) =
    await_if (is_word word.RemoteChannel f.kind && is_word word.Channel w.kind) fs (a_channel s (l, r) f w)
brace_is s ns b es fs e = refl

-- the beginning by what the code asks of its parts
pub channel_by : (s : Signs) (ns : Syntax) (b : Bracket) (es : Items) (e : Syntax) (n : Option (Token × Token)) (f : Option Token) (z : Bool) (w : Option Token) (x : Option Channel) →
    n ≡ empty_group_in ns → f ≡ callee_token b → z ≡ are_none es → w ≡ leaf_token_in e → x ≡ channel_from s n f z w →
    x ≡ channel_from s (empty_group_in ns) (callee_token b) (are_none es) (leaf_token_in e)
channel_by s ns b es e n f z w x hn hf hz hw hx = hx
    ∙ ap (λ y. channel_from s y f z w) hn ∙ ap (λ y. channel_from s (empty_group_in ns) y z w) hf ∙ ap (λ y. channel_from s (empty_group_in ns) (callee_token b) y w) hz
    ∙ ap (channel_from s (empty_group_in ns) (callee_token b) (are_none es)) hw
