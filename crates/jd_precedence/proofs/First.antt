-- What depends on whether a bracket's first element is read.
use Rattle.std.proofs.Common.{◌≡◌, true, false, List, ◌∷◌, None, if◌then◌else◌, refl, sym, ap}
use Rattle.jd_grammar.specs.declared.token.Token.{Token}
use Rattle.jd_grammar.specs.declared.token.Kind.{Kind}
use Rattle.jd_grammar.specs.declared.token.Kind.TheVariants.{OpenParen, OpenBracket, CloseBracket, OpenBrace, Arrow, Assign, Question, Semicolon}
use Rattle.jd_grammar.specs.Grammar.{binary, Syntax, Bracket, grouped, called, itemed, indexed, Items, none, more}
use Rattle.jd_grammar.specs.Frames.{Hold, in_bracket, Frame, open_end, fixed}
use Rattle.jd_grammar.specs.Machine.{close, item_step, second_step, semicolon_step, for_step, takes, atom_step, atoms_step, wide_step, at_end, have_more}
use Rattle.jd_precedence.specs.Parts.{is_first_element, is_more, more_step, ends_row, row_step}

no : {A : Type 0} → true ≡ false → A
no h = cc

pub second_other : (b : Bracket) (o : Token) (es : Items) (t : Token) (fs : List Frame) (e : Syntax) → is_first_element b es ≡ false → second_step b o es t fs e ≡ None
second_other itemed o none t fs e h = no h
second_other itemed o (more x c es) t fs e h = refl
second_other grouped o es t fs e h = refl
second_other (called f) o es t fs e h = refl
second_other (indexed f) o es t fs e h = refl

pub for_other : (b : Bracket) (o : Token) (es : Items) (t : Token) (fs : List Frame) (e : Syntax) → is_first_element b es ≡ false → for_step b o es t fs e ≡ None
for_other itemed o none t fs e h = no h
for_other itemed o (more x c es) t fs e h = refl
for_other grouped o es t fs e h = refl
for_other (called f) o es t fs e h = refl
for_other (indexed f) o es t fs e h = refl

pub semicolon_other : (b : Bracket) (o : Token) (es : Items) (t : Token) (fs : List Frame) (e : Syntax) → is_first_element b es ≡ false → semicolon_step b o es t fs e ≡ item_step b o es t fs e
semicolon_other itemed o none t fs e h = no h
semicolon_other itemed o (more x c es) t fs e h = refl
semicolon_other grouped o es t fs e h = refl
semicolon_other (called f) o es t fs e h = refl
semicolon_other (indexed f) o es t fs e h = refl

-- at a first element
pub second_first : (b : Bracket) (o : Token) (es : Items) (t : Token) (fs : List Frame) (e : Syntax) → is_first_element b es ≡ true → second_step itemed o none t fs e ≡ second_step b o es t fs e
second_first itemed o none t fs e h = refl
second_first itemed o (more x c es) t fs e h = no (sym h)
second_first grouped o es t fs e h = no (sym h)
second_first (called f) o es t fs e h = no (sym h)
second_first (indexed f) o es t fs e h = no (sym h)

pub semicolon_first : (b : Bracket) (o : Token) (es : Items) (t : Token) (fs : List Frame) (e : Syntax) → is_first_element b es ≡ true → semicolon_step itemed o none t fs e ≡ semicolon_step b o es t fs e
semicolon_first itemed o none t fs e h = refl
semicolon_first itemed o (more x c es) t fs e h = no (sym h)
semicolon_first grouped o es t fs e h = no (sym h)
semicolon_first (called f) o es t fs e h = no (sym h)
semicolon_first (indexed f) o es t fs e h = no (sym h)

pub for_first : (b : Bracket) (o : Token) (es : Items) (t : Token) (fs : List Frame) (e : Syntax) → is_first_element b es ≡ true → for_step itemed o none t fs e ≡ for_step b o es t fs e
for_first itemed o none t fs e h = refl
for_first itemed o (more x c es) t fs e h = no (sym h)
for_first grouped o es t fs e h = no (sym h)
for_first (called f) o es t fs e h = no (sym h)
for_first (indexed f) o es t fs e h = no (sym h)

-- 2^63 behind a difference in a first element
pub wide_first : (l : Syntax) (m : Token) (b : Bracket) (o : Token) (es : Items) (t : Token) (fs : List Frame) → is_first_element b es ≡ true →
    wide_step t (open_end (binary l m) ∷ (fixed (in_bracket itemed o none) ∷ fs)) ≡ wide_step t (open_end (binary l m) ∷ (fixed (in_bracket b o es) ∷ fs))
wide_first l m itemed o none t fs h = refl
wide_first l m itemed o (more x c es) t fs h = no (sym h)
wide_first l m grouped o es t fs h = no (sym h)
wide_first l m (called f) o es t fs h = no (sym h)
wide_first l m (indexed f) o es t fs h = no (sym h)

pub wide_other : (l : Syntax) (m : Token) (b : Bracket) (o : Token) (es : Items) (t : Token) (fs : List Frame) → is_first_element b es ≡ false →
    wide_step t (open_end (binary l m) ∷ (fixed (in_bracket b o es) ∷ fs)) ≡ None
wide_other l m itemed o none t fs h = no h
wide_other l m itemed o (more x c es) t fs h = refl
wide_other l m grouped o es t fs h = refl
wide_other l m (called f) o es t fs h = refl
wide_other l m (indexed f) o es t fs h = refl

-- ---- other tokens

-- what goes on with no operand is an end
pub have_other : (k : Kind) (t : Token) (fs : List Frame) (e : Syntax) → is_more k ≡ false → at_end k t (close 0 fs e) ≡ have_more k t fs e
have_other OpenParen t fs e h = no h
have_other OpenBracket t fs e h = no h
have_other OpenBrace t fs e h = no h
have_other Arrow t fs e h = no h
have_other Assign t fs e h = no h
have_other Question t fs e h = no h
have_other k t fs e h = refl

pub have_none : (k : Kind) (t : Token) (fs : List Frame) (e : Syntax) → is_more k ≡ false → have_more k t fs e ≡ at_end k t (close 0 fs e)
have_none k t fs e h = sym (have_other k t fs e h)

-- an atom, where it is no end of a row
pub atoms_other : (hold : Hold) (k : Kind) (t : Token) (fs : List Frame) → ends_row k ≡ false → takes hold t ≡ true → atom_step hold k t fs ≡ atoms_step hold k t fs
atoms_other hold Semicolon t fs h g = no h
atoms_other hold CloseBracket t fs h g = no h
atoms_other hold k t fs h g = ap (λ b. if b then atom_step hold k t fs else None) (sym g)

pub atoms_none : (hold : Hold) (k : Kind) (t : Token) (fs : List Frame) → ends_row k ≡ false → takes hold t ≡ false → atoms_step hold k t fs ≡ None
atoms_none hold Semicolon t fs h g = no h
atoms_none hold CloseBracket t fs h g = no h
atoms_none hold k t fs h g = ap (λ b. if b then atom_step hold k t fs else None) g

pub have_such : (k : Kind) (t : Token) (fs : List Frame) (e : Syntax) → is_more k ≡ true → more_step k t fs e ≡ have_more k t fs e
have_such k t fs e h = ap (λ b. if b then have_more k t fs e else None) h

pub atoms_such : (hold : Hold) (k : Kind) (t : Token) (fs : List Frame) → ends_row k ≡ true → row_step hold k t fs ≡ atoms_step hold k t fs
atoms_such hold k t fs h = ap (λ b. if b then atoms_step hold k t fs else None) h
