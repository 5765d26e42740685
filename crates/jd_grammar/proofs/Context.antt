-- What an unfinished script is written with, and what holds of it between two tokens.
use Rattle.std.proofs.Common.{◌≡◌, Bool, true, false, IsTrue, List, [], ◌∷◌, Option, Some, None, if◌then◌else◌, refl}
use Rattle.jd_grammar.specs.declared.token.Token.{Token}
use Rattle.jd_grammar.specs.declared.token.Kind.TheVariants.{Function, For, Catch, Using, DistributedFor, Everywhere, Comma, OpenParen, CloseParen}
use Rattle.jd_grammar.specs.Kinds.{is_name}
use Rattle.jd_grammar.specs.Grammar.{put, IsAt}
use Rattle.jd_grammar.specs.Script.{Parameters, no_parameters, first, next, Target, Scope, put_parameters, put_signature, put_packages, put_lead, put_target, put_header, put_every, put_opening, put_stmt, put_before, put_lines, put_place, role_before, header_follows, follows, is_reducer, AreParameters, IsSignature, ArePackages, IsLead, IsTarget, IsHeader, IsEvery, IsOpening, IsStmt, IsBefore, AreLines, IsPlace}
use Rattle.jd_grammar.specs.Reader.{Outer, Context, Bottom, in_lead, in_header, Owner, of_function, of_everywhere, Awaited, for_name, for_in, distributed_open, distributed_reducer, distributed_close, distributed_for, distributed_name, distributed_in, function_name, signature_open, signature_first, signature_next, signature_name, signature_end, everywhere, everywhere_package, package_first, package_next, catch_words, catch_named, Mode, at_expression, at_words, complete, Config, scope, Whole, nothing_whole, a_place, a_header, is_trying}
use Rattle.jd_grammar.proofs.Invariant.{put_state, IsState}

-- ---- the tokens read so far, in front of the rest

abbrev pub put_outer : List Outer → List Token → List Token
put_outer [] rest = rest
put_outer (o ∷ os) rest = put_outer os (put_lines o.lines (put_before o.before (put_opening o.opening rest)))

abbrev pub put_context : Context → List Token → List Token
put_context ctx rest = put_outer ctx.outer (put_lines ctx.lines rest)

abbrev pub put_bottom : Bottom → List Token → List Token
put_bottom (in_lead l) rest = put_lead l rest
put_bottom (in_header x h) rest = put_before x (put_header h rest)

abbrev pub put_owner : Owner → List Token → List Token
put_owner (of_function every t) rest = put_every every (t ∷ rest)
put_owner (of_everywhere every) rest = every ∷ rest

abbrev pub put_awaited : Awaited → List Token → List Token
put_awaited (for_name t) rest = t ∷ rest
put_awaited (for_in t n) rest = t ∷ n ∷ rest
put_awaited (distributed_open g t) rest = put_target g (t ∷ rest)
put_awaited (distributed_reducer g t o) rest = put_target g (t ∷ o ∷ rest)
put_awaited (distributed_close g t o op) rest = put_target g (t ∷ o ∷ op ∷ rest)
put_awaited (distributed_for g t o op c) rest = put_target g (t ∷ o ∷ op ∷ c ∷ rest)
put_awaited (distributed_name g t o op c f) rest = put_target g (t ∷ o ∷ op ∷ c ∷ f ∷ rest)
put_awaited (distributed_in g t o op c f n) rest = put_target g (t ∷ o ∷ op ∷ c ∷ f ∷ n ∷ rest)
put_awaited (function_name every t) rest = put_every every (t ∷ rest)
put_awaited (signature_open w f) rest = put_owner w (f ∷ rest)
put_awaited (signature_first w f o) rest = put_owner w (f ∷ o ∷ rest)
put_awaited (signature_next w f o ps) rest = put_owner w (f ∷ o ∷ put_parameters ps rest)
put_awaited (signature_name w f o ps comma) rest = put_owner w (f ∷ o ∷ put_parameters ps (comma ∷ rest))
put_awaited (signature_end every s) rest = every ∷ put_signature s rest
put_awaited (everywhere every) rest = every ∷ rest
put_awaited (everywhere_package every t) rest = every ∷ t ∷ rest
put_awaited (package_first t) rest = t ∷ rest
put_awaited (package_next ns comma) rest = put_packages ns (comma ∷ rest)
put_awaited (catch_words x t) rest = put_before x (t ∷ rest)
put_awaited (catch_named x t n) rest = put_before x (t ∷ n ∷ rest)

abbrev pub put_mode : Mode → List Token → List Token
put_mode (at_expression b s) rest = put_bottom b (put_state s rest)
put_mode (at_words w) rest = put_awaited w rest
put_mode (complete s) rest = put_stmt s rest

abbrev pub put_config : Config → List Token → List Token
put_config c rest = put_context c.context (put_mode c.mode rest)

-- ---- what holds of a configuration

abbrev pub AreOuter : List Outer → Type 0
AreOuter [] = Unit {0}
AreOuter (o ∷ os) = AreLines (scope os) o.lines × IsBefore (scope os) o.before × IsTrue (follows (role_before o.before) o.opening) × IsOpening (scope os) o.opening × AreOuter os

abbrev pub IsBottom : Scope → Bottom → Type 0
IsBottom sc (in_lead l) = IsLead sc l
IsBottom sc (in_header x h) = IsBefore sc x × IsTrue (header_follows (role_before x) h) × IsHeader h

abbrev pub IsOwner : Scope → Owner → Type 0
IsOwner sc (of_function every t) = IsTrue sc.top × IsEvery every × (t.kind ≡ Function)
IsOwner sc (of_everywhere every) = IsTrue sc.top × (every.kind ≡ Everywhere)

abbrev pub IsReducing : Target → Token → Token → Token → Type 0
IsReducing g t o op = IsTarget g × (t.kind ≡ DistributedFor) × (o.kind ≡ OpenParen) × IsTrue (is_reducer op.kind)

abbrev pub IsOwned : Scope → Owner → Token → Token → Type 0
IsOwned sc w f o = IsOwner sc w × IsTrue (is_name f.kind) × (o.kind ≡ OpenParen)

abbrev pub are_some : Parameters → Bool
are_some no_parameters = false
are_some (first n) = true
are_some (next ps comma n) = true

abbrev pub IsAwaited : Scope → Awaited → Type 0
IsAwaited sc (for_name t) = t.kind ≡ For
IsAwaited sc (for_in t n) = (t.kind ≡ For) × IsTrue (is_name n.kind)
IsAwaited sc (distributed_open g t) = IsTarget g × (t.kind ≡ DistributedFor)
IsAwaited sc (distributed_reducer g t o) = IsTarget g × (t.kind ≡ DistributedFor) × (o.kind ≡ OpenParen)
IsAwaited sc (distributed_close g t o op) = IsReducing g t o op
IsAwaited sc (distributed_for g t o op c) = IsReducing g t o op × (c.kind ≡ CloseParen)
IsAwaited sc (distributed_name g t o op c f) = IsReducing g t o op × (c.kind ≡ CloseParen) × (f.kind ≡ For)
IsAwaited sc (distributed_in g t o op c f n) = IsReducing g t o op × (c.kind ≡ CloseParen) × (f.kind ≡ For) × IsTrue (is_name n.kind)
IsAwaited sc (function_name every t) = IsTrue sc.top × IsEvery every × (t.kind ≡ Function)
IsAwaited sc (signature_open w f) = IsOwner sc w × IsTrue (is_name f.kind)
IsAwaited sc (signature_first w f o) = IsOwned sc w f o
IsAwaited sc (signature_next w f o ps) = IsOwned sc w f o × AreParameters ps × IsTrue (are_some ps)
IsAwaited sc (signature_name w f o ps comma) = IsOwned sc w f o × AreParameters ps × IsTrue (are_some ps) × (comma.kind ≡ Comma)
IsAwaited sc (signature_end every s) = IsTrue sc.top × (every.kind ≡ Everywhere) × IsSignature s
IsAwaited sc (everywhere every) = IsTrue sc.top × (every.kind ≡ Everywhere)
IsAwaited sc (everywhere_package every t) = IsTrue sc.top × (every.kind ≡ Everywhere) × (t.kind ≡ Using)
IsAwaited sc (package_first t) = IsTrue sc.top × (t.kind ≡ Using)
IsAwaited sc (package_next ns comma) = IsTrue sc.top × ArePackages ns × (comma.kind ≡ Comma)
IsAwaited sc (catch_words x t) = IsBefore sc x × IsTrue (is_trying (role_before x)) × (t.kind ≡ Catch)
IsAwaited sc (catch_named x t n) = IsBefore sc x × IsTrue (is_trying (role_before x)) × (t.kind ≡ Catch) × IsTrue (is_name n.kind)

abbrev pub IsMode : Scope → Mode → Type 0
IsMode sc (at_expression b s) = IsBottom sc b × IsState s
IsMode sc (at_words w) = IsAwaited sc w
IsMode sc (complete s) = IsStmt sc s

pub record IsContext (ctx : Context) : Type 0 where
  pub outer : AreOuter ctx.outer
  pub lines : AreLines (scope ctx.outer) ctx.lines

pub record IsConfig (c : Config) : Type 0 where
  pub context : IsContext c.context
  pub mode : IsMode (scope c.context.outer) c.mode

-- what is whole is in the grammar, and written with the tokens
abbrev pub IsWhole : Scope → (List Token → List Token) → Whole → Type 0
IsWhole sc f nothing_whole = Unit {0}
IsWhole sc f (a_place m) = IsPlace sc m × ((rest : List Token) → put_place m rest ≡ f rest)
IsWhole sc f (a_header x h c) = IsBefore sc x × IsTrue (header_follows (role_before x) h) × IsHeader h × IsAt true false 1 c × ((rest : List Token) → put_before x (put_header h (put c rest)) ≡ f rest)

-- After a step the configuration is in order, and written with one token more.
pub record IsNext (t : Token) (c d : Config) : Type 0 where
  pub config : IsConfig d
  pub tokens : (rest : List Token) → put_config d rest ≡ put_config c (t ∷ rest)

abbrev pub MayGo : Token → Config → Option Config → Type 0
MayGo t c None = Unit {0}
MayGo t c (Some d) = IsNext t c d

pub may_go_if : (t : Token) (c d : Config) (b : Bool) → (b ≡ true → IsNext t c d) → MayGo t c (if b then Some d else None)
may_go_if t c d true h = h refl
may_go_if t c d false h = tt
