-- What the machine says of scripts: an answer is spelled so, what is spelled so is the answer, what was read may become
-- a script, and what is refused may not.
use Rattle.std.proofs.Common.{◌≡◌, List, [], ◌∷◌, ◌++◌, Option, Some, None, refl, sym, ap, subst, ◌∙◌}
use Rattle.jd_grammar.specs.declared.token.Token.{Token}
use Rattle.jd_grammar.specs.Script.{Block}
use Rattle.jd_grammar.specs.Reader.{Config, start, step, and_then, run, finish}
use Rattle.jd_grammar.specs.Promise.{Spells, IsPrefix}
use Rattle.jd_grammar.proofs.ScriptSound.{IsRun, MayRun, run_ok, HasScript, finish_ok, start_ok}
use Rattle.jd_grammar.proofs.ScriptReach.{complete_script}
use Rattle.jd_grammar.proofs.ScriptFinish.{script, script_end, script_ok, script_put}

pub run_gives : (ts : List Token) (d : Config) → run ts start ≡ Some d → IsRun ts start d
run_gives ts d h = subst (MayRun ts start) h (run_ok ts start start_ok)

append_nil : (ts : List Token) → ts ++ [] ≡ ts
append_nil [] = refl
append_nil (t ∷ ts) = ap (λ x. t ∷ x) (append_nil ts)

-- an answer is spelled so
pub sound : (ts : List Token) (d : Config) (s : Block) → run ts start ≡ Some d → finish d ≡ Some s → Spells ts s
sound ts d s h f =
    let r = run_gives ts d h in
    let g : HasScript d (Some s) = subst (HasScript d) f (finish_ok d r.config) in
    record { grammar = g.0; tokens = g.1 ∙ r.tokens [] ∙ append_nil ts }

-- the script that the machine's state may become
pub becomes : (ts : List Token) (d : Config) → run ts start ≡ Some d → Spells (ts ++ script_end d) (script d)
becomes ts d h =
    let r = run_gives ts d h in
    record { grammar = script_ok d r.config; tokens = script_put d r.config ∙ r.tokens (script_end d) }

-- what was read may become a script
pub viable : (ts : List Token) (d : Config) → run ts start ≡ Some d → IsPrefix ts
viable ts d h = (script_end d, script d, becomes ts d h)

then_append : (f g : Config → Option Config) (h : Config → Option Config) → ((c : Config) → h c ≡ and_then (f c) g) → (d : Option Config) → and_then d h ≡ and_then (and_then d f) g
then_append f g h e None = refl
then_append f g h e (Some d) = e d

pub run_append : (ts us : List Token) (c : Config) → run (ts ++ us) c ≡ and_then (run ts c) (run us)
run_append [] us c = refl
run_append (t ∷ ts) us c = then_append (run ts) (run us) (run (ts ++ us)) (run_append ts us) (step t c)

-- what is spelled so is the answer
pub answered : (ts : List Token) (s : Block) → Spells ts s → (d : Config) × (run ts start ≡ Some d) × (finish d ≡ Some s)
answered ts s w =
    let c = complete_script s w.grammar in
    (c.0, subst (λ x. run x start ≡ Some c.0) w.tokens c.1, c.2)

-- a script has one tree
pub unique : (ts : List Token) (s u : Block) → Spells ts s → Spells ts u → s ≡ u
unique ts s u v w =
    let a = answered ts s v in
    let b = answered ts u w in
    let e : Some a.0 ≡ Some b.0 = sym a.1 ∙ b.1 in
    let p : finish a.0 ≡ Some s = a.2 in
    let q : finish b.0 ≡ Some u = b.2 in
    cc

-- what is refused can't become a script
pub stuck : (ts : List Token) → run ts start ≡ None → IsPrefix ts → ⊥
stuck ts h p =
    let c = answered (ts ++ p.0) p.1 p.2 in
    let e : Some c.0 ≡ None = sym c.1 ∙ run_append ts p.0 start ∙ ap (λ x. and_then x (run p.0)) h in
    cc
