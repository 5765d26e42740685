-- Answering all that wait for a cell.
use Rattle.std.specs.Prelude.{◌≡◌, ℕ, List, [], ◌∷◌, Option, Some, None, Bool, true, false, map, filter, not, if◌then◌else◌, Result, Ok, Err, OnOk, is_some}
use Rattle.std.proofs.Common.{refl, sym, ap, subst, ◌∙◌, append_assoc, append-nil}
use Rattle.jd_value.specs.declared.reference.RefId.{RefId}
use Rattle.jd_value.specs.declared.reference.Ask.{Ask}
use Rattle.jd_model.specs.Outcome.{Outcome}
use Rattle.jd_model.specs.declared.mark.Effect.{Effect}
use Rattle.jd_model.specs.Machine.{is_same, first_of}
use Rattle.jd_model.specs.Node.{Node, Stepped, Waiting, behind, woken, then_woken, silent, with_cell, stored_at, set_once_at}
use Rattle.jd_node.specs.declared.node.Node as code
use Rattle.jd_node.specs.Waits.{asks_at}
use Rattle.jd_node.specs.View.{node_of, effects_of, stepped_of, Makes}
use Rattle.jd_node.specs.Steps.{all_woken}

-- effects before stay before
all_woken_behind : (p : ℕ) (o : Outcome) (asks : List Ask) (es : List Effect) (s : Stepped) → all_woken p o asks (behind es s) ≡ behind es (all_woken p o asks s)
all_woken_behind p o [] es s = refl
all_woken_behind p o (a ∷ rest) es s =
    ap (λ (xs : List Effect). all_woken p o rest (record { node = (woken p s.node a o).node; effects = xs })) (append_assoc es s.effects (woken p s.node a o).effects)
    ∙ all_woken_behind p o rest es (behind s.effects (woken p s.node a o))

-- those that wait for a cell, among all that wait
then_woken_all : (p : ℕ) (r : RefId) (o : Outcome) (ws : List Waiting) (s : Stepped) → then_woken p r o ws s ≡ all_woken p o (asks_at r ws) s
then_woken_all p r o [] s = refl
then_woken_all p r o (w ∷ ws) s =
    elim (is_same r w.cell) as (λ (b : Bool).
    then_woken p r o ws (if b then behind s.effects (woken p s.node w.ask o) else s)
    ≡ all_woken p o (map (λ (x : Waiting). x.ask) (if b then w ∷ filter (λ (x : Waiting). is_same r x.cell) ws else filter (λ (x : Waiting). is_same r x.cell) ws)) s) [
      | true ↦ then_woken_all p r o ws (behind s.effects (woken p s.node w.ask o))
      | false ↦ then_woken_all p r o ws s
    ]

-- the node whose cell is set, before those that wait are answered
abbrev pub set_alone : Node → RefId → Outcome → Node
set_alone n r o = record (with_cell n r (Some (Some o))) { waiting = filter (λ w. not (is_same r w.cell)) n.waiting }

at_once : (p : ℕ) (n : Node) (r : RefId) (o : Outcome) → stored_at n r ≡ None → set_once_at p n r o None ≡ then_woken p r o n.waiting (silent (set_alone n r o))
at_once p n r o e =
    ap (λ (x : Option Outcome).
    then_woken p r o n.waiting (silent (record (with_cell n r (Some (Some (first_of x o)))) { waiting = filter (λ (w : Waiting). not (is_same r w.cell)) n.waiting }))) e

-- a cell that isn't set is set, and those that wait for it are answered
pub set_once_made : (p : ℕ) (old new : code.Node) (mid : Stepped) (r : RefId) (o : Outcome) (asks : List Ask) → stored_at (node_of old) r ≡ None
    → asks ≡ asks_at r (node_of old).waiting → mid ≡ record { node = set_alone (node_of old) r o; effects = effects_of old } → stepped_of new ≡ all_woken p o asks mid
    → Makes old (set_once_at p (node_of old) r o (stored_at (node_of old) r)) new
set_once_made p old new mid r o asks unset a m e =
    let n = set_alone (node_of old) r o in
    let all = then_woken_all p r o (node_of old).waiting (silent n) in
    let start : mid ≡ behind (effects_of old) (silent n) = m ∙ ap (λ (es : List Effect). record { node = n; effects = es }) (sym (append-nil (effects_of old))) in
    let made : stepped_of new ≡ behind (effects_of old) (set_once_at p (node_of old) r o None) =
    e ∙ ap (λ (as' : List Ask). all_woken p o as' mid) a ∙ ap (all_woken p o (asks_at r (node_of old).waiting)) start
    ∙ all_woken_behind p o (asks_at r (node_of old).waiting) (effects_of old) (silent n)
    ∙ ap (behind (effects_of old)) (sym (at_once p (node_of old) r o unset ∙ all)) in
    subst (λ (x : Option Outcome). Makes old (set_once_at p (node_of old) r o x) new) (sym unset)
    (record { node = ap (λ (s : Stepped). s.node) made; effects = ap (λ (s : Stepped). s.effects) made })

pub on_ok : {T E : Type 0} {P Q : Type 0} (r : Result T E) → OnOk r P → (P → Q) → OnOk r Q
on_ok (Ok v) p f = f p
on_ok (Err e) p f = p

pub none_from : {T : Type 0} (x : Option T) → is_some x ≡ false → x ≡ None
none_from None e = refl
none_from (Some x) e = cc

-- the node with a new row among its cells, from what the calls say
pub set_alone_made : (old : code.Node) (mid : Node) (waiting : List Waiting) (r : RefId) (o kept : Outcome) → kept ≡ o
    → waiting ≡ filter (λ w. not (is_same r w.cell)) (node_of old).waiting → mid ≡ with_cell (record (node_of old) { waiting = waiting }) r (Some (Some kept))
    → mid ≡ set_alone (node_of old) r o
set_alone_made old mid waiting r o kept k w e =
    e ∙ ap (λ (ws : List Waiting). with_cell (record (node_of old) { waiting = ws }) r (Some (Some kept))) w
    ∙ ap (λ (x : Outcome). with_cell (record (node_of old) { waiting = filter (λ (w' : Waiting). not (is_same r w'.cell)) (node_of old).waiting }) r (Some (Some x))) k
