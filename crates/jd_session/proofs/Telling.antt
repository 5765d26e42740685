-- How far the effects of a step were told.
use Rattle.std.proofs.Common.{arith, suc, ◌≡◌, ℕ, ◌+◌, ◌*◌, ◌-◌, ◌≤◌, ◌<◌, length-append, length, slice_index_or, take, drop, List, [], ◌∷◌, ◌++◌, Option, Some, None, map, refl, ap, sym, subst, append-nil, append_assoc, ◌∙◌}
use Rattle.std.proofs.lemmas.List.{map-append}
use Rattle.std.proofs.Math.Seq.{take-length}
use Rattle.jd_model.specs.declared.mark.Effect.{Effect}
use Rattle.jd_model.specs.declared.mark.Mark.{Mark}
use Rattle.jd_model.specs.World.{Told, marked}
use Rattle.jd_world.specs.Fabric.{WhereTold, SameMarks, Tells}
use Rattle.jd_session.specs.Headline.{left_in}
use Rattle.jd_session.specs.Recorded.{Records, RecordsPart, recorded}

-- a list that isn't empty is its first element before the rest
pub first_before : {A : Type 0} (xs : List A) (d : A) → 1 ≤ length xs → xs ≡ slice_index_or xs 0 d ∷ take (length xs - 1) (drop 1 xs)
first_before [] d h = absurd (omega arith)
first_before (x ∷ xs) d h =
    let all : suc (length xs) - 1 ≡ length xs = omega arith in ap (λ ys. x ∷ ys) (rw all (sym (take-length xs)))

pub record ToldSoFar (all rest : List Effect) (before now : Option Told) : Type 0 where
  pub done : List Effect
  pub split : all ≡ done ++ rest
  pub told : WhereTold (Records done) before now

nothing_told : (t : Option Told) → WhereTold (Records []) t t
nothing_told None = tt
nothing_told (Some t) = record { after = rw append-nil refl; left = omega arith }

pub told_first : (all : List Effect) (t : Option Told) → ToldSoFar all all t t
told_first all t = record { done = []; split = refl; told = nothing_told t }

longer : (ms : List Mark) (done : List Effect) (e : Effect) → (ms ++ map (marked 1) done) ++ marked 1 e ∷ [] ≡ ms ++ map (marked 1) (done ++ e ∷ [])
longer ms done e = append_assoc ms (map (marked 1) done) (marked 1 e ∷ []) ∙ ap (λ xs. ms ++ xs) (sym (map-append (marked 1) done (e ∷ [])))

room_taken : (done : List Effect) (e : Effect) (t u v : Told) → left_in u + 3 * length done ≡ left_in t → Tells (marked 1 e) u v → left_in v + 3 * length (done ++ e ∷ []) ≡ left_in t
room_taken done e t u v l b =
    let marks : length v.marks ≡ length u.marks + 1 = ap {A = Told} (λ x. length x.marks) b.after ∙ length-append u.marks (marked 1 e ∷ []) in
    let events : v.outside.events ≡ u.outside.events = ap {A = Told} (λ x. x.outside.events) b.after in
    let room = b.room in
    let more = length-append done (e ∷ []) in
    omega (arith, l, marks, events, room, more)

one_more : (done : List Effect) (e : Effect) (t u v : Option Told) → WhereTold (Records done) t u → WhereTold (Tells (marked 1 e)) u v
    → WhereTold (Records (done ++ e ∷ [])) t v
one_more done e (Some t) (Some u) (Some v) a b =
    let add : Told → Told = λ x. record x { marks = x.marks ++ marked 1 e ∷ [] } in
    let having : List Mark → Told = λ ms. record t { marks = ms } in
    record { after = b.after ∙ ap add a.after ∙ ap having (longer t.marks done e); left = room_taken done e t u v a.left b }
one_more done e (Some t) (Some u) None a b = absurd b
one_more done e (Some t) None v a b = absurd a
one_more done e None (Some u) v a b = absurd a
one_more done e None None (Some v) a b = absurd b
one_more done e None None None a b = tt

pub told_next : (all xs : List Effect) (e : Effect) (rest : List Effect) (t u v : Option Told) → ToldSoFar all xs t u → xs ≡ e ∷ rest → WhereTold (Tells (marked 1 e)) u v
    → ToldSoFar all rest t v
told_next all xs e rest t u v s h b =
    record { done = s.done ++ e ∷ []; split = s.split ∙ ap (λ ys. s.done ++ ys) h ∙ sym (append_assoc s.done (e ∷ []) rest); told = one_more s.done e t u v s.told b }

pub told_all : (all : List Effect) (t u : Option Told) → ToldSoFar all [] t u → WhereTold (Records all) t u
told_all all t u s = subst (λ es. WhereTold (Records es) t u) (sym (s.split ∙ append-nil s.done)) s.told

part_told : (all rest done : List Effect) (t u v : Option Told) → all ≡ done ++ rest → WhereTold (Records done) t u → WhereTold SameMarks u v → WhereTold (RecordsPart all) t v
part_told all rest done (Some t) (Some u) (Some v) e a b = record { told = done; rest = rest; all = e; marks = b ∙ ap {A = Told} (λ x. x.marks) a.after }
part_told all rest done (Some t) (Some u) None e a b = absurd b
part_told all rest done (Some t) None v e a b = absurd a
part_told all rest done None (Some u) v e a b = absurd a
part_told all rest done None None (Some v) e a b = absurd b
part_told all rest done None None None e a b = tt

pub told_part : (all rest : List Effect) (t u v : Option Told) → ToldSoFar all rest t u → WhereTold SameMarks u v → WhereTold (RecordsPart all) t v
told_part all rest t u v s b = part_told all rest s.done t u v s.split s.told b
