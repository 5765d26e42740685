use Rattle.std.proofs.Common.{ℕ, ◌+◌, ◌≤◌, List, ◌∷◌, ◌++◌, length, take, drop, sym, ap, subst, ◌∙◌, arith}
use Rattle.std.proofs.lemmas.List.{length-take-le, length-set}
use Rattle.jd_value.specs.Array.{IsDims}
use Rattle.jd_array.specs.Slice.{picked_dims}
use Rattle.jd_array.proofs.Picked.{short_span, kept_one, kept_many, kept_more, kept_all, dims_left, inside_length}
use Rattle.jd_array.proofs.slices.dims_of.Goals as goal
use Rattle.jd_array.proofs.slices.dims_of.Goals.{in-Many, in-One}

pub overflow_cast-sizes : goal.overflow_cast-sizes
overflow_cast-sizes c =
    omega (
      arith,
      c.len.ensures,
      short_span c.args.dims.now c.args.picks.now c.loop-pick.pick-index _ c.in-Many.span c.requires.dims c.requires.inside
          c.loop-pick-test.true c.pick-item.is c.in-Many.is,
    )

pub bounds-sizes-count : goal.bounds-sizes-count
bounds-sizes-count c = omega (arith, inside_length c.args.dims.now c.args.picks.now c.requires.inside, c.requires.dims.few)

pub loop-pick-preserved : goal.loop-pick-preserved
loop-pick-preserved c = elim c.match-pick.branch [
  | in-One w ↦ record {
    left = rw (w.sizes-is, w.count-is)
        (ap (λ (rest : List ℕ). take c.loop-pick.count c.loop-pick.sizes ++ rest)
        (sym (kept_one c.args.picks.now c.loop-pick.pick-index _ _ c.loop-pick-test.true c.pick-item.is w.in-One.is))
        ∙ c.loop-pick.invariant.left);
    room = rw w.sizes-is c.loop-pick.invariant.room;
    few = omega (arith, w.count-is);
  }
  | in-Many w ↦
      (let below = inside_length c.args.dims.now c.args.picks.now c.requires.inside in
      let first = kept_many c.args.picks.now c.loop-pick.pick-index _ w.in-Many.span c.loop-pick-test.true c.pick-item.is w.in-Many.is
      ∙ ap (λ (n : ℕ). n ∷ picked_dims (drop (c.loop-pick.pick-index + 1) c.args.picks.now)) (sym w.len.ensures) in
      record {
        left = rw (w.sizes-is, w.count-is)
            (kept_more c.loop-pick.sizes _ _ _ c.loop-pick.count w.len.result (omega (arith, c.requires.dims.few)) c.loop-pick.invariant.left first);
        room = rw w.sizes-is (length-set c.loop-pick.sizes c.loop-pick.count w.len.result ∙ c.loop-pick.invariant.room);
        few = omega (arith, w.count-is);
      })
]

pub slice_bounds-sizes-end : goal.slice_bounds-sizes-end
slice_bounds-sizes-end c = omega (arith, inside_length c.args.dims.now c.args.picks.now c.requires.inside, c.requires.dims.few)

pub slice_bounds-new-end : goal.slice_bounds-new-end
slice_bounds-new-end c =
    let few : c.loop-pick.count ≤ length c.loop-pick.sizes = omega (arith, inside_length c.args.dims.now c.args.picks.now c.requires.inside, c.requires.dims.few) in
    sym (length-take-le c.loop-pick.count c.loop-pick.sizes few)

pub unwrap-requires : goal.unwrap-requires
unwrap-requires c =
    c.new.ensures.valid.1
    (subst (λ (ds : List ℕ). IsDims ds)
    (sym (kept_all c.args.picks.now c.loop-pick.sizes c.loop-pick.count c.loop-pick.pick-index c.loop-pick-test.false c.loop-pick.invariant.left))
    (dims_left c.args.dims.now c.args.picks.now c.requires.dims c.requires.inside c.requires.some))
