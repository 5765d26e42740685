use Rattle.std.proofs.Common.{◌-◌, length, arith}
use Rattle.std.proofs.lemmas.List.{drop_all}
use Rattle.jd_layout.proofs.Indexes.{index_length, index_at}
use Rattle.jd_layout.proofs.Located.{step, located_none}
use Rattle.jd_layout.proofs.parts.located.Goals as goal

pub loop-axis-init : goal.loop-axis-init
loop-axis-init c =
    let same = index_length c.args.dims.now c.args.index.now c.requires.index in
    record {
      behind = located_none c.args.dims.now c.args.dist.now c.args.index.now (length c.args.dims.now) (omega arith) (omega arith) (omega arith);
      fits = rw (drop_all (length c.args.dims.now) c.args.dims.now (omega arith)) (omega arith);
    }

pub bounds-index-axis : goal.bounds-index-axis
bounds-index-axis c = omega (arith, index_length c.args.dims.now c.args.index.now c.requires.index)

pub find-found-requires-clause-from : goal.find-found-requires-clause-from
find-found-requires-clause-from c = (index_at c.args.dims.now c.args.index.now (c.loop-axis.axis - 1) (omega arith) c.requires.index).0

pub find-found-requires-clause-to : goal.find-found-requires-clause-to
find-found-requires-clause-to c = (index_at c.args.dims.now c.args.index.now (c.loop-axis.axis - 1) (omega arith) c.requires.index).1

pub overflow_mul-part : goal.overflow_mul-part
overflow_mul-part c =
    let next = step c.args.dims.now c.args.dist.now c.args.index.now c.loop-axis.axis _ _ _ _ _ c.requires.index c.requires.lengths c.requires.counts
    (omega arith) (omega arith) c.find-found.ensures.piece c.find-found.ensures.len c.find-found.ensures.before c.find-found.ensures.inside
    c.find-found.ensures.whole c.loop-axis.invariant.behind c.loop-axis.invariant.fits in
    omega (arith, next.few)

pub overflow_add-part : goal.overflow_add-part
overflow_add-part c =
    let next = step c.args.dims.now c.args.dist.now c.args.index.now c.loop-axis.axis _ _ _ _ _ c.requires.index c.requires.lengths c.requires.counts
    (omega arith) (omega arith) c.find-found.ensures.piece c.find-found.ensures.len c.find-found.ensures.before c.find-found.ensures.inside
    c.find-found.ensures.whole c.loop-axis.invariant.behind c.loop-axis.invariant.fits in
    omega (arith, next.few)

pub overflow_mul-place : goal.overflow_mul-place
overflow_mul-place c =
    let next = step c.args.dims.now c.args.dist.now c.args.index.now c.loop-axis.axis _ _ _ _ _ c.requires.index c.requires.lengths c.requires.counts
    (omega arith) (omega arith) c.find-found.ensures.piece c.find-found.ensures.len c.find-found.ensures.before c.find-found.ensures.inside
    c.find-found.ensures.whole c.loop-axis.invariant.behind c.loop-axis.invariant.fits in
    omega (arith, next.small)

pub overflow_add-place : goal.overflow_add-place
overflow_add-place c =
    let next = step c.args.dims.now c.args.dist.now c.args.index.now c.loop-axis.axis _ _ _ _ _ c.requires.index c.requires.lengths c.requires.counts
    (omega arith) (omega arith) c.find-found.ensures.piece c.find-found.ensures.len c.find-found.ensures.before c.find-found.ensures.inside
    c.find-found.ensures.whole c.loop-axis.invariant.behind c.loop-axis.invariant.fits in
    omega (arith, next.small)

pub loop-axis-preserved : goal.loop-axis-preserved
loop-axis-preserved c =
    let next = step c.args.dims.now c.args.dist.now c.args.index.now c.loop-axis.axis _ _ _ _ _ c.requires.index c.requires.lengths c.requires.counts
    (omega arith) (omega arith) c.find-found.ensures.piece c.find-found.ensures.len c.find-found.ensures.before c.find-found.ensures.inside
    c.find-found.ensures.whole c.loop-axis.invariant.behind c.loop-axis.invariant.fits in
    record { behind = next.behind; fits = next.fits }
