use Rattle.std.proofs.Common.{refl, arith}
use Rattle.jd_layout.proofs.Made.{is_made}
use Rattle.jd_layout.proofs.layout.Layout.new.Goals as goal

pub invariant_of-result : goal.invariant_of-result
invariant_of-result c =
    (is_made c.args.dims.now c.args.dist.now c.args.procs.now c.args.known.now c.in-Some.sizes c.placed.result c.in_ok-from_slice.field-0.items
    (c.in-Some.ensures.valid.0 refl) (c.is_dist.ensures.0 c.if-not-is_dist.false) (c.in_ok-are_procs.ensures.0 c.if-not-branch.false)
    (λ i. omega (arith, c.type_inv.procs i)) c.in-Some.ensures.value c.placed.ensures c.in_ok-from_slice.ensures.items).valid

pub returns : goal.returns
returns c =
    is_made c.args.dims.now c.args.dist.now c.args.procs.now c.args.known.now c.in-Some.sizes c.placed.result c.in_ok-from_slice.field-0.items
    (c.in-Some.ensures.valid.0 refl) (c.is_dist.ensures.0 c.if-not-is_dist.false) (c.in_ok-are_procs.ensures.0 c.if-not-branch.false)
    (λ i. omega (arith, c.type_inv.procs i)) c.in-Some.ensures.value c.placed.ensures c.in_ok-from_slice.ensures.items
