use Rattle.std.proofs.Common.{◌≡◌, ℕ, ◌+◌, ◌*◌, ◌≤◌, ◌<◌, ◌-◌, List, [], ◌∷◌, ◌^◌, get_or, ap, ◌∙◌, arith, drop}
use Rattle.std.specs.List.{flat_map}
use Rattle.std.proofs.lemmas.List.Elements.{All-same, All-weaker}
use Rattle.jd_value.specs.Array.{product}
use Rattle.jd_array.specs.Places.{places, places_along}
use Rattle.jd_array.proofs.Placed.{window_before, rows_fit, places_before, windows_length}
use Rattle.jd_array.proofs.slices.row_places.Goals as goal

pub spread-requires-clause-window : goal.spread-requires-clause-window
spread-requires-clause-window c =
    window_before c.args.dims.now c.args.picks.now c.loop-axis.axis _ c.requires.windows (omega arith) (omega arith) c.index-picks-axis.is

pub spread-requires-clause-fits : goal.spread-requires-clause-fits
spread-requires-clause-fits c =
    All-same (λ (p : ℕ). (p + 1) * get_or c.args.dims.now (c.loop-axis.axis - 1) 0 < 2 ^ 63) _ _ (c.as_slice.ensures.value ∙ c.loop-axis.invariant.is)
    (All-weaker (λ (p : ℕ). (p + 1) * get_or c.args.dims.now (c.loop-axis.axis - 1) 0 ≤ product c.args.dims.now) (λ (p : ℕ). (p + 1) * get_or c.args.dims.now (c.loop-axis.axis - 1) 0 < 2 ^ 63)
    (λ p below. omega (arith, c.requires.fits)) _
    (rows_fit c.args.dims.now c.args.picks.now c.loop-axis.axis c.requires.windows (omega arith) (omega arith)))

pub loop-axis-preserved : goal.loop-axis-preserved
loop-axis-preserved c =
    let same = windows_length c.args.dims.now c.args.picks.now c.requires.windows in
    record {
      is = c.in_ok-all-2.ensures
          ∙ ap
          (λ (xs : List ℕ). flat_map (places_along (get_or c.args.dims.now (c.loop-axis.axis - 1) 0) c.index-picks-axis.result) xs)
          (c.as_slice.ensures.value ∙ c.loop-axis.invariant.is)
          ∙ places_before c.args.dims.now c.args.picks.now c.loop-axis.axis _ (0 ∷ []) (omega arith) (omega arith) (omega arith) c.index-picks-axis.is;
      from = omega arith;
    }

pub returns : goal.returns
returns c =
    let first : c.loop-axis.axis ≡ 1 = omega (arith, c.loop-axis.invariant.from) in
    c.loop-axis.invariant.is ∙ ap (λ (n : ℕ). places (drop n c.args.dims.now) (drop n c.args.picks.now) (0 ∷ [])) first
