-- The layout that is made.
use Rattle.std.proofs.Common.{ℕ, ◌≤◌, ◌^◌, ◌<◌, ◌≡◌, ◌≢◌, List, length, take, get_or, sym, subst, ap, ◌∙◌, AllPairs, arith}
use Rattle.jd_layout.specs.Blocks.{Blocks, IsSize, IsDist, AreProcs, IsLayout}
use Rattle.jd_layout.specs.Refused.{IsMade}
use Rattle.jd_layout.proofs.Apart.{few_procs}

is_layout : (dims dist procs known : List ℕ) → IsSize dims → IsDist dims dist procs → AreProcs procs known → ((i : ℕ) → get_or procs i 0 < 2 ^ 32) →
    IsLayout (record { dims = dims; dist = dist; procs = procs })
is_layout dims dist procs known size fits valid small = record {
  size = size;
  dist = fits;
  apart = valid.apart;
  few = omega (arith, fits.parts, few_procs procs small valid.apart);
}

pub is_made : (dims dist procs known sizes placed items : List ℕ) → IsSize dims → IsDist dims dist procs → AreProcs procs known → ((i : ℕ) → get_or procs i 0 < 2 ^ 32) →
    sizes ≡ dims → take (length dist) placed ≡ dist → items ≡ procs →
    IsMade dims procs dist known (record { dims = sizes; dist = take (length sizes) placed; procs = items })
is_made dims dist procs known sizes placed items size fits valid small a b c =
    let asked : Blocks = record { dims = dims; dist = dist; procs = procs } in
    let front : take (length sizes) placed ≡ dist = ap (λ (n : ℕ). take n placed) (ap length a ∙ sym fits.lengths) ∙ b in
    let made : Blocks = record { dims = sizes; dist = take (length sizes) placed; procs = items } in
    let same : made ≡ asked = λ i. record { dims = a i; dist = front i; procs = c i } in
    record { is = same; valid = subst (λ (blocks : Blocks). IsLayout blocks) (sym same) (is_layout dims dist procs known size fits valid small); over = valid }
