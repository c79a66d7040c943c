use Rattle.std.proofs.Common.{◌≡◌, ℕ, suc, zero, ◌++◌, List, [], ◌∷◌, length, replicate, slice_index, refl, ap, ◌∙◌}
use Rattle.std.proofs.Common.{arith}
use Rattle.std.proofs.Common.{length-append}
use Rattle.conflict_analysis.proofs.near_sets.lengthen.Goals as goal

zeros : (n j : ℕ) → slice_index (replicate n 0) j ≡ 0
zeros zero j = refl
zeros (suc n) zero = refl
zeros (suc n) (suc j) = zeros n j

-- marks that are not set change nothing at the end
more_zeros : (xs zs : List ℕ) → ((j : ℕ) → slice_index zs j ≡ 0) → (k : ℕ) → slice_index (xs ++ zs) k ≡ slice_index xs k
more_zeros [] zs none k = none k
more_zeros (x ∷ xs) zs none zero = refl
more_zeros (x ∷ xs) zs none (suc k) = more_zeros xs zs none k

pub loop-marks-preserved : goal.loop-marks-preserved
loop-marks-preserved c =
    let items = c.in_ok-extend_from_slice.ensures.items in
    record {
      same = λ k. ap (λ (xs : List ℕ). slice_index xs k) items
          ∙ (more_zeros c.loop-marks.marks.items (replicate 256 0) (zeros 256) k ∙ c.loop-marks.invariant.same k);
      longer =
          let len = ap length items in
          let both = length-append c.loop-marks.marks.items (replicate 256 0) in
          let was = c.loop-marks.invariant.longer in
          omega (arith, len, both, was);
    }
