use Rattle.std.proofs.Common.{◌≡◌, ◌+ℤ◌, map, drop}
use Rattle.std.specs.List.{AllByRecursion}
use Rattle.def_ground.specs.AskedTerms.{first_sum}
use Rattle.term_walk.specs.Askable.{summand_view, HasSmallRows, StaysSmall}
use Rattle.term_walk.proofs.terms.first_sum.Given as goal

-- with the summands that are left come all
abbrev pub invariant-loop-summand : goal.invariant-loop-summand
invariant-loop-summand l =
    let left = map summand_view (drop l.summand-index l.summands) in
    record {
      same : l.total +ℤ first_sum left ≡ first_sum (map summand_view l.summands);
      small : AllByRecursion HasSmallRows left;
      sums : StaysSmall l.total left;
    }
