use Rattle.std.proofs.Common.{◌≡◌, map, drop}
use Rattle.stage_definitions.specs.FileBases.{named_term}
use Rattle.type_derivation.specs.TypedViews.{named_term_view}
use Rattle.term_values.specs.GroundBases.{GroundBase}
use Rattle.def_ground.specs.AskedTerms.{with_all_asked}
use Rattle.narrowed_bases.specs.Narrowings.{zero_term}
use Rattle.grounder.proofs.problems.push_zeros.Given as goal

-- with the zeros that are left come all
abbrev pub invariant-loop-term : goal.invariant-loop-term
invariant-loop-term l =
    let left = map zero_term (map named_term (map named_term_view (drop l.term-index l.terms))) in
    record {
      same : (b : GroundBase) → with_all_asked b left l.problem
          ≡ with_all_asked b (map zero_term (map named_term (map named_term_view l.terms))) l.fn.problem;
    }
