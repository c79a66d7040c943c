use Rattle.std.proofs.Common.{◌≡◌, map, drop}
use Rattle.std.specs.List.{AllByRecursion}
use Rattle.stage_definitions.specs.FileBases.{named_term}
use Rattle.type_derivation.specs.TypedViews.{named_term_view}
use Rattle.def_ground.specs.AskedTerms.{with_all_asked}
use Rattle.term_walk.specs.Askable.{IsAskable}
use Rattle.ground_walk.specs.Groundable.{HasVars}
use Rattle.grounder.proofs.problems.push_terms.Given as goal

-- with the terms that are left come all
abbrev pub invariant-loop-term : goal.invariant-loop-term
invariant-loop-term l =
    let left = map named_term (map named_term_view (drop l.term-index l.terms)) in
    record {
      same : with_all_asked l.base left l.problem
          ≡ with_all_asked l.base (map named_term (map named_term_view l.terms)) l.fn.problem;
      fits : AllByRecursion (λ t. IsAskable l.base t.term) left;
      room : HasVars l.base l.problem;
    }
