use Rattle.std.proofs.Common.{◌≡◌, [], map, drop}
use Rattle.std.specs.List.{AllByRecursion}
use Rattle.kb_logic.specs.Views.{formula_view}
use Rattle.def_ground.specs.Problems.{problem_of}
use Rattle.def_ground.specs.Sentences.{assert_sentences}
use Rattle.ground_walk.specs.Groundable.{HasVars, IsGroundable}
use Rattle.ground_walk.proofs.problems.problem_of.Given as goal

-- with the sentences that are left comes the whole problem
abbrev pub invariant-loop-sentence : goal.invariant-loop-sentence
invariant-loop-sentence l =
    let left = map formula_view (drop l.sentence-index l.sentences) in
    record {
      same : assert_sentences l.base left l.problem ≡ problem_of l.base (map formula_view l.sentences);
      fits : AllByRecursion (λ f. IsGroundable l.base f []) left;
      room : HasVars l.base l.problem;
    }
