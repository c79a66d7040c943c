-- Selectors that are retired one after another.
use Rattle.std.specs.Prelude.{◌-◌, List, [], ◌∷◌, ◌++◌, length, Contains}
use Rattle.lit_core.specs.declared.literals.Lit.{Lit}
use Rattle.ground_core.specs.Growth.{retiring}
use Rattle.ground_core.specs.Solving.{SolveState}

-- none of the selectors is retired, and none stands twice
abbrev pub AreNew : List Lit → List Lit → Type 0
AreNew gone [] = Unit {0}
AreNew gone (l ∷ ls) = (Contains gone l → ⊥) × AreNew (gone ++ l ∷ []) ls

-- with these selectors retired too
abbrev pub retired_all : SolveState → List Lit → SolveState
retired_all s ls = record {
  problem = retiring s.problem (s.problem.retired ++ ls);
  learnt = s.learnt;
  moments = s.moments;
  cores = s.cores;
  free = s.free - length ls;
  searches = s.searches;
  additions = s.additions;
}
