use Rattle.std.proofs.Common.{◌≡◌, ℕ, List, fold, drop}
use Rattle.kb_logic.specs.Trees.{DefinitionTree}
use Rattle.term_values.specs.GroundBases.{first_var}
use Rattle.def_ground.specs.declared.answers.Answer.{Answer}
use Rattle.def_ground.specs.Definitions.{complete_atom}
use Rattle.definition_walk.specs.Lists.{lists_of, HaveBodies}
use Rattle.definition_walk.specs.Marks.{HaveMarks}
use Rattle.definition_walk.specs.WalkLaws.{ranges}
use Rattle.definition_walk.proofs.symbols.complete_marked.Given as goal

-- with the symbols that are left come all
abbrev pub invariant-loop-symbol : goal.invariant-loop-symbol
invariant-loop-symbol l = record {
  made :
      (d : DefinitionTree) (told : List (ℕ × Answer)) → HaveMarks d l.marks
      → HaveBodies told l.bodies.first (lists_of l.bodies.lists)
      → fold (complete_atom l.base told) l.problem
      (ranges l.base d (first_var l.base l.symbol) l.symbol (drop l.symbol l.base.vocabulary.symbols))
      ≡ fold (complete_atom l.base told) l.fn.problem (ranges l.base d 1 0 l.base.vocabulary.symbols);
  vars : l.problem.vars ≡ l.fn.problem.vars;
}
