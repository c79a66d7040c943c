use Rattle.std.proofs.Common.{◌≡◌, ◌≤◌, ◌++◌, drop, fold, length, map}
use Rattle.stage_definitions.specs.NamesStage.{name_noted}
use Rattle.stage_definitions.specs.NamedViews.{var_view}
use Rattle.stage_definitions.specs.Numbering.{named_var}
use Rattle.stage_definitions.specs.Uses.{uses_of_vars, var_text}
use Rattle.formula_names.specs.Steps.{names_known}
use Rattle.formula_names.specs.Tails.{tail_var}
use Rattle.formula_names.proofs.resolver.Resolver.bind_more.Given as goal

abbrev pub invariant-loop-tail : goal.invariant-loop-tail
invariant-loop-tail l = record {
  inside : l.outer ≤ length l.self.scope;
  known : l.self.known ≡ l.initial.self.known;
  vars : map var_view l.vars.items ++ map (named_var (names_known l.initial.self))
      (map tail_var (drop l.tail-index l.more))
      ≡ map var_view l.initial.vars.items ++ map (named_var (names_known l.initial.self)) (map tail_var l.more);
  scope : l.self.scope ++ map var_text (map tail_var (drop l.tail-index l.more)) ≡ l.initial.self.scope ++ map var_text
      (map tail_var l.more);
  noted : fold (name_noted (names_known l.initial.self)) l.self.earliest.first
      (uses_of_vars (drop l.outer l.self.scope) (map tail_var (drop l.tail-index l.more)))
      ≡ fold (name_noted (names_known l.initial.self)) l.initial.self.earliest.first
      (uses_of_vars (drop l.outer l.initial.self.scope) (map tail_var l.more));
}
