use Rattle.std.proofs.Common.{◌≡◌, ◌++◌, drop, map}
use Rattle.stage_definitions.specs.NamedViews.{var_view}
use Rattle.type_derivation.specs.ListedTrees as listed
use Rattle.type_derivation.proofs.trees.bound_vars.Given as goal

abbrev pub invariant-loop-var : goal.invariant-loop-var
invariant-loop-var l = record {
  bounds : l.bounds.items ++ listed.listed_vars l.types (map var_view (drop l.var-index l.vars))
      ≡ listed.listed_vars l.initial.types (map var_view l.vars);
  types : listed.left_vars l.types (map var_view (drop l.var-index l.vars)) ≡ listed.left_vars l.initial.types
      (map var_view l.vars);
}
