use Rattle.std.proofs.Common.{◌≡◌, map, drop, fold}
use Rattle.std.specs.List.{AllByRecursion}
use Rattle.kb_logic.specs.Views.{rule_view}
use Rattle.partial_structures.specs.KnownAtoms.{atom_of}
use Rattle.partial_structures.specs.declared.truths.Truth.TheVariants.{No}
use Rattle.quantifier_bounds.specs.Fits.{RuleFits}
use Rattle.quantifier_bounds.specs.Rules.{told_by}
use Rattle.quantifier_bounds.proofs.derivation.derived.Given as goal

-- the rules that are left to ask
abbrev pub invariant-loop-at : goal.invariant-loop-at
invariant-loop-at l = record {
  fits : AllByRecursion (RuleFits l.known.symbols l.known.domains) (map rule_view (drop l.at l.rules));
  rest : fold (told_by l.known (atom_of l.atom)) l.told (map rule_view (drop l.at l.rules))
      ≡ fold (told_by l.known (atom_of l.atom)) No (map rule_view l.rules);
}
