use Rattle.std.proofs.Common.{◌≡◌, ◌≤◌, ◌^◌, length}
use Rattle.kb_logic.specs.Views.{theory_view}
use Rattle.partial_structures.specs.Consistency.{KnowsMore}
use Rattle.quantifier_bounds.specs.Fits.{TheoryFits}
use Rattle.refinement.specs.Passes.{ObeysTheory}
use Rattle.quantifier_bounds.specs.Steps.{IsSound, unknown_atoms}
use Rattle.refinement.proofs.passes.narrow.Given as goal

-- what the theory fixes alone was made known
abbrev pub invariant-passes : goal.invariant-passes
invariant-passes l = record {
  symbols : l.setting.symbols.now ≡ l.known.symbols;
  domains : l.setting.domains.now ≡ l.known.domains;
  few : length l.known.symbols ≤ 2 ^ 32;
  fits : TheoryFits l.known.symbols l.known.domains (theory_view l.theory);
  more : KnowsMore l.fn.known l.known;
  sound : IsSound l.fn.known l.known (ObeysTheory (theory_view l.theory));
}

abbrev pub decreases-passes : goal.decreases-passes
decreases-passes l = unknown_atoms l.known
