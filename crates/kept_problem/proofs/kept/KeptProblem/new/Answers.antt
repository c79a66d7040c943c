use Rattle.std.proofs.Common.{◌≡◌, [], true, sym, subst, arith}
use Rattle.std.proofs.lemmas.List.Elements.{All-nil}
use Rattle.lit_core.specs.declared.literals.Lit.{Lit}
use Rattle.ground_core.specs.Problems.{IsLitOf, AreLitsOf, IsGateOf, IsSumOf, IsTermOf, IsBoundOf}
use Rattle.ground_core.specs.Selectors.{AreSelectors}
use Rattle.ground_core.proofs.SelectorFacts.{distinct-nil}
use Rattle.kept_problem.proofs.kept.KeptProblem.new.Goals as goal

no-selectors : AreSelectors []
no-selectors = record { once = distinct-nil; positive = All-nil (λ (l : Lit). l.positive ≡ true) }

pub invariant_of-result : goal.invariant_of-result
invariant_of-result c = record {
  laws = rw (
    c.from_list.ensures,
    c.new.ensures,
    c.new-2.ensures.items,
    c.new-3.ensures,
    c.new-4.ensures.items,
    c.new-5.ensures.items,
    c.new-6.ensures.items,
    c.new-7.ensures.items,
  ) (record {
    atoms = omega arith;
    gates = All-nil (IsGateOf 0);
    clauses = All-nil (AreLitsOf 0);
    sums = All-nil (IsSumOf 0);
    terms = All-nil (IsTermOf 0);
    bounds = All-nil (IsBoundOf 0 []);
    retired = All-nil (IsLitOf 0);
  });
  retired = subst AreSelectors (sym c.new-7.ensures.items) no-selectors;
  room = omega arith;
}
