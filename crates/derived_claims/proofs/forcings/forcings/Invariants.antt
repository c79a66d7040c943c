use Rattle.std.proofs.Common.{◌≡◌, All, take}
use Rattle.kb_logic.specs.Structures.{EachWith}
use Rattle.derived_claims.specs.Following.{IsForcing, IsOfLiteral}
use Rattle.derived_claims.specs.Statements.{Derived}
use Rattle.derived_claims.proofs.forcings.forcings.Given as goal

abbrev pub invariant-loop-literal : goal.invariant-loop-literal
invariant-loop-literal l = record {
  lits : l.lits.items ≡ l.initial.lits.items;
  derived : Derived l.initial.checker l.checker l.initial.text.items l.text.items;
  each : EachWith (IsOfLiteral l.numbers) (take l.literal-index l.literals) l.found.items;
  cites : All (IsForcing l.checker l.initial.lits.items) l.found.items;
}
