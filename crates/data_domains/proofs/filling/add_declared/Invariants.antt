use Rattle.std.proofs.Common.{◌≡◌, ◌++◌, List, ℕ, drop, map}
use Rattle.kb_logic.specs.declared.elements.Elem.TheVariants.{Named}
use Rattle.stage_definitions.specs.Elements.{Cell, one}
use Rattle.stage_definitions.specs.DataDomains.{made_cells}
use Rattle.data_domains.specs.Shares.{Takes}
use Rattle.data_domains.proofs.filling.add_declared.Given as goal

abbrev pub invariant-loop-name : goal.invariant-loop-name
invariant-loop-name l = (before : List Cell) × Takes l.fn.data l.data before
    × (before ++ map (λ (n : List ℕ). one (Named n)) (drop l.name-index l.decl.made) ≡ made_cells l.decl)
