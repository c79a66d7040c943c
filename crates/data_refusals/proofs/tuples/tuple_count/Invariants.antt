use Rattle.std.proofs.Common.{◌≡◌, ◌*◌, ℕ, List, drop, fold}
use Rattle.kb_logic.specs.declared.vocabularies.TypeDecl.{TypeDecl}
use Rattle.stage_definitions.specs.Elements.{count_of}
use Rattle.stage_definitions.specs.DataEntries.{Said}
use Rattle.stage_definitions.specs.DataDomains.{cells_of}
use Rattle.stage_definitions.specs.DataFacts.{tuple_count}
use Rattle.stage_definitions.specs.SizesStage.{capped}
use Rattle.data_domains.specs.TypeSets.{AreTypesOf}
use Rattle.data_refusals.proofs.tuples.tuple_count.Given as goal

abbrev pub invariant-loop-ty : goal.invariant-loop-ty
invariant-loop-ty l = (all : List TypeDecl) (es : List Said) → AreTypesOf all es l.types
    → (n : ℕ) × (l.count ≡ capped n) × (fold (λ (m t : ℕ). m * count_of (cells_of all es t)) n (drop l.ty-index l.args)
    ≡ tuple_count all es l.args)
