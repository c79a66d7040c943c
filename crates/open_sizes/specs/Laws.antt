-- What the definitions say, in the subject's own words.
use Rattle.std.specs.Prelude.{◌≡◌, ◌≤◌, List, []}
use Rattle.std.specs.List.{AllByRecursion}
use Rattle.kb_logic.specs.declared.vocabularies.Vocabulary.{Vocabulary}
use Rattle.kb_logic.specs.Bounds.{TermIsBounded, TheoryIsBounded}
use Rattle.kb_logic.specs.KnownAtoms.{KnownAtoms}
use Rattle.kb_logic.specs.Trees.{TermTree, TheoryTree}
use Rattle.kb_logic.specs.Weights.{weight_of}
use Rattle.partial_structures.specs.Consistency.{IsConsistent}
use Rattle.open_sizes.specs.Fits.{WeighingFits}
use Rattle.open_sizes.specs.OpenWeights.{open_weight_of}

-- what is open never weighs more than the whole
abbrev pub OpenIsLess : Type 0
OpenIsLess =
    (v : Vocabulary) (k : KnownAtoms) → k.symbols ≡ v.symbols → (t : TheoryTree) (terms : List TermTree)
    → open_weight_of v k t terms ≤ weight_of v k.domains t terms

-- a theory and terms with small static bounds meet the condition of `open_weight`
abbrev pub SmallBasesFit : Type 0
SmallBasesFit =
    (v : Vocabulary) (k : KnownAtoms) → k.symbols ≡ v.symbols → IsConsistent k → (t : TheoryTree)
    (terms : List TermTree) → TheoryIsBounded v k.domains t
    → AllByRecursion (λ u. TermIsBounded v k.domains u []) terms → WeighingFits k t terms
