-- What callers have to show of terms.
use Rattle.std.specs.Prelude.{[], false}
use Rattle.kb_logic.specs.Bounds.{TermIsBounded}
use Rattle.kb_logic.specs.Domains.{AreDomainsOf}
use Rattle.kb_logic.specs.Trees.{TermTree}
use Rattle.kb_logic.specs.Typing.{TermIsTypedOver}
use Rattle.term_values.specs.GroundBases.{GroundBase}
use Rattle.def_ground.specs.GroundForms.{IsSide}
use Rattle.term_walk.specs.Askable.{IsAskable}

-- a well typed term whose bounds are small can be made a number and weighted literals
abbrev pub BoundedAreAskable : Type 0
BoundedAreAskable =
    (b : GroundBase) (t : TermTree) → AreDomainsOf b.vocabulary b.domains → TermIsTypedOver b.vocabulary b.domains t []
    → IsSide false t → TermIsBounded b.vocabulary b.domains t [] → IsAskable b t
