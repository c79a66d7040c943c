-- What becomes of kept literals as choices come and go.
use Rattle.std.specs.Prelude.{◌≡◌, ◌↔◌, List, [], ◌∷◌, ◌++◌, All, IsTrue}
use Rattle.kb_logic.specs.declared.structures.Literal.{Literal}
use Rattle.kb_logic.specs.Bases.{Base}
use Rattle.lit_core.specs.declared.literals.Lit.{Lit}
use Rattle.consequences.specs.declared.kept.Kept.{Kept}
use Rattle.kept_supports.specs.Supports.{same_lit, IsSupported, unsupported}

-- the test of two literals tells exactly whether they are equal
abbrev pub SameLitIsEquality : Type 0
SameLitIsEquality = (a b : Lit) → IsTrue (same_lit a b) ↔ (a ≡ b)

-- one choice more leaves them supported
abbrev pub ChoicesMayGrow : Type 0
ChoicesMayGrow = (kb : Base) (choices : List Literal) (l : Literal) (ks : List Kept) → All (IsSupported kb choices) ks
    → All (IsSupported kb (choices ++ l ∷ [])) ks

-- those that need no support stay where there are no choices left
abbrev pub ChoicesMayGo : Type 0
ChoicesMayGo = (kb : Base) (choices : List Literal) (ks : List Kept) → All (IsSupported kb choices) ks
    → All (IsSupported kb []) (unsupported ks)
