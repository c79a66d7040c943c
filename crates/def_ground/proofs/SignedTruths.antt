-- What formulas say together, each with one sign.
use Rattle.std.proofs.Common.{◌≡◌, Bool, true, false, not, ◌&&◌, ◌||◌, List, refl, sym, ap}
use Rattle.kb_logic.specs.declared.elements.Elem.{Elem}
use Rattle.kb_logic.specs.declared.structures.Structure.{Structure}
use Rattle.kb_logic.specs.Trees.{FormulaTree, FormulaTrees, no_formulas, more_formulas}
use Rattle.kb_logic.specs.Meaning.{truth_of, all_true, any_true}
use Rattle.def_ground.proofs.AssertSteps.{signed-truth, or-false}

-- what all of the formulas say together with this sign, and what one of them says
abbrev pub all-signed : Bool → Structure → FormulaTrees → List Elem → Bool
all-signed true m fs e = all_true m fs e
all-signed false m fs e = not (any_true m fs e)

abbrev pub any-signed : Bool → Structure → FormulaTrees → List Elem → Bool
any-signed true m fs e = any_true m fs e
any-signed false m fs e = not (all_true m fs e)

not-or : (c d : Bool) → (not c && not d) ≡ not (c || d)
not-or true d = refl
not-or false d = refl

not-and : (c d : Bool) → (not c || not d) ≡ not (c && d)
not-and true d = refl
not-and false d = refl

pub all-step : (sign : Bool) (m : Structure) (f : FormulaTree) (fs : FormulaTrees) (e : List Elem)
    → (signed-truth sign (truth_of m f e) && all-signed sign m fs e) ≡ all-signed sign m (more_formulas f fs) e
all-step true m f fs e = refl
all-step false m f fs e = not-or (truth_of m f e) (any_true m fs e)

pub any-step : (sign : Bool) (m : Structure) (f : FormulaTree) (fs : FormulaTrees) (e : List Elem)
    → (signed-truth sign (truth_of m f e) || any-signed sign m fs e) ≡ any-signed sign m (more_formulas f fs) e
any-step true m f fs e = refl
any-step false m f fs e = not-and (truth_of m f e) (all_true m fs e)

pub any-last : (sign : Bool) (m : Structure) (f : FormulaTree) (e : List Elem)
    → signed-truth sign (truth_of m f e) ≡ any-signed sign m (more_formulas f no_formulas) e
any-last true m f e = sym (or-false (truth_of m f e))
any-last false m f e = ap not (last (truth_of m f e))
  where
    last : (c : Bool) → c ≡ (c && true)
    last true = refl
    last false = refl

pub all-none : (sign : Bool) (m : Structure) (e : List Elem) → all-signed sign m no_formulas e ≡ true
all-none true m e = refl
all-none false m e = refl

pub any-none : (sign : Bool) (m : Structure) (e : List Elem) → any-signed sign m no_formulas e ≡ false
any-none true m e = refl
any-none false m e = refl

pub signed-not : (sign c : Bool) → signed-truth (not sign) c ≡ signed-truth sign (not c)
signed-not true c = refl
signed-not false true = refl
signed-not false false = refl
