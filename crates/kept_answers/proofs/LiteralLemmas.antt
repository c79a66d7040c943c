-- Equal literals, and opposite ones.
use Rattle.std.proofs.Common.{◌≡◌, ◌∙◌, ℕ, List, refl, sym, ap, Bool, true, false, ◌&&◌, ◌==◌, not, Option, Some, None}
use Rattle.std.specs.Bool.{Decides}
use Rattle.std.proofs.lemmas.Bool.{false≢true}
use Rattle.std.proofs.lemmas.Bool.Decides.{Decides-and, Decides-like, Decides-eqb}
use Rattle.kb_logic.specs.declared.elements.Elem.{Elem}
use Rattle.kb_logic.specs.declared.structures.Structure.{Structure}
use Rattle.kb_logic.specs.declared.structures.Literal.{Literal}
use Rattle.kb_logic.specs.Models.{AtomHolds, atom_of, HoldsWithSign, HoldsIn}
use Rattle.consult_text.specs.States.{same_row, same_sign, same_given_value, same_literal}
use Rattle.kept_answers.proofs.ElementLemmas.{same_elem_decides, same_row_decides}

same_sign_decides : (a b : Bool) → Decides (same_sign a b) (a ≡ b)
same_sign_decides true b = ((λ is. sym is), (λ is. sym is))
same_sign_decides false true = ((λ is. absurd (false≢true is)), (λ is. absurd (false≢true is)))
same_sign_decides false false = ((λ is. refl), (λ is. refl))

pub same_value_decides : (a b : Option Elem) → Decides (same_given_value a b) (a ≡ b)
same_value_decides None None = ((λ is. refl), (λ is. refl))
same_value_decides None (Some y) = ((λ is. absurd (false≢true is)), (λ is. cc))
same_value_decides (Some x) None = ((λ is. absurd (false≢true is)), (λ is. cc))
same_value_decides (Some x) (Some y) =
    ((λ is. ap (λ (z : Elem). Some z) ((same_elem_decides x y).0 is)), (λ is. (same_elem_decides x y).1 (cc is)))

parts_are_same : (a b : Literal) → ((a.positive ≡ b.positive) × (a.symbol ≡ b.symbol))
    × ((a.args ≡ b.args) × (a.value ≡ b.value)) → a ≡ b
parts_are_same a b same =
    ap (λ (p : Bool). record a { positive = p }) same.0.0
    ∙ (ap (λ (s : ℕ). record { positive = b.positive; symbol = s; args = a.args; value = a.value }) same.0.1
    ∙ (ap (λ (l : List Elem). record { positive = b.positive; symbol = b.symbol; args = l; value = a.value }) same.1.0
    ∙ ap (λ (v : Option Elem). record { positive = b.positive; symbol = b.symbol; args = b.args; value = v }) same.1.1))

pub same_literal_decides : (a b : Literal) → Decides (same_literal a b) (a ≡ b)
same_literal_decides a b =
    Decides-like (same_literal a b) (parts_are_same a b)
    (λ same. (
      (ap (λ (l : Literal). l.positive) same, ap (λ (l : Literal). l.symbol) same),
      (ap (λ (l : Literal). l.args) same, ap (λ (l : Literal). l.value) same),
    ))
    (Decides-and (same_sign a.positive b.positive && (a.symbol == b.symbol))
    (same_row a.args b.args && same_given_value a.value b.value)
    (Decides-and (same_sign a.positive b.positive) (a.symbol == b.symbol) (same_sign_decides a.positive b.positive)
    (Decides-eqb a.symbol b.symbol))
    (Decides-and (same_row a.args b.args) (same_given_value a.value b.value) (same_row_decides a.args b.args)
    (same_value_decides a.value b.value)))

-- a literal and its opposite are not both true
pub opposites_clash : (m : Structure) (l : Literal) → HoldsIn m l
    → HoldsIn m (record l { positive = not l.positive }) → ⊥
opposites_clash m l = clash (AtomHolds m (atom_of l)) l.positive
  where
    clash : (A : Type 0) (sign : Bool) → HoldsWithSign sign A → HoldsWithSign (not sign) A → ⊥
    clash A true holds fails = fails holds
    clash A false fails holds = fails holds
