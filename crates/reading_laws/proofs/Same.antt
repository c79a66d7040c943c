-- The tests of equality decide.
use Rattle.std.proofs.Common.{◌≡◌, true, Option, None, Some, refl, sym, ap, ◌∙◌, inl, inr}
use Rattle.std.proofs.lemmas.Bool.{cases_Bool, true≢false, false_from_ne_true}
use Rattle.std.proofs.lemmas.Bool.Decides.{Decides-int_eq}
use Rattle.std.proofs.lemmas.Slice.Eq.{bytes_eq-Decides}
use Rattle.kb_logic.specs.declared.elements.Elem.{Elem}
use Rattle.kb_logic.specs.declared.elements.Elem.TheVariants.{Named, Num}
use Rattle.stage_definitions.specs.Elements.{same_element}
use Rattle.stage_definitions.specs.DataFacts.{same_value_of}

pub is_same : (x y : Elem) → same_element x y ≡ true → x ≡ y
is_same (Named q) (Named r) h = ap Named ((bytes_eq-Decides q r).0 h)
is_same (Named q) (Num z) h = absurd (cc)
is_same (Num y) (Named r) h = absurd (cc)
is_same (Num y) (Num z) h = ap Num ((Decides-int_eq y z).0 h)

pub itself : (x : Elem) → same_element x x ≡ true
itself (Named q) = (bytes_eq-Decides q q).1 refl
itself (Num z) = (Decides-int_eq z z).1 refl

pub same_value_is : (o u : Option Elem) → same_value_of o u ≡ true → o ≡ u
same_value_is None None h = refl
same_value_is None (Some y) h = absurd (cc)
same_value_is (Some x) None h = absurd (cc)
same_value_is (Some x) (Some y) h = ap Some (is_same x y h)

pub value_itself : (o : Option Elem) → same_value_of o o ≡ true
value_itself None = refl
value_itself (Some x) = itself x

pub value_back : (o u : Option Elem) → same_value_of o u ≡ same_value_of u o
value_back o u = elim (cases_Bool (same_value_of u o)) [
  | inl e ↦ ap (λ w. same_value_of o w) (same_value_is u o e) ∙ value_itself o ∙ sym e
  | inr e ↦ false_from_ne_true (same_value_of o u) (λ t. true≢false
      (sym (ap (λ w. same_value_of w o) (sym (same_value_is o u t)) ∙ value_itself o) ∙ e)) ∙ sym e
]
