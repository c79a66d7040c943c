-- Equal elements and rows.
use Rattle.std.proofs.Common.{◌≡◌, ℕ, List, refl, ap, ℤ}
use Rattle.std.specs.Bool.{Decides}
use Rattle.std.proofs.lemmas.Bool.{false≢true}
use Rattle.std.proofs.lemmas.Bool.Decides.{Decides-int_eq}
use Rattle.std.proofs.lemmas.Slice.Eq.{bytes_eq-Decides, slice_eq-Decides}
use Rattle.kb_logic.specs.declared.elements.Elem.{Elem}
use Rattle.kb_logic.specs.declared.elements.Elem.TheVariants.{Named, Num}
use Rattle.consult_text.specs.States.{same_elem, same_row}

pub same_elem_decides : (x y : Elem) → Decides (same_elem x y) (x ≡ y)
same_elem_decides (Named a) (Named b) = (
  (λ same. ap (λ (n : List ℕ). Named n) ((bytes_eq-Decides a b).0 same)),
  (λ same. (bytes_eq-Decides a b).1 (cc same)),
)
same_elem_decides (Named a) (Num b) = ((λ same. absurd (false≢true same)), (λ same. cc same))
same_elem_decides (Num a) (Named b) = ((λ same. absurd (false≢true same)), (λ same. cc same))
same_elem_decides (Num a) (Num b) =
    ((λ same. ap (λ (n : ℤ). Num n) ((Decides-int_eq a b).0 same)), (λ same. (Decides-int_eq a b).1 (cc same)))

pub same_row_decides : (r t : List Elem) → Decides (same_row r t) (r ≡ t)
same_row_decides r t = slice_eq-Decides same_elem_decides r t (same_row r t) refl
