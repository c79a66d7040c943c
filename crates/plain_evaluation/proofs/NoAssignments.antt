-- Variables that have no assignment.
use Rattle.std.proofs.Common.{◌≡◌, ℕ, zero, suc, ◌+◌, ◌*◌, ◌<◌, ◌≤◌, ◌==◌, List, false, length, get_or, drop, refl, ap}
use Rattle.std.proofs.Common.{◌∙◌, arith}
use Rattle.std.proofs.lemmas.Nat.{mul-le}
use Rattle.kb_logic.specs.declared.elements.Elem.{Elem}
use Rattle.kb_logic.specs.declared.vocabularies.Bound.{Bound}
use Rattle.kb_logic.specs.Structures.{domain_at, choices}
use Rattle.kb_logic.proofs.Pairs.{length-pairs}
use Rattle.kb_logic.proofs.Assignments.{before}
use Rattle.plain_evaluation.proofs.Digits.{whole}

product_none : (n s m : ℕ) → n ≡ s * m → (s == 0) ≡ false → (n ≡ 0 → m ≡ 0) × (m ≡ 0 → n ≡ 0)
product_none n zero m e h = absurd cc
product_none n (suc s) zero e h = (λ none. refl, λ none. e ∙ omega arith)
product_none n (suc s) (suc m) e h =
    let some : 1 * 1 ≤ suc s * suc m = mul-le 1 1 (suc s) (suc m) (omega arith) (omega arith) in
    (λ none. absurd (omega (arith, none, e, some)), λ none. absurd (omega (arith, none)))

-- after a variable of a type with elements there are none exactly where there are none with it
pub none_behind : (domains : List (List Elem)) (bs : List Bound) (i : ℕ) (b : Bound) (dom : List Elem) → i < length bs
    → b ≡ get_or bs i b → dom ≡ domain_at domains b.ty → (length dom == 0) ≡ false
    → (length (choices domains (drop i bs)) ≡ 0 → length (choices domains (drop (i + 1) bs)) ≡ 0)
    × (length (choices domains (drop (i + 1) bs)) ≡ 0 → length (choices domains (drop i bs)) ≡ 0)
none_behind domains bs i b dom h at is some =
    product_none (length (choices domains (drop i bs))) (length dom) (length (choices domains (drop (i + 1) bs)))
    (ap length (whole domains bs i b dom h at is) ∙ length-pairs before (choices domains (drop (i + 1) bs)) dom) some
