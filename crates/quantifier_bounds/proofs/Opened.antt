-- The open instances of a formula, one after another.
use Rattle.std.proofs.Common.{◌≡◌, ℕ, zero, suc, ◌+◌, ◌<◌, List, [], ◌∷◌, ◌++◌, drop, filter, fold, length, Bool, true}
use Rattle.std.proofs.Common.{false}
use Rattle.std.proofs.Common.{if◌then◌else◌, Some, None, slice_get, refl, sym, ap, ◌∙◌, append_assoc, arith}
use Rattle.std.proofs.lemmas.List.{append-nil, at_drop_all}
use Rattle.kb_logic.specs.declared.elements.Elem.{Elem}
use Rattle.kb_logic.specs.Trees.{FormulaTree}
use Rattle.kb_logic.specs.KnownAtoms.{KnownAtoms}
use Rattle.certain_truth.specs.Certainty.{certain_truth}
use Rattle.quantifier_bounds.specs.Open.{with_open}
use Rattle.quantifier_bounds.specs.Steps.{is_unknown}

drop_front : {X : Type 0} (e a : List X) → drop (length e) (e ++ a) ≡ a
drop_front [] a = refl
drop_front (x ∷ e) a = drop_front e a

pub drop_next : {X : Type 0} (e : List X) (n : ℕ) (x : X) → slice_get e n ≡ Some x → drop n e ≡ x ∷ drop (suc n) e
drop_next [] n x h = absurd (cc)
drop_next (y ∷ e) zero x h = ap (λ z. z ∷ e) (one h)
  where
    one : {A : Type 0} {a b : A} → Some a ≡ Some b → a ≡ b
    one h = cc
drop_next (y ∷ e) (suc n) x h = drop_next e n x h

pub within : {X : Type 0} (e : List X) (n : ℕ) (x : X) → slice_get e n ≡ Some x → n < length e
within [] n x h = absurd (differ h)
  where
    differ : {A : Type 0} {a : A} → None ≡ Some a → ⊥
    differ h = cc
within (y ∷ e) zero x h = omega arith
within (y ∷ e) (suc n) x h = omega (arith, within e n x h)

pub drop_past : {X : Type 0} (e : List X) (n k : ℕ) → n ≡ length e + k → drop n e ≡ []
drop_past e n k h = at_drop_all (λ us. us) e n (omega (arith, h))

pub row_next : (e row : List Elem) (n first : ℕ) (x : Elem) → slice_get e n ≡ Some x → row ++ drop n e ≡ drop first e
    → (row ++ x ∷ []) ++ drop (n + 1) e ≡ drop first e
row_next e row n first x at is =
    let more : n + 1 ≡ suc n = omega arith in
    ap (λ m. (row ++ x ∷ []) ++ drop m e) more ∙ append_assoc row (x ∷ []) (drop (suc n) e)
    ∙ ap (λ us. row ++ us) (sym (drop_next e n x at)) ∙ is

pub row_end : (e row : List Elem) (n first k : ℕ) → n ≡ length e + k → row ++ drop n e ≡ drop first e
    → row ≡ drop first e
row_end e row n first k past is = sym (append-nil row) ∙ ap (λ us. row ++ us) (sym (drop_past e n k past)) ∙ is

module _ (k : KnownAtoms) (f : FormulaTree) (e : List Elem) where
  abbrev opens : List Elem → Bool
  opens a = is_unknown (certain_truth k f (e ++ a))

  one_row : (rows : List (List Elem)) (a : List Elem) (b : Bool)
      → (if b then rows ++ drop (length e) (e ++ a) ∷ [] else rows) ≡ rows ++ (if b then a ∷ [] else [])
  one_row rows a true = ap (λ r. rows ++ r ∷ []) (drop_front e a)
  one_row rows a false = sym (append-nil rows)

  joins : (rows : List (List Elem)) (a : List Elem) (rest : List (List Elem)) (b : Bool)
      → (rows ++ (if b then a ∷ [] else [])) ++ rest ≡ rows ++ (if b then a ∷ rest else rest)
  joins rows a rest true = append_assoc rows (a ∷ []) rest
  joins rows a rest false = ap (λ us. us ++ rest) (append-nil rows)

  pub all_open : (rows xs : List (List Elem)) → fold (λ rs a. with_open k f (length e) rs (e ++ a)) rows xs
      ≡ rows ++ filter (λ a. is_unknown (certain_truth k f (e ++ a))) xs
  all_open rows [] = sym (append-nil rows)
  all_open rows (a ∷ xs) =
      ap (λ rs. fold (λ us c. with_open k f (length e) us (e ++ c)) rs xs) (one_row rows a (opens a))
      ∙ all_open (rows ++ (if opens a then a ∷ [] else [])) xs ∙ joins rows a (filter opens xs) (opens a)
