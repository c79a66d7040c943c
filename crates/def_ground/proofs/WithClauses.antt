-- Clauses added one after another.
use Rattle.std.proofs.Common.{◌≡◌, ℕ, zero, suc, ◌+◌, ◌<◌, List, [], ◌∷◌, ◌++◌, length, take, Bool, true, false, Option}
use Rattle.std.proofs.Common.{Some, None, refl, ap, ◌∙◌, arith}
use Rattle.std.proofs.lemmas.List.{append-nil, append_assoc}
use Rattle.kb_logic.specs.declared.elements.Elem.{Elem}
use Rattle.lit_core.specs.declared.literals.Lit.{Lit}
use Rattle.ground_core.specs.Problems.{ProblemState}
use Rattle.ground_core.specs.Growth.{with_clause}
use Rattle.term_values.specs.GroundBases.{GroundBase, known_of}
use Rattle.def_ground.specs.Cases.{with_clauses}
use Rattle.def_ground.specs.Problems.{with_open, open_variables}

pub with_none : (p : ProblemState) → with_clauses p [] ≡ p
with_none p = ap (λ cs. record p { clauses = cs }) (append-nil p.clauses)

pub with_more : (p : ProblemState) (xs ys : List (List Lit))
    → with_clauses (with_clauses p xs) ys ≡ with_clauses p (xs ++ ys)
with_more p xs ys = ap (λ cs. record p { clauses = cs }) (append_assoc p.clauses xs ys)

pub with_one : (p : ProblemState) (xs : List (List Lit)) (c : List Lit)
    → with_clause (with_clauses p xs) c ≡ with_clauses p (xs ++ c ∷ [])
with_one p xs c = ap (λ cs. record p { clauses = cs }) (append_assoc p.clauses xs (c ∷ []))

open_more : (o : Option Bool) (n : ℕ) (xs ys : List Lit) → with_open o n (xs ++ ys) ≡ with_open o n xs ++ ys
open_more None n xs ys = refl
open_more (Some true) n xs ys = refl
open_more (Some false) n xs ys = refl

pub next_variable : (b : GroundBase) (n : ℕ) (xs : List Elem) (k : ℕ) → k < length xs
    → open_variables b n (take (k + 1) xs)
    ≡ open_variables b n (take k xs) ++ with_open (known_of b (n + k)) (n + k) []
next_variable b n [] k h = absurd (omega (arith, h))
next_variable b n (x ∷ xs) zero h =
    let number : n ≡ n + 0 = omega arith in ap (λ m. with_open (known_of b m) m []) number
next_variable b n (x ∷ xs) (suc k) h =
    let next : suc k + 1 ≡ suc (k + 1) = omega arith in
    let number : (n + 1) + k ≡ n + suc k = omega arith in
    ap (λ m. open_variables b n (take m (x ∷ xs))) next
    ∙ ap (with_open (known_of b n) n) (next_variable b (n + 1) xs k (omega (arith, h)))
    ∙ open_more (known_of b n) n (open_variables b (n + 1) (take k xs))
    (with_open (known_of b ((n + 1) + k)) ((n + 1) + k) [])
    ∙ ap (λ m. with_open (known_of b n) n (open_variables b (n + 1) (take k xs)) ++ with_open
    (known_of b m) m []) number
