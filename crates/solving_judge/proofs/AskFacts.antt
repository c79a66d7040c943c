-- Sublists that are found from the front, and what the first term comes to.
use Rattle.std.proofs.Common.{◌≡◌, ◌↔◌, ℕ, Bool, List, [], ◌∷◌, inl, inr, ⊎_elim, Option, Some, None, slice_get}
use Rattle.std.proofs.Common.{refl, ap, ◌∙◌, length, arith, true, false, eqb, ◌&&◌}
use Rattle.std.proofs.Common.{Vec, Global, subst}
use Rattle.std.specs.Bool.{beq}
use Rattle.std.proofs.lemmas.Bool.{and_parts, eqb-true}
use Rattle.kb_logic.specs.declared.elements.ExtInt.{ExtInt}
use Rattle.lit_core.specs.declared.literals.Lit.{Lit}
use Rattle.lit_core.proofs.LiteralFacts.{same_literal}
use Rattle.ground_core.specs.Problems.{ProblemState}
use Rattle.ground_core.specs.Growing.{value_of_term}
use Rattle.ground_core.specs.Solving.{IsSublist}
use Rattle.ground_core.proofs.Sublists.{sublist-skip}
use Rattle.solving_judge.specs.declared.additions.Event.{Event}
use Rattle.solving_judge.specs.declared.asking.Outcome.{Outcome}
use Rattle.solving_judge.specs.declared.asking.Sides.{Sides}
use Rattle.solving_judge.specs.declared.problems.Spoken.{Spoken}
use Rattle.solving_judge.specs.Sayings.{IsFirstValue, problem_changed}
use Rattle.solving_judge.specs.Telling.{Tells, Told}

sublist-tail : {A : Type 0} (x : A) (xs ys : List A) → IsSublist (x ∷ xs) ys → IsSublist xs ys
sublist-tail x xs [] h = absurd h
sublist-tail x xs (y ∷ ys) h = ⊎_elim
    (λ both. sublist-skip y xs ys both.1)
    (λ more. sublist-skip y xs ys (sublist-tail x xs ys more))
    h

-- an item that comes next is taken
pub taken : {A : Type 0} (x y : A) (xs ys : List A) → x ≡ y → IsSublist xs ys ↔ IsSublist (x ∷ xs) (y ∷ ys)
taken x y xs ys e = (λ h. inl (e, h), λ h. ⊎_elim (λ both. both.1) (λ more. sublist-tail x xs ys more) h)

-- and another one is passed by
pub passed_by : {A : Type 0} (x y : A) (xs ys : List A) → (x ≡ y → ⊥) → IsSublist (x ∷ xs) ys ↔ IsSublist (x ∷ xs)
    (y ∷ ys)
passed_by x y xs ys off = (λ h. inr h, λ h. ⊎_elim (λ both. absurd (off both.0)) (λ more. more) h)

-- literals that compare as equal are the same
signs : (p q : Bool) → beq p q ≡ true → p ≡ q
signs true true h = refl
signs true false h = cc
signs false true h = cc
signs false false h = refl

pub same-lit : (x y : Lit) → (eqb x.var.0 y.var.0 && beq x.positive y.positive) ≡ true → x ≡ y
same-lit x y e = let both = and_parts (eqb x.var.0 y.var.0) (beq x.positive y.positive) e in
    same_literal x y (eqb-true x.var.0 y.var.0 both.0) (signs x.positive y.positive both.1)

-- at the end nothing may be left
pub nothing-left : {A : Type 0} (xs : List A) → (length xs ≡ 0) ↔ IsSublist xs []
nothing-left [] = (λ e. tt, λ h. refl)
nothing-left (x ∷ xs) = (λ e. absurd (omega (arith, e)), λ h. absurd h)

pub same-first : (p q : ProblemState) (v : ℕ → Bool) (value : Option ExtInt) → q.terms ≡ p.terms
    → IsFirstValue p v value → IsFirstValue q v value
same-first p q v None e h = e ∙ h
same-first p q v (Some n) e h = ap (λ ts. value_of_term (slice_get ts 0) v) e ∙ h

-- what is told of the same events and the same problem of brute force is the same
pub told-same : (spoken : Spoken) (r s : Sides) (ls : List Lit) (o : Outcome) → r.events ≡ s.events
    → r.force ≡ s.force → Told spoken r ls o → Told spoken s ls o
told-same spoken r s ls o e f h = λ given len.
    subst (λ (p : ProblemState). Tells (problem_changed given spoken.said.items s.events.items) p ls o) f
    (subst (λ (es : Vec Event Global). Tells (problem_changed given spoken.said.items es.items) r.force ls o) e
    (h given len))
