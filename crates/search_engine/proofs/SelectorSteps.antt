-- Selectors whose variables have steps.
use Rattle.std.proofs.Common.{◌≡◌, ℕ, ◌≤◌, Bool, true, false, ◌||◌, slice_get, Some, None, List, [], ◌∷◌, Contains, All}
use Rattle.std.proofs.Common.{length, map, eqb, eq-eqb, refl, sym, ap, ◌∙◌, subst, arith, ⊎_elim, zero, suc}
use Rattle.std.proofs.lemmas.List.Elements.{All-head, All-tail, All-weaker, All-contains_itself}
use Rattle.std.specs.List.{list_any}
use Rattle.std.proofs.lemmas.List.{length-map}
use Rattle.std.proofs.lemmas.Map.Made.{length-le_from_is_member}
use Rattle.std.proofs.lemmas.Option.{same_Some}
use Rattle.std.proofs.lemmas.Bool.{cases_eq, ne_eqb}
use Rattle.lit_core.specs.declared.literals.Lit.{Lit}
use Rattle.clause_store.specs.declared.trails.Step.{Step}
use Rattle.ground_core.specs.Selectors.{AreSelectors, variables_of}
use Rattle.ground_core.proofs.SelectorFacts.{eqb-laws}

-- the variables of steps
abbrev numbers_made : List Step → List ℕ
numbers_made steps = map (λ (t : Step). t.lit.var.0) steps

made-number : (steps : List Step) (k : ℕ) (t : Step) (n : ℕ) → slice_get steps k ≡ Some t → n ≡ t.lit.var.0
    → list_any (eqb n) (numbers_made steps) ≡ true
made-number [] k t n at e = absurd (let x : None ≡ Some t = at in cc)
made-number (u ∷ us) zero t n at e = let same : u ≡ t = same_Some u t at in let here : eqb n u.lit.var.0 ≡ true =
    eq-eqb n u.lit.var.0 (e ∙ ap (λ (x : Step). x.lit.var.0) (sym same)) in
    ap (λ b. b || list_any (eqb n) (numbers_made us)) here
made-number (u ∷ us) (suc k) t n at e = or-later (eqb n u.lit.var.0) (list_any (eqb n) (numbers_made us))
    (made-number us k t n at e)
  where
    or-later : (a b : Bool) → b ≡ true → (a || b) ≡ true
    or-later true b h = refl
    or-later false b h = h

all-made : (ls : List Lit) (steps : List Step) → All (λ (l : Lit). list_any (eqb l.var.0) (numbers_made steps) ≡ true)
    ls → (q : ℕ) → list_any (eqb q) (variables_of ls) ≡ true → list_any (eqb q) (numbers_made steps) ≡ true
all-made [] steps h q e = absurd (let x : false ≡ true = e in cc)
all-made (l ∷ ls) steps h q e = ⊎_elim
    (λ (same : q ≡ l.var.0). subst (λ (n : ℕ). list_any (eqb n) (numbers_made steps) ≡ true) (sym same)
    (All-head (λ (m : Lit). list_any (eqb m.var.0) (numbers_made steps) ≡ true) l ls h))
    (λ ne. all-made ls steps (All-tail (λ (m : Lit). list_any (eqb m.var.0) (numbers_made steps) ≡ true) l ls h) q
    (let no : eqb q l.var.0 ≡ false = ne_eqb q l.var.0 ne in
    sym (ap (λ b. b || list_any (eqb q) (variables_of ls)) no) ∙ e))
    (cases_eq q l.var.0)

-- selectors that each have a step are no more than the steps
pub few-made : (ls : List Lit) (steps : List Step) → AreSelectors ls
    → ((l : Lit) → Contains ls l → (k : ℕ) × (t : Step) × (slice_get steps k ≡ Some t) × (l.var.0 ≡ t.lit.var.0))
    → length ls ≤ length steps
few-made ls steps h made =
    let all : All (λ (l : Lit). list_any (eqb l.var.0) (numbers_made steps) ≡ true) ls =
    All-weaker (Contains ls) (λ (l : Lit). list_any (eqb l.var.0) (numbers_made steps) ≡ true) (λ l has. let w =
    made l has in made-number steps w.0 w.1 l.var.0 w.2 w.3) ls (All-contains_itself ls) in
    let le : length (variables_of ls) ≤ length (numbers_made steps) = length-le_from_is_member eqb-laws
    (variables_of ls) (numbers_made steps) h.once (all-made ls steps all) in
    let a : length (variables_of ls) ≡ length ls = length-map ls (λ (l : Lit). l.var.0) in
    let b : length (numbers_made steps) ≡ length steps = length-map steps (λ (t : Step). t.lit.var.0) in
    omega (arith, le, a, b)
