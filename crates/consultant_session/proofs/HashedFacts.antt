-- Literals of variables that are hashed.
use Rattle.std.proofs.Common.{◌≡◌, ◌≢◌, ◌↔◌, ◌⊎◌, Bool, true, false, cond, eqb, List, Contains, IsTrue}
use Rattle.std.proofs.Common.{refl, sym, ◌∙◌, ap, subst, inl, inr, ⊎_elim}
use Rattle.std.specs.Bool.{beq}
use Rattle.std.specs.List.{list_any}
use Rattle.std.proofs.lemmas.Bool.{and_parts, and_from, eqb-true, eq-eqb, cases_Bool, false≢true}
use Rattle.kb_logic.proofs.Members.{some_one, one_is_some}
use Rattle.lit_core.specs.declared.literals.Lit.{Lit}
use Rattle.lit_core.specs.contracts.literals.LitPartialEq.TheImpl as same_lit
use Rattle.lit_core.proofs.LiteralFacts.{same_literal}

abbrev same : Lit → Lit → Bool
same = same_lit.eq-value.it

same-is : (x y : Lit) → same x y ≡ true → x ≡ y
same-is x y e =
    let both = and_parts (eqb x.var.0 y.var.0) (beq x.positive y.positive) e in
    same_literal x y (eqb-true x.var.0 y.var.0 both.0) (signs x.positive y.positive both.1)
  where
    signs : (p q : Bool) → beq p q ≡ true → p ≡ q
    signs true true h = refl
    signs true false h = cc
    signs false true h = cc
    signs false false h = refl

same-itself : (x : Lit) → same x x ≡ true
same-itself x = and_from (eqb x.var.0 x.var.0) (beq x.positive x.positive) (eq-eqb x.var.0 x.var.0 refl)
    (signs x.positive)
  where
    signs : (p : Bool) → beq p p ≡ true
    signs true = refl
    signs false = refl

there : (lits : List Lit) (l : Lit) → list_any (same l) lits ≡ true → Contains lits l
there lits l e = let r = some_one (same l) lits e in subst (Contains lits) (sym (same-is l r.0 r.2)) r.1

here : (lits : List Lit) (l : Lit) → Contains lits l → list_any (same l) lits ≡ true
here lits l has = one_is_some (same l) lits l has (same-itself l)

-- what the test tells
pub told : (lits : List Lit) (l : Lit) (b : Bool) → b ≡ list_any (same l) lits → IsTrue b ↔ Contains lits l
told lits l b is = (λ t. there lits l (sym is ∙ t), λ has. is ∙ here lits l has)

-- one that is among them, or not, after the literal x came or went
module _ (old new : List Lit) (x q : Lit) where
  abbrev HasIf : Bool → Type 0
  HasIf b = list_any (same q) new ≡ cond (same x q) b (list_any (same q) old)

  is-it : q ≡ x → same x q ≡ true
  is-it e = subst (λ (y : Lit). same x y ≡ true) (sym e) (same-itself x)

  pub one-more : HasIf true → Contains new q ↔ (Contains old q ⊎ (q ≡ x))
  one-more has = (
    (λ after. elim (cases_Bool (same x q)) [
      | inl it ↦ inr (sym (same-is x q it))
      | inr other ↦
          inl (there old q (sym (has ∙ ap (λ (b : Bool). cond b true (list_any (same q) old)) other)
          ∙ here new q after))
    ]),
    (λ way. there new q (has ∙ ⊎_elim
        (λ before. ap (λ (b : Bool). cond (same x q) true b) (here old q before) ∙ either (same x q))
        (λ is. ap (λ (b : Bool). cond b true (list_any (same q) old)) (is-it is))
        way)),
  )
    where
      either : (b : Bool) → cond b true true ≡ true
      either true = refl
      either false = refl

  pub one-less : HasIf false → Contains new q ↔ (Contains old q × (q ≢ x))
  one-less has = (
    (λ after. elim (cases_Bool (same x q)) [
      | inl it ↦
          absurd (false≢true (sym (has ∙ ap (λ (b : Bool). cond b false (list_any (same q) old)) it)
          ∙ here new q after))
      | inr other ↦ (
        there old q (sym (has ∙ ap (λ (b : Bool). cond b false (list_any (same q) old)) other) ∙ here new q after),
        λ is. false≢true (sym other ∙ is-it is),
      )
    ]),
    (λ both. elim (cases_Bool (same x q)) [
      | inl it ↦ absurd (both.1 (sym (same-is x q it)))
      | inr other ↦
          there new q (has ∙ ap (λ (b : Bool). cond b false (list_any (same q) old)) other ∙ here old q both.0)
    ]),
  )
