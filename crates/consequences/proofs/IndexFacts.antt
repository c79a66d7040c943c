-- Literals that are hashed beside those that are kept.
use Rattle.std.proofs.Common.{◌≡◌, ◌↔◌, Bool, true, false, if◌then◌else◌, eqb, List, [], ◌∷◌, ◌++◌, Contains, IsTrue}
use Rattle.std.proofs.Common.{refl, sym, ◌∙◌, subst, inl, inr, ◌⊎◌, ⊎_elim}
use Rattle.std.specs.Bool.{beq}
use Rattle.std.specs.List.{Any, list_any}
use Rattle.std.proofs.lemmas.Bool.{and_parts, and_from, eqb-true, eq-eqb}
use Rattle.std.proofs.lemmas.List.Elements.{Contains-push, Contains-push_cases, Contains-append_left}
use Rattle.std.proofs.lemmas.List.Quantifiers.{Any-push}
use Rattle.indexmap.specs.IndexSet.{insert_key}
use Rattle.kb_logic.proofs.Members.{some_one, one_is_some}
use Rattle.lit_core.specs.declared.literals.Lit.{Lit}
use Rattle.lit_core.specs.contracts.literals.LitPartialEq.TheImpl as same_lit
use Rattle.lit_core.proofs.LiteralFacts.{same_literal}
use Rattle.ground_core.proofs.CoreFacts.{any-left}
use Rattle.consequences.specs.declared.kept.Kept.{Kept}
use Rattle.consequences.specs.Indexed.{IsIndexed, IsSetOf}

abbrev pub zero_lit : Lit
zero_lit = record { var = record { 0 = 0 }; positive = false }

abbrev same : Lit → Lit → Bool
same = same_lit.eq-value.it

same-is : (x y : Lit) → same x y ≡ true → x ≡ y
same-is x y e =
    let both = and_parts (eqb x.var.0 y.var.0) (beq x.positive y.positive) e in
    same_literal x y (eqb-true x.var.0 y.var.0 both.0) (signs x.positive y.positive both.1)
  where
    signs : (p q : Bool) → beq p q ≡ true → p ≡ q
    signs true true h = refl
    signs true false h = cc
    signs false true h = cc
    signs false false h = refl

same-itself : (x : Lit) → same x x ≡ true
same-itself x = and_from (eqb x.var.0 x.var.0) (beq x.positive x.positive) (eq-eqb x.var.0 x.var.0 refl)
    (signs x.positive)
  where
    signs : (p : Bool) → beq p p ≡ true
    signs true = refl
    signs false = refl

there : (lits : List Lit) (l : Lit) → list_any (same l) lits ≡ true → Contains lits l
there lits l e = let r = some_one (same l) lits e in subst (Contains lits) (sym (same-is l r.0 r.2)) r.1

-- a literal is found exactly where it is one of these
pub has-key : (lits : List Lit) (l : Lit) (b : Bool) → b ≡ list_any (same l) lits → IsTrue b ↔ Contains lits l
has-key lits l b is = (
  λ t. there lits l (sym is ∙ t),
  λ has. is ∙ one_is_some (same l) lits l has (same-itself l),
)

-- and exactly where it is kept
pub looked-up : (lits : List Lit) (ks : List Kept) (l : Lit) (b : Bool) → IsIndexed lits ks
    → b ≡ list_any (same l) lits → IsTrue b ↔ Any (λ (k : Kept). k.lit ≡ l) ks
looked-up lits ks l b h is =
    let key = has-key lits l b is in (
      λ t. (h l).0 (key.0 t),
      λ any. key.1 ((h l).1 any),
    )

-- one literal more, which may be there
module _ (lits : List Lit) (x l : Lit) where
  inserted : (b : Bool) → Contains (if b then lits else lits ++ x ∷ []) l → Contains lits l ⊎ (x ≡ l)
  inserted true has = inl has
  inserted false has = Contains-push_cases lits x l has

  still : (b : Bool) → list_any (same x) lits ≡ b → Contains lits l ⊎ (x ≡ l)
      → Contains (if b then lits else lits ++ x ∷ []) l
  still true e way = ⊎_elim (λ h. h) (λ is. subst (Contains lits) is (there lits x e)) way
  still false e way = ⊎_elim
      (λ h. Contains-append_left lits (x ∷ []) l h)
      (λ is. subst (Contains (lits ++ x ∷ [])) is (Contains-push lits x))
      way

-- and in the list one more
pub one-more : (lits new list longer : List Lit) (x : Lit) → IsSetOf lits list → new ≡ insert_key same lits x
    → longer ≡ list ++ x ∷ [] → IsSetOf new longer
one-more lits new list longer x h is more = λ l. (
  λ has. subst (λ (ls : List Lit). Contains ls l) (sym more)
      (⊎_elim (λ old. Contains-append_left list (x ∷ []) l ((h l).0 old))
      (λ e. subst (Contains (list ++ x ∷ [])) e (Contains-push list x))
      (inserted lits x l (list_any (same x) lits) (subst (λ (ls : List Lit). Contains ls l) is has))),
  λ has. subst (λ (ls : List Lit). Contains ls l) (sym is)
      (still lits x l (list_any (same x) lits) refl (⊎_elim (λ old. inl ((h l).1 old)) (λ e. inr e)
      (Contains-push_cases list x l (subst (λ (ls : List Lit). Contains ls l) more has)))),
)

-- and one that is kept more
pub kept-one : (lits new : List Lit) (ks longer : List Kept) (k : Kept) → IsIndexed lits ks
    → new ≡ insert_key same lits k.lit → longer ≡ ks ++ k ∷ [] → IsIndexed new longer
kept-one lits new ks longer k h is more = λ l.
    let P : Kept → Type 0 = λ (j : Kept). j.lit ≡ l in (
      λ has. subst (Any P) (sym more)
          (⊎_elim (λ old. any-left P ks (k ∷ []) ((h l).0 old)) (λ e. Any-push P ks k e)
          (inserted lits k.lit l (list_any (same k.lit) lits) (subst (λ (ls : List Lit). Contains ls l) is has))),
      λ any. subst (λ (ls : List Lit). Contains ls l) (sym is)
          (still lits k.lit l (list_any (same k.lit) lits) refl (before l (subst (Any P) more any))),
    )
  where
    before : (l : Lit) → Any (λ (j : Kept). j.lit ≡ l) (ks ++ k ∷ []) → Contains lits l ⊎ (k.lit ≡ l)
    before l any = ⊎_elim
        (λ old. inl ((h l).1 (old.0, any.1, old.1, old.2, any.4)))
        (λ is. inr (subst (λ (j : Kept). j.lit ≡ l) (sym is) any.4))
        (Contains-push_cases ks k any.1 (any.0, any.2, any.3))
