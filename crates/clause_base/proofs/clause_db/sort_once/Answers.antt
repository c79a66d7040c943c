use Rattle.std.proofs.Common.{◌≡◌, Bool, true, false, eqb, List, length, refl, sym, ap, ◌∙◌, subst, IsPermutation}
use Rattle.std.specs.Bool.{beq}
use Rattle.std.specs.List.{dedup, refill}
use Rattle.std.proofs.lemmas.Bool.{and_parts, and_from, eqb-true, eq-eqb}
use Rattle.lit_core.proofs.LiteralFacts.{same_literal}
use Rattle.smallvec.proofs.SmallVecLemmas.{items-with_items}
use Rattle.lit_core.specs.declared.literals.Lit.{Lit}
use Rattle.lit_core.specs.contracts.literals.LitPartialEq.TheImpl as same_lit
use Rattle.clause_base.specs.StoreState.{IsEachOnceOf}
use Rattle.clause_base.proofs.ArenaFacts.{dedup-le}
use Rattle.clause_base.proofs.EachOnce.{each-once-of}
use Rattle.clause_base.proofs.clause_db.sort_once.Goals as goal

abbrev same : Lit → Lit → Bool
same = same_lit.eq-value.it

same-is : (x y : Lit) → same x y ≡ true → x ≡ y
same-is x y e =
    let both = and_parts (eqb x.var.0 y.var.0) (beq x.positive y.positive) e in
    same_literal x y (eqb-true x.var.0 y.var.0 both.0) (signs x.positive y.positive both.1)
  where
    signs : (p q : Bool) → beq p q ≡ true → p ≡ q
    signs true true h = refl
    signs true false h = cc
    signs false true h = cc
    signs false false h = refl

same-itself : (x : Lit) → same x x ≡ true
same-itself x = and_from (eqb x.var.0 x.var.0) (beq x.positive x.positive) (eq-eqb x.var.0 x.var.0 refl)
    (signs x.positive)
  where
    signs : (p : Bool) → beq p p ≡ true
    signs true = refl
    signs false = refl

pub returns-clause-once : goal.returns-clause-once
returns-clause-once c =
    let a = c.args.buffer.now in
    let n : List Lit = c.sort_unstable.new.self in
    let moved : IsPermutation a.items n = subst (λ (x : List Lit). IsPermutation x n) c.deref_mut.ensures.value
    c.sort_unstable.ensures.permutation in
    let each = each-once-of same same-is same-itself a.items n moved c.sort_unstable.ensures.sorted in
    let size : length n ≡ length a.items = c.sort_unstable.ensures.len ∙ ap length c.deref_mut.ensures.value in
    let refilled : refill (length a.items) a.items n ≡ n = items-with_items a n size in
    subst (IsEachOnceOf a.items) (sym (c.dedup.ensures.items ∙ ap (dedup same) refilled)) each

pub returns-clause-shorter : goal.returns-clause-shorter
returns-clause-shorter c =
    let a = c.args.buffer.now in
    let n : List Lit = c.sort_unstable.new.self in
    let size : length n ≡ length a.items = c.sort_unstable.ensures.len ∙ ap length c.deref_mut.ensures.value in
    let refilled : refill (length a.items) a.items n ≡ n = items-with_items a n size in
    rw (c.dedup.ensures.items ∙ ap (dedup same) refilled, ← size) (dedup-le same n)
