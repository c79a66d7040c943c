use Rattle.std.proofs.Common.{◌≡◌, ◌+◌, ◌∷◌, [], zero, suc, ℕ, Bool, true, false, ◌&&◌, Some, List}
use Rattle.std.proofs.Common.{sym, ap, ◌∙◌, refl, slice_get, take, arith}
use Rattle.std.proofs.lemmas.Bool.{and_parts, and_from}
use Rattle.std.proofs.lemmas.List.{take_all}
use Rattle.std.proofs.lemmas.Option.{same_Some}
use Rattle.std.specs.List.{list_all, list_any}
use Rattle.lit_core.specs.declared.literals.Lit.{Lit}
use Rattle.lit_core.specs.Literals.{literal_value, valuation}
use Rattle.brute_force.proofs.evaluation.clauses_hold.Goals as goal

and-false : (b : Bool) → (b && false) ≡ false
and-false true = refl
and-false false = refl

-- where one clause does not hold, not all do
one-fails : (P : List Lit → Bool) (cs : List (List Lit)) (i : ℕ) (c : List Lit) → slice_get cs i ≡ Some c → P c ≡ false
    → list_all P cs ≡ false
one-fails P [] i c at fails = cc
one-fails P (d ∷ cs) zero c at fails = rw (ap P (same_Some d c at) ∙ fails) refl
one-fails P (d ∷ cs) (suc i) c at fails = ap (λ b. P d && b) (one-fails P cs i c at fails) ∙ and-false (P d)

-- one clause more holds
one-more : (P : List Lit → Bool) (cs : List (List Lit)) (i : ℕ) (c : List Lit) → slice_get cs i ≡ Some c → P c ≡ true
    → list_all P (take i cs) ≡ true → list_all P (take (suc i) cs) ≡ true
one-more P [] i c at holds so = cc
one-more P (d ∷ cs) zero c at holds so = rw (ap P (same_Some d c at) ∙ holds) refl
one-more P (d ∷ cs) (suc i) c at holds so =
    let both = and_parts (P d) (list_all P (take i cs)) so in
    and_from (P d) (list_all P (take (suc i) cs)) both.0 (one-more P cs i c at holds both.1)

pub loop-place-preserved : goal.loop-place-preserved
loop-place-preserved c =
    let holds : List Lit → Bool = λ (ls : List Lit). list_any (literal_value (valuation c.args.values.now)) ls in
    let next : c.loop-place.place + 1 ≡ suc c.loop-place.place = omega arith in
    rw next (one-more holds c.args.clauses.now c.loop-place.place c.in-Some.clause.now c.in-Some.ensures
    (sym c.clause_holds.ensures ∙ c.if-not-clause_holds.false) c.loop-place.invariant)

pub returns-then-not-clause_holds : goal.returns-then-not-clause_holds
returns-then-not-clause_holds c =
    let holds : List Lit → Bool = λ (ls : List Lit). list_any (literal_value (valuation c.args.values.now)) ls in
    sym (one-fails holds c.args.clauses.now c.loop-place.place c.in-Some.clause.now c.in-Some.ensures
    (sym c.clause_holds.ensures ∙ c.if-not-clause_holds.true))

pub returns : goal.returns
returns c =
    let holds : List Lit → Bool = λ (ls : List Lit). list_any (literal_value (valuation c.args.values.now)) ls in
    let whole : take c.loop-place.place c.args.clauses.now ≡ c.args.clauses.now =
    take_all c.loop-place.place c.args.clauses.now (omega (arith, c.loop-place-test.false, c.len-place-end.ensures)) in
    sym (ap (list_all holds) (sym whole) ∙ c.loop-place.invariant)
