-- A clause of a decided literal has no other unassigned literal.
use Rattle.std.proofs.Common.{inl, inr, ◌≡◌, ◌⊎◌, ℕ, nat_eq, Bool, true, false, not, if◌then◌else◌, Option, Some}
use Rattle.std.proofs.Common.{get_or, refl, sym, arith}
use Rattle.std.proofs.lemmas.Bool.Decides.{nat_tests}
use Rattle.lit_core.specs.declared.literals.Lit.{Lit}
use Rattle.lit_core.specs.Literals.{by_sign, by_sign_if_any}
use Rattle.ground_core.specs.Intervals.{known_of, changed}
use Rattle.aggregate_propagators.specs.Reasons.{clause_of}
use Rattle.aggregate_propagators.specs.Laws.{DecidedIsUnit}
use Rattle.aggregate_propagators.proofs.Causes.{reasons-suffice}

same-var : (i n : ℕ) → nat_eq i n ≡ true → i ≡ n
same-var i n e = grind (arith, nat_tests)

some-same : (x y : Bool) → Some x ≡ Some y → x ≡ y
some-same x y e = cc

sign-of : (p s : Bool) → by_sign p s ≡ false → p ≡ not s
sign-of true true e = cc
sign-of true false e = refl
sign-of false true e = refl
sign-of false false e = cc

var-same : (m l : Lit) (s : Bool) → m.var.0 ≡ l.var.0 → m.positive ≡ not s
    → m ≡ record { var = l.var; positive = not s }
var-same m l s e f = λ i. record { var = record { 0 = e i }; positive = f i }

pub by-var : (a : ℕ → Option Bool) (l m : Lit) (s t : Bool) → nat_eq l.var.0 m.var.0 ≡ t
    → by_sign_if_any m.positive (if t then Some s else a m.var.0) ≡ Some false
    → (m ≡ record { var = l.var; positive = not s }) ⊎ (known_of a m ≡ Some false)
by-var a l m s true e h =
    inl (var-same m l s (sym (same-var l.var.0 m.var.0 e))
    (sign-of m.positive s (some-same (by_sign m.positive s) false h)))
by-var a l m s false e h = inr h

pub decided-is-unit : DecidedIsUnit
decided-is-unit a c l s open-at e k d lt =
    by-var a l (get_or (clause_of (changed a l.var.0 s) c) k d) s
    (nat_eq l.var.0 (get_or (clause_of (changed a l.var.0 s) c) k d).var.0) refl
    ((reasons-suffice (changed a l.var.0 s) c e).0 k d lt)
