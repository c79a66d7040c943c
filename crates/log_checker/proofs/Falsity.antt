-- What a checker answers of literals in force.
use Rattle.std.proofs.Common.{◌≡◌, ℕ, ◌+◌, ◌-◌, ◌≤◌, true, false, List, Some, length, sym, ap, ◌∙◌, arith}
use Rattle.std.proofs.Common.{subst, Bool, IsTrue, ◌↔◌, Contains, ◌⊎◌, ⊎_elim}
use Rattle.std.specs.Prelude.{slice_get}
use Rattle.std.proofs.lemmas.List.Elements.{All-contains}
use Rattle.lit_core.specs.declared.literals.Lit.{Lit}
use Rattle.lit_core.specs.Literals.{negated}
use Rattle.lit_core.specs.Refutation.{IsFalseUnder, IsUnitUnder}
use Rattle.log_checker.specs.Growing.{Checking}
use Rattle.log_checker.specs.Cases.{IsFalseAt, NoneIsFalse, FailsAt, NoneFails}
use Rattle.derivation_log.specs.Steps.{CannotHold}
use Rattle.std.proofs.lemmas.Option.{slice_get_within}

pub one-not-false : (ls c : List Lit) (l : Lit) → IsUnitUnder ls c l → IsFalseUnder ls c → ⊥
one-not-false ls c l u k = u.opened.1 (All-contains (λ m. Contains ls (negated m)) c l k u.member)

pub not-false : (ls c : List Lit) → (IsFalseUnder ls c → ⊥) → IsTrue false ↔ IsFalseUnder ls c
not-false ls c n = (λ t. absurd (let x : false ≡ true = t in cc), λ k. absurd (n k))

at-most-one-more : (n i : ℕ) → n ≤ i + 1 → (n ≤ i) ⊎ (n ≡ i + 1)
at-most-one-more n i le = grind arith

some-same : {A : Type 0} (c d : A) (a b : ℕ) (xs : List A) → a ≡ b → slice_get xs a ≡ Some c → slice_get xs b ≡ Some d
    → c ≡ d
some-same c d a b xs e f g = let x : Some c ≡ Some d = sym f ∙ ap (slice_get xs) e ∙ g in cc

-- the clause at a place is the one of the number behind it
pub false-here : (cs : List (List Lit)) (ls : List Lit) (i : ℕ) (c : List Lit) (b : Bool) → slice_get cs i ≡ Some c
    → (IsTrue b ↔ IsFalseUnder ls c) → IsTrue b ↔ IsFalseAt cs ls (i + 1)
false-here cs ls i c b is h = (
  λ t. (c, (omega arith, subst (λ k. slice_get cs k ≡ Some c) (omega arith) is), h.0 t),
  λ k. h.1 (subst (IsFalseUnder ls) (some-same k.0 c (i + 1 - 1) i cs (omega arith) k.1.1 is) k.2),
)

pub false-nowhere : (cs : List (List Lit)) (ls : List Lit) (i : ℕ) → length cs ≤ i
    → IsTrue false ↔ IsFalseAt cs ls (i + 1)
false-nowhere cs ls i le = (
  λ t. absurd (let x : false ≡ true = t in cc),
  λ k. absurd (let x = slice_get_within cs (i + 1 - 1) k.0 k.1.1 in omega (arith, x, le)),
)

-- what holds of none of the first numbers, and not of the next one
pub none-more : (P : ℕ → Type 0) (i : ℕ) → (P (i + 1) → ⊥) → ((n : ℕ) → n ≤ i → P n → ⊥) → (n : ℕ) → n ≤ i + 1 → P n
    → ⊥
none-more P i never h n le k = ⊎_elim (λ x. h n x k) (λ e. never (subst P e k)) (at-most-one-more n i le)

pub none-false : (cs : List (List Lit)) (ls : List Lit) (i : ℕ) → length cs ≤ i
    → ((n : ℕ) → n ≤ i → IsFalseAt cs ls n → ⊥) → NoneIsFalse cs ls
none-false cs ls i le h n k =
    let x = slice_get_within cs (n - 1) k.0 k.1.1 in h n (let y = k.1.0 in omega (arith, le, x, y)) k

pub none-fails : (c : Checking) (ls : List Lit) (i : ℕ) → length c.problem.sums + length c.state.bounds ≤ i
    → ((n : ℕ) → n ≤ i → FailsAt c ls n → ⊥) → NoneFails c ls
none-fails c ls i le h n k = h n (within k.1) k
  where
    within : CannotHold c.problem c.state ls (n - 1) → n ≤ i
    within x = ⊎_elim
        (λ s. let y = slice_get_within c.problem.sums (n - 1) s.0 s.1 in omega (arith, le, y))
        (λ s. let y = slice_get_within c.state.bounds s.0 s.2 s.3 in let e = s.1 in omega (arith, le, y, e)) x

pub failing-place : (c : Checking) (ls : List Lit) (i : ℕ) → FailsAt c ls (i + 1)
    → CannotHold c.problem c.state ls i
failing-place c ls i k = subst (CannotHold c.problem c.state ls) (let e : i + 1 - 1 ≡ i = omega arith in e) k.1
