-- Which variables are assigned.
use Rattle.std.proofs.Common.{◌≡◌, ℕ, ◌+◌, ◌≤◌, true, Option, None, Some, MatchOption, ◌⊎◌, inl, inr, ⊎_elim}
use Rattle.std.proofs.Common.{arith, List}
use Rattle.std.proofs.Common.{Contains, subst, sym}
use Rattle.lit_core.specs.declared.literals.Lit.{Lit}
use Rattle.lit_core.specs.Literals.{negated}
use Rattle.lit_core.specs.Refutation.{IsOpenUnder}
use Rattle.ground_core.specs.Problems.{IsLitOf}
use Rattle.derivation_log.specs.Steps.{literal}
use Rattle.log_checker.specs.declared.literal_sets.LiteralSet.{LiteralSet}
use Rattle.log_checker.specs.Sets.{has, IsMarked}
use Rattle.case_derivations.specs.Looking.{AreAssigned, IsUnassigned}
use Rattle.case_derivations.proofs.Lists.{open-negated}

at-most-one-more : (n i : ℕ) → n ≤ i + 1 → (n ≤ i) ⊎ (n ≡ i + 1)
at-most-one-more n i le = grind arith

pub assigned-more : (s : LiteralSet) (ls : List Lit) (i : ℕ) → IsMarked s ls
    → (has s (literal (i + 1)) ≡ true) ⊎ (has s (negated (literal (i + 1))) ≡ true) → AreAssigned i ls
    → AreAssigned (i + 1) ls
assigned-more s ls i h here before n low high = ⊎_elim
    (λ le. before n low le)
    (λ e. subst (λ k. Contains ls (literal k) ⊎ Contains ls (negated (literal k))) (sym e)
    (⊎_elim (λ x. inl (h.only (literal (i + 1)) x)) (λ x. inr (h.only (negated (literal (i + 1))) x)) here))
    (at-most-one-more n i high)

pub assigned-all : (n i : ℕ) (ls : List Lit) → n ≤ i → AreAssigned i ls → AreAssigned n ls
assigned-all n i ls le h k low high = h k low (omega (arith, le, high))

pub other-unassigned : (n : ℕ) (ls : List Lit) (l : Lit) → IsLitOf n l → IsOpenUnder ls l
    → IsUnassigned n ls (negated l)
other-unassigned n ls l h o = (h, open-negated ls l o)

pub of-none : {X : Type 0} (A : Type 0) (B : X → Type 0) (o : Option X) → o ≡ None → MatchOption o A B → A
of-none A B None e h = h
of-none A B (Some x) e h = cc

pub of-some : {X : Type 0} (A : Type 0) (B : X → Type 0) (o : Option X) (x : X) → o ≡ Some x → MatchOption o A B → B x
of-some A B None x e h = cc
of-some A B (Some y) x e h = subst B (let f : Some y ≡ Some x = e in cc) h
