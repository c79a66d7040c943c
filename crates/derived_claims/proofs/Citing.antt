-- Clauses by which claims follow.
use Rattle.std.proofs.Common.{◌≡◌, ◌∙◌, ℕ, zero, suc, ◌-◌, List, [], ◌∷◌, ◌++◌, Contains, Some, slice_get, sym, ap}
use Rattle.std.proofs.Common.{subst, inl, inr, ◌⊎◌, ⊎_elim, append_assoc}
use Rattle.std.proofs.lemmas.List.{append-nil}
use Rattle.std.proofs.lemmas.List.Elements.{All-weaker, Contains-push_cases}
use Rattle.kb_logic.specs.declared.elements.ExtInt.{ExtInt}
use Rattle.kb_logic.specs.Lists.{IsPrefix}
use Rattle.lit_core.specs.declared.literals.Lit.{Lit}
use Rattle.lit_core.specs.Literals.{negated}
use Rattle.lit_core.proofs.LiteralFacts.{negated-negated, negated-differs}
use Rattle.ground_core.specs.declared.parts.TermBound.{TermBound}
use Rattle.derivation_log.specs.Steps.{CheckState, Cites, HasOpposites, IsBelowSelector}

pub prefix-itself : {A : Type 0} (xs : List A) → IsPrefix xs xs
prefix-itself xs = ([], sym (append-nil xs))

pub prefix-twice : {A : Type 0} (xs ys zs : List A) → IsPrefix xs ys → IsPrefix ys zs → IsPrefix xs zs
prefix-twice {A} xs ys zs a b =
    (a.0 ++ b.0, b.1 ∙ ap (λ (l : List A). l ++ b.0) a.1 ∙ append_assoc xs a.0 b.0)

found-before : {A : Type 0} (xs more : List A) (n : ℕ) (x : A) → slice_get xs n ≡ Some x
    → slice_get (xs ++ more) n ≡ Some x
found-before [] more n x h = absurd (cc)
found-before (y ∷ xs) more zero x h = h
found-before (y ∷ xs) more (suc n) x h = found-before xs more n x h

-- where clauses are only added, what was cited still is
pub cites-kept : (old new : CheckState) → IsPrefix old.clauses new.clauses → (lits : List Lit) (Other : Lit → Type 0)
    (c : ℕ) → Cites old lits Other c → Cites new lits Other c
cites-kept old new more lits Other c =
    ⊎_elim
    (λ a. inl a)
    (λ b. inr (
      b.0,
      b.1,
      ap (λ (cs : List (List Lit)). slice_get cs (c - 1)) more.1
          ∙ found-before old.clauses more.0 (c - 1) b.1 b.2,
      b.3,
    ))

-- a clause of negations of the literals and one more shows what that one's negation is put for
module _ (st : CheckState) (lits : List Lit) (x : Lit) (Other : Lit → Type 0) (absent : Contains lits (negated x) → ⊥)
    (other : (m : Lit) → negated m ≡ x → Other m) where
  opposites : HasOpposites (lits ++ x ∷ []) → HasOpposites lits
  opposites h =
      ⊎_elim
      (λ a. ⊎_elim
      (λ b. (h.0, a, b))
      (λ e. absurd (absent (subst (Contains lits) (sym (ap negated e ∙ negated-negated h.0)) a)))
      (Contains-push_cases lits x (negated h.0) h.2))
      (λ e. ⊎_elim
      (λ b. absurd (absent (subst (λ (m : Lit). Contains lits (negated m)) (sym e) b)))
      (λ f. absurd (negated-differs h.0 (sym e ∙ f)))
      (Contains-push_cases lits x (negated h.0) h.2))
      (Contains-push_cases lits x h.0 h.1)

  pub cites-without : (c : ℕ) → Cites st (lits ++ x ∷ []) (λ m. ⊥) c → Cites st lits Other c
  cites-without c =
      ⊎_elim
      (λ a. inl (a.0, opposites a.1))
      (λ b. inr (
        b.0,
        b.1,
        b.2,
        All-weaker (λ (m : Lit). Contains (lits ++ x ∷ []) (negated m) ⊎ ⊥)
            (λ (m : Lit). Contains lits (negated m) ⊎ Other m)
            (λ m. ⊎_elim
            (λ has. ⊎_elim (λ among. inl among) (λ e. inr (other m (sym e)))
            (Contains-push_cases lits x (negated m) has))
            (λ never. absurd never))
            b.1 b.3,
      ))

-- the literal itself, where its negation was added
pub cites-forced : (st : CheckState) (lits : List Lit) (l : Lit) → (Contains lits l → ⊥) → (c : ℕ)
    → Cites st (lits ++ negated l ∷ []) (λ m. ⊥) c → Cites st lits (λ m. m ≡ l) c
cites-forced st lits l absent =
    cites-without st lits (negated l) (λ m. m ≡ l)
    (λ has. absent (subst (Contains lits) (negated-negated l) has))
    (λ m e. sym (negated-negated m) ∙ ap negated e ∙ negated-negated l)

-- the negation of a bound's output, where that was added
pub cites-bound : (st : CheckState) (lits : List Lit) (t : ℕ) (k : ExtInt) (b : TermBound) → Contains st.bounds b
    → b.term ≡ t - 1 → b.below ≡ k → (Contains lits (negated b.out) → ⊥) → (c : ℕ)
    → Cites st (lits ++ b.out ∷ []) (λ m. ⊥) c → Cites st lits (IsBelowSelector st t k) c
cites-bound st lits t k b there term below absent =
    cites-without st lits b.out (IsBelowSelector st t k) absent
    (λ m e. (b, there, term, below, sym (negated-negated m) ∙ ap negated e))
