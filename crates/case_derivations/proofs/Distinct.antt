-- How a list is gone through, of which each literal is kept once.
use Rattle.std.proofs.Common.{◌≡◌, ℕ, zero, suc, ◌+◌, ◌<◌, ◌≤◌, true, false, List, [], ◌∷◌, ◌++◌, take, length, get_or}
use Rattle.std.proofs.Common.{None, Some, refl, sym, ap, ◌∙◌, subst, inl, inr, ⊎_elim}
use Rattle.std.proofs.Common.{◌⊎◌, All, Contains}
use Rattle.std.specs.Prelude.{slice_get}
use Rattle.std.proofs.lemmas.List.{take_more, take_all, take-append-drop}
use Rattle.std.proofs.Common.{drop, Bool}
use Rattle.std.proofs.lemmas.Option.{slice_get_within, get_or_from_slice_get}
use Rattle.std.proofs.lemmas.List.Elements.{All-nil, All-push, All-weaker, All-contains}
use Rattle.std.proofs.lemmas.List.Elements.{Contains-append_left, Contains-push, Contains-get_or}
use Rattle.lit_core.specs.declared.literals.Lit.{Lit}
use Rattle.lit_core.specs.Literals.{negated, literal_value, HasEachOnce}
use Rattle.lit_core.proofs.LiteralFacts.{nothing_in_none}
use Rattle.ground_core.specs.Problems.{IsLitOf, AreLitsOf}
use Rattle.derivation_log.specs.Steps.{CheckState, HasOpposites, Cites}
use Rattle.log_checker.specs.declared.literal_sets.LiteralSet.{LiteralSet}
use Rattle.log_checker.specs.Sets.{has, OnlyIn, IsMarked}
use Rattle.log_checker.specs.Growing.{Checking}
use Rattle.log_checker.specs.Cases.{Admits, IsFalseAt}
use Rattle.case_derivations.specs.Once.{IsOnceOf}
use Rattle.case_derivations.proofs.Lists.{push-fine}

push-cases : (c : List Lit) (l : Lit) (i : ℕ) (m : Lit) → slice_get (c ++ l ∷ []) i ≡ Some m
    → (slice_get c i ≡ Some m) ⊎ ((i ≡ length c) × (l ≡ m))
push-cases [] l zero m h = inr (refl, let e : Some l ≡ Some m = h in cc)
push-cases [] l (suc i) m h = absurd (cc)
push-cases (x ∷ c) l zero m h = inl h
push-cases (x ∷ c) l (suc i) m h = ⊎_elim (λ e. inl e) (λ e. inr (ap suc e.0, e.1)) (push-cases c l i m h)

once-push : (c : List Lit) (l : Lit) → HasEachOnce c → (Contains c l → ⊥) → HasEachOnce (c ++ l ∷ [])
once-push c l once fresh i k m at bt =
    ⊎_elim
    (λ a. ⊎_elim (λ b. once i k m a b) (λ b. absurd (fresh (contains-at i (a ∙ ap Some (sym b.1)))))
    (push-cases c l k m bt))
    (λ a. ⊎_elim (λ b. absurd (fresh (contains-at k (b ∙ ap Some (sym a.1))))) (λ b. a.0 ∙ sym b.0)
    (push-cases c l k m bt))
    (push-cases c l i m at)
  where
    contains-at : (j : ℕ) → slice_get c j ≡ Some l → Contains c l
    contains-at j h = (j, slice_get_within c j l h, get_or_from_slice_get c j l l h)

pub none-once : (s : LiteralSet) → OnlyIn s [] → IsMarked s [] × IsOnceOf [] []
none-once s h = (
  record { only = h; each = λ l is. absurd (nothing_in_none l is) },
  record {
    each = All-nil (Contains []);
    only = All-nil (Contains []);
    fine = λ l a b. nothing_in_none l a;
    distinct = λ i k m a b. absurd (let e : None ≡ Some m = a in cc);
  },
)

module _ (s : LiteralSet) (lits once : List Lit) (i : ℕ) (d l : Lit) (lt : i < length lits) (is : l ≡ get_or lits i d)
    (marked : IsMarked s once) (h : IsOnceOf (take i lits) once) where
  grown : take (i + 1) lits ≡ take i lits ++ l ∷ []
  grown = take_more lits i d lt ∙ ap (λ x. take i lits ++ x ∷ []) (sym is)

  pub opposites-found : has s (negated l) ≡ true → HasOpposites lits
  opposites-found e = (
    l,
    subst (Contains lits) (sym is) (Contains-get_or lits i d lt),
    subst (λ xs. Contains xs (negated l)) (take-append-drop i lits) (Contains-append_left (take i lits) (drop i lits)
        (negated l) (All-contains (Contains (take i lits)) once (negated l) h.only (marked.only (negated l) e))),
  )

  wider : All (Contains (take i lits)) once → All (Contains (take i lits ++ l ∷ [])) once
  wider k = All-weaker (Contains (take i lits)) (Contains (take i lits ++ l ∷ []))
      (λ m x. Contains-append_left (take i lits) (l ∷ []) m x) once k

  pub kept-before : has s l ≡ true → IsOnceOf (take (i + 1) lits) once
  kept-before e = subst (λ xs. IsOnceOf xs once) (sym grown) (record {
    each = All-push (Contains once) (take i lits) l h.each (marked.only l e);
    only = wider h.only;
    fine = h.fine;
    distinct = h.distinct;
  })

  absent : (m : Lit) → has s m ≡ false → Contains once m → ⊥
  absent m e k = let x : true ≡ false = sym (marked.each m k) ∙ e in cc

  pub kept-now : has s (negated l) ≡ false → has s l ≡ false → IsOnceOf (take (i + 1) lits) (once ++ l ∷ [])
  kept-now e f = subst (λ xs. IsOnceOf xs (once ++ l ∷ [])) (sym grown) (record {
    each = All-push (Contains (once ++ l ∷ [])) (take i lits) l (All-weaker (Contains once) (Contains (once ++ l ∷ []))
        (λ m x. Contains-append_left once (l ∷ []) m x) (take i lits) h.each) (Contains-push once l);
    only = All-push (Contains (take i lits ++ l ∷ [])) once l (wider h.only) (Contains-push (take i lits) l);
    fine = push-fine once l h.fine (absent l f, absent (negated l) e);
    distinct = once-push once l h.distinct (absent l f);
  })

pub kept-all : (lits once : List Lit) (i : ℕ) → length lits ≤ i → IsOnceOf (take i lits) once → IsOnceOf lits once
kept-all lits once i le h = subst (λ xs. IsOnceOf xs once) (take_all i lits le) h

module _ (lits once : List Lit) (h : IsOnceOf lits once) where
  pub once-within : (n : ℕ) → AreLitsOf n lits → AreLitsOf n once
  once-within n k = All-weaker (Contains lits) (IsLitOf n) (λ l x. All-contains (IsLitOf n) lits l k x) once h.only

  pub once-admitted : (c : Checking) (v : ℕ → Bool) → Admits c once v → Admits c lits v
  once-admitted c v a = record {
    clauses = a.clauses;
    sums = a.sums;
    bounds = a.bounds;
    trues = All-weaker (Contains once) (λ l. literal_value v l ≡ true)
        (λ l x. All-contains (λ m. literal_value v m ≡ true) once l a.trues x) lits h.each;
  }

  -- a clause that is false under the literals may be cited of them
  pub cited : (st : CheckState) (n : ℕ) → IsFalseAt st.clauses once n → Cites st lits (λ m. ⊥) n
  cited st n k = inr (
    k.1.0,
    k.0,
    k.1.1,
    All-weaker (λ m. Contains once (negated m))
        (λ m. Contains lits (negated m) ⊎ ⊥)
        (λ m x. inl (All-contains (Contains lits) once (negated m) h.only x)) k.0 k.2,
  )
