-- What an entry that bears a clause adds, and that it is a step.
use Rattle.std.proofs.Common.{◌≡◌, ℕ, ◌+◌, ◌-◌, ◌<◌, ◌^◌, true, false, List, [], ◌∷◌, ◌++◌, map, length}
use Rattle.std.proofs.Common.{sym, ap, ◌∙◌, subst, inl, inr, ⊎_elim, ◌⊎◌, arith, All, Contains}
use Rattle.std.proofs.Common.{Result, Ok, Err, OnOk, IfOk}
use Rattle.std.specs.Prelude.{slice_get}
use Rattle.std.proofs.lemmas.List.{length-append}
use Rattle.std.proofs.lemmas.List.Elements.{All-weaker, All-nil, All-cons, Contains-push_cases}
use Rattle.lit_core.specs.declared.literals.Lit.{Lit}
use Rattle.lit_core.specs.Literals.{negated}
use Rattle.lit_core.specs.Refutation.{IsOpenUnder, IsUnitUnder, RefutesInOrder}
use Rattle.lit_core.proofs.LiteralFacts.{negated-negated}
use Rattle.ground_core.specs.Problems.{IsLitOf, AreLitsOf}
use Rattle.derivation_log.specs.declared.entries.Entry.{Entry}
use Rattle.derivation_log.specs.declared.entries.Entry.TheVariants.{Learnt, Sum}
use Rattle.derivation_log.specs.Lines.{entry_text}
use Rattle.derivation_log.specs.Texts.{IsLiteral, IsHint, IsWritten}
use Rattle.derivation_log.specs.Steps.{CheckState, LogStep, HasNoOpposites, CannotHold, after, with_borne}
use Rattle.log_checker.specs.Growing.{Checking, known}
use Rattle.log_checker.specs.Cases.{BearsClause, FailsAt, IsFalseAt}
use Rattle.case_derivations.specs.Adding.{Adds}
use Rattle.case_derivations.specs.OpenCases.{IsShut}
use Rattle.case_derivations.specs.Closing.{HasLit}
use Rattle.case_derivations.proofs.Lists.{get-last, negated-twice, false-negations, negations-fine, negations-within}
use Rattle.case_derivations.proofs.Lists.{false-without}
use Rattle.case_derivations.proofs.Deriving.{adds-one}

literals-fit : (n : ℕ) (ls : List Lit) → n < 2 ^ 64 → AreLitsOf n ls → All IsLiteral ls
literals-fit n ls lt h = All-weaker (IsLitOf n) IsLiteral (λ l x. (x.0, let y = x.1 in omega (arith, lt, y))) ls h

module _ (c : Checking) (ls : List Lit) (within : AreLitsOf c.state.vars ls) (fine : HasNoOpposites ls) where
  pub sum-step : (n : ℕ) → FailsAt c ls n → LogStep c.problem c.state (Sum n (map negated ls))
  sum-step n h = (
    negations-within c.state.vars ls within,
    negations-fine ls fine,
    h.0,
    subst (λ x. CannotHold c.problem c.state x (n - 1)) (sym (negated-twice ls)) h.1,
  )

  pub sum-written : (n : ℕ) → n < 2 ^ 64 → c.state.vars < 2 ^ 64 → IsWritten (Sum n (map negated ls))
  sum-written n a b = (a, literals-fit c.state.vars (map negated ls) b (negations-within c.state.vars ls within))

  module _ (l : Lit) (m n : ℕ) (opened : IsOpenUnder ls l) (first : IsShut c.state.clauses ls (negated l) m)
      (second : IsFalseAt c.state.clauses (ls ++ l ∷ []) n) where
    back-twice : (x : Lit) → negated l ≡ negated x → x ≡ l
    back-twice x e = sym (negated-negated x) ∙ ap negated (sym e) ∙ negated-negated l

    unit : IsUnitUnder ls first.clause l
    unit = record {
      member = subst (Contains first.clause) (negated-negated l) first.member;
      opened = opened;
      others = All-weaker (λ x. Contains (ls ++ negated l ∷ []) (negated x)) (λ x. (x ≡ l) ⊎ Contains ls (negated x))
          (λ x h. ⊎_elim (λ y. inr y) (λ e. inl (back-twice x e)) (Contains-push_cases ls (negated l) (negated x) h))
          first.clause first.false_under;
    }

    pub resolvent-step : LogStep c.problem c.state (Learnt (map negated ls) (m ∷ n ∷ []))
    resolvent-step = (
      negations-within c.state.vars ls within,
      negations-fine ls fine,
      (
        first.clause ∷ second.0 ∷ [],
        (first.named.0, first.named.1, (second.1.0, second.1.1, tt)),
        subst (λ x. RefutesInOrder x (first.clause ∷ second.0 ∷ [])) (sym (negated-twice ls)) (l, unit, second.2),
      ),
    )

    pub resolvent-written : m < 2 ^ 64 → n < 2 ^ 64 → c.state.vars < 2 ^ 64
        → IsWritten (Learnt (map negated ls) (m ∷ n ∷ []))
    resolvent-written a b v = (
      literals-fit c.state.vars (map negated ls) v (negations-within c.state.vars ls within),
      All-cons IsHint m (n ∷ []) (first.named.0, a) (All-cons IsHint n [] (second.1.0, b) (All-nil IsHint)),
    )

module _ (c new : Checking) (ls : List Lit) (e : Entry) where
  pub bearing-adds : {N E : Type 0} (x y : List ℕ) → BearsClause e → IsWritten e
      → after c.state e ≡ with_borne c.state (map negated ls) → LogStep c.problem c.state e → (r : Result N E)
      → OnOk r (new ≡ known c.problem (after c.state e)) → OnOk r (y ≡ x ++ entry_text e) → OnOk r (Adds c new x y)
  bearing-adds x y bears w is step (Ok n) a b = adds-one c new e (map negated ls) x y bears w is step a b
  bearing-adds x y bears w is step (Err h) a b = tt

  last-false : (n : ℕ) → after c.state e ≡ with_borne c.state (map negated ls) → new ≡ known c.problem (after c.state e)
      → n ≡ length new.state.clauses → IsFalseAt new.state.clauses ls n
  last-false n is a b =
      let e-clauses : new.state.clauses ≡ c.state.clauses ++ map negated ls ∷ [] =
      ap (λ (k : Checking). k.state.clauses) a ∙ ap (λ (st : CheckState). st.clauses) is in
      let e-n : n ≡ length c.state.clauses + 1 = b ∙ ap length e-clauses
      ∙ length-append c.state.clauses (map negated ls ∷ []) in
      let place : n - 1 ≡ length c.state.clauses = omega (arith, e-n) in (
        map negated ls,
        (
          omega (arith, e-n),
          ap (slice_get new.state.clauses) place ∙ ap (λ cs. slice_get cs (length c.state.clauses)) e-clauses
              ∙ get-last c.state.clauses (map negated ls),
        ),
        false-negations ls,
      )

  pub bearing-false : {E : Type 0} → after c.state e ≡ with_borne c.state (map negated ls) → (r : Result ℕ E)
      → OnOk r (new ≡ known c.problem (after c.state e)) → IfOk r (λ n. n ≡ length new.state.clauses)
      → IfOk r (IsFalseAt new.state.clauses ls)
  bearing-false is (Ok n) a b = last-false n is a b
  bearing-false is (Err h) a b = tt

module _ (clauses : List (List Lit)) (ls : List Lit) (l : Lit) (n : ℕ) (h : IsFalseAt clauses (ls ++ l ∷ []) n) where
  pub without-case : HasLit clauses n (negated l) false → IsFalseAt clauses ls n
  without-case never = (h.0, h.1, false-without ls h.0 l h.2 (never h.0 h.1))

  pub shut-case : HasLit clauses n (negated l) true → IsShut clauses ls l n
  shut-case has = record { clause = h.0; named = h.1; false_under = h.2; member = has h.0 h.1 }
