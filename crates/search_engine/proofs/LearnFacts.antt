-- Learning a clause that is unit.
use Rattle.std.proofs.Common.{◌≡◌, ℕ, suc, ◌<◌, Bool, true, false, Option, Some, None, List, [], ◌∷◌, ◌++◌, length}
use Rattle.std.proofs.Common.{slice_get, refl, sym, ap, ◌∙◌, subst, ◌⊎◌, inl, ⊎_elim, arith, All, Contains}
use Rattle.std.specs.List.{AllZip}
use Rattle.std.specs.Prelude.{IsSome}
use Rattle.std.proofs.lemmas.List.Elements.{All-nil, All-cons, All-append, All-weaker, All-contains}
use Rattle.std.proofs.lemmas.List.Elements.{Contains-append_left, Contains-append_right}
use Rattle.std.proofs.lemmas.Option.{slice_get_within, same_Some, get_or_from_slice_get}
use Rattle.lit_core.specs.declared.literals.Lit.{Lit}
use Rattle.lit_core.specs.Literals.{value_in, negated}
use Rattle.lit_core.specs.Truth.{IsSettled}
use Rattle.lit_core.specs.Freshness.{FreshAgainst}
use Rattle.lit_core.proofs.FreshFromQuiet.{fresh-from_quiet}
use Rattle.clause_store.specs.declared.trails.Step.{Step}
use Rattle.clause_store.specs.TrailLaws.{IsFixed}
use Rattle.clause_store.specs.StoreState.{StoreState, IsQuiet, IsEachOnceOf, Implies}
use Rattle.clause_store.proofs.ListFacts.{slice_get-push_new, slice_get-push_cases}
use Rattle.ground_core.specs.Problems.{ProblemState, IsLitOf}
use Rattle.ground_core.specs.GateClauses.{clauses_of}
use Rattle.search_engine.specs.Knowledge.{Knows, IsHeldAs}
use Rattle.ground_core.specs.Solving.{Entails, IsLearntFrom}
use Rattle.search_engine.specs.Resting.{held_of}
use Rattle.search_engine.specs.Searching.{AreClosed, IsOrderly, Extends, AreOthersFalse, IsFirstOpen}
use Rattle.search_engine.proofs.Known.{once-all}
use Rattle.search_engine.proofs.Pushed.{front-push}

-- a clause with the same literals stands the same
once-settled : (a : List (Option Bool)) (c k : List Lit) → IsEachOnceOf c k → IsSettled a k → IsSettled a c
once-settled a c k once h = record {
  not_false = λ f. h.not_false (once-all (λ l. value_in a l ≡ Some false) c k once f);
  not_unit = λ l u. h.not_unit l (record {
    member = once.all l u.member;
    unassigned = u.unassigned;
    others = once-all (λ m. (m ≡ l) ⊎ (value_in a m ≡ Some false)) c k once u.others;
  });
}

zip-all : (P : List Lit → Type 0) (cl : List (Option (List Lit))) (ids : List ℕ) (learnt : List (List Lit))
    → AllZip (IsHeldAs cl) ids learnt → ((id : ℕ) (c : List Lit) → IsHeldAs cl id c → P c) → All P learnt
zip-all P cl [] [] z h = All-nil P
zip-all P cl [] (c ∷ cs) z h = absurd z
zip-all P cl (i ∷ ids) [] z h = absurd z
zip-all P cl (i ∷ ids) (c ∷ cs) z h = All-cons P c cs (h i c z.0) (zip-all P cl ids cs z.1 h)

held-settled : (a : List (Option Bool)) (cl : List (Option (List Lit)))
    → ((id : ℕ) (k : List Lit) → slice_get cl id ≡ Some (Some k) → IsSettled a k) → All (IsSettled a) (held_of cl)
held-settled a [] h = All-nil (IsSettled a)
held-settled a (None ∷ cl) h = held-settled a cl (λ id k e. h (suc id) k e)
held-settled a (Some c ∷ cl) h = All-cons (IsSettled a) c (held_of cl) (h 0 c refl)
    (held-settled a cl (λ id k e. h (suc id) k e))

-- where nothing is left to propagate, the problem's clauses and the learnt ones are settled
module _ (p : ProblemState) (learnt : List (List Lit)) (ids : List ℕ) (s : StoreState)
    (knows : Knows p learnt ids s.clauses) (quiet : IsQuiet s) where
  settled-held : (id : ℕ) (c : List Lit) → IsHeldAs s.clauses id c → IsSettled s.trail.values c
  settled-held id c h = once-settled s.trail.values c h.0 h.2 (quiet id h.0 h.1)

  pub all-settled : All (IsSettled s.trail.values) (clauses_of p ++ learnt)
  all-settled = All-append (IsSettled s.trail.values) (clauses_of p) learnt
      (All-weaker (λ c. (id : ℕ) × IsHeldAs s.clauses id c × (Contains ids id → ⊥)) (IsSettled s.trail.values)
      (λ c w. settled-held w.0 c w.1) (clauses_of p) knows.problem)
      (zip-all (IsSettled s.trail.values) s.clauses ids learnt knows.learnt_held settled-held)

  -- and so is all that is held: what constraints gave, too
  abbrev all_held : List (List Lit)
  all_held = (clauses_of p ++ learnt) ++ held_of s.clauses

  all-held-settled : All (IsSettled s.trail.values) all_held
  all-held-settled = All-append (IsSettled s.trail.values) (clauses_of p ++ learnt) (held_of s.clauses) all-settled
      (held-settled s.trail.values s.clauses quiet)

  pub lesson-fresh : (c : List Lit) → AreOthersFalse s.trail.values c → IsFirstOpen s.trail.values c
      → FreshAgainst all_held c
  lesson-fresh c others first =
      let l : Lit = others.0 in
      let same : first.0 ≡ l = same_Some first.0 l (sym first.1 ∙ others.1) in
      let none : value_in s.trail.values l ≡ None = subst (λ (x : Lit). value_in s.trail.values x ≡ None)
      same first.2 in
      let member : Contains c l = (0, slice_get_within c 0 l others.1, get_or_from_slice_get c 0 l l others.1) in
      (l, fresh-from_quiet s.trail.values all_held c l all-held-settled member none others.2)

-- where nothing is left to propagate, a selector that is false by a clause is false
pub closed-true : (s : StoreState) (ids : List ℕ) (ls : List Lit) → IsQuiet s → AreClosed s.clauses ids ls → (l : Lit)
    → Contains ls l → value_in s.trail.values (negated l) ≡ Some true
closed-true s ids ls quiet closed l has =
    let w = All-contains (λ m. (id : ℕ) × IsHeldAs s.clauses id (negated m ∷ []) × (Contains ids id → ⊥)) ls l
    closed has in
    let settled : IsSettled s.trail.values (negated l ∷ []) = once-settled s.trail.values (negated l ∷ []) w.1.0 w.1.2
    (quiet w.0 w.1.0 w.1.1) in
    by_value settled (value_in s.trail.values (negated l)) refl
  where
    by_value : IsSettled s.trail.values (negated l ∷ []) → (o : Option Bool) → value_in s.trail.values (negated l) ≡ o
        → value_in s.trail.values (negated l) ≡ Some true
    by_value h (Some true) e = e
    by_value h (Some false) e = absurd (h.not_false (All-cons (λ m. value_in s.trail.values m ≡ Some false) (negated l)
        [] e (All-nil (λ m. value_in s.trail.values m ≡ Some false))))
    by_value h None e = absurd (h.not_unit (negated l) (record {
      member = (0, omega arith, refl);
      unassigned = e;
      others = All-cons (λ m. (m ≡ negated l) ⊎ (value_in s.trail.values m ≡ Some false)) (negated l) [] (inl refl)
          (All-nil (λ m. (m ≡ negated l) ⊎ (value_in s.trail.values m ≡ Some false)));
    }))

-- so that its negation is in no clause that is learnt
pub lesson-live : (a : List (Option Bool)) (c : List Lit) (l : Lit) → AreOthersFalse a c → IsFirstOpen a c
    → value_in a (negated l) ≡ Some true → Contains c (negated l) → ⊥
lesson-live a c l others first on has =
    let same : first.0 ≡ others.0 = same_Some first.0 others.0 (sym first.1 ∙ others.1) in
    ⊎_elim
    (λ (e : negated l ≡ others.0).
    let none : value_in a (negated l) ≡ None = subst (λ (x : Lit). value_in a x ≡ None) (same ∙ sym e) first.2 in
    let both : Some true ≡ None = sym on ∙ none in cc)
    (λ (off : value_in a (negated l) ≡ Some false). let both : Some true ≡ Some false = sym on ∙ off in cc)
    (All-contains (λ m. (m ≡ others.0) ⊎ (value_in a m ≡ Some false)) c (negated l) others.2 has)

-- so that it is learnt from the problem, and says something new beside all that is held
pub lesson-learnt : (p : ProblemState) (learnt held : List (List Lit)) (c : List Lit)
    → ((l : Lit) → Contains p.retired l → Contains c (negated l) → ⊥) → Entails p c
    → FreshAgainst ((clauses_of p ++ learnt) ++ held) c → IsLearntFrom p learnt c
lesson-learnt p learnt held c live entailed fresh = record {
  entailed = entailed;
  live = live;
  against = (clauses_of p ++ learnt) ++ held;
  fresh = fresh;
  learnt = λ d has. Contains-append_left (clauses_of p ++ learnt) held d
      (Contains-append_right (clauses_of p) learnt d has);
  said = λ d has live. Contains-append_left (clauses_of p ++ learnt) held d
      (Contains-append_left (clauses_of p) learnt d has);
}

-- one more step that follows by a clause
pub orderly-push : (vars : ℕ) (steps : List Step) (t : Step) → IsOrderly vars steps → IsLitOf vars t.lit
    → (t.reason ≡ None → 0 < t.level) → IsOrderly vars (steps ++ t ∷ [])
orderly-push vars steps t h lit up = record {
  named = λ k u e. ⊎_elim (λ o. h.named k u o) (λ n. subst (λ (x : Step). IsLitOf vars x.lit) (sym n.1) lit)
      (slice_get-push_cases steps t k u e);
  decided = λ k u e none. ⊎_elim (λ o. h.decided k u o none) (λ n. subst (λ (x : Step). 0 < x.level) (sym n.1)
      (up (sym (ap (λ (x : Step). x.reason) n.1) ∙ none))) (slice_get-push_cases steps t k u e);
}

pub extends-push : (steps : List Step) (t : Step) → IsSome t.reason → Extends steps (steps ++ t ∷ [])
extends-push steps t some = record {
  kept = front-push steps t;
  reasoned = λ k u past e. ⊎_elim
      (λ o. let lt : k < length steps = slice_get_within steps k u o in absurd (omega (arith, past, lt)))
      (λ n. subst (λ (x : Step). IsSome x.reason) (sym n.1) some)
      (slice_get-push_cases steps t k u e);
}

-- nothing is fixed on an orderly trail
pub orderly-unfixed : (vars : ℕ) (s : StoreState) → IsOrderly vars s.trail.steps → (l : Lit) → IsFixed s.trail l → ⊥
orderly-unfixed vars s h l w = let up : 0 < w.1.level = h.decided w.0 w.1 w.2 w.5 in let at : w.1.level ≡ 0 = w.4 in
    omega (arith, up, at)

-- the pushed clause implies its first literal
pub lesson-implies : (s t : StoreState) (lits c : List Lit) (l : Lit) → IsEachOnceOf lits c
    → t.clauses ≡ s.clauses ++ Some c ∷ [] → t.trail ≡ s.trail → slice_get lits 0 ≡ Some l
    → AreOthersFalse s.trail.values lits → Implies t (length s.clauses) l
lesson-implies s t lits c l once clauses trail first others =
    let same : others.0 ≡ l = same_Some others.0 l (sym others.1 ∙ first) in
    let false-ones : All (λ m. (m ≡ l) ⊎ (value_in s.trail.values m ≡ Some false)) lits =
    subst (λ (x : Lit). All (λ m. (m ≡ x) ⊎ (value_in s.trail.values m ≡ Some false)) lits) same others.2 in
    let all : All (λ m. (m ≡ l) ⊎ (value_in s.trail.values m ≡ Some false)) c =
    once-all (λ m. (m ≡ l) ⊎ (value_in s.trail.values m ≡ Some false)) lits c once false-ones in
    record {
      clause = c;
      held = ap (λ (xs : List (Option (List Lit))). slice_get xs (length s.clauses)) clauses
          ∙ slice_get-push_new s.clauses (Some c);
      member = once.all l (0, slice_get_within lits 0 l first, get_or_from_slice_get lits 0 l l first);
      others = rw trail all;
    }
