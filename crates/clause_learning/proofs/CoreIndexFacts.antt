-- Kept cores.
use Rattle.std.proofs.Common.{◌≡◌, ℕ, zero, suc, ◌+◌, ◌-◌, ◌<◌, ◌≤◌, true, Some, List, [], ◌∷◌, ◌++◌, length, slice_get}
use Rattle.std.proofs.Common.{get_or, refl, sym, ap, ◌∙◌, subst, inl, inr, ◌⊎◌, ⊎_elim, arith, All, Contains}
use Rattle.std.proofs.lemmas.List.{length_push, get_or_push, get_or_append_left}
use Rattle.std.proofs.lemmas.List.Elements.{All-nil, All-contains, All-contains_itself, All-weaker}
use Rattle.std.proofs.lemmas.List.Elements.{Contains-append_left, Contains-push, Contains-push_cases}
use Rattle.std.proofs.lemmas.Option.{slice_get_within, slice_get-get_or, get_or_from_slice_get, same_Some}
use Rattle.lit_core.specs.declared.literals.Lit.{Lit}
use Rattle.lit_core.proofs.LiteralFacts.{decide_literal}
use Rattle.clause_store.proofs.ListFacts.{slice_get-push_old, slice_get-push_new, slice_get-push_cases}
use Rattle.ground_core.specs.Solving.{HasCoreWithin}
use Rattle.search_engine.specs.declared.lit_sets.LitSet.{LitSet}
use Rattle.search_engine.specs.LitSets.{HasLit, IsSetOf}
use Rattle.search_engine.specs.Cores.{IsCoreOf}
use Rattle.clause_learning.specs.declared.core_index.CoreIndex.{CoreIndex}
use Rattle.clause_learning.specs.CoreIndexes.{last_of, newest_of, EndsWith, IsIndexed}

pub ends-within : (k : CoreIndex) (j : ℕ) (l : Lit) → EndsWith k j l → j < length k.cores.items
ends-within k j l e = slice_get_within k.cores.items j e.0 e.1

nothing-last : (l : Lit) → last_of [] ≡ Some l → ⊥
nothing-last l e = let lt : 0 - 1 < 0 = slice_get_within {A = Lit} [] (0 - 1) l e in omega (arith, lt)

-- the same cores, found in the same way
pub same-index : (k m : CoreIndex) → m.cores.items ≡ k.cores.items → m.older.items ≡ k.older.items
    → ((l : Lit) → newest_of m l ≡ newest_of k l) → m.refuted ≡ k.refuted → IsIndexed k → IsIndexed m
same-index k m cores older newest refuted h = record {
  newest = λ l j e. rw (newest l) (h.newest l j (back j l e));
  ends = λ l j e. there j l (h.ends l j (sym (newest l) ∙ e));
  older = λ l i j e f lt. rw older (h.older l i j (back i l e) (back j l f) lt);
  links = λ l i j e f. there j l (h.links l i j (back i l e) (rw (← older) f));
  falls = λ l i e. rw older (h.falls l i (back i l e));
  sized = rw (older, cores) h.sized;
  noted = λ has. refuted ∙ h.noted (subst (λ (cs : List (List Lit)). Contains cs []) cores has);
  refuted = λ yes. subst (λ (cs : List (List Lit)). Contains cs []) (sym cores) (h.refuted (sym refuted ∙ yes));
}
  where
    back : (j : ℕ) (l : Lit) → EndsWith m j l → EndsWith k j l
    back j l e = (e.0, ap (λ (cs : List (List Lit)). slice_get cs j) (sym cores) ∙ e.1, e.2)

    there : (j : ℕ) (l : Lit) → EndsWith k j l → EndsWith m j l
    there j l e = (e.0, ap (λ (cs : List (List Lit)). slice_get cs j) cores ∙ e.1, e.2)

-- one more core
module _ (k m : CoreIndex) (core : List Lit) (was : ℕ) (h : IsIndexed k) (cores : m.cores.items ≡ k.cores.items ++ core
    ∷ []) (older : m.older.items ≡ k.older.items ++ was ∷ []) where
  abbrev n : ℕ
  n = length k.cores.items

  ends-old : (j : ℕ) (l : Lit) → EndsWith k j l → EndsWith m j l
  ends-old j l e = (
    e.0,
    ap (λ (cs : List (List Lit)). slice_get cs j) cores
        ∙ slice_get-push_old k.cores.items core j e.0 e.1,
    e.2,
  )

  ends-cases : (j : ℕ) (l : Lit) → EndsWith m j l → EndsWith k j l ⊎ ((j ≡ n) × (last_of core ≡ Some l))
  ends-cases j l e = ⊎_elim
      (λ o. inl (e.0, o, e.2))
      (λ w. inr (w.0, ap last_of (sym w.1) ∙ e.2))
      (slice_get-push_cases k.cores.items core j e.0 (ap (λ (cs : List (List Lit)). slice_get cs j) (sym cores) ∙ e.1))

  older-old : (i : ℕ) → i < n → get_or m.older.items i 0 ≡ get_or k.older.items i 0
  older-old i lt = ap (λ (xs : List ℕ). get_or xs i 0) older ∙ get_or_append_left k.older.items (was ∷ []) 0 i
      (let s : length k.older.items ≡ length k.cores.items = h.sized in omega (arith, lt, s))

  older-new : get_or m.older.items n 0 ≡ was
  older-new = ap (λ (xs : List ℕ). get_or xs n 0) older ∙ get_or_push k.older.items was 0 n h.sized

  more-sized : length m.older.items ≡ length m.cores.items
  more-sized =
      let a : length m.older.items ≡ length k.older.items + 1 = ap length older ∙ length_push k.older.items was in
      let b : length m.cores.items ≡ length k.cores.items + 1 = ap length cores ∙ length_push k.cores.items core in
      let s : length k.older.items ≡ length k.cores.items = h.sized in
      omega (arith, a, b, s)

  module _ (lit : Lit) (last : last_of core ≡ Some lit) (was-is : was ≡ newest_of k lit)
      (here : newest_of m lit ≡ n + 1) (others : (l : Lit) → (l ≡ lit → ⊥) → newest_of m l ≡ newest_of k l)
      (refuted : m.refuted ≡ k.refuted) where
    cases : (j : ℕ) (l : Lit) → EndsWith m j l → EndsWith k j l ⊎ ((j ≡ n) × (lit ≡ l))
    cases j l e = ⊎_elim (λ o. inl o) (λ w. inr (w.0, same_Some lit l (sym last ∙ w.1))) (ends-cases j l e)

    last-here : EndsWith m n lit
    last-here = (
      core,
      ap (λ (cs : List (List Lit)). slice_get cs n) cores
          ∙ slice_get-push_new k.cores.items core,
      last,
    )

    pub indexed-push : IsIndexed m
    indexed-push = record {
      newest = λ l j e. ⊎_elim
          (λ (same : l ≡ lit).
          let le : j < n + 1 = ⊎_elim (λ o. let lt : j < n = ends-within k j l o in omega (arith, lt))
          (λ (w : (j ≡ n) × (lit ≡ l)). let is : j ≡ n = w.0 in omega (arith, is)) (cases j l e) in
          subst (λ (x : Lit). j < newest_of m x) (sym same) (rw here le))
          (λ ne. ⊎_elim (λ (o : EndsWith k j l). rw (others l ne) (h.newest l j o)) (λ (w : (j ≡ n) × (lit ≡ l)).
          absurd (ne (sym w.1))) (cases j l e))
          (decide_literal l lit);
      ends = λ l j e. ⊎_elim
          (λ (same : l ≡ lit).
          let at : newest_of m lit ≡ j + 1 = subst (λ (x : Lit). newest_of m x ≡ j + 1) same e in
          let is : n ≡ j = omega (arith, at, here) in
          subst (λ (x : Lit). EndsWith m j x) (sym same) (subst (λ (i : ℕ). EndsWith m i lit) is last-here))
          (λ ne. ends-old j l (h.ends l j (sym (others l ne) ∙ e)))
          (decide_literal l lit);
      older = λ l i j e f lt. ⊎_elim
          (λ (o : EndsWith k i l). let below : i < n = ends-within k i l o in
          ⊎_elim
          (λ (p : EndsWith k j l). rw (older-old i below) (h.older l i j o p lt))
          (λ (w : (j ≡ n) × (lit ≡ l)). let is : j ≡ n = w.0 in absurd (omega (arith, below, is, lt)))
          (cases j l f))
          (λ (w : (i ≡ n) × (lit ≡ l)). let is : i ≡ n = w.0 in
          ⊎_elim
          (λ (p : EndsWith k j l). subst (λ (a : ℕ). j < get_or m.older.items a 0) (sym is)
          (rw (older-new, was-is) (h.newest lit j (subst (EndsWith k j) (sym w.1) p))))
          (λ (v : (j ≡ n) × (lit ≡ l)). let at : j ≡ n = v.0 in absurd (omega (arith, is, at, lt)))
          (cases j l f))
          (cases i l e);
      links = λ l i j e f. ⊎_elim
          (λ (o : EndsWith k i l). ends-old j l (h.links l i j o (sym (older-old i (ends-within k i l o)) ∙ f)))
          (λ (w : (i ≡ n) × (lit ≡ l)). let at : get_or m.older.items n 0 ≡ j + 1 =
          subst (λ (a : ℕ). get_or m.older.items a 0 ≡ j + 1) w.0 f in
          ends-old j l (subst (EndsWith k j) w.1 (h.ends lit j (sym was-is ∙ (sym older-new ∙ at)))))
          (cases i l e);
      falls = λ l i e. ⊎_elim
          (λ (o : EndsWith k i l). rw (older-old i (ends-within k i l o)) (h.falls l i o))
          (λ (w : (i ≡ n) × (lit ≡ l)). subst (λ (a : ℕ). get_or m.older.items a 0 ≤ a) (sym w.0)
          (rw (older-new, was-is) (newest-low (newest_of k lit) refl)))
          (cases i l e);
      sized = more-sized;
      noted = λ has. refuted ∙ ⊎_elim
          (λ o. h.noted o)
          (λ (e : core ≡ []). absurd (nothing-last lit (ap last_of (sym e) ∙ last)))
          (Contains-push_cases k.cores.items core [] (subst (λ (cs : List (List Lit)). Contains cs []) cores has));
      refuted = λ yes. subst (λ (cs : List (List Lit)). Contains cs []) (sym cores)
          (Contains-append_left k.cores.items (core ∷ []) [] (h.refuted (sym refuted ∙ yes)));
    }
      where
        newest-low : (a : ℕ) → newest_of k lit ≡ a → a ≤ n
        newest-low zero e = omega arith
        newest-low (suc a) e = let lt : a < n = ends-within k a lit (h.ends lit a (e ∙ omega arith)) in
            omega (arith, lt)

  -- without literals
  module _ (empty : core ≡ []) (newest : (l : Lit) → newest_of m l ≡ newest_of k l) (noted : m.refuted ≡ true) where
    cases-empty : (j : ℕ) (l : Lit) → EndsWith m j l → EndsWith k j l
    cases-empty j l e = ⊎_elim (λ o. o) (λ w. absurd (nothing-last l (ap last_of (sym empty) ∙ w.1))) (ends-cases j l e)

    pub indexed-empty : IsIndexed m
    indexed-empty = record {
      newest = λ l j e. rw (newest l) (h.newest l j (cases-empty j l e));
      ends = λ l j e. ends-old j l (h.ends l j (sym (newest l) ∙ e));
      older = λ l i j e f lt. rw (older-old i (ends-within k i l (cases-empty i l e)))
          (h.older l i j (cases-empty i l e) (cases-empty j l f) lt);
      links = λ l i j e f. ends-old j l (h.links l i j (cases-empty i l e)
          (sym (older-old i (ends-within k i l (cases-empty i l e))) ∙ f));
      falls = λ l i e. rw (older-old i (ends-within k i l (cases-empty i l e))) (h.falls l i (cases-empty i l e));
      sized = more-sized;
      noted = λ has. noted;
      refuted = λ yes. subst (λ (cs : List (List Lit)). Contains cs []) (sym cores)
          (subst (Contains (k.cores.items ++ core ∷ [])) empty (Contains-push k.cores.items core));
    }

-- a core that is not empty has a last literal
last-of-some : (c : List Lit) → (c ≡ [] → ⊥) → (l : Lit) × (last_of c ≡ Some l) × Contains c l
last-of-some [] not = absurd (not refl)
last-of-some (x ∷ xs) not =
    let i : ℕ = length (x ∷ xs) - 1 in
    let lt : i < length (x ∷ xs) = omega arith in
    let at : slice_get (x ∷ xs) i ≡ Some (get_or (x ∷ xs) i x) = slice_get-get_or (x ∷ xs) i x lt in
    (get_or (x ∷ xs) i x, at, (i, lt, get_or_from_slice_get (x ∷ xs) i (get_or (x ∷ xs) i x) (get_or (x ∷ xs) i x) at))

-- no kept core is contained in the literals
pub none-contained : (k : CoreIndex) (lits : List Lit) (set : LitSet) → (k.refuted ≡ true → ⊥) → IsIndexed k
    → IsSetOf lits set → ((l : Lit) (j : ℕ) (c : List Lit) → Contains lits l → slice_get k.cores.items j ≡ Some c
    → EndsWith k j l → All (HasLit set) c → ⊥) → HasCoreWithin k.cores.items lits → ⊥
none-contained k lits set open-yet h is none w =
    let c : List Lit = w.1 in
    let at : slice_get k.cores.items w.0 ≡ Some c = slice_get-get_or k.cores.items w.0 c w.2 ∙ ap Some w.3 in
    let some = last-of-some c (λ e. open-yet (h.noted (subst (Contains k.cores.items) e (w.0, w.2, w.3)))) in
    let has : Contains lits some.0 = All-contains (Contains lits) c some.0 w.4 some.2 in
    none some.0 w.0 c has at (c, at, some.1) (All-weaker (Contains lits) (HasLit set) (λ l m. (is l).1 m) c w.4)

-- those of the literals that are in a kept core within them contain that core
pub core-contained : (cores : List (List Lit)) (lits c core : List Lit) (set blamed : LitSet) (j : ℕ) → IsSetOf lits set
    → IsSetOf c blamed → slice_get cores j ≡ Some c → All (HasLit set) c → IsCoreOf lits blamed core
    → HasCoreWithin cores core
core-contained cores lits c core set blamed j is made at all h = (
  j,
  c,
  slice_get_within cores j c at,
  get_or_from_slice_get cores j c c at,
  All-weaker (Contains c) (Contains core) (λ l has. h.covers l ((is l).0 (All-contains (HasLit set) c l all has))
      ((made l).1 has)) c (All-contains_itself c),
)

-- so they contain one
pub within-of : (cores : List (List Lit)) (lits c : List Lit) (set : LitSet) (j : ℕ) → IsSetOf lits set
    → slice_get cores j ≡ Some c → All (HasLit set) c → HasCoreWithin cores lits
within-of cores lits c set j is at all = (
  j,
  c,
  slice_get_within cores j c at,
  get_or_from_slice_get cores j c c at,
  All-weaker (HasLit set) (Contains lits) (λ l has. (is l).0 has) c all,
)

-- a core without literals is contained in any
pub empty-contained : (cores : List (List Lit)) (core : List Lit) → Contains cores [] → HasCoreWithin cores core
empty-contained cores core has = (has.0, [], has.1, has.2, All-nil (Contains core))

-- an item of a list that is read
pub read-is : {X : Type 0} (xs : List X) (i : ℕ) (r x : X) → r ≡ get_or xs i r → slice_get xs i ≡ Some x → r ≡ x
read-is xs i r x e at = e ∙ get_or_from_slice_get xs i x r at

-- a number that is read is that with 0 past the end
pub number-is : (xs : List ℕ) (i r : ℕ) → i < length xs → r ≡ get_or xs i r → r ≡ get_or xs i 0
number-is xs i r lt e = e ∙ get_or_from_slice_get xs i (get_or xs i 0) r (slice_get-get_or xs i 0 lt)
