-- How the steps of a search change.
use Rattle.std.proofs.Common.{◌≡◌, ℕ, suc, ◌+◌, ◌<◌, ◌≤◌, Bool, true, false, Option, Some, None, is_some, cond, List}
use Rattle.std.proofs.Common.{[], ◌∷◌, ◌++◌, length, map, take, drop, get_or, slice_get, count_by, refl, sym, ap, ◌∙◌}
use Rattle.std.proofs.Common.{subst, ◌⊎◌, inl, inr, ⊎_elim, arith, All, drop-cons}
use Rattle.std.specs.Prelude.{IsSome}
use Rattle.std.proofs.lemmas.Bool.{cases_lt}
use Rattle.std.proofs.lemmas.List.{take-append-drop, length-take-le, take-take, take_all, get_or-drop, get_or-take}
use Rattle.std.proofs.lemmas.List.Sums.{sum_by-append, sum_by-cons}
use Rattle.std.proofs.lemmas.Option.{slice_get_within, slice_get-get_or, get_or_from_slice_get}
use Rattle.lit_core.specs.declared.literals.Lit.{Lit}
use Rattle.lit_core.specs.Literals.{value_in, negated, by_sign_if_any}
use Rattle.clause_store.specs.declared.trails.Step.{Step}
use Rattle.clause_store.specs.TrailState.{TrailState}
use Rattle.clause_store.specs.TrailLaws.{IsTrail, IsCoherent, IsMade, CutsAt}
use Rattle.clause_store.specs.StoreState.{StoreState, IsMadeBefore, Propagates}
use Rattle.clause_store.proofs.ListFacts.{slice_get-take, slice_get-take-below, count_by-lt-length}
use Rattle.clause_store.proofs.TrailFacts.{by_sign-self}
use Rattle.clause_store.proofs.StoreFacts.{negated-true}
use Rattle.clause_store.proofs.WatchFacts.{made-false}
use Rattle.clause_store.proofs.DecisionFacts.{cut-at-decision}
use Rattle.clause_store.proofs.PropagateFacts.{front-le}
use Rattle.ground_core.specs.Problems.{IsLitOf}
use Rattle.search_engine.specs.Potential.{implied_of}
use Rattle.search_engine.specs.Searching.{IsOrderly, KeepsAssumed, Extends}

-- a list around one of its items
split-at : {X : Type 0} (xs : List X) (k : ℕ) (x : X) → slice_get xs k ≡ Some x → xs ≡ take k xs ++ x ∷ drop (suc k) xs
split-at xs k x at =
    let lt : k < length xs = slice_get_within xs k x at in
    let cons : drop k xs ≡ get_or xs k x ∷ drop (suc k) xs = drop-cons xs k x lt in
    let is : get_or xs k x ≡ x = get_or_from_slice_get xs k x x at in
    sym (take-append-drop k xs) ∙ ap (λ ys. take k xs ++ ys) (cons ∙ ap (λ y. y ∷ drop (suc k) xs) is)

map-append : {X Y : Type 0} (f : X → Y) (xs ys : List X) → map f (xs ++ ys) ≡ map f xs ++ map f ys
map-append f [] ys = refl
map-append f (x ∷ xs) ys = ap (λ zs. f x ∷ zs) (map-append f xs ys)

pub bits-append : (xs ys : List Step) → implied_of (xs ++ ys) ≡ implied_of xs ++ implied_of ys
bits-append xs ys = map-append (λ (t : Step). is_some t.reason) xs ys

some-is : (o : Option ℕ) → IsSome o → is_some o ≡ true
some-is None h = h
some-is (Some n) h = refl

none-is : (o : Option ℕ) → o ≡ None → is_some o ≡ false
none-is None h = refl
none-is (Some n) h = cc

none-not-some : (o : Option ℕ) → o ≡ None → IsSome o → ⊥
none-not-some None e h = cc
none-not-some (Some n) e h = cc

some_step : Step
some_step = record { lit = record { var = record { 0 = 0 }; positive = false }; level = 0; reason = None }

first-follows : (old new : List Step) → Extends old new → length old < length new
    → (q : List Bool) × (implied_of new ≡ implied_of old ++ true ∷ q)
first-follows old new h lt =
    let n : ℕ = length old in
    let t : Step = get_or new n some_step in
    let at : slice_get new n ≡ Some t = slice_get-get_or new n some_step lt in
    let split : new ≡ take n new ++ t ∷ drop (suc n) new = split-at new n t at in
    let front : new ≡ old ++ t ∷ drop (suc n) new = split ∙ ap (λ xs. xs ++ t ∷ drop (suc n) new) (sym h.kept) in
    let is : is_some t.reason ≡ true = some-is t.reason (h.reasoned n t (omega arith) at) in (
      implied_of (drop (suc n) new),
      ap implied_of front ∙ (bits-append old (t ∷ drop (suc n) new)
          ∙ ap (λ b. implied_of old ++ b ∷ implied_of (drop (suc n) new)) is),
    )

-- either nothing was added, or something that follows
pub extends-cases : (old new : List Step) → Extends old new → (new ≡ old)
    ⊎ ((q : List Bool) × (implied_of new ≡ implied_of old ++ true ∷ q))
extends-cases old new h = ⊎_elim
    (λ lt. inr (first-follows old new h lt))
    (λ le. inl (sym (h.kept ∙ take_all (length old) new le)))
    (cases_lt (length old) (length new))

pub extends-refl : (xs : List Step) → Extends xs xs
extends-refl xs = record {
  kept = sym (take_all (length xs) xs (omega arith));
  reasoned = λ k t past e. let lt : k < length xs = slice_get_within xs k t e in absurd (omega arith);
}

pub extends-trans : (a b c : List Step) → Extends a b → Extends b c → Extends a c
extends-trans a b c f g =
    let le : length a ≤ length b = front-le a b f.kept in
    record {
      kept = f.kept ∙ (ap (take (length a)) g.kept ∙ take-take (length a) (length b) c le);
      reasoned = λ k t past e. ⊎_elim
          (λ lt. f.reasoned k t past (ap (λ (xs : List Step). slice_get xs k) g.kept
          ∙ (slice_get-take-below (length b) c k lt ∙ e)))
          (λ ge. g.reasoned k t ge e)
          (cases_lt k (length b));
    }

pub extends-propagates : (old new : StoreState) → Propagates old new → Extends old.trail.steps new.trail.steps
extends-propagates old new h = record { kept = h.kept; reasoned = λ k t past e. (h.reasoned k t past e).0 }

-- a step that was there is there still
pub extends-at : (old new : List Step) → Extends old new → (k : ℕ) (t : Step) → slice_get old k ≡ Some t
    → slice_get new k ≡ Some t
extends-at old new h k t e =
    let lt : k < length old = slice_get_within old k t e in
    sym (slice_get-take-below (length old) new k lt) ∙ (ap (λ (xs : List Step). slice_get xs k) (sym h.kept) ∙ e)

-- a step without a reason was there
pub extends-from : (old new : List Step) → Extends old new → (k : ℕ) (t : Step) → slice_get new k ≡ Some t
    → t.reason ≡ None → slice_get old k ≡ Some t
extends-from old new h k t e none = ⊎_elim
    (λ lt. ap (λ (xs : List Step). slice_get xs k) h.kept ∙ (slice_get-take-below (length old) new k lt ∙ e))
    (λ ge. absurd (none-not-some t.reason none (h.reasoned k t ge e)))
    (cases_lt k (length old))

pub extends-assumed : (old new : List Step) → Extends old new → KeepsAssumed old new
extends-assumed old new h assume a k t e none =
    ⊎_elim
    (λ c. inl c)
    (λ (m : All (IsMadeBefore old k) assume). inr (λ j d lt. let w = m j d lt in
    (w.0, w.1, w.2, extends-at old new h w.0 w.1 w.3, w.4)))
    (a k t (extends-from old new h k t e none) none)

module _ (level : ℕ) (s t : TrailState) (cut : CutsAt level s t) where
  -- a step that is left is one of before
  left : (k : ℕ) (u : Step) → slice_get t.steps k ≡ Some u → slice_get s.steps k ≡ Some u
  left k u at = (slice_get-take (length t.steps) s.steps k u (ap (λ (xs : List Step). slice_get xs k)
      (sym cut.kept) ∙ at)).0

  stays : (k : ℕ) (u : Step) → k < length t.steps → slice_get s.steps k ≡ Some u → slice_get t.steps k ≡ Some u
  stays k u lt at = ap (λ (xs : List Step). slice_get xs k) cut.kept
      ∙ (slice_get-take-below (length t.steps) s.steps k lt ∙ at)

  pub cut-assumed : KeepsAssumed s.steps t.steps
  cut-assumed assume a k u e none =
      let lt : k < length t.steps = slice_get_within t.steps k u e in
      ⊎_elim
      (λ c. inl c)
      (λ (m : All (IsMadeBefore s.steps k) assume). inr (λ j d l. let w = m j d l in let below : w.0 < k = w.2 in
      (w.0, w.1, w.2, stays w.0 w.1 (omega (arith, lt, below)) w.3, w.4)))
      (a k u (left k u e) none)

  pub cut-orderly : (vars : ℕ) → IsOrderly vars s.steps → IsOrderly vars t.steps
  cut-orderly vars h = record {
    named = λ k u e. h.named k u (left k u e);
    decided = λ k u e. h.decided k u (left k u e);
  }

  -- something was taken back, first a decision
  pub cut-bits : IsTrail s → level < s.level → (q : List Bool) × (implied_of s.steps ≡ implied_of t.steps ++ false ∷ q)
  cut-bits trail lower =
      let n : ℕ = length t.steps in
      let d = trail.decisions s.level (omega arith) (omega arith) in
      let past : n ≤ d.0 = ⊎_elim
      (λ lt. let low : d.1.level ≤ level = cut.below d.0 d.1 (stays d.0 d.1 lt d.2) in let at : d.1.level ≡ s.level =
      d.3 in absurd (omega (arith, low, at, lower)))
      (λ le. le)
      (cases_lt d.0 n) in
      let within : d.0 < length s.steps = slice_get_within s.steps d.0 d.1 d.2 in
      let u : Step = get_or s.steps n some_step in
      let at : slice_get s.steps n ≡ Some u = slice_get-get_or s.steps n some_step (omega (arith, past, within)) in
      let none : u.reason ≡ None = cut-at-decision s t level trail cut u at in
      let split : s.steps ≡ take n s.steps ++ u ∷ drop (suc n) s.steps = split-at s.steps n u at in
      let front : s.steps ≡ t.steps ++ u ∷ drop (suc n) s.steps = split ∙ ap (λ xs. xs ++ u ∷ drop (suc n) s.steps)
      (sym cut.kept) in (
        implied_of (drop (suc n) s.steps),
        ap implied_of front ∙ (bits-append t.steps (u ∷ drop (suc n) s.steps)
            ∙ ap (λ b. implied_of t.steps ++ b ∷ implied_of (drop (suc n) s.steps)) (none-is u.reason none)),
      )

-- values stay while steps are added
module _ (a b : List (Option Bool)) (old new : List Step) (was : IsCoherent a old) (is : IsCoherent b new)
    (h : Extends old new) where
  pub still-true : (m : Lit) → value_in a m ≡ Some true → value_in b m ≡ Some true
  still-true m e =
      let w : IsMade old m = was.was_made m e in
      subst (λ (l : Lit). value_in b l ≡ Some true) w.3 (is.are_true w.0 w.1 (extends-at old new h w.0 w.1 w.2))

  pub still-false : (m : Lit) → value_in a m ≡ Some false → value_in b m ≡ Some false
  still-false m e =
      let w : IsMade old (negated m) = was.was_made (negated m) (negated-true a m e) in
      made-false b new m is w.0 w.1 (extends-at old new h w.0 w.1 w.2) w.3

-- the same steps give the same values
pub same-open : (a b : List (Option Bool)) (old new : List Step) → IsCoherent a old → IsCoherent b new → new ≡ old
    → (m : Lit) → value_in a m ≡ None → value_in b m ≡ None
same-open a b old new was is same m none = by_value (value_in b m) refl
  where
    back : Extends new old
    back = subst (λ (xs : List Step). Extends new xs) same (extends-refl new)

    by_value : (o : Option Bool) → value_in b m ≡ o → value_in b m ≡ None
    by_value None e = e
    by_value (Some true) e = let x : value_in a m ≡ Some true = still-true b a new old is was back m e in
        let y : None ≡ Some true = sym none ∙ x in cc
    by_value (Some false) e = let x : value_in a m ≡ Some false = still-false b a new old is was back m e in
        let y : None ≡ Some false = sym none ∙ x in cc

abbrev one-if : Bool → ℕ
one-if b = cond b 1 0

-- a trail whose steps name the first variables has no more steps than these
module _ (vars : ℕ) (values : List (Option Bool)) (steps : List Step) (coherent : IsCoherent values steps)
    (orderly : IsOrderly vars steps) (sized : vars < length values) where
  -- other numbers have no value
  outside : (k : ℕ) (o : Option Bool) → get_or values k None ≡ o → ((1 ≤ k) → (k ≤ vars) → ⊥) → is_some o ≡ false
  outside k None e out = refl
  outside k (Some b) e out =
      let l : Lit = record { var = record { 0 = k }; positive = b } in
      let true-is : value_in values l ≡ Some true = ap (by_sign_if_any b) e ∙ ap Some (by_sign-self b) in
      let w : IsMade steps l = coherent.was_made l true-is in
      let n : IsLitOf vars l = subst (IsLitOf vars) w.3 (orderly.named w.0 w.1 w.2) in
      absurd (out n.0 n.1)

  none-counts : (xs : List (Option Bool)) → ((k : ℕ) → is_some (get_or xs k None) ≡ false) → count_by is_some xs ≡ 0
  none-counts [] h = refl
  none-counts (x ∷ xs) h =
      let first : is_some x ≡ false = h 0 in
      let rest : count_by is_some xs ≡ 0 = none-counts xs (λ k. h (suc k)) in
      let one : one-if (is_some x) ≡ one-if false = ap one-if first in
      let all : count_by is_some (x ∷ xs) ≡ one-if (is_some x) + count_by is_some xs =
      sum_by-cons (λ y. cond (is_some y) 1 0) x xs in
      omega (arith, rest, one, all)

  pub steps-fit : length steps ≤ vars
  steps-fit =
      let front : List (Option Bool) = take (suc vars) values in
      let back : List (Option Bool) = drop (suc vars) values in
      let whole : front ++ back ≡ values = take-append-drop (suc vars) values in
      let counts : count_by is_some (front ++ back) ≡ count_by is_some front + count_by is_some back =
      sum_by-append (λ y. cond (is_some y) 1 0) front back in
      let all : count_by is_some (front ++ back) ≡ length steps = ap (count_by is_some) whole ∙ coherent.once in
      let none : count_by is_some back ≡ 0 = none-counts back (λ k. let e : get_or back k None ≡ get_or values
      (suc vars + k) None = get_or-drop (suc vars) values k None in ap is_some e
      ∙ outside (suc vars + k) (get_or values (suc vars + k) None) refl (λ low high. omega (arith, high))) in
      let len : length front ≡ suc vars = length-take-le (suc vars) values (omega (arith, sized)) in
      let at : slice_get front 0 ≡ Some (get_or front 0 None) = slice_get-get_or front 0 None (omega (arith, len)) in
      let zero-is : get_or front 0 None ≡ get_or values 0 None = get_or-take (suc vars) values 0 None (omega arith) in
      let open-is : is_some (get_or front 0 None) ≡ false = ap is_some zero-is ∙ outside 0 (get_or values 0 None) refl
      (λ low high. omega (arith, low)) in
      let less : count_by is_some front < length front = count_by-lt-length is_some front 0 (get_or front 0 None)
      at open-is in
      omega (arith, counts, all, none, len, less)
