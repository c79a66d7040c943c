-- The last open one of the instances of a formula, and of any items.
use Rattle.std.proofs.Common.{◌≡◌, List, [], ◌∷◌, ◌++◌, fold, Bool, true, false, not, ◌&&◌, ◌||◌, Result, refl, sym, ap}
use Rattle.std.proofs.Common.{◌∙◌, subst}
use Rattle.std.specs.List.{AllByRecursion, list_all}
use Rattle.std.proofs.lemmas.Bool.{true≢false, and_parts, and_from}
use Rattle.kb_logic.specs.declared.elements.Elem.{Elem}
use Rattle.kb_logic.specs.Trees.{FormulaTree}
use Rattle.kb_logic.specs.KnownAtoms.{KnownAtoms}
use Rattle.partial_structures.specs.Consistency.{IsConsistent, KnowsMore}
use Rattle.certain_truth.specs.Certainty.{certain_truth}
use Rattle.bound_laws.specs.Lone.{LoneOf}
use Rattle.bound_laws.specs.Closures.{opposes, Obeys}
use Rattle.quantifier_bounds.specs.Steps.{IsImpossible, IsStep, Narrows}
use Rattle.quantifier_bounds.specs.Walks.{Demands, left_with}
use Rattle.quantifier_bounds.specs.declared.fault.BoundFault.{BoundFault}
use Rattle.quantifier_bounds.specs.declared.left.Left.{Left}
use Rattle.quantifier_bounds.specs.declared.left.Left.TheVariants.{None, One, Many}
use Rattle.quantifier_bounds.proofs.Made.{nothing}
use Rattle.quantifier_bounds.proofs.Lasts.{still_lost}
use Rattle.quantifier_bounds.proofs.Steps.{narrows_by}

none_is_one : None ≡ One → ⊥
none_is_one h = cc

none_is_many : None ≡ Many → ⊥
none_is_many h = cc

one_is_many : One ≡ Many → ⊥
one_is_many h = cc

one_is_none : One ≡ None → ⊥
one_is_none h = cc

many_is_none : Many ≡ None → ⊥
many_is_none h = cc

many_is_one : Many ≡ One → ⊥
many_is_one h = cc

module _ {X : Type 0} (lost : X → Bool) where
  abbrev pub counts : Left → List X → Left
  counts l xs = fold (λ u x. left_with u (lost x)) l xs

  pub many_stays : (xs : List X) → counts Many xs ≡ Many
  many_stays [] = refl
  many_stays (x ∷ xs) = by (many_stays xs) (lost x)
    where
      by : counts Many xs ≡ Many → (b : Bool) → counts (left_with Many b) xs ≡ Many
      by go true = go
      by go false = go

  -- after one that is left: all others are lost, or there are more
  pub one_all : (xs : List X) → counts One xs ≡ One → list_all lost xs ≡ true
  one_all [] h = refl
  one_all (x ∷ xs) h = by (one_all xs) (lost x) h
    where
      by : (counts One xs ≡ One → list_all lost xs ≡ true) → (b : Bool) → counts (left_with One b) xs ≡ One
          → (b && list_all lost xs) ≡ true
      by go true i = go i
      by go false i = absurd (many_is_one (sym (many_stays xs) ∙ i))

  one_some : (xs : List X) → counts One xs ≡ Many → list_all lost xs ≡ true → ⊥
  one_some [] h i = one_is_many h
  one_some (x ∷ xs) h i = by (one_some xs) (lost x) h i
    where
      by : (counts One xs ≡ Many → list_all lost xs ≡ true → ⊥) → (b : Bool) → counts (left_with One b) xs ≡ Many
          → (b && list_all lost xs) ≡ true → ⊥
      by go true j k = go j k
      by go false j k = true≢false (sym k)

  one_never : (xs : List X) → counts One xs ≡ None → ⊥
  one_never [] h = one_is_none h
  one_never (x ∷ xs) h = by (one_never xs) (lost x) h
    where
      by : (counts One xs ≡ None → ⊥) → (b : Bool) → counts (left_with One b) xs ≡ None → ⊥
      by go true i = go i
      by go false i = many_is_none (sym (many_stays xs) ∙ i)

  pub none_all : (xs : List X) → counts None xs ≡ None → list_all lost xs ≡ true
  none_all [] h = refl
  none_all (x ∷ xs) h = by (none_all xs) (lost x) h
    where
      by : (counts None xs ≡ None → list_all lost xs ≡ true) → (b : Bool) → counts (left_with None b) xs ≡ None
          → (b && list_all lost xs) ≡ true
      by go true i = go i
      by go false i = absurd (one_never xs i)

  all_none : (ys : List X) → list_all lost ys ≡ true → counts None ys ≡ None
  all_none [] a = refl
  all_none (y ∷ ys) a =
      let p = and_parts (lost y) (list_all lost ys) a in
      ap (λ b. counts (left_with None b) ys) p.0 ∙ all_none ys p.1

  module _ (P : X → Type 0) where
    pub already : (xs : List X) (left : Bool) → left ≡ true → LoneOf P lost xs left
    already [] left h = h
    already (x ∷ xs) left h = (
      λ none. absurd (true≢false (sym h ∙ none)),
      already xs (left || not (lost x)) (ap (λ b.
          b || not (lost x)) h),
    )

    -- more than one is left
    pub many_left : (xs : List X) → counts None xs ≡ Many → LoneOf P lost xs false
    many_left [] h = absurd (none_is_many h)
    many_left (x ∷ xs) h = by (many_left xs) (lost x) refl h
      where
        by : (counts None xs ≡ Many → LoneOf P lost xs false) → (b : Bool) → lost x ≡ b
            → counts (left_with None b) xs ≡ Many → LoneOf P lost (x ∷ xs) false
        by go true e i = (
          λ none all. absurd (none_is_many (sym (all_none xs all) ∙ i)),
          subst (λ b. LoneOf P lost xs (not b)) (sym e) (go i),
        )
        by go false e i = (
          λ none all. absurd (one_some xs i all),
          already xs (not (lost x)) (ap not e),
        )

    -- one is left, and it has P
    pub one_left : (xs : List X) → counts None xs ≡ One → AllByRecursion (λ x. lost x ≡ false → P x) xs
        → LoneOf P lost xs false
    one_left [] h all = absurd (none_is_one h)
    one_left (x ∷ xs) h all = by (λ i. one_left xs i all.1) (lost x) refl h
      where
        by : (counts None xs ≡ One → LoneOf P lost xs false) → (b : Bool) → lost x ≡ b
            → counts (left_with None b) xs ≡ One → LoneOf P lost (x ∷ xs) false
        by go true e i = (
          λ none a. absurd (none_is_one (sym (all_none xs a) ∙ i)),
          subst (λ b. LoneOf P lost xs (not b)) (sym e) (go i),
        )
        by go false e i = (λ none a. all.0 e, already xs (not (lost x)) (ap not e))

-- with more known what was lost is lost
module _ {X : Type 0} (lost later : X → Bool) (still : (x : X) → lost x ≡ true → later x ≡ true) (P : X → Type 0) where
  all_later : (xs : List X) → list_all lost xs ≡ true → list_all later xs ≡ true
  all_later [] h = refl
  all_later (x ∷ xs) h =
      let p = and_parts (lost x) (list_all lost xs) h in
      and_from (later x) (list_all later xs) (still x p.0) (all_later xs p.1)

  all_gone : (xs : List X) (left : Bool) → left ≡ false → list_all lost xs ≡ true → LoneOf P later xs left → ⊥
  all_gone [] left n h l = true≢false (sym l ∙ n)
  all_gone (x ∷ xs) left n h l =
      let p = and_parts (lost x) (list_all lost xs) h in
      all_gone xs (left || not (later x)) (ap (λ b. b || not (later x)) n ∙ ap not (still x p.0)) p.1 l.1

  pub none_left : (xs : List X) → counts lost None xs ≡ None → LoneOf P later xs false → ⊥
  none_left xs h l = all_gone xs false refl (none_all lost xs h) l

  -- the one that is left has P
  pub each_lost : (xs : List X) → list_all lost xs ≡ true → AllByRecursion (λ x. lost x ≡ false → P x) xs
  each_lost [] h = tt
  each_lost (x ∷ xs) h =
      let p = and_parts (lost x) (list_all lost xs) h in
      (λ n. absurd (true≢false (sym p.0 ∙ n)), each_lost xs p.1)

  pub one_forced : (xs : List X) → counts lost None xs ≡ One → LoneOf P later xs false
      → AllByRecursion (λ x. lost x ≡ false → P x) xs
  one_forced [] h l = tt
  one_forced (x ∷ xs) h l = by (one_forced xs) (lost x) refl h
    where
      by : (counts lost None xs ≡ One → LoneOf P later xs false → AllByRecursion (λ y. lost y ≡ false → P y) xs)
          → (b : Bool) → lost x ≡ b → counts lost (left_with None b) xs ≡ One
          → AllByRecursion (λ y. lost y ≡ false → P y) (x ∷ xs)
      by go true e i = (
        λ n. absurd (true≢false (sym e ∙ n)),
        go i (subst (λ b. LoneOf P later xs (not b)) (still x e) l.1),
      )
      by go false e i =
          let all = one_all lost xs i in
          (λ n. l.0 refl (all_later xs all), each_lost xs all)

-- ---- the instances of a formula

module _ (k : KnownAtoms) (v : Bool) (f : FormulaTree) (e : List Elem) (choices : List (List Elem) → List (List Elem))
  where
    abbrev lost_in : KnownAtoms → List Elem → Bool
    lost_in q a = opposes v (certain_truth q f (e ++ a))

    abbrev pub Lone : KnownAtoms → Type 0
    Lone q = LoneOf (λ a. Obeys q v f (e ++ a)) (λ a. opposes v (certain_truth q f (e ++ a))) (choices q.domains) false

    later : (q : KnownAtoms) → IsConsistent q → KnowsMore k q → (a : List Elem) → lost_in k a ≡ true
        → lost_in q a ≡ true
    later q c m a = still_lost k q c m v f (e ++ a)

    pub lone_none : counts (lost_in k) None (choices k.domains) ≡ None → IsImpossible k Lone
    lone_none h q c l m w =
        none_left (lost_in k) (lost_in q) (later q c m) (λ a. Obeys q v f (e ++ a)) (choices k.domains) h
        (subst (λ d. LoneOf (λ a. Obeys q v f (e ++ a)) (lost_in q) (choices d) false) m.domains w)

    pub lone_many : counts (lost_in k) None (choices k.domains) ≡ Many → IsStep k k false Lone
    lone_many h = nothing k Lone (many_left (lost_in k) (λ a. Obeys k v f (e ++ a)) (choices k.domains) h)

    pub lone_one : (new : KnownAtoms) (r : Result Bool BoundFault) (d : List (List Elem)) → d ≡ k.domains
        → counts (lost_in k) None (choices k.domains) ≡ One
        → Narrows k new r (λ q. AllByRecursion (λ a. Demands k true v f (e ++ a) q) (choices d)) → Narrows k new r Lone
    lone_one new r d is h n =
        narrows_by k new r (λ q. AllByRecursion (λ a. Demands k true v f (e ++ a) q) (choices d)) Lone
        (λ q c l m w. subst (λ ds. AllByRecursion (λ a. Demands k true v f (e ++ a) q) (choices ds)) (sym is)
        (one_forced (lost_in k) (lost_in q) (later q c m) (λ a. Obeys q v f (e ++ a)) (choices k.domains) h
        (subst (λ ds. LoneOf (λ a. Obeys q v f (e ++ a)) (lost_in q) (choices ds) false) m.domains w)))
        (λ same w. subst Lone (sym same) (one_left (lost_in k) (λ a. Obeys k v f (e ++ a)) (choices k.domains) h
        (subst (λ ds. AllByRecursion (λ a. Demands k true v f (e ++ a) k) (choices ds)) is
        (subst (λ j. AllByRecursion (λ a. Demands k true v f (e ++ a) j) (choices d)) same w)))) n

    pub all_wanted : (new : KnownAtoms) (r : Result Bool BoundFault) (d : List (List Elem)) → d ≡ k.domains
        → Narrows k new r (λ q. AllByRecursion (λ a. Demands k false v f (e ++ a) q) (choices d))
        → Narrows k new r (λ q. AllByRecursion (λ a. Obeys q v f (e ++ a)) (choices q.domains))
    all_wanted new r d is n =
        narrows_by k new r (λ q. AllByRecursion (λ a. Demands k false v f (e ++ a) q) (choices d))
        (λ q. AllByRecursion (λ a. Obeys q v f (e ++ a)) (choices q.domains))
        (λ q c l m w. subst (λ ds. AllByRecursion (λ a. Demands k false v f (e ++ a) q) (choices ds))
        (m.domains ∙ sym is)
        (asks q (choices q.domains) w))
        (λ same w. subst (λ ds. AllByRecursion (λ a. Obeys new v f (e ++ a)) (choices ds))
        (is ∙ ap (λ j. j.domains) (sym same))
        (gives new (choices d) w)) n
      where
        asks : (q : KnownAtoms) (xs : List (List Elem)) → AllByRecursion (λ a. Obeys q v f (e ++ a)) xs
            → AllByRecursion (λ a. Demands k false v f (e ++ a) q) xs
        asks q [] h = tt
        asks q (x ∷ xs) h = (λ n. h.0, asks q xs h.1)

        gives : (q : KnownAtoms) (xs : List (List Elem)) → AllByRecursion (λ a. Demands k false v f (e ++ a) q) xs
            → AllByRecursion (λ a. Obeys q v f (e ++ a)) xs
        gives q [] h = tt
        gives q (x ∷ xs) h = (h.0 refl, gives q xs h.1)
