-- The parts of an implication and of an equivalence.
use Rattle.std.proofs.Common.{◌≡◌, List, Bool, true, false, not, ◌||◌, refl, sym, ap, ◌∙◌}
use Rattle.std.proofs.lemmas.Bool.{true≢false}
use Rattle.kb_logic.specs.declared.elements.Elem.{Elem}
use Rattle.kb_logic.specs.Trees.{FormulaTree, implication, equivalence}
use Rattle.kb_logic.specs.KnownAtoms.{KnownAtoms}
use Rattle.partial_structures.specs.Consistency.{IsConsistent, IsListed, KnowsMore}
use Rattle.partial_structures.specs.declared.truths.Truth.{Truth}
use Rattle.partial_structures.specs.declared.truths.Truth.TheVariants.{Yes, No, Unknown}
use Rattle.certain_truth.specs.Certainty.{certain_truth}
use Rattle.certain_truth.proofs.Monotony.{certainty_is_monotone}
use Rattle.bound_laws.specs.Closures.{opposes, Obeys}
use Rattle.bound_laws.proofs.Adding.{certain_adds_nothing}
use Rattle.quantifier_bounds.specs.Walks.{Follows, told_truth}
use Rattle.quantifier_bounds.proofs.Lasts.{still_lost}
use Rattle.quantifier_bounds.proofs.Steps.{Follow}

lost_no : (t : Truth) → opposes true t ≡ true → t ≡ No
lost_no Yes h = absurd (true≢false (sym h))
lost_no No h = refl
lost_no Unknown h = absurd (true≢false (sym h))

lost_yes : (t : Truth) → opposes false t ≡ true → t ≡ Yes
lost_yes Yes h = refl
lost_yes No h = absurd (true≢false (sym h))
lost_yes Unknown h = absurd (true≢false (sym h))

module _ (f g : FormulaTree) (e : List Elem) where
  pub left_asked : (k : KnownAtoms) (v asked : Bool) → asked ≡ (not v || opposes true (certain_truth k g e))
      → Follow k (λ q. Obeys q v (implication f g) e) (λ q. asked ≡ true → Obeys q (not v) f e)
  left_asked k true asked is q c l m h y =
      h.0 (lost_no (certain_truth q g e) (still_lost k q c m true g e (sym is ∙ y)))
  left_asked k false asked is q c l m h y = h.0

  pub right_asked : (k : KnownAtoms) (v asked : Bool) → asked ≡ (not v || opposes false (certain_truth k f e))
      → Follow k (λ q. Obeys q v (implication f g) e) (λ q. asked ≡ true → Obeys q v g e)
  right_asked k true asked is q c l m h y =
      h.1 (lost_yes (certain_truth q f e) (still_lost k q c m false f e (sym is ∙ y)))
  right_asked k false asked is q c l m h y = h.1

  both_asked : (k : KnownAtoms) (v a b : Bool) → a ≡ (not v || opposes true (certain_truth k g e))
      → b ≡ (not v || opposes false (certain_truth k f e)) → (a ≡ true → Obeys k (not v) f e)
      → (b ≡ true → Obeys k v g e) → Obeys k v (implication f g) e
  both_asked k true a b is js h i = (λ no_. h (is ∙ ap (opposes true) no_), λ yes_. i (js ∙ ap (opposes false) yes_))
  both_asked k false a b is js h i = (h is, i js)

  pub implied_joins : (first now : KnownAtoms) (v a b : Bool) → a ≡ (not v || opposes true (certain_truth now g e))
      → b ≡ (not v || opposes false (certain_truth first f e)) → now ≡ first → (b ≡ true → Obeys now v g e)
      → (a ≡ true → Obeys now (not v) f e) → Obeys now v (implication f g) e
  implied_joins first now v a b is js same i h =
      both_asked now v a b is (js ∙ ap (λ k. not v || opposes false (certain_truth k f e)) (sym same)) h i

  told_left : (v : Bool) (t : Truth) → opposes false (told_truth v t) ≡ (not v || opposes false t)
  told_left true t = refl
  told_left false t = refl

  -- whether the right side is asked for
  pub right_is_asked : (k : KnownAtoms) (v asked : Bool) (t : Truth) → t ≡ told_truth v (certain_truth k f e)
      → asked ≡ opposes false t → asked ≡ (not v || opposes false (certain_truth k f e))
  right_is_asked k v asked t is so = so ∙ ap (opposes false) is ∙ told_left v (certain_truth k f e)

  both : (u : Truth) → u ≡ Yes → u ≡ No → ⊥
  both u a b = cc

  -- where the left side is certainly false, the implication adds nothing
  pub left_is_no : (k : KnownAtoms) → IsConsistent k → IsListed k → (v lost : Bool) (t : Truth)
      → t ≡ told_truth v (certain_truth k f e) → lost ≡ opposes true t → lost ≡ true → Obeys k v (implication f g) e
  left_is_no k c l true lost t is so holds =
      let none : certain_truth k f e ≡ No = sym is ∙ lost_no t (sym so ∙ holds) in (
        λ y. certain_adds_nothing k c l f e false none,
        λ y. absurd (both (certain_truth k f e) y none),
      )
  left_is_no k c l false lost t is so holds =
      absurd (true≢false (sym (sym so ∙ holds) ∙ ap (opposes true) is))

  -- ---- equivalences

  toward : (k q : KnownAtoms) (v : Bool) (o : Truth) (t u : FormulaTree) → IsConsistent q → KnowsMore k q
      → o ≡ certain_truth k t e → (certain_truth q t e ≡ Yes → Obeys q v u e)
      → (certain_truth q t e ≡ No → Obeys q (not v) u e) → Follows q o v (not v) u e
  toward k q v Yes t u c m is y n = y (((certainty_is_monotone k q c m).0 t e).0 (sym is))
  toward k q v No t u c m is y n = n (((certainty_is_monotone k q c m).0 t e).1 (sym is))
  toward k q v Unknown t u c m is y n = tt

  pub right_follows : (k : KnownAtoms) (v : Bool) (o : Truth) → o ≡ certain_truth k f e
      → Follow k (λ q. Obeys q v (equivalence f g) e) (λ q. Follows q o v (not v) g e)
  right_follows k v o is q c l m h = toward k q v o f g c m is h.0 h.1

  pub left_follows : (k : KnownAtoms) (v : Bool) (o : Truth) → o ≡ certain_truth k g e
      → Follow k (λ q. Obeys q v (equivalence f g) e) (λ q. Follows q o v (not v) f e)
  left_follows k v o is q c l m h = toward k q v o g f c m is h.2 h.3

  differ : (t : Truth) → t ≡ Yes → t ≡ No → ⊥
  differ t a b = cc

  unlike : (t : Truth) → Unknown ≡ t → (t ≡ Yes → ⊥) × (t ≡ No → ⊥)
  unlike t a = (λ b. cc, λ b. cc)

  from_follows : (k : KnownAtoms) (v : Bool) (o : Truth) (t u : FormulaTree) → o ≡ certain_truth k t e
      → Follows k o v (not v) u e
      → (certain_truth k t e ≡ Yes → Obeys k v u e) × (certain_truth k t e ≡ No → Obeys k (not v) u e)
  from_follows k v Yes t u is h = (λ y. h, λ n. absurd (differ (certain_truth k t e) (sym is) n))
  from_follows k v No t u is h = (λ y. absurd (differ (certain_truth k t e) y (sym is)), λ n. h)
  from_follows k v Unknown t u is h =
      let d = unlike (certain_truth k t e) is in (λ y. absurd (d.0 y), λ n. absurd (d.1 n))

  pub alike_joins : (first now : KnownAtoms) (v : Bool) (o p : Truth) → o ≡ certain_truth first f e
      → p ≡ certain_truth now g e → now ≡ first → Follows now o v (not v) g e → Follows now p v (not v) f e
      → Obeys now v (equivalence f g) e
  alike_joins first now v o p is js same h i =
      let a = from_follows now v o f g (is ∙ ap (λ k. certain_truth k f e) (sym same)) h in
      let b = from_follows now v p g f js i in
      (a.0, a.1, b.0, b.1)
