-- What is certainly of a value adds nothing where it must be of it.
use Rattle.std.proofs.Common.{◌≡◌, ℕ, List, [], ◌∷◌, ◌++◌, map, Bool, true, false, ◌&&◌, ◌||◌, not, option_map}
use Rattle.std.proofs.Common.{if◌then◌else◌, Option, None, Some, refl, sym, ap, ◌∙◌, subst, slice_get, ◌⊎◌, inl, inr}
use Rattle.std.specs.List.{list_all, AllByRecursion}
use Rattle.std.proofs.lemmas.Bool.{true≢false, and_parts, and_from}
use Rattle.kb_logic.specs.declared.elements.Elem.{Elem}
use Rattle.kb_logic.specs.declared.syntax.Cmp.{Cmp}
use Rattle.kb_logic.specs.declared.syntax.Cmp.TheVariants as cmp
use Rattle.kb_logic.specs.Trees.{TermTree, TermTrees, variable, integer, constructed, application, summation, product}
use Rattle.kb_logic.specs.Trees.{aggregate}
use Rattle.kb_logic.specs.Trees.{FormulaTree, verum, falsum, atom, comparison, negation, conjunction, disjunction}
use Rattle.kb_logic.specs.Trees.{implication, equivalence, universal, existential, numbered}
use Rattle.kb_logic.specs.Trees.{FormulaTrees, no_formulas, more_formulas}
use Rattle.kb_logic.specs.Structures.{choices}
use Rattle.kb_logic.specs.Denotations.{Denotation, denotation_of, same_value}
use Rattle.partial_structures.specs.KnownAtoms.{KnownAtoms, value_of_row}
use Rattle.partial_structures.specs.Applications.{arguments_typed, result_typed, atom_certain, value_certain}
use Rattle.partial_structures.specs.Applications.{applied_known, outside_value}
use Rattle.partial_structures.specs.Consistency.{IsConsistent, IsListed}
use Rattle.partial_structures.specs.declared.truths.Truth.{Truth}
use Rattle.partial_structures.specs.declared.truths.Truth.TheVariants.{Yes, No, Unknown}
use Rattle.certain_truth.specs.Certainty.{truth_if, not_certain, both_certain, either_certain, alike_certain}
use Rattle.certain_truth.specs.Certainty.{all_certain, any_certain, all_parts, any_part, or_else, compared_known}
use Rattle.certain_truth.specs.Certainty.{equation_certain, known_value, known_values, certain_truth}
use Rattle.bound_laws.specs.Lone.{LoneOf}
use Rattle.bound_laws.specs.Closures.{opposes, all_oppose, AtomHas, SideHas, EquationHas}
use Rattle.bound_laws.specs.Closures.{Obeys, AllObey, LastObeys}
use Rattle.bound_laws.proofs.Rows.{known_row, args_typed, result_of, none_named, some_named}
use Rattle.certain_truth.proofs.Soundness.{same_sym}
use Rattle.certain_truth.proofs.Monotony.{Above, Agrees, or_else_last, equation_none, equation_agrees}
use Rattle.bound_laws.specs.Laws.{CertainAddsNothing}

both_yes : (a b : Truth) → both_certain a b ≡ Yes → (a ≡ Yes) × (b ≡ Yes)
both_yes Yes b h = (refl, h)
both_yes No b h = absurd (cc)
both_yes Unknown Yes h = absurd (cc)
both_yes Unknown No h = absurd (cc)
both_yes Unknown Unknown h = absurd (cc)

both_no : (a b : Truth) → both_certain a b ≡ No → (a ≡ No) ⊎ (b ≡ No)
both_no Yes b h = inr h
both_no No b h = inl refl
both_no Unknown Yes h = absurd (cc)
both_no Unknown No h = inr refl
both_no Unknown Unknown h = absurd (cc)

either_yes : (a b : Truth) → either_certain a b ≡ Yes → (a ≡ Yes) ⊎ (b ≡ Yes)
either_yes Yes b h = inl refl
either_yes No b h = inr h
either_yes Unknown Yes h = inr refl
either_yes Unknown No h = absurd (cc)
either_yes Unknown Unknown h = absurd (cc)

either_no : (a b : Truth) → either_certain a b ≡ No → (a ≡ No) × (b ≡ No)
either_no Yes b h = absurd (cc)
either_no No b h = (refl, h)
either_no Unknown Yes h = absurd (cc)
either_no Unknown No h = absurd (cc)
either_no Unknown Unknown h = absurd (cc)

not_is : (t : Truth) (v : Bool) → not_certain t ≡ truth_if v → t ≡ truth_if (not v)
not_is Yes true h = absurd (cc)
not_is Yes false h = refl
not_is No true h = refl
not_is No false h = absurd (cc)
not_is Unknown true h = absurd (cc)
not_is Unknown false h = absurd (cc)

not_lost : (v : Bool) (t : Truth) → t ≡ truth_if v → opposes v t ≡ false
not_lost true t h = ap (opposes true) h
not_lost false t h = ap (opposes false) h

-- one side of an implication, where the other is the other one
right_no : (t u : Truth) → u ≡ No → either_certain (not_certain t) u ≡ Yes → t ≡ No
right_no Yes u e h = absurd (cc)
right_no No u e h = refl
right_no Unknown u e h = absurd (cc)

left_yes : (t u : Truth) → t ≡ Yes → either_certain (not_certain t) u ≡ Yes → u ≡ Yes
left_yes t u e h = sym (ap (λ x. either_certain (not_certain x) u) e) ∙ h

alike_right_yes : (t u : Truth) (v : Bool) → u ≡ Yes → alike_certain t u ≡ truth_if v → t ≡ truth_if v
alike_right_yes Yes u v e h = sym e ∙ h
alike_right_yes No u v e h = sym (ap not_certain e) ∙ h
alike_right_yes Unknown u v e h = h

alike_right_no : (t u : Truth) (v : Bool) → u ≡ No → alike_certain t u ≡ truth_if v → t ≡ truth_if (not v)
alike_right_no Yes u true e h = absurd (cc)
alike_right_no Yes u false e h = refl
alike_right_no No u true e h = refl
alike_right_no No u false e h = absurd (cc)
alike_right_no Unknown u true e h = absurd (cc)
alike_right_no Unknown u false e h = absurd (cc)

alike_left_yes : (t u : Truth) (v : Bool) → t ≡ Yes → alike_certain t u ≡ truth_if v → u ≡ truth_if v
alike_left_yes t u v e h = sym (ap (λ x. alike_certain x u) e) ∙ h

alike_left_no : (t u : Truth) (v : Bool) → t ≡ No → alike_certain t u ≡ truth_if v → u ≡ truth_if (not v)
alike_left_no t u v e h = not_is u v (sym (ap (λ x. alike_certain x u) e) ∙ h)

or_true : (b : Bool) → (b || true) ≡ true
or_true true = refl
or_true false = refl

or_first : (a b : Bool) → a ≡ true → (a || b) ≡ true
or_first a b h = ap (λ x. x || b) h

-- what is left after an item: one before it, or the item itself where it is not lost
still_left : (left : Bool) (v : Bool) (t : Truth) → t ≡ truth_if v → (left || not (opposes v t)) ≡ true
still_left left v t h = ap (λ b. left || not b) (not_lost v t h) ∙ or_true left

-- ---- lists

module _ {X : Type 0} (T : X → Truth) where
  lost_any : (xs : List X) → list_all (λ x. opposes true (T x)) xs ≡ true → any_certain T xs ≡ Yes → ⊥
  lost_any [] h e = cc
  lost_any (x ∷ xs) h e =
      let both = and_parts (opposes true (T x)) (list_all (λ y. opposes true (T y)) xs) h in
      elim (either_yes (T x) (any_certain T xs) e) [
        | inl y ↦ true≢false (sym both.0 ∙ not_lost true (T x) y)
        | inr y ↦ lost_any xs both.1 y
      ]

  lost_all : (xs : List X) → list_all (λ x. opposes false (T x)) xs ≡ true → all_certain T xs ≡ No → ⊥
  lost_all [] h e = cc
  lost_all (x ∷ xs) h e =
      let both = and_parts (opposes false (T x)) (list_all (λ y. opposes false (T y)) xs) h in
      elim (both_no (T x) (all_certain T xs) e) [
        | inl y ↦ true≢false (sym both.0 ∙ not_lost false (T x) y)
        | inr y ↦ lost_all xs both.1 y
      ]

  module _ (P : X → Type 0) where
    all_yes : (xs : List X) → ((x : X) → T x ≡ Yes → P x) → all_certain T xs ≡ Yes → AllByRecursion P xs
    all_yes [] go h = tt
    all_yes (x ∷ xs) go h = let both = both_yes (T x) (all_certain T xs) h in (go x both.0, all_yes xs go both.1)

    any_no : (xs : List X) → ((x : X) → T x ≡ No → P x) → any_certain T xs ≡ No → AllByRecursion P xs
    any_no [] go h = tt
    any_no (x ∷ xs) go h = let both = either_no (T x) (any_certain T xs) h in (go x both.0, any_no xs go both.1)

    pub lone_any : (xs : List X) (left : Bool) → ((x : X) → T x ≡ Yes → P x) → (left ≡ true) ⊎ (any_certain T xs ≡ Yes)
        → LoneOf P (λ x. opposes true (T x)) xs left
    lone_any [] left go (inl h) = h
    lone_any [] left go (inr h) = absurd (cc)
    lone_any (x ∷ xs) left go (inl h) = (
      λ none lost. absurd (true≢false (sym h ∙ none)),
      lone_any xs (left || not (opposes true (T x))) go (inl (or_first left (not (opposes true (T x))) h)),
    )
    lone_any (x ∷ xs) left go (inr h) = elim (either_yes (T x) (any_certain T xs) h) [
      | inl y ↦ (
        λ none lost. go x y,
        lone_any xs (left || not (opposes true (T x))) go
            (inl (still_left left true (T x) y)),
      )
      | inr y ↦ (λ none lost. absurd (lost_any xs lost y), lone_any xs (left || not (opposes true (T x))) go (inr y))
    ]

    lone_all : (xs : List X) (left : Bool) → ((x : X) → T x ≡ No → P x) → (left ≡ true) ⊎ (all_certain T xs ≡ No)
        → LoneOf P (λ x. opposes false (T x)) xs left
    lone_all [] left go (inl h) = h
    lone_all [] left go (inr h) = absurd (cc)
    lone_all (x ∷ xs) left go (inl h) = (
      λ none lost. absurd (true≢false (sym h ∙ none)),
      lone_all xs (left || not (opposes false (T x))) go (inl (or_first left (not (opposes false (T x))) h)),
    )
    lone_all (x ∷ xs) left go (inr h) = elim (both_no (T x) (all_certain T xs) h) [
      | inl y ↦ (
        λ none lost. go x y,
        lone_all xs (left || not (opposes false (T x))) go
            (inl (still_left left false (T x) y)),
      )
      | inr y ↦ (λ none lost. absurd (lost_all xs lost y), lone_all xs (left || not (opposes false (T x))) go (inr y))
    ]

-- ---- equations

-- where the first way is certain, it is the whole
first_way : (l r : Truth) (v : Bool) → (l ≡ Unknown → ⊥) → or_else l r ≡ truth_if v → l ≡ truth_if v
first_way Yes r v known h = h
first_way No r v known h = h
first_way Unknown r v known h = absurd (known refl)

or_else_unknown : (l : Truth) → or_else l Unknown ≡ l
or_else_unknown Yes = refl
or_else_unknown No = refl
or_else_unknown Unknown = refl

above_known : (t u : Truth) → (t ≡ Unknown → ⊥) → Above t u → t ≡ u
above_known Yes u known h = sym h
above_known No u known h = sym h
above_known Unknown u known h = absurd (known refl)

-- the atom with these arguments and this value, where both are known and there is one, has the truth value
abbrev RowHas : KnownAtoms → Bool → ℕ → Option (List Denotation) → Option Denotation → Type 0
RowHas k v s None w = Unit {0}
RowHas k v s (Some vs) None = Unit {0}
RowHas k v s (Some vs) (Some w) =
    (arguments_typed k (slice_get k.symbols s) vs && result_typed k (slice_get k.symbols s) w) ≡ true
    → value_of_row k s vs (Some w) ≡ truth_if v

compared_none : (o : Option Denotation) → compared_known cmp.Eq o None ≡ Unknown
compared_none None = refl
compared_none (Some a) = refl

module _ (k : KnownAtoms) (whole : IsConsistent k) (listed : IsListed k) where
  atom_has : (v : Bool) (s : ℕ) (ts : TermTrees) (e : List Elem) → atom_certain k s (known_values k ts e) ≡ truth_if v
      → AtomHas k v s ts None e
  atom_has v s ts e h a over named =
      let vs = map denotation_of a.args in
      let typed = subst (λ n. arguments_typed k (slice_get k.symbols n) vs ≡ true) (sym named.symbol)
      (args_typed k a over) in
      ap (λ n. value_of_row k n vs (option_map denotation_of a.value)) (sym named.symbol)
      ∙ ap (value_of_row k s vs) (none_named a.value named.value)
      ∙ ap (λ b. if b then value_of_row k s vs None else No) (sym typed) ∙ ap (atom_certain k s) (sym named.args) ∙ h

  -- a known application with a known value has the atom of this value
  named_has : (v : Bool) (s : ℕ) (ts : TermTrees) (y : TermTree) (e : List Elem)
      → RowHas k v s (known_values k ts e) (known_value k y e) → AtomHas k v s ts (Some y) e
  named_has v s ts y e h a over named =
      let vs = map denotation_of a.args in
      let x = some_named (known_value k y e) a.value named.value in
      let w = denotation_of x.0 in
      let row : RowHas k v s (Some vs) (Some w) =
      subst (RowHas k v s (Some vs)) x.2 (subst (λ o. RowHas k v s o (known_value k y e)) named.args h) in
      let typed = subst (λ n. arguments_typed k (slice_get k.symbols n) vs ≡ true) (sym named.symbol)
      (args_typed k a over) in
      let result = subst (λ n. result_typed k (slice_get k.symbols n) w ≡ true) (sym named.symbol)
      (result_of k a x.0 over x.1) in
      ap (λ n. value_of_row k n vs (option_map denotation_of a.value)) (sym named.symbol)
      ∙ ap (λ o. value_of_row k s vs (option_map denotation_of o)) x.1
      ∙ row (and_from (arguments_typed k (slice_get k.symbols s) vs) (result_typed k (slice_get k.symbols s) w) typed
      result)

  -- an equation with known arguments and a value of the value type is what is known of its atom
  typed_row : (s : ℕ) (vs : List Denotation) (w : Denotation) → arguments_typed k (slice_get k.symbols s) vs ≡ true
      → result_typed k (slice_get k.symbols s) w ≡ true → value_certain k s (Some vs) (Some w) ≡ value_of_row k s vs
      (Some w)
  typed_row s vs w a r =
      ap (λ b. if b then (if result_typed k (slice_get k.symbols s) w then value_of_row k s vs (Some w) else
      outside_value (slice_get k.symbols s)) else Unknown) a
      ∙ ap (λ b. if b then value_of_row k s vs (Some w) else outside_value (slice_get k.symbols s)) r

  -- the application's side of an equation: L is what is certain of it with the other's value w, `all` the whole
  value_has : (v : Bool) (s : ℕ) (o : Option (List Denotation)) (w : Option Denotation) (all : Truth)
      → (applied_known k s o ≡ None → all ≡ value_certain k s o w)
      → ((d : Denotation) → applied_known k s o ≡ Some d → (value_certain k s o w ≡ Unknown → ⊥)
      → all ≡ value_certain k s o w)
      → all ≡ truth_if v → RowHas k v s o w
  value_has v s None w all none some h = tt
  value_has v s (Some vs) None all none some h = tt
  value_has v s (Some vs) (Some w) all none some h = λ both.
      let t = and_parts (arguments_typed k (slice_get k.symbols s) vs) (result_typed k (slice_get k.symbols s) w) both
      in
      let l = typed_row s vs w t.0 t.1 in
      by l t.1 (applied_known k s (Some vs)) refl
    where
      by : value_certain k s (Some vs) (Some w) ≡ value_of_row k s vs (Some w)
          → result_typed k (slice_get k.symbols s) w ≡ true
          → (o : Option Denotation) → applied_known k s (Some vs) ≡ o → value_of_row k s vs (Some w) ≡ truth_if v
      by l r None e = sym l ∙ sym (none e) ∙ h
      by l r (Some d) e = sym l ∙ sym (some d e (λ u. known_row k whole listed s vs w d e r (sym l ∙ u))) ∙ h

  side_has : (v : Bool) (t y : TermTree) (e : List Elem) (all : Truth)
      → (known_value k t e ≡ None → all ≡ equation_certain k t (known_value k y e) e)
      → ((d : Denotation) → known_value k t e ≡ Some d → (equation_certain k t (known_value k y e) e ≡ Unknown → ⊥)
      → all ≡ equation_certain k t (known_value k y e) e)
      → all ≡ truth_if v → SideHas k v t y e
  side_has v (variable n) y e all none some h = tt
  side_has v (integer z) y e all none some h = tt
  side_has v (constructed ty n) y e all none some h = tt
  side_has v (application s ts) y e all none some h =
      named_has v s ts y e (value_has v s (known_values k ts e) (known_value k y e) all none some h)
  side_has v (summation ss) y e all none some h = tt
  side_has v (product ts) y e all none some h = tt
  side_has v (aggregate a bs f t) y e all none some h = tt

  -- what is certain of an equation of x and y
  abbrev whole_of : TermTree → TermTree → List Elem → Truth
  whole_of x y e = or_else (equation_certain k x (known_value k y e) e)
      (or_else (equation_certain k y (known_value k x e) e) (compared_known cmp.Eq (known_value k x e) (known_value k y
      e)))

  left_has : (v : Bool) (x y : TermTree) (e : List Elem) → whole_of x y e ≡ truth_if v → SideHas k v x y e
  left_has v x y e h = side_has v x y e (whole_of x y e)
      (λ none. ap (or_else (equation_certain k x (known_value k y e) e)) (
      ap (λ o. or_else (equation_certain k y o e) (compared_known cmp.Eq o (known_value k y e))) none
      ∙ ap (λ t. or_else t Unknown) (equation_none k y e)
      ) ∙ or_else_unknown (equation_certain k x (known_value k y e) e))
      (λ d some known. first (equation_certain k x (known_value k y e) e) _ known) h
    where
      first : (l r : Truth) → (l ≡ Unknown → ⊥) → or_else l r ≡ l
      first Yes r known = refl
      first No r known = refl
      first Unknown r known = absurd (known refl)

  right_has : (v : Bool) (x y : TermTree) (e : List Elem) → whole_of x y e ≡ truth_if v → SideHas k v y x e
  right_has v x y e h = side_has v y x e (whole_of x y e)
      (λ none. ap (λ o. or_else (equation_certain k x o e) (or_else (equation_certain k y (known_value k x e) e)
      (compared_known cmp.Eq (known_value k x e) o))) none
      ∙ ap (λ t. or_else t (or_else (equation_certain k y (known_value k x e) e) (compared_known cmp.Eq (known_value k
      x e) None)))
      (equation_none k x e)
      ∙ ap (or_else (equation_certain k y (known_value k x e) e)) (compared_none (known_value k x e))
      ∙ or_else_unknown (equation_certain k y (known_value k x e) e))
      (λ d some known. agree (known_value k x e) refl d some known) h
    where
      agree : (o : Option Denotation) → known_value k x e ≡ o → (d : Denotation) → known_value k y e ≡ Some d
          → (equation_certain k y (known_value k x e) e ≡ Unknown → ⊥)
          → whole_of x y e ≡ equation_certain k y (known_value k x e) e
      agree None n d some known = absurd (known (ap (λ o. equation_certain k y o e) n ∙ equation_none k y e))
      agree (Some w) n d some known =
          let r : Above (equation_certain k y (known_value k x e) e) (truth_if (same_value d w)) =
          subst (λ o. Above (equation_certain k y (known_value k x e) e) (truth_if (same_value d w))) n
          (subst (λ o. Agrees (equation_certain k y (known_value k x e) e) o (Some d)) n
          (subst (Agrees (equation_certain k y (known_value k x e) e) (known_value k x e)) some
          (equation_agrees k whole y (known_value k x e) e))) in
          let l : Above (equation_certain k x (known_value k y e) e) (truth_if (same_value w d)) =
          subst (λ o. Agrees (equation_certain k x (known_value k y e) e) o (Some w)) some
          (subst (Agrees (equation_certain k x (known_value k y e) e) (known_value k y e)) n
          (equation_agrees k whole x (known_value k y e) e)) in
          let r2 = subst (λ c. Above (equation_certain k y (known_value k x e) e) (truth_if c)) (same_sym d w) r in
          ap (λ o. or_else (equation_certain k x (known_value k y e) e)
          (or_else (equation_certain k y (known_value k x e) e)
          (compared_known cmp.Eq o (known_value k y e)))) n
          ∙ ap (λ o. or_else (equation_certain k x (known_value k y e) e)
          (or_else (equation_certain k y (known_value k x e) e)
          (compared_known cmp.Eq (Some w) o))) some
          ∙ or_else_last (equation_certain k x (known_value k y e) e) (equation_certain k y (known_value k x e) e)
          (same_value w d) l r2
          ∙ sym (above_known (equation_certain k y (known_value k x e) e) (truth_if (same_value w d)) known r2)

  equation_has : (v : Bool) (c : Cmp) (x y : TermTree) (e : List Elem)
      → certain_truth k (comparison c x y) e ≡ truth_if v
      → EquationHas k v c x y e
  equation_has v cmp.Eq x y e h = (left_has v x y e h, right_has v x y e h)
  equation_has v cmp.Ne x y e h = tt
  equation_has v cmp.Lt x y e h = tt
  equation_has v cmp.Gt x y e h = tt
  equation_has v cmp.Le x y e h = tt
  equation_has v cmp.Ge x y e h = tt

  lost_some : (fs : FormulaTrees) (e : List Elem) → all_oppose k true fs e ≡ true → any_part k fs e ≡ Yes → ⊥
  lost_some no_formulas e h y = cc
  lost_some (more_formulas f fs) e h y =
      let both = and_parts (opposes true (certain_truth k f e)) (all_oppose k true fs e) h in
      elim (either_yes (certain_truth k f e) (any_part k fs e) y) [
        | inl z ↦ true≢false (sym both.0 ∙ not_lost true (certain_truth k f e) z)
        | inr z ↦ lost_some fs e both.1 z
      ]

  lost_each : (fs : FormulaTrees) (e : List Elem) → all_oppose k false fs e ≡ true → all_parts k fs e ≡ No → ⊥
  lost_each no_formulas e h y = cc
  lost_each (more_formulas f fs) e h y =
      let both = and_parts (opposes false (certain_truth k f e)) (all_oppose k false fs e) h in
      elim (both_no (certain_truth k f e) (all_parts k fs e) y) [
        | inl z ↦ true≢false (sym both.0 ∙ not_lost false (certain_truth k f e) z)
        | inr z ↦ lost_each fs e both.1 z
      ]

  mutual
    pub adds : (f : FormulaTree) (e : List Elem) (v : Bool) → certain_truth k f e ≡ truth_if v → Obeys k v f e
    adds verum e v h = not_lost v Yes h
    adds falsum e v h = not_lost v No h
    adds (numbered c n bs f) e v h = not_lost v (certain_truth k (numbered c n bs f) e) h
    adds (atom s ts) e v h = (not_lost v (certain_truth k (atom s ts) e) h, atom_has v s ts e h)
    adds (comparison c x y) e v h = (not_lost v (certain_truth k (comparison c x y) e) h, equation_has v c x y e h)
    adds (negation f) e v h = adds f e (not v) (not_is (certain_truth k f e) v h)
    adds (conjunction fs) e true h = adds_all fs e h
    adds (conjunction fs) e false h = last_no fs e false (inr h)
    adds (disjunction fs) e true h = last_yes fs e false (inr h)
    adds (disjunction fs) e false h = adds_none fs e h
    adds (implication f g) e true h = (
      λ no. adds f e false (right_no (certain_truth k f e) (certain_truth k g e) no h),
      λ yes. adds g e true (left_yes (certain_truth k f e) (certain_truth k g e) yes h),
    )
    adds (implication f g) e false h =
        let both = either_no (not_certain (certain_truth k f e)) (certain_truth k g e) h in
        (adds f e true (not_is (certain_truth k f e) false both.0), adds g e false both.1)
    adds (equivalence f g) e v h = (
      λ yes. adds g e v (alike_left_yes (certain_truth k f e) (certain_truth k g e) v yes h),
      λ no. adds g e (not v) (alike_left_no (certain_truth k f e) (certain_truth k g e) v no h),
      λ yes. adds f e v (alike_right_yes (certain_truth k f e) (certain_truth k g e) v yes h),
      λ no. adds f e (not v) (alike_right_no (certain_truth k f e) (certain_truth k g e) v no h),
    )
    adds (universal bs f) e true h =
        all_yes (λ a. certain_truth k f (e ++ a)) (λ a. Obeys k true f (e ++ a)) (choices k.domains bs)
        (λ a. adds f (e ++ a) true) h
    adds (universal bs f) e false h =
        lone_all (λ a. certain_truth k f (e ++ a)) (λ a. Obeys k false f (e ++ a)) (choices k.domains bs) false
        (λ a. adds f (e ++ a) false) (inr h)
    adds (existential bs f) e true h =
        lone_any (λ a. certain_truth k f (e ++ a)) (λ a. Obeys k true f (e ++ a)) (choices k.domains bs) false
        (λ a. adds f (e ++ a) true) (inr h)
    adds (existential bs f) e false h =
        any_no (λ a. certain_truth k f (e ++ a)) (λ a. Obeys k false f (e ++ a)) (choices k.domains bs)
        (λ a. adds f (e ++ a) false) h

    adds_all : (fs : FormulaTrees) (e : List Elem) → all_parts k fs e ≡ Yes → AllObey k true fs e
    adds_all no_formulas e h = tt
    adds_all (more_formulas f fs) e h =
        let both = both_yes (certain_truth k f e) (all_parts k fs e) h in (adds f e true both.0, adds_all fs e both.1)

    adds_none : (fs : FormulaTrees) (e : List Elem) → any_part k fs e ≡ No → AllObey k false fs e
    adds_none no_formulas e h = tt
    adds_none (more_formulas f fs) e h =
        let both = either_no (certain_truth k f e) (any_part k fs e) h in (adds f e false both.0, adds_none fs e both.1)

    last_yes : (fs : FormulaTrees) (e : List Elem) (left : Bool) → (left ≡ true) ⊎ (any_part k fs e ≡ Yes)
        → LastObeys k true fs e left
    last_yes no_formulas e left (inl h) = h
    last_yes no_formulas e left (inr h) = absurd (cc)
    last_yes (more_formulas f fs) e left (inl h) = (
      λ none lost. absurd (true≢false (sym h ∙ none)),
      last_yes fs e (left || not (opposes true (certain_truth k f e)))
          (inl (or_first left (not (opposes true (certain_truth k f e))) h)),
    )
    last_yes (more_formulas f fs) e left (inr h) = elim (either_yes (certain_truth k f e) (any_part k fs e) h) [
      | inl y ↦ (
        λ none lost. adds f e true y,
        last_yes fs e (left || not (opposes true (certain_truth k f e)))
            (inl (still_left left true (certain_truth k f e) y)),
      )
      | inr y ↦ (
        λ none lost. absurd (lost_some fs e lost y),
        last_yes fs e (left || not (opposes true (certain_truth k f e))) (inr y),
      )
    ]

    last_no : (fs : FormulaTrees) (e : List Elem) (left : Bool) → (left ≡ true) ⊎ (all_parts k fs e ≡ No)
        → LastObeys k false fs e left
    last_no no_formulas e left (inl h) = h
    last_no no_formulas e left (inr h) = absurd (cc)
    last_no (more_formulas f fs) e left (inl h) = (
      λ none lost. absurd (true≢false (sym h ∙ none)),
      last_no fs e (left || not (opposes false (certain_truth k f e)))
          (inl (or_first left (not (opposes false (certain_truth k f e))) h)),
    )
    last_no (more_formulas f fs) e left (inr h) = elim (both_no (certain_truth k f e) (all_parts k fs e) h) [
      | inl y ↦ (
        λ none lost. adds f e false y,
        last_no fs e (left || not (opposes false (certain_truth k f e)))
            (inl (still_left left false (certain_truth k f e) y)),
      )
      | inr y ↦ (
        λ none lost. absurd (lost_each fs e lost y),
        last_no fs e (left || not (opposes false (certain_truth k f e))) (inr y),
      )
    ]

pub certain_adds_nothing : CertainAddsNothing
certain_adds_nothing k whole listed f e v h = adds k whole listed f e v h
