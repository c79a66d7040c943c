-- What must be of a value, and obeys, is not certainly of the other.
use Rattle.std.proofs.Common.{◌≡◌, List, [], ◌∷◌, ◌++◌, Bool, true, false, ◌||◌, not, refl, ◌⊎◌, inl, inr}
use Rattle.std.specs.List.{AllByRecursion}
use Rattle.kb_logic.specs.declared.elements.Elem.{Elem}
use Rattle.kb_logic.specs.Trees.{FormulaTree, verum, falsum, atom, comparison, negation, conjunction, disjunction}
use Rattle.kb_logic.specs.Trees.{implication, equivalence, universal, existential, numbered}
use Rattle.kb_logic.specs.Trees.{FormulaTrees, no_formulas, more_formulas}
use Rattle.kb_logic.specs.Structures.{choices}
use Rattle.kb_logic.specs.KnownAtoms.{KnownAtoms}
use Rattle.partial_structures.specs.declared.truths.Truth.{Truth}
use Rattle.partial_structures.specs.declared.truths.Truth.TheVariants.{Yes, No, Unknown}
use Rattle.certain_truth.specs.Certainty.{not_certain, both_certain, either_certain, alike_certain}
use Rattle.certain_truth.specs.Certainty.{all_certain, any_certain, all_parts, any_part, certain_truth}
use Rattle.bound_laws.specs.Lone.{LoneOf}
use Rattle.bound_laws.specs.Closures.{opposes, Obeys, AllObey, LastObeys}
use Rattle.bound_laws.specs.Laws.{ObeysIsNotLost}

opp_not : (v : Bool) (t : Truth) → opposes (not v) t ≡ false → opposes v (not_certain t) ≡ false
opp_not true Yes h = absurd (cc)
opp_not true No h = refl
opp_not true Unknown h = refl
opp_not false Yes h = refl
opp_not false No h = absurd (cc)
opp_not false Unknown h = refl

open_unknown : (v : Bool) → opposes v Unknown ≡ false
open_unknown true = refl
open_unknown false = refl

-- a conjunction that is not certainly false, or not certainly true
both_true : (a b : Truth) → opposes true a ≡ false → opposes true b ≡ false → opposes true (both_certain a b) ≡ false
both_true Yes b h i = i
both_true No b h i = absurd (cc)
both_true Unknown Yes h i = refl
both_true Unknown No h i = absurd (cc)
both_true Unknown Unknown h i = refl

both_first : (a b : Truth) → opposes false a ≡ false → opposes false (both_certain a b) ≡ false
both_first Yes b h = absurd (cc)
both_first No b h = refl
both_first Unknown Yes h = refl
both_first Unknown No h = refl
both_first Unknown Unknown h = refl

both_second : (a b : Truth) → opposes false b ≡ false → opposes false (both_certain a b) ≡ false
both_second Yes b h = h
both_second No b h = refl
both_second Unknown Yes h = refl
both_second Unknown No h = refl
both_second Unknown Unknown h = refl

either_false : (a b : Truth) → opposes false a ≡ false → opposes false b ≡ false
    → opposes false (either_certain a b) ≡ false
either_false Yes b h i = absurd (cc)
either_false No b h i = i
either_false Unknown Yes h i = absurd (cc)
either_false Unknown No h i = refl
either_false Unknown Unknown h i = refl

either_first : (a b : Truth) → opposes true a ≡ false → opposes true (either_certain a b) ≡ false
either_first Yes b h = refl
either_first No b h = absurd (cc)
either_first Unknown Yes h = refl
either_first Unknown No h = refl
either_first Unknown Unknown h = refl

either_second : (a b : Truth) → opposes true b ≡ false → opposes true (either_certain a b) ≡ false
either_second Yes b h = refl
either_second No b h = h
either_second Unknown Yes h = refl
either_second Unknown No h = refl
either_second Unknown Unknown h = refl

-- which of both was left
left_or : (left lost : Bool) → (left || not lost) ≡ true → (left ≡ true) ⊎ (lost ≡ false)
left_or true lost h = inl refl
left_or false true h = absurd (cc)
left_or false false h = inr refl

not_left : {A : Type 0} → (false ≡ true) ⊎ A → A
not_left (inl h) = absurd (cc)
not_left (inr h) = h

module _ {X : Type 0} (P : X → Type 0) (T : X → Truth) where
  all_open : (xs : List X) → ((x : X) → P x → opposes true (T x) ≡ false) → AllByRecursion P xs
      → opposes true (all_certain T xs) ≡ false
  all_open [] go h = refl
  all_open (x ∷ xs) go h = both_true (T x) (all_certain T xs) (go x h.0) (all_open xs go h.1)

  none_open : (xs : List X) → ((x : X) → P x → opposes false (T x) ≡ false) → AllByRecursion P xs
      → opposes false (any_certain T xs) ≡ false
  none_open [] go h = refl
  none_open (x ∷ xs) go h = either_false (T x) (any_certain T xs) (go x h.0) (none_open xs go h.1)

  lone_any : (xs : List X) (left : Bool) → LoneOf P (λ x. opposes true (T x)) xs left
      → (left ≡ true) ⊎ (opposes true (any_certain T xs) ≡ false)
  lone_any [] left h = inl h
  lone_any (x ∷ xs) left h = elim (lone_any xs (left || not (opposes true (T x))) h.1) [
    | inl e ↦ elim (left_or left (opposes true (T x)) e) [
      | inl l ↦ inl l
      | inr o ↦ inr (either_first (T x) (any_certain
          T xs) o)
    ]
    | inr o ↦ inr (either_second (T x) (any_certain T xs) o)
  ]

  lone_all : (xs : List X) (left : Bool) → LoneOf P (λ x. opposes false (T x)) xs left
      → (left ≡ true) ⊎ (opposes false (all_certain T xs) ≡ false)
  lone_all [] left h = inl h
  lone_all (x ∷ xs) left h = elim (lone_all xs (left || not (opposes false (T x))) h.1) [
    | inl e ↦ elim (left_or left (opposes false (T x)) e) [
      | inl l ↦ inl l
      | inr o ↦ inr (both_first (T x) (all_certain
          T xs) o)
    ]
    | inr o ↦ inr (both_second (T x) (all_certain T xs) o)
  ]

-- an implication, by what is certain of its first part
implied : (t u : Truth) → (t ≡ Yes → opposes true u ≡ false) → opposes true (either_certain (not_certain t) u) ≡ false
implied Yes u h = h refl
implied No u h = refl
implied Unknown u h = either_first Unknown u refl

alike : (v : Bool) (t u : Truth) → (t ≡ Yes → opposes v u ≡ false) → (t ≡ No → opposes (not v) u ≡ false)
    → opposes v (alike_certain t u) ≡ false
alike v Yes u h i = h refl
alike v No u h i = opp_not v u (i refl)
alike v Unknown u h i = open_unknown v

module _ (k : KnownAtoms) where
  mutual
    open_by : (f : FormulaTree) (e : List Elem) (v : Bool) → Obeys k v f e → opposes v (certain_truth k f e) ≡ false
    open_by verum e v h = h
    open_by falsum e v h = h
    open_by (numbered c n bs f) e v h = h
    open_by (atom s ts) e v h = h.0
    open_by (comparison c x y) e v h = h.0
    open_by (negation f) e v h = opp_not v (certain_truth k f e) (open_by f e (not v) h)
    open_by (conjunction fs) e true h = all_by fs e h
    open_by (conjunction fs) e false h = not_left (last_no fs e false h)
    open_by (disjunction fs) e true h = not_left (last_yes fs e false h)
    open_by (disjunction fs) e false h = none_by fs e h
    open_by (implication f g) e true h = implied (certain_truth k f e) (certain_truth k g e)
        (λ y. open_by g e true (h.1 y))
    open_by (implication f g) e false h =
        either_false (not_certain (certain_truth k f e)) (certain_truth k g e)
        (opp_not false (certain_truth k f e) (open_by f e true h.0)) (open_by g e false h.1)
    open_by (equivalence f g) e v h = alike v (certain_truth k f e) (certain_truth k g e) (λ y. open_by g e v (h.0 y))
        (λ n. open_by g e (not v) (h.1 n))
    open_by (universal bs f) e true h = all_open (λ a. Obeys k true f (e ++ a)) (λ a. certain_truth k f (e ++ a))
        (choices k.domains bs) (λ a. open_by f (e ++ a) true) h
    open_by (universal bs f) e false h = not_left (lone_all (λ a. Obeys k false f (e ++ a)) (λ a. certain_truth k f (e
        ++ a))
        (choices k.domains bs) false h)
    open_by (existential bs f) e true h = not_left (lone_any (λ a. Obeys k true f (e ++ a)) (λ a. certain_truth k f (e
        ++ a))
        (choices k.domains bs) false h)
    open_by (existential bs f) e false h = none_open (λ a. Obeys k false f (e ++ a)) (λ a. certain_truth k f (e ++ a))
        (choices k.domains bs) (λ a. open_by f (e ++ a) false) h

    all_by : (fs : FormulaTrees) (e : List Elem) → AllObey k true fs e → opposes true (all_parts k fs e) ≡ false
    all_by no_formulas e h = refl
    all_by (more_formulas f fs) e h = both_true (certain_truth k f e) (all_parts k fs e) (open_by f e true h.0)
        (all_by fs e h.1)

    none_by : (fs : FormulaTrees) (e : List Elem) → AllObey k false fs e → opposes false (any_part k fs e) ≡ false
    none_by no_formulas e h = refl
    none_by (more_formulas f fs) e h = either_false (certain_truth k f e) (any_part k fs e) (open_by f e false h.0)
        (none_by fs e h.1)

    last_yes : (fs : FormulaTrees) (e : List Elem) (left : Bool) → LastObeys k true fs e left
        → (left ≡ true) ⊎ (opposes true (any_part k fs e) ≡ false)
    last_yes no_formulas e left h = inl h
    last_yes (more_formulas f fs) e left h = elim (last_yes fs e (left || not (opposes true (certain_truth k f e)))
        h.1) [
          | inl x ↦ elim (left_or left (opposes true (certain_truth k f e)) x) [
            | inl l ↦ inl l
            | inr o ↦ inr (either_first (certain_truth k f e) (any_part k fs e) o)
          ]
          | inr o ↦ inr (either_second (certain_truth k f e) (any_part k fs e) o)
        ]

    last_no : (fs : FormulaTrees) (e : List Elem) (left : Bool) → LastObeys k false fs e left
        → (left ≡ true) ⊎ (opposes false (all_parts k fs e) ≡ false)
    last_no no_formulas e left h = inl h
    last_no (more_formulas f fs) e left h =
        elim (last_no fs e (left || not (opposes false (certain_truth k f e))) h.1) [
          | inl x ↦ elim (left_or left (opposes false (certain_truth k f e)) x) [
            | inl l ↦ inl l
            | inr o ↦ inr (both_first (certain_truth k f e) (all_parts k fs e) o)
          ]
          | inr o ↦ inr (both_second (certain_truth k f e) (all_parts k fs e) o)
        ]

pub obeys_is_not_lost : ObeysIsNotLost
obeys_is_not_lost k v f e h = open_by k f e v h
