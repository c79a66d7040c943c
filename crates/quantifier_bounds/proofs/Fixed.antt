-- A variable of a rule that an argument of its head, or its value, fixes where the head is an atom.
use Rattle.std.proofs.Common.{◌≡◌, ℕ, zero, suc, ◌+◌, ◌<◌, ◌≤◌, List, [], ◌∷◌, ◌++◌, map, length, fold, get_or}
use Rattle.std.proofs.Common.{true, false, Option, None, Some, refl, sym, ap, ◌∙◌, subst, slice_get, arith}
use Rattle.std.proofs.Common.{flat_map, if◌then◌else◌, ◌==◌, length-append, inl, inr}
use Rattle.std.specs.List.{AllByRecursion, Contains}
use Rattle.std.proofs.lemmas.Bool.{true≢false, cases_Bool}
use Rattle.std.proofs.lemmas.Option.{slice_get_within, get_or_from_slice_get}
use Rattle.std.proofs.lemmas.List.Elements.{Contains-get_or}
use Rattle.kb_logic.specs.declared.elements.Elem.{Elem}
use Rattle.kb_logic.specs.declared.elements.Elem.TheVariants.{Named, Num}
use Rattle.kb_logic.specs.declared.vocabularies.Bound.{Bound}
use Rattle.kb_logic.specs.Trees.{TermTree, variable, terms_of, RuleTree}
use Rattle.kb_logic.specs.Structures.{choices, domain_at, IsDistinct}
use Rattle.kb_logic.specs.Denotations.{denotation_of, undefined}
use Rattle.kb_logic.specs.Meaning.{element_value}
use Rattle.kb_logic.specs.Models.{GroundAtom}
use Rattle.kb_logic.specs.KnownAtoms.{KnownAtoms}
use Rattle.kb_logic.proofs.Atoms.{denotes_one}
use Rattle.kb_logic.proofs.Assignments.{joined, choice_length}
use Rattle.kb_logic.proofs.Choices.{domain_is_distinct}
use Rattle.kb_logic.proofs.Members.{first, later}
use Rattle.kb_logic.proofs.Pairs.{pairs}
use Rattle.partial_structures.specs.declared.truths.Truth.{Truth}
use Rattle.partial_structures.specs.declared.truths.Truth.TheVariants.{No}
use Rattle.plain_evaluation.proofs.Folds.{after_front, by_front, fold_by_front, fold_stays, inner_fold}
use Rattle.certain_truth.specs.Certainty.{either_certain, known_value, known_values, certain_truth}
use Rattle.quantifier_bounds.specs.Rules.{is_head, instance_truth, FixesVariable, FixesNext, IsStart}
use Rattle.quantifier_bounds.specs.declared.derivation.Start.TheVariants.{At, Nowhere}
use Rattle.quantifier_bounds.proofs.Rows.{cons_parts}
use Rattle.quantifier_bounds.proofs.Told.{head_named, either_no}

one : {A : Type 0} {x y : A} → Some x ≡ Some y → x ≡ y
one h = cc

none_some : {A : Type 0} {x : A} → None ≡ Some x → ⊥
none_some h = cc

pub slice_map : {X Y : Type 0} (f : X → Y) (xs : List X) (n : ℕ) (x : X) → slice_get xs n ≡ Some x
    → slice_get (map f xs) n ≡ Some (f x)
slice_map f [] n x h = absurd (none_some h)
slice_map f (y ∷ xs) zero x h = ap (λ z. Some (f z)) (one h)
slice_map f (y ∷ xs) (suc n) x h = slice_map f xs n x h

-- ---- arguments

-- each argument is known to be the atom's element
pub argument_at : (k : KnownAtoms) (e : List Elem) (ts : List TermTree) (xs : List Elem) (n : ℕ) (t : TermTree)
    (x : Elem) → known_values k (terms_of ts) e ≡ Some (map denotation_of xs) → slice_get ts n ≡ Some t
    → slice_get xs n ≡ Some x → known_value k t e ≡ Some (denotation_of x)
argument_at k e [] xs n t x h i j = absurd (none_some i)
argument_at k e (u ∷ ts) [] n t x h i j = absurd (none_some j)
argument_at k e (u ∷ ts) (y ∷ xs) zero t x h i j =
    let b = cons_parts k e (known_value k u e) (known_values k (terms_of ts) e) (denotation_of y) (map denotation_of xs)
    h in
    ap (λ v. known_value k v e) (sym (one i)) ∙ b.0 ∙ ap (λ z. Some (denotation_of z)) (one j)
argument_at k e (u ∷ ts) (y ∷ xs) (suc n) t x h i j =
    argument_at k e ts xs n t x (cons_parts k e (known_value k u e) (known_values k (terms_of ts) e) (denotation_of y)
    (map denotation_of xs) h).1 i j

defined_is : (x : Elem) → undefined ≡ denotation_of x → ⊥
defined_is (Named w) h = cc
defined_is (Num z) h = cc

element_is : (o : Option Elem) (x : Elem) → element_value o ≡ denotation_of x → o ≡ Some x
element_is None x h = absurd (defined_is x h)
element_is (Some y) x h = ap Some (denotes_one y x h)

pub variable_is : (k : KnownAtoms) (e : List Elem) (n : ℕ) (x : Elem)
    → known_value k (variable n) e ≡ Some (denotation_of x) → slice_get e n ≡ Some x
variable_is k e n x h = element_is (slice_get e n) x (one h)

module _ (r : RuleTree) (a : GroundAtom) (n : ℕ) (x : Elem) where
  pub argument_fixes : (i : ℕ) → slice_get r.args i ≡ Some (variable n) → slice_get a.args i ≡ Some x
      → FixesVariable r a n x
  argument_fixes i t y k e h =
      variable_is k e n x (argument_at k e r.args a.args i (variable n) x (head_named k r e a h).args t y)

-- ---- the first of the last variables

pub slice_here : (e c : List Elem) (x : Elem) → slice_get (e ++ x ∷ c) (length e) ≡ Some x
slice_here [] c x = refl
slice_here (y ∷ e) c x = slice_here e c x

module _ (r : RuleTree) (a : GroundAtom) (n left : ℕ) (x : Elem) (is : n + suc left ≡ length r.vars)
    (h : FixesVariable r a n x) where
  pub fixes_next : FixesNext r a left (λ y. y ≡ x)
  fixes_next k e c y depth head =
      let here : length e ≡ n = omega (arith, is, depth) in
      one (sym (slice_here e c y) ∙ ap (slice_get (e ++ y ∷ c)) here ∙ h k (e ++ y ∷ c) head)

module _ (d : List (List Elem)) (r : RuleTree) (a : GroundAtom) (u : Bound) (xs : List Elem) where
  pub start_nowhere : (bs : List Bound) (n : ℕ) (x : Elem) → xs ≡ domain_at d (get_or bs 0 u).ty
      → n + length bs ≡ length r.vars → FixesVariable r a n x → (Contains xs x → ⊥) → IsStart d r a bs Nowhere
  start_nowhere [] n x dom is h none = tt
  start_nowhere (b ∷ bs) n x dom is h none = λ k e c y depth head there.
      none (subst (λ ys. Contains ys x) (sym dom) (subst (Contains (domain_at d b.ty))
      (fixes_next r a n (length bs) x is h k e c y depth head) there))

-- ---- places

-- none of the first items is it
abbrev pub NoneBefore : List Elem → Elem → ℕ → Type 0
NoneBefore xs x n = (i : ℕ) → i < n → slice_get xs i ≡ Some x → ⊥

no_items : {X : Type 0} (xs : List X) → length xs ≡ 0 → xs ≡ []
no_items [] h = refl
no_items (x ∷ xs) h = absurd (omega (arith, h))

pub no_choices : (d : List (List Elem)) (bounds these others : List Bound) → bounds ≡ these ++ others
    → length (choices d these) ≡ 0 → choices d bounds ≡ []
no_choices d bounds these others is none =
    by_front d bounds these others is ∙ ap (pairs joined (choices d others)) (no_items (choices d these) none)

-- ---- what the instances say under the elements of the first variable

get_in : {X : Type 0} (xs : List X) (p : ℕ) (x : X) → slice_get xs p ≡ Some x → Contains xs x
get_in xs p x at = subst (Contains xs) (get_or_from_slice_get xs p x x at) (Contains-get_or xs p x
    (slice_get_within xs p x at))

module _ {S X : Type 0} (F : S → X → S) where
  pub fold_stays_at : (xs : List X) (s : S) → ((x : X) (u : S) → Contains xs x → F u x ≡ u) → fold F s xs ≡ s
  fold_stays_at [] s h = refl
  fold_stays_at (x ∷ xs) s h = ap (λ u. fold F u xs) (h x s (first x xs))
      ∙ fold_stays_at xs s (λ y u m. h y u (later x y xs m))

  pub fold_one_at : (xs : List X) (s : S) (p : ℕ) (x : X) → IsDistinct xs → slice_get xs p ≡ Some x
      → ((y : X) (u : S) → Contains xs y → (y ≡ x → ⊥) → F u y ≡ u) → fold F s xs ≡ F s x
  fold_one_at [] s p x d at h = absurd (none_some at)
  fold_one_at (y ∷ xs) s zero x d at h =
      let same : y ≡ x = one at in
      fold_stays_at xs (F s y) (λ z u m. h z u (later y z xs m)
      (λ e. d.0 (subst (Contains xs) (e ∙ sym same) m))) ∙ ap (F s) same
  fold_one_at (y ∷ xs) s (suc p) x d at h =
      ap (λ u. fold F u xs) (h y s (first y xs) (λ e. d.0 (subst (Contains xs) (sym e) (get_in xs p x at))))
      ∙ fold_one_at xs s p x d.1 at (λ z u m. h z u (later y z xs m))

-- the assignments of one variable are its elements
abbrev singles : List Elem → List (List Elem)
singles xs = flat_map (λ x. map (λ a. x ∷ a) ([] ∷ [])) xs

fold_singles : {S : Type 0} (F : S → List Elem → S) (xs : List Elem) (s : S)
    → fold F s (singles xs) ≡ fold (λ t x. F t (x ∷ [])) s xs
fold_singles F [] s = refl
fold_singles F (x ∷ xs) s = fold_singles F xs (F s (x ∷ []))

pub single_at : (xs : List Elem) (p : ℕ) (x : Elem) → slice_get xs p ≡ Some x → get_or (singles xs) p [] ≡ x ∷ []
single_at [] p x at = absurd (none_some at)
single_at (y ∷ xs) zero x at = ap (λ z. z ∷ []) (one at)
single_at (y ∷ xs) (suc p) x at = single_at xs p x at

single_length : (xs : List Elem) → length (singles xs) ≡ length xs
single_length [] = refl
single_length (x ∷ xs) = ap suc (single_length xs)

module _ (k : KnownAtoms) (r : RuleTree) (a : GroundAtom) (e : List Elem) where
  abbrev pub Says : Truth → List Elem → Truth
  Says u c = either_certain u (instance_truth k r a (e ++ c))

  module _ (b : Bound) (bs : List Bound) (depth : length e + suc (length bs) ≡ length r.vars) where
    other_stays : (y : Elem) (u : Truth) → ((c : List Elem) → is_head k r (e ++ y ∷ c) a ≡ true → ⊥)
        → after_front Says (choices k.domains bs) u (y ∷ []) ≡ u
    other_stays y u none = fold_stays (λ t c. Says t ((y ∷ []) ++ c)) (choices k.domains bs) u
        (λ c. ap (either_certain u) (no_ c) ∙ either_no u)
      where
        no_ : (c : List Elem) → instance_truth k r a (e ++ y ∷ c) ≡ No
        no_ c = elim (cases_Bool (is_head k r (e ++ y ∷ c) a)) [
          | inl h ↦ absurd (none c h)
          | inr h ↦ ap (λ t. if t then certain_truth k r.body (e ++ y ∷ c) else No) h
        ]

    pub told_at : (p : ℕ) (x : Elem) (u : Truth) → IsDistinct (domain_at k.domains b.ty)
        → slice_get (domain_at k.domains b.ty) p ≡ Some x → FixesNext r a (length bs) (λ y. y ≡ x)
        → fold Says u (choices k.domains (b ∷ bs)) ≡ after_front Says (choices k.domains bs) u (x ∷ [])
    told_at p x u d at h =
        fold_by_front k.domains (b ∷ bs) (b ∷ []) bs refl Says u
        ∙ fold_singles (after_front Says (choices k.domains bs)) (domain_at k.domains b.ty) u
        ∙ fold_one_at (λ t y. after_front Says (choices k.domains bs) t (y ∷ [])) (domain_at k.domains b.ty) u p x d at
        (λ y t m differ. other_stays y t (λ c i. differ (h k e c y depth i)))

    pub told_nowhere : (u : Truth) → FixesNext r a (length bs) (λ y. Contains (domain_at k.domains b.ty) y → ⊥)
        → fold Says u (choices k.domains (b ∷ bs)) ≡ u
    told_nowhere u h =
        fold_by_front k.domains (b ∷ bs) (b ∷ []) bs refl Says u
        ∙ fold_singles (after_front Says (choices k.domains bs)) (domain_at k.domains b.ty) u
        ∙ fold_stays_at (λ t y. after_front Says (choices k.domains bs) t (y ∷ [])) (domain_at k.domains b.ty) u
        (λ y t m. other_stays y t (λ c i. h k e c y depth i m))

-- the variables that are left after those of the first ones
pub depth_after : (d : List (List Elem)) (bounds these others : List Bound) (e inner : List Elem) (i n : ℕ)
    → bounds ≡ these ++ others → i < length (choices d these) → inner ≡ e ++ get_or (choices d these) i []
    → length e + length bounds ≡ n → length inner + length others ≡ n
depth_after d bounds these others e inner i n is within from depth =
    let long = choice_length d these i within in
    let all = ap length is ∙ length-append these others in
    let here = ap length from ∙ length-append e (get_or (choices d these) i []) in
    omega (arith, long, all, here, depth)

pub front_one : (bounds these others : List Bound) → bounds ≡ these ++ others → length others < length bounds
    → length these ≤ 1 → (b : Bound) × (these ≡ b ∷ []) × (bounds ≡ b ∷ others)
front_one bounds [] others is fewer few = absurd (omega (arith, fewer, ap length is))
front_one bounds (b ∷ []) others is fewer few = (b, refl, is)
front_one bounds (b ∷ c ∷ these) others is fewer few = absurd (omega (arith, few))

module _ (k : KnownAtoms) (r : RuleTree) (a : GroundAtom) (e : List Elem) where
  pub place_within : (bounds these others : List Bound) (p : ℕ) → bounds ≡ these ++ others
      → length others < length bounds → length these ≤ 1 → IsStart k.domains r a bounds (At p)
      → p < length (choices k.domains these)
  place_within bounds these others p is fewer few h =
      let f = front_one bounds these others is fewer few in
      let s = subst (λ us. IsStart k.domains r a us (At p)) f.2 h in
      subst (λ us. p < length (choices k.domains us)) (sym f.1) (subst (λ n. p < n)
      (sym (single_length (domain_at k.domains f.0.ty))) (slice_get_within (domain_at k.domains f.0.ty) p s.0 s.1))

  pub place_told : (bounds these others : List Bound) (p : ℕ) (inner : List Elem) (u t : Truth)
      → length e + length bounds ≡ length r.vars → AllByRecursion IsDistinct k.domains
      → bounds ≡ these ++ others → length others < length bounds → length these ≤ 1
      → IsStart k.domains r a bounds (At p) → inner ≡ e ++ get_or (choices k.domains these) p []
      → t ≡ fold (λ w c. either_certain w (instance_truth k r a (inner ++ c))) u (choices k.domains others)
      → t ≡ fold (Says k r a e) u (choices k.domains bounds)
  place_told bounds these others p inner u t depth d is fewer few h from told =
      let f = front_one bounds these others is fewer few in
      let b = f.0 in
      let s = subst (λ us. IsStart k.domains r a us (At p)) f.2 h in
      let G = λ (w : Truth) (c : List Elem). either_certain w (instance_truth k r a c) in
      let here : get_or (choices k.domains these) p [] ≡ s.0 ∷ [] =
      ap (λ us. get_or (choices k.domains us) p []) f.1 ∙ single_at (domain_at k.domains b.ty) p s.0 s.1 in
      told ∙ inner_fold G (choices k.domains others) e inner (s.0 ∷ []) u (from ∙ ap (λ c. e ++ c) here)
      ∙ sym (told_at k r a e b others (subst (λ us. length e + length us ≡ length r.vars) f.2 depth) p s.0 u
      (domain_is_distinct k.domains b.ty d) s.1 s.2)
      ∙ ap (λ us. fold (Says k r a e) u (choices k.domains us)) (sym f.2)

  pub nowhere_told : (bounds : List Bound) (u : Truth) → (length bounds == 0) ≡ false
      → length e + length bounds ≡ length r.vars → IsStart k.domains r a bounds Nowhere
      → u ≡ fold (Says k r a e) u (choices k.domains bounds)
  nowhere_told [] u some depth h = absurd (true≢false some)
  nowhere_told (b ∷ bs) u some depth h = sym (told_nowhere k r a e b bs depth u h)
