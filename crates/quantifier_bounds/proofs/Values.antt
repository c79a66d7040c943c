-- The values of a function at some arguments.
use Rattle.std.proofs.Common.{◌≡◌, ℕ, zero, suc, ◌+◌, ◌<◌, ◌≤◌, List, [], ◌∷◌, length, get_or, Bool, true, false}
use Rattle.std.proofs.Common.{Result, Err}
use Rattle.std.proofs.Common.{Some, refl, sym, ap, ◌∙◌, subst, slice_get, arith, ◌⊎◌, inl, inr, ◌||◌}
use Rattle.std.proofs.Common.{None as Nothing}
use Rattle.std.specs.List.{AllByRecursion, Contains, list_all}
use Rattle.std.proofs.lemmas.Bool.{true≢false}
use Rattle.kb_logic.specs.declared.elements.Elem.{Elem}
use Rattle.kb_logic.specs.declared.vocabularies.Symbol.{Symbol}
use Rattle.kb_logic.specs.Structures.{domain_at, tuples_of}
use Rattle.kb_logic.specs.Models.{HasValueIn, IsAtomOver}
use Rattle.kb_logic.specs.KnownAtoms.{KnownAtoms}
use Rattle.kb_logic.proofs.Members.{all_in, in_all}
use Rattle.partial_structures.specs.KnownAtoms.{value_at}
use Rattle.partial_structures.specs.Consistency.{IsConsistent, KnowsMore}
use Rattle.partial_structures.specs.declared.truths.Truth.{Truth}
use Rattle.partial_structures.specs.declared.truths.Truth.TheVariants.{Yes, No, Unknown}
use Rattle.bound_laws.specs.Closures.{opposes, value_atom, ObeysFunctions}
use Rattle.quantifier_bounds.specs.Steps.{IsImpossible, IsStep, Narrows}
use Rattle.quantifier_bounds.specs.Walks.{HasLone, SymbolHas, ValueDemand, left_with}
use Rattle.quantifier_bounds.specs.declared.fault.BoundFault.{BoundFault}
use Rattle.quantifier_bounds.specs.declared.left.Left.TheVariants.{None, One, Many}
use Rattle.quantifier_bounds.proofs.Made.{itself, no_stays, nothing}
use Rattle.quantifier_bounds.proofs.Lones.{counts, one_all, each_lost, one_forced, none_left, one_left, many_left}
use Rattle.quantifier_bounds.proofs.Orders.{ordered, ordered_all, all_ordered}
use Rattle.quantifier_bounds.proofs.Steps.{narrows_by, SoFar, turn, turn_fault}

lost_no : (t : Truth) → opposes true t ≡ true → t ≡ No
lost_no Yes h = absurd (true≢false (sym h))
lost_no No h = refl
lost_no Unknown h = absurd (true≢false (sym h))

none_is_one : None ≡ One → ⊥
none_is_one h = cc

module _ (k : KnownAtoms) (s : ℕ) (r : List Elem) where
  abbrev pub lost_value : KnownAtoms → Elem → Bool
  lost_value q x = opposes true (value_at q (value_atom s r x))

  still_lost : (q : KnownAtoms) → IsConsistent q → KnowsMore k q → (x : Elem) → lost_value k x ≡ true
      → lost_value q x ≡ true
  still_lost q c m x h = ap (opposes true) (no_stays k q c m (value_atom s r x) (lost_no (value_at k (value_atom s r
      x)) h))

  abbrev pub Demanded : List Elem → KnownAtoms → Type 0
  Demanded xs q = AllByRecursion (ValueDemand k s r q) xs

  -- those before are lost, and one of the others is left
  pub record Before (all left : List Elem) : Type 0 where
    pub one : counts (lost_value k) None left ≡ One
    pub gives : (q : KnownAtoms) → Demanded left q → Demanded all q
    pub takes : (q : KnownAtoms) → Demanded all q → Demanded left q

  pub before_any : (all : List Elem) → counts (lost_value k) None all ≡ One → Before all all
  before_any all h = record { one = h; gives = λ q i. i; takes = λ q i. i }

  module _ (all left next : List Elem) (x : Elem) (is : left ≡ x ∷ next) (b : Before all left) where
    pub before_more : lost_value k x ≡ true → Before all next
    before_more h = record {
      one = sym (ap (counts (lost_value k) None) is ∙ ap (λ l. counts (lost_value k) (left_with None l) next) h)
          ∙ b.one;
      gives = λ q i. b.gives q (subst (λ ys. Demanded ys q) (sym is) (λ n. absurd (true≢false (sym h ∙ n)), i));
      takes = λ q i. (subst (λ ys. Demanded ys q) is (b.takes q i)).1;
    }

    rest_lost : lost_value k x ≡ false → list_all (lost_value k) next ≡ true
    rest_lost h = one_all (lost_value k) next
        (sym (ap (counts (lost_value k) None) is ∙ ap (λ l. counts (lost_value k) (left_with None l) next) h) ∙ b.one)

    pub found : (new : KnownAtoms) (o : Result Bool BoundFault) → lost_value k x ≡ false
        → Narrows k new o (λ q. value_at q (value_atom s r x) ≡ Yes) → Narrows k new o (Demanded all)
    found new o h n =
        narrows_by k new o (λ q. value_at q (value_atom s r x) ≡ Yes) (Demanded all)
        (λ q c l m w. (subst (λ ys. Demanded ys q) is (b.takes q w)).0 h)
        (λ same w. b.gives new (subst (λ ys. Demanded ys new) (sym is) (
          λ n. w,
          each_lost (lost_value k) (lost_value k) (λ y e. e) (λ y. value_at new (value_atom s r y) ≡ Yes) next
              (rest_lost h),
        ))) n

  pub before_none : (all left : List Elem) → left ≡ [] → Before all left → ⊥
  before_none all left is b = none_is_one (ap (counts (lost_value k) None) (sym is) ∙ b.one)

  -- ---- one, none or many are left

  pub values_none : (xs : List Elem) → counts (lost_value k) None xs ≡ None → IsImpossible k (λ q. HasLone q s r xs)
  values_none xs h q c l m w = none_left (lost_value k) (lost_value q) (still_lost q c m)
      (λ x. value_at q (value_atom s r x) ≡ Yes) xs h w

  pub values_many : (xs : List Elem) → counts (lost_value k) None xs ≡ Many → IsStep k k false (λ q. HasLone q s r xs)
  values_many xs h = nothing k (λ q. HasLone q s r xs) (many_left (lost_value k) (λ x. value_at k (value_atom s r x) ≡
      Yes) xs h)

  pub values_one : (xs : List Elem) (new : KnownAtoms) (o : Result Bool BoundFault)
      → counts (lost_value k) None xs ≡ One → Narrows k new o (Demanded xs) → Narrows k new o (λ q. HasLone q s r xs)
  values_one xs new o h n =
      narrows_by k new o (Demanded xs) (λ q. HasLone q s r xs)
      (λ q c l m w. one_forced (lost_value k) (lost_value q) (still_lost q c m)
      (λ x. value_at q (value_atom s r x) ≡ Yes) xs h w)
      (λ same w. subst (λ j. HasLone j s r xs) (sym same)
      (one_left (lost_value k) (λ x. value_at k (value_atom s r x) ≡ Yes) xs h (subst (Demanded xs) same w))) n

-- ---- a list of anything that must all be

module _ {X : Type 0} (D : X → KnownAtoms → Type 0) where
  abbrev pub Every : List X → KnownAtoms → Type 0
  Every xs q = AllByRecursion (λ x. D x q) xs

  pub every_start : (falling : Bool) (k : KnownAtoms) (xs : List X)
      → SoFar k k false (Every xs) (Every (ordered falling xs))
  every_start falling k xs = record {
    more = itself k;
    sound = λ q c l m h. m;
    left = λ q c l m h. ordered_all (λ x. D x q) falling xs h;
    same = λ n. refl;
    holds = λ n h. all_ordered (λ x. D x k) falling xs h;
    fewer = λ n. absurd (true≢false (sym n));
  }

  module _ (first now : KnownAtoms) (changed : Bool) (all left next : List X) (x : X) (is : left ≡ x ∷ next)
      (s : SoFar first now changed (Every all) (Every left)) where
    pub every_turn : (then' : KnownAtoms) (one : Bool) → IsStep now then' one (D x)
        → SoFar first then' (changed || one) (Every all) (Every next)
    every_turn then' one d = turn first now changed (Every all) (Every left) s then' one (D x) (Every next)
        (λ q c l m h. (subst (λ ys. Every ys q) is h).0) (λ q c l m h. (subst (λ ys. Every ys q) is h).1)
        (λ a b p n. subst (λ ys. Every ys then') (sym is) (p, n)) d

    pub every_fault : (then' other : KnownAtoms) (e : BoundFault) → Narrows now then' (Err e) (D x)
        → Narrows first other (Err e) (Every all)
    every_fault then' other e h = turn_fault first now changed (Every all) (Every left) s then' other e (D x)
        (λ q c l m i. (subst (λ ys. Every ys q) is i).0) h

-- ---- the symbols

pub atoms_over_types : (k : KnownAtoms) (s ty : ℕ) (d : Symbol) → slice_get k.symbols s ≡ Some d → d.value ≡ Some ty
    → AllByRecursion (λ r. AllByRecursion (λ x. IsAtomOver k.symbols k.domains (value_atom s r x))
    (domain_at k.domains ty))
    (tuples_of k.domains d.args)
atoms_over_types k s ty d at value =
    in_all _ (tuples_of k.domains d.args) (λ r tuple. in_all _ (domain_at k.domains ty)
    (λ x within. (d, at, tuple, subst (λ o. HasValueIn k.domains o (Some x)) (sym value) within)))

some_same : {A : Type 0} {x y : A} → Some x ≡ Some y → x ≡ y
some_same h = cc

module _ (k : KnownAtoms) (s : ℕ) (d : Symbol) where
  pub symbol_none : d.value ≡ Nothing → SymbolHas k s d
  symbol_none h ty r value tuple = absurd (differ (sym h ∙ value))
    where
      differ : {A : Type 0} {x : A} → Nothing ≡ Some x → ⊥
      differ h = cc

  pub symbol_every : (ty : ℕ) (domains tuples : List (List Elem)) (values : List Elem) (new : KnownAtoms)
      (o : Result Bool BoundFault) → d.value ≡ Some ty → domains ≡ k.domains → tuples ≡ tuples_of domains d.args
      → values ≡ domain_at domains ty → Narrows k new o (λ q. AllByRecursion (λ r. HasLone q s r values) tuples)
      → Narrows k new o (λ q. SymbolHas q s d)
  symbol_every ty domains tuples values new o is same ts vs n =
      narrows_by k new o (λ q. AllByRecursion (λ r. HasLone q s r values) tuples) (λ q. SymbolHas q s d)
      (λ q c l m w. in_all _ tuples (λ r at.
      subst (HasLone q s r) (sym (vs ∙ ap (λ ds. domain_at ds ty) (same ∙ sym m.domains)))
      (w ty r is (subst (λ us. Contains us r) (ts ∙ ap (λ ds. tuples_of ds d.args) (same ∙ sym m.domains)) at))))
      (λ stays w u r value tuple.
      let ty_is : ty ≡ u = some_same (sym is ∙ value) in
      let here : k.domains ≡ new.domains = ap (λ j. j.domains) (sym stays) in
      subst (HasLone new s r) (vs ∙ ap (λ ds. domain_at ds ty) (same ∙ here) ∙ ap (domain_at new.domains) ty_is)
      (all_in _ tuples w r (subst (λ us. Contains us r) (sym (ts ∙ ap (λ ds. tuples_of ds d.args) (same ∙ here)))
      tuple))) n

get_within : {X : Type 0} (xs : List X) (n : ℕ) (x : X) → slice_get xs n ≡ Some x → n < length xs
get_within [] n x h = absurd (differ h)
  where
    differ : {A : Type 0} {x : A} → Nothing ≡ Some x → ⊥
    differ h = cc
get_within (y ∷ xs) zero x h = omega arith
get_within (y ∷ xs) (suc n) x h = omega (arith, get_within xs n x h)

pub get_here : {X : Type 0} (xs : List X) (n : ℕ) (x : X) → n < length xs → slice_get xs n ≡ Some (get_or xs n x)
get_here [] n x lt = absurd (omega (arith, lt))
get_here (y ∷ xs) zero x lt = refl
get_here (y ∷ xs) (suc n) x lt = get_here xs n x (omega (arith, lt))

-- from a number on, each symbol has P
abbrev pub From : (ℕ → Symbol → KnownAtoms → Type 0) → List Symbol → ℕ → KnownAtoms → Type 0
From P symbols i q = (s : ℕ) (d : Symbol) → i ≤ s → slice_get symbols s ≡ Some d → P s d q

at_or_after : (i s : ℕ) → i ≤ s → (i ≡ s) ⊎ (i + 1 ≤ s)
at_or_after zero zero h = inl refl
at_or_after zero (suc s) h = inr (omega arith)
at_or_after (suc i) zero h = absurd (omega (arith, h))
at_or_after (suc i) (suc s) h = elim (at_or_after i s (omega (arith, h))) [
  | inl e ↦ inl (ap suc e)
  | inr l ↦ inr (omega (arith, l))
]

module _ (P : ℕ → Symbol → KnownAtoms → Type 0) (W : KnownAtoms → Type 0) (first now : KnownAtoms) (changed : Bool)
    (symbols : List Symbol) (i : ℕ) (d : Symbol) (at : slice_get symbols i ≡ Some d)
    (s : SoFar first now changed W (From P symbols i)) where
  pub symbols_turn : (then' : KnownAtoms) (one : Bool) → IsStep now then' one (P i d)
      → SoFar first then' (changed || one) W (From P symbols (i + 1))
  symbols_turn then' one step = turn first now changed W (From P symbols i) s then' one (P i d) (From P symbols (i + 1))
      (λ q c l m h. h i d (omega arith) at) (λ q c l m h n e le is. h n e (omega (arith, le)) is)
      (λ a b p rest n e le is. elim (at_or_after i n le) [
        | inl same ↦
            let one_ : d ≡ e = some_same (sym at ∙ ap (slice_get symbols) same ∙ is) in
            subst (λ u. P n u then') one_ (subst (λ u. P u d then') same p)
        | inr more ↦ rest n e more is
      ]) step

  pub symbols_fault : (then' other : KnownAtoms) (e : BoundFault) → Narrows now then' (Err e) (P i d)
      → Narrows first other (Err e) W
  symbols_fault then' other e h = turn_fault first now changed W (From P symbols i) s then' other e (P i d)
      (λ q c l m i'. i' i d (omega arith) at) h

pub from_end : (P : ℕ → Symbol → KnownAtoms → Type 0) (symbols : List Symbol) (i : ℕ) (q : KnownAtoms)
    → length symbols ≤ i
    → From P symbols i q
from_end P symbols i q past s d le is = absurd (omega (arith, past, le, get_within symbols s d is))

-- all functions, symbol by symbol
pub functions_start : (k : KnownAtoms) (symbols : List Symbol) → symbols ≡ k.symbols
    → SoFar k k false ObeysFunctions (From (λ s d q. SymbolHas q s d) symbols 0)
functions_start k symbols is = record {
  more = itself k;
  sound = λ q c l m h. m;
  left = λ q c l m h s d le at ty r value tuple.
      h s ty d r (subst (λ ss. slice_get ss s ≡ Some d) (is ∙ sym m.symbols) at) value tuple;
  same = λ n. refl;
  holds = λ n h s ty d r at value tuple. h s d (omega arith) (subst (λ ss. slice_get ss s ≡ Some d) (sym is) at) ty r
      value tuple;
  fewer = λ n. absurd (true≢false (sym n));
}
