-- The values of terms that may be asked for: where the static bounds are small, they are in range.
use Rattle.std.proofs.Common.{◌≡◌, ℕ, ℤ, pos, Bool, true, false, List, [], ◌∷◌, Option, Some, None, map, filter, cond}
use Rattle.std.proofs.Common.{fold, if◌then◌else◌, refl, sym, subst, arith, inl, inr}
use Rattle.std.proofs.lemmas.Int.{ints}
use Rattle.kb_logic.specs.declared.elements.Elem.{Elem}
use Rattle.kb_logic.specs.declared.structures.Structure.{Structure}
use Rattle.kb_logic.specs.declared.syntax.AggKind.{AggKind}
use Rattle.kb_logic.specs.declared.syntax.AggKind.TheVariants as kind
use Rattle.kb_logic.specs.declared.vocabularies.Vocabulary.{Vocabulary}
use Rattle.kb_logic.specs.Bounds.{exactly, interval_sum, interval_product, bounds_of, factor_bounds}
use Rattle.kb_logic.specs.Bounds.{summand_bounds, IsSmall, TermIsBounded, Interval, ValueIsWithin}
use Rattle.kb_logic.specs.Denotations.{Denotation, named, number, minus_infinity, plus_infinity, undefined, as_number}
use Rattle.kb_logic.specs.Denotations.{lesser, greater, lower_value}
use Rattle.kb_logic.specs.Domains.{AreDomainsOf}
use Rattle.kb_logic.specs.Meaning.{value_of, truth_of, values_where}
use Rattle.kb_logic.specs.Structures.{choices}
use Rattle.kb_logic.specs.Typing.{IsIntegerIn, TermIsTyped, IsNumeric, sort_of}
use Rattle.kb_logic.specs.Trees.{TermTree, variable, integer, constructed, application, summation, product, aggregate}
use Rattle.kb_logic.proofs.WithinBounds.{last_small}
use Rattle.ground_core.specs.Meaning.{IsInRange}
use Rattle.term_values.specs.GroundBases.{GroundBase, structure_of, IsOver}
use Rattle.def_ground.specs.AskedTerms.{number_of}
use Rattle.def_ground.specs.Counting.{extreme_of}
use Rattle.def_ground.specs.GroundForms.{IsSide, IsGroundSide}
use Rattle.def_ground.proofs.FormLaws.{adding-side}
use Rattle.def_ground.proofs.SideValues.{AreNumbers, weights-are, addend-splits}
use Rattle.def_ground.proofs.TypedForms.{ground-side}

pub bounded-small : (v : Vocabulary) (domains : List (List Elem)) (t : TermTree) (scope : List ℕ)
    → TermIsBounded v domains t scope → IsSmall (bounds_of v domains t scope)
bounded-small v domains (variable n) scope h = h
bounded-small v domains (integer z) scope h = h
bounded-small v domains (constructed ty n) scope h = h
bounded-small v domains (application s ts) scope h = h.0
bounded-small v domains (summation ss) scope h =
    last_small interval_sum (exactly (pos 0)) (summand_bounds v domains ss scope)
    (omega (arith, ints), omega (arith, ints)) h.0
bounded-small v domains (product ts) scope h =
    last_small interval_product (exactly (pos 1)) (factor_bounds v domains ts scope)
    (omega (arith, ints), omega (arith, ints)) h.0
bounded-small v domains (aggregate k bs f t) scope h = h.0

-- ---- values that are in range

-- a number, or infinite
abbrev IsMeasure : Denotation → Type 0
IsMeasure (named n) = ⊥
IsMeasure (number z) = Unit {0}
IsMeasure minus_infinity = Unit {0}
IsMeasure plus_infinity = Unit {0}
IsMeasure undefined = ⊥

measure-in : (i : Interval) (d : Denotation) → IsMeasure d → IsSmall i → ValueIsWithin i d → IsInRange d
measure-in i (named n) h small within = absurd h
measure-in i (number z) h small within =
    (omega (arith, ints, small.0, within.low), omega (arith, ints, small.1, within.high))
measure-in i minus_infinity h small within = tt
measure-in i plus_infinity h small within = tt
measure-in i undefined h small within = absurd h

either-measure : (c : Bool) (x y : Denotation) → IsMeasure x → IsMeasure y → IsMeasure (if c then x else y)
either-measure true x y h k = h
either-measure false x y h k = k

-- the least or the greatest of numbers
folded-measure : (op : Denotation → Denotation → Denotation)
    → ((x y : Denotation) → IsMeasure x → IsMeasure y → IsMeasure (op x y))
    → (T : List Elem → Bool) (V : List Elem → Denotation) (W : List Elem → ℤ) (as' : List (List Elem))
    → AreNumbers V W as' → (x : Denotation) → IsMeasure x → IsMeasure (fold op x (values_where T V as'))
folded-measure op step T V W [] are x h = h
folded-measure op step T V W (a ∷ as') are x h =
    by_truth (T a) (λ y k. folded-measure op step T V W as' (λ c m. are c (inr m)) y k)
  where
    by_truth : (c : Bool) → ((y : Denotation) → IsMeasure y → IsMeasure (fold op y (values_where T V as')))
        → IsMeasure (fold op x (map V (cond c (a ∷ filter T as') (filter T as'))))
    by_truth true rest =
        rest (op x (V a)) (step x (V a) h (subst IsMeasure (sym (are a (inl refl))) tt))
    by_truth false rest = rest x h

module _ (b : GroundBase) (v : ℕ → Bool) (over : IsOver b v) where
  abbrev m : Structure
  m = structure_of b v

  extreme-measure : (t : TermTree) (k : AggKind) → extreme_of t ≡ Some k → IsGroundSide b false t []
      → IsMeasure (value_of m t [])
  extreme-measure (variable n) k is h = absurd cc
  extreme-measure (integer z) k is h = absurd cc
  extreme-measure (constructed ty n) k is h = absurd cc
  extreme-measure (application s ts) k is h = absurd cc
  extreme-measure (summation ss) k is h = absurd cc
  extreme-measure (product ts) k is h = absurd cc
  extreme-measure (aggregate kind.Count bs f t) k is h = absurd cc
  extreme-measure (aggregate kind.Sum bs f t) k is h = absurd cc
  extreme-measure (aggregate kind.Min bs f t) k is h =
      folded-measure lesser (λ x y hx hy. either-measure (lower_value y x) y x hy hx) (λ a. truth_of m f a)
      (λ a. as_number (value_of m t a)) (λ a. number_of (value_of m t a)) (choices b.domains bs)
      (weights-are b v over bs t [] h.2) plus_infinity tt
  extreme-measure (aggregate kind.Max bs f t) k is h =
      folded-measure greater (λ x y hx hy. either-measure (lower_value x y) y x hy hx) (λ a. truth_of m f a)
      (λ a. as_number (value_of m t a)) (λ a. number_of (value_of m t a)) (choices b.domains bs)
      (weights-are b v over bs t [] h.2) minus_infinity tt

  side-measure : (t : TermTree) → IsGroundSide b false t [] → IsMeasure (value_of m t [])
  side-measure t h = by (extreme_of t) refl
    where
      by : (o : Option AggKind) → extreme_of t ≡ o → IsMeasure (value_of m t [])
      by (Some k) e = extreme-measure t k e h
      by None e =
          subst IsMeasure (sym (addend-splits b v over t [] (adding-side b false t [] e h)).value) tt

-- a number whose value lies within small bounds
pub value-in-range : (b : GroundBase) → AreDomainsOf b.vocabulary b.domains → (v : ℕ → Bool) → IsOver b v
    → (t : TermTree) → TermIsTyped b.vocabulary (IsIntegerIn b.domains) t []
    → IsNumeric b.vocabulary (sort_of b.vocabulary t []) → IsSide false t
    → (i : Interval) → IsSmall i → ValueIsWithin i (value_of (structure_of b v) t [])
    → IsInRange (value_of (structure_of b v) t [])
value-in-range b given v over t typed numeric placed i small within =
    measure-in i (value_of (structure_of b v) t [])
    (side-measure b v over t (ground-side b given t false [] [] tt typed numeric placed)) small within
