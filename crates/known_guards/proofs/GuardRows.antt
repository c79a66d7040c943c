-- The rows that a known table leaves lead to the instances that are not ruled out.
use Rattle.std.proofs.Common.{◌≡◌, ℕ, zero, suc, ◌+◌, ◌<◌, Bool, true, false, List, [], ◌∷◌, ◌++◌, map, cond}
use Rattle.std.proofs.Common.{if◌then◌else◌}
use Rattle.std.proofs.Common.{Option, Some, None, option_map, slice_get, refl, sym, ap, ◌∙◌, arith}
use Rattle.std.proofs.Common.{below_more}
use Rattle.std.specs.List.{Contains}
use Rattle.std.specs.Option.{IfSome, option_map_or}
use Rattle.std.proofs.lemmas.List.Elements.{Contains-append_left, Contains-push}
use Rattle.kb_logic.specs.declared.elements.Elem.{Elem}
use Rattle.kb_logic.specs.declared.vocabularies.Bound.{Bound}
use Rattle.kb_logic.specs.declared.vocabularies.Symbol.{Symbol}
use Rattle.kb_logic.specs.Denotations.{Denotation, denotation_of}
use Rattle.kb_logic.specs.Meaning.{behind, is_end}
use Rattle.kb_logic.specs.Models.{GroundAtom}
use Rattle.kb_logic.specs.KnownAtoms.{atoms_with}
use Rattle.kb_logic.specs.Structures.{tuples_of}
use Rattle.kb_logic.specs.Trees.{TermTrees, FormulaTree}
use Rattle.partial_structures.specs.Applications.{are_typed, arguments_typed, atom_certain}
use Rattle.partial_structures.specs.KnownAtoms.{KnownAtoms, atoms_of, value_at, value_of_row}
use Rattle.partial_structures.specs.declared.truths.Truth.{Truth}
use Rattle.partial_structures.specs.declared.truths.Truth.TheVariants as truth
use Rattle.partial_structures.proofs.Walks.{tuple_from}
use Rattle.term_values.specs.GroundBases.{row_index}
use Rattle.term_values.proofs.RowFacts.{in-rows, placed, row-is}
use Rattle.row_ranges.specs.declared.ranges.Ranges.{Ranges}
use Rattle.row_ranges.specs.Arguments.{IsNoRow, argument_values}
use Rattle.row_ranges.specs.Leads.{Leads}
use Rattle.row_ranges.proofs.Passing.{leads-more}
use Rattle.known_guards.specs.Guards.{ArePlain, AreRowsLeft, IsFalseAtom, IsGuard, IsRuledOut}

-- the row that stands at its index
abbrev IsRowAt : List (List Elem) → List Denotation → ℕ → Type 0
IsRowAt rs vs i = (r : List Elem) × (slice_get rs i ≡ Some r) × (map denotation_of r ≡ vs)

row-step : (r : List Elem) (rs : List (List Elem)) (vs : List Denotation) (i : ℕ) (here : Bool) (o : Option ℕ)
    → (here ≡ true → map denotation_of r ≡ vs) → ((k : ℕ) → o ≡ Some k → IsRowAt rs vs k)
    → cond here (Some 0) (option_map (λ k. 1 + k) o) ≡ Some i → IsRowAt (r ∷ rs) vs i
row-step r rs vs zero true o is later e = (r, refl, is refl)
row-step r rs vs (suc i) true o is later e = absurd (cc)
row-step r rs vs i false None is later e = absurd (cc)
row-step r rs vs zero false (Some k) is later e = absurd (let z : 1 + k ≡ zero = cc in omega (arith, z))
row-step r rs vs (suc i) false (Some k) is later e =
    let z : 1 + k ≡ suc i = cc in
    let same : k ≡ i = omega (arith, z) in
    let found = later k refl in (found.0, ap (slice_get rs) (sym same) ∙ found.1, found.2)

row-at : (rs : List (List Elem)) (vs : List Denotation) (i : ℕ) → row_index rs vs ≡ Some i → IsRowAt rs vs i
row-at [] vs i e = absurd (cc)
row-at (r ∷ rs) vs i e =
    row-step r rs vs i (is_end (behind r vs)) (row_index rs vs) (row-is r vs) (λ k. row-at rs vs k) e

pub mapped : {X Y : Type 0} (f : X → Y) (xs : List X) (n : ℕ) (x : X) → slice_get xs n ≡ Some x
    → slice_get (map f xs) n ≡ Some (f x)
mapped f [] n x e = absurd (cc)
mapped {X} f (y ∷ ys) zero x e = let same : y ≡ x = cc in ap (λ z. Some (f z)) same
mapped f (y ∷ ys) (suc n) x e = mapped f ys n x e

module _ (k : KnownAtoms) (s : ℕ) (rows : List ℕ) (d : Symbol) (declared : slice_get k.symbols s ≡ Some d)
    (predicate : d.value ≡ None) (left : AreRowsLeft k s rows) where
  abbrev atom-at : List Elem → GroundAtom
  atom-at r = record { symbol = s; args = r; value = None }

  -- the atoms of a predicate are those of its tuples
  listed : atoms_of k s ≡ map atom-at (tuples_of k.domains d.args)
  listed =
      ap (λ o. option_map_or (λ (x : Symbol). atoms_with k.domains s (tuples_of k.domains x.args) x.value) o [])
      declared
      ∙ ap (atoms_with k.domains s (tuples_of k.domains d.args)) predicate

  false-at : (vs : List Denotation) (i : ℕ) → IsRowAt (tuples_of k.domains d.args) vs i → (Contains rows i → ⊥)
      → value_of_row k s vs None ≡ truth.No
  false-at vs i row none =
      ap (λ us. value_of_row k s us None) (sym row.2)
      ∙ left i (atom-at row.0) (ap (λ as'. slice_get as' i) listed
      ∙ mapped atom-at (tuples_of k.domains d.args) i row.0 row.1) none

  -- so arguments that are none of the rows make a false atom: they are another tuple, or outside their types
  module _ (ts : TermTrees) (e : List Elem) (none : IsNoRow k.domains d.args rows ts e) where
    typed-row : (vs : List Denotation) → vs ≡ argument_values k.domains ts e → are_typed k.domains d.args vs ≡ true
        → value_of_row k s vs None ≡ truth.No
    typed-row vs same typed =
        let tuple = tuple_from k.domains d.args vs typed in
        let tuples = tuples_of k.domains d.args in
        let place = placed tuples (map denotation_of tuple.0) (in-rows tuples tuple.0 tuple.1) in
        let index : row_index tuples vs ≡ Some place.0 = ap (row_index tuples) (sym tuple.2) ∙ place.2 in
        false-at vs place.0 (row-at tuples vs place.0 index)
        (none place.0 (ap (row_index tuples) (sym same) ∙ index))

    by-types : (vs : List Denotation) → vs ≡ argument_values k.domains ts e → (typed : Bool)
        → are_typed k.domains d.args vs ≡ typed
        → (if typed then value_of_row k s vs None else truth.No) ≡ truth.No
    by-types vs same true typed = typed-row vs same typed
    by-types vs same false typed = refl

    pub no-row-false : ArePlain ts → IsFalseAtom k s ts e
    no-row-false plain =
        let vs = argument_values k.domains ts e in
        ap (atom_certain k s) (plain k e)
        ∙ (ap (λ o. if arguments_typed k o vs then value_of_row k s vs None else truth.No) declared
        ∙ by-types vs refl (are_typed k.domains d.args vs) refl)

-- the rows of a table lead as what is known of it says
pub led-by-rows : (k : KnownAtoms) (s : ℕ) (rows : List ℕ) (d : Symbol) (ts : TermTrees) (bs : List Bound)
    (o : Option Ranges) → slice_get k.symbols s ≡ Some d → d.value ≡ None → AreRowsLeft k s rows → ArePlain ts
    → IfSome o
    (λ r. Leads (IsNoRow k.domains d.args rows ts) k.domains r.keys.items r.start r.steps.items bs [])
    → IfSome o (λ r. Leads (IsFalseAtom k s ts) k.domains r.keys.items r.start r.steps.items bs [])
led-by-rows k s rows d ts bs None declared predicate left plain h = h
led-by-rows k s rows d ts bs (Some r) declared predicate left plain h =
    leads-more (IsNoRow k.domains d.args rows ts) (IsFalseAtom k s ts) k.domains r.keys.items r.start r.steps.items bs
    [] (λ a none. no-row-false k s rows d declared predicate left ts a none plain) h

-- and so to what is not ruled out
pub led-by-guard : (k : KnownAtoms) (v : Bool) (f : FormulaTree) (s : ℕ) (ts : TermTrees) (bs : List Bound)
    (o : Option Ranges) → IsGuard k v f s ts
    → IfSome o (λ r. Leads (IsFalseAtom k s ts) k.domains r.keys.items r.start r.steps.items bs [])
    → IfSome o (λ r. Leads (IsRuledOut k v f) k.domains r.keys.items r.start r.steps.items bs [])
led-by-guard k v f s ts bs None g h = h
led-by-guard k v f s ts bs (Some r) g h =
    leads-more (IsFalseAtom k s ts) (IsRuledOut k v f) k.domains r.keys.items r.start r.steps.items bs []
    (λ a no. g a no) h

-- ---- the rows that are found so far
pub left-pushed : (P : ℕ → Type 0) (rows : List ℕ) (n : ℕ) → ((i : ℕ) → i < n → (Contains rows i → ⊥) → P i)
    → (i : ℕ) → i < n + 1 → (Contains (rows ++ n ∷ []) i → ⊥) → P i
left-pushed P rows n h =
    below_more (λ i. (Contains (rows ++ n ∷ []) i → ⊥) → P i) n
    (λ i low none. h i low (λ m. none (Contains-append_left rows (n ∷ []) i m)))
    (λ none. absurd (none (Contains-push rows n)))

pub left-passed : (P : ℕ → Type 0) (rows : List ℕ) (n : ℕ) → ((i : ℕ) → i < n → (Contains rows i → ⊥) → P i) → P n
    → (i : ℕ) → i < n + 1 → (Contains rows i → ⊥) → P i
left-passed P rows n h here = below_more (λ i. (Contains rows i → ⊥) → P i) n h (λ none. here)

-- what is known of all atoms of a symbol, one after another
pub left-of-truths : {V : Type 0} (items : V → List ℕ) (k : KnownAtoms) (s : ℕ) (ts : List Truth)
    → ts ≡ map (value_at k) (atoms_of k s) → (o : Option V)
    → IfSome o
    (λ rows. (i : ℕ) (t : Truth) → slice_get ts i ≡ Some t → (Contains (items rows) i → ⊥) → t ≡ truth.No)
    → IfSome o (λ rows. AreRowsLeft k s (items rows))
left-of-truths items k s ts are None h = h
left-of-truths items k s ts are (Some rows) h =
    λ i a at none. h i (value_at k a)
    (ap (λ us. slice_get us i) are ∙ mapped (value_at k) (atoms_of k s) i a at) none
