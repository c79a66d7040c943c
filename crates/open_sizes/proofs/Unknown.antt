-- The unknown atoms are those of each symbol, which are those of each tuple.
use Rattle.std.proofs.Common.{◌≡◌, ◌<◌, ◌≤◌, ℕ, zero, suc, ◌+◌, true, if◌then◌else◌, List, [], ◌∷◌, ◌++◌, map, length}
use Rattle.std.proofs.Common.{drop}
use Rattle.std.proofs.Common.{get_or, slice_get, Option, None, Some, refl, sym, ap, ◌∙◌, append_assoc, arith}
use Rattle.std.specs.List.{sum_by, enumerate_from}
use Rattle.std.specs.Option.{option_map_or}
use Rattle.std.proofs.lemmas.List.{at_drop_all}
use Rattle.std.proofs.lemmas.List.FromFn.{length-enumerate_from, get_or-enumerate_from}
use Rattle.std.proofs.lemmas.List.Sums.{length-filter, sum_by-drop_more, fold-append}
use Rattle.kb_logic.specs.declared.elements.Elem.{Elem}
use Rattle.kb_logic.specs.declared.vocabularies.Symbol.{Symbol}
use Rattle.kb_logic.specs.Denotations.{Denotation, denotation_of}
use Rattle.kb_logic.specs.KnownAtoms.{KnownAtoms, atoms_with, atoms_over}
use Rattle.kb_logic.specs.Models.{GroundAtom}
use Rattle.kb_logic.specs.Structures.{domain_at, tuples_of}
use Rattle.kb_logic.proofs.Assignments.{before}
use Rattle.kb_logic.proofs.Atoms.{tuple_elements}
use Rattle.kb_logic.proofs.Has.{Has, contains_from, enumerated_has}
use Rattle.kb_logic.proofs.Pairs.{sum_by-pairs}
use Rattle.stage_definitions.specs.SizesStage.{capped}
use Rattle.partial_structures.specs.Applications.{arguments_typed, value_typed, result_typed, outside_value}
use Rattle.partial_structures.specs.Applications.{atom_certain, value_certain}
use Rattle.partial_structures.specs.Known.{start_of, stepped, spot_of}
use Rattle.partial_structures.specs.KnownAtoms.{atoms_of, value_at, value_of_row}
use Rattle.partial_structures.specs.declared.known.Known.{Known}
use Rattle.partial_structures.specs.declared.truths.Truth.{Truth}
use Rattle.partial_structures.specs.declared.truths.Truth.TheVariants as truth
use Rattle.partial_structures.proofs.Walks.{stands_is, typed_tuple}
use Rattle.quantifier_bounds.specs.Steps.{is_unknown, unknown_atoms}
use Rattle.size_stage.proofs.Capping.{Same, part_next, last_part}
use Rattle.open_sizes.specs.Atoms.{open_in_symbol, open_in_tuples, open_in_values}
use Rattle.open_sizes.specs.OpenWeights.{where_open}
use Rattle.open_sizes.proofs.Sums.{sum-map, sum-flat, sum-same}

-- one item more of a sum that stops at the greatest number
pub sum_next : {X : Type 0} (h : X → ℕ) (xs : List X) (i : ℕ) (x z : X) (count new y all : ℕ) → i < length xs
    → x ≡ get_or xs i z → new ≡ capped (count + y) → y ≡ capped (h x) → Same (count + sum_by h (drop i xs)) all
    → Same (new + sum_by h (drop (i + 1) xs)) all
sum_next h xs i x z count new y all lt at is part so_far =
    let rest = sum_by h (drop (i + 1) xs) in
    let next : sum_by h (drop i xs) ≡ h x + rest =
    sum_by-drop_more h xs i z lt ∙ ap (λ w. h w + rest) (sym at) in
    part_next count new y (h x) rest all is part (ap (λ n. capped (count + n)) (sym next) ∙ so_far)

-- ... and its end
pub sum_done : {X : Type 0} (h : X → ℕ) (xs : List X) (i count all : ℕ) → length xs ≤ i → count ≡ capped count
    → Same (count + sum_by h (drop i xs)) all → count ≡ capped all
sum_done h xs i count all past is so_far = last_part count all is
    (sym (at_drop_all (λ ys. capped (count + sum_by h ys)) xs i past) ∙ so_far)

-- a sum to begin with
pub sum_first : (a b : ℕ) → a ≡ b → Same (0 + a) b
sum_first a b e = ap capped (omega (arith, e))

pub one_small : (t : Truth) → where_open t 1 ≡ capped (where_open t 1)
one_small truth.Yes = refl
one_small truth.No = refl
one_small truth.Unknown = refl

-- one argument further
pub spot_next : (s : Known) (symbol : ℕ) (vs : List Denotation) (d : Denotation)
    → stepped s (spot_of s symbol vs) d ≡ spot_of s symbol (vs ++ d ∷ [])
spot_next s symbol vs d = sym (fold-append (stepped s) (start_of s symbol) vs (d ∷ []))

-- the tuples after one more argument
pub tuples_next : (k : KnownAtoms) (s : ℕ) (value : Option ℕ) (ty : ℕ) (types : List ℕ) (vs : List Denotation)
    → open_in_tuples k s value (ty ∷ types) vs
    ≡ sum_by (λ x. open_in_tuples k s value types (vs ++ denotation_of x ∷ [])) (domain_at k.domains ty)
tuples_next k s value ty types vs =
    let ts = tuples_of k.domains types in
    sum_by-pairs (λ (t : List Elem). open_in_values k s value (vs ++ map denotation_of t)) before ts
    (domain_at k.domains ty)
    ∙ sum-same _ _ (domain_at k.domains ty) (λ x at. sum-same _ _ ts (λ t there.
    ap (open_in_values k s value) (sym (append_assoc vs (denotation_of x ∷ []) (map denotation_of t)))))

module _ (k : KnownAtoms) (i : ℕ) (d : Symbol) (there : slice_get k.symbols i ≡ Some d) where
  typed : (t : List Elem) → Has (tuples_of k.domains d.args) t
      → arguments_typed k (slice_get k.symbols i) (map denotation_of t) ≡ true
  typed t at = ap (λ o. arguments_typed k o (map denotation_of t)) there
      ∙ typed_tuple k.domains d.args t (tuple_elements k.domains d.args t
      (contains_from (tuples_of k.domains d.args) t at))

  predicate : (t : List Elem) → Has (tuples_of k.domains d.args) t
      → atom_certain k i (Some (map denotation_of t)) ≡ value_of_row k i (map denotation_of t) None
  predicate t at = ap (λ b. if b then value_of_row k i (map denotation_of t) None else truth.No) (typed t at)

  value : (ty : ℕ) → d.value ≡ Some ty → (t : List Elem) → Has (tuples_of k.domains d.args) t → (x : Elem)
      → Has (domain_at k.domains ty) x
      → value_certain k i (Some (map denotation_of t)) (Some (denotation_of x))
      ≡ value_of_row k i (map denotation_of t) (Some (denotation_of x))
  value ty declared t at x in' =
      let vs = map denotation_of t in
      let v = denotation_of x in
      let within : result_typed k (slice_get k.symbols i) v ≡ true =
      ap (λ o. result_typed k o v) there ∙ ap (λ o. value_typed k o v) declared
      ∙ stands_is (domain_at k.domains ty) x in' in
      ap (λ b. if b then (if result_typed k (slice_get k.symbols i) v then value_of_row k i vs (Some v) else
      outside_value (slice_get k.symbols i)) else truth.Unknown) (typed t at)
      ∙ ap (λ b. if b then value_of_row k i vs (Some v) else outside_value (slice_get k.symbols i)) within

  with_value : (o : Option ℕ) → d.value ≡ o
      → sum_by (λ a. where_open (value_at k a) 1) (atoms_with k.domains i (tuples_of k.domains d.args) o)
      ≡ open_in_tuples k i o d.args []
  with_value None declared =
      let ts = tuples_of k.domains d.args in
      sum-map (λ (a : GroundAtom). where_open (value_at k a) 1) (λ t. record { symbol = i; args = t; value = None }) ts
      ∙ sum-same _ _ ts (λ t at. ap (λ u. where_open u 1) (sym (predicate t at)))
  with_value (Some ty) declared =
      let ts = tuples_of k.domains d.args in
      let xs = domain_at k.domains ty in
      sum-flat (λ (a : GroundAtom). where_open (value_at k a) 1)
      (λ t. map (λ x. record { symbol = i; args = t; value = Some x }) xs) ts
      ∙ sum-same _ _ ts (λ t at.
      sum-map (λ (a : GroundAtom). where_open (value_at k a) 1)
      (λ x. record { symbol = i; args = t; value = Some x }) xs
      ∙ sum-same _ _ xs (λ x in'. ap (λ u. where_open u 1) (sym (value ty declared t at x in'))))

  of_symbol : sum_by (λ a. where_open (value_at k a) 1)
      (atoms_with k.domains i (tuples_of k.domains d.args) d.value) ≡ open_in_symbol k i d
  of_symbol = with_value d.value refl

  -- as they stand in a list of what is known of each
  pub of_truths : sum_by (λ t. where_open t 1) (map (value_at k) (atoms_of k i)) ≡ open_in_symbol k i d
  of_truths = sum-map (λ t. where_open t 1) (value_at k) (atoms_of k i)
      ∙ ap (λ o. sum_by (λ a. where_open (value_at k a) 1)
      (option_map_or (λ (s : Symbol). atoms_with k.domains i (tuples_of k.domains s.args) s.value) o [])) there
      ∙ of_symbol

-- ... and so all unknown atoms are those of the symbols
pub by_symbols : (k : KnownAtoms) → unknown_atoms k
    ≡ sum_by (λ (s : ℕ × Symbol). open_in_symbol k s.0 s.1) (enumerate_from 0 k.symbols)
by_symbols k =
    length-filter (λ (a : GroundAtom). is_unknown (value_at k a)) (atoms_over k.symbols k.domains)
    ∙ sum-flat (λ (a : GroundAtom). where_open (value_at k a) 1)
    (λ (s : ℕ × Symbol). atoms_with k.domains s.0 (tuples_of k.domains s.1.args) s.1.value)
    (enumerate_from 0 k.symbols)
    ∙ sum-same _ _ (enumerate_from 0 k.symbols) (λ s at.
    let found = enumerated_has 0 k.symbols s.0 s.1 at in
    let number : s.0 ≡ found.0 = let is = found.1 in omega (arith, is) in
    of_symbol k s.0 s.1 (ap (slice_get k.symbols) number ∙ found.2))

-- the symbol with a number, and that there are as many numbers
pub symbol_at : (ss : List Symbol) (i : ℕ) (d : Symbol) → i < length ss
    → (i, get_or ss i d) ≡ get_or (enumerate_from 0 ss) i (i, d)
symbol_at ss i d lt =
    let zero : i ≡ 0 + i = omega arith in
    ap {B = ℕ × Symbol} (λ n. (n, get_or ss i d)) zero ∙ sym (get_or-enumerate_from 0 ss i (i, d) lt)

pub as_many : (ss : List Symbol) → length ss ≡ length (enumerate_from 0 ss)
as_many ss = sym (length-enumerate_from 0 ss)

pub get_here : {X : Type 0} (xs : List X) (n : ℕ) (x : X) → n < length xs → slice_get xs n ≡ Some (get_or xs n x)
get_here [] n x lt = absurd (omega (arith, lt))
get_here (y ∷ xs) zero x lt = refl
get_here (y ∷ xs) (suc n) x lt = get_here xs n x (omega (arith, lt))

pub some_at : {X : Type 0} (xs : List X) (n : ℕ) → n < length xs → (x : X) × (slice_get xs n ≡ Some x)
some_at [] n lt = absurd (omega (arith, lt))
some_at (y ∷ xs) zero lt = (y, refl)
some_at (y ∷ xs) (suc n) lt = some_at xs n (omega (arith, lt))
