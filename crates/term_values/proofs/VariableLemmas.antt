-- The variables of a symbol's atoms lie among those of all atoms.
use Rattle.std.proofs.Common.{◌≡◌, ◌≤◌, ◌<◌, ℕ, zero, suc, ◌+◌, ◌*◌, List, [], ◌∷◌, length, take, Option, Some, None}
use Rattle.std.proofs.Common.{option_map, slice_get}
use Rattle.std.proofs.Common.{refl, sym, ap, ◌∙◌, arith, subst, IsNone}
use Rattle.std.specs.List.{sum_by}
use Rattle.std.specs.Option.{option_and_then}
use Rattle.std.proofs.lemmas.List.Sums.{sum_by-cons}
use Rattle.std.proofs.Math.Nat.{mul-le-mul_left, mul-one}
use Rattle.std.proofs.lemmas.Nat.{mul-le}
use Rattle.kb_logic.specs.declared.elements.Elem.{Elem}
use Rattle.kb_logic.specs.declared.vocabularies.Symbol.{Symbol}
use Rattle.kb_logic.specs.Structures.{domain_at, tuples_of}
use Rattle.kb_logic.specs.Denotations.{Denotation}
use Rattle.kb_logic.specs.Bounds.{value_type_of, domain_if}
use Rattle.kb_logic.specs.Weights.{value_count}
use Rattle.term_values.specs.GroundBases.{GroundBase, tuples_at, values_at, first_var, row_index, atoms_in}
use Rattle.term_values.specs.VariableTables.{capped}
use Rattle.term_values.proofs.RowFacts.{place-below}
use Rattle.term_values.proofs.StructureAtoms.{tuples-are, values-are}

pub sum_within : (f : Symbol → ℕ) (xs : List Symbol) (s : ℕ) (d : Symbol) → slice_get xs s ≡ Some d
    → sum_by f (take s xs) + f d ≤ sum_by f xs
sum_within f [] s d h = cc
sum_within f (x ∷ xs) zero d h =
    let same : x ≡ d = cc in
    let here = ap f same in
    let all = sum_by-cons f x xs in
    omega (arith, here, all)
sum_within f (x ∷ xs) (suc s) d h =
    let more = sum_within f xs s d h in
    let all = sum_by-cons f x xs in
    let front = sum_by-cons f x (take s xs) in
    omega (arith, more, all, front)

-- a symbol with a tuple is declared
pub declared_at : (b : GroundBase) (s i : ℕ) → i < length (tuples_at b s)
    → (d : Symbol) × (slice_get b.vocabulary.symbols s ≡ Some d)
declared_at b s i h = by (slice_get b.vocabulary.symbols s) refl
  where
    by : (o : Option Symbol) → slice_get b.vocabulary.symbols s ≡ o
        → (d : Symbol) × (slice_get b.vocabulary.symbols s ≡ Some d)
    by (Some d) e = (d, e)
    by None e =
        let none : tuples_at b s ≡ [] =
        ap {A = Option Symbol} {B = List (List Elem)}
        (λ o. elim o [ None ↦ [] | Some c ↦ tuples_of b.domains c.args ]) e in
        let size = ap length none in
        absurd (omega (arith, h, size))

pub slice_inside : {X : Type 0} (xs : List X) (k : ℕ) (x : X) → slice_get xs k ≡ Some x → k < length xs
slice_inside [] k x h = cc
slice_inside (y ∷ xs) zero x h = omega arith
slice_inside (y ∷ xs) (suc k) x h = let more = slice_inside xs k x h in omega (arith, more)

module _ (b : GroundBase) (known : length b.known ≡ sum_by (atoms_in b.domains) b.vocabulary.symbols) where
  pub symbol_vars : (s : ℕ) (d : Symbol) → slice_get b.vocabulary.symbols s ≡ Some d
      → first_var b s + atoms_in b.domains d ≤ 1 + length b.known
  symbol_vars s d at = let w = sum_within (atoms_in b.domains) b.vocabulary.symbols s d at in omega (arith, w, known)

  -- a predicate has one variable for each tuple
  pub predicate_vars : (s i : ℕ) → i < length (tuples_at b s) → IsNone (value_type_of b.vocabulary s)
      → (s < length b.vocabulary.symbols) × (first_var b s + i ≤ length b.known)
  predicate_vars s i h none =
      let d = declared_at b s i h in
      let vars = symbol_vars s d.0 d.1 in
      let plain : value_count b.domains d.0.value ≡ 1 =
      one d.0.value (subst (λ o. IsNone (option_and_then (λ (t : Symbol). t.value) o)) d.1 none) in
      let size = ap length (tuples-are b s d.0 d.1) in
      let count : atoms_in b.domains d.0 ≡ length (tuples_of b.domains d.0.args) =
      ap (λ n. length (tuples_of b.domains d.0.args) * n) plain ∙ mul-one (length (tuples_of b.domains d.0.args)) in
      (slice_inside b.vocabulary.symbols s d.0 d.1, omega (arith, vars, size, count, h))
    where
      one : (o : Option ℕ) → IsNone o → value_count b.domains o ≡ 1
      one None n = refl
      one (Some ty) n = cc

  -- a function has one for each tuple and each of its values
  pub function_vars : (s i ty : ℕ) → i < length (tuples_at b s) → value_type_of b.vocabulary s ≡ Some ty
      → (s < length b.vocabulary.symbols)
      × (first_var b s + i * length (values_at b s) + length (values_at b s) ≤ 1 + length b.known)
  function_vars s i ty h value =
      let d = declared_at b s i h in
      let vars = symbol_vars s d.0 d.1 in
      let type : d.0.value ≡ Some ty =
      sym (ap (option_and_then (λ (t : Symbol). t.value)) d.1) ∙ value in
      let n = length (values_at b s) in
      let values : length (domain_at b.domains ty) ≡ n = sym (ap length (values-are b s d.0 d.1 ty type)) in
      let size = ap length (tuples-are b s d.0 d.1) in
      let count : atoms_in b.domains d.0 ≡ length (tuples_of b.domains d.0.args) * n =
      ap (λ o. length (tuples_of b.domains d.0.args) * value_count b.domains o) type
      ∙ ap (λ m. length (tuples_of b.domains d.0.args) * m) values in
      let below : suc i ≤ length (tuples_of b.domains d.0.args) = omega (arith, h, size) in
      let rows : suc i * n ≤ length (tuples_of b.domains d.0.args) * n =
      mul-le (suc i) n (length (tuples_of b.domains d.0.args)) n below (omega arith) in
      let ring : suc i * n ≡ i * n + n = omega arith in
      (slice_inside b.vocabulary.symbols s d.0 d.1, omega (arith, vars, count, rows, ring))

-- an index that stops at the greatest number
pub option_capped : (o : Option ℕ) (p : ℕ) → Some p ≡ option_map capped o
    → (i : ℕ) × (o ≡ Some i) × (p ≡ capped i)
option_capped None p h = cc
option_capped (Some i) p h = (i, refl, cc)

-- the variable of a predicate's atom, by the index of its arguments
pub variable_here : (b : GroundBase) (s place first : ℕ) (vs : List Denotation)
    → length b.known ≡ sum_by (atoms_in b.domains) b.vocabulary.symbols → length b.known < 9223372036854775808
    → IsNone (value_type_of b.vocabulary s) → Some place ≡ option_map capped (row_index (tuples_at b s) vs)
    → (s < length b.vocabulary.symbols)
    × (first_var b s + place < 18446744073709551616)
    × (Some (first_var b s + place) ≡ option_map (λ i. first_var b s + i) (row_index (tuples_at b s) vs))
variable_here b s place first vs known few none h =
    let r = option_capped (row_index (tuples_at b s) vs) place h in
    let below = place-below (tuples_at b s) vs r.0 r.1 in
    let v = predicate_vars b known s r.0 below none in
    let var = v.1 in
    let cap = r.2 in
    let same : place ≡ r.0 = omega (arith, var, few, cap) in (
      v.0,
      omega (arith, var, few, same),
      ap (λ i. Some (first_var b s + i)) same ∙ sym (ap (option_map (λ i. first_var b s + i)) r.1),
    )

-- what has values is a function
valued : (b : GroundBase) (s : ℕ) → 0 < length (values_at b s) → (ty : ℕ) × (value_type_of b.vocabulary s ≡ Some ty)
valued b s h = by (value_type_of b.vocabulary s) refl
  where
    by : (o : Option ℕ) → value_type_of b.vocabulary s ≡ o → (ty : ℕ) × (value_type_of b.vocabulary s ≡ Some ty)
    by (Some ty) e = (ty, e)
    by None e =
        let none = ap length (ap (domain_if b.domains) e) in
        absurd (omega (arith, h, none))

-- the variable of a function's first value, by the index of its arguments
pub value_variable_here : (b : GroundBase) (s place count : ℕ) (vs : List Denotation)
    → length b.known ≡ sum_by (atoms_in b.domains) b.vocabulary.symbols → length b.known < 9223372036854775808
    → 0 < length (values_at b s) → count ≡ length (values_at b s)
    → Some place ≡ option_map capped (row_index (tuples_at b s) vs)
    → (s < length b.vocabulary.symbols)
    × (first_var b s + place * count + count ≤ 9223372036854775808)
    × (Some (first_var b s + place * count) ≡ option_map (λ i. first_var b s + i * length (values_at b s))
    (row_index (tuples_at b s) vs))
value_variable_here b s place count vs known few some size h =
    let n = length (values_at b s) in
    let r = option_capped (row_index (tuples_at b s) vs) place h in
    let i = r.0 in
    let below = place-below (tuples_at b s) vs i r.1 in
    let type = valued b s some in
    let v = function_vars b known s i type.0 below type.1 in
    let vars = v.1 in
    let one : i * 1 ≤ i * n = mul-le-mul_left i (omega (arith, some)) in
    let unit : i * 1 ≡ i = mul-one i in
    let cap = r.2 in
    let same : place ≡ i = omega (arith, vars, few, one, unit, cap) in
    let product : place * count ≡ i * n = ap (λ p. p * count) same ∙ ap (λ m. i * m) size in (
      v.0,
      omega (arith, vars, few, product, size),
      ap (λ m. Some (first_var b s + m)) product ∙ sym (ap (option_map (λ j. first_var b s + j * n)) r.1),
    )
