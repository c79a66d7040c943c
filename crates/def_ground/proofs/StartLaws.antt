-- The problem before any sentence: its valuations are those of the structures that extend the data.
use Rattle.std.proofs.Common.{◌≡◌, ℕ, zero, suc, ◌+◌, ◌*◌, ◌<◌, ◌≤◌, pos, neg_ℤ, Bool, true, false, ◌||◌, List, [], ◌∷◌}
use Rattle.std.proofs.Common.{map, if◌then◌else◌}
use Rattle.std.proofs.Common.{length, All, IsSome, IsNone}
use Rattle.std.proofs.Common.{Option, Some, None, unwrap_or, slice_get, get_or, refl, sym, ap, subst, ◌∙◌, arith, inl}
use Rattle.std.proofs.Common.{inr}
use Rattle.std.specs.Option.{option_and_then}
use Rattle.std.specs.List.{flat_map, enumerate_from}
use Rattle.std.proofs.lemmas.List.{length-map, length-append}
use Rattle.std.proofs.lemmas.List.Elements.{All-append, All-cons, All-nil, All-map}
use Rattle.std.proofs.lemmas.Option.{slice_get_within, slice_get-get_or}
use Rattle.kb_logic.specs.declared.elements.Elem.{Elem}
use Rattle.kb_logic.specs.declared.vocabularies.Symbol.{Symbol}
use Rattle.kb_logic.specs.Structures.{domain_at, tuples_of, functions_of}
use Rattle.kb_logic.specs.Models.{GroundAtom}
use Rattle.kb_logic.specs.KnownAtoms.{atoms_with, atoms_over}
use Rattle.kb_logic.specs.Bounds.{domain_if, value_type_of}
use Rattle.kb_logic.proofs.Has.{Has, has_right, has_enumerated, enumerated_has}
use Rattle.kb_logic.proofs.Tables.{function_has}
use Rattle.lit_core.specs.declared.literals.Lit.{Lit}
use Rattle.lit_core.specs.Literals.{negated, by_sign, literal_value}
use Rattle.lit_core.specs.Truth.{IsSatisfied}
use Rattle.ground_core.specs.declared.parts.Part.{Part}
use Rattle.ground_core.specs.Atoms.{atom_of, atoms_at, atoms_of_symbol, ground_atoms}
use Rattle.ground_core.specs.Problems.{IsProblem, IsLitOf, AreLitsOf, IsGateOf, IsSumOf, IsTermOf, IsBoundOf}
use Rattle.ground_core.specs.Meaning.{Satisfies, GateHolds, SumHolds, BoundHolds}
use Rattle.ground_core.proofs.Fronts.{All-front, All-back}
use Rattle.ground_core.proofs.Clauses.{clause-true, clause-holds}
use Rattle.term_values.specs.GroundBases.{GroundBase, known_of, tuples_at, values_at, first_var, HasKnown, IsOver}
use Rattle.term_values.specs.KnownBases.{IsGroundBase}
use Rattle.term_values.specs.Rows.{positive_lit}
use Rattle.term_values.proofs.Places.{plain-atom, valued-atom, predicate-variable, function-variable}
use Rattle.term_values.proofs.StructureAtoms.{tuples-are, values-are}
use Rattle.term_values.proofs.StructureLaws.{declared-function, function-of, is-function, only-atoms-matter}
use Rattle.def_ground.specs.Problems.{fact_of, pairs_with, pair_clauses, first_pairs, are_many, counting}
use Rattle.def_ground.specs.Problems.{at_most_one_beside, first_sum, one_of_clauses, one_of_sums, with_open}
use Rattle.def_ground.specs.Problems.{open_variables, said_tuples, tuple_says, function_says, functions_say}
use Rattle.def_ground.specs.Problems.{fact_clauses, start_problem}
use Rattle.def_ground.specs.Laws.{OneOfHolds}
use Rattle.def_ground.specs.Meanings.{HasAtoms, HasRoom}
use Rattle.def_ground.proofs.SentenceLaws.{one-each}

-- both lists of the ground atoms have one length
same-lengths : {X A B : Type 0} (f : X → List A) (g : X → List B) → ((x : X) → length (f x) ≡ length (g x))
    → (xs : List X) → length (flat_map f xs) ≡ length (flat_map g xs)
same-lengths f g same [] = refl
same-lengths f g same (x ∷ xs) =
    let here = same x in
    let rest = same-lengths f g same xs in
    let left = length-append (f x) (flat_map f xs) in
    let right = length-append (g x) (flat_map g xs) in
    omega (arith, here, rest, left, right)

plain-lengths : (domains : List (List Elem)) (n : ℕ) (ts : List (List Elem))
    → length (flat_map (atoms_at domains n None) ts) ≡ length (atoms_with domains n ts None)
plain-lengths domains n [] = refl
plain-lengths domains n (t ∷ ts) = ap suc (plain-lengths domains n ts)

symbol-lengths : (domains : List (List Elem)) (n : ℕ) (ts : List (List Elem)) (value : Option ℕ)
    → length (flat_map (atoms_at domains n value) ts) ≡ length (atoms_with domains n ts value)
symbol-lengths domains n ts None = plain-lengths domains n ts
symbol-lengths domains n ts (Some ty) =
    same-lengths (atoms_at domains n (Some ty)) (λ t. map (valued-atom n t) (domain_at domains ty))
    (λ t. length-map (domain_at domains ty) (λ x. atom_of n t (Some x))
    ∙ sym (length-map (domain_at domains ty) (valued-atom n t))) ts

pub atoms-length : (symbols : List Symbol) (domains : List (List Elem))
    → length (ground_atoms symbols domains) ≡ length (atoms_over symbols domains)
atoms-length symbols domains =
    same-lengths (λ s. atoms_of_symbol domains s.0 s.1)
    (λ s. atoms_with domains s.0 (tuples_of domains s.1.args) s.1.value)
    (λ s. symbol-lengths domains s.0 (tuples_of domains s.1.args) s.1.value) (enumerate_from 0 symbols)

-- what holds of all items of joined lists
all-parts : {X Y : Type 0} (P : Y → Type 0) (f : X → List Y) (xs : List X) → ((x : X) → Has xs x → All P (f x))
    → All P (flat_map f xs)
all-parts P f [] h = All-nil P
all-parts P f (x ∷ xs) h = All-append P (f x) (flat_map f xs) (h x (inl refl)) (all-parts P f xs (λ y m. h y (inr m)))

part-all : {X Y : Type 0} (P : Y → Type 0) (f : X → List Y) (xs : List X) (x : X) → All P (flat_map f xs) → Has xs x
    → All P (f x)
part-all P f [] x h m = absurd m
part-all P f (y ∷ xs) x h (inl e) = subst (λ z. All P (f z)) e (All-front P (f y) (flat_map f xs) h)
part-all P f (y ∷ xs) x h (inr m) = part-all P f xs x (All-back P (f y) (flat_map f xs) h) m

-- the clauses are over the atoms' variables
with-first-in : (n : ℕ) (l : Lit) (ls : List Lit) → IsLitOf n l → AreLitsOf n ls
    → All (AreLitsOf n) (pairs_with l ls)
with-first-in n l ls here rest =
    All-map (AreLitsOf n) (λ m. negated l ∷ negated m ∷ []) ls
    (λ k d lt. All-cons (IsLitOf n) (negated l) (negated (get_or ls k d) ∷ []) here
    (All-cons (IsLitOf n) (negated (get_or ls k d)) [] (rest k d lt) (All-nil (IsLitOf n))))

pairs-in : (n : ℕ) (ls : List Lit) → AreLitsOf n ls → All (AreLitsOf n) (pair_clauses ls)
pairs-in n [] h = All-nil (AreLitsOf n)
pairs-in n (l ∷ ls) h =
    let rest : AreLitsOf n ls = λ k d lt. h (suc k) d (omega (arith, lt)) in
    All-append (AreLitsOf n) (pairs_with l ls) (pair_clauses ls)
    (with-first-in n l ls (h 0 l (omega arith)) rest) (pairs-in n ls rest)

-- so are those with the first one, and the sum
firsts-in : (n : ℕ) (ls : List Lit) → AreLitsOf n ls → All (AreLitsOf n) (first_pairs ls)
firsts-in n [] h = All-nil (AreLitsOf n)
firsts-in n (l ∷ ls) h = with-first-in n l ls (h 0 l (omega arith)) (λ k d lt. h (suc k) d (omega (arith, lt)))

one-of-in : (k n : ℕ) (ls : List Lit) → AreLitsOf n ls → All (AreLitsOf n) (one_of_clauses k ls)
one-of-in k n ls h = by (are_many k ls)
  where
    by : (t : Bool) → All (AreLitsOf n) (ls ∷ (if t then first_pairs ls else pair_clauses ls))
    by true = All-cons (AreLitsOf n) ls (first_pairs ls) h (firsts-in n ls h)
    by false = All-cons (AreLitsOf n) ls (pair_clauses ls) h (pairs-in n ls h)

sum-in : (n : ℕ) (ls : List Lit) → AreLitsOf n ls → All (IsSumOf n) (first_sum ls)
sum-in n [] h = All-nil (IsSumOf n)
sum-in n (l ∷ ls) h =
    let first = h 0 l (omega arith) in
    All-cons (IsSumOf n) (at_most_one_beside l ls) [] (
      first,
      All-cons (λ (p : Part). IsLitOf n p.lit) (counting (neg_ℤ (pos 2)) l) (map (counting (neg_ℤ (pos 1))) ls)
          first (All-map (λ (p : Part). IsLitOf n p.lit) (counting (neg_ℤ (pos 1))) ls
          (λ k d lt. h (suc k) d (omega (arith, lt)))),
    ) (All-nil (IsSumOf n))

sums-in : (k n : ℕ) (ls : List Lit) → AreLitsOf n ls → All (IsSumOf n) (one_of_sums k ls)
sums-in k n ls h = by (are_many k ls)
  where
    by : (t : Bool) → All (IsSumOf n) (if t then first_sum ls else [])
    by true = sum-in n ls h
    by false = All-nil (IsSumOf n)

open-in : (n k : ℕ) (o : Option Bool) (ls : List Lit) → 1 ≤ k → k ≤ n → AreLitsOf n ls → AreLitsOf n (with_open o k ls)
open-in n k None ls low high h = All-cons (IsLitOf n) (positive_lit k) ls (low, high) h
open-in n k (Some true) ls low high h = All-cons (IsLitOf n) (positive_lit k) ls (low, high) h
open-in n k (Some false) ls low high h = h

pub variables-in : (b : GroundBase) (n k : ℕ) (xs : List Elem) → 1 ≤ k → ((j : ℕ) → j < length xs → k + j ≤ n)
    → AreLitsOf n (open_variables b k xs)
variables-in b n k [] low high = All-nil (IsLitOf n)
variables-in b n k (x ∷ xs) low high =
    open-in n k (known_of b k) (open_variables b (k + 1) xs) low (let z = high 0 (omega arith) in omega (arith, z))
    (variables-in b n (k + 1) xs (omega (arith, low))
    (λ j below. let z = high (1 + j) (omega (arith, below)) in omega (arith, z)))

facts-in : (m n : ℕ) (os : List (Option Bool)) → 1 ≤ n → n + length os ≤ m + 1 → All (AreLitsOf m) (fact_clauses n os)
facts-in m n [] low high = All-nil (AreLitsOf m)
facts-in m n (None ∷ os) low high = facts-in m (n + 1) os (omega (arith, low)) (omega (arith, high))
facts-in m n (Some c ∷ os) low high =
    let l : Lit = record { var = record { 0 = n }; positive = c } in
    All-cons (AreLitsOf m) (l ∷ []) (fact_clauses (n + 1) os)
    (All-cons (IsLitOf m) l [] (low, omega (arith, high)) (All-nil (IsLitOf m)))
    (facts-in m (n + 1) os (omega (arith, low)) (omega (arith, high)))

-- the clauses of the tuples at which they are said
pub said-fewer : (xs : List Elem) (ts : List (List Elem)) → length (said_tuples xs ts) ≤ length ts
said-fewer [] [] = omega arith
said-fewer [] (t ∷ ts) = omega arith
said-fewer (x ∷ xs) ts = omega arith

said-all : {Y : Type 0} (say : List Lit → List Y) (b : GroundBase) (P : Y → Type 0) (n : ℕ) (xs : List Elem)
    (ts : List (List Elem)) (i : ℕ) → i < length ts
    → All P (flat_map (λ (q : ℕ × List Elem). say (open_variables b (n + q.0 * length xs) xs))
    (enumerate_from 0 (said_tuples xs ts)))
    → All P (say (open_variables b (n + i * length xs) xs))
said-all say b P n [] [] i h all = absurd (omega (arith, h))
said-all say b P n [] (t ∷ ts) i h all = All-front P (say []) [] all
said-all say b P n (x ∷ xs) ts i h all =
    let r = get_or ts i [] in
    let numbered = has_enumerated 0 i ts r (slice_get-get_or ts i [] h) in
    let index : 0 + i ≡ i = omega arith in
    part-all P (λ (q : ℕ × List Elem). say (open_variables b (n + q.0 * length (x ∷ xs)) (x ∷ xs)))
    (enumerate_from 0 ts) (i, r) all (subst (λ m. Has (enumerate_from 0 ts) (m, r)) index numbered)

-- facts
unit-true : (c x : Bool) → (by_sign c x || false) ≡ true → x ≡ c
unit-true true true h = refl
unit-true true false h = cc
unit-true false true h = cc
unit-true false false h = refl

true-unit : (c x : Bool) → x ≡ c → (by_sign c x || false) ≡ true
true-unit true x h = ap (λ y. y || false) h
true-unit false true h = cc
true-unit false false h = refl

facts-known : (v : ℕ → Bool) (n : ℕ) (os : List (Option Bool)) → All (IsSatisfied v) (fact_clauses n os)
    → (j : ℕ) (x : Bool) → slice_get os j ≡ Some (Some x) → v (n + j) ≡ x
facts-known v n [] h j x at = cc
facts-known v n (None ∷ os) h zero x at = cc
facts-known v n (None ∷ os) h (suc j) x at =
    let shift : n + suc j ≡ (n + 1) + j = omega arith in
    ap v shift ∙ facts-known v (n + 1) os h j x at
facts-known v n (Some c ∷ os) h zero x at =
    let l : Lit = record { var = record { 0 = n }; positive = c } in
    let number : n + 0 ≡ n = omega arith in
    let is : c ≡ x = cc in
    ap v number ∙ unit-true c (v n) (clause-true v (l ∷ []) (h 0 (l ∷ []) (omega arith))) ∙ is
facts-known v n (Some c ∷ os) h (suc j) x at =
    let shift : n + suc j ≡ (n + 1) + j = omega arith in
    ap v shift ∙ facts-known v (n + 1) os (λ k d lt. h (suc k) d (omega (arith, lt))) j x at

known-facts : (v : ℕ → Bool) (n : ℕ) (os : List (Option Bool))
    → ((j : ℕ) (x : Bool) → slice_get os j ≡ Some (Some x) → v (n + j) ≡ x) → All (IsSatisfied v) (fact_clauses n os)
known-facts v n [] h = All-nil (IsSatisfied v)
known-facts v n (None ∷ os) h =
    known-facts v (n + 1) os (λ j x at. let shift : (n + 1) + j ≡ n + suc j = omega arith in ap v shift
    ∙ h (suc j) x at)
known-facts v n (Some c ∷ os) h =
    let l : Lit = record { var = record { 0 = n }; positive = c } in
    let number : n ≡ n + 0 = omega arith in
    All-cons (IsSatisfied v) (l ∷ []) (fact_clauses (n + 1) os)
    (clause-holds v (l ∷ []) (true-unit c (v n) (ap v number ∙ h 0 c refl)))
    (known-facts v (n + 1) os (λ j x at. let shift : (n + 1) + j ≡ n + suc j = omega arith in ap v shift
    ∙ h (suc j) x at))

fact-there : (n : ℕ) (os : List (Option Bool)) (j : ℕ) (x : Bool) → slice_get os j ≡ Some (Some x)
    → Has (fact_clauses n os) (fact_of (n + j) x ∷ [])
fact-there n [] j x at = cc
fact-there n (None ∷ os) zero x at = cc
fact-there n (None ∷ os) (suc j) x at =
    let shift : (n + 1) + j ≡ n + suc j = omega arith in
    subst (λ k. Has (fact_clauses (n + 1) os) (fact_of k x ∷ [])) shift (fact-there (n + 1) os j x at)
fact-there n (Some c ∷ os) zero x at =
    let number : n ≡ n + 0 = omega arith in
    let is : c ≡ x = cc in
    inl (ap (λ k. fact_of k c ∷ []) number ∙ ap (λ y. fact_of (n + 0) y ∷ []) is)
fact-there n (Some c ∷ os) (suc j) x at =
    let shift : (n + 1) + j ≡ n + suc j = omega arith in
    inr (subst (λ k. Has (fact_clauses (n + 1) os) (fact_of k x ∷ [])) shift (fact-there (n + 1) os j x at))

pub unwrapped : (o : Option (Option Bool)) (x : Bool) → unwrap_or o None ≡ Some x → o ≡ Some (Some x)
unwrapped None x h = cc
unwrapped (Some o) x h = ap Some h

no-value : (o : Option ℕ) → IsNone o → o ≡ None
no-value None h = refl
no-value (Some ty) h = cc

module _ (b : GroundBase) (is : IsGroundBase b) where
  inside : (n k : ℕ) (a : GroundAtom) → n ≡ suc k → slice_get (atoms_over b.vocabulary.symbols b.domains) k ≡ Some a
      → n ≤ length (ground_atoms b.vocabulary.symbols b.domains)
  inside n k a e at =
      let below = slice_get_within (atoms_over b.vocabulary.symbols b.domains) k a at in
      let all = atoms-length b.vocabulary.symbols b.domains in
      omega (arith, e, below, all)

  function-in : (s i j : ℕ) (d : Symbol) (ty : ℕ) → slice_get b.vocabulary.symbols s ≡ Some d → d.value ≡ Some ty
      → i < length (tuples_at b s) → j < length (values_at b s)
      → first_var b s + i * length (values_at b s) + j ≤ length (ground_atoms b.vocabulary.symbols b.domains)
  function-in s i j d ty at value below under =
      let tuples = tuples-are b s d at in
      let of-type = values-are b s d at ty value in
      let rs = tuples_of b.domains d.args in
      let xs = domain_at b.domains ty in
      let r = get_or rs i [] in
      let low : i < length rs = subst (λ ts. i < length ts) tuples below in
      let high : j < length xs = subst (λ ys. j < length ys) of-type under in
      let x = some-elem xs j high in
      let n = function-variable b s i j ty d r (get_or xs j x) at value (slice_get-get_or rs i [] low)
      (slice_get-get_or xs j x high) in
      subst (λ ys. first_var b s + i * length ys + j ≤ length (ground_atoms b.vocabulary.symbols b.domains))
      (sym of-type) (inside (first_var b s + i * length xs + j) n.0 (valued-atom s r (get_or xs j x)) n.1 n.2)
    where
      some-elem : (xs : List Elem) (j : ℕ) → j < length xs → Elem
      some-elem [] j h = absurd (omega (arith, h))
      some-elem (x ∷ xs) j h = x

  tuple-in : {Y : Type 0} (say : List Lit → List Y) (P : Y → Type 0)
      → ((ls : List Lit) → AreLitsOf (length (ground_atoms b.vocabulary.symbols b.domains)) ls → All P (say ls))
      → (s i : ℕ) (d : Symbol) (ty : ℕ) → slice_get b.vocabulary.symbols s ≡ Some d → d.value ≡ Some ty
      → i < length (tuples_at b s) → All P (tuple_says say b s i)
  tuple-in say P within s i d ty at value below =
      let m = length (ground_atoms b.vocabulary.symbols b.domains) in
      let n = first_var b s + i * length (values_at b s) in
      within (open_variables b n (values_at b s)) (variables-in b m n (values_at b s) (omega arith)
      (λ j under. function-in s i j d ty at value below under))

  -- what is said of each list of open variables
  each-said : {Y : Type 0} (say : List Lit → List Y) (P : Y → Type 0)
      → ((s i : ℕ) (d : Symbol) (ty : ℕ) → slice_get b.vocabulary.symbols s ≡ Some d → d.value ≡ Some ty
      → i < length (tuples_at b s) → All P (tuple_says say b s i))
      → All P (functions_say say b)
  each-said say P each =
      all-parts P (λ (s : ℕ × Symbol). function_says say b s.0) (functions_of b.vocabulary)
      (λ s in-s.
      let p = function-of b s in-s in
      let said = said_tuples (values_at b s.0) (tuples_at b s.0) in
      all-parts P (λ (r : ℕ × List Elem). tuple_says say b s.0 r.0) (enumerate_from 0 said)
      (λ r in-r.
      let q = enumerated_has 0 said r.0 r.1 in-r in
      let index = q.1 in
      let within = slice_get_within said q.0 r.1 q.2 in
      let fewer = said-fewer (values_at b s.0) (tuples_at b s.0) in
      let below : q.0 < length (tuples_at b s.0) = omega (arith, within, fewer) in
      each s.0 r.0 s.1 p.1.0 p.0 p.1.1 (omega (arith, index, below))))

  pub start-fine : length b.known ≤ length (ground_atoms b.vocabulary.symbols b.domains) → IsProblem (start_problem b)
  start-fine known =
      let m = length (ground_atoms b.vocabulary.symbols b.domains) in
      record {
        atoms = omega arith;
        gates = All-nil (IsGateOf m);
        clauses =
            All-append (AreLitsOf m) (functions_say (one_of_clauses (length b.known)) b) (fact_clauses 1 b.known)
            (each-said (one_of_clauses (length b.known)) (AreLitsOf m) (tuple-in (one_of_clauses (length b.known)) (AreLitsOf m) (one-of-in (length b.known) m)))
            (facts-in m 1 b.known (omega arith) (omega (arith, known)));
        sums = each-said (one_of_sums (length b.known)) (IsSumOf m) (tuple-in (one_of_sums (length b.known)) (IsSumOf m) (sums-in (length b.known) m));
        terms = All-nil (IsTermOf m);
        bounds = All-nil (IsBoundOf m []);
        retired = All-nil (IsLitOf m);
      }

  no-tuples : (s i : ℕ) → slice_get b.vocabulary.symbols s ≡ None → i < length (tuples_at b s) → ⊥
  no-tuples s i at below =
      let none : tuples_at b s ≡ [] = ap
      (λ (o : Option Symbol). elim o [ None ↦ [] | Some c ↦ tuples_of b.domains c.args ]) at in
      let low : i < length (no-rows) = subst (λ (ts : List (List Elem)). i < length ts) none below in
      absurd (omega (arith, low))
    where
      no-rows : List (List Elem)
      no-rows = []

  predicate-in : (s i : ℕ) (o : Option Symbol) → slice_get b.vocabulary.symbols s ≡ o
      → IsNone (value_type_of b.vocabulary s) → i < length (tuples_at b s)
      → first_var b s + i ≤ length (ground_atoms b.vocabulary.symbols b.domains)
  predicate-in s i None at none below = absurd (no-tuples s i at below)
  predicate-in s i (Some d) at none below =
      let rs = tuples_of b.domains d.args in
      let low : i < length rs = subst (λ ts. i < length ts) (tuples-are b s d at) below in
      let plain = no-value d.value (subst
      (λ (o : Option Symbol). IsNone (option_and_then (λ (t : Symbol). t.value) o)) at none) in
      let n = predicate-variable b s i d (get_or rs i []) at plain (slice_get-get_or rs i [] low) in
      inside (first_var b s + i) n.0 (plain-atom s (get_or rs i [])) n.1 n.2

  typed-in : (s i j : ℕ) (d : Symbol) (o : Option ℕ) → slice_get b.vocabulary.symbols s ≡ Some d → d.value ≡ o
      → i < length (tuples_at b s) → j < length (values_at b s)
      → first_var b s + i * length (values_at b s) + j ≤ length (ground_atoms b.vocabulary.symbols b.domains)
  typed-in s i j d None at value below under =
      let none : values_at b s ≡ [] = ap
      (λ (o : Option Symbol). domain_if b.domains (option_and_then (λ (t : Symbol). t.value) o)) at
      ∙ ap (domain_if b.domains) value in
      let low : j < length (no-elems) = subst (λ (xs : List Elem). j < length xs) none under in
      absurd (omega (arith, low))
    where
      no-elems : List Elem
      no-elems = []
  typed-in s i j d (Some ty) at value below under = function-in s i j d ty at value below under

  value-in : (s i j : ℕ) (o : Option Symbol) → slice_get b.vocabulary.symbols s ≡ o → i < length (tuples_at b s)
      → j < length (values_at b s)
      → first_var b s + i * length (values_at b s) + j ≤ length (ground_atoms b.vocabulary.symbols b.domains)
  value-in s i j None at below under = absurd (no-tuples s i at below)
  value-in s i j (Some d) at below under = typed-in s i j d d.value at refl below under

  pub start-room : HasRoom b (start_problem b)
  start-room = record {
    same =
        λ v w agree. only-atoms-matter b is v w
        (λ k low high. let all = atoms-length b.vocabulary.symbols b.domains in agree k low (omega (arith, high, all)));
    predicates = λ s i none below. predicate-in s i (slice_get b.vocabulary.symbols s) refl none below;
    functions = λ s i j below under. value-in s i j (slice_get b.vocabulary.symbols s) refl below under;
  }

  -- what the clauses say
  tuple-true : {Y : Type 0} (say : List Lit → List Y) (P : Y → Type 0) (s i : ℕ) → All P (functions_say say b)
      → i < length (tuples_at b s) → IsSome (value_type_of b.vocabulary s) → All P (tuple_says say b s i)
  tuple-true say P s i h below some =
      let p = declared-function (slice_get b.vocabulary.symbols s) some in
      said-all say b P (first_var b s) (values_at b s) (tuples_at b s) i below
      (part-all P (λ (q : ℕ × Symbol). function_says say b q.0) (functions_of b.vocabulary) (s, p.0) h
      (function_has b.vocabulary s p.0 p.1 p.2 p.3))

  known-at : (v : ℕ → Bool) → All (IsSatisfied v) (fact_clauses 1 b.known) → HasKnown b v
  known-at v facts zero x h = cc
  known-at v facts (suc n) x h =
      let number : suc n ≡ 1 + n = omega arith in
      ap v number ∙ facts-known v 1 b.known facts n x (unwrapped (slice_get b.known n) x h)

  pub start-atoms : HasAtoms b (start_problem b)
  start-atoms v s =
      let functions = All-front (IsSatisfied v) (functions_say (one_of_clauses (length b.known)) b) (fact_clauses 1 b.known) s.clauses in
      let facts = All-back (IsSatisfied v) (functions_say (one_of_clauses (length b.known)) b) (fact_clauses 1 b.known) s.clauses in
      let known : HasKnown b v = known-at v facts in
      record {
        one =
            λ f i below some. (one-each b v (length b.known) (first_var b f + i * length (values_at b f)) (values_at b f) known).0
            (record {
              clauses = tuple-true (one_of_clauses (length b.known)) (IsSatisfied v) f i functions below some;
              sums = tuple-true (one_of_sums (length b.known)) (SumHolds v) f i s.sums below some;
            });
        known = known;
      }

  -- each function has one value at each tuple
  tuple-holds : (v : ℕ → Bool) → IsOver b v → (s i : ℕ) (d : Symbol) (ty : ℕ)
      → slice_get b.vocabulary.symbols s ≡ Some d → d.value ≡ Some ty → i < length (tuples_at b s)
      → OneOfHolds (length b.known) v (open_variables b (first_var b s + i * length (values_at b s)) (values_at b s))
  tuple-holds v over s i d ty at value below =
      let x = over.one s i below (is-function b s d ty at value) in
      (one-each b v (length b.known) (first_var b s + i * length (values_at b s)) (values_at b s) over.known).1 x.0 x.1

  pub start-satisfied : (v : ℕ → Bool) → IsOver b v → Satisfies (start_problem b) v
  start-satisfied v over = record {
    gates = All-nil (GateHolds v);
    clauses = All-append (IsSatisfied v) (functions_say (one_of_clauses (length b.known)) b) (fact_clauses 1 b.known)
        (each-said (one_of_clauses (length b.known)) (IsSatisfied v)
        (λ s i d ty at value below. (tuple-holds v over s i d ty at value below).clauses))
        (known-facts v 1 b.known (λ j x at. let number : 1 + j ≡ suc j = omega arith in ap v number
        ∙ over.known (suc j) x (ap (λ o. unwrap_or o None) at)));
    sums = each-said (one_of_sums (length b.known)) (SumHolds v)
        (λ s i d ty at value below. (tuple-holds v over s i d ty at value below).sums);
    bounds = All-nil (BoundHolds v []);
    retired = All-nil (λ l. literal_value v l ≡ false);
  }

  -- a known atom has a clause of its one literal
  pub fact-in-start : (n : ℕ) (x : Bool) → known_of b n ≡ Some x → Has (start_problem b).clauses (fact_of n x ∷ [])
  fact-in-start zero x h = cc
  fact-in-start (suc n) x h =
      let number : 1 + n ≡ suc n = omega arith in
      has_right (functions_say (one_of_clauses (length b.known)) b) (fact_clauses 1 b.known) (fact_of (suc n) x ∷ [])
      (subst (λ k. Has (fact_clauses 1 b.known) (fact_of k x ∷ [])) number
      (fact-there 1 b.known n x (unwrapped (slice_get b.known n) x h)))
