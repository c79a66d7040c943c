-- A term has no more rows than its applications outside aggregates have values.
use Rattle.std.proofs.Common.{◌≡◌, ℕ, zero, suc, ◌+◌, ◌*◌, ◌<◌, ◌≤◌, List, [], ◌∷◌, ◌++◌, map, flat_map, length, Bool}
use Rattle.std.proofs.Common.{true, false}
use Rattle.std.proofs.Common.{Option, Some, None, slice_get, refl, sym, ap, subst, ◌∙◌, arith, inl, inr}
use Rattle.std.specs.Prelude.{pos, neg_ℤ, ◌+ℤ◌}
use Rattle.std.proofs.lemmas.Int.{ints}
use Rattle.std.specs.List.{Contains, AllByRecursion}
use Rattle.std.proofs.lemmas.List.{length-append}
use Rattle.std.proofs.lemmas.Nat.{mul-le}
use Rattle.kb_logic.specs.declared.elements.Elem.{Elem}
use Rattle.kb_logic.specs.declared.elements.Elem.TheVariants.{Num}
use Rattle.kb_logic.specs.declared.vocabularies.Symbol.{Symbol}
use Rattle.kb_logic.specs.Trees.{TermTree, variable, integer, constructed, application, summation, product, aggregate}
use Rattle.kb_logic.specs.Trees.{TermTrees, no_terms, more_terms, SummandTrees, no_summands, more_summands}
use Rattle.kb_logic.specs.Structures.{domain_at, tuples_of}
use Rattle.kb_logic.specs.Denotations.{number, Denotation, denotation_of}
use Rattle.kb_logic.specs.Meaning.{element_value, number_value, summand_plus, product_from, has_row}
use Rattle.kb_logic.specs.Bounds.{domain_if, HasTypes}
use Rattle.kb_logic.specs.Weights.{application_count, applications_count, summands_count}
use Rattle.kb_logic.proofs.Has.{Has, has_get, contains_from}
use Rattle.kb_logic.proofs.Members.{first}
use Rattle.partial_structures.proofs.Contained.{longer_tuple}
use Rattle.lit_core.specs.declared.literals.Lit.{Lit}
use Rattle.term_values.specs.GroundBases.{GroundBase, known_of, tuples_at, values_at, first_var, row_index}
use Rattle.term_values.specs.Rows.{with_row, value_rows, rows_at, pair_rows, map_rows, rows_of_term, rows_of_terms}
use Rattle.term_values.specs.Rows.{rows_of_sum}
use Rattle.term_values.proofs.ArgumentTypes.{IsOfType, IsTypedTerm, AreTypedTerms, AreTypedSummands, AreArguments}
use Rattle.term_values.proofs.RowFacts.{placed, in-rows}
use Rattle.term_values.proofs.StructureAtoms.{tuples-are}
use Rattle.term_values.proofs.StructureLaws.{each-at}

-- how many rows there are
with-few : (o : Option Bool) (n : ℕ) (g : List Lit) (x : Denotation) (rows : List (List Lit × Denotation))
    → length (with_row o n g x rows) ≤ suc (length rows)
with-few None n g x rows = omega arith
with-few (Some true) n g x rows = omega arith
with-few (Some false) n g x rows = omega arith

values-few : (b : GroundBase) (g : List Lit) (n : ℕ) (xs : List Elem) → length (value_rows b g n xs) ≤ length xs
values-few b g n [] = omega arith
values-few b g n (x ∷ xs) =
    let here = with-few (known_of b n) n g (denotation_of x) (value_rows b g (n + 1) xs) in
    let rest = values-few b g (n + 1) xs in
    omega (arith, here, rest)

map-number : {X Y : Type 0} (f : X → Y) (xs : List (List Lit × X)) → length (map_rows f xs) ≡ length xs
map-number f [] = refl
map-number f (x ∷ xs) = ap suc (map-number f xs)

abbrev row-with : {X Y Z : Type 0} → (X → Y → Z) → List Lit × X → List Lit × Y → List Lit × Z
row-with op x y = (x.0 ++ y.0, op x.1 y.1)

pair-number : {X Y Z : Type 0} (op : X → Y → Z) (x : List Lit × X) (ys : List (List Lit × Y))
    → length (map (row-with op x) ys) ≡ length ys
pair-number op x [] = refl
pair-number op x (y ∷ ys) = ap suc (pair-number op x ys)

pairs-number : {X Y Z : Type 0} (op : X → Y → Z) (xs : List (List Lit × X)) (ys : List (List Lit × Y))
    → length (pair_rows op xs ys) ≡ length xs * length ys
pairs-number op [] ys = omega arith
pairs-number op (x ∷ xs) ys =
    let both = length-append (map (row-with op x) ys) (pair_rows op xs ys) in
    let here = pair-number op x ys in
    let rest = pairs-number op xs ys in
    omega (arith, both, here, rest)

parts-few : {X Y : Type 0} (f : X → List Y) (P : X → Type 0) (n : ℕ) → ((x : X) → P x → length (f x) ≤ n)
    → (xs : List X) → AllByRecursion P xs → length (flat_map f xs) ≤ length xs * n
parts-few f P n few [] h = omega arith
parts-few f P n few (x ∷ xs) h =
    let both = length-append (f x) (flat_map f xs) in
    let here = few x h.0 in
    let rest = parts-few f P n few xs h.1 in
    omega (arith, both, here, rest)

-- what holds of all rows
all-both : {X : Type 0} (P : X → Type 0) (xs ys : List X) → AllByRecursion P xs → AllByRecursion P ys
    → AllByRecursion P (xs ++ ys)
all-both P [] ys h k = k
all-both P (x ∷ xs) ys h k = (h.0, all-both P xs ys h.1 k)

pub all-flat : {X Y : Type 0} (P : X → Type 0) (Q : Y → Type 0) (f : X → List Y) → ((x : X) → P x → AllByRecursion Q (f x))
    → (xs : List X) → AllByRecursion P xs → AllByRecursion Q (flat_map f xs)
all-flat P Q f each [] h = tt
all-flat P Q f each (x ∷ xs) h = all-both Q (f x) (flat_map f xs) (each x h.0) (all-flat P Q f each xs h.1)

pub all-mapped : {X Y : Type 0} (P : X → Type 0) (Q : Y → Type 0) (f : X → Y) → ((x : X) → P x → Q (f x)) → (xs : List X)
    → AllByRecursion P xs → AllByRecursion Q (map f xs)
all-mapped P Q f each [] h = tt
all-mapped P Q f each (x ∷ xs) h = (each x h.0, all-mapped P Q f each xs h.1)

-- the row's value is an element of the type
abbrev pub IsIn : List (List Elem) → ℕ → List Lit × Denotation → Type 0
IsIn domains ty r = (x : Elem) × Contains (domain_at domains ty) x × (r.1 ≡ denotation_of x)

-- its values are a tuple over the types
abbrev AreIn : List (List Elem) → List ℕ → List Lit × List Denotation → Type 0
AreIn domains types r = (row : List Elem) × Contains (tuples_of domains types) row × (r.1 ≡ map denotation_of row)

with-in : (domains : List (List Elem)) (ty : ℕ) (o : Option Bool) (n : ℕ) (g : List Lit) (x : Elem)
    (rows : List (List Lit × Denotation)) → Contains (domain_at domains ty) x
    → AllByRecursion (IsIn domains ty) rows → AllByRecursion (IsIn domains ty) (with_row o n g (denotation_of x) rows)
with-in domains ty None n g x rows h k = ((x, h, refl), k)
with-in domains ty (Some true) n g x rows h k = ((x, h, refl), k)
with-in domains ty (Some false) n g x rows h k = k

values-in : (b : GroundBase) (ty : ℕ) (g : List Lit) (n : ℕ) (xs : List Elem)
    → ((x : Elem) → Has xs x → Contains (domain_at b.domains ty) x)
    → AllByRecursion (IsIn b.domains ty) (value_rows b g n xs)
values-in b ty g n [] h = tt
values-in b ty g n (x ∷ xs) h =
    with-in b.domains ty (known_of b n) n g x (value_rows b g (n + 1) xs) (h x (inl refl))
    (values-in b ty g (n + 1) xs (λ y m. h y (inr m)))

item-at : (xs : List Elem) (n : ℕ) → n < length xs → (x : Elem) × (slice_get xs n ≡ Some x)
item-at [] n h = absurd (omega (arith, h))
item-at (x ∷ xs) zero h = (x, refl)
item-at (x ∷ xs) (suc n) h = item-at xs n (omega (arith, h))

-- a tuple over the argument types has an index
module _ (b : GroundBase) (s : ℕ) (d : Symbol) (at : slice_get b.vocabulary.symbols s ≡ Some d) where
  index-of-row : (r : List Lit × List Denotation) → AreIn b.domains d.args r
      → (i : ℕ) × (row_index (tuples_at b s) r.1 ≡ Some i)
  index-of-row r h =
      let there : Contains (tuples_at b s) h.0 = subst (λ ts. Contains ts h.0) (sym (tuples-are b s d at)) h.1 in
      let found : has_row (tuples_at b s) r.1 ≡ true = ap (has_row (tuples_at b s)) h.2
      ∙ in-rows (tuples_at b s) h.0 there in
      let p = placed (tuples_at b s) r.1 found in
      (p.0, p.2)

  few-at : (r : List Lit × List Denotation) → AreIn b.domains d.args r
      → length (rows_at b s r.0 (row_index (tuples_at b s) r.1)) ≤ length (values_at b s)
  few-at r h =
      let i = index-of-row r h in
      subst (λ o. length (rows_at b s r.0 o) ≤ length (values_at b s)) (sym i.1)
      (values-few b r.0 (first_var b s + i.0 * length (values_at b s)) (values_at b s))

  in-at : (ty : ℕ) → ((x : Elem) → Has (values_at b s) x → Contains (domain_at b.domains ty) x)
      → (r : List Lit × List Denotation) → AreIn b.domains d.args r
      → AllByRecursion (IsIn b.domains ty) (rows_at b s r.0 (row_index (tuples_at b s) r.1))
  in-at ty values r h =
      let i = index-of-row r h in
      subst (λ o. AllByRecursion (IsIn b.domains ty) (rows_at b s r.0 o)) (sym i.1)
      (values-in b ty r.0 (first_var b s + i.0 * length (values_at b s)) (values_at b s) values)

module _ (b : GroundBase) (scope : List ℕ) (e : List Elem) (types : HasTypes b.domains scope e) where
  mutual
    -- the values of an argument are of its type
    pub of-type : (ty : ℕ) (t : TermTree) → IsOfType b.vocabulary b.domains scope ty t
        → IsTypedTerm b.vocabulary b.domains scope t → AllByRecursion (IsIn b.domains ty) (rows_of_term b t e)
    of-type ty (variable n) h k =
        let x = each-at (λ (u : ℕ) (y : Elem). Contains (domain_at b.domains u) y) scope e n h.0 types h.1 in
        ((x.0, h.2 x.0 x.2, ap element_value x.1), tt)
    of-type ty (integer z) h k = ((Num z, h, refl), tt)
    of-type ty (constructed u n) h k =
        let x = item-at (domain_at b.domains u) n h.0 in (
          (
            x.0,
            h.1 x.0 (contains_from (domain_at b.domains u) x.0
                (has_get (domain_at b.domains u) n x.0 x.1)),
            ap element_value x.1,
          ),
          tt,
        )
    of-type ty (application s ts) h k =
        let values : (x : Elem) → Has (values_at b s) x → Contains (domain_at b.domains ty) x =
        λ x m. h.2 x (contains_from (domain_at b.domains h.0) x
        (subst (λ xs. Has xs x) (ap (domain_if b.domains) h.1) m)) in
        all-flat (AreIn b.domains k.0.args) (IsIn b.domains ty) (λ r. rows_at b s r.0 (row_index (tuples_at b s) r.1))
        (in-at b s k.0 k.1 ty values) (rows_of_terms b ts e) (of-types k.0.args ts k.2)
    of-type ty (summation ss) h k =
        let same : neg_ℤ h.0 +ℤ pos 0 ≡ neg_ℤ h.0 = omega (arith, ints) in
        subst (λ us. AllByRecursion (IsIn b.domains ty) (rows_of_term b (summation us) e)) (sym h.1)
        ((Num (neg_ℤ h.0), h.2, ap number same), tt)
    of-type ty (product ts) h k = absurd h
    of-type ty (aggregate kind bs f t) h k = absurd h

    of-types : (tys : List ℕ) (ts : TermTrees) → AreArguments b.vocabulary b.domains scope tys ts
        → AllByRecursion (AreIn b.domains tys) (rows_of_terms b ts e)
    of-types [] no_terms h = (([], first [] [], refl), tt)
    of-types [] (more_terms t ts) h = absurd h
    of-types (ty ∷ tys) no_terms h = absurd h
    of-types (ty ∷ tys) (more_terms t ts) h =
        let rest = of-types tys ts h.2 in
        all-flat (IsIn b.domains ty) (AreIn b.domains (ty ∷ tys))
        (λ x. map (λ y. (x.0 ++ y.0, x.1 ∷ y.1)) (rows_of_terms b ts e))
        (λ x is. all-mapped (AreIn b.domains tys) (AreIn b.domains (ty ∷ tys)) (λ y. (x.0 ++ y.0, x.1 ∷ y.1))
        (λ y are. (
          is.0 ∷ are.0,
          longer_tuple b.domains ty tys is.0 are.0 is.1 are.1,
          ap (λ v. v ∷ y.1) is.2
              ∙ ap (λ vs. denotation_of is.0 ∷ vs) are.2,
        )) (rows_of_terms b ts e) rest)
        (rows_of_term b t e) (of-type ty t h.0 h.1)

  mutual
    pub term-few : (t : TermTree) → IsTypedTerm b.vocabulary b.domains scope t
        → length (rows_of_term b t e) ≤ application_count b.vocabulary b.domains t
    term-few (variable n) h = omega arith
    term-few (integer z) h = omega arith
    term-few (constructed u n) h = omega arith
    term-few (application s ts) h =
        let n = length (values_at b s) in
        let parts = parts-few (λ r. rows_at b s r.0 (row_index (tuples_at b s) r.1)) (AreIn b.domains h.0.args) n
        (few-at b s h.0 h.1) (rows_of_terms b ts e) (of-types h.0.args ts h.2) in
        let count = arguments-few h.0.args ts h.2 in
        let product = mul-le (length (rows_of_terms b ts e)) n (applications_count b.vocabulary b.domains ts) n count
        (omega arith) in
        let turned : applications_count b.vocabulary b.domains ts * n
        ≡ n * applications_count b.vocabulary b.domains ts = omega arith in
        omega (arith, parts, product, turned)
    term-few (summation ss) h =
        let size = map-number number_value (rows_of_sum b ss e) in let few = sum-few ss h in omega (arith, size, few)
    term-few (product ts) h =
        let size = map-number (λ vs. number_value (product_from (pos 1) vs)) (rows_of_terms b ts e) in
        let few = terms-few ts h in omega (arith, size, few)
    term-few (aggregate kind bs f t) h = omega arith

    pub terms-few : (ts : TermTrees) → AreTypedTerms b.vocabulary b.domains scope ts
        → length (rows_of_terms b ts e) ≤ applications_count b.vocabulary b.domains ts
    terms-few no_terms h = omega arith
    terms-few (more_terms t ts) h =
        let size = pairs-number (λ x xs. x ∷ xs) (rows_of_term b t e) (rows_of_terms b ts e) in
        let product = mul-le (length (rows_of_term b t e)) (length (rows_of_terms b ts e))
        (application_count b.vocabulary b.domains t) (applications_count b.vocabulary b.domains ts) (term-few t h.0)
        (terms-few ts h.1) in
        omega (arith, size, product)

    arguments-few : (tys : List ℕ) (ts : TermTrees) → AreArguments b.vocabulary b.domains scope tys ts
        → length (rows_of_terms b ts e) ≤ applications_count b.vocabulary b.domains ts
    arguments-few [] no_terms h = omega arith
    arguments-few [] (more_terms t ts) h = absurd h
    arguments-few (ty ∷ tys) no_terms h = absurd h
    arguments-few (ty ∷ tys) (more_terms t ts) h =
        let size = pairs-number (λ x xs. x ∷ xs) (rows_of_term b t e) (rows_of_terms b ts e) in
        let product = mul-le (length (rows_of_term b t e)) (length (rows_of_terms b ts e))
        (application_count b.vocabulary b.domains t) (applications_count b.vocabulary b.domains ts) (term-few t h.1)
        (arguments-few tys ts h.2) in
        omega (arith, size, product)

    sum-few : (ss : SummandTrees) → AreTypedSummands b.vocabulary b.domains scope ss
        → length (rows_of_sum b ss e) ≤ summands_count b.vocabulary b.domains ss
    sum-few no_summands h = omega arith
    sum-few (more_summands minus t ss) h =
        let size = pairs-number (summand_plus minus) (rows_of_term b t e) (rows_of_sum b ss e) in
        let product = mul-le (length (rows_of_term b t e)) (length (rows_of_sum b ss e))
        (application_count b.vocabulary b.domains t) (summands_count b.vocabulary b.domains ss) (term-few t h.0)
        (sum-few ss h.1) in
        omega (arith, size, product)
