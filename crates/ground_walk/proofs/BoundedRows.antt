-- Where the static bounds of a term are small, the integers that come up in its rows fit 64 bits. A count or a sum in
-- it counts as 0, which lies within its bounds.
use Rattle.std.proofs.Common.{ℕ, ◌+◌, ◌*◌, ℤ, pos, ◌+ℤ◌, List, [], ◌∷◌, ◌++◌, map, flat_map, Bool, true, false}
use Rattle.std.proofs.Common.{Option, Some, None, IfSome, FitsSigned, w64, fold, length, arith}
use Rattle.std.specs.Prelude.{⊤}
use Rattle.std.specs.List.{AllByRecursion, Contains}
use Rattle.std.specs.Option.{option_map}
use Rattle.std.proofs.lemmas.Int.{ints}
use Rattle.kb_logic.specs.declared.elements.Elem.{Elem}
use Rattle.kb_logic.specs.Trees.{TermTree, variable, integer, constructed, application, summation, product, aggregate}
use Rattle.kb_logic.specs.Trees.{TermTrees, no_terms, more_terms, SummandTrees, no_summands, more_summands}
use Rattle.kb_logic.specs.declared.syntax.AggKind.{AggKind}
use Rattle.kb_logic.specs.declared.syntax.AggKind.TheVariants as kind
use Rattle.kb_logic.specs.Structures.{domain_at, choices}
use Rattle.kb_logic.specs.Denotations.{Denotation, denotation_of}
use Rattle.kb_logic.specs.Meaning.{summand_plus, number_value, product_from}
use Rattle.kb_logic.specs.Arithmetic.{ProductFits}
use Rattle.kb_logic.specs.Bounds.{Interval, exactly, interval_sum, interval_product, signed_interval, range_of}
use Rattle.kb_logic.specs.Bounds.{aggregate_bounds, bounds_of, types_of}
use Rattle.kb_logic.specs.Bounds.{factor_bounds, summand_bounds, front_bounds, IsSmall, IsWithin, ValueIsWithin}
use Rattle.kb_logic.specs.Bounds.{HasTypes}
use Rattle.kb_logic.specs.Bounds.{TermIsBounded, TermsAreBounded, SummandsAreBounded}
use Rattle.kb_logic.proofs.FunctionValues.{element_within, variable_within, constructed_within}
use Rattle.kb_logic.proofs.Members.{first, later}
use Rattle.kb_logic.proofs.WithinBounds.{OptionIsWithin, number_within, plus_within, times_within, times_fits}
use Rattle.kb_logic.proofs.WithinBounds.{sum_alone, some_fits, last_small}
use Rattle.lit_core.specs.declared.literals.Lit.{Lit}
use Rattle.term_values.specs.GroundBases.{GroundBase, known_of, first_var, row_index, tuples_at, values_at}
use Rattle.term_values.specs.Rows.{with_row, value_rows, rows_at, pair_rows, map_rows, rows_of_term, rows_of_terms}
use Rattle.term_values.specs.Rows.{rows_of_sum}
use Rattle.def_ground.specs.GroundForms.{IsAdding}
use Rattle.term_values.specs.RowArithmetic.{RowsFit, TupleRowsFit, OperandRowsFit}

-- what holds of the value of each row
abbrev Each : {X : Type 0} → (X → Type 0) → List (List Lit × X) → Type 0
Each P rs = AllByRecursion (λ r. P r.1) rs

each-append : {X : Type 0} (P : X → Type 0) (xs ys : List (List Lit × X)) → Each P xs → Each P ys → Each P (xs ++ ys)
each-append P [] ys h k = k
each-append P (x ∷ xs) ys h k = (h.0, each-append P xs ys h.1 k)

each-with : {X Y Z : Type 0} (op : X → Y → Z) (P : X → Type 0) (Q : Y → Type 0) (R : Z → Type 0)
    → ((x : X) (y : Y) → P x → Q y → R (op x y)) → (g : List Lit) (x : X) (ys : List (List Lit × Y)) → P x → Each Q ys
    → Each R (map (λ y. (g ++ y.0, op x y.1)) ys)
each-with op P Q R f g x [] h k = tt
each-with op P Q R f g x (y ∷ ys) h k = (f x y.1 h k.0, each-with op P Q R f g x ys h k.1)

each-pair : {X Y Z : Type 0} (op : X → Y → Z) (P : X → Type 0) (Q : Y → Type 0) (R : Z → Type 0)
    → ((x : X) (y : Y) → P x → Q y → R (op x y)) → (xs : List (List Lit × X)) (ys : List (List Lit × Y)) → Each P xs
    → Each Q ys → Each R (pair_rows op xs ys)
each-pair op P Q R f [] ys h k = tt
each-pair op P Q R f (x ∷ xs) ys h k =
    each-append R (map (λ y. (x.0 ++ y.0, op x.1 y.1)) ys) (pair_rows op xs ys)
    (each-with op P Q R f x.0 x.1 ys h.0 k) (each-pair op P Q R f xs ys h.1 k)

each-mapped : {X Y : Type 0} (F : X → Y) (P : X → Type 0) (R : Y → Type 0) → ((x : X) → P x → R (F x))
    → (rs : List (List Lit × X)) → Each P rs → Each R (map_rows F rs)
each-mapped F P R f [] h = tt
each-mapped F P R f (r ∷ rs) h = (f r.1 h.0, each-mapped F P R f rs h.1)

each-flat : {X Y : Type 0} (R : Y → Type 0) (E : List Lit × X → List (List Lit × Y))
    → ((r : List Lit × X) → Each R (E r))
    → (rs : List (List Lit × X)) → Each R (flat_map E rs)
each-flat R E f [] = tt
each-flat R E f (r ∷ rs) = each-append R (E r) (flat_map E rs) (f r) (each-flat R E f rs)

each-weaker : {X : Type 0} (P Q : X → Type 0) → ((x : X) → P x → Q x) → (rs : List (List Lit × X))
    → Each P rs → Each Q rs
each-weaker P Q f [] h = tt
each-weaker P Q f (r ∷ rs) h = (f r.1 h.0, each-weaker P Q f rs h.1)

-- a value is in the range of its domain
row-within : (i : Interval) (o : Option Bool) (n : ℕ) (g : List Lit) (x : Denotation)
    (rows : List (List Lit × Denotation))
    → ValueIsWithin i x → Each (ValueIsWithin i) rows → Each (ValueIsWithin i) (with_row o n g x rows)
row-within i None n g x rows h k = (h, k)
row-within i (Some true) n g x rows h k = (h, k)
row-within i (Some false) n g x rows h k = k

values-within : (b : GroundBase) (g : List Lit) (n : ℕ) (xs all : List Elem)
    → ((x : Elem) → Contains xs x → Contains all x)
    → Each (ValueIsWithin (range_of all)) (value_rows b g n xs)
values-within b g n [] all f = tt
values-within b g n (x ∷ xs) all f =
    row-within (range_of all) (known_of b n) n g (denotation_of x) (value_rows b g (n + 1) xs)
    (element_within all x (f x (first x xs))) (values-within b g (n + 1) xs all (λ y at. f y (later x y xs at)))

at-within : (b : GroundBase) (s : ℕ) (g : List Lit) (o : Option ℕ)
    → Each (ValueIsWithin (range_of (values_at b s))) (rows_at b s g o)
at-within b s g None = (tt, tt)
at-within b s g (Some i) =
    values-within b g (first_var b s + i * length (values_at b s)) (values_at b s) (values_at b s) (λ x at. at)

-- the sum so far and that of the operands that are left
abbrev SumIsWithin : Interval → Interval → Option ℤ → Type 0
SumIsWithin i whole o = (z : ℤ) → IsWithin i z → OptionIsWithin whole (option_map (λ s. z +ℤ s) o)

-- the product so far with the factors that are left
abbrev ProductIsWithin : Interval → Interval → List Denotation → Type 0
ProductIsWithin i whole vs = (z : ℤ) → IsWithin i z → OptionIsWithin whole (product_from z vs)

abbrev ProductStaysFit : Interval → List Denotation → Type 0
ProductStaysFit i vs = (z : ℤ) → IsWithin i z → ProductFits z vs

zero-within : IsWithin (exactly (pos 0)) (pos 0)
zero-within = record { low = omega (arith, ints); high = omega (arith, ints) }

one-within : IsWithin (exactly (pos 1)) (pos 1)
one-within = record { low = omega (arith, ints); high = omega (arith, ints) }

-- an aggregate whose parts are added may be 0
zero-within-kind : (k : AggKind) (n : ℕ) (i : Interval) → IsAdding k → IsWithin (aggregate_bounds k n i) (pos 0)
zero-within-kind kind.Count n i h = record { low = omega (arith, ints); high = omega (arith, ints) }
zero-within-kind kind.Sum n i h = record { low = omega (arith, ints); high = omega (arith, ints) }
zero-within-kind kind.Min n i h = absurd h
zero-within-kind kind.Max n i h = absurd h

abbrev mutual
  -- each aggregate in the term is one whose parts are added
  pub HasAdding : TermTree → Type 0
  HasAdding (variable n) = ⊤
  HasAdding (integer z) = ⊤
  HasAdding (constructed ty n) = ⊤
  HasAdding (application s ts) = HaveAdding ts
  HasAdding (summation ss) = OperandsHaveAdding ss
  HasAdding (product ts) = HaveAdding ts
  HasAdding (aggregate k bs f t) = IsAdding k

  pub HaveAdding : TermTrees → Type 0
  HaveAdding no_terms = ⊤
  HaveAdding (more_terms t ts) = HasAdding t × HaveAdding ts

  pub OperandsHaveAdding : SummandTrees → Type 0
  OperandsHaveAdding no_summands = ⊤
  OperandsHaveAdding (more_summands minus t ss) = HasAdding t × OperandsHaveAdding ss

module _ (b : GroundBase) (scope : List ℕ) (e : List Elem) (types : HasTypes b.domains scope e) where
  mutual
    pub term-within : (t : TermTree) → HasAdding t
        → Each (ValueIsWithin (bounds_of b.vocabulary b.domains t scope)) (rows_of_term b t e)
    term-within (variable n) adding = (variable_within b.domains scope e n types, tt)
    term-within (integer z) adding = (record { low = omega (arith, ints); high = omega (arith, ints) }, tt)
    term-within (constructed ty n) adding = (constructed_within (domain_at b.domains ty) n, tt)
    term-within (application s ts) adding =
        each-flat (ValueIsWithin (range_of (values_at b s)))
        (λ t. rows_at b s t.0 (row_index (tuples_at b s) t.1)) (λ t. at-within b s t.0 (row_index (tuples_at b s) t.1))
        (rows_of_terms b ts e)
    term-within (summation ss) adding =
        let whole = bounds_of b.vocabulary b.domains (summation ss) scope in
        each-mapped number_value (SumIsWithin (exactly (pos 0)) whole) (ValueIsWithin whole)
        (λ o h. number_within whole o (sum_alone whole o (h (pos 0) zero-within))) (rows_of_sum b ss e)
        (sum-within ss adding (exactly (pos 0)))
    term-within (product ts) adding =
        let whole = bounds_of b.vocabulary b.domains (product ts) scope in
        each-mapped (λ vs. number_value (product_from (pos 1) vs)) (ProductIsWithin (exactly (pos 1)) whole)
        (ValueIsWithin whole)
        (λ vs h. number_within whole (product_from (pos 1) vs) (h (pos 1) one-within)) (rows_of_terms b ts e)
        (factors-within ts adding (exactly (pos 1)))
    term-within (aggregate k bs f t) adding = (
      zero-within-kind k (length (choices b.domains bs)) (bounds_of b.vocabulary b.domains t (scope ++ types_of bs))
          adding,
      tt,
    )

    sum-within : (ss : SummandTrees) → OperandsHaveAdding ss → (i : Interval)
        → Each (SumIsWithin i (fold interval_sum i (summand_bounds b.vocabulary b.domains ss scope)))
        (rows_of_sum b ss e)
    sum-within no_summands adding i =
        (λ z k. record { low = omega (arith, ints, k.low); high = omega (arith, ints, k.high) }, tt)
    sum-within (more_summands minus t ss) adding i =
        let a = bounds_of b.vocabulary b.domains t scope in
        let j = interval_sum i (signed_interval minus a) in
        let whole = fold interval_sum j (summand_bounds b.vocabulary b.domains ss scope) in
        each-pair (summand_plus minus) (ValueIsWithin a) (SumIsWithin j whole) (SumIsWithin i whole)
        (λ d o h next. λ z k. plus_within minus d o a i whole z h k next) (rows_of_term b t e) (rows_of_sum b ss e)
        (term-within t adding.0) (sum-within ss adding.1 j)

    factors-within : (ts : TermTrees) → HaveAdding ts → (i : Interval)
        → Each (ProductIsWithin i (fold interval_product i (factor_bounds b.vocabulary b.domains ts scope)))
        (rows_of_terms b ts e)
    factors-within no_terms adding i = (λ z k. k, tt)
    factors-within (more_terms t ts) adding i =
        let a = bounds_of b.vocabulary b.domains t scope in
        let j = interval_product i a in
        let whole = fold interval_product j (factor_bounds b.vocabulary b.domains ts scope) in
        each-pair (λ x xs. x ∷ xs) (ValueIsWithin a) (ProductIsWithin j whole) (ProductIsWithin i whole)
        (λ d vs h next. λ z k. times_within d vs a i whole z h k next) (rows_of_term b t e) (rows_of_terms b ts e)
        (term-within t adding.0) (factors-within ts adding.1 j)

  products-fit : (ts : TermTrees) → HaveAdding ts → (i : Interval)
      → AllByRecursion IsSmall (front_bounds interval_product i (factor_bounds b.vocabulary b.domains ts scope))
      → Each (ProductStaysFit i) (rows_of_terms b ts e)
  products-fit no_terms adding i small = (λ z k. tt, tt)
  products-fit (more_terms t ts) adding i small =
      let a = bounds_of b.vocabulary b.domains t scope in
      let j = interval_product i a in
      each-pair (λ x xs. x ∷ xs) (ValueIsWithin a) (ProductStaysFit j) (ProductStaysFit i)
      (λ d vs h next. λ z k. times_fits d vs a i z h k small.0 next) (rows_of_term b t e) (rows_of_terms b ts e)
      (term-within t adding.0) (products-fit ts adding.1 j small.1)

  mutual
    rows-fit : (t : TermTree) → HasAdding t → TermIsBounded b.vocabulary b.domains t scope → RowsFit b t e
    rows-fit (variable n) adding small = tt
    rows-fit (integer z) adding small = tt
    rows-fit (constructed ty n) adding small = tt
    rows-fit (application s ts) adding small = tuple-rows-fit ts adding small.1
    rows-fit (summation ss) adding small =
        let start : IsSmall (exactly (pos 0)) = (omega (arith, ints), omega (arith, ints)) in
        let whole = bounds_of b.vocabulary b.domains (summation ss) scope in
        let bound = last_small interval_sum (exactly (pos 0)) (summand_bounds b.vocabulary b.domains ss scope) start
        small.0 in (
          each-weaker (SumIsWithin (exactly (pos 0)) whole) (λ o. IfSome o (λ z. FitsSigned w64 z))
              (λ o h. some_fits whole o bound (sum_alone whole o (h (pos 0) zero-within))) (rows_of_sum b ss e)
              (sum-within ss adding (exactly (pos 0))),
          operand-rows-fit ss adding small.1,
        )
    rows-fit (product ts) adding small = (
      tuple-rows-fit ts adding small.1,
      each-weaker (ProductStaysFit (exactly (pos 1))) (ProductFits (pos 1)) (λ vs h. h (pos 1) one-within)
          (rows_of_terms b ts e) (products-fit ts adding (exactly (pos 1)) small.0),
    )
    rows-fit (aggregate k bs f t) adding small = tt

    tuple-rows-fit : (ts : TermTrees) → HaveAdding ts → TermsAreBounded b.vocabulary b.domains ts scope
        → TupleRowsFit b ts e
    tuple-rows-fit no_terms adding small = tt
    tuple-rows-fit (more_terms t ts) adding small = (rows-fit t adding.0 small.0, tuple-rows-fit ts adding.1 small.1)

    operand-rows-fit : (ss : SummandTrees) → OperandsHaveAdding ss → SummandsAreBounded b.vocabulary b.domains ss scope
        → OperandRowsFit b ss e
    operand-rows-fit no_summands adding small = tt
    operand-rows-fit (more_summands minus t ss) adding small =
        (rows-fit t adding.0 small.0, operand-rows-fit ss adding.1 small.1)

pub small-rows-fit : (b : GroundBase) (t : TermTree) (scope : List ℕ) (e : List Elem) → HasTypes b.domains scope e
    → HasAdding t → TermIsBounded b.vocabulary b.domains t scope → RowsFit b t e
small-rows-fit b t scope e types adding small = rows-fit b scope e types t adding small

pub small-tuple-rows-fit : (b : GroundBase) (ts : TermTrees) (scope : List ℕ) (e : List Elem)
    → HasTypes b.domains scope e → HaveAdding ts → TermsAreBounded b.vocabulary b.domains ts scope → TupleRowsFit b ts e
small-tuple-rows-fit b ts scope e types adding small = tuple-rows-fit b scope e types ts adding small
