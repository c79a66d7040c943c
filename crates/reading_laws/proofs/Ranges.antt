-- The types in demands are types of the vocabulary, before and after each pass over them.
use Rattle.std.proofs.Common.{◌≡◌, ◌<◌, ℕ, ◌+◌, Bool, true, false, List, [], ◌∷◌, ◌++◌, length, map, if◌then◌else◌}
use Rattle.std.proofs.Common.{Option, None, Some, slice_get, unwrap_or, refl, sym, subst}
use Rattle.std.specs.Prelude.{⊤, IfSome}
use Rattle.std.specs.List.{AllByRecursion, list_all}
use Rattle.std.proofs.lemmas.Option.{slice_get_within}
use Rattle.kb_logic.specs.declared.vocabularies.TypeDecl.{TypeDecl}
use Rattle.kb_logic.specs.declared.vocabularies.Symbol.{Symbol}
use Rattle.kb_logic.specs.declared.vocabularies.Vocabulary.{Vocabulary}
use Rattle.stage_definitions.specs.Kinship.{is_under}
use Rattle.stage_definitions.specs.Demands.{TermType, whole, declared, untyped, known, Kind, of_variable, by_itself}
use Rattle.stage_definitions.specs.Demands.{Demand, a_number, sides, predicate_argument, function_argument, head_value}
use Rattle.stage_definitions.specs.Demands.{Finding, nothing, found, torn, Binding, Part, demand, scope, Parts}
use Rattle.stage_definitions.specs.Demands.{no_parts}
use Rattle.stage_definitions.specs.Demands.{more_parts, parts_of, written, binding_of, argument_types, value_type}
use Rattle.stage_definitions.specs.Demands.{kind_of}
use Rattle.stage_definitions.specs.Demands.{number_demand, is_order, order_demands, argument_demands, later_types}
use Rattle.stage_definitions.specs.Demands.{formula_parts, formulas_parts, term_parts, node_parts, arguments_parts}
use Rattle.stage_definitions.specs.Demands.{factors_parts, summands_parts, value_demands, value_parts, head_parts}
use Rattle.stage_definitions.specs.Demands.{rule_parts}
use Rattle.stage_definitions.specs.NamedTrees.{NamedVar, NamedTerm, at, NamedNode, variable, integer, constructed}
use Rattle.stage_definitions.specs.NamedTrees.{application, summation, product, aggregate, NamedTerms, no_terms}
use Rattle.stage_definitions.specs.NamedTrees.{more_terms, NamedSummands, no_summands, more_summands, NamedFormula}
use Rattle.stage_definitions.specs.NamedTrees.{truth}
use Rattle.stage_definitions.specs.NamedTrees.{atom, comparison, negation, conjunction, disjunction, implication}
use Rattle.stage_definitions.specs.NamedTrees.{equivalence, universal, existential, numbered, NamedFormulas}
use Rattle.stage_definitions.specs.NamedTrees.{no_formulas}
use Rattle.stage_definitions.specs.NamedTrees.{more_formulas, terms_of, NamedRule}
use Rattle.stage_definitions.specs.Typing.{is_split, found_first, least_of, finding_of, settled, settled_bindings}
use Rattle.stage_definitions.specs.Typing.{is_variable, places_given, places_at, places_in, part_by_places, by_places}
use Rattle.stage_definitions.specs.Typing.{type_found, within, type_in, types_known, side_given, sides_given, sides_at}
use Rattle.stage_definitions.specs.Typing.{sides_in, part_by_sides, by_sides, all_settled}
use Rattle.reading_laws.proofs.Alls.{all_append, all_at}
use Rattle.reading_laws.proofs.Numbered.{AreWritten, FormulaIsNumbered, FormulasAreNumbered, TermIsNumbered}
use Rattle.reading_laws.proofs.Numbered.{NodeIsNumbered, TermsAreNumbered, SummandsAreNumbered, AreTypes}
use Rattle.reading_laws.proofs.Numbered.{SymbolsHaveTypes, IsHeadNumbered, each_term, RuleIsNumbered}

-- ---- types below a count

abbrev pub IsTypeBelow : ℕ → TermType → Type 0
IsTypeBelow n whole = ⊤
IsTypeBelow n (declared t) = t < n
IsTypeBelow n untyped = ⊤

abbrev pub IsKindBelow : ℕ → Kind → Type 0
IsKindBelow n (of_variable m) = ⊤
IsKindBelow n (by_itself t) = IsTypeBelow n t

abbrev pub IsFindingBelow : ℕ → Finding → Type 0
IsFindingBelow n nothing = ⊤
IsFindingBelow n (found t) = t < n
IsFindingBelow n torn = ⊤

abbrev pub AreBelow : ℕ → List ℕ → Type 0
AreBelow n ts = AllByRecursion (λ t. t < n) ts

abbrev pub AreBindingsBelow : ℕ → List Binding → Type 0
AreBindingsBelow n bs = AllByRecursion (λ b. IsFindingBelow n b.finding) bs

-- the types of a scope, where they are known
abbrev pub IsScopeBelow : ℕ → List (Option ℕ) → Type 0
IsScopeBelow n os = AllByRecursion (λ o. IfSome o (λ t. t < n)) os

abbrev pub IsDemandBelow : ℕ → Demand → Type 0
IsDemandBelow n (a_number p k) = IsKindBelow n k
IsDemandBelow n (sides p a b) = IsKindBelow n a × IsKindBelow n b
IsDemandBelow n (predicate_argument p k t) = IsKindBelow n k × (t < n)
IsDemandBelow n (function_argument p i k t) = IsKindBelow n k × (t < n)
IsDemandBelow n (head_value p k t) = IsKindBelow n k × (t < n)

abbrev mutual
  pub IsPartBelow : ℕ → Part → Type 0
  IsPartBelow n (demand d) = IsDemandBelow n d
  IsPartBelow n (scope bs ps) = AreBindingsBelow n bs × ArePartsBelow n ps

  pub ArePartsBelow : ℕ → Parts → Type 0
  ArePartsBelow n no_parts = ⊤
  ArePartsBelow n (more_parts p ps) = IsPartBelow n p × ArePartsBelow n ps

-- ---- the types of some terms

first_below : (n : ℕ) (test : ℕ → Bool) (ts : List ℕ) → AreBelow n ts → IsFindingBelow n (found_first test ts)
first_below n test [] h = tt
first_below n test (t ∷ ts) h = by (test t) (first_below n test ts h.1)
  where
    by : (b : Bool) → IsFindingBelow n (found_first test ts) → IsFindingBelow n
        (if b then found t else found_first test ts)
    by true r = h.0
    by false r = r

finding_below : (types : List TypeDecl) (n : ℕ) (ts : List ℕ) → AreBelow n ts → IsFindingBelow n (finding_of types ts)
finding_below types n ts h = by (is_split types ts)
  where
    by : (b : Bool) → IsFindingBelow n (if b then torn else least_of types ts)
    by true = tt
    by false = first_below n (λ t. list_all (λ u. is_under types t u) ts) ts h

settled_below : (n : ℕ) (f g : Finding) → IsFindingBelow n f → IsFindingBelow n g → IsFindingBelow n (settled f g)
settled_below n nothing g h k = k
settled_below n (found t) g h k = h
settled_below n torn g h k = tt

bindings_below : (types : List TypeDecl) (n m : ℕ) (bs : List Binding) (P : ℕ → List ℕ) → AreBindingsBelow n bs
    → ((i : ℕ) → AreBelow n (P i))
    → AreBindingsBelow n (settled_bindings types m bs P)
bindings_below types n m [] P h k = tt
bindings_below types n m (b ∷ bs) P h k = (
  settled_below n b.finding (finding_of types (P m)) h.0 (finding_below types n (P m) (k m)),
  bindings_below types n
      (m + 1) bs P h.1 k,
)

-- ---- by places

place_below : (n m t : ℕ) (k : Kind) → t < n → AreBelow n (if is_variable m k then t ∷ [] else [])
place_below n m t k h = by (is_variable m k)
  where
    by : (b : Bool) → AreBelow n (if b then t ∷ [] else [])
    by true = (h, tt)
    by false = tt

given_below : (n m : ℕ) (d : Demand) → IsDemandBelow n d → AreBelow n (places_given m d)
given_below n m (a_number p k) h = tt
given_below n m (sides p a b) h = tt
given_below n m (predicate_argument p k t) h = place_below n m t k h.1
given_below n m (function_argument p i k t) h = place_below n m t k h.1
given_below n m (head_value p k t) h = place_below n m t k h.1

mutual
  place_at_below : (n m : ℕ) (p : Part) → IsPartBelow n p → AreBelow n (places_at m p)
  place_at_below n m (demand d) h = given_below n m d h
  place_at_below n m (scope bs ps) h = places_below n m ps h.1

  places_below : (n m : ℕ) (ps : Parts) → ArePartsBelow n ps → AreBelow n (places_in m ps)
  places_below n m no_parts h = tt
  places_below n m (more_parts p ps) h =
      all_append (λ (t : ℕ). t < n) (places_at m p) (places_in m ps) (place_at_below n m p h.0)
      (places_below n m ps h.1)

mutual
  part_placed_below : (types : List TypeDecl) (n m : ℕ) (p : Part) → IsPartBelow n p
      → IsPartBelow n (part_by_places types m p)
  part_placed_below types n m (demand d) h = h
  part_placed_below types n m (scope bs ps) h = (
    bindings_below types n m bs (λ i. places_in i ps) h.0 (λ i. places_below n i ps h.1),
    placed_below types n
        (m + length bs) ps h.1,
  )

  placed_below : (types : List TypeDecl) (n m : ℕ) (ps : Parts) → ArePartsBelow n ps
      → ArePartsBelow n (by_places types m ps)
  placed_below types n m no_parts h = tt
  placed_below types n m (more_parts p ps) h = (part_placed_below types n m p h.0, placed_below types n m ps h.1)

-- ---- by the other sides

found_below : (n : ℕ) (f : Finding) → IsFindingBelow n f → IfSome (type_found f) (λ t. t < n)
found_below n nothing h = tt
found_below n (found t) h = h
found_below n torn h = tt

all_found_below : (n : ℕ) (bs : List Binding) → AreBindingsBelow n bs
    → IsScopeBelow n (map (λ b. type_found b.finding) bs)
all_found_below n [] h = tt
all_found_below n (b ∷ bs) h = (found_below n b.finding h.0, all_found_below n bs h.1)

pub within_below : (n : ℕ) (sc : List (Option ℕ)) (bs : List Binding) → IsScopeBelow n sc → AreBindingsBelow n bs
    → IsScopeBelow n (within sc bs)
within_below n sc bs h k = all_append (λ (o : Option ℕ). IfSome o (λ t. t < n)) sc
    (map (λ b. type_found b.finding) bs) h (all_found_below n bs k)

known_below : (n : ℕ) (o : Option ℕ) → IfSome o (λ t. t < n) → IsTypeBelow n (known o)
known_below n None h = tt
known_below n (Some t) h = h

scope_at_below : (n : ℕ) (sc : List (Option ℕ)) (m : ℕ) → IsScopeBelow n sc
    → IfSome (unwrap_or (slice_get sc m) None) (λ t. t < n)
scope_at_below n sc m h = by (slice_get sc m) refl
  where
    by : (o : Option (Option ℕ)) → slice_get sc m ≡ o → IfSome (unwrap_or o None) (λ t. t < n)
    by None e = tt
    by (Some o) e = all_at (λ (p : Option ℕ). IfSome p (λ t. t < n)) sc m o e h

type_in_below : (n : ℕ) (sc : List (Option ℕ)) (k : Kind) → IsScopeBelow n sc → IsKindBelow n k
    → IsTypeBelow n (type_in sc k)
type_in_below n sc (of_variable m) h g = known_below n (unwrap_or (slice_get sc m) None) (scope_at_below n sc m h)
type_in_below n sc (by_itself t) h g = g

types_known_below : (n : ℕ) (t : TermType) → IsTypeBelow n t → AreBelow n (types_known t)
types_known_below n whole h = tt
types_known_below n (declared t) h = (h, tt)
types_known_below n untyped h = tt

side_below : (n : ℕ) (sc : List (Option ℕ)) (m : ℕ) (a b : Kind) → IsScopeBelow n sc → IsKindBelow n b
    → AreBelow n (side_given sc m a b)
side_below n sc m a b h g = by (is_variable m a)
  where
    by : (c : Bool) → AreBelow n (if c then types_known (type_in sc b) else [])
    by true = types_known_below n (type_in sc b) (type_in_below n sc b h g)
    by false = tt

sides_given_below : (n : ℕ) (sc : List (Option ℕ)) (m : ℕ) (d : Demand) → IsScopeBelow n sc → IsDemandBelow n d
    → AreBelow n (sides_given sc m d)
sides_given_below n sc m (a_number p k) h g = tt
sides_given_below n sc m (sides p a b) h g =
    all_append (λ (t : ℕ). t < n) (side_given sc m a b) (side_given sc m b a) (side_below n sc m a b h g.1)
    (side_below n sc m b a h g.0)
sides_given_below n sc m (predicate_argument p k t) h g = tt
sides_given_below n sc m (function_argument p i k t) h g = tt
sides_given_below n sc m (head_value p k t) h g = tt

mutual
  side_at_below : (n : ℕ) (sc : List (Option ℕ)) (m : ℕ) (p : Part) → IsScopeBelow n sc → IsPartBelow n p
      → AreBelow n (sides_at sc m p)
  side_at_below n sc m (demand d) h g = sides_given_below n sc m d h g
  side_at_below n sc m (scope bs ps) h g = sides_below n (within sc bs) m ps (within_below n sc bs h g.0) g.1

  sides_below : (n : ℕ) (sc : List (Option ℕ)) (m : ℕ) (ps : Parts) → IsScopeBelow n sc → ArePartsBelow n ps
      → AreBelow n (sides_in sc m ps)
  sides_below n sc m no_parts h g = tt
  sides_below n sc m (more_parts p ps) h g =
      all_append (λ (t : ℕ). t < n) (sides_at sc m p) (sides_in sc m ps) (side_at_below n sc m p h g.0)
      (sides_below n sc m ps h g.1)

mutual
  part_sided_below : (types : List TypeDecl) (n : ℕ) (sc : List (Option ℕ)) (p : Part) → IsScopeBelow n sc
      → IsPartBelow n p → IsPartBelow n (part_by_sides types sc p)
  part_sided_below types n sc (demand d) h g = g
  part_sided_below types n sc (scope bs ps) h g =
      let inner = within_below n sc bs h g.0 in (
        bindings_below types n (length sc) bs (λ i. sides_in (within sc bs) i ps) g.0
            (λ i. sides_below n (within sc bs) i ps inner g.1),
        sided_below types n (within sc bs) ps inner g.1,
      )

  sided_below : (types : List TypeDecl) (n : ℕ) (sc : List (Option ℕ)) (ps : Parts) → IsScopeBelow n sc
      → ArePartsBelow n ps → ArePartsBelow n (by_sides types sc ps)
  sided_below types n sc no_parts h g = tt
  sided_below types n sc (more_parts p ps) h g = (part_sided_below types n sc p h g.0, sided_below types n sc ps h g.1)

pub settled_parts_below : (types : List TypeDecl) (n : ℕ) (ps : Parts) → ArePartsBelow n ps
    → ArePartsBelow n (all_settled types ps)
settled_parts_below types n ps h = sided_below types n [] (by_places types 0 ps) tt (placed_below types n 0 ps h)

-- ---- what a numbered tree demands

abbrev AreAllBelow : ℕ → List Part → Type 0
AreAllBelow n ps = AllByRecursion (IsPartBelow n) ps

pub as_parts : (n : ℕ) (ps : List Part) → AreAllBelow n ps → ArePartsBelow n (parts_of ps)
as_parts n [] h = tt
as_parts n (p ∷ ps) h = (h.0, as_parts n ps h.1)

module _ (v : Vocabulary) (sound : SymbolsHaveTypes v) where
  abbrev bound : ℕ
  bound = length v.types

  both : (ps qs : List Part) → AreAllBelow bound ps → AreAllBelow bound qs → AreAllBelow bound (ps ++ qs)
  both ps qs h g = all_append (IsPartBelow bound) ps qs h g

  arguments_below : (s : ℕ) (d : Symbol) → slice_get v.symbols s ≡ Some d
      → AreBelow bound (argument_types (slice_get v.symbols s))
  arguments_below s d e = subst (λ (o : Option Symbol). AreBelow bound (argument_types o)) (sym e)
      (all_at (AreTypes v.types) v.symbols s d e sound).args

  value_below : (s : ℕ) (d : Symbol) → slice_get v.symbols s ≡ Some d
      → IsTypeBelow bound (known (value_type (slice_get v.symbols s)))
  value_below s d e =
      subst (λ (o : Option Symbol). IsTypeBelow bound (known (value_type o))) (sym e)
      (known_below bound d.value (all_at (AreTypes v.types) v.symbols s d e sound).value)

  kind_below : (k : ℕ) (t : NamedTerm) → TermIsNumbered v k t → IsKindBelow bound (kind_of v.symbols t)
  kind_below k (at p (variable n)) h = tt
  kind_below k (at p (integer i)) h = tt
  kind_below k (at p (constructed t i)) h = slice_get_within v.types t h.0 h.1
  kind_below k (at p (application s us)) h = value_below s h.0 h.1
  kind_below k (at p (summation ss)) h = tt
  kind_below k (at p (product us)) h = tt
  kind_below k (at p (aggregate how xs f w)) h = tt

  pub number_below : (k : ℕ) (t : NamedTerm) → TermIsNumbered v k t → IsPartBelow bound (number_demand v.symbols t)
  number_below k t h = kind_below k t h

  order_below : (k : ℕ) (b : Bool) (x y : NamedTerm) → TermIsNumbered v k x → TermIsNumbered v k y
      → AreAllBelow bound (order_demands v.symbols b x y)
  order_below k true x y h g = (number_below k x h, (number_below k y g, tt))
  order_below k false x y h g = tt

  argument_below : (k : ℕ) (b : Bool) (t : NamedTerm) (types : List ℕ) → TermIsNumbered v k t → AreBelow bound types
      → AreAllBelow bound (argument_demands v.symbols b t types)
  argument_below k b t [] h g = tt
  argument_below k true t (ty ∷ types) h g = ((kind_below k t h, g.0), tt)
  argument_below k false t (ty ∷ types) h g = ((kind_below k t h, g.0), tt)

  later_below : (types : List ℕ) → AreBelow bound types → AreBelow bound (later_types types)
  later_below [] h = tt
  later_below (t ∷ types) h = h.1

  bindings_written : (xs : List NamedVar) → AreWritten v xs → AreBindingsBelow bound (map binding_of xs)
  bindings_written [] h = tt
  bindings_written (x ∷ xs) h = (by x.ty h.0, bindings_written xs h.1)
    where
      by : (o : Option ℕ) → IfSome o (λ t. t < bound) → IsFindingBelow bound (written o)
      by None g = tt
      by (Some t) g = g

  scope_below : (xs : List NamedVar) (ps : List Part) → AreWritten v xs → AreAllBelow bound ps
      → AreAllBelow bound (scope (map binding_of xs) (parts_of ps) ∷ [])
  scope_below xs ps h g = ((bindings_written xs h, as_parts bound ps g), tt)

  mutual
    pub formula_below : (k : ℕ) (f : NamedFormula) → FormulaIsNumbered v k f
        → AreAllBelow bound (formula_parts v.symbols f)
    formula_below k (truth b) h = tt
    formula_below k (atom s us) h = terms_below k false (argument_types (slice_get v.symbols s)) us h.4
        (arguments_below s h.0 h.1)
    formula_below k (comparison c x y) h =
        let last = both (term_parts v.symbols x) (term_parts v.symbols y) (term_below k x h.0) (term_below k y h.1) in (
          (kind_below k x h.0, kind_below k y h.1),
          both (order_demands v.symbols (is_order c) x y) (term_parts v.symbols x ++ term_parts v.symbols y)
              (order_below k (is_order c) x y h.0 h.1) last,
        )
    formula_below k (negation f) h = formula_below k f h
    formula_below k (conjunction fs) h = formulas_below k fs h
    formula_below k (disjunction fs) h = formulas_below k fs h
    formula_below k (implication f g) h = both (formula_parts v.symbols f) (formula_parts v.symbols g)
        (formula_below k f h.0) (formula_below k g h.1)
    formula_below k (equivalence f g) h = both (formula_parts v.symbols f) (formula_parts v.symbols g)
        (formula_below k f h.0) (formula_below k g h.1)
    formula_below k (universal xs f) h = scope_below xs (formula_parts v.symbols f) h.0
        (formula_below (k + length xs) f h.1)
    formula_below k (existential xs f) h = scope_below xs (formula_parts v.symbols f) h.0
        (formula_below (k + length xs) f h.1)
    formula_below k (numbered c n xs f) h = scope_below xs (formula_parts v.symbols f) h.0
        (formula_below (k + length xs) f h.1)

    formulas_below : (k : ℕ) (fs : NamedFormulas) → FormulasAreNumbered v k fs
        → AreAllBelow bound (formulas_parts v.symbols fs)
    formulas_below k no_formulas h = tt
    formulas_below k (more_formulas f fs) h = both (formula_parts v.symbols f) (formulas_parts v.symbols fs)
        (formula_below k f h.0) (formulas_below k fs h.1)

    pub term_below : (k : ℕ) (t : NamedTerm) → TermIsNumbered v k t → AreAllBelow bound (term_parts v.symbols t)
    term_below k (at p x) h = node_below k x h

    node_below : (k : ℕ) (x : NamedNode) → NodeIsNumbered v k x → AreAllBelow bound (node_parts v.symbols x)
    node_below k (variable n) h = tt
    node_below k (integer i) h = tt
    node_below k (constructed t i) h = tt
    node_below k (application s us) h = terms_below k true (argument_types (slice_get v.symbols s)) us h.4
        (arguments_below s h.0 h.1)
    node_below k (summation ss) h = summands_below k ss h.1
    node_below k (product us) h = factors_below k us h
    node_below k (aggregate how xs f w) h =
        let inner = both (formula_parts v.symbols f) (number_demand v.symbols w ∷ term_parts v.symbols w)
        (formula_below (k + length xs) f h.1)
        (number_below (k + length xs) w h.2, term_below (k + length xs) w h.2) in
        scope_below xs (formula_parts v.symbols f ++ number_demand v.symbols w ∷ term_parts v.symbols w) h.0 inner

    terms_below : (k : ℕ) (b : Bool) (types : List ℕ) (us : NamedTerms) → TermsAreNumbered v k us → AreBelow bound types
        → AreAllBelow bound (arguments_parts v.symbols b types us)
    terms_below k b types no_terms h g = tt
    terms_below k b types (more_terms u us) h g =
        let later = arguments_parts v.symbols b (later_types types) us in
        both (argument_demands v.symbols b u types) (term_parts v.symbols u ++ later) (argument_below k b u types h.0 g)
        (both (term_parts v.symbols u) later (term_below k u h.0)
        (terms_below k b (later_types types) us h.1 (later_below types g)))

    factors_below : (k : ℕ) (us : NamedTerms) → TermsAreNumbered v k us → AreAllBelow bound (factors_parts v.symbols us)
    factors_below k no_terms h = tt
    factors_below k (more_terms u us) h = (
      number_below k u h.0,
      both (term_parts v.symbols u) (factors_parts v.symbols us) (term_below k u h.0)
          (factors_below k us h.1),
    )

    summands_below : (k : ℕ) (ss : NamedSummands) → SummandsAreNumbered v k ss
        → AreAllBelow bound (summands_parts v.symbols ss)
    summands_below k no_summands h = tt
    summands_below k (more_summands m u ss) h = (
      number_below k u h.0,
      both (term_parts v.symbols u) (summands_parts v.symbols ss) (term_below k u h.0)
          (summands_below k ss h.1),
    )

  -- ---- rules

  value_part_below : (k : ℕ) (type : Option ℕ) → IsTypeBelow bound (known type) → (o : Option NamedTerm)
      → IfSome o (IsHeadNumbered v k) → AreAllBelow bound (value_parts v.symbols type o)
  value_part_below k type h None g = tt
  value_part_below k type h (Some x) g =
      both (value_demands v.symbols type x) (term_parts v.symbols x) (by type h) (term_below k x g.numbered)
    where
      by : (o : Option ℕ) → IsTypeBelow bound (known o) → AreAllBelow bound (value_demands v.symbols o x)
      by None n = tt
      by (Some t) n = ((kind_below k x g.numbered, n), tt)

  pub rule_below : (r : NamedRule) → RuleIsNumbered v r → AreAllBelow bound (rule_parts v.symbols r)
  rule_below r h =
      let k = length r.vars in
      let d = h.symbol in
      let args = arguments_parts v.symbols true (argument_types (slice_get v.symbols r.symbol)) (terms_of r.args) in
      let value = value_parts v.symbols (value_type (slice_get v.symbols r.symbol)) r.value in
      scope_below r.vars (head_parts v.symbols r ++ formula_parts v.symbols r.body) h.vars
      (both (head_parts v.symbols r) (formula_parts v.symbols r.body)
      (both args value
      (terms_below k true (argument_types (slice_get v.symbols r.symbol)) (terms_of r.args)
      (each_term v k r.args h.args) (arguments_below r.symbol d.0 d.1))
      (value_part_below k (value_type (slice_get v.symbols r.symbol)) (value_below r.symbol d.0 d.1) r.value h.value))
      (formula_below k r.body h.body))
