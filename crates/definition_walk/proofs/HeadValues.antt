-- The terms of heads have one row each, and a head's variable is one of its symbol's atoms.
use Rattle.std.proofs.Common.{◌≡◌, ◌≤◌, ◌<◌, ℕ, suc, ◌+◌, ◌*◌, List, [], ◌∷◌, map, length, true, false}
use Rattle.std.proofs.Common.{Option, Some, None, option_map, slice_get, get_or, is_some, refl, sym, ap}
use Rattle.std.proofs.Common.{subst, ◌∙◌, arith, IsNone, IfSome}
use Rattle.std.specs.List.{AllByRecursion}
use Rattle.std.specs.Option.{option_and_then}
use Rattle.std.proofs.Math.Nat.{mul-one}
use Rattle.std.proofs.lemmas.Nat.{mul-le}
use Rattle.std.proofs.lemmas.Option.{slice_get-get_or}
use Rattle.kb_logic.specs.declared.elements.Elem.{Elem}
use Rattle.kb_logic.specs.declared.syntax.Rule.{Rule}
use Rattle.kb_logic.specs.declared.syntax.Term.{Term}
use Rattle.kb_logic.specs.declared.values.Value.{Value}
use Rattle.kb_logic.specs.declared.vocabularies.Symbol.{Symbol}
use Rattle.kb_logic.specs.Bounds.{value_type_of}
use Rattle.kb_logic.specs.Denotations.{Denotation}
use Rattle.kb_logic.specs.Structures.{domain_at, tuples_of}
use Rattle.kb_logic.specs.Trees.{TermTree, variable, integer, constructed, application, summation, product, aggregate}
use Rattle.kb_logic.specs.Trees.{SummandTrees, terms_of, RuleTree}
use Rattle.kb_logic.specs.Values.{value_view}
use Rattle.kb_logic.specs.Views.{term_view, rule_view}
use Rattle.kb_logic.specs.Weights.{value_count}
use Rattle.lit_core.specs.declared.literals.Lit.{Lit}
use Rattle.term_values.specs.DomainIndexes.{elem_index}
use Rattle.term_values.specs.GroundBases.{GroundBase, atoms_in, first_var, row_index, tuples_at, values_at}
use Rattle.term_values.specs.RowArithmetic.{TupleRowsFit}
use Rattle.term_values.specs.declared.rows.RowValue.{RowValue}
use Rattle.term_values.specs.RowValues.{row_value}
use Rattle.term_values.specs.Rows.{pair_rows, rows_of_term, rows_of_terms}
use Rattle.term_values.proofs.IndexLemmas.{single-index}
use Rattle.term_values.proofs.Offsets.{some-same}
use Rattle.term_values.proofs.RowFacts.{place-below}
use Rattle.term_values.proofs.StructureAtoms.{tuples-are, values-are}
use Rattle.term_values.proofs.VariableLemmas.{declared_at, slice_inside}
use Rattle.def_ground.specs.Definitions.{head_value, plain_var, valued_var, var_of_value, head_var}
use Rattle.def_ground.specs.Rules.{IsHeadTerm}
use Rattle.definition_walk.specs.Steps.{IsVarOf, IsPlainTerm, IsPlainHead}
use Rattle.definition_walk.proofs.SymbolSteps.{vars-next}

-- ---- rows

module _ (b : GroundBase) (e : List Elem) where
  pub one-row : (t : TermTree) → IsHeadTerm t → rows_of_term b t e ≡ ([], head_value b e t) ∷ []
  one-row (variable n) h = refl
  one-row (integer z) h = refl
  one-row (constructed ty n) h = refl
  one-row (application s ts) h = absurd h
  one-row (summation ss) h =
      subst (λ (us : SummandTrees). rows_of_term b (summation us) e ≡ ([], head_value b e (summation us)) ∷ [])
      (sym h.1) refl
  one-row (product ts) h = absurd h
  one-row (aggregate k bs f t) h = absurd h

  pub one-tuple : (ts : List TermTree) → AllByRecursion IsPlainTerm ts
      → rows_of_terms b (terms_of ts) e ≡ ([], map (head_value b e) ts) ∷ []
  one-tuple [] h = refl
  one-tuple (t ∷ ts) h =
      ap (λ rs. pair_rows (λ x xs. x ∷ xs) rs (rows_of_terms b (terms_of ts) e)) (one-row t h.0.head)
      ∙ ap (λ rs. pair_rows (λ x xs. x ∷ xs) (([], head_value b e t) ∷ []) rs) (one-tuple ts h.1)

  pub tuple-fits : (ts : List TermTree) → AllByRecursion IsPlainTerm ts → TupleRowsFit b (terms_of ts) e
  tuple-fits [] h = tt
  tuple-fits (t ∷ ts) h = (h.0.fits b e, tuple-fits ts h.1)

-- the only row's values
pub only-row : {X : Type 0} (rs : List (List Lit × X)) (x y : X) → rs ≡ ([], x) ∷ []
    → option_map (λ r. r.1) (slice_get rs 0) ≡ Some y → y ≡ x
only-row {X = X} rs x y e h =
    sym (some-same x y (sym (ap (λ (qs : List (List Lit × X)). option_map (λ r. r.1) (slice_get qs 0)) e) ∙ h))

pub only-one : {X : Type 0} (rs : List (List Lit × X)) (x : X) → rs ≡ ([], x) ∷ [] → 0 < length rs
only-one rs x e = let size = ap length e in omega (arith, size)

-- ---- places of values

single-count : (xs : List Elem) → length (map (λ (x : Elem). x ∷ []) xs) ≡ length xs
single-count [] = refl
single-count (x ∷ xs) = ap suc (single-count xs)

pub index-within : (xs : List Elem) (d : Denotation) (i : ℕ) → Some i ≡ elem_index xs d → i < length xs
index-within xs d i h =
    let below = place-below (map (λ (x : Elem). x ∷ []) xs) (d ∷ []) i (single-index xs d ∙ sym h) in
    let size = single-count xs in
    omega (arith, below, size)

-- a function's variable, by that of its first value and the place of its value
pub valued-at : (b : GroundBase) (s m j : ℕ) (o q : Option ℕ)
    → Some m ≡ option_map (λ i. first_var b s + i * length (values_at b s)) o → Some j ≡ q
    → Some (m + j) ≡ valued_var b s o q
valued-at b s m j None q h k = cc
valued-at b s m j (Some i) None h k = cc
valued-at b s m j (Some i) (Some l) h k =
    let n = first_var b s + i * length (values_at b s) in
    ap (λ x. Some (x + j)) (some-same m n h) ∙ ap (λ x. Some (n + x)) (some-same j l k)

-- no value has no variable
pub none-valued : (b : GroundBase) (s : ℕ) (o : Option ℕ) → valued_var b s o None ≡ None
none-valued b s None = refl
none-valued b s (Some i) = refl

-- ---- variables

no-type : (o : Option ℕ) → false ≡ is_some o → o ≡ None
no-type None h = refl
no-type (Some ty) h = cc

some-type : (o : Option ℕ) → true ≡ is_some o → (ty : ℕ) × (o ≡ Some ty)
some-type None h = cc
some-type (Some ty) h = (ty, refl)

pub no-value-type : (o : Option ℕ) → false ≡ is_some o → IsNone o
no-value-type None h = refl
no-value-type (Some ty) h = cc

kept-kind : {X Y : Type 0} (f : X → Y) (o : Option X) → is_some (option_map f o) ≡ is_some o
kept-kind f None = refl
kept-kind f (Some x) = refl

module _ (b : GroundBase) where
  declared-next : (s : ℕ) (d : Symbol) → slice_get b.vocabulary.symbols s ≡ Some d
      → first_var b (s + 1) ≡ first_var b s + atoms_in b.domains d
  declared-next s d at =
      let inside = slice_inside b.vocabulary.symbols s d at in
      let same = some-same (get_or b.vocabulary.symbols s d) d
      (sym (slice_get-get_or b.vocabulary.symbols s d inside) ∙ at) in
      vars-next b s d inside ∙ ap (λ x. first_var b s + atoms_in b.domains x) same

  type-at : (s : ℕ) (d : Symbol) → slice_get b.vocabulary.symbols s ≡ Some d → value_type_of b.vocabulary s ≡ d.value
  type-at s d at = ap (option_and_then (λ (t : Symbol). t.value)) at

  plain-own : (s n : ℕ) (vs : List Denotation) (o : Option ℕ) → value_type_of b.vocabulary s ≡ None
      → row_index (tuples_at b s) vs ≡ o → plain_var b s o ≡ Some n → IsVarOf b s n
  plain-own s n vs None type index h = cc
  plain-own s n vs (Some i) type index h =
      let below = place-below (tuples_at b s) vs i index in
      let d = declared_at b s i below in
      let plain : d.0.value ≡ None = sym (type-at s d.0 d.1) ∙ type in
      let size = ap length (tuples-are b s d.0 d.1) in
      let count : atoms_in b.domains d.0 ≡ length (tuples_of b.domains d.0.args) =
      ap (λ v. length (tuples_of b.domains d.0.args) * value_count b.domains v) plain
      ∙ mul-one (length (tuples_of b.domains d.0.args)) in
      let next = declared-next s d.0 d.1 in
      let number : first_var b s + i ≡ n = some-same (first_var b s + i) n h in
      record {
        declared = slice_inside b.vocabulary.symbols s d.0 d.1;
        low = omega (arith, number);
        high = omega (arith, number, next, count, size, below);
      }

  valued-own : (s n ty : ℕ) (vs : List Denotation) (w : Denotation) (o q : Option ℕ)
      → value_type_of b.vocabulary s ≡ Some ty → row_index (tuples_at b s) vs ≡ o
      → row_index (map (λ x. x ∷ []) (values_at b s)) (w ∷ []) ≡ q → valued_var b s o q ≡ Some n → IsVarOf b s n
  valued-own s n ty vs w None q type index place h = cc
  valued-own s n ty vs w (Some i) None type index place h = cc
  valued-own s n ty vs w (Some i) (Some j) type index place h =
      let below = place-below (tuples_at b s) vs i index in
      let among = place-below (map (λ (x : Elem). x ∷ []) (values_at b s)) (w ∷ []) j place in
      let singles = single-count (values_at b s) in
      let d = declared_at b s i below in
      let valued : d.0.value ≡ Some ty = sym (type-at s d.0 d.1) ∙ type in
      let m = length (values_at b s) in
      let all = length (tuples_of b.domains d.0.args) in
      let size = ap length (tuples-are b s d.0 d.1) in
      let values : length (domain_at b.domains ty) ≡ m = sym (ap length (values-are b s d.0 d.1 ty valued)) in
      let count : atoms_in b.domains d.0 ≡ all * m =
      ap (λ v. all * value_count b.domains v) valued ∙ ap (λ k. all * k) values in
      let rows : suc i * m ≤ all * m = mul-le (suc i) m all m (omega (arith, below, size)) (omega arith) in
      let ring : suc i * m ≡ i * m + m = omega arith in
      let next = declared-next s d.0 d.1 in
      let number : first_var b s + i * m + j ≡ n = some-same (first_var b s + i * m + j) n h in
      record {
        declared = slice_inside b.vocabulary.symbols s d.0 d.1;
        low = omega (arith, number);
        high = omega (arith, number, next, count, rows, ring, among, singles);
      }

  var-own : (s n : ℕ) (vs : List Denotation) (ov : Option Denotation)
      → is_some ov ≡ is_some (value_type_of b.vocabulary s)
      → var_of_value b s (row_index (tuples_at b s) vs) ov ≡ Some n → IsVarOf b s n
  var-own s n vs None kind h =
      plain-own s n vs (row_index (tuples_at b s) vs) (no-type (value_type_of b.vocabulary s) kind) refl h
  var-own s n vs (Some w) kind h =
      let ty = some-type (value_type_of b.vocabulary s) kind in
      valued-own s n ty.0 vs w (row_index (tuples_at b s) vs)
      (row_index (map (λ x. x ∷ []) (values_at b s)) (w ∷ [])) ty.1 refl refl h

  -- the variable of a head is one of its symbol's atoms
  pub head-own : (r : RuleTree) (e : List Elem) (n : ℕ) → IsPlainHead b r → head_var b r e ≡ Some n
      → IsVarOf b r.symbol n
  head-own r e n head h =
      var-own r.symbol n (map (head_value b e) r.args) (option_map (head_value b e) r.value)
      (kept-kind (head_value b e) r.value ∙ head.kind) h

-- ---- the code's rows

module _ (b : GroundBase) (e : List Elem) where
  pub args-row : (xs ys : List Term) (rs : List (List Lit × List Denotation))
      → rs ≡ rows_of_terms b (terms_of (map term_view xs)) e → xs ≡ ys → AllByRecursion IsPlainTerm (map term_view ys)
      → rs ≡ ([], map (head_value b e) (map term_view ys)) ∷ []
  args-row xs ys rs made same plain =
      made ∙ ap (λ ts. rows_of_terms b (terms_of (map term_view ts)) e) same ∙ one-tuple b e (map term_view ys) plain

  module _ (r : Rule) (xs : List Term) (rs : List (List Lit × List Denotation)) (vs : List RowValue)
      (made : rs ≡ rows_of_terms b (terms_of (map term_view xs)) e) (same : xs ≡ r.args)
      (head : IsPlainHead b (rule_view r))
      (values : option_map (λ q. q.1) (slice_get rs 0) ≡ Some (map row_value vs)) where
    args-are : map row_value vs ≡ map (head_value b e) (map term_view r.args)
    args-are =
        only-row rs (map (head_value b e) (map term_view r.args)) (map row_value vs)
        (args-row xs r.args rs made same head.args) values

    pub plain-head : (o : Option ℕ) → r.value ≡ None
        → o ≡ option_map (λ i. first_var b r.symbol + i) (row_index (tuples_at b r.symbol) (map row_value vs))
        → o ≡ head_var b (rule_view r) e
    plain-head o none var =
        let place = row_index (tuples_at b r.symbol) (map (head_value b e) (map term_view r.args)) in
        var ∙ ap (λ us. plain_var b r.symbol (row_index (tuples_at b r.symbol) us)) args-are
        ∙ ap (λ v. var_of_value b r.symbol place (option_map (head_value b e) (option_map term_view v))) (sym none)

    pub valued-head : (t : Term) (ws : List (List Lit × Denotation)) (x : Value) (o : Option ℕ) → r.value ≡ Some t
        → ws ≡ rows_of_term b (term_view t) e → option_map (λ q. q.1) (slice_get ws 0) ≡ Some (value_view x)
        → o ≡ valued_var b r.symbol (row_index (tuples_at b r.symbol) (map row_value vs))
        (elem_index (values_at b r.symbol) (value_view x))
        → o ≡ head_var b (rule_view r) e
    valued-head t ws x o some rows value var =
        let plain : IsPlainTerm (term_view t) =
        subst (λ v. IfSome (option_map term_view v) IsPlainTerm) some head.value in
        let is : value_view x ≡ head_value b e (term_view t) =
        only-row ws (head_value b e (term_view t)) (value_view x) (rows ∙ one-row b e (term_view t) plain.head) value in
        let place = row_index (tuples_at b r.symbol) (map (head_value b e) (map term_view r.args)) in
        var
        ∙ ap (λ us. valued_var b r.symbol (row_index (tuples_at b r.symbol) us)
        (elem_index (values_at b r.symbol) (value_view x))) args-are
        ∙ ap (λ d. valued_var b r.symbol place (elem_index (values_at b r.symbol) d)) is
        ∙ ap (valued_var b r.symbol place) (sym (single-index (values_at b r.symbol) (head_value b e (term_view t))))
        ∙ ap (λ v. var_of_value b r.symbol place (option_map (head_value b e) (option_map term_view v))) (sym some)

pub own-if : (b : GroundBase) (r : RuleTree) (e : List Elem) (o : Option ℕ) → IsPlainHead b r → o ≡ head_var b r e
    → IfSome o (λ n. IsVarOf b r.symbol n)
own-if b r e None head is = tt
own-if b r e (Some n) head is = head-own b r e n head (sym is)
