-- The variable of a rule's head under an assignment is that of the atom that is its head.
use Rattle.std.proofs.Common.{◌≡◌, ℕ, zero, suc, ◌+◌, ◌*◌, List, [], ◌∷◌, map, length, Bool, true, false, cond, inl}
use Rattle.std.proofs.Common.{inr}
use Rattle.std.proofs.Common.{Option, Some, None, option_map, slice_get, is_some, refl, sym, ap, subst, ◌∙◌, arith}
use Rattle.std.proofs.Common.{eq-eqb, IfSome}
use Rattle.std.specs.List.{AllByRecursion}
use Rattle.std.specs.Option.{option_and_then}
use Rattle.std.proofs.lemmas.Bool.{eqb-true}
use Rattle.std.proofs.lemmas.Option.{slice_get-map}
use Rattle.kb_logic.specs.declared.elements.Elem.{Elem}
use Rattle.kb_logic.specs.declared.vocabularies.Symbol.{Symbol}
use Rattle.kb_logic.specs.Trees.{TermTree, variable, integer, constructed, application, summation, product, aggregate}
use Rattle.kb_logic.specs.Trees.{SummandTrees, terms_of, RuleTree}
use Rattle.kb_logic.specs.Structures.{IsDistinct, domain_at, tuples_of}
use Rattle.kb_logic.specs.Denotations.{Denotation, denotation_of}
use Rattle.kb_logic.specs.Meaning.{behind, is_end, value_of, values_of}
use Rattle.kb_logic.specs.Bounds.{value_type_of}
use Rattle.kb_logic.specs.Models.{GroundAtom, IsHead}
use Rattle.kb_logic.specs.KnownAtoms.{atoms_over}
use Rattle.kb_logic.proofs.Choices.{domain_is_distinct}
use Rattle.kb_logic.proofs.DistinctAtoms.{tuples_distinct}
use Rattle.kb_logic.proofs.Members.{distinct-map}
use Rattle.term_values.specs.GroundBases.{GroundBase, structure_of, row_index, first_var, tuples_at, values_at}
use Rattle.term_values.specs.KnownBases.{IsGroundBase}
use Rattle.term_values.proofs.RowFacts.{row-is, place-below}
use Rattle.term_values.proofs.Offsets.{some-same}
use Rattle.term_values.proofs.Places.{PredicateVar, FunctionVar, plain-atom, valued-atom, predicate-variable}
use Rattle.term_values.proofs.Places.{function-variable, variable-of}
use Rattle.term_values.proofs.Chosen.{index-is}
use Rattle.term_values.proofs.StructureAtoms.{tuples-are, values-are}
use Rattle.term_values.proofs.VariableLemmas.{declared_at}
use Rattle.def_ground.specs.Definitions.{bare_structure, head_value, plain_var, valued_var, var_of_value, head_var}
use Rattle.theory_laws.specs.DefinitionLaws.{is_head_at}
use Rattle.def_ground.specs.Rules.{IsHeadTerm, IsTypedRule}

-- the row at an index
abbrev pub IsFound : List (List Elem) → List Denotation → ℕ → Type 0
IsFound rs vs i = (t : List Elem) × (slice_get rs i ≡ Some t) × (vs ≡ map denotation_of t)

found-step : (r : List Elem) (rs : List (List Elem)) (vs : List Denotation) (i : ℕ) (m : Bool) (o : Option ℕ)
    → (m ≡ true → map denotation_of r ≡ vs) → ((k : ℕ) → o ≡ Some k → IsFound rs vs k)
    → cond m (Some 0) (option_map (λ k. 1 + k) o) ≡ Some i → IsFound (r ∷ rs) vs i
found-step r rs vs i true o here more e =
    let z : 0 ≡ i = some-same 0 i e in
    (r, subst (λ k. slice_get (r ∷ rs) k ≡ Some r) z refl, sym (here refl))
found-step r rs vs i false None here more e = cc
found-step r rs vs i false (Some k) here more e =
    let z : 1 + k ≡ i = some-same (1 + k) i e in
    let f = more k refl in
    let next : suc k ≡ i = omega (arith, z) in
    (f.0, subst (λ n. slice_get (r ∷ rs) n ≡ Some f.0) next f.1, f.2)

pub index-found : (rs : List (List Elem)) (vs : List Denotation) (i : ℕ) → row_index rs vs ≡ Some i → IsFound rs vs i
index-found [] vs i e = cc
index-found (r ∷ rs) vs i e =
    found-step r rs vs i (is_end (behind r vs)) (row_index rs vs) (row-is r vs) (λ k. index-found rs vs k) e

pub mapped-item : {X Y : Type 0} (f : X → Y) (xs : List X) (i : ℕ) (y : Y) → slice_get (map f xs) i ≡ Some y
    → (x : X) × (slice_get xs i ≡ Some x) × (y ≡ f x)
mapped-item f [] i y h = cc
mapped-item f (x ∷ xs) zero y h = (x, refl, sym (some-same (f x) y h))
mapped-item f (x ∷ xs) (suc i) y h = mapped-item f xs i y h

pub one-same : (x y : Elem) → x ∷ [] ≡ y ∷ [] → x ≡ y
one-same x y h = cc

head-same : (a c : Denotation) → a ∷ [] ≡ c ∷ [] → a ≡ c
head-same a c h = cc

-- a symbol with these arguments and this value is an atom, and this is its variable
pub record HasVariable (b : GroundBase) (n s : ℕ) (vs : List Denotation) (ov : Option Denotation) : Type 0 where
  pub a : GroundAtom
  pub m : ℕ
  pub number : n ≡ suc m
  pub at : slice_get (atoms_over b.vocabulary.symbols b.domains) m ≡ Some a
  pub symbol : s ≡ a.symbol
  pub args : vs ≡ map denotation_of a.args
  pub value : ov ≡ option_map denotation_of a.value

no-value : (o : Option ℕ) → false ≡ is_some o → o ≡ None
no-value None h = refl
no-value (Some ty) h = cc

some-value : (o : Option ℕ) → true ≡ is_some o → (ty : ℕ) × (o ≡ Some ty)
some-value None h = cc
some-value (Some ty) h = (ty, refl)

-- the variable of a symbol with arguments and a value
abbrev variable-at : GroundBase → ℕ → List Denotation → Option Denotation → Option ℕ
variable-at b s vs ov = var_of_value b s (row_index (tuples_at b s) vs) ov

module _ (b : GroundBase) (is : IsGroundBase b) where
  type-at : (s : ℕ) (d : Symbol) → slice_get b.vocabulary.symbols s ≡ Some d → value_type_of b.vocabulary s ≡ d.value
  type-at s d at = ap (option_and_then (λ (t : Symbol). t.value)) at

  plain-found : (n s : ℕ) (vs : List Denotation) (o : Option ℕ) → value_type_of b.vocabulary s ≡ None
      → row_index (tuples_at b s) vs ≡ o → plain_var b s o ≡ Some n → HasVariable b n s vs None
  plain-found n s vs None type index h = cc
  plain-found n s vs (Some i) type index h =
      let f = index-found (tuples_at b s) vs i index in
      let d = declared_at b s i (place-below (tuples_at b s) vs i index) in
      let plain : d.0.value ≡ None = sym (type-at s d.0 d.1) ∙ type in
      let tuple : slice_get (tuples_of b.domains d.0.args) i ≡ Some f.0 = sym (ap (λ ts. slice_get ts i)
      (tuples-are b s d.0 d.1)) ∙ f.1 in
      let r = predicate-variable b s i d.0 f.0 d.1 plain tuple in record {
        a = plain-atom s f.0;
        m = r.0;
        number = sym (some-same (first_var b s + i) n h) ∙ r.1;
        at = r.2;
        symbol = refl;
        args = f.2;
        value = refl;
      }

  valued-found : (n s ty : ℕ) (vs : List Denotation) (w : Denotation) (o q : Option ℕ)
      → value_type_of b.vocabulary s ≡ Some ty → row_index (tuples_at b s) vs ≡ o
      → row_index (map (λ x. x ∷ []) (values_at b s)) (w ∷ []) ≡ q → valued_var b s o q ≡ Some n
      → HasVariable b n s vs (Some w)
  valued-found n s ty vs w None q type index place h = cc
  valued-found n s ty vs w (Some i) None type index place h = cc
  valued-found n s ty vs w (Some i) (Some j) type index place h =
      let f = index-found (tuples_at b s) vs i index in
      let d = declared_at b s i (place-below (tuples_at b s) vs i index) in
      let valued : d.0.value ≡ Some ty = sym (type-at s d.0 d.1) ∙ type in
      let tuple : slice_get (tuples_of b.domains d.0.args) i ≡ Some f.0 = sym (ap (λ ts. slice_get ts i)
      (tuples-are b s d.0 d.1)) ∙ f.1 in
      let g = index-found (map (λ x. x ∷ []) (values_at b s)) (w ∷ []) j place in
      let x = mapped-item (λ (y : Elem). y ∷ []) (values_at b s) j g.0 g.1 in
      let values : values_at b s ≡ domain_at b.domains ty = values-are b s d.0 d.1 ty valued in
      let value : slice_get (domain_at b.domains ty) j ≡ Some x.0 = sym (ap (λ ts. slice_get ts j) values) ∙ x.1 in
      let r = function-variable b s i j ty d.0 f.0 x.0 d.1 valued tuple value in record {
        a = valued-atom s f.0 x.0;
        m = r.0;
        number =
            sym (some-same (first_var b s + i * length (values_at b s) + j) n h)
            ∙ ap (λ xs. first_var b s + i * length xs + j) values ∙ r.1;
        at = r.2;
        symbol = refl;
        args = f.2;
        value = ap Some (head-same w (denotation_of x.0) (g.2 ∙ ap (map denotation_of) x.2));
      }

  -- what has a variable is an atom
  found : (n s : ℕ) (vs : List Denotation) (ov : Option Denotation)
      → is_some ov ≡ is_some (value_type_of b.vocabulary s) → variable-at b s vs ov ≡ Some n → HasVariable b n s vs ov
  found n s vs None kind h =
      plain-found n s vs (row_index (tuples_at b s) vs) (no-value (value_type_of b.vocabulary s) kind) refl h
  found n s vs (Some w) kind h =
      let ty = some-value (value_type_of b.vocabulary s) kind in
      valued-found n s ty.0 vs w (row_index (tuples_at b s) vs)
      (row_index (map (λ x. x ∷ []) (values_at b s)) (w ∷ [])) ty.1 refl refl h

  -- and each atom has its own
  plain-has : (n : ℕ) (a : GroundAtom) → (p : PredicateVar b n a)
      → variable-at b p.s (map denotation_of p.t) None ≡ Some n
  plain-has n a p =
      let same = tuples-are b p.s p.d p.declared in
      let distinct = subst IsDistinct (sym same) (tuples_distinct b.domains p.d.args is.distinct) in
      let tuple : slice_get (tuples_at b p.s) p.i ≡ Some p.t = ap (λ ts. slice_get ts p.i) same ∙ p.tuple in
      ap (plain_var b p.s) (index-is (tuples_at b p.s) p.i p.t distinct tuple) ∙ ap Some (sym p.number)

  valued-has : (n : ℕ) (a : GroundAtom) → (p : FunctionVar b n a)
      → variable-at b p.s (map denotation_of p.t) (Some (denotation_of p.x)) ≡ Some n
  valued-has n a p =
      let same = tuples-are b p.s p.d p.declared in
      let distinct = subst IsDistinct (sym same) (tuples_distinct b.domains p.d.args is.distinct) in
      let tuple : slice_get (tuples_at b p.s) p.i ≡ Some p.t = ap (λ ts. slice_get ts p.i) same ∙ p.tuple in
      let values : values_at b p.s ≡ domain_at b.domains p.ty = values-are b p.s p.d p.declared p.ty p.valued in
      let apart = subst IsDistinct (sym values) (domain_is_distinct b.domains p.ty is.distinct) in
      let value : slice_get (values_at b p.s) p.j ≡ Some p.x = ap (λ ts. slice_get ts p.j) values ∙ p.value in
      let one : slice_get (map (λ (y : Elem). y ∷ []) (values_at b p.s)) p.j ≡ Some (p.x ∷ []) =
      slice_get-map (λ (y : Elem). y ∷ []) (values_at b p.s) p.j ∙ ap (option_map (λ (y : Elem). y ∷ [])) value in
      let place : row_index (map (λ x. x ∷ []) (values_at b p.s)) (denotation_of p.x ∷ []) ≡ Some p.j =
      index-is (map (λ (y : Elem). y ∷ []) (values_at b p.s)) p.j (p.x ∷ [])
      (distinct-map (λ (y : Elem). y ∷ []) one-same (values_at b p.s) apart) one in
      ap (λ o. valued_var b p.s o (row_index (map (λ x. x ∷ []) (values_at b p.s)) (denotation_of p.x ∷ [])))
      (index-is (tuples_at b p.s) p.i p.t distinct tuple)
      ∙ ap (valued_var b p.s (Some p.i)) place
      ∙ ap (λ xs. Some (first_var b p.s + p.i * length xs + p.j)) values ∙ ap Some (sym p.number)

  has : (m : ℕ) (a : GroundAtom) → slice_get (atoms_over b.vocabulary.symbols b.domains) m ≡ Some a
      → variable-at b a.symbol (map denotation_of a.args) (option_map denotation_of a.value) ≡ Some (suc m)
  has m a at = elim (variable-of b m a at) [
    | inl p ↦ subst (λ (c : GroundAtom). variable-at b c.symbol (map denotation_of c.args)
        (option_map denotation_of c.value) ≡ Some (suc m)) (sym p.atom) (plain-has (suc m) a p)
    | inr p ↦ subst (λ (c : GroundAtom). variable-at b c.symbol (map denotation_of c.args)
        (option_map denotation_of c.value) ≡ Some (suc m)) (sym p.atom) (valued-has (suc m) a p)
  ]

-- terms of heads have one value in all structures over the domains
module _ (b : GroundBase) (v : ℕ → Bool) (e : List Elem) where
  term-same : (t : TermTree) → IsHeadTerm t → head_value b e t ≡ value_of (structure_of b v) t e
  term-same (variable n) h = refl
  term-same (integer z) h = refl
  term-same (constructed ty n) h = refl
  term-same (application s ts) h = absurd h
  term-same (summation ss) h =
      subst (λ (us : SummandTrees). value_of (bare_structure b) (summation us) e ≡ value_of (structure_of b v)
      (summation us) e) (sym h.1) refl
  term-same (product ts) h = absurd h
  term-same (aggregate k bs f t) h = absurd h

  terms-same : (ts : List TermTree) → AllByRecursion IsHeadTerm ts
      → map (head_value b e) ts ≡ values_of (structure_of b v) (terms_of ts) e
  terms-same [] h = refl
  terms-same (t ∷ ts) h =
      ap (λ d. d ∷ map (head_value b e) ts) (term-same t h.0)
      ∙ ap (λ ds. value_of (structure_of b v) t e ∷ ds) (terms-same ts h.1)

  option-same : (o : Option TermTree) → IfSome o IsHeadTerm
      → option_map (head_value b e) o ≡ option_map (λ t. value_of (structure_of b v) t e) o
  option-same None h = refl
  option-same (Some t) h = ap Some (term-same t h)

kind-mapped : {X Y : Type 0} (f : X → Y) (o : Option X) → is_some (option_map f o) ≡ is_some o
kind-mapped f None = refl
kind-mapped f (Some x) = refl

head-number : (o : Option ℕ) (n : ℕ) → is_head_at o n ≡ true → o ≡ Some n
head-number None n h = cc
head-number (Some k) n h = ap Some (eqb-true k n h)

at-head : (o : Option ℕ) (n : ℕ) → o ≡ Some n → is_head_at o n ≡ true
at-head o n h = ap (λ q. is_head_at q n) h ∙ eq-eqb n n refl

-- under an assignment the variable of a rule's head is that of the atom that is its head
module _ (b : GroundBase) (is : IsGroundBase b) (v : ℕ → Bool) (r : RuleTree)
    (typed : IsTypedRule b.vocabulary b.domains r) (e : List Elem) (m : ℕ) (a : GroundAtom)
    (at : slice_get (atoms_over b.vocabulary.symbols b.domains) m ≡ Some a) where
  pub head-is : is_head_at (head_var b r e) (suc m) ≡ true → IsHead (structure_of b v) r e a
  head-is h =
      let f = found b is (suc m) r.symbol (map (head_value b e) r.args) (option_map (head_value b e) r.value)
      (kind-mapped (head_value b e) r.value ∙ typed.kind) (head-number (head_var b r e) (suc m) h) in
      let number = f.number in
      let index : f.m ≡ m = omega (arith, number) in
      let same : f.a ≡ a = some-same f.a a (sym f.at ∙ ap (slice_get (atoms_over b.vocabulary.symbols b.domains)) index
      ∙ at) in record {
        symbol = f.symbol ∙ ap (λ (c : GroundAtom). c.symbol) same;
        args =
            sym (terms-same b v e r.args typed.args) ∙ f.args ∙ ap (λ (c : GroundAtom). map denotation_of c.args) same;
        value =
            sym (option-same b v e r.value typed.value) ∙ f.value
            ∙ ap (λ (c : GroundAtom). option_map denotation_of c.value) same;
      }

  pub is-head : IsHead (structure_of b v) r e a → is_head_at (head_var b r e) (suc m) ≡ true
  is-head h =
      at-head (head_var b r e) (suc m)
      (ap (λ s. variable-at b s (map (head_value b e) r.args) (option_map (head_value b e) r.value)) h.symbol
      ∙ ap (λ vs. variable-at b a.symbol vs (option_map (head_value b e) r.value))
      (terms-same b v e r.args typed.args ∙ h.args)
      ∙ ap (variable-at b a.symbol (map denotation_of a.args)) (option-same b v e r.value typed.value ∙ h.value)
      ∙ has b is m a at)
