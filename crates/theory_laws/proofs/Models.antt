-- A definition is completed exactly in its models.
use Rattle.std.proofs.Common.{◌≡◌, ◌≤◌, ℕ, suc, ◌+◌, ◌*◌, List, [], ◌∷◌, filter, length, Bool, true, false, ◌&&◌}
use Rattle.std.proofs.Common.{Option, Some, None, slice_get, refl, sym, ap, subst, ◌∙◌, arith, inl, inr, eq-eqb}
use Rattle.std.proofs.Common.{IsNone, nat_eq}
use Rattle.std.specs.List.{Contains, AllByRecursion, list_any, enumerate_from}
use Rattle.std.specs.Option.{option_and_then}
use Rattle.std.proofs.lemmas.Bool.{eqb-true}
use Rattle.kb_logic.specs.declared.elements.Elem.{Elem}
use Rattle.kb_logic.specs.declared.vocabularies.Symbol.{Symbol}
use Rattle.kb_logic.specs.Trees.{RuleTree, DefinitionTree}
use Rattle.kb_logic.specs.Structures.{choices, domain_at, tuples_of}
use Rattle.kb_logic.specs.Meaning.{truth_of}
use Rattle.kb_logic.specs.Bounds.{value_type_of, types_of}
use Rattle.kb_logic.specs.Models.{GroundAtom, IsDerived, IsDefined, ModelOfDefinition}
use Rattle.kb_logic.specs.KnownAtoms.{atoms_over}
use Rattle.kb_logic.specs.Domains.{AreDomainsOf}
use Rattle.kb_logic.proofs.Atoms.{tuple_elements}
use Rattle.kb_logic.proofs.AllAtoms.{atom_listed, listed_over}
use Rattle.kb_logic.proofs.Has.{Has, has_from, has_get, contains_from, has_map, map_has, has_enumerated, enumerated_has}
use Rattle.kb_logic.proofs.Tables.{has_filter, passes_filter}
use Rattle.kb_logic.proofs.Members.{all_in, in_all, every_one, one_and_all, some_one, one_is_some, from_filter}
use Rattle.lit_core.specs.Literals.{by_sign}
use Rattle.ground_core.specs.Problems.{ProblemState}
use Rattle.term_values.specs.GroundBases.{GroundBase, structure_of, known_of, first_var, values_at, HasKnown}
use Rattle.term_values.specs.KnownBases.{IsGroundBase}
use Rattle.term_values.proofs.Places.{PredicateVar, FunctionVar, variable-of}
use Rattle.term_values.proofs.Chosen.{has-index}
use Rattle.term_values.proofs.StructureAtoms.{tuples-are, values-are, atom-true}
use Rattle.term_values.proofs.TypedLaws.{domains-ground}
use Rattle.term_values.proofs.VariableLemmas.{slice_inside}
use Rattle.def_ground.specs.Answers.{answer_value}
use Rattle.def_ground.specs.Forms.{answer_of_atom}
use Rattle.def_ground.specs.Meanings.{HasRoom}
use Rattle.def_ground.specs.GroundForms.{IsGroundForm}
use Rattle.def_ground.proofs.SideValues.{has-all}
use Rattle.def_ground.proofs.TypedForms.{ground-form}
use Rattle.def_ground.specs.Definitions.{head_var, is_defined, defined_vars}
use Rattle.theory_laws.specs.DefinitionLaws.{is_head_at, is_derived}
use Rattle.theory_laws.specs.DefinitionLaws.{CompletedIsModel, CompletionIsRight, DefinitionIsAsserted}
use Rattle.def_ground.specs.Rules.{IsTypedRule, IsTypedDefinition}
use Rattle.theory_laws.proofs.Completing.{InRange, IsGroundRule, completion}
use Rattle.theory_laws.proofs.Heads.{head-is, is-head}

both-true : (x y : Bool) → (x && y) ≡ true → (x ≡ true) × (y ≡ true)
both-true true true h = (refl, refl)
both-true true false h = cc
both-true false y h = cc

and-true : (x y : Bool) → x ≡ true → y ≡ true → (x && y) ≡ true
and-true true true h k = refl
and-true true false h k = cc
and-true false y h k = cc

sign-gives : (x y : Bool) → by_sign x y ≡ true → x ≡ y
sign-gives true true h = refl
sign-gives true false h = cc
sign-gives false true h = cc
sign-gives false false h = refl

sign-takes : (x y : Bool) → (x ≡ true → y ≡ true) → (y ≡ true → x ≡ true) → by_sign x y ≡ true
sign-takes true true f g = refl
sign-takes true false f g = f refl
sign-takes false true f g = g refl
sign-takes false false f g = refl

-- which atoms are those of defined symbols
module _ (b : GroundBase) (d : DefinitionTree) where
  abbrev atoms : List GroundAtom
  atoms = atoms_over b.vocabulary.symbols b.domains

  -- the variable of such an atom
  record IsDefinedVar (n : ℕ) : Type 0 where
    m : ℕ
    a : GroundAtom
    number : n ≡ suc m
    at : slice_get (atoms_over b.vocabulary.symbols b.domains) m ≡ Some a
    symbol : is_defined d a.symbol ≡ true

  of-defined : (n : ℕ) → Contains (defined_vars b d) n → IsDefinedVar n
  of-defined n c =
      let test = λ (x : ℕ × GroundAtom). is_defined d x.1.symbol in
      let all = enumerate_from 1 (atoms_over b.vocabulary.symbols b.domains) in
      let x = map_has (λ (y : ℕ × GroundAtom). y.0) (filter test all) n (has_from (defined_vars b d) n c) in
      let passes = passes_filter test all x.0 x.1 in
      let among = has_from all x.0 (from_filter test all x.0 (contains_from (filter test all) x.0 x.1)) in
      let r = enumerated_has 1 (atoms_over b.vocabulary.symbols b.domains) x.0.0 x.0.1 among in
      let number = r.1 in
      let is = x.2 in record {
        m = r.0;
        a = x.0.1;
        number = omega (arith, number, is);
        at = r.2;
        symbol = passes;
      }

  in-defined : (m : ℕ) (a : GroundAtom) → slice_get (atoms_over b.vocabulary.symbols b.domains) m ≡ Some a
      → is_defined d a.symbol ≡ true → Contains (defined_vars b d) (suc m)
  in-defined m a at symbol =
      let test = λ (x : ℕ × GroundAtom). is_defined d x.1.symbol in
      let all = enumerate_from 1 (atoms_over b.vocabulary.symbols b.domains) in
      let next : 1 + m ≡ suc m = omega arith in
      let here = subst (λ k. Has all (k, a)) next
      (has_enumerated 1 m (atoms_over b.vocabulary.symbols b.domains) a at) in
      contains_from (defined_vars b d) (suc m)
      (has_map (λ (y : ℕ × GroundAtom). y.0) (filter test all) (suc m, a) (has_filter test all (suc m, a) here symbol))

  defined-is : (s : ℕ) → is_defined d s ≡ true → IsDefined d s
  defined-is s h =
      let r = some_one (λ (q : RuleTree). nat_eq q.symbol s) d.rules h in (r.0, r.1, eqb-true r.0.symbol s r.2)

  is-defined : (s : ℕ) → IsDefined d s → is_defined d s ≡ true
  is-defined s h = one_is_some (λ (q : RuleTree). nat_eq q.symbol s) d.rules h.0 h.1 (eq-eqb h.0.symbol s h.2)

-- derived atoms
module _ (b : GroundBase) (is : IsGroundBase b) (d : DefinitionTree)
    (typed : IsTypedDefinition b.vocabulary b.domains d) (v : ℕ → Bool) (m : ℕ) (a : GroundAtom)
    (at : slice_get (atoms_over b.vocabulary.symbols b.domains) m ≡ Some a) where
  abbrev told : RuleTree → List Elem → Bool
  told r e = is_head_at (head_var b r e) (suc m) && truth_of (structure_of b v) r.body e

  derived-is : is_derived b v d.rules (suc m) ≡ true → IsDerived (structure_of b v) d a
  derived-is h =
      let r = some_one (λ (q : RuleTree). list_any (told q) (choices b.domains q.vars)) d.rules h in
      let e = some_one (told r.0) (choices b.domains r.0.vars) r.2 in
      let both = both-true (is_head_at (head_var b r.0 e.0) (suc m)) (truth_of (structure_of b v) r.0.body e.0) e.2 in (
        r.0,
        r.1,
        (
          e.0,
          e.1,
          head-is b is v r.0 (all_in (IsTypedRule b.vocabulary b.domains) d.rules typed r.0 r.1)
              e.0 m a at both.0,
          both.1,
        ),
      )

  is-derived : IsDerived (structure_of b v) d a → is_derived b v d.rules (suc m) ≡ true
  is-derived h =
      let r = h.0 in
      let e = h.2.0 in
      one_is_some (λ (q : RuleTree). list_any (told q) (choices b.domains q.vars)) d.rules r h.1
      (one_is_some (told r) (choices b.domains r.vars) e h.2.1
      (and-true (is_head_at (head_var b r e) (suc m)) (truth_of (structure_of b v) r.body e)
      (is-head b is v r (all_in (IsTypedRule b.vocabulary b.domains) d.rules typed r h.1) e m a at h.2.2) h.2.3))

-- what is known of an atom is its value
answer-is : (b : GroundBase) (v : ℕ → Bool) → HasKnown b v → (n : ℕ)
    → answer_value v (answer_of_atom (known_of b n) n) ≡ v n
answer-is b v known n = by (known_of b n) refl
  where
    by : (o : Option Bool) → known_of b n ≡ o → answer_value v (answer_of_atom o n) ≡ v n
    by None e = refl
    by (Some c) e = sym (known n c e)

pub completed-is-model : CompletedIsModel
completed-is-model b d v domains typed over = (
  λ h a inside defined.
      let i = has-index (atoms_over b.vocabulary.symbols b.domains) a
      (atom_listed b.vocabulary.symbols b.domains a inside) in
      let m = i.0 in
      let one = every_one (λ n. by_sign (answer_value v (answer_of_atom (known_of b n) n)) (is_derived b v d.rules n))
      (defined_vars b d) h (suc m) (in-defined b d m a i.1 (is-defined b d a.symbol defined)) in
      let same : v (suc m) ≡ is_derived b v d.rules (suc m) = sym (answer-is b v over.known (suc m))
      ∙ sign-gives (answer_value v (answer_of_atom (known_of b (suc m)) (suc m)))
      (is_derived b v d.rules (suc m)) one in
      let holds = atom-true b (domains-ground b domains) v m a i.1 in (
        λ k. derived-is b (domains-ground b domains) d typed v m a i.1 (sym same ∙ holds.0 k),
        λ k. holds.1 (same ∙ is-derived b (domains-ground b domains) d typed v m a i.1 k),
      ),
  λ h. one_and_all (λ n. by_sign (answer_value v (answer_of_atom (known_of b n) n)) (is_derived b v d.rules n))
      (defined_vars b d) (λ n c. one h n (of-defined b d n c)),
)
  where
    at-variable : ModelOfDefinition b.vocabulary (structure_of b v) d → (m : ℕ) (a : GroundAtom)
        → slice_get (atoms_over b.vocabulary.symbols b.domains) m ≡ Some a → is_defined d a.symbol ≡ true
        → by_sign (answer_value v (answer_of_atom (known_of b (suc m)) (suc m))) (is_derived b v d.rules (suc m)) ≡ true
    at-variable h m a at symbol =
        let inside = listed_over b.vocabulary.symbols b.domains a
        (has_get (atoms_over b.vocabulary.symbols b.domains) m a at) in
        let says = h a inside (defined-is b d a.symbol symbol) in
        let holds = atom-true b (domains-ground b domains) v m a at in
        let value = answer-is b v over.known (suc m) in
        sign-takes (answer_value v (answer_of_atom (known_of b (suc m)) (suc m))) (is_derived b v d.rules (suc m))
        (λ x. is-derived b (domains-ground b domains) d typed v m a at (says.0 (holds.1 (sym value ∙ x))))
        (λ x. value ∙ holds.0 (says.1 (derived-is b (domains-ground b domains) d typed v m a at x)))

    one : ModelOfDefinition b.vocabulary (structure_of b v) d → (n : ℕ) → IsDefinedVar b d n
        → by_sign (answer_value v (answer_of_atom (known_of b n) n)) (is_derived b v d.rules n) ≡ true
    one h n x =
        subst (λ k. by_sign (answer_value v (answer_of_atom (known_of b k) k)) (is_derived b v d.rules k) ≡ true)
        (sym x.number) (at-variable h x.m x.a x.at x.symbol)

none-is : (o : Option ℕ) → o ≡ None → IsNone o
none-is None e = refl
none-is (Some ty) e = cc

-- the atoms have variables of the problem
module _ (b : GroundBase) (p : ProblemState) (room : HasRoom b p) where
  plain-in : (n : ℕ) (a : GroundAtom) → PredicateVar b n a → n ≤ p.vars
  plain-in n a x =
      let inside = slice_inside (tuples_of b.domains x.d.args) x.i x.t x.tuple in
      let size = ap length (tuples-are b x.s x.d x.declared) in
      let none = none-is (value_type_of b.vocabulary x.s)
      (ap (option_and_then (λ (t : Symbol). t.value)) x.declared ∙ x.plain) in
      let r = room.predicates x.s x.i none (omega (arith, inside, size)) in
      let number = x.number in
      omega (arith, r, number)

  valued-in : (n : ℕ) (a : GroundAtom) → FunctionVar b n a → n ≤ p.vars
  valued-in n a x =
      let inside = slice_inside (tuples_of b.domains x.d.args) x.i x.t x.tuple in
      let size = ap length (tuples-are b x.s x.d x.declared) in
      let values = values-are b x.s x.d x.declared x.ty x.valued in
      let count = ap length values in
      let among = slice_inside (domain_at b.domains x.ty) x.j x.x x.value in
      let r = room.functions x.s x.i x.j (omega (arith, inside, size)) (omega (arith, among, count)) in
      let number : n ≡ first_var b x.s + x.i * length (values_at b x.s) + x.j = x.number
      ∙ ap (λ xs. first_var b x.s + x.i * length xs + x.j) (sym values) in
      omega (arith, r, number)

  in-range : (d : DefinitionTree) → AllByRecursion (InRange p.vars) (defined_vars b d)
  in-range d = in_all (InRange p.vars) (defined_vars b d) (λ n c. let x = of-defined b d n c in
      let number = x.number in (
        omega (arith, number),
        elim (variable-of b x.m x.a x.at) [
          | inl q ↦ let r = plain-in (suc x.m) x.a q in omega (arith, number, r)
          | inr q ↦ let r = valued-in (suc x.m) x.a q in omega (arith, number, r)
        ],
      ))

rules-ground : (b : GroundBase) → AreDomainsOf b.vocabulary b.domains → (rs : List RuleTree)
    → AllByRecursion (IsTypedRule b.vocabulary b.domains) rs → AllByRecursion (IsGroundRule b) rs
rules-ground b given [] h = tt
rules-ground b given (r ∷ rs) h = (
  has-all (λ e. IsGroundForm b r.body e) (choices b.domains r.vars)
      (λ e m. ground-form b given r.body (types_of r.vars) e
      (tuple_elements b.domains (types_of r.vars) e (contains_from (choices b.domains r.vars) e m)) h.0.typed
      h.0.placed),
  rules-ground b given rs h.1,
)

pub completion-is-right : CompletionIsRight
completion-is-right b d p domains typed fine at room =
    completion b d p fine at room (rules-ground b domains d.rules typed) (in-range b p room d)

pub definition-is-asserted : DefinitionIsAsserted
definition-is-asserted b d p domains typed fine at room =
    let all = completion-is-right b d p domains typed fine at room in record {
      fine = all.fine;
      grows = all.grows;
      gives =
          λ v s. let g = all.gives v s in (g.0, (completed-is-model b d v domains typed (at v g.0)).0 g.1);
      extends = λ v s m. all.extends v s ((completed-is-model b d v domains typed (at v s)).1 m);
      unique = all.unique;
    }
