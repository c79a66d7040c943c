-- The atoms of a defined symbol, tuple by tuple, and definitions symbol by symbol.
use Rattle.std.proofs.Common.{◌≡◌, ℕ, ◌==◌, List, [], ◌∷◌, Bool, true, false, Result, Option, None, Some}
use Rattle.std.proofs.Common.{refl, sym, ap, ◌∙◌, subst, slice_get, arith}
use Rattle.std.specs.List.{AllByRecursion, Contains, list_any}
use Rattle.std.proofs.lemmas.Bool.{true≢false, eqb-true, eq-eqb}
use Rattle.kb_logic.specs.declared.elements.Elem.{Elem}
use Rattle.kb_logic.specs.declared.vocabularies.Symbol.{Symbol}
use Rattle.kb_logic.specs.Trees.{RuleTree, DefinitionTree, FormulaTree, formulas_of}
use Rattle.kb_logic.specs.Structures.{domain_at, tuples_of}
use Rattle.kb_logic.specs.Models.{HasValueIn, IsAtomOver, IsDefined}
use Rattle.kb_logic.specs.KnownAtoms.{KnownAtoms}
use Rattle.kb_logic.proofs.Members.{all_in, in_all, some_one, one_is_some}
use Rattle.bound_laws.specs.Heads.{HasPlainHead}
use Rattle.bound_laws.specs.Closures.{Obeys, AllObey, value_atom, ObeysDefinition}
use Rattle.quantifier_bounds.specs.Fits.{Fits, AllFit, RuleFits}
use Rattle.quantifier_bounds.specs.Rules.{Derives, TupleDerives, SymbolDerives}
use Rattle.quantifier_bounds.specs.Steps.{IsStep, Narrows}
use Rattle.quantifier_bounds.specs.declared.fault.BoundFault.{BoundFault}
use Rattle.quantifier_bounds.proofs.Made.{itself, nothing}
use Rattle.quantifier_bounds.proofs.Lasts.{all_also}
use Rattle.quantifier_bounds.proofs.Steps.{SoFar, narrows_by}
use Rattle.quantifier_bounds.proofs.Values.{From}

pub plain_heads : (s : List Symbol) (d : List (List Elem)) (rs : List RuleTree) → AllByRecursion (RuleFits s d) rs
    → AllByRecursion HasPlainHead rs
plain_heads s d rs h = all_also (λ r f. f.plain) rs h

pub same_rules : (k j : KnownAtoms) (rs : List RuleTree) → j.symbols ≡ k.symbols → j.domains ≡ k.domains
    → AllByRecursion (RuleFits k.symbols k.domains) rs → AllByRecursion (RuleFits j.symbols j.domains) rs
same_rules k j rs s d h = subst (λ ds. AllByRecursion (RuleFits j.symbols ds) rs) (sym d)
    (subst (λ ss. AllByRecursion (RuleFits ss k.domains) rs) (sym s) h)

-- ---- one tuple

pub values_over : (k : KnownAtoms) (s ty : ℕ) (d : Symbol) (r : List Elem) → slice_get k.symbols s ≡ Some d
    → d.value ≡ Some ty → Contains (tuples_of k.domains d.args) r
    → AllByRecursion (λ x. IsAtomOver k.symbols k.domains (value_atom s r x)) (domain_at k.domains ty)
values_over k s ty d r at value tuple = in_all _ (domain_at k.domains ty)
    (λ x within. (d, at, tuple, subst (λ o. HasValueIn k.domains o (Some x)) (sym value) within))

pub predicate_over : (k : KnownAtoms) (s : ℕ) (d : Symbol) (r : List Elem) → slice_get k.symbols s ≡ Some d
    → d.value ≡ None → Contains (tuples_of k.domains d.args) r
    → IsAtomOver k.symbols k.domains (record { symbol = s; args = r; value = None })
predicate_over k s d r at value tuple = (d, at, tuple, subst (λ o. HasValueIn k.domains o None) (sym value) tt)

module _ (k : KnownAtoms) (d : DefinitionTree) (s : ℕ) (r : List Elem) (o : Option ℕ) where
  pub tuple_none : (new : KnownAtoms) (res : Result Bool BoundFault) → o ≡ None
      → Narrows k new res (λ q. Derives q d (record { symbol = s; args = r; value = None }))
      → Narrows k new res (λ q. TupleDerives q d s o r)
  tuple_none new res is h = subst (λ u. Narrows k new res (λ q. TupleDerives q d s u r)) (sym is) h

  pub tuple_some : (ty : ℕ) (domains : List (List Elem)) (values : List Elem) (new : KnownAtoms)
      (res : Result Bool BoundFault) → o ≡ Some ty → domains ≡ k.domains → values ≡ domain_at domains ty
      → Narrows k new res (λ q. AllByRecursion (λ x. Derives q d (value_atom s r x)) values)
      → Narrows k new res (λ q. TupleDerives q d s o r)
  tuple_some ty domains values new res is same vs h =
      subst (λ u. Narrows k new res (λ q. TupleDerives q d s u r)) (sym is)
      (narrows_by k new res (λ q. AllByRecursion (λ x. Derives q d (value_atom s r x)) values)
      (λ q. TupleDerives q d s (Some ty) r)
      (λ q c l m w. subst (λ xs. AllByRecursion (λ x. Derives q d (value_atom s r x)) xs)
      (sym (vs ∙ ap (λ ds. domain_at ds ty) (same ∙ sym m.domains))) w)
      (λ stays w. subst (λ xs. AllByRecursion (λ x. Derives new d (value_atom s r x)) xs)
      (vs ∙ ap (λ ds. domain_at ds ty) (same ∙ ap (λ j. j.domains) (sym stays))) w) h)

-- ---- one symbol

pub tuples_in : (xs : List (List Elem)) → AllByRecursion (Contains xs) xs
tuples_in xs = in_all (Contains xs) xs (λ x at. at)

module _ (k : KnownAtoms) (d : DefinitionTree) (s : ℕ) (declared : Symbol) where
  defined_any : IsDefined d s → list_any (λ (r : RuleTree). r.symbol == s) d.rules ≡ true
  defined_any h = one_is_some (λ (r : RuleTree). r.symbol == s) d.rules h.0 h.1 (eq-eqb h.0.symbol s h.2)

  any_defined : list_any (λ (r : RuleTree). r.symbol == s) d.rules ≡ true → IsDefined d s
  any_defined h =
      let r = some_one (λ (r : RuleTree). r.symbol == s) d.rules h in (r.0, r.1, eqb-true r.0.symbol s r.2)

  pub symbol_undefined : (b : Bool) → b ≡ list_any (λ (r : RuleTree). r.symbol == s) d.rules → b ≡ false
      → IsStep k k false (λ q. SymbolDerives q d s declared)
  symbol_undefined b is no_ = nothing k (λ q. SymbolDerives q d s declared)
      (λ defined. absurd (true≢false (sym (defined_any defined) ∙ sym is ∙ no_)))

  pub symbol_defined : (b : Bool) (domains tuples : List (List Elem)) (new : KnownAtoms) (res : Result Bool BoundFault)
      → b ≡ list_any (λ (r : RuleTree). r.symbol == s) d.rules → b ≡ true → domains ≡ k.domains
      → tuples ≡ tuples_of domains declared.args
      → Narrows k new res (λ q. AllByRecursion (TupleDerives q d s declared.value) tuples)
      → Narrows k new res (λ q. SymbolDerives q d s declared)
  symbol_defined b domains tuples new res is yes_ same ts h =
      narrows_by k new res (λ q. AllByRecursion (TupleDerives q d s declared.value) tuples)
      (λ q. SymbolDerives q d s declared)
      (λ q c l m w. subst (AllByRecursion (TupleDerives q d s declared.value))
      (sym (ts ∙ ap (λ ds. tuples_of ds declared.args) (same ∙ sym m.domains))) (w (any_defined (sym is ∙ yes_))))
      (λ stays w defined. subst (AllByRecursion (TupleDerives new d s declared.value))
      (ts ∙ ap (λ ds. tuples_of ds declared.args) (same ∙ ap (λ j. j.domains) (sym stays))) w) h

-- ---- a definition

module _ (q : KnownAtoms) (d : DefinitionTree) where
  to_tuple : ObeysDefinition q d → (s : ℕ) (declared : Symbol) (o : Option ℕ) (r : List Elem)
      → slice_get q.symbols s ≡ Some declared → declared.value ≡ o → Contains (tuples_of q.domains declared.args) r
      → IsDefined d s → TupleDerives q d s o r
  to_tuple h s declared None r at value tuple defined =
      h (record { symbol = s; args = r; value = None }) (predicate_over q s declared r at value tuple) defined
  to_tuple h s declared (Some ty) r at value tuple defined = in_all _ (domain_at q.domains ty) (λ x within.
      h (value_atom s r x) (d_at x within) defined)
    where
      d_at : (x : Elem) → Contains (domain_at q.domains ty) x → IsAtomOver q.symbols q.domains (value_atom s r x)
      d_at x within = (declared, at, tuple, subst (λ o. HasValueIn q.domains o (Some x)) (sym value) within)

  from_tuple : (s : ℕ) (r : List Elem) (o : Option ℕ) (x : Option Elem) → HasValueIn q.domains o x
      → TupleDerives q d s o r → Derives q d (record { symbol = s; args = r; value = x })
  from_tuple s r None None h t = t
  from_tuple s r None (Some x) h t = absurd h
  from_tuple s r (Some ty) None h t = absurd h
  from_tuple s r (Some ty) (Some x) h t = all_in _ (domain_at q.domains ty) t x h

pub definition_start : (k : KnownAtoms) (d : DefinitionTree) (symbols : List Symbol) → symbols ≡ k.symbols
    → SoFar k k false (λ q. ObeysDefinition q d) (From (λ s declared q. SymbolDerives q d s declared) symbols 0)
definition_start k d symbols is = record {
  more = itself k;
  sound = λ q c l m h. m;
  left = λ q c l m h s declared le at defined. in_all _ (tuples_of q.domains declared.args)
      (λ r tuple. to_tuple q d h s declared declared.value r
      (subst (λ ss. slice_get ss s ≡ Some declared) (is ∙ sym m.symbols) at) refl tuple defined);
  same = λ n. refl;
  holds = λ n h a over defined. from_tuple k d a.symbol a.args over.0.value a.value over.3
      (all_in _ (tuples_of k.domains over.0.args)
      (h a.symbol over.0 (omega arith) (subst (λ ss. slice_get ss a.symbol ≡ Some over.0) (sym is) over.1) defined)
      a.args over.2);
  fewer = λ n. absurd (true≢false (sym n));
}

-- ---- sentences

pub all_obey : (q : KnownAtoms) (v : Bool) (fs : List FormulaTree) (e : List Elem)
    → AllByRecursion (λ f. Obeys q v f e) fs
    → AllObey q v (formulas_of fs) e
all_obey q v [] e h = tt
all_obey q v (f ∷ fs) e h = (h.0, all_obey q v fs e h.1)

pub obey_all : (q : KnownAtoms) (v : Bool) (fs : List FormulaTree) (e : List Elem) → AllObey q v (formulas_of fs) e
    → AllByRecursion (λ f. Obeys q v f e) fs
obey_all q v [] e h = tt
obey_all q v (f ∷ fs) e h = (h.0, obey_all q v fs e h.1)

pub all_fit : (s : List Symbol) (d : List (List Elem)) (fs : List FormulaTree) (e : List Elem)
    → AllByRecursion (λ f. Fits s d f e) fs → AllFit s d (formulas_of fs) e
all_fit s d [] e h = tt
all_fit s d (f ∷ fs) e h = (h.0, all_fit s d fs e h.1)
