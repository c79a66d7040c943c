-- The atom that an application names.
use Rattle.std.proofs.Common.{◌≡◌, ℕ, List, map, Bool, Result, Option, None, Some, option_map, Vec}
use Rattle.std.proofs.Common.{refl, sym, ap, ◌∙◌, subst, rules}
use Rattle.std.specs.declared.alloc.Global.{Global}
use Rattle.kb_logic.specs.declared.elements.Elem.{Elem}
use Rattle.kb_logic.specs.declared.syntax.Term.{Term, Apply, the_lemmas}
use Rattle.kb_logic.specs.Trees.{TermTree, application, TermTrees, no_terms, more_terms, terms_of}
use Rattle.kb_logic.specs.Views.{term_view}
use Rattle.kb_logic.specs.Denotations.{Denotation, denotation_of}
use Rattle.kb_logic.specs.Models.{GroundAtom, IsAtomOver}
use Rattle.kb_logic.specs.KnownAtoms.{KnownAtoms}
use Rattle.kb_logic.proofs.Atoms.{denotes_one}
use Rattle.partial_structures.specs.KnownAtoms.{value_at}
use Rattle.partial_structures.specs.Consistency.{IsConsistent, KnowsMore}
use Rattle.partial_structures.proofs.Sames.{atom_by}
use Rattle.certain_truth.specs.Certainty.{truth_if, known_cons, known_value, known_values}
use Rattle.certain_truth.proofs.Monotony.{certainty_is_monotone}
use Rattle.certain_truth.proofs.Soundness.{rows_same}
use Rattle.bound_laws.specs.Closures.{IsNamed, AtomHas}
use Rattle.quantifier_bounds.specs.Places.{IsNamedAtom}
use Rattle.quantifier_bounds.specs.Steps.{Narrows}
use Rattle.quantifier_bounds.specs.Walks.{Gives}
use Rattle.quantifier_bounds.specs.declared.fault.BoundFault.{BoundFault}
use Rattle.quantifier_bounds.proofs.Steps.{Follow, narrows_by}

pub term_view-Apply : (s : ℕ) (ts : Vec Term Global) → term_view (Apply s ts) ≡ application s
    (terms_of (map term_view ts.items))
term_view-Apply s ts = search (rules, the_lemmas)

cons_stays : (o p : Option Denotation) (us ws : Option (List Denotation)) (vs : List Denotation)
    → ((d : Denotation) → o ≡ Some d → p ≡ Some d) → ((ds : List Denotation) → us ≡ Some ds → ws ≡ Some ds)
    → known_cons o us ≡ Some vs → known_cons p ws ≡ Some vs
cons_stays None p us ws vs f g h = absurd (cc)
cons_stays (Some d) p None ws vs f g h = absurd (cc)
cons_stays (Some d) p (Some ds) ws vs f g h =
    ap (λ o. known_cons o ws) (f d refl) ∙ ap (known_cons (Some d)) (g ds refl) ∙ h

module _ (k q : KnownAtoms) (c : IsConsistent q) (more : KnowsMore k q) where
  values_stay : (ts : TermTrees) (e : List Elem) (vs : List Denotation) → known_values k ts e ≡ Some vs
      → known_values q ts e ≡ Some vs
  values_stay no_terms e vs h = h
  values_stay (more_terms t ts) e vs h =
      cons_stays (known_value k t e) (known_value q t e) (known_values k ts e) (known_values q ts e) vs
      ((certainty_is_monotone k q c more).1 t e) (values_stay ts e) h

  value_stays : (t : Option TermTree) (e : List Elem) (x : Option Elem)
      → option_map (λ u. known_value k u e) t ≡ option_map (λ y. Some (denotation_of y)) x
      → option_map (λ u. known_value q u e) t ≡ option_map (λ y. Some (denotation_of y)) x
  value_stays None e None h = refl
  value_stays None e (Some x) h = absurd (cc)
  value_stays (Some t) e None h = absurd (cc)
  value_stays (Some t) e (Some x) h = ap Some ((certainty_is_monotone k q c more).1 t e (denotation_of x) (cc))

  pub named_stays : (s : ℕ) (ts : TermTrees) (t : Option TermTree) (e : List Elem) (a : GroundAtom)
      → IsNamed k s ts t e a → IsNamed q s ts t e a
  named_stays s ts t e a h = record {
    symbol = h.symbol;
    args = values_stay ts e (map denotation_of a.args) h.args;
    value = value_stays t e a.value h.value;
  }

  pub over_more : (a : GroundAtom) → IsAtomOver k.symbols k.domains a → IsAtomOver q.symbols q.domains a
  over_more a h = subst (λ s. IsAtomOver s q.domains a) (sym more.symbols)
      (subst (λ d. IsAtomOver k.symbols d a) (sym more.domains) h)

some_one : {A : Type 0} {x y : A} → Some x ≡ Some y → x ≡ y
some_one h = cc

one_value : (x y : Option Elem) → option_map (λ z. Some (denotation_of z)) x ≡ option_map (λ z. Some (denotation_of z))
    y
    → x ≡ y
one_value None None h = refl
one_value None (Some y) h = absurd (cc)
one_value (Some x) None h = absurd (cc)
one_value (Some x) (Some y) h = ap Some (denotes_one x y (some_one (some_one h)))

pub one_named : (k : KnownAtoms) (s : ℕ) (ts : TermTrees) (t : Option TermTree) (e : List Elem) (a b : GroundAtom)
    → IsNamed k s ts t e a → IsNamed k s ts t e b → a ≡ b
one_named k s ts t e a b h i =
    atom_by a b (sym h.symbol ∙ i.symbol) (rows_same a.args b.args (some_one (sym h.args ∙ i.args)))
    (one_value a.value b.value (sym h.value ∙ i.value))

module _ (k : KnownAtoms) (s : ℕ) (ts : TermTrees) (t : Option TermTree) (e : List Elem) (v : Bool) where
  has_down : (o : Option GroundAtom) → IsNamedAtom k s ts t e o → Follow k (λ q. AtomHas q v s ts t e) (Gives o v)
  has_down None n q c l m h = tt
  has_down (Some a) n q c l m h = h a (over_more k q c m a n.0) (named_stays k q c m s ts t e a n.1)

  has_up : (o : Option GroundAtom) → IsNamedAtom k s ts t e o → Gives o v k → AtomHas k v s ts t e
  has_up None n g b over named = absurd (n b over named)
  has_up (Some a) n g b over named = subst (λ d. value_at k d ≡ truth_if v) (one_named k s ts t e a b n.1 named) g

  pub gives_has : (o : Option GroundAtom) (new : KnownAtoms) (r : Result Bool BoundFault) → IsNamedAtom k s ts t e o
      → Narrows k new r (Gives o v) → Narrows k new r (λ q. AtomHas q v s ts t e)
  gives_has o new r n h =
      narrows_by k new r (Gives o v) (λ q. AtomHas q v s ts t e) (has_down o n)
      (λ same g. subst (λ j. AtomHas j v s ts t e) (sym same) (has_up o n (subst (Gives o v) same g))) h
