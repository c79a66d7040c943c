-- Where no atom is unknown, what is certain is the truth, and every value is known.
use Rattle.std.proofs.Common.{◌≡◌, ℕ, ℤ, pos, List, [], ◌∷◌, ◌++◌, Bool, true, false, if◌then◌else◌, Option, None, Some}
use Rattle.std.proofs.Common.{is_some, refl, sym, ap, ◌∙◌, subst, slice_get}
use Rattle.std.specs.Option.{option_map}
use Rattle.std.specs.List.{list_any, Contains, AllByRecursion}
use Rattle.std.proofs.lemmas.Bool.{true≢false}
use Rattle.kb_logic.specs.declared.elements.Elem.{Elem}
use Rattle.kb_logic.specs.declared.vocabularies.Bound.{Bound}
use Rattle.kb_logic.specs.declared.vocabularies.Symbol.{Symbol}
use Rattle.kb_logic.specs.declared.vocabularies.Vocabulary.{Vocabulary}
use Rattle.kb_logic.specs.declared.structures.Structure.{Structure}
use Rattle.kb_logic.specs.declared.syntax.Cmp.{Cmp}
use Rattle.kb_logic.specs.declared.syntax.Cmp.TheVariants as cmp
use Rattle.kb_logic.specs.Trees.{TermTree, variable, integer, constructed, application, summation, product, aggregate}
use Rattle.kb_logic.specs.Trees.{TermTrees, no_terms, more_terms, SummandTrees, no_summands, more_summands, FormulaTree}
use Rattle.kb_logic.specs.Trees.{verum, falsum, atom, comparison, negation, conjunction, disjunction, implication}
use Rattle.kb_logic.specs.Trees.{equivalence, universal, existential, numbered, FormulaTrees, no_formulas}
use Rattle.kb_logic.specs.Trees.{more_formulas}
use Rattle.kb_logic.specs.Structures.{IsStructure, choices}
use Rattle.kb_logic.specs.Denotations.{Denotation, denotation_of, as_number, aggregate_value, compared}
use Rattle.kb_logic.specs.Meaning.{assignments, summand_plus, number_value, product_from, value_of, values_of, truth_of}
use Rattle.kb_logic.specs.Models.{GroundAtom, HasValueIn, AtomHolds}
use Rattle.kb_logic.proofs.Members.{some_one}
use Rattle.partial_structures.specs.KnownAtoms.{KnownAtoms, IsAtomOver, same_atom, value_of_row, value_at}
use Rattle.partial_structures.specs.Extension.{ExtendsData}
use Rattle.certain_truth.specs.Certainty.{truth_if, not_certain, both_certain, either_certain, alike_certain}
use Rattle.certain_truth.specs.Certainty.{all_certain, any_certain, counted, known_count, known_cons, chosen}
use Rattle.certain_truth.specs.Certainty.{known_weights, compared_known, or_else, comparison_certain, known_truth}
use Rattle.certain_truth.specs.Certainty.{known_value, known_values, known_sum, equation_certain, certain_truth}
use Rattle.certain_truth.specs.Certainty.{all_parts, any_part}
use Rattle.partial_structures.specs.Applications.{given_value, applied_known, are_typed, arguments_typed, atom_certain}
use Rattle.partial_structures.specs.Consistency.{KnowsAll}
use Rattle.certain_truth.specs.WellApplied.{IsDefinedAt, IsNoFunction, AppliesWell, AllApplyWell, OperandsApplyWell}
use Rattle.certain_truth.specs.WellApplied.{IsWellApplied, AreWellApplied}
use Rattle.certain_truth.specs.Laws.{CertaintyIsTruth}
use Rattle.partial_structures.specs.declared.truths.Truth.{Truth}
use Rattle.partial_structures.specs.declared.truths.Truth.TheVariants.{Yes, No, Unknown}
use Rattle.kb_logic.proofs.Has.{has_from}
use Rattle.partial_structures.proofs.Sames.{atom_is}
use Rattle.partial_structures.proofs.KnownHold.{known_atoms_hold}
use Rattle.partial_structures.proofs.Walks.{given_some, tuple_from}
use Rattle.certain_truth.proofs.Soundness.{Sound, KnownIs, row_at, value_sound, values_sound, formula_sound}

-- t is no longer open
abbrev IsCertain : Truth → Type 0
IsCertain Yes = Unit {0}
IsCertain No = Unit {0}
IsCertain Unknown = ⊥

abbrev IsKnown : {X : Type 0} → Option X → Type 0
IsKnown None = ⊥
IsKnown (Some v) = Unit {0}

certain_is : (t : Truth) (b : Bool) → IsCertain t → Sound t b → t ≡ truth_if b
certain_is Yes b c h = ap truth_if (sym h)
certain_is No b c h = ap truth_if (sym h)
certain_is Unknown b c h = absurd c

known_is : {X : Type 0} (o : Option X) (v : X) → IsKnown o → KnownIs o v → o ≡ Some v
known_is None v c h = absurd c
known_is (Some u) v c h = ap Some (sym h)

not_open : (t : Truth) → (t ≡ Unknown → ⊥) → IsCertain t
not_open Yes h = tt
not_open No h = tt
not_open Unknown h = h refl

known_map : {X Y : Type 0} (f : X → Y) (o : Option X) → IsKnown o → IsKnown (option_map f o)
known_map f None c = c
known_map f (Some v) c = tt

certain_not : (t : Truth) → IsCertain t → IsCertain (not_certain t)
certain_not Yes c = tt
certain_not No c = tt
certain_not Unknown c = c

certain_both : (t u : Truth) → IsCertain t → IsCertain u → IsCertain (both_certain t u)
certain_both Yes u c d = d
certain_both No u c d = tt
certain_both Unknown u c d = absurd c

certain_either : (t u : Truth) → IsCertain t → IsCertain u → IsCertain (either_certain t u)
certain_either Yes u c d = tt
certain_either No u c d = d
certain_either Unknown u c d = absurd c

certain_alike : (t u : Truth) → IsCertain t → IsCertain u → IsCertain (alike_certain t u)
certain_alike Yes u c d = d
certain_alike No u c d = certain_not u d
certain_alike Unknown u c d = absurd c

certain_if : (b : Bool) → IsCertain (truth_if b)
certain_if true = tt
certain_if false = tt

certain_or_else : (t u : Truth) → IsCertain u → IsCertain (or_else t u)
certain_or_else Yes u c = tt
certain_or_else No u c = tt
certain_or_else Unknown u c = c

certain_compared : (c : Cmp) (o p : Option Denotation) → IsKnown o → IsKnown p → IsCertain (compared_known c o p)
certain_compared c None p h i = h
certain_compared c (Some u) None h i = i
certain_compared c (Some u) (Some v) h i = certain_if (compared c u v)

certain_comparison : (c : Cmp) (left right : Truth) (o p : Option Denotation) → IsKnown o → IsKnown p
    → IsCertain (comparison_certain c left right o p)
certain_comparison cmp.Eq left right o p h i = certain_or_else left (or_else right (compared_known cmp.Eq o p))
    (certain_or_else right (compared_known cmp.Eq o p) (certain_compared cmp.Eq o p h i))
certain_comparison cmp.Ne left right o p h i = certain_compared cmp.Ne o p h i
certain_comparison cmp.Lt left right o p h i = certain_compared cmp.Lt o p h i
certain_comparison cmp.Gt left right o p h i = certain_compared cmp.Gt o p h i
certain_comparison cmp.Le left right o p h i = certain_compared cmp.Le o p h i
certain_comparison cmp.Ge left right o p h i = certain_compared cmp.Ge o p h i

certain_number : (c : Cmp) (z : ℤ) (o : Option ℕ) → IsKnown o → IsCertain (known_truth c z o)
certain_number c z None h = h
certain_number c z (Some n) h = certain_if _

known_both : (o : Option Denotation) (p : Option (List Denotation)) → IsKnown o → IsKnown p → IsKnown (known_cons o p)
known_both None p h i = h
known_both (Some d) p h i = known_map (λ ds. d ∷ ds) p i

known_plus : (minus : Bool) (o : Option Denotation) (p : Option (Option ℤ)) → IsKnown o → IsKnown p
    → IsKnown (elim o [ None ↦ None | Some v ↦ option_map (summand_plus minus v) p ])
known_plus minus None p h i = h
known_plus minus (Some d) p h i = known_map (summand_plus minus d) p i

known_chosen : (t : Truth) (o : Option Denotation) (p : Option (List Denotation)) → IsCertain t → IsKnown o → IsKnown p
    → IsKnown (chosen t o p)
known_chosen Yes o p c h i = known_both o p h i
known_chosen No o p c h i = i
known_chosen Unknown o p c h i = absurd c

known_counted : (t : Truth) (o : Option ℕ) → IsCertain t → IsKnown o → IsKnown (counted t o)
known_counted Yes None c h = h
known_counted Yes (Some n) c h = tt
known_counted No o c h = h
known_counted Unknown o c h = absurd c

module _ {X : Type 0} (P : X → Truth) where
  certain_all : (xs : List X) → AllByRecursion (λ x. IsCertain (P x)) xs → IsCertain (all_certain P xs)
  certain_all [] h = tt
  certain_all (x ∷ xs) h = certain_both (P x) (all_certain P xs) h.0 (certain_all xs h.1)

  certain_any : (xs : List X) → AllByRecursion (λ x. IsCertain (P x)) xs → IsCertain (any_certain P xs)
  certain_any [] h = tt
  certain_any (x ∷ xs) h = certain_either (P x) (any_certain P xs) h.0 (certain_any xs h.1)

  counts : (xs : List X) → AllByRecursion (λ x. IsCertain (P x)) xs → IsKnown (known_count P xs)
  counts [] h = tt
  counts (x ∷ xs) h = known_counted (P x) (known_count P xs) h.0 (counts xs h.1)

  weighs : (V : X → Option Denotation) (xs : List X) → AllByRecursion (λ x. IsCertain (P x) × IsKnown (V x)) xs
      → IsKnown (known_weights P V xs)
  weighs V [] h = tt
  weighs V (x ∷ xs) h = known_chosen (P x) (V x) (known_weights P V xs) h.0.0 h.0.1 (weighs V xs h.1)

mapped : {X : Type 0} (P Q : X → Type 0) → ((x : X) → P x → Q x) → (xs : List X) → AllByRecursion P xs
    → AllByRecursion Q xs
mapped P Q f [] h = tt
mapped P Q f (x ∷ xs) h = (f x h.0, mapped P Q f xs h.1)

module _ (m : Structure) (k : KnownAtoms) (v : Vocabulary) (symbols : v.symbols ≡ k.symbols) (is : IsStructure v m)
    (extends : ExtendsData m k) (all : KnowsAll k) where
  -- an atom that holds is known to be true
  held_is_true : (a : GroundAtom) → IsAtomOver k.symbols k.domains a → AtomHolds m a
      → list_any (same_atom a) k.true_atoms ≡ true
  held_is_true a over holds = by (list_any (same_atom a) k.true_atoms) refl (list_any (same_atom a) k.false_atoms) refl
    where
      by : (t : Bool) → list_any (same_atom a) k.true_atoms ≡ t → (f : Bool) → list_any (same_atom a) k.false_atoms
          ≡ f → t ≡ true
      by true e f g = refl
      by false e true g =
          let no_ : value_at k a ≡ No = ap (λ b. if b then Yes else (if list_any (same_atom a) k.false_atoms then
          No else Unknown)) e ∙ ap (λ b. if b then No else Unknown) g in
          absurd ((known_atoms_hold m k a extends).1 no_ holds)
      by false e false g =
          let open_ : value_at k a ≡ Unknown = ap (λ b. if b then Yes else (if list_any (same_atom a) k.false_atoms then
          No else Unknown)) e ∙ ap (λ b. if b then No else Unknown) g in
          absurd (all a over open_)

  given_known : (s : ℕ) (us : List Denotation) (d : Symbol) (o : Option ℕ) → slice_get k.symbols s ≡ Some d
      → d.value ≡ o → is_some o ≡ true → are_typed m.domains d.args us ≡ true
      → IsKnown (option_map denotation_of (given_value s us k.true_atoms))
  given_known s us d None at value some typed = absurd (true≢false (sym some))
  given_known s us d (Some ty) at value some typed =
      let t = tuple_from k.domains d.args us (subst (λ ds. are_typed ds d.args us ≡ true) extends.domains typed) in
      let y = row_at m k v symbols is extends s d ty t.0 at value t.1 in
      let a : GroundAtom = record { symbol = s; args = t.0; value = Some y.0 } in
      let over : IsAtomOver k.symbols k.domains a = (
        d,
        at,
        t.1,
        subst (λ o. HasValueIn k.domains o (Some y.0))
            (sym value) y.1,
      ) in
      let r = some_one (same_atom a) k.true_atoms (held_is_true a over y.2) in
      let there : Contains k.true_atoms a = subst (Contains k.true_atoms) (atom_is a r.0 r.2) r.1 in
      let g = given_some s us k.true_atoms a y.0 (has_from k.true_atoms a there) refl t.2 refl in
      subst (λ q. IsKnown (option_map denotation_of q)) (sym g.1) tt

  applied_is_known : (s : ℕ) (o : Option (List Denotation)) (vs : List Denotation) → IsKnown o → KnownIs o vs
      → IsDefinedAt k.symbols m s vs → IsKnown (applied_known k s o)
  applied_is_known s None vs c h d = absurd c
  applied_is_known s (Some us) vs c h d = given_known s us d.0 d.0.value d.1 refl d.2
      (subst (λ ws. are_typed m.domains d.0.args ws ≡ true) h d.3)

  row_certain : (s : ℕ) (us : List Denotation) (o : Option Symbol) (b : Bool) → slice_get k.symbols s ≡ o
      → IsNoFunction o → arguments_typed k o us ≡ b → IsCertain (if b then value_of_row k s us None else No)
  row_certain s us o false at none h = tt
  row_certain s us None true at none h = absurd (true≢false (sym h))
  row_certain s us (Some d) true at none h =
      let t = tuple_from k.domains d.args us h in
      let a : GroundAtom = record { symbol = s; args = t.0; value = None } in
      let over : IsAtomOver k.symbols k.domains a = (
        d,
        at,
        t.1,
        subst (λ o. HasValueIn k.domains o None)
            (sym none) tt,
      ) in
      subst (λ ws. IsCertain (value_of_row k s ws None)) t.2 (not_open (value_at k a) (all a over))

  atom_is_certain : (s : ℕ) (o : Option (List Denotation)) → IsKnown o → IsNoFunction (slice_get k.symbols s)
      → IsCertain (atom_certain k s o)
  atom_is_certain s None c none = absurd c
  atom_is_certain s (Some us) c none = row_certain s us (slice_get k.symbols s)
      (arguments_typed k (slice_get k.symbols s) us) refl none refl

  over_choices : (P : List Elem → Type 0) (bs : List Bound) → AllByRecursion P (choices m.domains bs)
      → AllByRecursion P (choices k.domains bs)
  over_choices P bs h = subst (λ ds. AllByRecursion P (choices ds bs)) extends.domains h

  instances : (bs : List Bound) (P Q : List Elem → Type 0) → ((a : List Elem) → P a → Q a)
      → AllByRecursion P (assignments m bs) → AllByRecursion Q (choices k.domains bs)
  instances bs P Q f h = over_choices Q bs (mapped P Q f (assignments m bs) h)

  mutual
    value_known : (t : TermTree) (e : List Elem) → AppliesWell k.symbols m t e → IsKnown (known_value k t e)
    value_known (variable n) e h = tt
    value_known (integer z) e h = tt
    value_known (constructed ty n) e h = tt
    value_known (application s ts) e h = applied_is_known s (known_values k ts e) (values_of m ts e)
        (values_known ts e h.0) (values_sound m k v symbols is extends ts e) h.1
    value_known (summation ss) e h = known_map number_value (known_sum k ss e) (sum_known ss e h)
    value_known (product ts) e h = known_map (λ vs. number_value (product_from (pos 1) vs)) (known_values k ts e)
        (values_known ts e h)
    value_known (aggregate kind bs f t) e h =
        known_map (aggregate_value kind) (known_weights (λ a. certain_truth k f (e ++ a))
        (λ a. option_map as_number (known_value k t (e ++ a))) (choices k.domains bs))
        (weighs (λ a. certain_truth k f (e ++ a)) (λ a. option_map as_number (known_value k t (e ++ a)))
        (choices k.domains bs)
        (instances bs (λ a. IsWellApplied k.symbols m f (e ++ a) × AppliesWell k.symbols m t (e ++ a))
        (λ a. IsCertain (certain_truth k f (e ++ a)) × IsKnown (option_map as_number (known_value k t (e ++ a))))
        (λ a w. (
          formula_certain f (e ++ a) w.0,
          known_map as_number (known_value k t (e ++ a))
              (value_known t (e ++ a) w.1),
        )) h))

    values_known : (ts : TermTrees) (e : List Elem) → AllApplyWell k.symbols m ts e → IsKnown (known_values k ts e)
    values_known no_terms e h = tt
    values_known (more_terms t ts) e h = known_both (known_value k t e) (known_values k ts e) (value_known t e h.0)
        (values_known ts e h.1)

    sum_known : (ss : SummandTrees) (e : List Elem) → OperandsApplyWell k.symbols m ss e → IsKnown (known_sum k ss e)
    sum_known no_summands e h = tt
    sum_known (more_summands minus t ss) e h = known_plus minus (known_value k t e) (known_sum k ss e)
        (value_known t e h.0) (sum_known ss e h.1)

    formula_certain : (f : FormulaTree) (e : List Elem) → IsWellApplied k.symbols m f e
        → IsCertain (certain_truth k f e)
    formula_certain verum e h = tt
    formula_certain falsum e h = tt
    formula_certain (atom s ts) e h = atom_is_certain s (known_values k ts e) (values_known ts e h.0) h.1
    formula_certain (comparison c a b) e h =
        certain_comparison c (equation_certain k a (known_value k b e) e) (equation_certain k b (known_value k a e) e)
        (known_value k a e) (known_value k b e) (value_known a e h.0) (value_known b e h.1)
    formula_certain (negation f) e h = certain_not (certain_truth k f e) (formula_certain f e h)
    formula_certain (conjunction fs) e h = all_are_certain fs e h
    formula_certain (disjunction fs) e h = any_is_certain fs e h
    formula_certain (implication f g) e h = certain_either (not_certain (certain_truth k f e)) (certain_truth k g e)
        (certain_not (certain_truth k f e) (formula_certain f e h.0)) (formula_certain g e h.1)
    formula_certain (equivalence f g) e h = certain_alike (certain_truth k f e) (certain_truth k g e)
        (formula_certain f e h.0) (formula_certain g e h.1)
    formula_certain (universal bs f) e h = certain_all (λ a. certain_truth k f (e ++ a)) (choices k.domains bs)
        (instances bs (λ a. IsWellApplied k.symbols m f (e ++ a)) (λ a. IsCertain (certain_truth k f (e ++ a)))
        (λ a w. formula_certain f (e ++ a) w) h)
    formula_certain (existential bs f) e h = certain_any (λ a. certain_truth k f (e ++ a)) (choices k.domains bs)
        (instances bs (λ a. IsWellApplied k.symbols m f (e ++ a)) (λ a. IsCertain (certain_truth k f (e ++ a)))
        (λ a w. formula_certain f (e ++ a) w) h)
    formula_certain (numbered c n bs f) e h = certain_number c n (known_count (λ a. certain_truth k f (e ++ a))
        (choices k.domains bs)) (counts (λ a. certain_truth k f (e ++ a)) (choices k.domains bs)
        (instances bs (λ a. IsWellApplied k.symbols m f (e ++ a)) (λ a. IsCertain (certain_truth k f (e ++ a)))
        (λ a w. formula_certain f (e ++ a) w) h))

    all_are_certain : (fs : FormulaTrees) (e : List Elem) → AreWellApplied k.symbols m fs e
        → IsCertain (all_parts k fs e)
    all_are_certain no_formulas e h = tt
    all_are_certain (more_formulas f fs) e h = certain_both (certain_truth k f e) (all_parts k fs e)
        (formula_certain f e h.0) (all_are_certain fs e h.1)

    any_is_certain : (fs : FormulaTrees) (e : List Elem) → AreWellApplied k.symbols m fs e → IsCertain (any_part k fs e)
    any_is_certain no_formulas e h = tt
    any_is_certain (more_formulas f fs) e h = certain_either (certain_truth k f e) (any_part k fs e)
        (formula_certain f e h.0) (any_is_certain fs e h.1)

pub certainty_is_truth : CertaintyIsTruth
certainty_is_truth m k over extends all = (
  λ f e h. certain_is (certain_truth k f e) (truth_of m f e) (formula_certain m k over.0 over.1 over.2 extends all f e
      h) (formula_sound m k over.0 over.1 over.2 extends f e),
  λ t e h. known_is (known_value k t e) (value_of m t e) (value_known m k over.0 over.1 over.2 extends all t e h)
      (value_sound m k over.0 over.1 over.2 extends t e),
)
