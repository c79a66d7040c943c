-- A model, as what makes every atom known, is closed.
use Rattle.std.proofs.Common.{◌≡◌, List, [], ◌∷◌, ◌++◌, map, filter, Bool, true, false, not, ◌==◌, if◌then◌else◌, ℕ}
use Rattle.std.proofs.Common.{Option, None, Some}
use Rattle.std.proofs.Common.{refl, sym, ap, ◌∙◌, subst, inl, inr, option_map}
use Rattle.std.specs.List.{Contains, AllByRecursion, list_any}
use Rattle.std.proofs.lemmas.Bool.{cases_Bool, and_parts, eqb-true, true≢false}
use Rattle.kb_logic.specs.declared.elements.Elem.{Elem}
use Rattle.kb_logic.specs.declared.vocabularies.Vocabulary.{Vocabulary}
use Rattle.kb_logic.specs.declared.structures.Structure.{Structure}
use Rattle.kb_logic.specs.Trees.{FormulaTree, RuleTree, DefinitionTree}
use Rattle.kb_logic.specs.Structures.{IsStructure, domain_at}
use Rattle.kb_logic.specs.Domains.{AreDomainsOf}
use Rattle.kb_logic.specs.Typing.{IsTypedOver}
use Rattle.kb_logic.specs.Denotations.{denotation_of}
use Rattle.kb_logic.specs.Meaning.{rows_of, truth_of}
use Rattle.kb_logic.specs.Models.{GroundAtom, HasValueIn, IsAtomOver, AtomHolds, IsDerived, ModelOfDefinition}
use Rattle.kb_logic.specs.KnownAtoms.{atoms_over, is_true_atom, known_of}
use Rattle.kb_logic.proofs.AllAtoms.{atom_listed, listed_over}
use Rattle.kb_logic.proofs.Atoms.{among, in_rows}
use Rattle.kb_logic.proofs.Has.{Has, has_from, contains_from}
use Rattle.kb_logic.proofs.Members.{all_in, in_all, from_filter}
use Rattle.kb_logic.proofs.Tables.{has_filter}
use Rattle.partial_structures.specs.KnownAtoms.{value_at, same_atom, same_row, same_option, is_rival, both_values}
use Rattle.partial_structures.specs.Consistency.{IsConsistent, IsListed}
use Rattle.partial_structures.specs.declared.truths.Truth.{Truth}
use Rattle.partial_structures.specs.declared.truths.Truth.TheVariants.{Yes, No, Unknown}
use Rattle.partial_structures.proofs.Listed.{listed}
use Rattle.partial_structures.proofs.Sames.{row_is, option_itself}
use Rattle.certain_truth.specs.Certainty.{truth_if, any_certain, either_certain, certain_truth}
use Rattle.certain_truth.specs.WellApplied.{IsWellApplied}
use Rattle.certain_truth.proofs.Soundness.{row_at, certainty_is_sound}
use Rattle.certain_truth.proofs.Total.{structures_know_all, extends_is_knows_more}
use Rattle.certain_truth.proofs.Totality.{certainty_is_truth}
use Rattle.certain_truth.proofs.Typed.{typed_is_well_applied}
use Rattle.bound_laws.specs.Heads.{HasPlainHead}
use Rattle.bound_laws.specs.Closures.{Obeys, IsInstance, ObeysDefinition, ObeysFunctions, value_atom}
use Rattle.bound_laws.proofs.Heads.{head_of, named_by}
use Rattle.bound_laws.specs.Laws.{ModelsAreClosed}
use Rattle.bound_laws.proofs.Adding.{adds, lone_any}

not_both : (b : Bool) → b ≡ true → not b ≡ true → ⊥
not_both true h k = cc
not_both false h k = cc

same_on : {X : Type 0} (p q : X → Bool) (xs : List X) → ((x : X) → Has xs x → p x ≡ q x) → filter p xs ≡ filter q xs
same_on p q [] same = refl
same_on p q (x ∷ xs) same = ap (λ b. if b then x ∷ filter p xs else filter p xs) (same x (inl refl))
    ∙ ap (λ ys. if q x then x ∷ ys else ys) (same_on p q xs (λ y m. same y (inr m)))

second_yes : (a b : Truth) → b ≡ Yes → either_certain a b ≡ Yes
second_yes Yes b h = refl
second_yes No b h = h
second_yes Unknown b h = ap (either_certain Unknown) h

yes_any : {X : Type 0} (T : X → Truth) (xs : List X) (x : X) → Has xs x → T x ≡ Yes → any_certain T xs ≡ Yes
yes_any T [] x m h = absurd m
yes_any T (y ∷ xs) x (inl e) h = ap (λ t. either_certain t (any_certain T xs)) (ap T e ∙ h)
yes_any T (y ∷ xs) x (inr m) h = second_yes (T y) (any_certain T xs) (yes_any T xs x m h)

module _ (m : Structure) where
  row_holds : (s : ℕ) (args : List Elem) (o : Option Elem) → is_true_atom m
      (record { symbol = s; args = args; value = o })
      ≡ true → AtomHolds m (record { symbol = s; args = args; value = o })
  row_holds s args None h = among (rows_of s m.relations) args h
  row_holds s args (Some x) h = among (rows_of s m.functions) (args ++ x ∷ []) h

  holds_row : (s : ℕ) (args : List Elem) (o : Option Elem) → AtomHolds m (record { symbol = s; args = args; value = o })
      → is_true_atom m (record { symbol = s; args = args; value = o }) ≡ true
  holds_row s args None h = in_rows (rows_of s m.relations) args h
  holds_row s args (Some x) h = in_rows (rows_of s m.functions) (args ++ x ∷ []) h

  true_holds : (a : GroundAtom) → is_true_atom m a ≡ true → AtomHolds m a
  true_holds a h = row_holds a.symbol a.args a.value h

  holds_true : (a : GroundAtom) → AtomHolds m a → is_true_atom m a ≡ true
  holds_true a h = holds_row a.symbol a.args a.value h

module _ (v : Vocabulary) (m : Structure) (is : IsStructure v m) where
  consistent : IsConsistent (known_of v.symbols m)
  consistent = (structures_know_all v m is).1

  falsely : (b : GroundAtom) → IsAtomOver v.symbols m.domains b → not (is_true_atom m b) ≡ true
      → Contains (known_of v.symbols m).false_atoms b
  falsely b over h =
      let atoms = atoms_over v.symbols m.domains in
      contains_from (filter (λ c. not (is_true_atom m c)) atoms) b
      (has_filter (λ c. not (is_true_atom m c)) atoms b (atom_listed v.symbols m.domains b over) h)

  truly : (b : GroundAtom) → IsAtomOver v.symbols m.domains b → is_true_atom m b ≡ true
      → Contains (known_of v.symbols m).true_atoms b
  truly b over h =
      let atoms = atoms_over v.symbols m.domains in
      contains_from (filter (is_true_atom m) atoms) b
      (has_filter (is_true_atom m) atoms b (atom_listed v.symbols m.domains b over) h)

  rivals : (a b : GroundAtom) → Contains (known_of v.symbols m).true_atoms a → IsAtomOver v.symbols m.domains b
      → is_rival a b ≡ true → Contains (known_of v.symbols m).false_atoms b
  rivals a b at over h =
      let p = and_parts (b.symbol == a.symbol) _ h in
      let q = and_parts (same_row b.args (map denotation_of a.args)) _ p.1 in
      let r = and_parts (both_values a.value b.value) _ q.1 in
      elim (cases_Bool (is_true_atom m b)) [
        | inl e ↦
            let same : a ≡ b = consistent.single a b at (truly b over e) (sym (eqb-true b.symbol a.symbol p.0))
            (sym (row_is b.args a.args q.0)) in
            absurd (not_both (same_option b.value (option_map denotation_of a.value))
            (subst (λ (c : GroundAtom). same_option c.value (option_map denotation_of a.value) ≡ true) same
            (option_itself a.value))
            r.1)
        | inr e ↦ falsely b over (ap not e)
      ]

  is_listed : IsListed (known_of v.symbols m)
  is_listed =
      let atoms = atoms_over v.symbols m.domains in
      let F = λ (b : GroundAtom). not (is_true_atom m b) in
      record {
        distinct = is.distinct;
        false_over = in_all (IsAtomOver v.symbols m.domains) (filter F atoms)
            (λ a at. listed_over v.symbols m.domains a (has_from atoms a (from_filter F atoms a at)));
        true_listed = same_on (is_true_atom m) (λ a. list_any (same_atom a) (filter (is_true_atom m) atoms)) atoms
            (λ a h. sym (listed atoms (is_true_atom m) a h));
        false_listed = same_on F (λ a. list_any (same_atom a) (filter F atoms)) atoms (λ a h. sym (listed atoms F a h));
        rivals = rivals;
      }

  value_yes : (a : GroundAtom) → IsAtomOver v.symbols m.domains a → is_true_atom m a ≡ true
      → value_at (known_of v.symbols m) a ≡ Yes
  value_yes a over h =
      let atoms = atoms_over v.symbols m.domains in
      ap (λ b. if b then Yes else (if list_any (same_atom a) (filter (λ c. not (is_true_atom m c)) atoms) then No else
      Unknown))
      (listed atoms (is_true_atom m) a (atom_listed v.symbols m.domains a over) ∙ h)

  functions : ObeysFunctions (known_of v.symbols m)
  functions s ty d r at value tuple =
      let k = known_of v.symbols m in
      let row = row_at m k v refl is (structures_know_all v m is).2 s d ty r at value tuple in
      let T = λ (x : Elem). value_at k (value_atom s r x) in
      let over : IsAtomOver v.symbols m.domains (value_atom s r row.0) =
      (d, at, tuple, subst (λ o. HasValueIn m.domains o (Some row.0)) (sym value) row.1) in
      lone_any T (λ x. T x ≡ Yes) (domain_at m.domains ty) false (λ x h. h)
      (inr (yes_any T (domain_at m.domains ty) row.0 (has_from (domain_at m.domains ty) row.0 row.1)
      (value_yes (value_atom s r row.0) over (in_rows (rows_of s m.functions) (r ++ row.0 ∷ []) row.2))))

  value_no : (a : GroundAtom) → IsAtomOver v.symbols m.domains a → is_true_atom m a ≡ false
      → value_at (known_of v.symbols m) a ≡ No
  value_no a over h =
      let atoms = atoms_over v.symbols m.domains in
      let there = atom_listed v.symbols m.domains a over in
      ap (λ b. if b then Yes else (if list_any (same_atom a) (filter (λ c. not (is_true_atom m c)) atoms) then No else
      Unknown))
      (listed atoms (is_true_atom m) a there ∙ h)
      ∙ ap (λ b. if b then No else Unknown) (listed atoms (λ c. not (is_true_atom m c)) a there ∙ ap not h)

  sentence : (f : FormulaTree) → IsWellApplied v.symbols m f [] → truth_of m f [] ≡ true
      → Obeys (known_of v.symbols m) true f []
  sentence f well h =
      let k = known_of v.symbols m in
      let all = structures_know_all v m is in
      adds k consistent is_listed f [] true ((certainty_is_truth m k (v, refl, is) all.2 all.0).0 f [] well ∙ ap
      truth_if h)

  bodies : (f : FormulaTree) (e : List Elem) → (certain_truth (known_of v.symbols m) f e ≡ Yes → truth_of m f e ≡ true)
      × (certain_truth (known_of v.symbols m) f e ≡ No → truth_of m f e ≡ false)
  bodies = (certainty_is_sound m (known_of v.symbols m) (v, refl, is) (structures_know_all v m is).2).0

  -- an atom of a defined symbol, by whether it is true
  underived : (d : DefinitionTree) → AllByRecursion HasPlainHead d.rules → (a : GroundAtom)
      → IsAtomOver v.symbols m.domains a → (AtomHolds m a → IsDerived m d a)
      → ((r : RuleTree) (e : List Elem) → IsInstance (known_of v.symbols m) d a r e
      → certain_truth (known_of v.symbols m) r.body e ≡ No)
      → (b : Bool) → is_true_atom m a ≡ b → value_at (known_of v.symbols m) a ≡ No
  underived d plain a over derived none true h =
      let r = derived (true_holds m a h) in
      let named = named_by v m is r.0 r.2.0 a (all_in HasPlainHead d.rules plain r.0 r.1) r.2.2 in
      absurd (true≢false (sym r.2.3 ∙ (bodies r.0.body r.2.0).1 (none r.0 r.2.0
      (record { rule = r.1; choice = r.2.1; head = named }))))
  underived d plain a over derived none false h = value_no a over h

  definition : (d : DefinitionTree) → AllByRecursion HasPlainHead d.rules → ModelOfDefinition v m d
      → ObeysDefinition (known_of v.symbols m) d
  definition d plain model a over defined = (
    λ r e instance yes. value_yes a over (holds_true m a ((model a over defined).1
        (r, instance.rule, (e, instance.choice, head_of v m is r e a instance.head, (bodies r.body e).0 yes)))),
    λ none. underived d plain a over (model a over defined).0 none (is_true_atom m a) refl,
  )

pub models_are_closed : ModelsAreClosed
models_are_closed base typed choices m model =
    let v = base.vocabulary in
    let is = model.structure in
    let domains : AreDomainsOf v m.domains = subst (AreDomainsOf v) (sym model.extends.domains) typed.domains in
    let well = λ (f : FormulaTree) (h : IsTypedOver v base.known.domains f []).
    (typed_is_well_applied v m is domains [] [] tt).0 f
    (subst (λ ds. IsTypedOver v ds f []) (sym model.extends.domains) h) in
    record {
      more = (extends_is_knows_more v m is base.known typed.symbols typed.false_over).0 model.extends;
      consistent = consistent v m is;
      listed = is_listed v m is;
      sentences = in_all _ base.theory.sentences (λ f at. sentence v m is f
          (well f (all_in _ base.theory.sentences typed.sentences f at))
          (all_in _ base.theory.sentences model.theory.sentences f at));
      definitions = in_all _ base.theory.definitions (λ d at. definition v m is d
          (all_in _ base.theory.definitions typed.heads d at)
          (all_in _ base.theory.definitions model.theory.definitions d at));
      functions = functions v m is;
    }
