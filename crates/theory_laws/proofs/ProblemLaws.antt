-- The problem of a theory: its valuations are the models that extend the data.
use Rattle.std.proofs.Common.{◌≡◌, ℕ, zero, suc, ◌<◌, ◌≤◌, get_or, Bool, true, false, List, [], ◌∷◌, length, IsTrue}
use Rattle.std.proofs.Common.{refl, sym, ap, subst, ◌∙◌, arith, ◌++◌, slice_get}
use Rattle.ground_core.specs.Problems.{ProblemState}
use Rattle.std.specs.List.{list_all, AllByRecursion}
use Rattle.std.proofs.lemmas.Bool.{and_parts, and_from}
use Rattle.std.proofs.lemmas.List.{length-map}
use Rattle.std.proofs.lemmas.Option.{slice_get-get_or}
use Rattle.kb_logic.specs.declared.structures.Structure.{Structure}
use Rattle.kb_logic.specs.Structures.{EachWith}
use Rattle.kb_logic.specs.Trees.{FormulaTree}
use Rattle.kb_logic.specs.Meaning.{truth_of, value_of}
use Rattle.kb_logic.specs.Models.{GroundAtom, AtomHolds}
use Rattle.kb_logic.specs.KnownAtoms.{ExtendsData, atoms_over}
use Rattle.kb_logic.specs.Bases.{Base, NamedTerm, IsModelUnder}
use Rattle.partial_structures.specs.KnownAtoms.{value_at}
use Rattle.ground_core.specs.declared.parts.GroundTerm.{GroundTerm}
use Rattle.ground_core.specs.Atoms.{ground_atoms}
use Rattle.ground_core.specs.Growing.{value_of_term}
use Rattle.ground_core.specs.Meaning.{Satisfies, term_value}
use Rattle.ground_core.specs.More.{Agree}
use Rattle.term_values.specs.GroundBases.{GroundBase, structure_of, IsOver}
use Rattle.term_values.specs.KnownBases.{IsGroundBase, known_truth, base_of_data}
use Rattle.term_values.proofs.StructureAtoms.{atom-true}
use Rattle.term_values.proofs.StructureLaws.{structure-is, structure-same, one-value-each, valuation-of, each-at}
use Rattle.term_values.proofs.KnownLaws.{ground-base, known-extends, extends-known}
use Rattle.def_ground.specs.Problems.{fact_of, start_problem, problem_of}
use Rattle.def_ground.specs.Meanings.{AssertsMore, HasRoom}
use Rattle.def_ground.specs.Definitions.{define_all}
use Rattle.def_ground.specs.Groundings.{ground_base, IsGroundNumber, IsGroundTheory, IsGroundingOf, theory_problem}
use Rattle.def_ground.proofs.AskedLaws.{IsNumberOver, Names, names-all, asked-alike}
use Rattle.def_ground.proofs.AssertLaws.{room-grown}
use Rattle.def_ground.specs.GroundForms.{IsGroundForm, IsPlaced}
use Rattle.kb_logic.specs.Typing.{IsTypedOver}
use Rattle.def_ground.proofs.TypedForms.{ground-form}
use Rattle.def_ground.proofs.SentenceLaws.{sentences-said}
use Rattle.def_ground.proofs.StartLaws.{atoms-length, start-fine, start-room, start-atoms, start-satisfied}
use Rattle.def_ground.proofs.StartLaws.{fact-in-start}
use Rattle.def_ground.proofs.KeepSteps.{Keeps, keeps-on}
use Rattle.def_ground.proofs.KeepLaws.{sentences-keep}
use Rattle.kb_logic.proofs.Has.{Has, has_left, contains_from}
use Rattle.theory_laws.specs.DefinitionLaws.{AssertsThat}
use Rattle.theory_laws.specs.TheoryLaws.{ProblemIsRight, ProblemHasNoBounds}
use Rattle.theory_laws.proofs.DefinitionSteps.{AreModelsOf, definitions-asserted, definitions-keep}

all-one : (p : FormulaTree → Bool) (fs : List FormulaTree) → list_all p fs ≡ true
    → AllByRecursion (λ f. IsTrue (p f)) fs
all-one p [] h = tt
all-one p (f ∷ fs) h = let both = and_parts (p f) (list_all p fs) h in (both.0, all-one p fs both.1)

one-all : (p : FormulaTree → Bool) (fs : List FormulaTree) → AllByRecursion (λ f. IsTrue (p f)) fs
    → list_all p fs ≡ true
one-all p [] h = refl
one-all p (f ∷ fs) h = and_from (p f) (list_all p fs) h.0 (one-all p fs h.1)

same-bits : (a c : Bool) → (a ≡ true → c ≡ true) → (c ≡ true → a ≡ true) → a ≡ c
same-bits true c f g = sym (f refl)
same-bits false true f g = g refl
same-bits false false f g = refl

same-number : {A B : Type 0} (R : A → B → Type 0) (xs : List A) (ys : List B) → EachWith R xs ys
    → length ys ≡ length xs
same-number R [] [] h = refl
same-number R [] (y ∷ ys) h = absurd h
same-number R (x ∷ xs) [] h = absurd h
same-number R (x ∷ xs) (y ∷ ys) h = ap suc (same-number R xs ys h.1)

numbers-over : (base : Base) (ts : List NamedTerm) → AllByRecursion (IsGroundNumber base) ts
    → AllByRecursion (λ t. IsNumberOver (base_of_data base.vocabulary base.known) t.term) ts
numbers-over base [] h = tt
numbers-over base (t ∷ ts) h =
    (record { typed = h.0.typed; numeric = h.0.numeric; placed = h.0.placed }, numbers-over base ts h.1)

pub all-ground : (base : Base) (theory : IsGroundTheory base) (fs : List FormulaTree)
    → AllByRecursion (λ f. IsTypedOver base.vocabulary base.known.domains f []) fs → AllByRecursion IsPlaced fs
    → AllByRecursion (λ f. IsGroundForm (base_of_data base.vocabulary base.known) f []) fs
all-ground base theory [] h k = tt
all-ground base theory (f ∷ fs) h k = (
  ground-form (base_of_data base.vocabulary base.known) theory.known.domains f [] [] tt h.0 k.0,
  all-ground base theory fs h.1 k.1,
)

module _ (base : Base) (theory : IsGroundTheory base) where
  abbrev b : GroundBase
  b = base_of_data base.vocabulary base.known

  abbrev known-size : length (base_of_data base.vocabulary base.known).known ≤ length
      (ground_atoms base.vocabulary.symbols base.known.domains)
  known-size =
      let all = atoms-length base.vocabulary.symbols base.known.domains in
      let mapped = length-map (atoms_over base.vocabulary.symbols base.known.domains)
      (λ a. known_truth (value_at base.known a)) in
      omega (arith, all, mapped)

  is : IsGroundBase (base_of_data base.vocabulary base.known)
  is = ground-base base.vocabulary base.known theory.known (λ k. true)

  room : HasRoom (base_of_data base.vocabulary base.known) (start_problem (base_of_data base.vocabulary base.known))
  room = start-room (base_of_data base.vocabulary base.known) is

  asserts : AssertsMore (start_problem (base_of_data base.vocabulary base.known))
      (problem_of (base_of_data base.vocabulary base.known) base.theory.sentences)
      (λ v. list_all (λ f. truth_of
      (structure_of (base_of_data base.vocabulary base.known) v) f []) base.theory.sentences)
  asserts =
      sentences-said (base_of_data base.vocabulary base.known) base.theory.sentences
      (start_problem (base_of_data base.vocabulary base.known))
      (start-fine (base_of_data base.vocabulary base.known) is known-size)
      (start-atoms (base_of_data base.vocabulary base.known) is) room
      (all-ground base theory base.theory.sentences theory.typed theory.placed)

  -- what the sentences leave
  abbrev said : ProblemState
  said = problem_of (base_of_data base.vocabulary base.known) base.theory.sentences

  -- what the definitions leave of that
  abbrev defined : ProblemState
  defined = define_all (base_of_data base.vocabulary base.known) base.theory.definitions said

  room-said : HasRoom (base_of_data base.vocabulary base.known) said
  room-said =
      let gb = base_of_data base.vocabulary base.known in
      room-grown gb (start_problem gb) said asserts.grows room

  defines : AssertsThat said defined
      (λ v. AreModelsOf (base_of_data base.vocabulary base.known) base.theory.definitions
      (structure_of (base_of_data base.vocabulary base.known) v))
  defines =
      let gb = base_of_data base.vocabulary base.known in
      definitions-asserted gb theory.known.domains base.theory.definitions theory.definitions said asserts.fine
      (λ v s. start-atoms gb is v (asserts.gives v s).0) room-said

  -- one variable of an atom in two valuations with one structure
  same-at : (v w : ℕ → Bool)
      → structure_of (base_of_data base.vocabulary base.known) v ≡ structure_of
      (base_of_data base.vocabulary base.known) w
      → Agree (length (ground_atoms base.vocabulary.symbols base.known.domains)) v w
  same-at v w same zero low high = absurd (omega (arith, low))
  same-at v w same (suc n) low high =
      let all = atoms-length base.vocabulary.symbols base.known.domains in
      let atoms = atoms_over base.vocabulary.symbols base.known.domains in
      let a = first-atom atoms n (omega (arith, all, high)) in
      let at = slice_get-get_or atoms n a (omega (arith, all, high)) in
      let x = atom-true (base_of_data base.vocabulary base.known) is v n (get_or atoms n a) at in
      let y = atom-true (base_of_data base.vocabulary base.known) is w n (get_or atoms n a) at in
      same-bits (v (suc n)) (w (suc n))
      (λ h. y.0 (subst (λ m. AtomHolds m (get_or atoms n a)) same (x.1 h)))
      (λ h. x.0 (subst (λ m. AtomHolds m (get_or atoms n a)) (sym same) (y.1 h)))
    where
      first-atom : (as' : List GroundAtom) (j : ℕ) → j < length as' → GroundAtom
      first-atom [] j h = absurd (omega (arith, h))
      first-atom (x ∷ as') j h = x

  model-gives : (m : Structure) → IsModelUnder base [] m
      → (v : ℕ → Bool) × Satisfies defined v × (structure_of (base_of_data base.vocabulary base.known) v ≡ m)
  model-gives m model =
      let gb = base_of_data base.vocabulary base.known in
      let v = valuation-of gb m in
      let same : structure_of gb v ≡ m = structure-same gb is m model.structure model.extends.domains in
      let known = extends-known base.vocabulary base.known theory.known v
      (subst (λ n. ExtendsData n base.known) (sym same) model.extends) in
      let start = start-satisfied gb is v
      (record { one = one-value-each gb is m model.structure model.extends.domains; known = known }) in
      let true-in = one-all (λ f. truth_of (structure_of gb v) f []) base.theory.sentences
      (subst (λ n. AllByRecursion (λ f. IsTrue (truth_of n f [])) base.theory.sentences)
      (sym same) model.theory.sentences) in
      let w = asserts.extends v start true-in in
      let like : structure_of gb w.0 ≡ m = sym (room.same v w.0 w.1) ∙ same in
      let u = defines.extends w.0 w.2
      (subst (AreModelsOf gb base.theory.definitions) (sym like) model.theory.definitions) in
      (u.0, u.2, sym (room-said.same w.0 u.0 u.1) ∙ like)

  valuation-gives : (v : ℕ → Bool) → Satisfies defined v
      → IsModelUnder base [] (structure_of (base_of_data base.vocabulary base.known) v)
  valuation-gives v s =
      let gb = base_of_data base.vocabulary base.known in
      let models = defines.gives v s in
      let both = asserts.gives v models.0 in
      let over = start-atoms gb is v both.0 in
      record {
        structure = structure-is gb is v over.one;
        extends = known-extends base.vocabulary base.known theory.known v over.known;
        theory = record {
          sentences = all-one (λ f. truth_of (structure_of gb v) f []) base.theory.sentences both.1;
          definitions = models.1;
        };
        chosen = tt;
      }

  keeps : Keeps (start_problem (base_of_data base.vocabulary base.known)) defined
  keeps =
      let gb = base_of_data base.vocabulary base.known in
      keeps-on (start_problem gb) said defined (sentences-keep gb base.theory.sentences (start_problem gb))
      (definitions-keep gb base.theory.definitions said)

  room-defined : HasRoom (base_of_data base.vocabulary base.known) defined
  room-defined =
      let gb = base_of_data base.vocabulary base.known in room-grown gb said defined defines.grows room-said

  -- the terms that may be asked for are named last
  pub names : Names (base_of_data base.vocabulary base.known) defined (theory_problem base) base.terms
  names =
      let gb = base_of_data base.vocabulary base.known in
      names-all gb theory.known.domains base.terms defined defines.fine
      (λ v s. start-atoms gb is v (asserts.gives v (defines.gives v s).0).0) room-defined keeps.bounds
      (numbers-over base base.terms theory.terms)

  -- what satisfies the problem gives each function one value, and has what is known
  pub problem-over : (v : ℕ → Bool) → Satisfies (theory_problem base) v
      → IsOver (base_of_data base.vocabulary base.known) v
  problem-over v s =
      start-atoms (base_of_data base.vocabulary base.known) is v
      (asserts.gives v (defines.gives v (names.more.restricts v s)).0).0

  pub all-named : (theory_problem base).terms ≡ names.named
  all-named = names.terms ∙ ap (λ gs. gs ++ names.named) keeps.terms

  abbrev HasValueOf : NamedTerm → GroundTerm → Type 0
  HasValueOf t g = (w : ℕ → Bool) → Satisfies (theory_problem base) w
      → term_value w g ≡ value_of (structure_of (base_of_data base.vocabulary base.known) w) t.term []

  pub problem-right : IsGroundingOf base (theory_problem base)
  problem-right = record {
    atoms = names.atoms ∙ keeps.atoms;
    facts = λ n x known.
        let gb = base_of_data base.vocabulary base.known in
        let fact = fact_of n x ∷ [] in
        contains_from (theory_problem base).clauses fact
        (names.clauses fact (subst (λ cs. Has cs fact) (sym keeps.clauses)
        (has_left (start_problem gb).clauses keeps.more fact (fact-in-start gb is n x known))));
    extends = λ m model.
        let v = model-gives m model in
        let w = names.more.extends v.0 v.1 in
        (w.0, w.2, sym (room-defined.same v.0 w.0 w.1) ∙ v.2);
    unique = λ v w s t same.
        let x = names.more.restricts v s in
        let y = names.more.restricts w t in
        names.more.unique v w s t
        (defines.unique v w x y
        (asserts.unique v w (defines.gives v x).0 (defines.gives w y).0 (same-at v w same)));
    gives = λ v s. valuation-gives v (names.more.restricts v s);
    number = ap length all-named ∙ same-number HasValueOf base.terms names.named names.values;
    terms = λ n t at v s.
        let found = each-at HasValueOf base.terms names.named n t names.values at in
        ap (λ gs. value_of_term (slice_get gs n) v) all-named ∙ ap (λ o. value_of_term o v) found.1 ∙ found.2 v s;
  }

pub problem-is-right : ProblemIsRight
problem-is-right base theory = problem-right base theory

pub problem-has-no-bounds : ProblemHasNoBounds
problem-has-no-bounds base =
    let b = ground_base base in
    let said = problem_of b base.theory.sentences in
    let k = sentences-keep b base.theory.sentences (start_problem b) in
    let d = definitions-keep b base.theory.definitions said in
    let a = asked-alike b base.terms (define_all b base.theory.definitions said) in record {
      bounds = a.bounds ∙ d.bounds ∙ k.bounds;
      retired = a.retired ∙ d.retired ∙ k.retired;
    }
