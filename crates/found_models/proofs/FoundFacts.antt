-- What found models are good for.
use Rattle.std.proofs.Common.{◌≡◌, ◌∙◌, ℕ, zero, suc, ◌+◌, ◌-◌, ◌^◌, ◌<◌, ◌≤◌, min, Bool, true, false, ◌&&◌, List, []}
use Rattle.std.proofs.Common.{◌∷◌, ◌++◌, cond, length, take, get_or, All, refl, sym, ap, subst, arith, inl, inr, ◌⊎◌}
use Rattle.std.proofs.Common.{slice_get, Some, None, Result, Ok, Err, OnOk, OnErr}
use Rattle.std.proofs.lemmas.Bool.{false≢true}
use Rattle.std.proofs.lemmas.List.{length-take, get_or-take}
use Rattle.std.proofs.lemmas.List.Elements.{All-nil, All-cons, All-head, All-tail, All-append, All-drop, All-filter}
use Rattle.std.proofs.lemmas.List.Elements.{filter_passes}
use Rattle.std.proofs.lemmas.Option.{slice_get_cases}
use Rattle.kb_logic.specs.declared.structures.Literal.{Literal}
use Rattle.kb_logic.specs.declared.structures.Structure.{Structure}
use Rattle.kb_logic.specs.Bases.{Base, IsModelUnder}
use Rattle.kb_logic.specs.KnownAtoms.{atoms_over}
use Rattle.kb_logic.specs.Models.{GroundAtom, AtomHolds}
use Rattle.kb_logic.specs.Structures.{EachWith}
use Rattle.lit_core.specs.declared.literals.Lit.{Lit}
use Rattle.lit_core.specs.Literals.{literal_value, valuation}
use Rattle.ground_core.specs.declared.solving.Verdict.TheVariants.{Sat}
use Rattle.ground_core.specs.Problems.{ProblemState, IsProblem}
use Rattle.ground_core.specs.Meaning.{MakesTrue}
use Rattle.ground_core.specs.More.{Agree}
use Rattle.ground_core.specs.Solving.{Answers}
use Rattle.term_values.specs.GroundBases.{GroundBase, structure_of}
use Rattle.term_values.proofs.StructureAtoms.{atom-true}
use Rattle.term_values.proofs.StructureLaws.{only-atoms-matter}
use Rattle.atom_numbers.specs.Numbers.{HasNumber}
use Rattle.consequences.specs.Forced.{IsSeen}
use Rattle.ground_task.specs.Tasks.{IsTaskOf, atom_base}
use Rattle.ground_task.proofs.TaskFacts.{fine, valued, all-chosen, of-atoms, atoms-number}
use Rattle.found_models.specs.Found.{FoundState, makes_all, those_under, with_newest, IsLastOf}
use Rattle.found_models.specs.Models.{atoms_of, IsFoundModel, AreFoundModels}

both-true : (x y : Bool) → (x && y) ≡ true → (x ≡ true) × (y ≡ true)
both-true true y e = (refl, e)
both-true false y e = absurd (false≢true e)

pub makes-true : (lits : List Lit) (values : List Bool) → makes_all lits values ≡ true
    → MakesTrue (valuation values) lits
makes-true [] values e = All-nil (λ k. literal_value (valuation values) k ≡ true)
makes-true (l ∷ lits) values e =
    let both = both-true (literal_value (valuation values) l) (makes_all lits values) e in
    All-cons (λ k. literal_value (valuation values) k ≡ true) l lits both.0 (makes-true lits values both.1)

last-has : {A : Type 0} (P : A → Type 0) (front : List A) (x : A) → All P (front ++ x ∷ []) → P x
last-has P [] x all = All-head P x [] all
last-has P (y ∷ front) x all = last-has P front x (All-tail P y (front ++ x ∷ []) all)

-- a truth value is the other where each is true if the other is
same-truth : (a b : Bool) → (a ≡ true → b ≡ true) → (b ≡ true → a ≡ true) → a ≡ b
same-truth true b there back = sym (there refl)
same-truth false true there back = back refl
same-truth false false there back = refl

-- valuations with one structure agree on the atoms' variables
one-structure : (base : Base) (v w : ℕ → Bool) (b : GroundBase) → b ≡ atom_base base → (p : ProblemState)
    → IsTaskOf base b p → structure_of b v ≡ structure_of b w → Agree (length p.atoms) v w
one-structure base v w b numbers p h same zero low high = absurd (omega (arith, low))
one-structure base v w b numbers p h same (suc n) low high =
    at (slice_get_cases (atoms_over b.vocabulary.symbols b.domains) n).1
  where
    size : length p.atoms ≡ length (atoms_over b.vocabulary.symbols b.domains)
    size = h.represents.atoms
        ∙ ap (λ (x : GroundBase). length (atoms_over x.vocabulary.symbols x.domains)) (sym numbers)

    at : ((a : GroundAtom) × (n < length (atoms_over b.vocabulary.symbols b.domains))
        × (slice_get (atoms_over b.vocabulary.symbols b.domains) n ≡ Some a)
        × (get_or (atoms_over b.vocabulary.symbols b.domains) n a ≡ a))
        ⊎ ((length (atoms_over b.vocabulary.symbols b.domains) ≤ n)
        × (slice_get (atoms_over b.vocabulary.symbols b.domains) n ≡ None)) → v (suc n) ≡ w (suc n)
    at (inl c) =
        let left = atom-true b (fine base b p h) v n c.0 c.2 in
        let right = atom-true b (fine base b p h) w n c.0 c.2 in
        same-truth (v (suc n)) (w (suc n))
        (λ e. right.0 (subst (λ (m : Structure). AtomHolds m c.0) same (left.1 e)))
        (λ e. left.0 (subst (λ (m : Structure). AtomHolds m c.0) (sym same) (right.1 e)))
    at (inr c) = absurd (omega (arith, high, size, c.0))

module _ (base : Base) (b : GroundBase) (p : ProblemState) (h : IsTaskOf base b p) where
  module _ (choices : List Literal) (lits : List Lit) (values : List Bool) (each : EachWith (HasNumber b) choices lits)
      (is : IsFoundModel base values) (all : makes_all lits values ≡ true) where
    pub model-under : IsModelUnder base choices (structure_of b (valuation values))
    model-under =
        let m : IsModelUnder base [] (structure_of b (valuation values)) =
        subst (λ (x : GroundBase). IsModelUnder base [] (structure_of x (valuation values))) (sym h.numbers) is.model in
        record {
          structure = m.structure;
          extends = m.extends;
          theory = m.theory;
          chosen = all-chosen b (fine base b p h) (valuation values) choices lits each (makes-true lits values all);
        }

    pub is-seen : IsSeen p lits values
    is-seen =
        let e = valued base b p h choices lits each (structure_of b (valuation values)) model-under in
        let few = h.represents.atoms in
        let long = is.long in
        record {
          atoms = omega (arith, few, long);
          left = (
            e.0,
            e.1,
            e.2,
            one-structure base (valuation values) e.0 b h.numbers p h (sym e.3),
          );
        }

  -- the literals' variables have values
  pub lits-within : (f : FoundState) → AreFoundModels base f → (choices : List Literal) (lits : List Lit)
      → EachWith (HasNumber b) choices lits
      → All (λ values. All (λ (l : Lit). l.var.0 < length values) lits) f.models
  lits-within f are choices lits each = λ k d low j e under.
      let few = h.represents.atoms in
      let long = (are.models k d low).long in
      let one = (of-atoms b (length p.atoms) (atoms-number base b p h) choices lits each j e under).1 in
      omega (arith, few, long, one)

  -- the last of those that make the literals true
  pub last-under : (f : FoundState) → AreFoundModels base f → (choices : List Literal) (lits : List Lit)
      → EachWith (HasNumber b) choices lits → (values : List Bool) → IsLastOf values (those_under lits f.models)
      → IsModelUnder base choices (structure_of b (valuation values))
  last-under f are choices lits each values last =
      let found : All (IsFoundModel base) (last.0 ++ values ∷ []) =
      subst (All (IsFoundModel base)) last.1 (All-filter (makes_all lits) (IsFoundModel base) f.models are.models) in
      let true-all : All (λ v. makes_all lits v ≡ true) (last.0 ++ values ∷ []) =
      subst (All (λ v. makes_all lits v ≡ true)) last.1 (filter_passes (makes_all lits) f.models) in
      model-under choices lits values each (last-has (IsFoundModel base) last.0 values found)
      (last-has (λ v. makes_all lits v ≡ true) last.0 values true-all)

  -- those that make the literals true
  pub all-seen : (choices : List Literal) (lits : List Lit) → EachWith (HasNumber b) choices lits
      → (models : List (List Bool)) → All (IsFoundModel base) models → All (IsSeen p lits) (those_under lits models)
  all-seen choices lits each [] are = All-nil (IsSeen p lits)
  all-seen choices lits each (m ∷ models) are =
      let rest = all-seen choices lits each models (All-tail (IsFoundModel base) m models are) in
      let here : (passes : Bool) → makes_all lits m ≡ passes
      → All (IsSeen p lits) (cond passes (m ∷ those_under lits models) (those_under lits models)) =
      λ passes. elim passes as (λ (passes : Bool). makes_all lits m ≡ passes
      → All (IsSeen p lits) (cond passes (m ∷ those_under lits models) (those_under lits models))) [
        | true ↦ (λ e. All-cons (IsSeen p lits) m (those_under lits models)
            (is-seen choices lits m each (All-head (IsFoundModel base) m models are) e) rest)
        | false ↦ (λ e. rest)
      ] in
      here (makes_all lits m) refl

  -- the values that a search finds, cut to the atoms
  pub cut-found : IsProblem p → (lits : List Lit) (values : List Bool) (last : ℕ) → Answers p lits (Sat values)
      → length values < 2 ^ 64 → min (atoms_of base) (2 ^ 64 - 1) ≤ last
      → IsFoundModel base (take (last + 1) values)
  cut-found problem lits values last sat short enough =
      let few = h.represents.atoms in
      let within = problem.atoms in
      let all = sat.0 in
      let up : atoms_of base ≤ last = omega (arith, few, within, all, short, enough) in
      let agree : (n : ℕ) → 1 ≤ n → n ≤ atoms_of base → valuation values n ≡ valuation (take (last + 1) values) n =
      λ n low high. sym (get_or-take (last + 1) values n false (omega (arith, high, up))) in
      let same : structure_of (atom_base base) (valuation values)
      ≡ structure_of (atom_base base) (valuation (take (last + 1) values)) =
      only-atoms-matter (atom_base base) h.fine (valuation values) (valuation (take (last + 1) values)) agree in
      record {
        long = omega (arith, length-take (last + 1) values, up, few, within, all);
        model = subst (IsModelUnder base []) same (h.represents.gives (valuation values) sat.1);
      }

-- one more is kept
pub one-more : (base : Base) (f : FoundState) (values : List Bool) → AreFoundModels base f
    → IsFoundModel base (take (f.last + 1) values) → AreFoundModels base (with_newest f values)
one-more base f values are is =
    let new : List (List Bool) = f.models ++ take (f.last + 1) values ∷ [] in
    record {
      last = are.last;
      models = All-drop (IsFoundModel base) (length new - 64) new
          (All-append (IsFoundModel base) f.models (take (f.last + 1) values ∷ []) are.models
          (All-cons (IsFoundModel base) (take (f.last + 1) values) [] is (All-nil (IsFoundModel base))));
    }

-- or it is not, and those of before are kept
pub kept-or-not : (base : Base) (f f' : FoundState) (values : List Bool) {T E : Type 0} (r : Result T E)
    → OnOk r (f' ≡ with_newest f values) → OnErr r (f' ≡ f)
    → OnOk r (IsFoundModel base (take (f.last + 1) values)) → AreFoundModels base f → AreFoundModels base f'
kept-or-not base f f' values (Ok x) kept same is are =
    subst (AreFoundModels base) (sym kept) (one-more base f values are is)
kept-or-not base f f' values (Err e) kept same is are = subst (AreFoundModels base) (sym same) are

-- what is kept is found
pub where-kept : {T E : Type 0} (r : Result T E) {A B : Type 0} → (A → B) → OnOk r A → OnOk r B
where-kept (Ok x) f a = f a
where-kept (Err e) f a = tt
