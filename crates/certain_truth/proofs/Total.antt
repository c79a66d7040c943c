-- A structure makes every atom known.
use Rattle.std.proofs.Common.{◌≡◌, ℕ, List, [], ◌∷◌, ◌++◌, filter, Bool, true, false, not, if◌then◌else◌, Option, Some}
use Rattle.std.proofs.Common.{None, refl, sym, ap, ◌∙◌, subst, inl, inr, slice_get}
use Rattle.std.specs.List.{Contains, AllByRecursion, list_any}
use Rattle.std.proofs.lemmas.Bool.{cases_Bool}
use Rattle.kb_logic.specs.declared.elements.Elem.{Elem}
use Rattle.kb_logic.specs.declared.vocabularies.Symbol.{Symbol}
use Rattle.kb_logic.specs.declared.vocabularies.Vocabulary.{Vocabulary}
use Rattle.kb_logic.specs.declared.structures.Structure.{Structure}
use Rattle.kb_logic.specs.Structures.{IsStructure}
use Rattle.kb_logic.specs.Meaning.{rows_of}
use Rattle.kb_logic.specs.Models.{GroundAtom, HasValueIn, IsAtomOver, AtomHolds}
use Rattle.kb_logic.specs.KnownAtoms.{KnownAtoms, atoms_over, ExtendsData, is_true_atom, known_of}
use Rattle.kb_logic.proofs.AllAtoms.{atom_listed}
use Rattle.kb_logic.proofs.Atoms.{among, in_rows, denotes_one, some_same}
use Rattle.kb_logic.proofs.Has.{has_from, contains_from}
use Rattle.kb_logic.proofs.Members.{all_in, in_all}
use Rattle.kb_logic.proofs.Tables.{passes_filter, has_filter}
use Rattle.partial_structures.specs.KnownAtoms.{value_at, same_atom}
use Rattle.partial_structures.specs.Consistency.{IsConsistent, KnowsMore, KnowsAll}
use Rattle.certain_truth.specs.Laws.{StructuresKnowAll, ExtendsIsKnowsMore}
use Rattle.partial_structures.specs.declared.truths.Truth.TheVariants.{Yes, No, Unknown}
use Rattle.partial_structures.proofs.Extensions.{listed_holds, holds_listed}
use Rattle.partial_structures.proofs.Listed.{listed}
use Rattle.partial_structures.proofs.Sames.{atom_by}
use Rattle.certain_truth.proofs.Soundness.{held_value}

not_both : (b : Bool) → b ≡ true → not b ≡ true → ⊥
not_both true h k = cc
not_both false h k = cc

decided : (b : Bool) → (if b then Yes else (if not b then No else Unknown)) ≡ Unknown → ⊥
decided true h = cc
decided false h = cc

module _ (m : Structure) where
  row_holds : (s : ℕ) (args : List Elem) (o : Option Elem) → is_true_atom m
      (record { symbol = s; args = args; value = o }) ≡ true → AtomHolds m
      (record { symbol = s; args = args; value = o })
  row_holds s args None h = among (rows_of s m.relations) args h
  row_holds s args (Some x) h = among (rows_of s m.functions) (args ++ x ∷ []) h

  holds_row : (s : ℕ) (args : List Elem) (o : Option Elem) → AtomHolds m (record { symbol = s; args = args; value = o })
      → is_true_atom m (record { symbol = s; args = args; value = o }) ≡ true
  holds_row s args None h = in_rows (rows_of s m.relations) args h
  holds_row s args (Some x) h = in_rows (rows_of s m.functions) (args ++ x ∷ []) h

  true_holds : (a : GroundAtom) → is_true_atom m a ≡ true → AtomHolds m a
  true_holds a h = row_holds a.symbol a.args a.value h

  holds_true : (a : GroundAtom) → AtomHolds m a → is_true_atom m a ≡ true
  holds_true a h = holds_row a.symbol a.args a.value h

module _ (v : Vocabulary) (m : Structure) (is : IsStructure v m) where
  known_true : (a : GroundAtom) → Contains (known_of v.symbols m).true_atoms a → is_true_atom m a ≡ true
  known_true a at =
      passes_filter (is_true_atom m) (atoms_over v.symbols m.domains) a
      (has_from (filter (is_true_atom m) (atoms_over v.symbols m.domains)) a at)

  known_false : (a : GroundAtom) → Contains (known_of v.symbols m).false_atoms a → not (is_true_atom m a) ≡ true
  known_false a at =
      passes_filter (λ b. not (is_true_atom m b)) (atoms_over v.symbols m.domains) a
      (has_from (filter (λ b. not (is_true_atom m b)) (atoms_over v.symbols m.domains)) a at)

  over : (a : GroundAtom) → AtomHolds m a → IsAtomOver v.symbols m.domains a
  over a h = (listed_holds v m is a (holds_listed v m is a h)).0

  pub extends_itself : ExtendsData m (known_of v.symbols m)
  extends_itself = record {
    domains = refl;
    true_atoms = in_all (AtomHolds m) (known_of v.symbols m).true_atoms (λ a at. true_holds m a (known_true a at));
    false_atoms = in_all (λ a. AtomHolds m a → ⊥) (known_of v.symbols m).false_atoms
        (λ a at held. not_both (is_true_atom m a) (holds_true m a held) (known_false a at));
  }

  knows_all : KnowsAll (known_of v.symbols m)
  knows_all a over' unknown =
      let atoms = atoms_over v.symbols m.domains in
      let there = atom_listed v.symbols m.domains a over' in
      let yes_ = listed atoms (is_true_atom m) a there in
      let no_ = listed atoms (λ b. not (is_true_atom m b)) a there in
      let is_value : value_at (known_of v.symbols m) a ≡ (if is_true_atom m a then Yes else
      (if not (is_true_atom m a) then No else Unknown)) =
      ap (λ b. if b then Yes else (if list_any (same_atom a) (filter (λ c. not (is_true_atom m c)) atoms) then No else
      Unknown)) yes_
      ∙ ap (λ b. if is_true_atom m a then Yes else (if b then No else Unknown)) no_ in
      decided (is_true_atom m a) (sym is_value ∙ unknown)

  -- a function has one value at its arguments
  one_value : (s : ℕ) (args : List Elem) (ty : Option ℕ) (u w : Option Elem) → HasValueIn m.domains ty u
      → HasValueIn m.domains ty w → AtomHolds m (record { symbol = s; args = args; value = u })
      → AtomHolds m (record { symbol = s; args = args; value = w }) → u ≡ w
  one_value s args None None None h i held also = refl
  one_value s args None None (Some y) h i held also = absurd i
  one_value s args None (Some x) w h i held also = absurd h
  one_value s args (Some ty) None w h i held also = absurd h
  one_value s args (Some ty) (Some x) None h i held also = absurd i
  one_value s args (Some ty) (Some x) (Some y) h i held also =
      let value = held_value m (known_of v.symbols m) v refl is extends_itself in
      ap Some (denotes_one x y (sym (value s args x held) ∙ value s args y also))

  single : (a b : GroundAtom) → Contains (known_of v.symbols m).true_atoms a
      → Contains (known_of v.symbols m).true_atoms b → a.symbol ≡ b.symbol → a.args ≡ b.args → a ≡ b
  single a b at bt e f =
      let held = true_holds m a (known_true a at) in
      let also = true_holds m b (known_true b bt) in
      let u = over a held in
      let w = over b also in
      let same : w.0 ≡ u.0 = some_same w.0 u.0 (sym w.1 ∙ ap (slice_get v.symbols) (sym e) ∙ u.1) in
      let value : HasValueIn m.domains u.0.value b.value = subst
      (λ (d : Symbol). HasValueIn m.domains d.value b.value) same w.3 in
      let there : AtomHolds m (record { symbol = a.symbol; args = a.args; value = b.value }) =
      subst (λ xs. AtomHolds m (record { symbol = a.symbol; args = xs; value = b.value })) (sym f)
      (subst (λ s. AtomHolds m (record { symbol = s; args = b.args; value = b.value })) (sym e) also) in
      atom_by a b e f (one_value a.symbol a.args u.0.value a.value b.value u.3 value held there)

  consistent : IsConsistent (known_of v.symbols m)
  consistent = record {
    over = in_all (IsAtomOver v.symbols m.domains) (known_of v.symbols m).true_atoms
        (λ a at. over a (true_holds m a (known_true a at)));
    single = single;
    apart = λ a at bt. not_both (is_true_atom m a) (known_true a at) (known_false a bt);
  }

  module _ (k : KnownAtoms) (symbols : k.symbols ≡ v.symbols)
      (false_over : AllByRecursion (IsAtomOver k.symbols k.domains) k.false_atoms) where
    more : ExtendsData m k → KnowsMore k (known_of v.symbols m)
    more h = record {
      symbols = sym symbols;
      domains = h.domains;
      true_atoms = λ a at.
          let atoms = atoms_over v.symbols m.domains in
          let held = all_in (AtomHolds m) k.true_atoms h.true_atoms a at in
          contains_from (filter (is_true_atom m) atoms) a (has_filter (is_true_atom m) atoms a
          (atom_listed v.symbols m.domains a (over a held)) (holds_true m a held));
      false_atoms = λ a at.
          let atoms = atoms_over v.symbols m.domains in
          let here = all_in (IsAtomOver k.symbols k.domains) k.false_atoms false_over a at in
          let there = subst (λ ds. IsAtomOver v.symbols ds a) (sym h.domains)
          (subst (λ ss. IsAtomOver ss k.domains a) symbols here) in
          let none : not (is_true_atom m a) ≡ true = elim (cases_Bool (is_true_atom m a)) [
            | inl e ↦ absurd (all_in (λ b. AtomHolds m b → ⊥) k.false_atoms h.false_atoms a at (true_holds m a e))
            | inr e ↦ ap not e
          ] in
          contains_from (filter (λ b. not (is_true_atom m b)) atoms) a (has_filter (λ b. not (is_true_atom m b)) atoms a
          (atom_listed v.symbols m.domains a there) none);
    }

    extends : KnowsMore k (known_of v.symbols m) → ExtendsData m k
    extends h = record {
      domains = h.domains;
      true_atoms = in_all (AtomHolds m) k.true_atoms (λ a at. true_holds m a (known_true a (h.true_atoms a at)));
      false_atoms = in_all (λ a. AtomHolds m a → ⊥) k.false_atoms (λ a at held. not_both (is_true_atom m a)
          (holds_true m a held) (known_false a (h.false_atoms a at)));
    }

pub structures_know_all : StructuresKnowAll
structures_know_all v m is = (knows_all v m is, consistent v m is, extends_itself v m is)

pub extends_is_knows_more : ExtendsIsKnowsMore
extends_is_knows_more v m is k symbols false_over = (
  more v m is k symbols false_over,
  extends v m is k symbols false_over,
)
