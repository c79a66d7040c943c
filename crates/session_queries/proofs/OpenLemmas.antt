-- How many atoms the data leave unknown.
use Rattle.std.proofs.Common.{◌≡◌, ◌+◌, ◌≤◌, Bool, true, false, cond, List, [], ◌∷◌, length, map, ap}
use Rattle.std.proofs.Common.{suc, arith, filter, not}
use Rattle.std.proofs.lemmas.List.{length-map}
use Rattle.kb_logic.specs.declared.vocabularies.Symbol.{Symbol}
use Rattle.kb_logic.specs.Bases.{Base}
use Rattle.kb_logic.specs.InForce.{literal_with}
use Rattle.kb_logic.specs.KnownAtoms.{atoms_over}
use Rattle.kb_logic.specs.Models.{GroundAtom}
use Rattle.lit_core.specs.declared.literals.Lit.{Lit}
use Rattle.ground_core.specs.Problems.{ProblemState}
use Rattle.consequences.specs.declared.kept.Kept.{Kept}
use Rattle.kept_supports.specs.Supports.{is_decided, undecided}
use Rattle.partial_structures.specs.KnownAtoms.{value_at}
use Rattle.term_values.specs.GroundBases.{GroundBase}
use Rattle.atom_numbers.specs.Numbers.{HasNumber}
use Rattle.atom_numbers.specs.Unknown.{is_unknown, unknown_atoms}
use Rattle.forced_literals.specs.OpenTasks.{IsOpenTaskOf}
use Rattle.ground_task.proofs.ChoiceFacts.{each-length}

filter_shorter : {A : Type 0} (test : A → Bool) (xs : List A) → length (filter test xs) ≤ length xs
filter_shorter test [] = omega arith
filter_shorter {A} test (x ∷ xs) =
    let rest : length (filter test xs) ≤ length xs = filter_shorter test xs in
    elim (test x) as (λ (b : Bool). length (cond b (x ∷ filter test xs) (filter test xs)) ≤ suc (length xs))
    [ true ↦ omega (arith, rest) | false ↦ omega (arith, rest) ]

-- the unknown atoms are no more than all atoms
pub few-unknown : (kb : Base) (b : GroundBase) (p : ProblemState) (lits : List Lit) → IsOpenTaskOf kb b p lits
    → length lits + 1 ≤ length (atoms_over kb.vocabulary.symbols kb.known.domains) + 1
few-unknown kb b p lits is =
    let atoms : List GroundAtom = atoms_over kb.known.symbols kb.known.domains in
    let same : length atoms ≡ length (atoms_over kb.vocabulary.symbols kb.known.domains) =
    ap (λ (ss : List Symbol). length (atoms_over ss kb.known.domains)) is.data_of.symbols in
    let each : length (map (literal_with true) (unknown_atoms kb.known)) ≡ length lits =
    each-length (HasNumber b) (map (literal_with true) (unknown_atoms kb.known)) lits is.unknown in
    omega (
      arith,
      same,
      each,
      length-map (unknown_atoms kb.known) (literal_with true),
      filter_shorter (λ a. is_unknown (value_at kb.known a)) atoms,
    )

-- nor are those of which nothing is kept
pub few-undecided : (kb : Base) (b : GroundBase) (p : ProblemState) (lits : List Lit) (ks : List Kept)
    → IsOpenTaskOf kb b p lits
    → length (undecided ks lits) + 1 ≤ length (atoms_over kb.vocabulary.symbols kb.known.domains) + 1
few-undecided kb b p lits ks is =
    omega (arith, filter_shorter (λ l. not (is_decided ks l)) lits, few-unknown kb b p lits is)
