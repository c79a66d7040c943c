-- What is asked and what is found are literals of ground atoms.
use Rattle.std.proofs.Common.{◌≡◌, true, List, map, length, sym, subst}
use Rattle.kb_logic.specs.declared.structures.Literal.{Literal}
use Rattle.kb_logic.specs.Bases.{Base}
use Rattle.kb_logic.specs.InForce.{literal_with}
use Rattle.kb_logic.specs.KnownAtoms.{atoms_over}
use Rattle.kb_logic.specs.Structures.{EachWith}
use Rattle.lit_core.specs.declared.literals.Lit.{Lit}
use Rattle.ground_core.specs.Problems.{ProblemState, IsLitOf, AreLitsOf}
use Rattle.ground_core.proofs.Sublists.{sublist-all}
use Rattle.term_values.specs.GroundBases.{GroundBase}
use Rattle.atom_numbers.specs.Numbers.{HasNumber}
use Rattle.atom_numbers.specs.Unknown.{unknown_atoms}
use Rattle.ground_task.proofs.TaskFacts.{of-atoms, atoms-number}
use Rattle.forced_literals.specs.OpenTasks.{IsOpenTaskOf}
use Rattle.forced_literals.specs.Picking.{ArePicked}
use Rattle.forced_literals.specs.Searches.{AreForcedOf, both_signs}
use Rattle.forced_literals.proofs.SearchFacts.{signed-are}

module _ (base : Base) (b : GroundBase) (p : ProblemState) (unknown : List Lit) (h : IsOpenTaskOf base b p unknown)
  where
    abbrev count : length p.atoms ≡ length (atoms_over b.vocabulary.symbols b.domains)
    count = atoms-number base b p h.task

    pub choice-lits : (choices : List Literal) (lits : List Lit) → EachWith (HasNumber b) choices lits
        → AreLitsOf (length p.atoms) lits
    choice-lits choices lits each = of-atoms b (length p.atoms) count choices lits each

    pub unknown-lits : AreLitsOf (length p.atoms) unknown
    unknown-lits = of-atoms b (length p.atoms) count (map (literal_with true) (unknown_atoms base.known)) unknown
        h.unknown

    pub found-lits : (assumed forced : List Lit) → AreForcedOf p assumed (both_signs unknown) forced
        → AreLitsOf (length (atoms_over b.vocabulary.symbols b.domains)) forced
    found-lits assumed forced found =
        subst (λ n. AreLitsOf n forced) count
        (sublist-all (IsLitOf (length p.atoms)) forced (both_signs unknown) found.order
        (signed-are (length p.atoms) unknown unknown-lits))

    pub found-slice : (assumed forced : List Lit) → AreForcedOf p assumed (both_signs unknown) forced
        → (numbers : GroundBase) (ks : List Lit) → numbers ≡ b → ks ≡ forced
        → AreLitsOf (length (atoms_over numbers.vocabulary.symbols numbers.domains)) ks
    found-slice assumed forced found numbers ks same is =
        subst (λ (x : GroundBase). AreLitsOf (length (atoms_over x.vocabulary.symbols x.domains)) ks) (sym same)
        (subst (AreLitsOf (length (atoms_over b.vocabulary.symbols b.domains))) (sym is) (found-lits assumed forced
        found))

-- what is picked of slices
pub picked-slices : (n b : GroundBase) (cs chosen ks forced : List Lit) (list : List Literal) → n ≡ b → cs ≡ chosen
    → ks ≡ forced → ArePicked n cs ks ks list → ArePicked b chosen forced forced list
picked-slices n b cs chosen ks forced list same e f h =
    subst (λ (x : GroundBase). ArePicked x chosen forced forced list) same
    (subst (λ (x : List Lit). ArePicked n x forced forced list) e
    (subst (λ (x : List Lit). ArePicked n cs x x list) f h))
