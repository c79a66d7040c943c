-- Choices over the knowledge base, and some of them.
use Rattle.std.proofs.Common.{List, [], ◌∷◌, sym, subst, inl, inr}
use Rattle.std.specs.List.{AllByRecursion}
use Rattle.std.proofs.lemmas.List.Elements.{All-from_recursion}
use Rattle.kb_logic.specs.declared.structures.Literal.{Literal}
use Rattle.kb_logic.specs.Bases.{Base}
use Rattle.kb_logic.specs.Models.{IsAtomOver, atom_of}
use Rattle.kb_logic.proofs.Atoms.{elements_tuple}
use Rattle.ground_core.specs.Problems.{ProblemState}
use Rattle.ground_core.specs.Solving.{IsSublist}
use Rattle.term_values.specs.GroundBases.{GroundBase}
use Rattle.ground_task.specs.Choices.{AreOver}
use Rattle.consult_text.specs.Literals.{IsLiteralOver}
use Rattle.ground_task.specs.Tasks.{IsTaskOf}

-- the atom of a literal over the knowledge base is one of its atoms
pub atom_over : (kb : Base) (l : Literal) → IsLiteralOver kb l
    → IsAtomOver kb.vocabulary.symbols kb.known.domains (atom_of l)
atom_over kb l over = (
  over.symbol,
  over.declared,
  elements_tuple kb.known.domains over.symbol.args l.args over.args,
  over.value,
)

-- the choices are over the atoms of the task
over_at : (kb : Base) (ls : List Literal) → AllByRecursion (IsLiteralOver kb) ls
    → AllByRecursion (λ l. IsAtomOver kb.vocabulary.symbols kb.known.domains (atom_of l)) ls
over_at kb [] over = tt
over_at kb (l ∷ ls) over = (atom_over kb l over.0, over_at kb ls over.1)

pub choices_over : (kb : Base) (numbers : GroundBase) (p : ProblemState) (ls : List Literal) → IsTaskOf kb numbers p
    → AllByRecursion (IsLiteralOver kb) ls → AreOver numbers ls
choices_over kb numbers p ls is over =
    subst (λ (b : GroundBase). AreOver b ls) (sym is.numbers)
    (All-from_recursion (λ l. IsAtomOver kb.vocabulary.symbols kb.known.domains (atom_of l)) ls (over_at kb ls over))

-- what holds of each holds of each of some of them
pub of_some : {A : Type 0} (P : A → Type 0) (xs ys : List A) → IsSublist xs ys → AllByRecursion P ys
    → AllByRecursion P xs
of_some P [] ys is all = tt
of_some P (x ∷ xs) [] is all = absurd is
of_some P (x ∷ xs) (y ∷ ys) (inl is) all = (subst P (sym is.0) all.0, of_some P xs ys is.1 all.1)
of_some P (x ∷ xs) (y ∷ ys) (inr is) all = of_some P (x ∷ xs) ys is all.1
