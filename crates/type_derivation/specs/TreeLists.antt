-- Trees before further trees, and what is built of a part of a file.
use Rattle.std.specs.Prelude.{ℕ, ◌≡◌, Bool, List, [], ◌∷◌}
use Rattle.kb_logic.specs.Trees.{TermTree, TermTrees, more_terms, SummandTrees, more_summands, FormulaTree}
use Rattle.kb_logic.specs.Trees.{FormulaTrees, more_formulas}

abbrev pub then_formulas : List FormulaTree → FormulaTrees → FormulaTrees
then_formulas [] rest = rest
then_formulas (f ∷ fs) rest = more_formulas f (then_formulas fs rest)

abbrev pub then_terms : List TermTree → TermTrees → TermTrees
then_terms [] rest = rest
then_terms (t ∷ ts) rest = more_terms t (then_terms ts rest)

abbrev pub then_summands : List (Bool × TermTree) → SummandTrees → SummandTrees
then_summands [] rest = rest
then_summands (s ∷ ss) rest = more_summands s.0 s.1 (then_summands ss rest)

-- What is built is the right tree, the types ts are left, and the places of terms are now ps. One record in place of
-- three clauses, since each clause of a function is a goal at each of its ways out.
pub record IsBuilt {T : Type 0} (built : T) (ts ps : List ℕ) (right : T) (left begun : List ℕ) : Type 0 where
  pub tree : built ≡ right
  pub types : ts ≡ left
  pub places : ps ≡ begun
