-- The quantified formulas of a block reach as far right as they can.
use Rattle.std.specs.Prelude.{ℕ, List, [], ◌∷◌, Option, Some}
use Rattle.grammar.specs.Terminals.{Tok}
use Rattle.grammar.specs.Trees.{Formula}
use Rattle.grammar.specs.Fine.{FineFormula, FineTerm, FineApp}
use Rattle.grammar.specs.Texts.{ParsesTo}
use Rattle.grammar.specs.BlockTrees.{Head, atom_head, value_head, Rule, rule, TheoryItem, sentence, definition}
use Rattle.grammar.specs.BlockTrees.{Theory, theory, TermBlock, term_block, Block, theory_block, value_block}
use Rattle.grammar.specs.BlockSpelling.{put_file}

-- each of a list
abbrev pub FineEach : {A : Type 0} → (A → Type 0) → List A → Type 0
FineEach Fine [] = Unit {0}
FineEach Fine (x ∷ xs) = Fine x × FineEach Fine xs

abbrev pub FineHead : Head → Type 0
FineHead (atom_head a) = FineApp a
FineHead (value_head a p x) = FineApp a × FineTerm x

abbrev pub FineBody : Option (ℕ × Option Formula) → Type 0
FineBody (Some (p, Some f)) = FineFormula f
FineBody _ = Unit {0}

abbrev pub FineRule : Rule → Type 0
FineRule (rule bs h b d) = FineHead h × FineBody b

abbrev pub FineTheoryItem : TheoryItem → Type 0
FineTheoryItem (sentence f d) = FineFormula f
FineTheoryItem (definition b rs e) = FineEach FineRule rs

abbrev pub FineTheory : Theory → Type 0
FineTheory (theory h is e) = FineEach FineTheoryItem is

abbrev pub FineTermBlock : TermBlock → Type 0
FineTermBlock (term_block h x d e) = FineTerm x

abbrev pub FineBlock : Block → Type 0
FineBlock (theory_block x) = FineTheory x
FineBlock (value_block x) = FineTermBlock x
FineBlock _ = Unit {0}

abbrev pub FineFile : List Block → Type 0
FineFile = FineEach FineBlock

-- ts is the text of these blocks
abbrev pub IsFile : List Tok → List Block → Type 0
IsFile = ParsesTo put_file FineFile
