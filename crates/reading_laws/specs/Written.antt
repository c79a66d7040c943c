-- Structures as they are written, for worked examples. The places of brackets and signs, at which nothing is looked,
-- are 0.
use Rattle.std.specs.Prelude.{ℕ, List, [], ◌∷◌, map, Option, None, Some, fold}
use Rattle.kb_logic.specs.declared.elements.Elem.{Elem}
use Rattle.kb_logic.specs.declared.vocabularies.Parent.{Parent}
use Rattle.kb_logic.specs.declared.vocabularies.Parent.TheVariants as parent
use Rattle.kb_logic.specs.declared.vocabularies.TypeDecl.{TypeDecl}
use Rattle.kb_logic.specs.declared.vocabularies.Symbol.{Symbol}
use Rattle.kb_logic.specs.declared.vocabularies.Vocabulary.{Vocabulary}
use Rattle.kb_logic.specs.Models.{GroundAtom}
use Rattle.kb_logic.specs.KnownAtoms.{KnownAtoms}
use Rattle.kb_text.specs.declared.fault.KbFault.{KbFault}
use Rattle.grammar.specs.Trees.{name}
use Rattle.grammar.specs.BlockTrees as raw
use Rattle.stage_definitions.specs.TypedFiles.{TypedTermTree, TypedFile}
use Rattle.stage_definitions.specs.DataEntries.{Said, said}
use Rattle.stage_definitions.specs.DataStage.{data_uses, data_noted}
use Rattle.stage_definitions.specs.DataAnswer.{given_by}

-- ---- vocabularies

abbrev pub type_under : List ℕ → Parent → TypeDecl
type_under n above = record { name = n; parent = above; made = [] }

abbrev pub type_from : List ℕ → List (List ℕ) → TypeDecl
type_from n ns = record { name = n; parent = parent.Root; made = ns }

abbrev pub symbol : List ℕ → List ℕ → Option ℕ → Symbol
symbol n args value = record { name = n; args = args; value = value }

abbrev pub vocabulary : List TypeDecl → List Symbol → Vocabulary
vocabulary types symbols = record { name = []; types = types; symbols = symbols }

-- the atom of a symbol with these arguments, and this value where it is a function
abbrev pub atom : ℕ → List Elem → Option Elem → GroundAtom
atom s args value = record { symbol = s; args = args; value = value }

-- what is known of atoms over these domains
abbrev pub known : Vocabulary → List (List Elem) → List GroundAtom → List GroundAtom → KnownAtoms
known v domains true_atoms false_atoms = record {
  symbols = v.symbols;
  domains = domains;
  true_atoms = true_atoms;
  false_atoms = false_atoms;
}

-- ---- elements, rows and entries

abbrev pub word : List ℕ → ℕ → raw.Element
word text place = raw.named (name text place)

abbrev pub integer : ℕ → ℕ → raw.Element
integer n place = raw.number n place

abbrev pub minus : ℕ → ℕ → raw.Element
minus n place = raw.below_zero place n 0

abbrev pub single : raw.Element → raw.RowItem
single x = raw.item x None

-- x..y
abbrev pub range : raw.Element → raw.Element → raw.RowItem
range x y = raw.item x (Some (0, y))

abbrev pub among : raw.RowItem → List raw.RowItem → raw.RowItems
among x xs = raw.items x (map (λ y. (0, y)) xs)

-- x, y
abbrev pub plain : raw.RowItem → List raw.RowItem → raw.Row
plain x xs = raw.plain (among x xs) None

-- x, y -> v
abbrev pub to : raw.RowItem → List raw.RowItem → raw.Element → raw.Row
to x xs v = raw.plain (among x xs) (Some (0, v))

-- (x, y), where the bracket stands at this place
abbrev pub bracketed : ℕ → raw.RowItem → List raw.RowItem → raw.Row
bracketed place x xs = raw.bracketed place (among x xs) 0 None

-- -> v, where the arrow stands at this place
abbrev pub only : ℕ → raw.Element → raw.Row
only place v = raw.only (place, v)

-- one element as a row
abbrev pub alone : raw.Element → raw.Row
alone x = plain (single x) []

abbrev pub rows_if : List raw.Row → Option raw.Rows
rows_if [] = None
rows_if (r ∷ rs) = Some (raw.rows r (map (λ q. (0, q)) rs) None)

abbrev pub table : List raw.Row → raw.Value
table rs = raw.table 0 (rows_if rs) 0

-- w = value, where w stands at this place
abbrev pub entry : List ℕ → ℕ → raw.Value → raw.Entry
entry text place value = raw.entry (name text place) None 0 value

-- w<m> = value, where w and m stand at these places
abbrev pub marked : List ℕ → ℕ → List ℕ → ℕ → raw.Value → raw.Entry
marked text place m at value = raw.entry (name text place) (Some (raw.closed_mark 0 (name m at) 0)) 0 value

-- ---- what is asked of them

-- a file with no theory and these term blocks, of which the terms of each begin at these places
abbrev pub file : Vocabulary → List ℕ → List TypedTermTree → List (List ℕ) → TypedFile
file v type_places blocks places = record {
  vocabulary = v;
  theories = [];
  terms = blocks;
  places = record { types = type_places; symbols = []; theories = []; theory_terms = []; block_terms = places };
}

abbrev pub refusal_in : TypedFile → List Said → Option KbFault
refusal_in f es = fold (data_noted f.vocabulary.types es) None (data_uses f 0 es)

-- the earliest refusal of a structure with these entries, beside term blocks whose terms begin at these places
abbrev pub refused_beside : Vocabulary → List ℕ → List TypedTermTree → List (List ℕ) → List raw.Entry → Option KbFault
refused_beside v type_places blocks places es = refusal_in (file v type_places blocks places) (map (said v) es)

-- what entries give
abbrev pub given : Vocabulary → List raw.Entry → KnownAtoms
given v es = given_by v (map (said v) es)
