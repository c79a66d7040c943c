-- The texts of the tables of a structure, one line for each symbol.
use Rattle.std.specs.Prelude.{ℕ, List, [], ◌∷◌, ◌++◌, Option, Some, None, flat_map, codes}
use Rattle.std.specs.List.{enumerate_from}
use Rattle.kb_logic.specs.declared.elements.Elem.{Elem}
use Rattle.kb_logic.specs.declared.vocabularies.Symbol.{Symbol}
use Rattle.kb_logic.specs.declared.vocabularies.Vocabulary.{Vocabulary}
use Rattle.kb_logic.specs.declared.structures.Structure.{Structure}
use Rattle.kb_logic.specs.Meaning.{rows_of}
use Rattle.literal_printer.specs.Texts.{elem_text, row_text}

-- `a,b; c,d`
abbrev pub rows_text : List (List Elem) → List ℕ
rows_text [] = []
rows_text (row ∷ rows) = row_text row ++ flat_map (λ r. codes "; " ++ row_text r) rows

-- `true` where the table of the proposition has its one row
abbrev pub truth_text : List (List Elem) → List ℕ
truth_text [] = codes "false"
truth_text (row ∷ rows) = codes "true"

-- of a predicate: `true` or `false`, or `{a,b; c,d}` with the rows in the order of the table
abbrev pub predicate_text : List ℕ → List (List Elem) → List ℕ
predicate_text [] rows = truth_text rows
predicate_text (ty ∷ types) rows = codes "{" ++ (rows_text rows ++ codes "}")

-- a function's row has its value last, and an arrow stands before that
abbrev pub separator_text : List Elem → List ℕ
separator_text [] = codes "->"
separator_text (x ∷ xs) = codes ","

abbrev pub further_text : List Elem → List ℕ
further_text [] = []
further_text (x ∷ xs) = separator_text xs ++ (elem_text x ++ further_text xs)

-- `a,b->r`, or `r` where there are no arguments
abbrev pub mapping_text : List Elem → List ℕ
mapping_text [] = []
mapping_text (x ∷ xs) = elem_text x ++ further_text xs

-- `a->r; b->g`
abbrev pub mappings_text : List (List Elem) → List ℕ
mappings_text [] = []
mappings_text (row ∷ rows) = mapping_text row ++ flat_map (λ r. codes "; " ++ mapping_text r) rows

-- of a function: `r` of one without arguments, or `{a->r; b->g}` with the rows in the order of the table
abbrev pub function_text : List ℕ → List (List Elem) → List ℕ
function_text [] rows = mappings_text rows
function_text (ty ∷ types) rows = codes "{" ++ (mappings_text rows ++ codes "}")

-- what stands for a symbol with these types of arguments: a predicate, or a function where there is a type of its
-- values
abbrev pub value_text : Structure → ℕ → List ℕ → Option ℕ → List ℕ
value_text m number types None = predicate_text types (rows_of number m.relations)
value_text m number types (Some ty) = function_text types (rows_of number m.functions)

-- the line of the symbol with this number
abbrev pub symbol_line : Structure → ℕ × Symbol → List ℕ
symbol_line m (number, symbol) = symbol.name ++ (codes " = " ++
    (value_text m number symbol.args symbol.value ++ codes "\n"))

-- one line for each symbol, in order of declaration
abbrev pub symbol_lines : Vocabulary → Structure → List ℕ
symbol_lines vocab m = flat_map (symbol_line m) (enumerate_from 0 vocab.symbols)
