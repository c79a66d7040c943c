-- The line that is printed of a case: what its call makes of its text, over the text's bytes alone.
use Rattle.std.specs.Prelude.{◌≡◌, ◌++◌, ◌⊎◌, ℕ, List, [], ◌∷◌, length, slice_get, codes, Option, Some, None, Ok, Err}
use Rattle.std.specs.Fmt.{decimal}
use Rattle.std.specs.List.{filter_map}
use Rattle.kb_text.specs.Depth.{outermost}
use Rattle.kb_text.specs.Refusals.{text_of}
use Rattle.kb_text.specs.Tokens.{Lexeme, TokensFrom}
use Rattle.kb_text.specs.declared.fault.KbFault.{KbFault}
use Rattle.kb_text.specs.declared.token.Kind.{Kind}
use Rattle.kb_text.specs.declared.token.Kind.TheVariants.{Word, Int, Sign, Procedure}
use Rattle.grammar.specs.Trees.{Formula, Term}
use Rattle.grammar.specs.Fine.{FineFormula, FineTerm}
use Rattle.grammar.specs.Spelling.{put_formula, put_term}
use Rattle.grammar.specs.Whole.{Reads}
use Rattle.grammar.specs.BlockTrees.{Block, Structure}
use Rattle.grammar.specs.BlockView.{as_vocabulary, as_theory, as_structure, as_term_block}
use Rattle.grammar.specs.FileReads.{KbReads}
use Rattle.stage_definitions.specs.Scopes.{Text}
use Rattle.stage_definitions.specs.Earliest.{IsEarliest}
use Rattle.stage_definitions.specs.Files.{File}
use Rattle.stage_definitions.specs.FileTrees.{file_of}
use Rattle.stage_definitions.specs.BlocksStage.{block_uses, BlocksRefuse, IsPicked}
use Rattle.stage_definitions.specs.NamesStage.{NamesRefuse}
use Rattle.stage_definitions.specs.Numbering.{IsNamed, NamedFile}
use Rattle.stage_definitions.specs.TypesStage.{TypesRefuse, IsTyped}
use Rattle.stage_definitions.specs.TypedFiles.{TypedFile}
use Rattle.kb_logic.specs.KnownAtoms.{KnownAtoms}
use Rattle.stage_definitions.specs.DataStage.{StructureRefuses}
use Rattle.stage_definitions.specs.DataAnswer.{IsDataOf}
use Rattle.stage_definitions.specs.SizesStage.{Sizes, SizesRefuse, size_uses, AreSizesOf}
use Rattle.reading_cases.specs.Cases.{call_for, first_line, further_lines}
use Rattle.reading_cases.specs.declared.calls.Call.{Call}
use Rattle.reading_cases.specs.declared.calls.Call.TheVariants as call

-- ---- texts

abbrev pub letter_of : Kind → List ℕ
letter_of Word = codes "W"
letter_of Int = codes "I"
letter_of Sign = codes "S"
letter_of Procedure = codes "P"

-- a token: its kind and its span
abbrev pub word_of : Lexeme → List ℕ
word_of t = codes " " ++ (letter_of t.kind ++ (decimal t.start ++ (codes ".." ++ decimal t.stop)))

abbrev pub words_of : List Lexeme → List ℕ
words_of [] = codes "\n"
words_of (t ∷ ts) = word_of t ++ words_of ts

abbrev pub fault_text : KbFault → List ℕ
fault_text fault = text_of fault.cause ++ (codes " at " ++ (decimal fault.place ++ codes "\n"))

-- how many blocks there are of each kind, and where the text ends
abbrev pub counts_text : ℕ → ℕ → ℕ → ℕ → ℕ → List ℕ
counts_text vocabularies theories structures terms end =
    decimal vocabularies ++ (codes " " ++ (decimal theories ++ (codes " " ++ (decimal structures ++ (codes " "
    ++ (decimal terms ++ (codes ", end " ++ (decimal end ++ codes "\n"))))))))

abbrev pub picked_text : ℕ → ℕ → List ℕ
picked_text theory structure =
    codes "theory " ++ (decimal theory ++ (codes " structure " ++ (decimal structure ++ codes "\n")))

abbrev pub sizes_text : ℕ → ℕ → List ℕ
sizes_text atoms weight = codes "atoms " ++ (decimal atoms ++ (codes " weight " ++ (decimal weight ++ codes "\n")))

-- ---- lines

-- the line of a refusal of this kind
abbrev pub IsFaultLine : (KbFault → Type 0) → List ℕ → Type 0
IsFaultLine Refuses line = (fault : KbFault) × Refuses fault × (line ≡ fault_text fault)

abbrev pub IsTokensLine : List ℕ → List ℕ → Type 0
IsTokensLine text line =
    ((ts : List Lexeme) × TokensFrom outermost 0 text (Ok ts) × (line ≡ words_of ts))
    ⊎ IsFaultLine (λ f. TokensFrom outermost 0 text (Err f)) line

abbrev pub IsCountLine : List ℕ → List ℕ → Type 0
IsCountLine text line =
    ((ts : List Lexeme) × TokensFrom outermost 0 text (Ok ts) × (line ≡ decimal (length ts) ++ codes " tokens\n"))
    ⊎ IsFaultLine (λ f. TokensFrom outermost 0 text (Err f)) line

abbrev pub IsFormulaLine : List ℕ → List ℕ → Type 0
IsFormulaLine text line =
    ((f : Formula) × Reads put_formula FineFormula text (Ok f) × (line ≡ codes "read\n"))
    ⊎ IsFaultLine (λ f. Reads put_formula FineFormula text (Err f)) line

abbrev pub IsTermLine : List ℕ → List ℕ → Type 0
IsTermLine text line =
    ((x : Term) × Reads put_term FineTerm text (Ok x) × (line ≡ codes "read\n"))
    ⊎ IsFaultLine (λ f. Reads put_term FineTerm text (Err f)) line

abbrev pub counts_of : List Block → ℕ → List ℕ
counts_of blocks len =
    counts_text (length (filter_map as_vocabulary blocks)) (length (filter_map as_theory blocks))
    (length (filter_map as_structure blocks)) (length (filter_map as_term_block blocks)) len

abbrev pub IsFileLine : List ℕ → List ℕ → Type 0
IsFileLine text line =
    ((blocks : List Block) × KbReads text (Ok blocks) × (line ≡ counts_of blocks (length text)))
    ⊎ IsFaultLine (λ f. KbReads text (Err f)) line

-- the text is read as these blocks
pub record IsFileOf (text : List ℕ) (f : File) : Type 0 where
  pub blocks : List Block
  pub read : KbReads text (Ok blocks)
  pub file : f ≡ file_of blocks (length text)

-- the text is refused before its stages, or by a stage of the file that it is
abbrev pub RefusedBy : List ℕ → (File → KbFault → Type 0) → KbFault → Type 0
RefusedBy text Stage fault = KbReads text (Err fault) ⊎ ((f : File) × IsFileOf text f × Stage f fault)

abbrev pub IsPickLine : Option Text → List ℕ → List ℕ → Type 0
IsPickLine theory text line =
    ((f : File) × (t s : ℕ) × IsFileOf text f × IsPicked f theory None t s × (line ≡ picked_text t s))
    ⊎ IsFaultLine (RefusedBy text (λ f. IsEarliest (BlocksRefuse (block_uses f theory None)))) line

abbrev pub IsNamesLine : List ℕ → List ℕ → Type 0
IsNamesLine text line =
    ((f : File) × (n : NamedFile) × IsFileOf text f × IsNamed f n × (line ≡ codes "named\n"))
    ⊎ IsFaultLine (RefusedBy text (λ f. IsEarliest (NamesRefuse f))) line

-- refused by the stage of names, or by that of types where that of names accepts
abbrev pub NamesOrTypes : File → KbFault → Type 0
NamesOrTypes f fault = IsEarliest (NamesRefuse f) fault ⊎ ((n : NamedFile) × IsNamed f n × IsEarliest
    (TypesRefuse n) fault)

abbrev pub IsTypesLine : List ℕ → List ℕ → Type 0
IsTypesLine text line =
    ((f : File) × (n : NamedFile) × (t : TypedFile) × IsFileOf text f × IsNamed f n × IsTyped n t
    × (line ≡ codes "typed\n"))
    ⊎ IsFaultLine (RefusedBy text NamesOrTypes) line

-- refused by the stage of data, or by that of sizes where that of data accepts
abbrev pub DataOrSizes : TypedFile → ℕ → Structure → KbFault → Type 0
DataOrSizes y t tree fault =
    IsEarliest (StructureRefuses y t tree) fault
    ⊎ ((d : KnownAtoms) × IsDataOf y t tree d × IsEarliest (SizesRefuse (size_uses y t d.domains)) fault)

-- the sizes over the structure beside the theory with this number
abbrev pub IsMeasuredLine : TypedFile → ℕ → Structure → List ℕ → Type 0
IsMeasuredLine y t tree line =
    ((d : KnownAtoms) × (z : Sizes) × IsDataOf y t tree d × AreSizesOf y t d.domains z
    × (line ≡ sizes_text z.atoms z.weight))
    ⊎ IsFaultLine (DataOrSizes y t tree) line

-- the same in a file, once its names and its types are accepted
abbrev pub IsChosenLine : File → ℕ → Structure → List ℕ → Type 0
IsChosenLine f t tree line =
    ((n : NamedFile) × (y : TypedFile) × IsNamed f n × IsTyped n y × IsMeasuredLine y t tree line)
    ⊎ IsFaultLine (NamesOrTypes f) line

-- the text is that of a file, of which this theory and this structure are used where no name is given
pub record IsReadAs (text : List ℕ) (f : File) (t : ℕ) (tree : Structure) : Type 0 where
  pub blocks : List Block
  pub read : KbReads text (Ok blocks)
  pub file : f ≡ file_of blocks (length text)
  pub number : ℕ
  pub picked : IsPicked f None None t number
  pub structure : slice_get (filter_map as_structure blocks) number ≡ Some tree

abbrev pub IsDataLine : List ℕ → List ℕ → Type 0
IsDataLine text line =
    ((f : File) × (t : ℕ) × (tree : Structure) × IsReadAs text f t tree × IsChosenLine f t tree line)
    ⊎ IsFaultLine (RefusedBy text (λ f. IsEarliest (BlocksRefuse (block_uses f None None)))) line

-- the line of a text by the call that it is given to
abbrev pub IsLineOf : Option Call → List ℕ → List ℕ → Type 0
IsLineOf None text line = line ≡ codes "no such call\n"
IsLineOf (Some call.Tokens) text line = IsTokensLine text line
IsLineOf (Some call.Count) text line = IsCountLine text line
IsLineOf (Some call.Formula) text line = IsFormulaLine text line
IsLineOf (Some call.Term) text line = IsTermLine text line
IsLineOf (Some call.File) text line = IsFileLine text line
IsLineOf (Some call.Pick) text line = IsPickLine None text line
IsLineOf (Some call.PickT) text line = IsPickLine (Some (codes "T")) text line
IsLineOf (Some call.PickU) text line = IsPickLine (Some (codes "U")) text line
IsLineOf (Some call.Names) text line = IsNamesLine text line
IsLineOf (Some call.Types) text line = IsTypesLine text line
IsLineOf (Some call.Data) text line = IsDataLine text line

-- the line of a case
abbrev pub IsLine : List ℕ → List ℕ → Type 0
IsLine case line = IsLineOf (call_for (first_line case)) (further_lines case) line
