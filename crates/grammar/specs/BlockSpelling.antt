-- What the blocks are written as: their tokens, and then these.
use Rattle.std.specs.Prelude.{ℕ, List, [], ◌∷◌, Option, Some, None}
use Rattle.grammar.specs.declared.terminal.Terminal.{Terminal}
use Rattle.grammar.specs.declared.terminal.Terminal.TheVariants as t
use Rattle.grammar.specs.declared.terminal.Outer.{Outer}
use Rattle.grammar.specs.declared.terminal.Outer.TheVariants as o
use Rattle.grammar.specs.declared.terminal.Adding.TheVariants.{Minus}
use Rattle.grammar.specs.declared.terminal.Comparison.TheVariants as cmp
use Rattle.grammar.specs.declared.raw_blocks.Separator.{Separator}
use Rattle.grammar.specs.declared.raw_blocks.Separator.TheVariants as sep
use Rattle.grammar.specs.Terminals.{Tok, tok_at, word, sign}
use Rattle.grammar.specs.Trees.{Name, Formula}
use Rattle.grammar.specs.Spelling.{put_name, put_vars, put_formula, put_term, put_app}
use Rattle.grammar.specs.BlockTrees.{Names, names, Positions, positions, Declaration, type_of, constructed, symbol}
use Rattle.grammar.specs.BlockTrees.{Vocabulary, vocabulary, Header, header, Binding, binding, Head, atom_head}
use Rattle.grammar.specs.BlockTrees.{value_head, Rule, rule, TheoryItem, sentence, definition, Theory, theory}
use Rattle.grammar.specs.BlockTrees.{TermBlock, term_block, Element, named, number, below_zero, RowItem, item}
use Rattle.grammar.specs.BlockTrees.{RowItems, items, Row, plain, bracketed, only, Rows, rows, Value, truth_value}
use Rattle.grammar.specs.BlockTrees.{element_value, table, Mark, closed_mark, open_mark, Entry, entry, Structure}
use Rattle.grammar.specs.BlockTrees.{structure, Block, vocabulary_block, theory_block, structure_block, value_block}
use Rattle.grammar.specs.BlockTrees.{procedure}

-- what stands in [ ]
abbrev pub put_option : {A : Type 0} → (A → List Tok → List Tok) → Option A → List Tok → List Tok
put_option put None ts = ts
put_option put (Some a) ts = put a ts

-- what stands in { }
abbrev pub put_each : {A : Type 0} → (A → List Tok → List Tok) → List A → List Tok → List Tok
put_each put [] ts = ts
put_each put (x ∷ xs) ts = put x (put_each put xs ts)

-- this sign, and a part after it
abbrev pub put_behind : {A : Type 0} → Terminal → (A → List Tok → List Tok) → ℕ × A → List Tok → List Tok
put_behind s put x ts = sign s x.0 ∷ put x.1 ts

-- the sign alone
abbrev pub put_sign : Terminal → ℕ → List Tok → List Tok
put_sign s p ts = sign s p ∷ ts

-- ---- vocabularies

abbrev pub put_names : Names → List Tok → List Tok
put_names (names n ns) ts = put_name n (put_each (put_behind t.Comma put_name) ns ts)

abbrev pub put_positions : Positions → List Tok → List Tok
put_positions (positions p ns q) ts = sign t.Open p ∷ put_option put_names ns (sign t.Close q ∷ ts)

-- the word "from"
abbrev pub from : List ℕ
from = 102 ∷ 114 ∷ 111 ∷ 109 ∷ []

abbrev pub separator : Separator → Terminal
separator sep.Comma = t.Comma
separator sep.Semicolon = t.Outer o.Semicolon

-- sep W
abbrev pub put_separated : Separator × ℕ × Name → List Tok → List Tok
put_separated x ts = sign (separator x.0) x.1 ∷ put_name x.2 ts

abbrev pub put_declaration : Declaration → List Tok → List Tok
put_declaration (type_of p n i) ts = sign (t.Outer o.Type) p ∷ put_name n
    (put_option (put_behind (t.Outer o.Isa) put_name) i ts)
put_declaration (constructed p n c f b m ms e) ts = sign (t.Outer o.Type) p ∷ put_name n
    (sign (t.Outer o.Constructed) c ∷ tok_at (word from) f ∷ sign t.OpenBrace b ∷ put_name m
    (put_each put_separated ms (sign t.CloseBrace e ∷ ts)))
put_declaration (symbol n ps r) ts = put_name n (put_option put_positions ps
    (put_option (put_behind t.Colon put_name) r ts))

abbrev pub put_vocabulary : Vocabulary → List Tok → List Tok
put_vocabulary (vocabulary p n b ds e) ts = sign (t.Outer o.Vocabulary) p ∷ put_name n
    (sign t.OpenBrace b ∷ put_each put_declaration ds (sign t.CloseBrace e ∷ ts))

-- ---- theories and terms

-- with this word before it
abbrev pub put_header : Outer → Header → List Tok → List Tok
put_header w (header p n c v b) ts = sign (t.Outer w) p ∷ put_name n
    (sign t.Colon c ∷ put_name v (sign t.OpenBrace b ∷ ts))

abbrev pub put_binding : Binding → List Tok → List Tok
put_binding (binding p vs q) ts = sign t.Every p ∷ put_vars vs (sign t.Colon q ∷ ts)

abbrev pub put_head : Head → List Tok → List Tok
put_head (atom_head a) ts = put_app a ts
put_head (value_head a p x) ts = put_app a (sign (t.Compare cmp.Equal) p ∷ put_term x ts)

abbrev pub put_body : ℕ × Option Formula → List Tok → List Tok
put_body = put_behind (t.Outer o.If) (put_option put_formula)

abbrev pub put_rule : Rule → List Tok → List Tok
put_rule (rule bs h b d) ts = put_each put_binding bs (put_head h (put_option put_body b (sign (t.Outer o.Dot) d ∷ ts)))

abbrev pub put_theory_item : TheoryItem → List Tok → List Tok
put_theory_item (sentence f d) ts = put_formula f (sign (t.Outer o.Dot) d ∷ ts)
put_theory_item (definition b rs e) ts = sign t.OpenBrace b ∷ put_each put_rule rs (sign t.CloseBrace e ∷ ts)

abbrev pub put_theory : Theory → List Tok → List Tok
put_theory (theory h is e) ts = put_header o.Theory h (put_each put_theory_item is (sign t.CloseBrace e ∷ ts))

abbrev pub put_term_block : TermBlock → List Tok → List Tok
put_term_block (term_block h x d e) ts = put_header o.Term h
    (put_term x (put_option (put_sign (t.Outer o.Dot)) d (sign t.CloseBrace e ∷ ts)))

-- ---- structures

abbrev pub put_element : Element → List Tok → List Tok
put_element (named n) ts = put_name n ts
put_element (number n p) ts = sign (t.Integer n) p ∷ ts
put_element (below_zero p n q) ts = sign (t.Add Minus) p ∷ sign (t.Integer n) q ∷ ts

abbrev pub put_item : RowItem → List Tok → List Tok
put_item (item e r) ts = put_element e (put_option (put_behind (t.Outer o.Range) put_element) r ts)

abbrev pub put_items : RowItems → List Tok → List Tok
put_items (items i is) ts = put_item i (put_each (put_behind t.Comma put_item) is ts)

abbrev pub put_to : ℕ × Element → List Tok → List Tok
put_to = put_behind (t.Outer o.To) put_element

abbrev pub put_row : Row → List Tok → List Tok
put_row (plain is r) ts = put_items is (put_option put_to r ts)
put_row (bracketed p is q r) ts = sign t.Open p ∷ put_items is (sign t.Close q ∷ put_option put_to r ts)
put_row (only r) ts = put_to r ts

abbrev pub put_rows : Rows → List Tok → List Tok
put_rows (rows r rs s) ts = put_row r (put_each (put_behind (t.Outer o.Semicolon) put_row) rs
    (put_option (put_sign (t.Outer o.Semicolon)) s ts))

abbrev pub put_value : Value → List Tok → List Tok
put_value (truth_value b p) ts = sign (t.Truth b) p ∷ ts
put_value (element_value e) ts = put_element e ts
put_value (table b rs e) ts = sign t.OpenBrace b ∷ put_option put_rows rs (sign t.CloseBrace e ∷ ts)

-- a mark, and the = after it
abbrev pub put_equal : Option Mark → ℕ → List Tok → List Tok
put_equal None p ts = sign (t.Compare cmp.Equal) p ∷ ts
put_equal (Some (closed_mark a n b)) p ts = sign (t.Compare cmp.Less) a ∷ put_name n
    (sign (t.Compare cmp.Greater) b ∷ sign (t.Compare cmp.Equal) p ∷ ts)
put_equal (Some (open_mark a n)) p ts = sign (t.Compare cmp.Less) a ∷ put_name n (sign (t.Compare cmp.AtLeast) p ∷ ts)

abbrev pub put_entry : Entry → List Tok → List Tok
put_entry (entry n m p v) ts = put_name n (put_equal m p (put_value v ts))

abbrev pub put_structure : Structure → List Tok → List Tok
put_structure (structure h es e) ts = put_header o.Structure h (put_each put_entry es (sign t.CloseBrace e ∷ ts))

-- ---- the file

abbrev pub put_block : Block → List Tok → List Tok
put_block (vocabulary_block v) ts = put_vocabulary v ts
put_block (theory_block x) ts = put_theory x ts
put_block (structure_block s) ts = put_structure s ts
put_block (value_block x) ts = put_term_block x ts
put_block (procedure p) ts = sign (t.Outer o.Procedure) p ∷ ts

-- file = { vocabulary | theory | structure | termblock | Procedure }
abbrev pub put_file : List Block → List Tok → List Tok
put_file = put_each put_block
