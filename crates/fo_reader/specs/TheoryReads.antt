-- What the readers of the parts of theories and of terms in blocks return.
use Rattle.std.specs.Prelude.{ℕ, List, map, Option, Some, Result}
use Rattle.std.specs.Option.{option_map}
use Rattle.std.specs.Borrow.{Bor}
use Rattle.grammar.specs.declared.stops.ReadError.{ReadError}
use Rattle.grammar.specs.declared.terminal.Terminal.TheVariants as t
use Rattle.grammar.specs.declared.terminal.Outer.TheVariants as o
use Rattle.grammar.specs.declared.terminal.Item.{Item}
use Rattle.grammar.specs.declared.raw.RawApp.{RawApp}
use Rattle.grammar.specs.declared.raw.RawTermTree.{RawTermTree}
use Rattle.grammar.specs.declared.raw.RawFormula.{RawFormula}
use Rattle.grammar.specs.declared.raw_blocks.RawBinder.{RawBinder}
use Rattle.grammar.specs.declared.raw_blocks.RawHead.{RawHead}
use Rattle.grammar.specs.declared.raw_blocks.RawBody.{RawBody}
use Rattle.grammar.specs.declared.raw_blocks.RawRule.{RawRule}
use Rattle.grammar.specs.declared.raw_blocks.RawTheoryItem.{RawTheoryItem}
use Rattle.grammar.specs.declared.raw_blocks.RawTheory.{RawTheory}
use Rattle.grammar.specs.declared.raw_blocks.RawTerm.{RawTerm}
use Rattle.grammar.specs.Terminals.{Symbol, Tok, mark}
use Rattle.grammar.specs.Trees.{Formula}
use Rattle.token_reader.specs.Binders.{Whole}
use Rattle.grammar.specs.Fine.{FineFormula, FineTerm, FineApp}
use Rattle.grammar.specs.Spelling.{put_formula, put_term, put_app}
use Rattle.grammar.specs.View.{formula_view, term_view, app_view}
use Rattle.grammar.specs.BlockTrees.{Head}
use Rattle.grammar.specs.BlockSpelling.{put_option, put_each, put_sign, put_binding, put_head, put_body, put_rule}
use Rattle.grammar.specs.BlockSpelling.{put_theory_item, put_theory, put_term_block}
use Rattle.grammar.specs.BlockFine.{FineEach, FineHead, FineBody, FineRule, FineTheoryItem, FineTheory, FineTermBlock}
use Rattle.grammar.specs.BlockView.{binding_view, head_view, body_view, rule_view, theory_item_view, theory_view}
use Rattle.grammar.specs.BlockView.{term_block_view}
use Rattle.block_reader.specs.BlockParts.{PartRead, Anything, EndsHead}
use Rattle.token_reader.specs.Signs.{No, Is, itself}

-- what may follow an application: no arguments
abbrev pub EndsApp : Option Symbol → Type 0
EndsApp (Some (mark t.Open)) = ⊥
EndsApp _ = Unit {0}

-- what may follow a term: neither arguments nor an operator
abbrev pub EndsSum : Option Symbol → Type 0
EndsSum (Some (mark t.Open)) = ⊥
EndsSum (Some (mark t.Times)) = ⊥
EndsSum (Some (mark (t.Add s))) = ⊥
EndsSum _ = Unit {0}

-- ---- formulas and terms

abbrev pub ApplicationRead : List Tok → ℕ → Result (RawApp × Bor (List Item)) ReadError → Type 0
ApplicationRead = PartRead app_view put_app FineApp EndsApp

abbrev pub InnerTermRead : List Tok → ℕ → Result (RawTermTree × Bor (List Item)) ReadError → Type 0
InnerTermRead = PartRead term_view put_term FineTerm EndsSum

-- a formula with a full stop after it
abbrev pub StatementRead : List Tok → ℕ → Result (RawFormula × Bor (List Item)) ReadError → Type 0
StatementRead = PartRead formula_view put_formula FineFormula (Is (t.Outer o.Dot))

-- ---- rules

abbrev pub BindingsRead : List Tok → ℕ → Result (List RawBinder × Bor (List Item)) ReadError → Type 0
BindingsRead = PartRead (map binding_view) (put_each put_binding) Whole (No t.Every)

abbrev pub HeadRead : List Tok → ℕ → Result (RawHead × Bor (List Item)) ReadError → Type 0
HeadRead = PartRead head_view put_head FineHead EndsHead

abbrev pub BodyRead : List Tok → ℕ → Result (Option RawBody × Bor (List Item)) ReadError → Type 0
BodyRead = PartRead (option_map body_view) (put_option put_body) FineBody (Is (t.Outer o.Dot))

-- a body, and the full stop after it
abbrev pub ended_view : Option RawBody × ℕ → Option (ℕ × Option Formula) × ℕ
ended_view x = (option_map body_view x.0, x.1)

abbrev pub put_ended : Option (ℕ × Option Formula) × ℕ → List Tok → List Tok
put_ended x ts = put_option put_body x.0 (put_sign (t.Outer o.Dot) x.1 ts)

abbrev pub FineEnded : Option (ℕ × Option Formula) × ℕ → Type 0
FineEnded x = FineBody x.0 × Whole x.1

abbrev pub EndedRead : List Tok → ℕ → Result ((Option RawBody × ℕ) × Bor (List Item)) ReadError → Type 0
EndedRead = PartRead ended_view put_ended FineEnded Anything

-- a rule without the variables before it
abbrev pub clause_view : RawHead × (Option RawBody × ℕ) → Head × (Option (ℕ × Option Formula) × ℕ)
clause_view x = (head_view x.0, ended_view x.1)

abbrev pub put_clause : Head × (Option (ℕ × Option Formula) × ℕ) → List Tok → List Tok
put_clause x ts = put_head x.0 (put_ended x.1 ts)

abbrev pub FineClause : Head × (Option (ℕ × Option Formula) × ℕ) → Type 0
FineClause x = FineHead x.0 × FineEnded x.1

abbrev pub ClauseRead : List Tok → ℕ → Result ((RawHead × (Option RawBody × ℕ)) × Bor (List Item)) ReadError → Type 0
ClauseRead = PartRead clause_view put_clause FineClause Anything

abbrev pub RuleRead : List Tok → ℕ → Result (RawRule × Bor (List Item)) ReadError → Type 0
RuleRead = PartRead rule_view put_rule FineRule Anything

abbrev pub RulesRead : List Tok → ℕ → Result (List RawRule × Bor (List Item)) ReadError → Type 0
RulesRead = PartRead (map rule_view) (put_each put_rule) (FineEach FineRule) (Is t.CloseBrace)

-- ---- theories

abbrev pub TheoryItemRead : List Tok → ℕ → Result (RawTheoryItem × Bor (List Item)) ReadError → Type 0
TheoryItemRead = PartRead theory_item_view put_theory_item FineTheoryItem Anything

abbrev pub TheoryItemsRead : List Tok → ℕ → Result (List RawTheoryItem × Bor (List Item)) ReadError → Type 0
TheoryItemsRead = PartRead (map theory_item_view) (put_each put_theory_item) (FineEach FineTheoryItem) (Is t.CloseBrace)

abbrev pub TheoryRead : List Tok → ℕ → Result (RawTheory × Bor (List Item)) ReadError → Type 0
TheoryRead = PartRead theory_view put_theory FineTheory Anything

-- ---- terms

-- the full stop after a term, if there is one, and the closing brace ahead
abbrev pub StopRead : List Tok → ℕ → Result (Option ℕ × Bor (List Item)) ReadError → Type 0
StopRead = PartRead itself (put_option (put_sign (t.Outer o.Dot))) Whole (Is t.CloseBrace)

abbrev pub TermBlockRead : List Tok → ℕ → Result (RawTerm × Bor (List Item)) ReadError → Type 0
TermBlockRead = PartRead term_block_view put_term_block FineTermBlock Anything
