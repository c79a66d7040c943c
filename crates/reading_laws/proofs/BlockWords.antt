-- The names in blocks are words, where each word among their tokens is.
use Rattle.std.proofs.Common.{ℕ, List, [], ◌∷◌, Option, None, Some}
use Rattle.std.specs.Prelude.{⊤, IfSome}
use Rattle.std.specs.List.{AllByRecursion, filter_map}
use Rattle.grammar.specs.declared.terminal.Terminal.{Terminal}
use Rattle.grammar.specs.declared.terminal.Terminal.TheVariants as t
use Rattle.grammar.specs.declared.terminal.Outer.TheVariants as o
use Rattle.grammar.specs.declared.terminal.Arrow.{Arrow}
use Rattle.grammar.specs.Terminals.{Tok}
use Rattle.grammar.specs.Trees.{Name, name, untyped, typed, var, beside, comma, any, exactly, compared, Formula}
use Rattle.grammar.specs.Trees.{alone, linked, Links, last, link, Or, one, or, And, single, and, Unary, not, every}
use Rattle.grammar.specs.Trees.{some, prim, Prim, group, truth, atom, compare, Term, product, sum, Product, factor}
use Rattle.grammar.specs.Trees.{times, Factor, integer, value, brackets, negative, count, aggregate, App, constant}
use Rattle.grammar.specs.Trees.{empty, apply, Terms, final, then}
use Rattle.grammar.specs.Spelling.{put_name, put_var, put_vars, put_number, put_formula, put_links, put_or, put_and}
use Rattle.grammar.specs.Spelling.{put_unary, put_prim, put_term, put_product, put_factor, put_app, put_terms}
use Rattle.grammar.specs.BlockTrees as tree
use Rattle.grammar.specs.BlockSpelling.{put_option, put_each, put_behind, put_sign, put_names, put_positions}
use Rattle.grammar.specs.BlockSpelling.{put_separated, put_declaration, put_vocabulary, put_header, put_binding}
use Rattle.grammar.specs.BlockSpelling.{put_head, put_body, put_rule, put_theory_item, put_theory, put_term_block}
use Rattle.grammar.specs.BlockSpelling.{put_element, put_item, put_items, put_to, put_row, put_rows, put_value}
use Rattle.grammar.specs.BlockSpelling.{put_equal, put_entry, put_structure, put_block, put_file}
use Rattle.grammar.specs.declared.terminal.Outer.{Outer}
use Rattle.grammar.specs.BlockView.{as_vocabulary, as_theory, as_structure, as_term_block}
use Rattle.reading_laws.specs.Words.{IsFreeWord}
use Rattle.reading_laws.proofs.TokenWords.{AreRead}

-- ---- parts, and what is after them

-- what is read of a part's text, and what is after it
abbrev pub Reads : {A : Type 0} → (A → List Tok → List Tok) → (A → Type 0) → Type 0
Reads {A} put Good = (x : A) (ts : List Tok) → AreRead (put x ts) → Good x × AreRead ts

-- among tokens that are read: each word that the part is written with is a free one
abbrev pub IsRead : {A : Type 0} → (A → List Tok → List Tok) → A → Type 0
IsRead {A} put x = (ts : List Tok) × AreRead (put x ts)

abbrev pub Skips : {A : Type 0} → (A → List Tok → List Tok) → Type 0
Skips {A} put = (x : A) (ts : List Tok) → AreRead (put x ts) → AreRead ts

module _ {A : Type 0} (put : A → List Tok → List Tok) (Good : A → Type 0) (reads : Reads put Good) where
  option_read : Reads (put_option put) (λ o. IfSome o Good)
  option_read None ts h = (tt, h)
  option_read (Some x) ts h = reads x ts h

  each_read : Reads (put_each put) (AllByRecursion Good)
  each_read [] ts h = (tt, h)
  each_read (x ∷ xs) ts h =
      let first = reads x (put_each put xs ts) h in
      let rest = each_read xs ts first.1 in
      ((first.0, rest.0), rest.1)

  behind_read : (s : Terminal) → Reads (put_behind s put) (λ x. Good x.1)
  behind_read s x ts h = reads x.1 ts h.1

module _ {A : Type 0} (put : A → List Tok → List Tok) (skips : Skips put) where
  option_skip : Skips (put_option put)
  option_skip None ts h = h
  option_skip (Some x) ts h = skips x ts h

  each_skip : Skips (put_each put)
  each_skip [] ts h = h
  each_skip (x ∷ xs) ts h = each_skip xs ts (skips x (put_each put xs ts) h)

  behind_skip : (s : Terminal) → Skips (put_behind s put)
  behind_skip s x ts h = skips x.1 ts h.1

sign_skip : (s : Terminal) → Skips (put_sign s)
sign_skip s p ts h = h.1

-- ---- names

abbrev pub IsWord : Name → Type 0
IsWord (name text p) = IsFreeWord text

pub name_read : Reads put_name IsWord
name_read (name text p) ts h = (h.0, h.1)

name_skip : Skips put_name
name_skip n ts h = (name_read n ts h).1

-- ---- formulas and terms

pub var_skip : Skips put_var
var_skip (untyped n) ts h = name_skip n ts h
var_skip (typed n p ty q) ts h = (name_skip ty _ (name_skip n _ h).1).1

pub vars_skip : Skips put_vars
vars_skip (var v) ts h = var_skip v ts h
vars_skip (beside v vs) ts h = vars_skip vs ts (var_skip v _ h)
vars_skip (comma v p vs) ts h = vars_skip vs ts (var_skip v _ h).1

pub number_skip : Skips put_number
number_skip any ts h = h
number_skip (exactly n p) ts h = h.1
number_skip (compared c p n q) ts h = h.1.1

mutual
  pub formula_skip : (f : Formula) (ts : List Tok) → AreRead (put_formula f ts) → AreRead ts
  formula_skip (alone o) ts h = or_skip o ts h
  formula_skip (linked a o p os) ts h = links_skip a os ts (or_skip o _ h).1

  pub links_skip : (a : Arrow) (os : Links) (ts : List Tok) → AreRead (put_links a os ts) → AreRead ts
  links_skip a (last o) ts h = or_skip o ts h
  links_skip a (link o p os) ts h = links_skip a os ts (or_skip o _ h).1

  pub or_skip : (o : Or) (ts : List Tok) → AreRead (put_or o ts) → AreRead ts
  or_skip (one a) ts h = and_skip a ts h
  or_skip (or a p o) ts h = or_skip o ts (and_skip a _ h).1

  pub and_skip : (a : And) (ts : List Tok) → AreRead (put_and a ts) → AreRead ts
  and_skip (single u) ts h = unary_skip u ts h
  and_skip (and u p a) ts h = and_skip a ts (unary_skip u _ h).1

  pub unary_skip : (u : Unary) (ts : List Tok) → AreRead (put_unary u ts) → AreRead ts
  unary_skip (not p u) ts h = unary_skip u ts h.1
  unary_skip (every p vs q f) ts h = formula_skip f ts (vars_skip vs _ h.1).1
  unary_skip (some p n vs q f) ts h = formula_skip f ts (vars_skip vs _ (number_skip n _ h.1)).1
  unary_skip (prim x) ts h = prim_skip x ts h

  pub prim_skip : (x : Prim) (ts : List Tok) → AreRead (put_prim x ts) → AreRead ts
  prim_skip (group p f q) ts h = (formula_skip f _ h.1).1
  prim_skip (truth b p) ts h = h.1
  prim_skip (atom a) ts h = app_skip a ts h
  prim_skip (compare x c p y) ts h = term_skip y ts (term_skip x _ h).1

  pub term_skip : (x : Term) (ts : List Tok) → AreRead (put_term x ts) → AreRead ts
  term_skip (product x) ts h = product_skip x ts h
  term_skip (sum x s p y) ts h = term_skip y ts (product_skip x _ h).1

  pub product_skip : (x : Product) (ts : List Tok) → AreRead (put_product x ts) → AreRead ts
  product_skip (factor x) ts h = factor_skip x ts h
  product_skip (times x p y) ts h = product_skip y ts (factor_skip x _ h).1

  pub factor_skip : (x : Factor) (ts : List Tok) → AreRead (put_factor x ts) → AreRead ts
  factor_skip (integer n p) ts h = h.1
  factor_skip (value a) ts h = app_skip a ts h
  factor_skip (brackets p x q) ts h = (term_skip x _ h.1).1
  factor_skip (negative p x) ts h = factor_skip x ts h.1
  factor_skip (count p b vs c f e) ts h = (formula_skip f _ (vars_skip vs _ h.1.1).1).1
  factor_skip (aggregate a p b vs c f d x e) ts h = (term_skip x _ (formula_skip f _ (vars_skip vs _ h.1.1).1).1).1

  pub app_skip : (a : App) (ts : List Tok) → AreRead (put_app a ts) → AreRead ts
  app_skip (constant n) ts h = name_skip n ts h
  app_skip (empty n p q) ts h = (name_skip n _ h).1.1
  app_skip (apply n p xs q) ts h = (terms_skip xs _ (name_skip n _ h).1).1

  pub terms_skip : (xs : Terms) (ts : List Tok) → AreRead (put_terms xs ts) → AreRead ts
  terms_skip (final x) ts h = term_skip x ts h
  terms_skip (then x p xs) ts h = terms_skip xs ts (term_skip x _ h).1

-- ---- vocabularies

names_skip : Skips put_names
names_skip (tree.names n ns) ts h = each_skip (put_behind t.Comma put_name)
    (behind_skip put_name name_skip t.Comma) ns ts (name_skip n _ h)

positions_skip : Skips put_positions
positions_skip (tree.positions p ns q) ts h = (option_skip put_names names_skip ns _ h.1).1

-- the names that a declaration declares are words
abbrev pub IsDeclared : tree.Declaration → Type 0
IsDeclared (tree.type_of p n i) = IsWord n
IsDeclared (tree.constructed p n c f b m ms e) = IsWord n × IsWord m × AllByRecursion (λ x. IsWord x.2) ms
IsDeclared (tree.symbol n ps r) = IsWord n

separated_read : Reads put_separated (λ x. IsWord x.2)
separated_read x ts h = name_read x.2 ts h.1

declaration_read : Reads put_declaration IsDeclared
declaration_read (tree.type_of p n i) ts h =
    let first = name_read n _ h.1 in (
      first.0,
      option_skip (put_behind (t.Outer o.Isa) put_name)
          (behind_skip put_name name_skip (t.Outer o.Isa)) i ts first.1,
    )
declaration_read (tree.constructed p n c f b m ms e) ts h =
    let first = name_read n _ h.1 in
    let element = name_read m _ first.1.1.1.1 in
    let more = each_read put_separated (λ x. IsWord x.2) separated_read ms _ element.1 in
    ((first.0, element.0, more.0), more.1.1)
declaration_read (tree.symbol n ps r) ts h =
    let first = name_read n _ h in (
      first.0,
      option_skip (put_behind t.Colon put_name) (behind_skip put_name name_skip t.Colon) r ts
          (option_skip put_positions positions_skip ps _ first.1),
    )

abbrev pub IsVocabularyRead : tree.Vocabulary → Type 0
IsVocabularyRead (tree.vocabulary p n b ds e) = IsWord n × AllByRecursion IsDeclared ds

vocabulary_read : Reads put_vocabulary IsVocabularyRead
vocabulary_read (tree.vocabulary p n b ds e) ts h =
    let first = name_read n _ h.1 in
    let rest = each_read put_declaration IsDeclared declaration_read ds _ first.1.1 in
    ((first.0, rest.0), rest.1.1)

-- ---- theories and terms

abbrev pub IsHeaderRead : tree.Header → Type 0
IsHeaderRead (tree.header p n c v b) = IsWord n

header_read : (w : Outer) → Reads (put_header w) IsHeaderRead
header_read w (tree.header p n c v b) ts h =
    let first = name_read n _ h.1 in
    (first.0, (name_skip v _ first.1.1).1)

binding_skip : Skips put_binding
binding_skip (tree.binding p vs q) ts h = (vars_skip vs _ h.1).1

head_skip : Skips put_head
head_skip (tree.atom_head a) ts h = app_skip a ts h
head_skip (tree.value_head a p x) ts h = term_skip x ts (app_skip a _ h).1

body_skip : Skips put_body
body_skip x ts h = option_skip put_formula formula_skip x.1 ts h.1

rule_skip : Skips put_rule
rule_skip (tree.rule bs x b d) ts h =
    (option_skip put_body body_skip b _ (head_skip x _ (each_skip put_binding binding_skip bs _ h))).1

-- a sentence is read; of a definition nothing is said, since no later stage accepts one
abbrev pub IsTheoryItemRead : tree.TheoryItem → Type 0
IsTheoryItemRead (tree.sentence f d) = IsRead put_formula f
IsTheoryItemRead (tree.definition b rs e) = ⊤

item_of_theory_read : Reads put_theory_item IsTheoryItemRead
item_of_theory_read (tree.sentence f d) ts h = ((_, h), (formula_skip f _ h).1)
item_of_theory_read (tree.definition b rs e) ts h = (tt, (each_skip put_rule rule_skip rs _ h.1).1)

abbrev pub IsTheoryRead : tree.Theory → Type 0
IsTheoryRead (tree.theory x is e) = AllByRecursion IsTheoryItemRead is

theory_read : Reads put_theory IsTheoryRead
theory_read (tree.theory x is e) ts h =
    let items = each_read put_theory_item IsTheoryItemRead item_of_theory_read is _ (header_read o.Theory x _ h).1 in
    (items.0, items.1.1)

abbrev pub IsTermBlockRead : tree.TermBlock → Type 0
IsTermBlockRead (tree.term_block x y d e) = IsRead put_term y

term_block_read : Reads put_term_block IsTermBlockRead
term_block_read (tree.term_block x y d e) ts h =
    let body = (header_read o.Term x _ h).1 in (
      (_, body),
      (option_skip (put_sign (t.Outer o.Dot)) (sign_skip (t.Outer o.Dot)) d _ (term_skip y _ body)).1,
    )

-- ---- structures

abbrev pub IsElementRead : tree.Element → Type 0
IsElementRead (tree.named n) = IsWord n
IsElementRead (tree.number n p) = ⊤
IsElementRead (tree.below_zero p n q) = ⊤

element_read : Reads put_element IsElementRead
element_read (tree.named n) ts h = name_read n ts h
element_read (tree.number n p) ts h = (tt, h.1)
element_read (tree.below_zero p n q) ts h = (tt, h.1.1)

element_skip : Skips put_element
element_skip e ts h = (element_read e ts h).1

abbrev pub IsItemRead : tree.RowItem → Type 0
IsItemRead (tree.item e r) = IsElementRead e

item_read : Reads put_item IsItemRead
item_read (tree.item e r) ts h =
    let first = element_read e _ h in (
      first.0,
      option_skip (put_behind (t.Outer o.Range) put_element)
          (behind_skip put_element element_skip (t.Outer o.Range)) r ts first.1,
    )

abbrev pub AreItemsRead : tree.RowItems → Type 0
AreItemsRead (tree.items i is) = IsItemRead i × AllByRecursion (λ x. IsItemRead x.1) is

items_read : Reads put_items AreItemsRead
items_read (tree.items i is) ts h =
    let first = item_read i _ h in
    let rest = each_read (put_behind t.Comma put_item) (λ x. IsItemRead x.1)
    (behind_read put_item IsItemRead item_read t.Comma) is ts first.1 in
    ((first.0, rest.0), rest.1)

to_read : Reads put_to (λ x. IsElementRead x.1)
to_read x ts h = element_read x.1 ts h.1

abbrev pub IsRowRead : tree.Row → Type 0
IsRowRead (tree.plain is r) = AreItemsRead is × IfSome r (λ x. IsElementRead x.1)
IsRowRead (tree.bracketed p is q r) = AreItemsRead is × IfSome r (λ x. IsElementRead x.1)
IsRowRead (tree.only r) = IsElementRead r.1

row_read : Reads put_row IsRowRead
row_read (tree.plain is r) ts h =
    let first = items_read is _ h in
    let rest = option_read put_to (λ x. IsElementRead x.1) to_read r ts first.1 in
    ((first.0, rest.0), rest.1)
row_read (tree.bracketed p is q r) ts h =
    let first = items_read is _ h.1 in
    let rest = option_read put_to (λ x. IsElementRead x.1) to_read r ts first.1.1 in
    ((first.0, rest.0), rest.1)
row_read (tree.only r) ts h = to_read r ts h

abbrev pub AreRowsRead : tree.Rows → Type 0
AreRowsRead (tree.rows r rs s) = IsRowRead r × AllByRecursion (λ x. IsRowRead x.1) rs

rows_read : Reads put_rows AreRowsRead
rows_read (tree.rows r rs s) ts h =
    let first = row_read r _ h in
    let rest = each_read (put_behind (t.Outer o.Semicolon) put_row) (λ x. IsRowRead x.1)
    (behind_read put_row IsRowRead row_read (t.Outer o.Semicolon)) rs _ first.1 in
    ((first.0, rest.0), option_skip (put_sign (t.Outer o.Semicolon)) (sign_skip (t.Outer o.Semicolon)) s ts rest.1)

abbrev pub IsValueRead : tree.Value → Type 0
IsValueRead (tree.truth_value b p) = ⊤
IsValueRead (tree.element_value e) = IsElementRead e
IsValueRead (tree.table b rs e) = IfSome rs AreRowsRead

value_read : Reads put_value IsValueRead
value_read (tree.truth_value b p) ts h = (tt, h.1)
value_read (tree.element_value e) ts h = element_read e ts h
value_read (tree.table b rs e) ts h =
    let inner = option_read put_rows AreRowsRead rows_read rs _ h.1 in
    (inner.0, inner.1.1)

equal_skip : (m : Option tree.Mark) (p : ℕ) (ts : List Tok) → AreRead (put_equal m p ts) → AreRead ts
equal_skip None p ts h = h.1
equal_skip (Some (tree.closed_mark a n b)) p ts h = (name_skip n _ h.1).1.1
equal_skip (Some (tree.open_mark a n)) p ts h = (name_skip n _ h.1).1

abbrev pub IsEntryRead : tree.Entry → Type 0
IsEntryRead (tree.entry n m p v) = IsValueRead v

entry_read : Reads put_entry IsEntryRead
entry_read (tree.entry n m p v) ts h = value_read v ts (equal_skip m p _ (name_skip n _ h))

abbrev pub IsStructureRead : tree.Structure → Type 0
IsStructureRead (tree.structure x es e) = IsHeaderRead x × AllByRecursion IsEntryRead es

structure_read : Reads put_structure IsStructureRead
structure_read (tree.structure x es e) ts h =
    let first = header_read o.Structure x _ h in
    let rest = each_read put_entry IsEntryRead entry_read es _ first.1 in
    ((first.0, rest.0), rest.1.1)

-- ---- files

abbrev pub IsBlockRead : tree.Block → Type 0
IsBlockRead (tree.vocabulary_block v) = IsVocabularyRead v
IsBlockRead (tree.theory_block x) = IsTheoryRead x
IsBlockRead (tree.structure_block s) = IsStructureRead s
IsBlockRead (tree.value_block x) = IsTermBlockRead x
IsBlockRead (tree.procedure p) = ⊤

block_read : Reads put_block IsBlockRead
block_read (tree.vocabulary_block v) ts h = vocabulary_read v ts h
block_read (tree.theory_block x) ts h = theory_read x ts h
block_read (tree.structure_block s) ts h = structure_read s ts h
block_read (tree.value_block x) ts h = term_block_read x ts h
block_read (tree.procedure p) ts h = (tt, h.1)

pub blocks_read : (blocks : List tree.Block) → AreRead (put_file blocks []) → AllByRecursion IsBlockRead blocks
blocks_read blocks h = (each_read put_block IsBlockRead block_read blocks [] h).0

pub vocabularies_read : (blocks : List tree.Block) → AllByRecursion IsBlockRead blocks
    → AllByRecursion IsVocabularyRead (filter_map as_vocabulary blocks)
vocabularies_read [] h = tt
vocabularies_read (tree.vocabulary_block v ∷ bs) h = (h.0, vocabularies_read bs h.1)
vocabularies_read (tree.theory_block x ∷ bs) h = vocabularies_read bs h.1
vocabularies_read (tree.structure_block s ∷ bs) h = vocabularies_read bs h.1
vocabularies_read (tree.value_block x ∷ bs) h = vocabularies_read bs h.1
vocabularies_read (tree.procedure p ∷ bs) h = vocabularies_read bs h.1

pub structures_read : (blocks : List tree.Block) → AllByRecursion IsBlockRead blocks
    → AllByRecursion IsStructureRead (filter_map as_structure blocks)
structures_read [] h = tt
structures_read (tree.vocabulary_block v ∷ bs) h = structures_read bs h.1
structures_read (tree.theory_block x ∷ bs) h = structures_read bs h.1
structures_read (tree.structure_block s ∷ bs) h = (h.0, structures_read bs h.1)
structures_read (tree.value_block x ∷ bs) h = structures_read bs h.1
structures_read (tree.procedure p ∷ bs) h = structures_read bs h.1

pub theories_read : (blocks : List tree.Block) → AllByRecursion IsBlockRead blocks
    → AllByRecursion IsTheoryRead (filter_map as_theory blocks)
theories_read [] h = tt
theories_read (tree.vocabulary_block v ∷ bs) h = theories_read bs h.1
theories_read (tree.theory_block x ∷ bs) h = (h.0, theories_read bs h.1)
theories_read (tree.structure_block s ∷ bs) h = theories_read bs h.1
theories_read (tree.value_block x ∷ bs) h = theories_read bs h.1
theories_read (tree.procedure p ∷ bs) h = theories_read bs h.1

pub term_blocks_read : (blocks : List tree.Block) → AllByRecursion IsBlockRead blocks
    → AllByRecursion IsTermBlockRead (filter_map as_term_block blocks)
term_blocks_read [] h = tt
term_blocks_read (tree.vocabulary_block v ∷ bs) h = term_blocks_read bs h.1
term_blocks_read (tree.theory_block x ∷ bs) h = term_blocks_read bs h.1
term_blocks_read (tree.structure_block s ∷ bs) h = term_blocks_read bs h.1
term_blocks_read (tree.value_block x ∷ bs) h = (h.0, term_blocks_read bs h.1)
term_blocks_read (tree.procedure p ∷ bs) h = term_blocks_read bs h.1
