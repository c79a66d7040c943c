-- The tree with numbers for words. Where a word is refused its number is 0.
use Rattle.std.specs.Prelude.{ℕ, ◌≡◌, Bool, true, false, nat_lt, List, [], ◌∷◌, ◌++◌, length, map, Option, None, Some}
use Rattle.std.specs.Prelude.{option_map, is_some, if◌then◌else◌}
use Rattle.std.specs.List.{flat_map}
use Rattle.kb_logic.specs.declared.syntax.AggKind.TheVariants as kind
use Rattle.kb_logic.specs.declared.syntax.Cmp.{Cmp}
use Rattle.kb_logic.specs.declared.syntax.Cmp.TheVariants as cmp
use Rattle.kb_logic.specs.declared.vocabularies.Vocabulary.{Vocabulary}
use Rattle.kb_logic.specs.declared.vocabularies.TypeDecl.{TypeDecl}
use Rattle.kb_logic.specs.declared.vocabularies.Symbol.{Symbol}
use Rattle.kb_logic.specs.declared.vocabularies.Parent.{Parent}
use Rattle.kb_logic.specs.declared.vocabularies.Parent.TheVariants as parent
use Rattle.kb_text.specs.declared.fault.KbFault.{KbFault}
use Rattle.grammar.specs.declared.terminal.Comparison.{Comparison}
use Rattle.grammar.specs.declared.terminal.Comparison.TheVariants as sign
use Rattle.grammar.specs.declared.terminal.Arrow.{Arrow}
use Rattle.grammar.specs.declared.terminal.Arrow.TheVariants as arrow
use Rattle.grammar.specs.declared.terminal.Adding.{Adding}
use Rattle.grammar.specs.declared.terminal.Adding.TheVariants as adding
use Rattle.grammar.specs.Trees as raw
use Rattle.grammar.specs.Trees.{Name, Var, Vars, Formula, Links, Or, And, Unary, Prim, Term, Product, Factor, App}
use Rattle.grammar.specs.Trees.{Terms, Number}
use Rattle.grammar.specs.BlockTrees.{Head, atom_head, value_head, Rule, rule}
use Rattle.stage_definitions.specs.Scopes.{Text}
use Rattle.stage_definitions.specs.Standings.{kind_of}
use Rattle.stage_definitions.specs.Files.{Declaration, type_under, constructed_type, symbol, Part, sentence, definition}
use Rattle.stage_definitions.specs.Files.{VocabularyBlock, TheoryBlock, TermBlock, File}
use Rattle.stage_definitions.specs.Names.{Names, Meaning, integers, naturals, a_type, predicate, function, made}
use Rattle.stage_definitions.specs.Names.{variable}
use Rattle.stage_definitions.specs.Names.{meaning_of, meaning_at, text_of, place_of_name, names_of}
use Rattle.stage_definitions.specs.Uses.{vars_in, var_name, var_type, within, app_name, app_count, place_of_term}
use Rattle.stage_definitions.specs.Uses.{arguments_in, is_simple, rule_scope, rule_vars, value_scope, written_body}
use Rattle.stage_definitions.specs.NamesStage.{declarations_of, NamesRefuse}
use Rattle.stage_definitions.specs.NamedTrees.{NamedVar, NamedTerm, at, NamedNode, NamedTerms, no_terms, more_terms}
use Rattle.stage_definitions.specs.NamedTrees.{NamedSummands, no_summands, more_summands, NamedFormula, NamedFormulas}
use Rattle.stage_definitions.specs.NamedTrees.{no_formulas, more_formulas, formulas_of, terms_of, summands_of, place_of}
use Rattle.stage_definitions.specs.NamedTrees.{begun_at, NamedRule}
use Rattle.stage_definitions.specs.NamedTrees as named

-- a number past the greatest count is refused, and counts as 0
abbrev pub within_count : ℕ → ℕ → ℕ
within_count count number = if nat_lt number count then number else 0

abbrev pub type_number : Meaning → ℕ
type_number (a_type t) = within_count 256 t
type_number _ = 0

abbrev pub predicate_number : Meaning → ℕ
predicate_number (predicate s n) = within_count 1024 s
predicate_number _ = 0

abbrev pub function_number : Meaning → ℕ
function_number (function s n) = within_count 1024 s
function_number _ = 0

abbrev pub parent_of : Meaning → Parent
parent_of integers = parent.Int
parent_of naturals = parent.Nat
parent_of (a_type t) = parent.Of (within_count 256 t)
parent_of _ = parent.Root

-- ---- the vocabulary

abbrev pub type_number_of : Names → Name → ℕ
type_number_of names w = type_number (meaning_of names (text_of w))

abbrev pub parent_named : Names → Option Name → Parent
parent_named names None = parent.Root
parent_named names (Some w) = parent_of (meaning_of names (text_of w))

abbrev pub types_in : Names → List Declaration → List TypeDecl
types_in names [] = []
types_in names (type_under n p ∷ ds) = record { name = text_of n; parent = parent_named names p; made = [] }
    ∷ types_in names ds
types_in names (constructed_type n ns ∷ ds) = record { name = text_of n; parent = parent.Root; made = map text_of ns }
    ∷ types_in names ds
types_in names (symbol n args to ∷ ds) = types_in names ds

abbrev pub symbols_in : Names → List Declaration → List Symbol
symbols_in names [] = []
symbols_in names (type_under n p ∷ ds) = symbols_in names ds
symbols_in names (constructed_type n ns ∷ ds) = symbols_in names ds
symbols_in names (symbol n args to ∷ ds) =
    record { name = text_of n; args = map (type_number_of names) args; value = option_map (type_number_of names) to }
    ∷ symbols_in names ds

-- the places of the types' and of the symbols' names
abbrev pub type_places : List Declaration → List ℕ
type_places [] = []
type_places (type_under n p ∷ ds) = place_of_name n ∷ type_places ds
type_places (constructed_type n ns ∷ ds) = place_of_name n ∷ type_places ds
type_places (symbol n args to ∷ ds) = type_places ds

abbrev pub symbol_places : List Declaration → List ℕ
symbol_places [] = []
symbol_places (type_under n p ∷ ds) = symbol_places ds
symbol_places (constructed_type n ns ∷ ds) = symbol_places ds
symbol_places (symbol n args to ∷ ds) = place_of_name n ∷ symbol_places ds

-- ---- formulas and terms

abbrev pub named_var : Names → Var → NamedVar
named_var names v = record {
  name = text_of (var_name v);
  place = place_of_name (var_name v);
  ty = option_map (type_number_of names) (var_type v);
}

abbrev pub named_vars : Names → Vars → List NamedVar
named_vars names vs = map (named_var names) (vars_in vs)

abbrev pub comparison_of : Comparison → Cmp
comparison_of sign.Equal = cmp.Eq
comparison_of sign.NotEqual = cmp.Ne
comparison_of sign.Less = cmp.Lt
comparison_of sign.Greater = cmp.Gt
comparison_of sign.AtMost = cmp.Le
comparison_of sign.AtLeast = cmp.Ge

abbrev pub is_minus : Adding → Bool
is_minus adding.Plus = false
is_minus adding.Minus = true

-- `?` and how many instances: without a number, at least one
abbrev pub counted_by : Number → List NamedVar → NamedFormula → NamedFormula
counted_by raw.any vs f = named.existential vs f
counted_by (raw.exactly n p) vs f = named.numbered cmp.Eq n vs f
counted_by (raw.compared c p n q) vs f = named.numbered (comparison_of c) n vs f

-- `f => g => h` is `f => (g => h)`
abbrev pub implies : NamedFormula → List NamedFormula → NamedFormula
implies f [] = f
implies f (g ∷ gs) = named.implication f (implies g gs)

-- `f <= g <= h` is `(f <= g) <= h`, and `f <= g` is `g => f`
abbrev pub implied_by : NamedFormula → List NamedFormula → NamedFormula
implied_by f [] = f
implied_by f (g ∷ gs) = implied_by (named.implication g f) gs

-- `f <=> g <=> h` is `(f <=> g) <=> h`
abbrev pub equivalent : NamedFormula → List NamedFormula → NamedFormula
equivalent f [] = f
equivalent f (g ∷ gs) = equivalent (named.equivalence f g) gs

abbrev pub grouped : Arrow → NamedFormula → List NamedFormula → NamedFormula
grouped arrow.Implies f gs = implies f gs
grouped arrow.ImpliedBy f gs = implied_by f gs
grouped arrow.Equivalent f gs = equivalent f gs

-- a word as a term, with these arguments
abbrev pub node_of : Meaning → NamedTerms → NamedNode
node_of (variable level) ts = named.variable level
node_of (made t i) ts = named.constructed (within_count 256 t) (within_count 65536 i)
node_of (function s n) ts = named.application (within_count 1024 s) ts
node_of _ ts = named.application 0 ts

abbrev mutual
  pub named_formula : Names → List Text → Formula → NamedFormula
  named_formula names scope (raw.alone o) = named_or names scope o
  named_formula names scope (raw.linked a o p ls) = grouped a (named_or names scope o) (named_links names scope ls)

  pub named_links : Names → List Text → Links → List NamedFormula
  named_links names scope (raw.last o) = named_or names scope o ∷ []
  named_links names scope (raw.link o p ls) = named_or names scope o ∷ named_links names scope ls

  pub named_or : Names → List Text → Or → NamedFormula
  named_or names scope (raw.one a) = named_and names scope a
  named_or names scope (raw.or a p o) = named.disjunction (more_formulas (named_and names scope a)
      (disjuncts names scope o))

  pub disjuncts : Names → List Text → Or → NamedFormulas
  disjuncts names scope (raw.one a) = more_formulas (named_and names scope a) no_formulas
  disjuncts names scope (raw.or a p o) = more_formulas (named_and names scope a) (disjuncts names scope o)

  pub named_and : Names → List Text → And → NamedFormula
  named_and names scope (raw.single u) = named_unary names scope u
  named_and names scope (raw.and u p a) = named.conjunction (more_formulas (named_unary names scope u)
      (conjuncts names scope a))

  pub conjuncts : Names → List Text → And → NamedFormulas
  conjuncts names scope (raw.single u) = more_formulas (named_unary names scope u) no_formulas
  conjuncts names scope (raw.and u p a) = more_formulas (named_unary names scope u) (conjuncts names scope a)

  pub named_unary : Names → List Text → Unary → NamedFormula
  named_unary names scope (raw.not p u) = named.negation (named_unary names scope u)
  named_unary names scope (raw.every p vs q f) = named.universal (named_vars names vs)
      (named_formula names (within scope vs) f)
  named_unary names scope (raw.some p n vs q f) = counted_by n (named_vars names vs)
      (named_formula names (within scope vs) f)
  named_unary names scope (raw.prim x) = named_prim names scope x

  pub named_prim : Names → List Text → Prim → NamedFormula
  named_prim names scope (raw.group p f q) = named_formula names scope f
  named_prim names scope (raw.truth b p) = named.truth b
  named_prim names scope (raw.atom a) =
      named.atom (predicate_number (meaning_at names scope (app_name a) (app_count a))) (named_arguments names scope a)
  named_prim names scope (raw.compare x c p y) =
      named.comparison (comparison_of c) (named_term names scope x) (named_term names scope y)

  pub named_term : Names → List Text → Term → NamedTerm
  named_term names scope (raw.product p) = named_product names scope p
  named_term names scope (raw.sum p a q t) =
      at (place_of (named_product names scope p)) (named.summation (more_summands false (named_product names scope p)
      (summands names scope a t)))

  pub summands : Names → List Text → Adding → Term → NamedSummands
  summands names scope a (raw.product p) = more_summands (is_minus a) (named_product names scope p) no_summands
  summands names scope a (raw.sum p b q t) = more_summands (is_minus a) (named_product names scope p)
      (summands names scope b t)

  pub named_product : Names → List Text → Product → NamedTerm
  named_product names scope (raw.factor f) = named_factor names scope f
  named_product names scope (raw.times f p q) =
      at (place_of (named_factor names scope f)) (named.product (more_terms (named_factor names scope f)
      (factors names scope q)))

  pub factors : Names → List Text → Product → NamedTerms
  factors names scope (raw.factor f) = more_terms (named_factor names scope f) no_terms
  factors names scope (raw.times f p q) = more_terms (named_factor names scope f) (factors names scope q)

  -- brackets are the first token of what stands in them; a count adds 1 for each assignment
  pub named_factor : Names → List Text → Factor → NamedTerm
  named_factor names scope (raw.integer n p) = at p (named.integer n)
  named_factor names scope (raw.value a) =
      at (place_of_name (app_name a)) (node_of (meaning_at names scope (app_name a) (app_count a))
      (named_arguments names scope a))
  named_factor names scope (raw.brackets p t q) = begun_at p (named_term names scope t)
  named_factor names scope (raw.negative p f) = at p (named.summation
      (more_summands true (named_factor names scope f) no_summands))
  named_factor names scope (raw.count p b vs q f r) =
      at p (named.aggregate kind.Count (named_vars names vs) (named_formula names (within scope vs) f)
      (at p (named.integer 1)))
  named_factor names scope (raw.aggregate how p b vs q f r t e) =
      at p (named.aggregate (kind_of how) (named_vars names vs) (named_formula names (within scope vs) f)
      (named_term names (within scope vs) t))

  pub named_arguments : Names → List Text → App → NamedTerms
  named_arguments names scope (raw.constant n) = no_terms
  named_arguments names scope (raw.empty n p q) = no_terms
  named_arguments names scope (raw.apply n p ts q) = named_terms names scope ts

  pub named_terms : Names → List Text → Terms → NamedTerms
  named_terms names scope (raw.final t) = more_terms (named_term names scope t) no_terms
  named_terms names scope (raw.then t p ts) = more_terms (named_term names scope t) (named_terms names scope ts)

-- ---- rules

-- a body that is not written is true
abbrev pub named_body : Names → List Text → Option Formula → NamedFormula
named_body names scope None = named.truth true
named_body names scope (Some f) = named_formula names scope f

-- the variable that stands for a head's value t that may not stand there: it has the function's name
abbrev pub value_var : App → Term → NamedVar
value_var a t = record { name = text_of (app_name a); place = place_of_term t; ty = None }

-- `v = t` for the variable v with this number
abbrev pub value_equation : Names → List Text → ℕ → Term → NamedFormula
value_equation names scope v t =
    named.comparison cmp.Eq (at (place_of_term t) (named.variable v)) (named_term names scope t)

-- and the written body as one part beside it
abbrev pub valued_body : Names → List Text → ℕ → Term → Option Formula → NamedFormula
valued_body names scope v t None = value_equation names scope v t
valued_body names scope v t (Some f) = named.conjunction (more_formulas (value_equation names scope v t)
    (more_formulas (named_formula names scope f) no_formulas))

abbrev pub predicate_at : Names → List Text → App → ℕ
predicate_at names scope a = predicate_number (meaning_at names scope (app_name a) (app_count a))

abbrev pub function_at : Names → List Text → App → ℕ
function_at names scope a = function_number (meaning_at names scope (app_name a) (app_count a))

abbrev pub head_arguments : Names → List Text → App → List NamedTerm
head_arguments names scope a = map (named_term names scope) (arguments_in a)

-- `f(..) = t`, where t may stand in a head, or else `f(..) = v <- v = t & ..` with a new variable v after the others;
-- of the rule's variables these are in scope
abbrev pub valued_rule : Names → List Text → List NamedVar → App → Term → Option Formula → Bool → NamedRule
valued_rule names scope xs a t body true = record {
  vars = xs;
  symbol = function_at names scope a;
  args = head_arguments names scope a;
  value = Some (named_term names scope t);
  has_body = is_some body;
  body = named_body names scope body;
}
valued_rule names scope xs a t body false = record {
  vars = xs ++ value_var a t ∷ [];
  symbol = function_at names scope a;
  args = head_arguments names scope a;
  value = Some (at (place_of_term t) (named.variable (length xs)));
  has_body = true;
  body = valued_body names (value_scope scope false) (length xs) t body;
}

-- a rule with these variables
abbrev pub ruled : Names → List Text → List NamedVar → Head → Option Formula → NamedRule
ruled names scope xs (atom_head a) body = record {
  vars = xs;
  symbol = predicate_at names scope a;
  args = head_arguments names scope a;
  value = None;
  has_body = is_some body;
  body = named_body names scope body;
}
ruled names scope xs (value_head a p t) body = valued_rule names scope xs a t body (is_simple names scope t)

abbrev pub named_rule : Names → Rule → NamedRule
named_rule names (rule bs h body p) =
    ruled names (rule_scope bs) (map (named_var names) (rule_vars bs)) h (written_body body)

-- ---- a file

-- a theory: its name, the place of its first word, its sentences, and its definitions by their rules
pub record NamedTheoryTree : Type 0 where
  pub name : Text
  pub place : ℕ
  pub sentences : List NamedFormula
  pub definitions : List (List NamedRule)

-- a term block: its name, and the term
pub record NamedTermTree : Type 0 where
  pub name : Text
  pub term : NamedTerm

pub record NamedFile : Type 0 where
  pub vocabulary : Vocabulary
  pub theories : List NamedTheoryTree
  pub terms : List NamedTermTree
  pub type_places : List ℕ
  pub symbol_places : List ℕ

abbrev pub sentences_in : Names → Part → List NamedFormula
sentences_in names (sentence f) = named_formula names [] f ∷ []
sentences_in names (definition rs) = []

abbrev pub definitions_in : Names → Part → List (List NamedRule)
definitions_in names (sentence f) = []
definitions_in names (definition rs) = map (named_rule names) rs ∷ []

abbrev pub named_theory : Names → TheoryBlock → NamedTheoryTree
named_theory names t = record {
  name = text_of t.header.name;
  place = t.header.place;
  sentences = flat_map (sentences_in names) t.parts;
  definitions = flat_map (definitions_in names) t.parts;
}

abbrev pub named_block : Names → TermBlock → NamedTermTree
named_block names t = record { name = text_of t.header.name; term = named_term names [] t.term }

abbrev pub vocabulary_name : List VocabularyBlock → Text
vocabulary_name [] = []
vocabulary_name (v ∷ vs) = text_of v.name

abbrev pub vocabulary_of : Text → List Declaration → Vocabulary
vocabulary_of name ds = record { name = name; types = types_in (names_of ds) ds; symbols = symbols_in (names_of ds) ds }

abbrev pub named_file : Text → List Declaration → List TheoryBlock → List TermBlock → NamedFile
named_file name ds theories terms = record {
  vocabulary = vocabulary_of name ds;
  theories = map (named_theory (names_of ds)) theories;
  terms = map (named_block (names_of ds)) terms;
  type_places = type_places ds;
  symbol_places = symbol_places ds;
}

-- what the stage of names returns where it refuses nothing
pub record IsNamed (f : File) (answer : NamedFile) : Type 0 where
  pub accepted : (q : KbFault) → NamesRefuse f q → ⊥
  pub tree : answer ≡ named_file (vocabulary_name f.vocabularies) (declarations_of f.vocabularies) f.theories f.terms
