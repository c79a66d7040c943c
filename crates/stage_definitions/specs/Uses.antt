-- Each use of a word, with what is known at its place.
use Rattle.std.specs.Prelude.{ℕ, ◌+◌, Bool, true, false, List, [], ◌∷◌, ◌++◌, length, map, Option, None, Some}
use Rattle.std.specs.List.{flat_map}
use Rattle.kb_logic.specs.declared.syntax.AggKind.{AggKind}
use Rattle.kb_logic.specs.declared.syntax.AggKind.TheVariants as kind
use Rattle.grammar.specs.Trees.{Name, Var, untyped, typed, Vars, var, beside, comma}
use Rattle.grammar.specs.Trees.{Formula, alone, linked, Links, last, link, Or, one, or, And, single, and, Unary, not}
use Rattle.grammar.specs.Trees.{every, some, prim, Prim, group, truth, atom, compare, Term, product, sum, Product}
use Rattle.grammar.specs.Trees.{factor, times, Factor, integer, value, brackets, negative, count, aggregate, App}
use Rattle.grammar.specs.Trees.{constant, empty, apply, Terms, final, then}
use Rattle.stage_definitions.specs.Scopes.{Text}
use Rattle.stage_definitions.specs.declared.standings.Standing.{Standing}
use Rattle.stage_definitions.specs.declared.standings.Standing.TheVariants.{Side, Elsewhere}
use Rattle.stage_definitions.specs.Standings.{kind_of, scaled, in_sum, in_product, facing}
use Rattle.stage_definitions.specs.Files.{Declaration, type_under, constructed_type, symbol, Part, sentence, definition}
use Rattle.stage_definitions.specs.Files.{TheoryBlock, TermBlock}
use Rattle.grammar.specs.BlockTrees.{Binding, binding, Head, atom_head, value_head, Rule, rule}
use Rattle.stage_definitions.specs.Names.{text_of, place_of_name, Meaning, a_type, made, variable, Names, meaning_of}
use Rattle.stage_definitions.specs.Names.{meaning_at, declared}
use Rattle.stage_definitions.specs.Names.{number_types, declared_names, names_of}

-- what is known where a formula or a term stands: the variables in scope, the outermost first, and in the rules of a
-- definition the names that it defines
pub record Context : Type 0 where
  pub scope : List Text
  pub defined : List Text

pub data Use : Type 0 where
  -- a name that is declared, after these
  declares : Names → Name → Use
  -- a declaration, of which at most the first number are allowed, and which is the second one, or has so many parts
  counted : ℕ → ℕ → Name → Use
  -- the name of the type with this number, where the types have these parents
  climbs : List (Option ℕ) → ℕ → Name → Use
  -- the word after `isa`
  parent : Name → Use
  -- the type of an argument, a value or a variable
  position : Name → Use
  -- a variable of a list, after these of the same list
  bound : List Text → Name → Use
  -- a word with so many arguments as a formula
  formula_word : Context → Name → ℕ → Use
  -- a word with so many arguments as a term
  term_word : Context → Name → ℕ → Use
  -- a word with so many arguments as the function of a head, where these variables are in scope
  function_word : List Text → Name → ℕ → Use
  -- an argument of a head, where these variables are in scope
  head_argument : List Text → Term → Use
  -- an aggregate of this kind, which stands so and begins here
  an_aggregate : Standing → AggKind → ℕ → Use

abbrev pub app_name : App → Name
app_name (constant n) = n
app_name (empty n p q) = n
app_name (apply n p ts q) = n

-- the places of first tokens
abbrev pub place_of_factor : Factor → ℕ
place_of_factor (integer n p) = p
place_of_factor (value a) = place_of_name (app_name a)
place_of_factor (brackets p t q) = p
place_of_factor (negative p f) = p
place_of_factor (count p b vs q f r) = p
place_of_factor (aggregate how p b vs q f r t e) = p

abbrev pub place_of_product : Product → ℕ
place_of_product (factor f) = place_of_factor f
place_of_product (times f p q) = place_of_factor f

abbrev pub place_of_term : Term → ℕ
place_of_term (product p) = place_of_product p
place_of_term (sum p a q t) = place_of_product p

abbrev pub place_of_use : Use → ℕ
place_of_use (declares names w) = place_of_name w
place_of_use (counted greatest number w) = place_of_name w
place_of_use (climbs parents number w) = place_of_name w
place_of_use (parent w) = place_of_name w
place_of_use (position w) = place_of_name w
place_of_use (bound before w) = place_of_name w
place_of_use (formula_word c w n) = place_of_name w
place_of_use (term_word c w n) = place_of_name w
place_of_use (function_word scope w n) = place_of_name w
place_of_use (head_argument scope t) = place_of_term t
place_of_use (an_aggregate s k place) = place

-- ---- declarations

abbrev pub declared_uses : Names → List (Name × Meaning) → List Use
declared_uses names [] = []
declared_uses names (e ∷ es) = declares names e.0 ∷ declared_uses (declared names (text_of e.0) e.1) es

abbrev pub parent_uses : Option Name → List Use
parent_uses None = []
parent_uses (Some w) = parent w ∷ []

abbrev pub position_uses : Option Name → List Use
position_uses None = []
position_uses (Some w) = position w ∷ []

-- the words and counts of declarations, where so many types and symbols stand before
abbrev pub uses_in_declarations : ℕ → ℕ → List Declaration → List Use
uses_in_declarations types symbols [] = []
uses_in_declarations types symbols (type_under n p ∷ ds) =
    (counted 256 (types + 1) n ∷ parent_uses p) ++ uses_in_declarations (types + 1) symbols ds
uses_in_declarations types symbols (constructed_type n ns ∷ ds) =
    (counted 256 (types + 1) n ∷ counted 65536 (length ns) n ∷ []) ++ uses_in_declarations (types + 1) symbols ds
uses_in_declarations types symbols (symbol n args to ∷ ds) =
    (counted 1024 (symbols + 1) n ∷ counted 8 (length args) n ∷ (map position args ++ position_uses to))
    ++ uses_in_declarations types (symbols + 1) ds

abbrev pub type_names : List Declaration → List Name
type_names [] = []
type_names (type_under n p ∷ ds) = n ∷ type_names ds
type_names (constructed_type n ns ∷ ds) = n ∷ type_names ds
type_names (symbol n args to ∷ ds) = type_names ds

abbrev pub type_in : Meaning → Option ℕ
type_in (a_type t) = Some t
type_in _ = None

abbrev pub parent_type : Names → Option Name → Option ℕ
parent_type names None = None
parent_type names (Some w) = type_in (meaning_of names (text_of w))

-- the parent of each type, where it is another type of the vocabulary
abbrev pub parents_in : Names → List Declaration → List (Option ℕ)
parents_in names [] = []
parents_in names (type_under n p ∷ ds) = parent_type names p ∷ parents_in names ds
parents_in names (constructed_type n ns ∷ ds) = None ∷ parents_in names ds
parents_in names (symbol n args to ∷ ds) = parents_in names ds

abbrev pub climbing_uses : List (Option ℕ) → ℕ → List Name → List Use
climbing_uses parents number [] = []
climbing_uses parents number (n ∷ ns) = climbs parents number n ∷ climbing_uses parents (number + 1) ns

-- each type, as the possible first one of a cycle
abbrev pub cycle_uses : List Declaration → List Use
cycle_uses ds = climbing_uses (parents_in (names_of ds) ds) 0 (type_names ds)

abbrev pub uses_of_declarations : List Declaration → List Use
uses_of_declarations ds =
    declared_uses number_types (declared_names 0 0 ds) ++ uses_in_declarations 0 0 ds ++ cycle_uses ds

-- ---- variables

abbrev pub vars_in : Vars → List Var
vars_in (var v) = v ∷ []
vars_in (beside v vs) = v ∷ vars_in vs
vars_in (comma v p vs) = v ∷ vars_in vs

abbrev pub var_name : Var → Name
var_name (untyped n) = n
var_name (typed n p ty q) = n

abbrev pub var_type : Var → Option Name
var_type (untyped n) = None
var_type (typed n p ty q) = Some ty

abbrev pub var_text : Var → Text
var_text v = text_of (var_name v)

abbrev pub uses_of_vars : List Text → List Var → List Use
uses_of_vars before [] = []
uses_of_vars before (v ∷ vs) =
    (bound before (var_name v) ∷ position_uses (var_type v)) ++ uses_of_vars (before ++ var_text v ∷ []) vs

-- the variables in scope after a list of variables
abbrev pub within : List Text → Vars → List Text
within scope vs = scope ++ map var_text (vars_in vs)

abbrev pub in_scope : List Text → Context
in_scope names = record { scope = names; defined = [] }

-- where these variables are bound too
abbrev pub inside : Context → Vars → Context
inside c vs = record { scope = within c.scope vs; defined = c.defined }

-- ---- formulas and terms

abbrev pub terms_count : Terms → ℕ
terms_count (final t) = 1
terms_count (then t p ts) = terms_count ts + 1

abbrev pub app_count : App → ℕ
app_count (constant n) = 0
app_count (empty n p q) = 0
app_count (apply n p ts q) = terms_count ts

abbrev mutual
  pub uses_in : Context → Formula → List Use
  uses_in c (alone o) = uses_in_or c o
  uses_in c (linked arrow o p ls) = uses_in_or c o ++ uses_in_links c ls

  pub uses_in_links : Context → Links → List Use
  uses_in_links c (last o) = uses_in_or c o
  uses_in_links c (link o p ls) = uses_in_or c o ++ uses_in_links c ls

  pub uses_in_or : Context → Or → List Use
  uses_in_or c (one a) = uses_in_and c a
  uses_in_or c (or a p o) = uses_in_and c a ++ uses_in_or c o

  pub uses_in_and : Context → And → List Use
  uses_in_and c (single u) = uses_in_unary c u
  uses_in_and c (and u p a) = uses_in_unary c u ++ uses_in_and c a

  pub uses_in_unary : Context → Unary → List Use
  uses_in_unary c (not p u) = uses_in_unary c u
  uses_in_unary c (every p vs q f) = uses_of_vars [] (vars_in vs) ++ uses_in (inside c vs) f
  uses_in_unary c (some p n vs q f) = uses_of_vars [] (vars_in vs) ++ uses_in (inside c vs) f
  uses_in_unary c (prim x) = uses_in_prim c x

  pub uses_in_prim : Context → Prim → List Use
  uses_in_prim c (group p f q) = uses_in c f
  uses_in_prim c (truth b p) = []
  uses_in_prim c (atom a) = formula_word c (app_name a) (app_count a) ∷ uses_in_arguments c a
  uses_in_prim c (compare x k p y) = uses_in_term (facing y) c x ++ uses_in_term (facing x) c y

  -- of a term that stands so
  pub uses_in_term : Standing → Context → Term → List Use
  uses_in_term s c (product p) = uses_in_product s c p
  uses_in_term s c (sum p a q t) = uses_in_product (in_sum s) c p ++ uses_in_operands (in_sum s) c t

  -- of the operands of a sum, each of which stands so
  pub uses_in_operands : Standing → Context → Term → List Use
  uses_in_operands s c (product p) = uses_in_product s c p
  uses_in_operands s c (sum p a q t) = uses_in_product s c p ++ uses_in_operands s c t

  pub uses_in_product : Standing → Context → Product → List Use
  uses_in_product s c (factor f) = uses_in_factor s c f
  uses_in_product s c (times f p q) =
      uses_in_factor (in_product s (times f p q)) c f ++ uses_in_factors (in_product s (times f p q)) c q

  -- of factors, each of which stands so
  pub uses_in_factors : Standing → Context → Product → List Use
  uses_in_factors s c (factor f) = uses_in_factor s c f
  uses_in_factors s c (times f p q) = uses_in_factor s c f ++ uses_in_factors s c q

  -- the condition of an aggregate is a formula like any other
  pub uses_in_factor : Standing → Context → Factor → List Use
  uses_in_factor s c (integer n p) = []
  uses_in_factor s c (value a) = term_word c (app_name a) (app_count a) ∷ uses_in_arguments c a
  uses_in_factor s c (brackets p t q) = uses_in_term s c t
  uses_in_factor s c (negative p f) = uses_in_factor (scaled s) c f
  uses_in_factor s c (count p b vs q f r) =
      an_aggregate s kind.Count p ∷ (uses_of_vars [] (vars_in vs) ++ uses_in (inside c vs) f)
  uses_in_factor s c (aggregate how p b vs q f r t e) =
      an_aggregate s (kind_of how) p ∷ (uses_of_vars [] (vars_in vs)
      ++ (uses_in (inside c vs) f ++ uses_in_term Elsewhere (inside c vs) t))

  pub uses_in_arguments : Context → App → List Use
  uses_in_arguments c (constant n) = []
  uses_in_arguments c (empty n p q) = []
  uses_in_arguments c (apply n p ts q) = uses_in_terms c ts

  -- of arguments
  pub uses_in_terms : Context → Terms → List Use
  uses_in_terms c (final t) = uses_in_term Elsewhere c t
  uses_in_terms c (then t p ts) = uses_in_term Elsewhere c t ++ uses_in_terms c ts

-- ---- rules

-- an integer, in brackets or not
abbrev pub is_integer : Factor → Bool
is_integer (integer n p) = true
is_integer (brackets p (product (factor f)) q) = is_integer f
is_integer _ = false

-- a variable, or the name of an element
abbrev pub is_given : Meaning → Bool
is_given (variable level) = true
is_given (made t i) = true
is_given _ = false

-- a variable, an integer with `-` or without, or the name of an element, in brackets or not
abbrev pub is_simple_factor : Names → List Text → Factor → Bool
is_simple_factor names scope (integer n p) = true
is_simple_factor names scope (value a) = is_given (meaning_at names scope (app_name a) (app_count a))
is_simple_factor names scope (brackets p (product (factor f)) q) = is_simple_factor names scope f
is_simple_factor names scope (negative p f) = is_integer f
is_simple_factor names scope _ = false

-- what may stand as an argument or as the value of a head
abbrev pub is_simple : Names → List Text → Term → Bool
is_simple names scope (product (factor f)) = is_simple_factor names scope f
is_simple names scope _ = false

abbrev pub vars_bound : Binding → List Var
vars_bound (binding p vs q) = vars_in vs

-- the variables of all lists before a rule's head
abbrev pub rule_vars : List Binding → List Var
rule_vars bs = flat_map vars_bound bs

abbrev pub rule_scope : List Binding → List Text
rule_scope bs = map var_text (rule_vars bs)

abbrev pub head_app : Head → App
head_app (atom_head a) = a
head_app (value_head a p t) = a

-- the word in a rule's head: the name that the rule defines
abbrev pub head_word : Rule → Text
head_word (rule bs h body p) = text_of (app_name (head_app h))

-- a body that is written
abbrev pub written_body : Option (ℕ × Option Formula) → Option Formula
written_body None = None
written_body (Some b) = b.1

-- a variable without a name stands for a head's value that may not stand there; no word names it
abbrev pub unnamed : Text
unnamed = []

-- with that variable, unless the value may stand there
abbrev pub value_scope : List Text → Bool → List Text
value_scope scope true = scope
value_scope scope false = scope ++ unnamed ∷ []

-- the variables in scope in the value of a head and in the body after it
abbrev pub body_scope : Names → List Text → Head → List Text
body_scope names scope (atom_head a) = scope
body_scope names scope (value_head a p t) = value_scope scope (is_simple names scope t)

abbrev pub terms_in : Terms → List Term
terms_in (final t) = t ∷ []
terms_in (then t p ts) = t ∷ terms_in ts

abbrev pub arguments_in : App → List Term
arguments_in (constant n) = []
arguments_in (empty n p q) = []
arguments_in (apply n p ts q) = terms_in ts

-- an argument of a head, and the uses in it
abbrev pub argument_uses : List Text → Term → List Use
argument_uses scope t = head_argument scope t ∷ uses_in_term Elsewhere (in_scope scope) t

-- the word of a head, where these variables are in scope
abbrev pub head_use : List Text → Head → Use
head_use scope (atom_head a) = formula_word (in_scope scope) (app_name a) (app_count a)
head_use scope (value_head a p t) = function_word scope (app_name a) (app_count a)

-- a head's value is a side of the comparison with the variable that stands for it
abbrev pub value_uses : Context → Head → List Use
value_uses c (atom_head a) = []
value_uses c (value_head a p t) = uses_in_term Side c t

abbrev pub body_uses : Context → Option Formula → List Use
body_uses c None = []
body_uses c (Some f) = uses_in c f

-- a head and a body, where these variables are in scope
abbrev pub uses_under : Names → List Text → List Text → Head → Option Formula → List Use
uses_under names defined scope h body =
    let c : Context = record { scope = body_scope names scope h; defined = defined } in
    head_use scope h ∷ (flat_map (argument_uses scope) (arguments_in (head_app h)) ++ (value_uses c h
    ++ body_uses c body))

-- a rule of a definition that defines these names
abbrev pub uses_in_rule : Names → List Text → Rule → List Use
uses_in_rule names defined (rule bs h body p) =
    flat_map (λ b. uses_of_vars [] (vars_bound b)) bs ++ uses_under names defined (rule_scope bs) h (written_body body)

-- ---- a file

abbrev pub uses_in_part : Names → Part → List Use
uses_in_part names (sentence f) = uses_in (in_scope []) f
uses_in_part names (definition rs) = flat_map (uses_in_rule names (map head_word rs)) rs

abbrev pub uses_in_theory : Names → TheoryBlock → List Use
uses_in_theory names t = flat_map (uses_in_part names) t.parts

abbrev pub uses_in_block : TermBlock → List Use
uses_in_block t = uses_in_term Side (in_scope []) t.term
