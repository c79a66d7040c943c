-- The types of the typed rules' variables are those that are found, in the order in which they are bound.
use Rattle.std.proofs.Common.{◌≡◌, ℕ, true, List, [], ◌∷◌, ◌++◌, map, Option, None, Some, slice_get, option_map, refl}
use Rattle.std.proofs.Common.{ap, ◌∙◌, sym, append-nil}
use Rattle.kb_logic.specs.declared.vocabularies.Bound.{Bound}
use Rattle.kb_logic.specs.declared.vocabularies.Vocabulary.{Vocabulary}
use Rattle.kb_logic.specs.Trees as tree
use Rattle.stage_definitions.specs.Demands.{argument_types, value_type, formula_parts, term_parts, arguments_parts}
use Rattle.stage_definitions.specs.Demands.{value_demands, value_parts, parts_in_rule}
use Rattle.stage_definitions.specs.NamedTrees.{NamedTerm, terms_of, NamedRule}
use Rattle.stage_definitions.specs.TypedTrees.{rule_types, typed_formula, typed_rule, typed_term, typed_terms}
use Rattle.stage_definitions.specs.TypedTrees.{typed_vars}
use Rattle.stage_definitions.specs.TypesStage.{rule_settled}
use Rattle.type_constraints.specs.ChosenTypes.{types_among}
use Rattle.type_derivation.specs.ListedTrees.{listed_vars, left_vars, left_term, left_terms, listed_formula}
use Rattle.type_derivation.specs.ListedTrees.{listed_term, listed_terms, listed_args, listed_value, left_value}
use Rattle.type_derivation.specs.ListedTrees.{left_head, listed_rule, TypesAreInOrder}
use Rattle.type_derivation.proofs.InOrder.{found_in, split, split_none, scope_left, scope_vars, left-arguments}
use Rattle.type_derivation.proofs.InOrder.{left-term, tree-arguments, tree-formula, tree-term}

-- ---- arguments as a list

abbrev listed_back : tree.TermTrees → List tree.TermTree
listed_back tree.no_terms = []
listed_back (tree.more_terms t ts) = t ∷ listed_back ts

back : (ts : List tree.TermTree) → listed_back (tree.terms_of ts) ≡ ts
back [] = refl
back (t ∷ ts) = ap (λ (us : List tree.TermTree). t ∷ us) (back ts)

same_terms : (ts us : List tree.TermTree) → tree.terms_of ts ≡ tree.terms_of us → ts ≡ us
same_terms ts us e = sym (back ts) ∙ ap listed_back e ∙ back us

args_listed : (ts : List ℕ) (us : List NamedTerm) → listed_terms ts (terms_of us) ≡ tree.terms_of (listed_args ts us)
args_listed ts [] = refl
args_listed ts (u ∷ us) = ap (tree.more_terms (listed_term ts u)) (args_listed (left_term ts u) us)

-- terms that were built are the arguments as a list
pub args_built : (ts : List ℕ) (us : List NamedTerm) (built : List tree.TermTree)
    → tree.terms_of built ≡ listed_terms ts (terms_of us) → built ≡ listed_args ts us
args_built ts us built e = same_terms built (listed_args ts us) (e ∙ args_listed ts us)

args_typed : (v : Vocabulary) (around : List (Option ℕ)) (us : List NamedTerm)
    → typed_terms v around (terms_of us) ≡ tree.terms_of (map (typed_term v around) us)
args_typed v around [] = refl
args_typed v around (u ∷ us) = ap (tree.more_terms (typed_term v around u)) (args_typed v around us)

-- ---- the value of a head

module _ (v : Vocabulary) where
  no_demand : (around : List (Option ℕ)) (type : Option ℕ) (x : NamedTerm)
      → found_in v around (value_demands v.symbols type x) ≡ []
  no_demand around None x = refl
  no_demand around (Some t) x = refl

  split_value : (around : List (Option ℕ)) (type : Option ℕ) (x : NamedTerm) (rest : List ℕ)
      → found_in v around (value_parts v.symbols type (Some x)) ++ rest
      ≡ found_in v around (term_parts v.symbols x) ++ rest
  split_value around type x rest =
      split_none v around (value_demands v.symbols type x) (term_parts v.symbols x) rest (no_demand around type x)

  left-value : (around : List (Option ℕ)) (type : Option ℕ) (value : Option NamedTerm) (rest : List ℕ)
      → left_value (found_in v around (value_parts v.symbols type value) ++ rest) value ≡ rest
  left-value around type None rest = refl
  left-value around type (Some x) rest =
      ap (λ (ts : List ℕ). left_term ts x) (split_value around type x rest) ∙ left-term v around x rest

  tree-value : (around : List (Option ℕ)) (type : Option ℕ) (value : Option NamedTerm) (rest : List ℕ)
      → listed_value (found_in v around (value_parts v.symbols type value) ++ rest) value
      ≡ option_map (typed_term v around) value
  tree-value around type None rest = refl
  tree-value around type (Some x) rest =
      ap Some (ap (λ (ts : List ℕ). listed_term ts x) (split_value around type x rest) ∙ tree-term v around x rest)

-- ---- a rule

abbrev rule_of : NamedRule → List Bound → List tree.TermTree → Option tree.TermTree → tree.FormulaTree → tree.RuleTree
rule_of r bs args value body = record {
  vars = bs;
  symbol = r.symbol;
  args = args;
  value = value;
  has_body = r.has_body;
  body = body;
}

same_rule : (r : NamedRule) (bs cs : List Bound) (us ws : List tree.TermTree) (o p : Option tree.TermTree)
    (f g : tree.FormulaTree) → bs ≡ cs → us ≡ ws → o ≡ p → f ≡ g → rule_of r bs us o f ≡ rule_of r cs ws p g
same_rule r bs cs us ws o p f g b u e d =
    ap (λ (xs : List Bound). rule_of r xs us o f) b ∙ ap (λ (xs : List tree.TermTree). rule_of r cs xs o f) u
    ∙ ap (λ (x : Option tree.TermTree). rule_of r cs ws x f) e ∙ ap (rule_of r cs ws p) d

module _ (v : Vocabulary) (r : NamedRule) where
  abbrev types : List ℕ
  types = types_among (rule_settled v r)

  abbrev inner : List (Option ℕ)
  inner = rule_types v r

  abbrev positions : List ℕ
  positions = argument_types (slice_get v.symbols r.symbol)

  abbrev value_at : Option ℕ
  value_at = value_type (slice_get v.symbols r.symbol)

  -- the types that are found in the body, and before them those in the head's value
  abbrev in_body : List ℕ
  in_body = found_in v inner (formula_parts v.symbols r.body) ++ []

  abbrev in_value : List ℕ
  in_value = found_in v inner (value_parts v.symbols value_at r.value) ++ in_body

  after_vars : left_vars types r.vars ≡ found_in v inner (arguments_parts v.symbols true positions (terms_of r.args))
      ++ in_value
  after_vars =
      ap (λ (ts : List ℕ). left_vars ts r.vars) (sym (append-nil types))
      ∙ scope_left v [] r.vars (parts_in_rule v.symbols r) []
      ∙ split v inner (arguments_parts v.symbols true positions (terms_of r.args)
      ++ value_parts v.symbols value_at r.value) (formula_parts v.symbols r.body) []
      ∙ split v inner (arguments_parts v.symbols true positions (terms_of r.args))
      (value_parts v.symbols value_at r.value) in_body

  after_args : left_terms (left_vars types r.vars) (terms_of r.args) ≡ in_value
  after_args =
      ap (λ (ts : List ℕ). left_terms ts (terms_of r.args)) after_vars
      ∙ left-arguments v inner true positions (terms_of r.args) in_value

  after_head : left_head (left_vars types r.vars) r ≡ in_body
  after_head = ap (λ (ts : List ℕ). left_value ts r.value) after_args ∙ left-value v inner value_at r.value in_body

  vars : typed_vars v.types [] r.vars (parts_in_rule v.symbols r) ≡ listed_vars types r.vars
  vars =
      sym (ap (λ (ts : List ℕ). listed_vars ts r.vars) (sym (append-nil types))
      ∙ scope_vars v [] r.vars (parts_in_rule v.symbols r) [])

  args : map (typed_term v inner) r.args ≡ listed_args (left_vars types r.vars) r.args
  args =
      args_built (left_vars types r.vars) r.args (map (typed_term v inner) r.args) (sym (args_typed v inner r.args)
      ∙ sym (ap (λ (ts : List ℕ). listed_terms ts (terms_of r.args)) after_vars
      ∙ tree-arguments v inner true positions (terms_of r.args) in_value))

  value : option_map (typed_term v inner) r.value
      ≡ listed_value (left_terms (left_vars types r.vars) (terms_of r.args)) r.value
  value =
      sym (ap (λ (ts : List ℕ). listed_value ts r.value) after_args ∙ tree-value v inner value_at r.value in_body)

  body : typed_formula v inner r.body ≡ listed_formula (left_head (left_vars types r.vars) r) r.body
  body = sym (ap (λ (ts : List ℕ). listed_formula ts r.body) after_head ∙ tree-formula v inner r.body [])

  rule_in_order : typed_rule v r ≡ listed_rule types r
  rule_in_order = same_rule r _ _ _ _ _ _ _ _ vars args value body

pub types_are_in_order : TypesAreInOrder
types_are_in_order = record {
  sentence = λ v f. sym (tree-formula v [] f []) ∙ ap (λ (ts : List ℕ). listed_formula ts f)
      (append-nil (found_in v [] (formula_parts v.symbols f)));
  rule = rule_in_order;
  term = λ v t. sym (tree-term v [] t []) ∙ ap (λ (ts : List ℕ). listed_term ts t)
      (append-nil (found_in v [] (term_parts v.symbols t)));
}
