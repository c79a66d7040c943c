-- The rule with the types of its variables is well typed, where what it demands is met.
use Rattle.std.proofs.Common.{◌≡◌, ℕ, pos, true, false, List, [], ◌∷◌, length, map, Option, None, Some, option_map}
use Rattle.std.proofs.Common.{refl, sym, ap, subst, ◌∙◌, slice_get, is_some, arith}
use Rattle.std.specs.Prelude.{IfSome}
use Rattle.std.specs.List.{AllByRecursion}
use Rattle.kb_logic.specs.declared.vocabularies.Bound.{Bound}
use Rattle.kb_logic.specs.declared.vocabularies.Symbol.{Symbol}
use Rattle.kb_logic.specs.declared.vocabularies.Vocabulary.{Vocabulary}
use Rattle.kb_logic.specs.Trees as tree
use Rattle.kb_logic.specs.Bounds.{types_of}
use Rattle.kb_logic.specs.Typing.{TermIsTyped, ArgumentsAreTyped}
use Rattle.stage_definitions.specs.Demands.{argument_types, value_type, formula_parts, term_parts, arguments_parts}
use Rattle.stage_definitions.specs.Demands.{value_demands, value_parts, head_parts, parts_in_rule, rule_parts}
use Rattle.stage_definitions.specs.NamedTrees.{NamedTerm, at, variable, integer, constructed, application, summation}
use Rattle.stage_definitions.specs.NamedTrees.{product, aggregate, NamedSummands, terms_of, NamedRule}
use Rattle.stage_definitions.specs.TypedTrees.{integer_of, typed_vars, typed_formula, typed_term, typed_terms}
use Rattle.stage_definitions.specs.TypedTrees.{typed_summands, rule_types, typed_rule}
use Rattle.reading_laws.specs.WellTyped.{IsHeadTerm, HeadIsTyped, RuleIsTyped}
use Rattle.reading_laws.proofs.Numbered.{FormulaIsNumbered, IsPlain, IsHeadNumbered, each_term, as_many_terms}
use Rattle.reading_laws.proofs.Numbered.{RuleIsNumbered}
use Rattle.reading_laws.proofs.MetDemands.{AreMet, met_left, met_right, scope_met}
use Rattle.reading_laws.proofs.Typed.{Asked, same_types, scope_length, formula_typed, term_typed}
use Rattle.reading_laws.proofs.Typed.{arguments_typed}

-- ---- heads

module _ (v : Vocabulary) (around : List (Option ℕ)) where
  same_terms : (ts : List NamedTerm) → typed_terms v around (terms_of ts)
      ≡ tree.terms_of (map (typed_term v around) ts)
  same_terms [] = refl
  same_terms (t ∷ ts) = ap (tree.more_terms (typed_term v around t)) (same_terms ts)

  plain_term : (t : NamedTerm) → IsPlain t → IsHeadTerm (typed_term v around t)
  plain_term (at p (variable n)) h = tt
  plain_term (at p (integer i)) h = tt
  plain_term (at p (constructed t i)) h = tt
  plain_term (at p (application s us)) h = absurd h
  plain_term (at p (summation ss)) h =
      (pos (integer_of h.1), ap (λ (rs : NamedSummands). typed_summands v around rs) h.2)
  plain_term (at p (product us)) h = absurd h
  plain_term (at p (aggregate how xs f w)) h = absurd h

  plain_terms : (k : ℕ) (ts : List NamedTerm) → AllByRecursion (IsHeadNumbered v k) ts
      → AllByRecursion IsHeadTerm (map (typed_term v around) ts)
  plain_terms k [] h = tt
  plain_terms k (t ∷ ts) h = (plain_term t h.0.plain, plain_terms k ts h.1)

  plain_value : (k : ℕ) (o : Option NamedTerm) → IfSome o (IsHeadNumbered v k)
      → IfSome (option_map (typed_term v around) o) IsHeadTerm
  plain_value k None h = tt
  plain_value k (Some t) h = plain_term t h.plain

  -- a value is well typed where so many variables are in scope
  value_typed : (sc : List ℕ) (type : Option ℕ) (o : Option NamedTerm) → IfSome o (IsHeadNumbered v (length sc))
      → AreMet v.types around sc (value_parts v.symbols type o)
      → IfSome (option_map (typed_term v around) o) (λ t. TermIsTyped v (Asked v) t sc)
  value_typed sc type None h m = tt
  value_typed sc type (Some t) h m =
      term_typed v around sc t h.numbered
      (met_right v.types around sc (value_demands v.symbols type t) (term_parts v.symbols t) m)

same_kind : {X Y : Type 0} (f : X → Y) (o : Option X) → is_some (option_map f o) ≡ is_some o
same_kind f None = refl
same_kind f (Some x) = refl

no_body : (v : Vocabulary) (r : NamedRule) → RuleIsNumbered v r → (typed_rule v r).has_body ≡ false
    → (typed_rule v r).body ≡ tree.verum
no_body v r h e = ap (typed_formula v (rule_types v r)) (h.unwritten e)

-- ---- rules

module _ (v : Vocabulary) (r : NamedRule) (h : RuleIsNumbered v r) where
  abbrev vars : List Bound
  vars = typed_vars v.types [] r.vars (parts_in_rule v.symbols r)

  abbrev sc : List ℕ
  sc = types_of vars

  abbrev around : List (Option ℕ)
  around = rule_types v r

  as_many : length r.vars ≡ length sc
  as_many = let same = scope_length v [] [] r.vars (parts_in_rule v.symbols r) in omega (arith, same)

  abbrev types : List ℕ
  types = argument_types (slice_get v.symbols r.symbol)

  abbrev args : AllByRecursion (IsHeadNumbered v (length sc)) r.args
  args = subst (λ (k : ℕ). AllByRecursion (IsHeadNumbered v k) r.args) as_many h.args

  head_typed : (d : Symbol) → slice_get v.symbols r.symbol ≡ Some d → is_some r.value ≡ is_some d.value
      → length r.args ≡ length d.args → AreMet v.types around sc (head_parts v.symbols r)
      → HeadIsTyped v (Asked v) (typed_rule v r) d
  head_typed d e kind count m =
      let own = arguments_parts v.symbols true types (terms_of r.args) in
      let value = value_parts v.symbols (value_type (slice_get v.symbols r.symbol)) r.value in
      let met : AreMet v.types around sc (arguments_parts v.symbols true d.args (terms_of r.args)) =
      subst (λ (ts : List ℕ). AreMet v.types around sc (arguments_parts v.symbols true ts (terms_of r.args)))
      (sym (same_types v r.symbol d e)) (met_left v.types around sc own value m) in
      record {
        symbol = e;
        args = subst (λ (ts : tree.TermTrees). ArgumentsAreTyped v (Asked v) ts d.args sc) (same_terms v around r.args)
            (arguments_typed v around sc (terms_of r.args) d.args (as_many_terms r.args ∙ count)
            (each_term v (length sc) r.args args) met);
        value = value_typed v around sc (value_type (slice_get v.symbols r.symbol)) r.value
            (subst (λ (k : ℕ). IfSome r.value (IsHeadNumbered v k)) as_many h.value)
            (met_right v.types around sc own value m);
        kind = same_kind (typed_term v around) r.value ∙ kind;
        plain_args = plain_terms v around (length r.vars) r.args h.args;
        plain_value = plain_value v around (length r.vars) r.value h.value;
      }

  pub rule_typed : AreMet v.types [] [] (rule_parts v.symbols r) → RuleIsTyped v (Asked v) (typed_rule v r)
  rule_typed m =
      let both = scope_met v [] [] r.vars (parts_in_rule v.symbols r) m in
      let d = h.symbol in
      record {
        vars = both.0;
        head = (
          d.0,
          head_typed d.0 d.1 d.2 d.3 (met_left v.types around sc (head_parts v.symbols r)
              (formula_parts v.symbols r.body) both.1),
        );
        body = formula_typed v around sc r.body (subst (λ (k : ℕ). FormulaIsNumbered v k r.body) as_many h.body)
            (met_right v.types around sc (head_parts v.symbols r) (formula_parts v.symbols r.body) both.1);
        unwritten = no_body v r h;
      }
