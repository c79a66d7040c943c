-- Where no row of the stage of names refuses a rule, its numbers stand for what is declared.
use Rattle.std.proofs.Common.{◌≡◌, ◌<◌, ◌≤◌, ℕ, ◌+◌, Bool, true, false, is_some, List, [], ◌∷◌, ◌++◌, length, map}
use Rattle.std.proofs.Common.{Option, None, Some, slice_get, refl, sym, ap, subst, ◌∙◌, arith, length-append}
use Rattle.std.specs.Prelude.{IfSome}
use Rattle.std.specs.List.{AllByRecursion, flat_map}
use Rattle.std.proofs.lemmas.Bool.{true≢false, not-false}
use Rattle.std.proofs.lemmas.List.{length-map, map-append}
use Rattle.kb_logic.specs.declared.vocabularies.Symbol.{Symbol}
use Rattle.kb_logic.specs.declared.vocabularies.Vocabulary.{Vocabulary}
use Rattle.grammar.specs.Trees as raw
use Rattle.grammar.specs.Trees.{Var, Formula, Term, Factor, App, Terms}
use Rattle.grammar.specs.BlockTrees.{Binding, Head, atom_head, value_head, Rule}
use Rattle.grammar.specs.BlockTrees as block
use Rattle.stage_definitions.specs.Scopes.{Text}
use Rattle.stage_definitions.specs.declared.standings.Standing.TheVariants.{Side, Elsewhere}
use Rattle.stage_definitions.specs.Names.{Meaning, undeclared, integers, naturals, a_type, predicate, function, made}
use Rattle.stage_definitions.specs.Names.{variable, Names, meaning_of, meaning_at}
use Rattle.stage_definitions.specs.NamesStage.{is_defined}
use Rattle.stage_definitions.specs.Uses.{Context, in_scope, var_text, uses_of_vars, app_name, app_count, terms_count}
use Rattle.stage_definitions.specs.Uses.{uses_in_term, is_integer, is_given, is_simple_factor, is_simple, vars_bound}
use Rattle.stage_definitions.specs.Uses.{rule_vars, rule_scope, value_scope, terms_in, arguments_in, argument_uses}
use Rattle.stage_definitions.specs.Uses.{head_use, body_uses, uses_under, uses_in_rule, written_body}
use Rattle.stage_definitions.specs.NamedTrees.{NamedVar, NamedTerm, at, NamedNode, NamedTerms, more_summands}
use Rattle.stage_definitions.specs.NamedTrees.{no_summands}
use Rattle.stage_definitions.specs.NamedTrees.{NamedFormula, begun_at, NamedRule}
use Rattle.stage_definitions.specs.NamedTrees as named
use Rattle.stage_definitions.specs.Numbering.{named_var, node_of, named_term, named_factor, named_body}
use Rattle.stage_definitions.specs.Numbering.{function_number, value_var, valued_body, head_arguments, valued_rule}
use Rattle.stage_definitions.specs.Numbering.{ruled, named_rule}
use Rattle.reading_laws.proofs.Alls.{all_left, all_right, all_append, each_of}
use Rattle.reading_laws.proofs.Meanings.{IsFine, AreFine, IsMeaning, no_type}
use Rattle.reading_laws.proofs.Numbered.{AreWritten, FormulaIsNumbered, TermIsNumbered, IsPlainNode, IsPlain}
use Rattle.reading_laws.proofs.Numbered.{IsHeadNumbered, RuleIsNumbered}
use Rattle.reading_laws.proofs.Words.{predicate_is, function_is, means_at, vars_written, formula_numbered}
use Rattle.reading_laws.proofs.Words.{term_numbered}

-- ---- terms that may stand in a head

module _ (names : Names) (scope : List Text) where
  integer_is : (f : Factor) → is_integer f ≡ true → (q i : ℕ) × (named_factor names scope f ≡ at q (named.integer i))
  integer_is (raw.integer n p) h = (p, n, refl)
  integer_is (raw.value a) h = absurd (true≢false (sym h))
  integer_is (raw.brackets p (raw.product (raw.factor f)) q) h =
      let inner = integer_is f h in
      (p, inner.1, ap (begun_at p) inner.2)
  integer_is (raw.brackets p (raw.product (raw.times f r g)) q) h = absurd (true≢false (sym h))
  integer_is (raw.brackets p (raw.sum g a r t) q) h = absurd (true≢false (sym h))
  integer_is (raw.negative p f) h = absurd (true≢false (sym h))
  integer_is (raw.count p b vs q f r) h = absurd (true≢false (sym h))
  integer_is (raw.aggregate how p b vs q f r t e) h = absurd (true≢false (sym h))

  begun_plain : (p : ℕ) (t : NamedTerm) → IsPlain t → IsPlain (begun_at p t)
  begun_plain p (at q x) h = h

  given_plain : (m : Meaning) (us : NamedTerms) → is_given m ≡ true → IsPlainNode (node_of m us)
  given_plain undeclared us h = absurd (true≢false (sym h))
  given_plain integers us h = absurd (true≢false (sym h))
  given_plain naturals us h = absurd (true≢false (sym h))
  given_plain (a_type t) us h = absurd (true≢false (sym h))
  given_plain (predicate s n) us h = absurd (true≢false (sym h))
  given_plain (function s n) us h = absurd (true≢false (sym h))
  given_plain (made t i) us h = tt
  given_plain (variable level) us h = tt

  factor_plain : (f : Factor) → is_simple_factor names scope f ≡ true → IsPlain (named_factor names scope f)
  factor_plain (raw.integer n p) h = tt
  factor_plain (raw.value a) h = given_plain (meaning_at names scope (app_name a) (app_count a)) _ h
  factor_plain (raw.brackets p (raw.product (raw.factor f)) q) h =
      begun_plain p (named_factor names scope f) (factor_plain f h)
  factor_plain (raw.brackets p (raw.product (raw.times f r g)) q) h = absurd (true≢false (sym h))
  factor_plain (raw.brackets p (raw.sum g a r t) q) h = absurd (true≢false (sym h))
  factor_plain (raw.negative p f) h =
      let inner = integer_is f h in
      (inner.0, inner.1, ap (λ (t : NamedTerm). more_summands true t no_summands) inner.2)
  factor_plain (raw.count p b vs q f r) h = absurd (true≢false (sym h))
  factor_plain (raw.aggregate how p b vs q f r t e) h = absurd (true≢false (sym h))

  term_plain : (t : Term) → is_simple names scope t ≡ true → IsPlain (named_term names scope t)
  term_plain (raw.product (raw.factor f)) h = factor_plain f h
  term_plain (raw.product (raw.times f p q)) h = absurd (true≢false (sym h))
  term_plain (raw.sum p a q t) h = absurd (true≢false (sym h))

module _ (v : Vocabulary) (names : Names) (means : (k : ℕ) (w : Text)
    → IsMeaning v.types v.symbols k (meaning_of names w)) where
  -- ---- a head

  -- where more variables are in scope
  wider : (k j : ℕ) → k ≤ j → (t : NamedTerm) → IsHeadNumbered v k t → IsHeadNumbered v j t
  wider k j le (at p (named.variable n)) h =
      let less = h.numbered in
      record { numbered = omega (arith, less, le); plain = tt }
  wider k j le (at p (named.integer i)) h = record { numbered = tt; plain = tt }
  wider k j le (at p (named.constructed t i)) h = record { numbered = h.numbered; plain = tt }
  wider k j le (at p (named.application s us)) h = absurd (h.plain)
  wider k j le (at p (named.summation ss)) h = record {
    numbered = subst (λ (rs : named.NamedSummands). TermIsNumbered v j (at p (named.summation rs))) (sym h.plain.2)
        (tt, (tt, tt));
    plain = h.plain;
  }
  wider k j le (at p (named.product us)) h = absurd (h.plain)
  wider k j le (at p (named.aggregate how xs f w)) h = absurd (h.plain)

  arguments_numbered : (scope : List Text) (ts : List Term) → AreFine names (flat_map (argument_uses scope) ts)
      → AllByRecursion (IsHeadNumbered v (length scope)) (map (named_term names scope) ts)
  arguments_numbered scope [] fine = tt
  arguments_numbered scope (t ∷ ts) fine =
      let own = uses_in_term Elsewhere (in_scope scope) t in
      let later = flat_map (argument_uses scope) ts in (
        record {
          numbered = term_numbered v names means Elsewhere (in_scope scope) t (all_left (IsFine names) own later fine.1);
          plain = term_plain names scope t (not-false (is_simple names scope t) fine.0.plain);
        },
        arguments_numbered scope ts (all_right (IsFine names) own later fine.1),
      )

  terms_counted : (ts : Terms) → length (terms_in ts) ≡ terms_count ts
  terms_counted (raw.final t) = refl
  terms_counted (raw.then t p ts) = let rest = terms_counted ts in omega (arith, rest)

  counted : (a : App) → length (arguments_in a) ≡ app_count a
  counted (raw.constant n) = refl
  counted (raw.empty n p q) = refl
  counted (raw.apply n p ts q) = terms_counted ts

  as_many : (scope : List Text) (a : App) → length (head_arguments names scope a) ≡ app_count a
  as_many scope a = length-map (arguments_in a) (named_term names scope) ∙ counted a

  -- ---- the variables and the body

  lists_written : (bs : List Binding) → AreFine names (flat_map (λ b. uses_of_vars [] (vars_bound b)) bs)
      → AreWritten v (map (named_var names) (rule_vars bs))
  lists_written [] fine = tt
  lists_written (b ∷ bs) fine =
      let own = uses_of_vars [] (vars_bound b) in
      let later = flat_map (λ b. uses_of_vars [] (vars_bound b)) bs in
      subst (λ (xs : List NamedVar). AreWritten v xs) (sym (map-append (named_var names) (vars_bound b) (rule_vars bs)))
      (all_append (λ (x : NamedVar). IfSome x.ty (λ t. t < length v.types)) (map (named_var names) (vars_bound b))
      (map (named_var names) (rule_vars bs))
      (vars_written v names means [] (vars_bound b) (all_left (IsFine names) own later fine))
      (lists_written bs (all_right (IsFine names) own later fine)))

  body_numbered : (c : Context) (body : Option Formula) → AreFine names (body_uses c body)
      → FormulaIsNumbered v (length c.scope) (named_body names c.scope body)
  body_numbered c None fine = tt
  body_numbered c (Some f) fine = formula_numbered v names means c f fine

  no_body : (scope : List Text) (body : Option Formula) → is_some body ≡ false
      → named_body names scope body ≡ named.truth true
  no_body scope None h = refl
  no_body scope (Some f) h = absurd (true≢false h)

  -- ---- a rule

  -- where so many variables are in scope as the rule has
  of_rule : (k : ℕ) (r : NamedRule) → k ≡ length r.vars → AreWritten v r.vars
      → (d : Symbol) × (slice_get v.symbols r.symbol ≡ Some d) × (is_some r.value ≡ is_some d.value)
      × (length r.args ≡ length d.args)
      → AllByRecursion (IsHeadNumbered v k) r.args → IfSome r.value (IsHeadNumbered v k)
      → FormulaIsNumbered v k r.body → (r.has_body ≡ false → r.body ≡ named.truth true) → RuleIsNumbered v r
  of_rule k r same vars symbol args value body unwritten = record {
    vars = vars;
    symbol = symbol;
    args = subst (λ (j : ℕ). AllByRecursion (IsHeadNumbered v j) r.args) same args;
    value = subst (λ (j : ℕ). IfSome r.value (IsHeadNumbered v j)) same value;
    body = subst (λ (j : ℕ). FormulaIsNumbered v j r.body) same body;
    unwritten = unwritten;
  }

  module _ (defined : List Text) (scope : List Text) (xs : List NamedVar) (same : length scope ≡ length xs)
      (written : AreWritten v xs) (body : Option Formula) where
    abbrev within_value : Bool → Context
    within_value b = record { scope = value_scope scope b; defined = defined }

    atom_ruled : (a : App) → AreFine names (uses_under names defined scope (atom_head a) body)
        → RuleIsNumbered v (ruled names scope xs (atom_head a) body)
    atom_ruled a fine =
        let c = within_value true in
        let m = meaning_at names scope (app_name a) (app_count a) in
        let d = predicate_is v names means (length scope) m (app_count a) (means_at v names means scope a)
        fine.0.known fine.0.right
        (no_type m (is_defined names (in_scope scope) (app_name a) (app_count a)) fine.0.supported) in
        let args = flat_map (argument_uses scope) (arguments_in a) in
        of_rule (length scope) (ruled names scope xs (atom_head a) body) same written
        (d.0, d.1, ap is_some (sym d.2), as_many scope a ∙ d.3)
        (arguments_numbered scope (arguments_in a) (all_left (IsFine names) args (body_uses c body) fine.1)) tt
        (body_numbered c body (all_right (IsFine names) args (body_uses c body) fine.1)) (no_body scope body)

    module _ (a : App) (t : Term) where
      abbrev value_fine : Bool → Type 0
      value_fine b = AreFine names (head_use scope (value_head a 0 t)
          ∷ (flat_map (argument_uses scope) (arguments_in a) ++ (uses_in_term Side (within_value b) t
          ++ body_uses (within_value b) body)))

      symbol_is : IsFine names (head_use scope (value_head a 0 t)) → (d : Symbol)
          × (slice_get v.symbols (function_number (meaning_at names scope (app_name a) (app_count a))) ≡ Some d)
          × (true ≡ is_some d.value) × (length (head_arguments names scope a) ≡ length d.args)
      symbol_is fine =
          let d = function_is v names means (length scope) (meaning_at names scope (app_name a) (app_count a))
          (app_count a) (means_at v names means scope a) fine.known fine.right fine.supported in
          (d.0, d.1, sym d.2, as_many scope a ∙ d.3)

      one_more : length (scope ++ [] ∷ []) ≡ length (xs ++ value_var a t ∷ [])
      one_more =
          length-append scope ([] ∷ []) ∙ ap (λ (n : ℕ). n + 1) same
          ∙ sym (length-append xs (value_var a t ∷ []))

      last_var : length xs < length (scope ++ [] ∷ [])
      last_var = let long = length-append scope ([] ∷ []) in omega (arith, long, same)

      no_more : length scope ≤ length (scope ++ [] ∷ [])
      no_more = let long = length-append scope ([] ∷ []) in omega (arith, long)

      valued : (o : Option Formula) → AreFine names (uses_in_term Side (within_value false) t)
          → AreFine names (body_uses (within_value false) o)
          → FormulaIsNumbered v (length (scope ++ [] ∷ []))
          (valued_body names (value_scope scope false) (length xs) t o)
      valued None fine later = (last_var, term_numbered v names means Side (within_value false) t fine)
      valued (Some f) fine later = (
        (last_var, term_numbered v names means Side (within_value false) t fine),
        (formula_numbered v names means (within_value false) f later, tt),
      )

      value_ruled : (b : Bool) → is_simple names scope t ≡ b → value_fine b
          → RuleIsNumbered v (valued_rule names scope xs a t body b)
      value_ruled true e fine =
          let c = within_value true in
          let args = flat_map (argument_uses scope) (arguments_in a) in
          let rest = all_right (IsFine names) args (uses_in_term Side c t ++ body_uses c body) fine.1 in
          of_rule (length scope) (valued_rule names scope xs a t body true) same written (symbol_is fine.0)
          (arguments_numbered scope (arguments_in a) (all_left (IsFine names) args
          (uses_in_term Side c t ++ body_uses c body) fine.1))
          (record {
            numbered = term_numbered v names means Side c t (all_left (IsFine names) (uses_in_term Side c t)
                (body_uses c body) rest);
            plain = term_plain names scope t e;
          })
          (body_numbered c body (all_right (IsFine names) (uses_in_term Side c t) (body_uses c body) rest))
          (no_body scope body)
      value_ruled false e fine =
          let c = within_value false in
          let args = flat_map (argument_uses scope) (arguments_in a) in
          let rest = all_right (IsFine names) args (uses_in_term Side c t ++ body_uses c body) fine.1 in
          of_rule (length (scope ++ [] ∷ [])) (valued_rule names scope xs a t body false) one_more
          (all_append (λ (x : NamedVar). IfSome x.ty (λ t. t < length v.types)) xs (value_var a t ∷ []) written
          (tt, tt))
          (symbol_is fine.0)
          (each_of (IsHeadNumbered v (length (scope ++ [] ∷ []))) (IsHeadNumbered v (length scope))
          (wider (length scope) (length (scope ++ [] ∷ [])) no_more) (head_arguments names scope a)
          (arguments_numbered scope (arguments_in a) (all_left (IsFine names) args
          (uses_in_term Side c t ++ body_uses c body) fine.1)))
          (record { numbered = last_var; plain = tt })
          (valued body (all_left (IsFine names) (uses_in_term Side c t) (body_uses c body) rest)
          (all_right (IsFine names) (uses_in_term Side c t) (body_uses c body) rest))
          (λ h. absurd (true≢false h))

    ruled_numbered : (h : Head) → AreFine names (uses_under names defined scope h body)
        → RuleIsNumbered v (ruled names scope xs h body)
    ruled_numbered (atom_head a) fine = atom_ruled a fine
    ruled_numbered (value_head a p t) fine = value_ruled a t (is_simple names scope t) refl fine

  pub rule_numbered : (defined : List Text) (r : Rule) → AreFine names (uses_in_rule names defined r)
      → RuleIsNumbered v (named_rule names r)
  rule_numbered defined (block.rule bs h body p) fine =
      let vars = flat_map (λ b. uses_of_vars [] (vars_bound b)) bs in
      let rest = uses_under names defined (rule_scope bs) h (written_body body) in
      ruled_numbered defined (rule_scope bs) (map (named_var names) (rule_vars bs))
      (length-map (rule_vars bs) var_text ∙ sym (length-map (rule_vars bs) (named_var names)))
      (lists_written bs (all_left (IsFine names) vars rest fine)) (written_body body) h
      (all_right (IsFine names) vars rest fine)
