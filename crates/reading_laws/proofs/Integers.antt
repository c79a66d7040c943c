-- A tree or a rule that is well typed is well typed over domains, where each integer that is an argument of a function
-- or of a head is an element of its position's type.
use Rattle.std.proofs.Common.{◌≡◌, ◌⊎◌, inl, inr, ℕ, ℤ, neg_ℤ, true, List, [], ◌∷◌, ◌++◌, Option, None, Some, subst}
use Rattle.std.specs.Prelude.{⊤, option_to_list, slice_get, IfSome}
use Rattle.std.specs.List.{AllByRecursion, flat_map}
use Rattle.kb_logic.specs.declared.vocabularies.Symbol.{Symbol}
use Rattle.kb_logic.specs.declared.vocabularies.Vocabulary.{Vocabulary}
use Rattle.kb_logic.specs.Trees.{TermTree, variable, integer, constructed, application, summation, product, aggregate}
use Rattle.kb_logic.specs.Trees.{TermTrees, no_terms, more_terms, SummandTrees, no_summands, more_summands, FormulaTree}
use Rattle.kb_logic.specs.Trees.{verum, falsum, atom, comparison, negation, conjunction, disjunction, implication}
use Rattle.kb_logic.specs.Trees.{equivalence, universal, existential, numbered, FormulaTrees, no_formulas}
use Rattle.kb_logic.specs.Trees.{more_formulas, terms_of, RuleTree}
use Rattle.kb_logic.specs.Bounds.{types_of}
use Rattle.kb_logic.specs.Typing.{IsIntegerSuch, TermIsTyped, ArgumentsAreTyped, PlacesAreTyped, FactorsAreTyped}
use Rattle.kb_logic.specs.Typing.{OperandsAreTyped, FormulaIsTyped, AllAreTyped}
use Rattle.stage_definitions.specs.Demands.{argument_types}
use Rattle.stage_definitions.specs.IntegerArguments.{Placed, placed, formula_integers, all_integers, term_integers}
use Rattle.stage_definitions.specs.IntegerArguments.{argument_integers, summand_integers, item_integers}
use Rattle.stage_definitions.specs.TheoryItems.{rule}
use Rattle.reading_laws.specs.WellTyped.{HeadIsTyped, RuleIsTyped}
use Rattle.reading_laws.proofs.Alls.{all_left, all_right}

-- ---- trees

module _ (v : Vocabulary) (I J : ℕ → ℤ → Type 0) where
  -- an integer at a position of a function is as J asks
  abbrev pub IsPlacedWell : Option Placed → Type 0
  IsPlacedWell None = ⊤
  IsPlacedWell (Some x) = J x.1 x.0

  abbrev pub ArePlacedWell : List (Option Placed) → Type 0
  ArePlacedWell os = AllByRecursion IsPlacedWell os

  front : (xs ys : List (Option Placed)) → ArePlacedWell (xs ++ ys) → ArePlacedWell xs
  front xs ys h = all_left IsPlacedWell xs ys h

  back : (xs ys : List (Option Placed)) → ArePlacedWell (xs ++ ys) → ArePlacedWell ys
  back xs ys h = all_right IsPlacedWell xs ys h

  itself : (position : Option ℕ) (t : TermTree) → ArePlacedWell (term_integers v.symbols position t)
      → IsPlacedWell (placed position t)
  itself position (variable n) h = h.0
  itself position (integer z) h = h.0
  itself position (constructed ty n) h = h.0
  itself position (application s ts) h = h.0
  itself position (summation ss) h = h.0
  itself position (product ts) h = h.0
  itself position (aggregate how bs f t) h = h.0

  integer_over : (ty : ℕ) (t : TermTree) → IsPlacedWell (placed (Some ty) t) → IsIntegerSuch (I ty) t
      → IsIntegerSuch (J ty) t
  integer_over ty t p h = by h.0 h.1
    where
      by : (z : ℤ) → ((t ≡ integer z) × I ty z) ⊎ ((t ≡ summation (more_summands true (integer z) no_summands))
          × I ty (neg_ℤ z)) → IsIntegerSuch (J ty) t
      by z (inl e) = (z, inl (e.0, subst (λ (u : TermTree). IsPlacedWell (placed (Some ty) u)) e.0 p))
      by z (inr e) = (z, inr (e.0, subst (λ (u : TermTree). IsPlacedWell (placed (Some ty) u)) e.0 p))

  mutual
    pub formula_over : (f : FormulaTree) (sc : List ℕ) → FormulaIsTyped v I f sc
        → ArePlacedWell (formula_integers v.symbols f) → FormulaIsTyped v J f sc
    formula_over verum sc h p = tt
    formula_over falsum sc h p = tt
    formula_over (atom s ts) sc h p = (h.0, h.1, h.2, places_over ts h.0.args sc h.3 p)
    formula_over (comparison c a b) sc h p = (
      term_over None a sc h.0 (front (term_integers v.symbols None a) (term_integers v.symbols None b) p),
      term_over None b sc h.1 (back (term_integers v.symbols None a) (term_integers v.symbols None b) p),
      h.2,
    )
    formula_over (negation f) sc h p = formula_over f sc h p
    formula_over (conjunction fs) sc h p = all_over fs sc h p
    formula_over (disjunction fs) sc h p = all_over fs sc h p
    formula_over (implication f g) sc h p = (
      formula_over f sc h.0 (front (formula_integers v.symbols f) (formula_integers v.symbols g) p),
      formula_over g sc h.1 (back (formula_integers v.symbols f) (formula_integers v.symbols g) p),
    )
    formula_over (equivalence f g) sc h p = (
      formula_over f sc h.0 (front (formula_integers v.symbols f) (formula_integers v.symbols g) p),
      formula_over g sc h.1 (back (formula_integers v.symbols f) (formula_integers v.symbols g) p),
    )
    formula_over (universal bs f) sc h p = (h.0, formula_over f (sc ++ types_of bs) h.1 p)
    formula_over (existential bs f) sc h p = (h.0, formula_over f (sc ++ types_of bs) h.1 p)
    formula_over (numbered c n bs f) sc h p = (h.0, formula_over f (sc ++ types_of bs) h.1 p)

    all_over : (fs : FormulaTrees) (sc : List ℕ) → AllAreTyped v I fs sc → ArePlacedWell (all_integers v.symbols fs)
        → AllAreTyped v J fs sc
    all_over no_formulas sc h p = tt
    all_over (more_formulas f fs) sc h p = (
      formula_over f sc h.0 (front (formula_integers v.symbols f) (all_integers v.symbols fs) p),
      all_over fs sc h.1 (back (formula_integers v.symbols f) (all_integers v.symbols fs) p),
    )

    pub term_over : (position : Option ℕ) (t : TermTree) (sc : List ℕ) → TermIsTyped v I t sc
        → ArePlacedWell (term_integers v.symbols position t) → TermIsTyped v J t sc
    term_over position (variable n) sc h p = h
    term_over position (integer z) sc h p = tt
    term_over position (constructed ty n) sc h p = h
    term_over position (application s ts) sc h p = (
      h.0,
      h.1,
      h.2,
      arguments_over ts h.0.args sc h.3
          (subst (λ (o : Option Symbol). ArePlacedWell (argument_integers v.symbols (argument_types o) ts)) h.1 p.1),
    )
    term_over position (summation ss) sc h p = operands_over ss sc h p.1
    term_over position (product ts) sc h p = factors_over ts sc h p.1
    term_over position (aggregate how bs f t) sc h p =
        let inner = sc ++ types_of bs in (
          h.0,
          formula_over f inner h.1 (front (formula_integers v.symbols f) (term_integers v.symbols None t) p.1),
          term_over None t inner h.2 (back (formula_integers v.symbols f) (term_integers v.symbols None t) p.1),
          h.3,
        )

    arguments_over : (ts : TermTrees) (types sc : List ℕ) → ArgumentsAreTyped v I ts types sc
        → ArePlacedWell (argument_integers v.symbols types ts) → ArgumentsAreTyped v J ts types sc
    arguments_over no_terms [] sc h p = tt
    arguments_over no_terms (ty ∷ types) sc h p = h
    arguments_over (more_terms t ts) [] sc h p = h
    arguments_over (more_terms t ts) (ty ∷ types) sc h p =
        let own = front (term_integers v.symbols (Some ty) t) (argument_integers v.symbols types ts) p in (
          term_over (Some ty) t sc h.0 own,
          elim h.1 [ inl e ↦ inl e | inr e ↦ inr (integer_over ty t (itself (Some ty) t own) e) ],
          arguments_over ts types sc h.2 (back (term_integers v.symbols (Some ty) t)
              (argument_integers v.symbols types ts) p),
        )

    places_over : (ts : TermTrees) (types sc : List ℕ) → PlacesAreTyped v I ts types sc
        → ArePlacedWell (argument_integers v.symbols [] ts) → PlacesAreTyped v J ts types sc
    places_over no_terms [] sc h p = tt
    places_over no_terms (ty ∷ types) sc h p = h
    places_over (more_terms t ts) [] sc h p = h
    places_over (more_terms t ts) (ty ∷ types) sc h p = (
      term_over None t sc h.0 (front (term_integers v.symbols None t) (argument_integers v.symbols [] ts) p),
      h.1,
      places_over ts types sc h.2 (back (term_integers v.symbols None t) (argument_integers v.symbols [] ts) p),
    )

    factors_over : (ts : TermTrees) (sc : List ℕ) → FactorsAreTyped v I ts sc
        → ArePlacedWell (argument_integers v.symbols [] ts) → FactorsAreTyped v J ts sc
    factors_over no_terms sc h p = tt
    factors_over (more_terms t ts) sc h p = (
      term_over None t sc h.0 (front (term_integers v.symbols None t) (argument_integers v.symbols [] ts) p),
      h.1,
      factors_over ts sc h.2 (back (term_integers v.symbols None t) (argument_integers v.symbols [] ts) p),
    )

    operands_over : (ss : SummandTrees) (sc : List ℕ) → OperandsAreTyped v I ss sc
        → ArePlacedWell (summand_integers v.symbols ss) → OperandsAreTyped v J ss sc
    operands_over no_summands sc h p = tt
    operands_over (more_summands m t ss) sc h p = (
      term_over None t sc h.0 (front (term_integers v.symbols None t) (summand_integers v.symbols ss) p),
      h.1,
      operands_over ss sc h.2 (back (term_integers v.symbols None t) (summand_integers v.symbols ss) p),
    )

  -- ---- rules

  value_over : (o : Option TermTree) (sc : List ℕ) → IfSome o (λ t. TermIsTyped v I t sc)
      → ArePlacedWell (flat_map (term_integers v.symbols None) (option_to_list o))
      → IfSome o (λ t. TermIsTyped v J t sc)
  value_over None sc h p = tt
  value_over (Some t) sc h p = term_over None t sc h (front (term_integers v.symbols None t) [] p)

  pub rule_over : (r : RuleTree) → RuleIsTyped v I r → ArePlacedWell (item_integers v.symbols (rule r))
      → RuleIsTyped v J r
  rule_over r h p =
      let sc = types_of r.vars in
      let d = h.head.0 in
      let head : HeadIsTyped v I r d = h.head.1 in
      let args = argument_integers v.symbols (argument_types (slice_get v.symbols r.symbol)) (terms_of r.args) in
      let value = flat_map (term_integers v.symbols None) (option_to_list r.value) in
      let body = formula_integers v.symbols r.body in
      let rest = back args (value ++ body) p in
      record {
        vars = h.vars;
        head = (
          d,
          record {
            symbol = head.symbol;
            args = arguments_over (terms_of r.args) d.args sc head.args
                (subst (λ (o : Option Symbol).
                ArePlacedWell (argument_integers v.symbols (argument_types o) (terms_of r.args))) head.symbol
                (front args (value ++ body) p));
            value = value_over r.value sc head.value (front value body rest);
            kind = head.kind;
            plain_args = head.plain_args;
            plain_value = head.plain_value;
          },
        );
        body = formula_over r.body sc h.body (back value body rest);
        unwritten = h.unwritten;
      }
