-- Where the stage of names refuses nothing, aggregates stand where they can be grounded.
use Rattle.std.proofs.Common.{◌≡◌, ℕ, pos, suc, Bool, true, false, not, nat_lt, if◌then◌else◌, List, [], ◌∷◌, ◌++◌}
use Rattle.std.proofs.Common.{filter, map, length, Option, Some, None, inl, inr, refl, sym, subst, arith}
use Rattle.std.specs.Prelude.{◌⊎◌, ⊤}
use Rattle.std.specs.List.{AllByRecursion, flat_map}
use Rattle.std.proofs.lemmas.Bool.{true≢false}
use Rattle.std.proofs.lemmas.Bool.Decides.{nat_tests}
use Rattle.kb_logic.specs.declared.syntax.AggKind.{AggKind}
use Rattle.kb_logic.specs.declared.syntax.AggKind.TheVariants as kind
use Rattle.kb_logic.specs.declared.vocabularies.Bound.{Bound}
use Rattle.kb_logic.specs.declared.vocabularies.Vocabulary.{Vocabulary}
use Rattle.kb_logic.specs.Trees.{TermTree, TermTrees, SummandTrees, FormulaTree}
use Rattle.kb_logic.specs.Trees as tree
use Rattle.grammar.specs.declared.terminal.Arrow.{Arrow}
use Rattle.grammar.specs.declared.terminal.Arrow.TheVariants as arrow
use Rattle.grammar.specs.declared.terminal.Adding.{Adding}
use Rattle.grammar.specs.Trees as raw
use Rattle.grammar.specs.Trees.{Vars, Formula, Links, Or, And, Unary, Prim, Term, Product, Factor, App, Terms}
use Rattle.grammar.specs.Trees.{Number}
use Rattle.stage_definitions.specs.Scopes.{Text}
use Rattle.stage_definitions.specs.Files.{Part, sentence, definition, TheoryBlock, TermBlock, File}
use Rattle.stage_definitions.specs.Names.{Meaning, undeclared, integers, naturals, a_type, predicate, function, made}
use Rattle.stage_definitions.specs.Names.{variable, Names, meaning_at, names_of, place_of_name}
use Rattle.grammar.specs.BlockTrees.{Head, atom_head, value_head, Rule, rule}
use Rattle.stage_definitions.specs.declared.standings.Standing.{Standing}
use Rattle.stage_definitions.specs.declared.standings.Standing.TheVariants.{Side, Summand, Elsewhere}
use Rattle.stage_definitions.specs.Standings.{kind_of, is_extremum, may_stand, scaled, in_sum, is_signed_integer}
use Rattle.stage_definitions.specs.Standings.{factors_in, is_scaled, in_product, is_extremum_factor, is_extremum_term}
use Rattle.stage_definitions.specs.Standings.{facing}
use Rattle.stage_definitions.specs.Uses as use_of
use Rattle.stage_definitions.specs.Uses.{Context, vars_in, uses_of_vars, within, in_scope, app_name, app_count}
use Rattle.stage_definitions.specs.Uses.{vars_bound, rule_vars, rule_scope, head_word, written_body, value_scope}
use Rattle.stage_definitions.specs.Uses.{arguments_in, argument_uses, is_simple, body_uses, uses_under, uses_in_rule}
use Rattle.stage_definitions.specs.Uses.{uses_in, uses_in_links, uses_in_or, uses_in_and, uses_in_unary, uses_in_prim}
use Rattle.stage_definitions.specs.Uses.{uses_in_term, uses_in_operands, uses_in_product, uses_in_factors}
use Rattle.stage_definitions.specs.Uses.{uses_in_factor, uses_in_arguments, uses_in_terms}
use Rattle.stage_definitions.specs.Uses.{uses_in_part, uses_in_theory, uses_in_block, uses_of_declarations}
use Rattle.stage_definitions.specs.NamesStage.{declarations_of}
use Rattle.stage_definitions.specs.Demands.{formula_parts}
use Rattle.stage_definitions.specs.NamedTrees.{truth, NamedVar, NamedTerm, at, NamedTerms, NamedSummands, NamedFormula}
use Rattle.stage_definitions.specs.NamedTrees.{NamedFormulas, begun_at, integer, more_summands}
use Rattle.stage_definitions.specs.Numbering.{named_vars, counted_by, implies, implied_by, equivalent, grouped, node_of}
use Rattle.stage_definitions.specs.Numbering.{named_formula, named_links, named_or, disjuncts, named_and, conjuncts}
use Rattle.stage_definitions.specs.Numbering.{named_unary, named_prim, named_term, summands, named_product, factors}
use Rattle.stage_definitions.specs.Numbering.{named_factor, named_arguments, named_terms, sentences_in, named_theory}
use Rattle.stage_definitions.specs.Numbering.{NamedTheoryTree, named_var, named_body, valued_body, valued_rule, ruled}
use Rattle.stage_definitions.specs.Numbering.{named_rule, definitions_in, is_minus}
use Rattle.stage_definitions.specs.Numbering.{named_block, NamedFile, named_file, vocabulary_name, IsNamed}
use Rattle.stage_definitions.specs.TypedTrees.{aggregate_parts, inside, typed_formula, typed_formulas, typed_term}
use Rattle.stage_definitions.specs.TypedTrees.{typed_terms, typed_summands, typed_vars}
use Rattle.term_values.specs.GroundTerms.{TermHasNoCounting, TermsHaveNoCounting, SummandsHaveNoCounting}
use Rattle.def_ground.specs.Counting.{has_aggregate, have_aggregates, sum_has_aggregate}
use Rattle.def_ground.specs.GroundForms.{IsAdding, MayStand, IsSignedInteger, AreSignedIntegers, IsPlaced, ArePlaced}
use Rattle.def_ground.specs.GroundForms.{IsSide, IsSummand, AreSummands, IsOneSummand}
use Rattle.reading_laws.proofs.Alls.{all_left, all_right}
use Rattle.reading_laws.proofs.Meanings.{IsFine, AreFine}
use Rattle.reading_laws.proofs.Derived.{names_fine}

-- ---- terms without aggregates may stand everywhere

mutual
  plain_summand : (t : TermTree) → TermHasNoCounting t → IsSummand t
  plain_summand (tree.variable n) h = tt
  plain_summand (tree.integer z) h = tt
  plain_summand (tree.constructed ty n) h = tt
  plain_summand (tree.application s ts) h = h
  plain_summand (tree.summation ss) h = plain_summands ss h
  plain_summand (tree.product ts) h = inl h
  plain_summand (tree.aggregate k bs f t) h = absurd h

  plain_summands : (ss : SummandTrees) → SummandsHaveNoCounting ss → AreSummands ss
  plain_summands tree.no_summands h = tt
  plain_summands (tree.more_summands m t ss) h = (plain_summand t h.0, plain_summands ss h.1)

plain_side : (other : Bool) (t : TermTree) → TermHasNoCounting t → IsSide other t
plain_side other (tree.variable n) h = tt
plain_side other (tree.integer z) h = tt
plain_side other (tree.constructed ty n) h = tt
plain_side other (tree.application s ts) h = h
plain_side other (tree.summation ss) h = plain_summands ss h
plain_side other (tree.product ts) h = inl h
plain_side other (tree.aggregate k bs f t) h = absurd h

mutual
  has_none : (t : TermTree) → TermHasNoCounting t → has_aggregate t ≡ false
  has_none (tree.variable n) h = refl
  has_none (tree.integer z) h = refl
  has_none (tree.constructed ty n) h = refl
  has_none (tree.application s ts) h = have_none ts h
  has_none (tree.summation ss) h = sum_has_none ss h
  has_none (tree.product ts) h = have_none ts h
  has_none (tree.aggregate k bs f t) h = absurd h

  have_none : (ts : TermTrees) → TermsHaveNoCounting ts → have_aggregates ts ≡ false
  have_none tree.no_terms h = refl
  have_none (tree.more_terms t ts) h = rw (has_none t h.0) (have_none ts h.1)

  sum_has_none : (ss : SummandTrees) → SummandsHaveNoCounting ss → sum_has_aggregate ss ≡ false
  sum_has_none tree.no_summands h = refl
  sum_has_none (tree.more_summands m t ss) h = rw (has_none t h.0) (sum_has_none ss h.1)

-- ---- what the standing of a term promises of its tree

-- a side that is a `min` or `max` stands where the other side has no aggregate
abbrev Stands : Standing → (extremum : Bool) → TermTree → Type 0
Stands Side extremum t = (other : Bool) → (extremum ≡ true → other ≡ false) → IsSide other t
Stands Summand extremum t = IsSummand t
Stands Elsewhere extremum t = TermHasNoCounting t

-- no operand of a sum of several, and no factor of a product, stands as a side
abbrev OperandsStand : Standing → SummandTrees → Type 0
OperandsStand Side ss = ⊤
OperandsStand Summand ss = AreSummands ss
OperandsStand Elsewhere ss = SummandsHaveNoCounting ss

abbrev AreEachSummands : TermTrees → Type 0
AreEachSummands tree.no_terms = ⊤
AreEachSummands (tree.more_terms t ts) = IsSummand t × AreEachSummands ts

abbrev FactorsStand : Standing → TermTrees → Type 0
FactorsStand Side ts = ⊤
FactorsStand Summand ts = AreEachSummands ts
FactorsStand Elsewhere ts = TermsHaveNoCounting ts

plain_stands : (s : Standing) (e : Bool) (t : TermTree) → TermHasNoCounting t → Stands s e t
plain_stands Side e t h = λ other only. plain_side other t h
plain_stands Summand e t h = plain_summand t h
plain_stands Elsewhere e t h = h

no_operand : (s : Standing) → OperandsStand s tree.no_summands
no_operand Side = tt
no_operand Summand = tt
no_operand Elsewhere = tt

operand_more : (s : Standing) (e m : Bool) (t : TermTree) (ss : SummandTrees) → Stands s e t → OperandsStand s ss
    → OperandsStand s (tree.more_summands m t ss)
operand_more Side e m t ss h hs = tt
operand_more Summand e m t ss h hs = (h, hs)
operand_more Elsewhere e m t ss h hs = (h, hs)

no_factor : (s : Standing) → FactorsStand s tree.no_terms
no_factor Side = tt
no_factor Summand = tt
no_factor Elsewhere = tt

factor_more : (s : Standing) (e : Bool) (t : TermTree) (ts : TermTrees) → Stands s e t → FactorsStand s ts
    → FactorsStand s (tree.more_terms t ts)
factor_more Side e t ts h hs = tt
factor_more Summand e t ts h hs = (h, hs)
factor_more Elsewhere e t ts h hs = (h, hs)

sum_stands : (s : Standing) (e : Bool) (ss : SummandTrees) → OperandsStand (in_sum s) ss
    → Stands s e (tree.summation ss)
sum_stands Side e ss h = λ other only. h
sum_stands Summand e ss h = plain_summands ss h
sum_stands Elsewhere e ss h = h

minus_stands : (s : Standing) (e d : Bool) (t : TermTree) → Stands (scaled s) e t
    → Stands s d (tree.summation (tree.more_summands true t tree.no_summands))
minus_stands Side e d t h = λ other only. (h, tt)
minus_stands Summand e d t h = (h, tt)
minus_stands Elsewhere e d t h = (h, tt)

-- where at most one factor is no integer, there is one such summand among integers
scaled_stands : (s : Standing) (e : Bool) (ts : TermTrees) → (AreEachSummands ts → IsOneSummand ts)
    → FactorsStand (scaled s) ts → Stands s e (tree.product ts)
scaled_stands Side e ts one h = λ other only. inr (one h)
scaled_stands Summand e ts one h = inr (one h)
scaled_stands Elsewhere e ts one h = h

product_stands : (s : Standing) (e b : Bool) (ts : TermTrees) → (b ≡ true → AreEachSummands ts → IsOneSummand ts)
    → FactorsStand (if b then scaled s else Elsewhere) ts → Stands s e (tree.product ts)
product_stands s e true ts one h = scaled_stands s e ts (one refl) h
product_stands s e false ts one h = plain_stands s e (tree.product ts) h

may_be : (k : AggKind) (other : Bool) → (is_extremum k ≡ true → other ≡ false) → MayStand other k
may_be kind.Count other h = tt
may_be kind.Sum other h = tt
may_be kind.Min other h = h refl
may_be kind.Max other h = h refl

is_adding : (k : AggKind) → not (not (is_extremum k)) ≡ false → IsAdding k
is_adding kind.Count h = tt
is_adding kind.Sum h = tt
is_adding kind.Min h = absurd (true≢false h)
is_adding kind.Max h = absurd (true≢false h)

aggregate_stands : (s : Standing) (k : AggKind) (bs : List Bound) (f : FormulaTree) (t : TermTree)
    → not (may_stand s k) ≡ false → IsPlaced f → TermHasNoCounting t → Stands s (is_extremum k) (tree.aggregate k bs f t)
aggregate_stands Side k bs f t h placed plain = λ other only. (may_be k other only, placed, plain)
aggregate_stands Summand k bs f t h placed plain = (is_adding k h, placed, plain)
aggregate_stands Elsewhere k bs f t h placed plain = absurd (true≢false h)

-- the sides of a comparison
sides_stand : (x y : TermTree) (d e : Bool) → Stands (if e then Elsewhere else Side) d x
    → Stands (if d then Elsewhere else Side) e y → IsSide (has_aggregate y) x × IsSide (has_aggregate x) y
sides_stand x y true true h k = (plain_side (has_aggregate y) x h, plain_side (has_aggregate x) y k)
sides_stand x y false true h k = (plain_side (has_aggregate y) x h, k (has_aggregate x) (λ one. has_none x h))
sides_stand x y true false h k = (h (has_aggregate y) (λ one. has_none y k), plain_side (has_aggregate x) y k)
sides_stand x y false false h k = (
  h (has_aggregate y) (λ one. absurd (true≢false (sym one))),
  k (has_aggregate x) (λ one. absurd (true≢false (sym one))),
)

-- ---- factors that are no integers

abbrev others_in : Product → ℕ
others_in q = length (filter (λ f. not (is_signed_integer f)) (factors_in q))

-- of fewer than so many others, the first factor is one or not
first_of : (b : Bool) (f : Factor) (gs : List Factor) (n : ℕ)
    → nat_lt (length (if not b then f ∷ gs else gs)) (suc n) ≡ true
    → ((b ≡ true) × (nat_lt (length gs) (suc n) ≡ true)) ⊎ ((b ≡ false) × (nat_lt (length gs) n ≡ true))
first_of true f gs n h = inl (refl, h)
first_of false f gs n h = inr (refl, grind (arith, nat_tests))

none_fewer : (n : ℕ) → nat_lt n 0 ≡ true → ⊥
none_fewer n h = grind (arith, nat_tests)

extremum_in_brackets : (p : ℕ) (t : Term) (q : ℕ) → is_extremum_factor (raw.brackets p t q) ≡ is_extremum_term t
extremum_in_brackets p (raw.product (raw.factor f)) q = refl
extremum_in_brackets p (raw.product (raw.times f r g)) q = refl
extremum_in_brackets p (raw.sum g a r t) q = refl

-- ---- trees, whatever types the variables in scope have

module _ (v : Vocabulary) where
  abbrev pub IsWellPlaced : NamedFormula → Type 0
  IsWellPlaced f = (around : List (Option ℕ)) → IsPlaced (typed_formula v around f)

  abbrev AreWellPlaced : NamedFormulas → Type 0
  AreWellPlaced fs = (around : List (Option ℕ)) → ArePlaced (typed_formulas v around fs)

  abbrev IsPlainTerm : NamedTerm → Type 0
  IsPlainTerm t = (around : List (Option ℕ)) → TermHasNoCounting (typed_term v around t)

  abbrev ArePlainTerms : NamedTerms → Type 0
  ArePlainTerms ts = (around : List (Option ℕ)) → TermsHaveNoCounting (typed_terms v around ts)

  -- a term that may be asked for
  abbrev pub IsAskable : NamedTerm → Type 0
  IsAskable t = (around : List (Option ℕ)) → IsSide false (typed_term v around t)

  -- sentences, and the bodies of rules
  pub record IsPlacedTheory (t : NamedTheoryTree) : Type 0 where
    pub sentences : AllByRecursion IsWellPlaced t.sentences
    pub definitions : AllByRecursion (λ rs. AllByRecursion (λ r. IsWellPlaced r.body) rs) t.definitions

  -- ---- chains of connectives

  implies_placed : (f : NamedFormula) (gs : List NamedFormula) → IsWellPlaced f → AllByRecursion IsWellPlaced gs
      → IsWellPlaced (implies f gs)
  implies_placed f [] h hs = h
  implies_placed f (g ∷ gs) h hs = λ around. (h around, implies_placed g gs hs.0 hs.1 around)

  implied_by_placed : (f : NamedFormula) (gs : List NamedFormula) → IsWellPlaced f → AllByRecursion IsWellPlaced gs
      → IsWellPlaced (implied_by f gs)
  implied_by_placed f [] h hs = h
  implied_by_placed f (g ∷ gs) h hs = implied_by_placed _ gs (λ around. (hs.0 around, h around)) hs.1

  equivalent_placed : (f : NamedFormula) (gs : List NamedFormula) → IsWellPlaced f → AllByRecursion IsWellPlaced gs
      → IsWellPlaced (equivalent f gs)
  equivalent_placed f [] h hs = h
  equivalent_placed f (g ∷ gs) h hs = equivalent_placed _ gs (λ around. (h around, hs.0 around)) hs.1

  grouped_placed : (a : Arrow) (f : NamedFormula) (gs : List NamedFormula) → IsWellPlaced f → AllByRecursion IsWellPlaced gs
      → IsWellPlaced (grouped a f gs)
  grouped_placed arrow.Implies f gs h hs = implies_placed f gs h hs
  grouped_placed arrow.ImpliedBy f gs h hs = implied_by_placed f gs h hs
  grouped_placed arrow.Equivalent f gs h hs = equivalent_placed f gs h hs

  -- ---- words and brackets

  truth_placed : (b : Bool) → IsWellPlaced (truth b)
  truth_placed true around = tt
  truth_placed false around = tt

  node_plain : (p : ℕ) (m : Meaning) (us : NamedTerms) → ArePlainTerms us → IsPlainTerm (at p (node_of m us))
  node_plain p undeclared us h = h
  node_plain p integers us h = h
  node_plain p naturals us h = h
  node_plain p (a_type t) us h = h
  node_plain p (predicate s n) us h = h
  node_plain p (function s n) us h = h
  node_plain p (made t i) us h = λ around. tt
  node_plain p (variable level) us h = λ around. tt

  -- the place of a term is no part of its tree
  begun : (P : TermTree → Type 0) (around : List (Option ℕ)) (p : ℕ) (t : NamedTerm) → P (typed_term v around t)
      → P (typed_term v around (begun_at p t))
  begun P around p (at q x) h = h

  counted_placed : (n : Number) (xs : List NamedVar) (f : NamedFormula) → IsWellPlaced f
      → IsWellPlaced (counted_by n xs f)
  counted_placed raw.any xs f h = λ around. h (inside v.types around xs (formula_parts v.symbols f))
  counted_placed (raw.exactly n q) xs f h = λ around. h (inside v.types around xs (formula_parts v.symbols f))
  counted_placed (raw.compared c q n r) xs f h = λ around. h (inside v.types around xs (formula_parts v.symbols f))

  module _ (names : Names) where
    -- ---- products

    signed : (scope : List Text) (around : List (Option ℕ)) (f : Factor) → is_signed_integer f ≡ true
        → IsSignedInteger (typed_term v around (named_factor names scope f))
    signed scope around (raw.integer n p) h = tt
    signed scope around (raw.value a) h = absurd (true≢false (sym h))
    signed scope around (raw.brackets p (raw.product (raw.factor f)) q) h =
        begun IsSignedInteger around p (named_factor names scope f) (signed scope around f h)
    signed scope around (raw.brackets p (raw.product (raw.times f r g)) q) h = absurd (true≢false (sym h))
    signed scope around (raw.brackets p (raw.sum g a r t) q) h = absurd (true≢false (sym h))
    signed scope around (raw.negative p f) h = signed scope around f h
    signed scope around (raw.count p b vs q f r) h = absurd (true≢false (sym h))
    signed scope around (raw.aggregate how p b vs q f r t e) h = absurd (true≢false (sym h))

    all_signed : (scope : List Text) (around : List (Option ℕ)) (q : Product) → nat_lt (others_in q) 1 ≡ true
        → AreSignedIntegers (typed_terms v around (factors names scope q))
    all_signed scope around (raw.factor f) h = elim (first_of (is_signed_integer f) f [] 0 h) [
      | inl one ↦ (signed scope around f one.0, tt)
      | inr other ↦ absurd (none_fewer 0 other.1)
    ]
    all_signed scope around (raw.times f p q) h =
        elim (first_of (is_signed_integer f) f (filter (λ g. not (is_signed_integer g)) (factors_in q)) 0 h) [
          | inl one ↦ (signed scope around f one.0, all_signed scope around q one.1)
          | inr other ↦ absurd (none_fewer (others_in q) other.1)
        ]

    one_summand : (scope : List Text) (around : List (Option ℕ)) (q : Product) → is_scaled q ≡ true
        → AreEachSummands (typed_terms v around (factors names scope q))
        → IsOneSummand (typed_terms v around (factors names scope q))
    one_summand scope around (raw.factor f) h each = inl (each.0, tt)
    one_summand scope around (raw.times f p q) h each =
        elim (first_of (is_signed_integer f) f (filter (λ g. not (is_signed_integer g)) (factors_in q)) 1 h) [
          | inl one ↦ inr (signed scope around f one.0, one_summand scope around q one.1 each.1)
          | inr other ↦ inl (each.0, all_signed scope around q other.1)
        ]

    -- ---- formulas and terms

    -- a term that stands so
    abbrev TermStands : Standing → Bool → NamedTerm → Type 0
    TermStands s e t = (around : List (Option ℕ)) → Stands s e (typed_term v around t)

    abbrev SummandsStand : Standing → NamedSummands → Type 0
    SummandsStand s ss = (around : List (Option ℕ)) → OperandsStand s (typed_summands v around ss)

    abbrev AllStand : Standing → NamedTerms → Type 0
    AllStand s ts = (around : List (Option ℕ)) → FactorsStand s (typed_terms v around ts)

    mutual
      pub formula_placed : (c : Context) (f : Formula) → AreFine names (uses_in c f)
          → IsWellPlaced (named_formula names c.scope f)
      formula_placed c (raw.alone o) fine = or_placed c o fine
      formula_placed c (raw.linked a o p ls) fine =
          grouped_placed a (named_or names c.scope o) (named_links names c.scope ls)
          (or_placed c o (all_left (IsFine names) (uses_in_or c o) (uses_in_links c ls) fine))
          (links_placed c ls (all_right (IsFine names) (uses_in_or c o) (uses_in_links c ls) fine))

      links_placed : (c : Context) (ls : Links) → AreFine names (uses_in_links c ls)
          → AllByRecursion IsWellPlaced (named_links names c.scope ls)
      links_placed c (raw.last o) fine = (or_placed c o fine, tt)
      links_placed c (raw.link o p ls) fine = (
        or_placed c o (all_left (IsFine names) (uses_in_or c o) (uses_in_links c ls) fine),
        links_placed c ls (all_right (IsFine names) (uses_in_or c o) (uses_in_links c ls) fine),
      )

      or_placed : (c : Context) (o : Or) → AreFine names (uses_in_or c o)
          → IsWellPlaced (named_or names c.scope o)
      or_placed c (raw.one a) fine = and_placed c a fine
      or_placed c (raw.or a p o) fine = λ around. (
        and_placed c a (all_left (IsFine names) (uses_in_and c a) (uses_in_or c o) fine) around,
        disjuncts_placed c o (all_right (IsFine names) (uses_in_and c a) (uses_in_or c o) fine) around,
      )

      disjuncts_placed : (c : Context) (o : Or) → AreFine names (uses_in_or c o)
          → AreWellPlaced (disjuncts names c.scope o)
      disjuncts_placed c (raw.one a) fine = λ around. (and_placed c a fine around, tt)
      disjuncts_placed c (raw.or a p o) fine = λ around. (
        and_placed c a (all_left (IsFine names) (uses_in_and c a) (uses_in_or c o) fine) around,
        disjuncts_placed c o (all_right (IsFine names) (uses_in_and c a) (uses_in_or c o) fine) around,
      )

      and_placed : (c : Context) (a : And) → AreFine names (uses_in_and c a)
          → IsWellPlaced (named_and names c.scope a)
      and_placed c (raw.single u) fine = unary_placed c u fine
      and_placed c (raw.and u p a) fine = λ around. (
        unary_placed c u (all_left (IsFine names) (uses_in_unary c u) (uses_in_and c a) fine) around,
        conjuncts_placed c a (all_right (IsFine names) (uses_in_unary c u) (uses_in_and c a) fine) around,
      )

      conjuncts_placed : (c : Context) (a : And) → AreFine names (uses_in_and c a)
          → AreWellPlaced (conjuncts names c.scope a)
      conjuncts_placed c (raw.single u) fine = λ around. (unary_placed c u fine around, tt)
      conjuncts_placed c (raw.and u p a) fine = λ around. (
        unary_placed c u (all_left (IsFine names) (uses_in_unary c u) (uses_in_and c a) fine) around,
        conjuncts_placed c a (all_right (IsFine names) (uses_in_unary c u) (uses_in_and c a) fine) around,
      )

      unary_placed : (c : Context) (u : Unary) → AreFine names (uses_in_unary c u)
          → IsWellPlaced (named_unary names c.scope u)
      unary_placed c (raw.not p u) fine = unary_placed c u fine
      unary_placed c (raw.every p vs q f) fine = λ around.
          formula_placed (use_of.inside c vs) f (all_right (IsFine names) (uses_of_vars [] (vars_in vs))
          (uses_in (use_of.inside c vs) f) fine)
          (inside v.types around (named_vars names vs) (formula_parts v.symbols
          (named_formula names (within c.scope vs) f)))
      unary_placed c (raw.some p n vs q f) fine =
          let inner = uses_in (use_of.inside c vs) f in
          counted_placed n (named_vars names vs) (named_formula names (within c.scope vs) f)
          (formula_placed (use_of.inside c vs) f (all_right (IsFine names) (uses_of_vars [] (vars_in vs)) inner fine))
      unary_placed c (raw.prim x) fine = prim_placed c x fine

      prim_placed : (c : Context) (x : Prim) → AreFine names (uses_in_prim c x)
          → IsWellPlaced (named_prim names c.scope x)
      prim_placed c (raw.group p f q) fine = formula_placed c f fine
      prim_placed c (raw.truth b p) fine = truth_placed b
      prim_placed c (raw.atom a) fine = arguments_plain c a fine.1
      prim_placed c (raw.compare x k p y) fine = λ around.
          let us = uses_in_term (facing y) c x in
          let ws = uses_in_term (facing x) c y in
          sides_stand (typed_term v around (named_term names c.scope x)) (typed_term v around (named_term names c.scope y))
          (is_extremum_term x) (is_extremum_term y)
          (term_placed (facing y) c x (all_left (IsFine names) us ws fine) around)
          (term_placed (facing x) c y (all_right (IsFine names) us ws fine) around)

      pub term_placed : (s : Standing) (c : Context) (t : Term) → AreFine names (uses_in_term s c t)
          → TermStands s (is_extremum_term t) (named_term names c.scope t)
      term_placed s c (raw.product p) fine = product_placed s c p fine
      term_placed s c (raw.sum p a q t) fine = λ around.
          let i = in_sum s in
          let us = uses_in_product i c p in
          let ws = uses_in_operands i c t in
          sum_stands s false (typed_summands v around (more_summands false (named_product names c.scope p)
          (summands names c.scope a t)))
          (operand_more i (is_extremum_term (raw.product p)) false (typed_term v around (named_product names c.scope p))
          (typed_summands v around (summands names c.scope a t))
          (product_placed i c p (all_left (IsFine names) us ws fine) around)
          (summands_placed i c a t (all_right (IsFine names) us ws fine) around))

      summands_placed : (s : Standing) (c : Context) (a : Adding) (t : Term) → AreFine names (uses_in_operands s c t)
          → SummandsStand s (summands names c.scope a t)
      summands_placed s c a (raw.product p) fine = λ around.
          operand_more s (is_extremum_term (raw.product p)) (is_minus a)
          (typed_term v around (named_product names c.scope p)) tree.no_summands (product_placed s c p fine around)
          (no_operand s)
      summands_placed s c a (raw.sum p b q t) fine = λ around.
          let us = uses_in_product s c p in
          let ws = uses_in_operands s c t in
          operand_more s (is_extremum_term (raw.product p)) (is_minus a)
          (typed_term v around (named_product names c.scope p)) (typed_summands v around (summands names c.scope b t))
          (product_placed s c p (all_left (IsFine names) us ws fine) around)
          (summands_placed s c b t (all_right (IsFine names) us ws fine) around)

      product_placed : (s : Standing) (c : Context) (p : Product) → AreFine names (uses_in_product s c p)
          → TermStands s (is_extremum_term (raw.product p)) (named_product names c.scope p)
      product_placed s c (raw.factor f) fine = factor_placed s c f fine
      product_placed s c (raw.times f p q) fine = λ around.
          let i = in_product s (raw.times f p q) in
          let us = uses_in_factor i c f in
          let ws = uses_in_factors i c q in
          product_stands s false (is_scaled (raw.times f p q))
          (typed_terms v around (factors names c.scope (raw.times f p q)))
          (one_summand c.scope around (raw.times f p q))
          (factor_more i (is_extremum_factor f) (typed_term v around (named_factor names c.scope f))
          (typed_terms v around (factors names c.scope q))
          (factor_placed i c f (all_left (IsFine names) us ws fine) around)
          (factors_placed i c q (all_right (IsFine names) us ws fine) around))

      factors_placed : (s : Standing) (c : Context) (q : Product) → AreFine names (uses_in_factors s c q)
          → AllStand s (factors names c.scope q)
      factors_placed s c (raw.factor f) fine = λ around.
          factor_more s (is_extremum_factor f) (typed_term v around (named_factor names c.scope f)) tree.no_terms
          (factor_placed s c f fine around) (no_factor s)
      factors_placed s c (raw.times f p q) fine = λ around.
          let us = uses_in_factor s c f in
          let ws = uses_in_factors s c q in
          factor_more s (is_extremum_factor f) (typed_term v around (named_factor names c.scope f))
          (typed_terms v around (factors names c.scope q))
          (factor_placed s c f (all_left (IsFine names) us ws fine) around)
          (factors_placed s c q (all_right (IsFine names) us ws fine) around)

      factor_placed : (s : Standing) (c : Context) (f : Factor) → AreFine names (uses_in_factor s c f)
          → TermStands s (is_extremum_factor f) (named_factor names c.scope f)
      factor_placed s c (raw.integer n p) fine = λ around.
          plain_stands s false (typed_term v around (named_factor names c.scope (raw.integer n p))) tt
      factor_placed s c (raw.value a) fine = λ around.
          plain_stands s false (typed_term v around (named_factor names c.scope (raw.value a)))
          (node_plain (place_of_name (app_name a)) (meaning_at names c.scope (app_name a) (app_count a))
          (named_arguments names c.scope a) (arguments_plain c a fine.1) around)
      factor_placed s c (raw.brackets p t q) fine = λ around.
          begun (Stands s (is_extremum_factor (raw.brackets p t q))) around p (named_term names c.scope t)
          (subst (λ e. Stands s e (typed_term v around (named_term names c.scope t)))
          (sym (extremum_in_brackets p t q)) (term_placed s c t fine around))
      factor_placed s c (raw.negative p f) fine = λ around.
          minus_stands s (is_extremum_factor f) false (typed_term v around (named_factor names c.scope f))
          (factor_placed (scaled s) c f fine around)
      factor_placed s c (raw.count p b vs q f r) fine = λ around.
          let xs = named_vars names vs in
          let g = named_formula names (within c.scope vs) f in
          let ps = aggregate_parts v.symbols g (at p (integer 1)) in
          aggregate_stands s kind.Count (typed_vars v.types around xs ps)
          (typed_formula v (inside v.types around xs ps) g) (tree.integer (pos 1)) fine.0.supported
          (formula_placed (use_of.inside c vs) f (all_right (IsFine names) (uses_of_vars [] (vars_in vs))
          (uses_in (use_of.inside c vs) f) fine.1) (inside v.types around xs ps)) tt
      factor_placed s c (raw.aggregate how p b vs q f r t e) fine = λ around.
          let i = use_of.inside c vs in
          let xs = named_vars names vs in
          let g = named_formula names (within c.scope vs) f in
          let w = named_term names (within c.scope vs) t in
          let ps = aggregate_parts v.symbols g w in
          let us = uses_in_term Elsewhere i t in
          let inner = all_right (IsFine names) (uses_of_vars [] (vars_in vs)) (uses_in i f ++ us) fine.1 in
          aggregate_stands s (kind_of how) (typed_vars v.types around xs ps)
          (typed_formula v (inside v.types around xs ps) g) (typed_term v (inside v.types around xs ps) w)
          fine.0.supported
          (formula_placed i f (all_left (IsFine names) (uses_in i f) us inner) (inside v.types around xs ps))
          (term_placed Elsewhere i t (all_right (IsFine names) (uses_in i f) us inner) (inside v.types around xs ps))

      arguments_plain : (c : Context) (a : App) → AreFine names (uses_in_arguments c a)
          → ArePlainTerms (named_arguments names c.scope a)
      arguments_plain c (raw.constant n) fine = λ around. tt
      arguments_plain c (raw.empty n p q) fine = λ around. tt
      arguments_plain c (raw.apply n p ts q) fine = terms_plain c ts fine

      terms_plain : (c : Context) (ts : Terms) → AreFine names (uses_in_terms c ts)
          → ArePlainTerms (named_terms names c.scope ts)
      terms_plain c (raw.final t) fine = λ around. (term_placed Elsewhere c t fine around, tt)
      terms_plain c (raw.then t p ts) fine = λ around.
          let us = uses_in_term Elsewhere c t in
          let ws = uses_in_terms c ts in (
            term_placed Elsewhere c t (all_left (IsFine names) us ws fine) around,
            terms_plain c ts (all_right (IsFine names) us ws fine) around,
          )

    -- ---- rules

    body_placed : (c : Context) (body : Option Formula) → AreFine names (body_uses c body)
        → IsWellPlaced (named_body names c.scope body)
    body_placed c None fine = truth_placed true
    body_placed c (Some f) fine = formula_placed c f fine

    abbrev around_body : List Text → List Text → Bool → Context
    around_body defined scope b = record { scope = value_scope scope b; defined = defined }

    -- the value of a head, which stands opposite a variable
    value_side : (c : Context) (t : Term) → AreFine names (uses_in_term Side c t) → (around : List (Option ℕ))
        → IsSide false (typed_term v around (named_term names c.scope t))
    value_side c t fine around = term_placed Side c t fine around false (λ one. refl)

    -- an aggregate of the value itself stands opposite none
    valued_placed : (c : Context) (n : ℕ) (t : Term) (body : Option Formula)
        → AreFine names (uses_in_term Side c t ++ body_uses c body) → IsWellPlaced (valued_body names c.scope n t body)
    valued_placed c n t None fine =
        λ around. (tt, value_side c t (all_left (IsFine names) (uses_in_term Side c t) [] fine) around)
    valued_placed c n t (Some f) fine = λ around. (
      (tt, value_side c t (all_left (IsFine names) (uses_in_term Side c t) (uses_in c f) fine) around),
      (formula_placed c f (all_right (IsFine names) (uses_in_term Side c t) (uses_in c f) fine) around, tt),
    )

    value_placed : (defined scope : List Text) (xs : List NamedVar) (a : App) (t : Term) (body : Option Formula)
        (b : Bool)
        → AreFine names (uses_in_term Side (around_body defined scope b) t ++ body_uses (around_body defined scope b) body)
        → IsWellPlaced (valued_rule names scope xs a t body b).body
    value_placed defined scope xs a t body true fine =
        let c = around_body defined scope true in
        body_placed c body (all_right (IsFine names) (uses_in_term Side c t) (body_uses c body) fine)
    value_placed defined scope xs a t body false fine =
        valued_placed (around_body defined scope false) (length xs) t body fine

    ruled_placed : (defined scope : List Text) (xs : List NamedVar) (h : Head) (body : Option Formula)
        → AreFine names (uses_under names defined scope h body) → IsWellPlaced (ruled names scope xs h body).body
    ruled_placed defined scope xs (atom_head a) body fine =
        let c : Context = record { scope = scope; defined = defined } in
        body_placed c body
        (all_right (IsFine names) (flat_map (argument_uses scope) (arguments_in a)) (body_uses c body) fine.1)
    ruled_placed defined scope xs (value_head a p t) body fine =
        let b = is_simple names scope t in
        let c = around_body defined scope b in
        value_placed defined scope xs a t body b
        (all_right (IsFine names) (flat_map (argument_uses scope) (arguments_in a))
        (uses_in_term Side c t ++ body_uses c body) fine.1)

    rule_placed : (defined : List Text) (r : Rule) → AreFine names (uses_in_rule names defined r)
        → IsWellPlaced (named_rule names r).body
    rule_placed defined (rule bs h body p) fine =
        ruled_placed defined (rule_scope bs) (map (named_var names) (rule_vars bs)) h (written_body body)
        (all_right (IsFine names) (flat_map (λ b. uses_of_vars [] (vars_bound b)) bs)
        (uses_under names defined (rule_scope bs) h (written_body body)) fine)

    rules_placed : (defined : List Text) (rs : List Rule) → AreFine names (flat_map (uses_in_rule names defined) rs)
        → AllByRecursion (λ r. IsWellPlaced r.body) (map (named_rule names) rs)
    rules_placed defined [] fine = tt
    rules_placed defined (r ∷ rs) fine =
        let first = uses_in_rule names defined r in
        let later = flat_map (uses_in_rule names defined) rs in (
          rule_placed defined r (all_left (IsFine names) first later fine),
          rules_placed defined rs (all_right (IsFine names) first later fine),
        )

    -- ---- theories and term blocks

    parts_placed : (ps : List Part) → AreFine names (flat_map (uses_in_part names) ps)
        → AllByRecursion IsWellPlaced (flat_map (sentences_in names) ps)
    parts_placed [] fine = tt
    parts_placed (sentence f ∷ ps) fine =
        let first = uses_in (in_scope []) f in
        let later = flat_map (uses_in_part names) ps in (
          formula_placed (in_scope []) f (all_left (IsFine names) first later fine),
          parts_placed ps (all_right (IsFine names) first later fine),
        )
    parts_placed (definition rs ∷ ps) fine =
        parts_placed ps
        (all_right (IsFine names) (uses_in_part names (definition rs)) (flat_map (uses_in_part names) ps) fine)

    definitions_placed : (ps : List Part) → AreFine names (flat_map (uses_in_part names) ps)
        → AllByRecursion (λ rs. AllByRecursion (λ r. IsWellPlaced r.body) rs) (flat_map (definitions_in names) ps)
    definitions_placed [] fine = tt
    definitions_placed (sentence f ∷ ps) fine =
        definitions_placed ps
        (all_right (IsFine names) (uses_in (in_scope []) f) (flat_map (uses_in_part names) ps) fine)
    definitions_placed (definition rs ∷ ps) fine =
        let first = uses_in_part names (definition rs) in
        let later = flat_map (uses_in_part names) ps in (
          rules_placed (map head_word rs) rs (all_left (IsFine names) first later fine),
          definitions_placed ps (all_right (IsFine names) first later fine),
        )

    theories_placed : (ts : List TheoryBlock) → AreFine names (flat_map (uses_in_theory names) ts)
        → AllByRecursion IsPlacedTheory (map (named_theory names) ts)
    theories_placed [] fine = tt
    theories_placed (t ∷ ts) fine =
        let here = all_left (IsFine names) (uses_in_theory names t) (flat_map (uses_in_theory names) ts) fine in (
          record { sentences = parts_placed t.parts here; definitions = definitions_placed t.parts here },
          theories_placed ts (all_right (IsFine names) (uses_in_theory names t)
              (flat_map (uses_in_theory names) ts) fine),
        )

    blocks_placed : (bs : List TermBlock) → AreFine names (flat_map uses_in_block bs)
        → AllByRecursion (λ b. IsAskable b.term) (map (named_block names) bs)
    blocks_placed [] fine = tt
    blocks_placed (b ∷ bs) fine = (
      value_side (in_scope []) b.term (all_left (IsFine names) (uses_in_block b) (flat_map uses_in_block bs) fine),
      blocks_placed bs (all_right (IsFine names) (uses_in_block b) (flat_map uses_in_block bs) fine),
    )

-- ---- a file

pub record IsPlacedFile (n : NamedFile) : Type 0 where
  pub theories : AllByRecursion (IsPlacedTheory n.vocabulary) n.theories
  pub terms : AllByRecursion (λ b. IsAskable n.vocabulary b.term) n.terms

pub named_is_placed : (f : File) (n : NamedFile) → IsNamed f n → IsPlacedFile n
named_is_placed f n named =
    let ds = declarations_of f.vocabularies in
    let names = names_of ds in
    let tree = named_file (vocabulary_name f.vocabularies) ds f.theories f.terms in
    let theories = flat_map (uses_in_theory names) f.theories in
    let blocks = flat_map uses_in_block f.terms in
    let rest = all_right (IsFine names) (uses_of_declarations ds) (theories ++ blocks) (names_fine f named.accepted) in
    let placed : IsPlacedFile tree = record {
      theories = theories_placed tree.vocabulary names f.theories (all_left (IsFine names) theories blocks rest);
      terms = blocks_placed tree.vocabulary names f.terms (all_right (IsFine names) theories blocks rest);
    } in
    subst IsPlacedFile (sym named.tree) placed
