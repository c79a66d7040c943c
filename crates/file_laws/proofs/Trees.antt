-- Formulas and terms of the grammar at whose words no row of the stage of names stands are spoken, once they have
-- types.
use Rattle.std.proofs.Common.{◌≡◌, ◌<◌, ◌+◌, ℕ, ℤ, true, false, List, [], ◌++◌, length, Option, refl, ap}
use Rattle.std.specs.List.{AllByRecursion}
use Rattle.kb_logic.specs.declared.vocabularies.Vocabulary.{Vocabulary}
use Rattle.grammar.specs.declared.terminal.Adding.{Adding}
use Rattle.grammar.specs.declared.terminal.Aggregation.{Aggregation}
use Rattle.grammar.specs.declared.terminal.Aggregation.TheVariants as how
use Rattle.grammar.specs.declared.terminal.Arrow.{Arrow}
use Rattle.grammar.specs.Fine.{FineFormula, FineLinks, FineOr, FineAnd, FineUnary, FinePrim, FineTerm, FineProduct}
use Rattle.grammar.specs.Fine.{FineFactor, FineApp, FineTerms}
use Rattle.grammar.specs.Spelling.{put_name, put_var, put_vars, put_formula, put_links, put_or, put_and, put_unary}
use Rattle.grammar.specs.Spelling.{put_prim}
use Rattle.grammar.specs.Spelling.{put_term, put_product, put_factor, put_app, put_terms}
use Rattle.grammar.specs.Terminals.{Tok}
use Rattle.grammar.specs.Trees as raw
use Rattle.grammar.specs.Trees.{Name, Var, Vars, Formula, Links, Or, And, Unary, Prim, Term, Product, Factor}
use Rattle.grammar.specs.Trees.{App}
use Rattle.grammar.specs.Trees.{Terms}
use Rattle.stage_definitions.specs.Names.{Names, meaning_of, meaning_at, text_of}
use Rattle.stage_definitions.specs.NamedTrees.{NamedTerm, at, begun_at}
use Rattle.stage_definitions.specs.Numbering.{type_number, comparison_of, named_formula, named_links, named_or}
use Rattle.stage_definitions.specs.Numbering.{disjuncts, named_and, conjuncts, named_unary, named_prim, named_term}
use Rattle.stage_definitions.specs.Numbering.{summands}
use Rattle.stage_definitions.specs.Numbering.{named_product, factors, named_factor, named_arguments, named_terms}
use Rattle.stage_definitions.specs.Scopes.{Text}
use Rattle.stage_definitions.specs.declared.standings.Standing.{Standing}
use Rattle.stage_definitions.specs.declared.standings.Standing.TheVariants.{Elsewhere}
use Rattle.stage_definitions.specs.Standings.{facing, in_product, in_sum, kind_of, scaled}
use Rattle.stage_definitions.specs.TypedTrees.{typed_formulas, typed_terms, typed_summands}
use Rattle.stage_definitions.specs.Uses.{vars_in, var_text, uses_of_vars, within, in_scope, app_name, app_count}
use Rattle.stage_definitions.specs.Uses.{terms_count}
use Rattle.stage_definitions.specs.Uses.{uses_in, uses_in_links, uses_in_or, uses_in_and, uses_in_unary}
use Rattle.stage_definitions.specs.Uses.{uses_in_prim, uses_in_term, uses_in_operands, uses_in_product, uses_in_factors}
use Rattle.stage_definitions.specs.Uses.{uses_in_factor, uses_in_arguments, uses_in_terms}
use Rattle.printed_texts.specs.Names.{IsName}
use Rattle.printed_texts.specs.Meanings.{others_count, tms_count}
use Rattle.printed_texts.specs.FormulaPrints.{type_word}
use Rattle.printed_texts.specs.Speaking.{speak_others, speak_tms}
use Rattle.reading_laws.proofs.Alls.{all_left, all_right}
use Rattle.reading_laws.proofs.Meanings.{IsFine, AreFine, no_type}
use Rattle.reading_laws.proofs.TokenWords.{AreRead}
use Rattle.reading_laws.proofs.BlockWords.{name_read, var_skip, vars_skip, number_skip, formula_skip, or_skip, and_skip}
use Rattle.reading_laws.proofs.BlockWords.{unary_skip, term_skip, product_skip, factor_skip}
use Rattle.reading_laws.proofs.AcceptedWords.{word_is}
use Rattle.file_laws.proofs.WordMeanings.{IsCalledAt}
use Rattle.file_laws.proofs.Spoken.{HasFormula, HasTerm, HasSummand, IsWeighed}
use Rattle.file_laws.proofs.Named.{is_name, integer_low, integer_kept, IsGood, AllGood, AreGood, TermIsGood}
use Rattle.file_laws.proofs.Named.{TermsAreGood, SummandsAreGood, conjunction_good, disjunction_good}
use Rattle.file_laws.proofs.Named.{grouped_good}
use Rattle.file_laws.proofs.Named.{comparison_good, sum_good, times_good, minus_good, atom_good, node_good}
use Rattle.file_laws.proofs.Named.{every_good, counted_good, count_good, aggregate_good}

-- ---- words

named_by : (n : Name) (ts : List Tok) → AreRead (put_name n ts) → IsName (text_of n)
named_by n ts h = is_name (text_of n) (word_is n (name_read n ts h).0)

var_named : (x : Var) (ts : List Tok) → AreRead (put_var x ts) → IsName (var_text x)
var_named (raw.untyped n) ts h = named_by n _ h
var_named (raw.typed n p ty q) ts h = named_by n _ h

vars_named : (vs : Vars) (ts : List Tok) → AreRead (put_vars vs ts)
    → AllByRecursion (λ x. IsName (var_text x)) (vars_in vs)
vars_named (raw.var x) ts h = (var_named x _ h, tt)
vars_named (raw.beside x vs) ts h = (var_named x _ h, vars_named vs ts (var_skip x _ h))
vars_named (raw.comma x p vs) ts h = (var_named x _ h, vars_named vs ts (var_skip x _ h).1)

app_named : (a : App) (ts : List Tok) → AreRead (put_app a ts) → IsName (text_of (app_name a))
app_named (raw.constant n) ts h = named_by n _ h
app_named (raw.empty n p q) ts h = named_by n _ h
app_named (raw.apply n p xs q) ts h = named_by n _ h

is_weighed : (a : Aggregation) → IsWeighed (kind_of a)
is_weighed how.Sum = tt
is_weighed how.Min = tt
is_weighed how.Max = tt

-- ---- lists

module _ (v : Vocabulary) (names : Names) (scope : List Text) (around : List (Option ℕ)) where
  has_disjunct : (o : Or) → HasFormula (typed_formulas v around (disjuncts names scope o))
  has_disjunct (raw.one a) = tt
  has_disjunct (raw.or a p o) = tt

  has_conjunct : (a : And) → HasFormula (typed_formulas v around (conjuncts names scope a))
  has_conjunct (raw.single u) = tt
  has_conjunct (raw.and u p a) = tt

  has_summand : (a : Adding) (t : Term) → HasSummand (typed_summands v around (summands names scope a t))
  has_summand a (raw.product p) = tt
  has_summand a (raw.sum p b q t) = tt

  has_factor : (p : Product) → HasTerm (typed_terms v around (factors names scope p))
  has_factor (raw.factor f) = tt
  has_factor (raw.times f q p) = tt

  others_counted : (ts : Terms)
      → others_count (speak_others v scope (typed_terms v around (named_terms names scope ts)))
      ≡ terms_count ts
  others_counted (raw.final t) = refl
  others_counted (raw.then t p ts) = ap (λ k. k + 1) (others_counted ts)

  terms_counted : (ts : Terms) → tms_count (speak_tms v scope (typed_terms v around (named_terms names scope ts)))
      ≡ terms_count ts
  terms_counted (raw.final t) = refl
  terms_counted (raw.then t p ts) = ap (λ k. k + 1) (others_counted ts)

  arguments_counted : (a : App)
      → tms_count (speak_tms v scope (typed_terms v around (named_arguments names scope a))) ≡ app_count a
  arguments_counted (raw.constant n) = refl
  arguments_counted (raw.empty n p q) = refl
  arguments_counted (raw.apply n p ts q) = terms_counted ts

-- ---- trees

module _ (v : Vocabulary) (names : Names) (I : ℕ → ℤ → Type 0)
    (again : (t : ℕ) → t < length v.types → type_number (meaning_of names (type_word v t)) ≡ t)
    (written : (t : ℕ) → t < length v.types → IsName (type_word v t))
    (called : (scope : List Text) (x : Name) (n : ℕ) → IsCalledAt v scope (text_of x) n (meaning_at names scope x n))
  where
    begun_good : (scope : List Text) (p : ℕ) (t : NamedTerm) → TermIsGood v names I scope t
        → TermIsGood v names I scope (begun_at p t)
    begun_good scope p (at q x) h = h

    mutual
      pub formula_good : (scope : List Text) (f : Formula) (ts : List Tok) → FineFormula f → AreRead (put_formula f ts)
          → AreFine names (uses_in (in_scope scope) f) → IsGood v names I scope (named_formula names scope f)
      formula_good scope (raw.alone o) ts g h fine = or_good scope o ts g h fine
      formula_good scope (raw.linked a o p ls) ts g h fine =
          let c = in_scope scope in
          grouped_good v names I scope a (named_or names scope o) (named_links names scope ls)
          (or_good scope o _ g.1 h (all_left (IsFine names) (uses_in_or c o) (uses_in_links c ls) fine))
          (links_good scope a ls ts g.2 (or_skip o _ h).1
          (all_right (IsFine names) (uses_in_or c o) (uses_in_links c ls) fine))

      links_good : (scope : List Text) (a : Arrow) (ls : Links) (ts : List Tok) → FineLinks ls
          → AreRead (put_links a ls ts)
          → AreFine names (uses_in_links (in_scope scope) ls) → AllGood v names I scope (named_links names scope ls)
      links_good scope a (raw.last o) ts g h fine = (or_good scope o ts g h fine, tt)
      links_good scope a (raw.link o p ls) ts g h fine =
          let c = in_scope scope in (
            or_good scope o _ g.1 h (all_left (IsFine names) (uses_in_or c o) (uses_in_links c ls) fine),
            links_good scope a ls ts g.2 (or_skip o _ h).1
                (all_right (IsFine names) (uses_in_or c o) (uses_in_links c ls) fine),
          )

      or_good : (scope : List Text) (o : Or) (ts : List Tok) → FineOr o → AreRead (put_or o ts)
          → AreFine names (uses_in_or (in_scope scope) o) → IsGood v names I scope (named_or names scope o)
      or_good scope (raw.one a) ts g h fine = and_good scope a ts g h fine
      or_good scope (raw.or a p o) ts g h fine =
          let c = in_scope scope in
          disjunction_good v names I scope (named_and names scope a) (disjuncts names scope o)
          (and_good scope a _ g.1 h (all_left (IsFine names) (uses_in_and c a) (uses_in_or c o) fine))
          (disjuncts_good scope o ts g.2 (and_skip a _ h).1
          (all_right (IsFine names) (uses_in_and c a) (uses_in_or c o) fine))
          (λ around. has_disjunct v names scope around o)

      disjuncts_good : (scope : List Text) (o : Or) (ts : List Tok) → FineOr o → AreRead (put_or o ts)
          → AreFine names (uses_in_or (in_scope scope) o) → AreGood v names I scope (disjuncts names scope o)
      disjuncts_good scope (raw.one a) ts g h fine = (and_good scope a ts g h fine, tt)
      disjuncts_good scope (raw.or a p o) ts g h fine =
          let c = in_scope scope in (
            and_good scope a _ g.1 h (all_left (IsFine names) (uses_in_and c a) (uses_in_or c o) fine),
            disjuncts_good scope o ts g.2 (and_skip a _ h).1
                (all_right (IsFine names) (uses_in_and c a) (uses_in_or c o) fine),
          )

      and_good : (scope : List Text) (a : And) (ts : List Tok) → FineAnd a → AreRead (put_and a ts)
          → AreFine names (uses_in_and (in_scope scope) a) → IsGood v names I scope (named_and names scope a)
      and_good scope (raw.single u) ts g h fine = unary_good scope u ts g h fine
      and_good scope (raw.and u p a) ts g h fine =
          let c = in_scope scope in
          conjunction_good v names I scope (named_unary names scope u) (conjuncts names scope a)
          (unary_good scope u _ g.1 h (all_left (IsFine names) (uses_in_unary c u) (uses_in_and c a) fine))
          (conjuncts_good scope a ts g.2 (unary_skip u _ h).1
          (all_right (IsFine names) (uses_in_unary c u) (uses_in_and c a) fine))
          (λ around. has_conjunct v names scope around a)

      conjuncts_good : (scope : List Text) (a : And) (ts : List Tok) → FineAnd a → AreRead (put_and a ts)
          → AreFine names (uses_in_and (in_scope scope) a) → AreGood v names I scope (conjuncts names scope a)
      conjuncts_good scope (raw.single u) ts g h fine = (unary_good scope u ts g h fine, tt)
      conjuncts_good scope (raw.and u p a) ts g h fine =
          let c = in_scope scope in (
            unary_good scope u _ g.1 h (all_left (IsFine names) (uses_in_unary c u) (uses_in_and c a) fine),
            conjuncts_good scope a ts g.2 (unary_skip u _ h).1
                (all_right (IsFine names) (uses_in_unary c u) (uses_in_and c a) fine),
          )

      unary_good : (scope : List Text) (u : Unary) (ts : List Tok) → FineUnary u → AreRead (put_unary u ts)
          → AreFine names (uses_in_unary (in_scope scope) u) → IsGood v names I scope (named_unary names scope u)
      unary_good scope (raw.not p u) ts g h fine = unary_good scope u ts g h.1 fine
      unary_good scope (raw.every p vs q f) ts g h fine =
          let inner = uses_in (in_scope (within scope vs)) f in
          every_good v names I again written scope vs (vars_named vs _ h.1) (named_formula names (within scope vs) f)
          (formula_good (within scope vs) f ts g (vars_skip vs _ h.1).1
          (all_right (IsFine names) (uses_of_vars [] (vars_in vs)) inner fine))
      unary_good scope (raw.some p n vs q f) ts g h fine =
          let inner = uses_in (in_scope (within scope vs)) f in
          let behind = number_skip n _ h.1 in
          counted_good v names I again written scope vs (vars_named vs _ behind) n
          (named_formula names (within scope vs) f) g.0
          (formula_good (within scope vs) f ts g.1 (vars_skip vs _ behind).1
          (all_right (IsFine names) (uses_of_vars [] (vars_in vs)) inner fine))
      unary_good scope (raw.prim x) ts g h fine = prim_good scope x ts g h fine

      prim_good : (scope : List Text) (x : Prim) (ts : List Tok) → FinePrim x → AreRead (put_prim x ts)
          → AreFine names (uses_in_prim (in_scope scope) x) → IsGood v names I scope (named_prim names scope x)
      prim_good scope (raw.group p f q) ts g h fine = formula_good scope f _ g h.1 fine
      prim_good scope (raw.truth true p) ts g h fine = λ around sc t. (tt, tt)
      prim_good scope (raw.truth false p) ts g h fine = λ around sc t. (tt, tt)
      prim_good scope (raw.atom a) ts g h fine =
          atom_good v names I scope (text_of (app_name a)) (app_count a) (named_arguments names scope a)
          (λ around. arguments_counted v names scope around a) (arguments_good scope a ts g h fine.1) (app_named a ts h)
          (meaning_at names scope (app_name a) (app_count a)) refl (called scope (app_name a) (app_count a))
          fine.0.known fine.0.right (no_type (meaning_at names scope (app_name a) (app_count a)) _ fine.0.supported)
      prim_good scope (raw.compare x k p y) ts g h fine =
          let us = uses_in_term (facing y) (in_scope scope) x in
          let vs = uses_in_term (facing x) (in_scope scope) y in
          comparison_good v names I scope (comparison_of k) (named_term names scope x) (named_term names scope y)
          (term_good (facing y) scope x _ g.0 h (all_left (IsFine names) us vs fine))
          (term_good (facing x) scope y ts g.1 (term_skip x _ h).1 (all_right (IsFine names) us vs fine))

      pub term_good : (k : Standing) (scope : List Text) (t : Term) (ts : List Tok) → FineTerm t
          → AreRead (put_term t ts) → AreFine names (uses_in_term k (in_scope scope) t)
          → TermIsGood v names I scope (named_term names scope t)
      term_good k scope (raw.product p) ts g h fine = product_good k scope p ts g h fine
      term_good k scope (raw.sum p a q t) ts g h fine =
          let i = in_sum k in
          let us = uses_in_product i (in_scope scope) p in
          let vs = uses_in_operands i (in_scope scope) t in
          sum_good v names I scope (named_product names scope p) (summands names scope a t)
          (product_good i scope p _ g.0 h (all_left (IsFine names) us vs fine))
          (summands_good i scope a t ts g.1 (product_skip p _ h).1 (all_right (IsFine names) us vs fine))
          (λ around. has_summand v names scope around a t)

      summands_good : (k : Standing) (scope : List Text) (a : Adding) (t : Term) (ts : List Tok) → FineTerm t
          → AreRead (put_term t ts) → AreFine names (uses_in_operands k (in_scope scope) t)
          → SummandsAreGood v names I scope (summands names scope a t)
      summands_good k scope a (raw.product p) ts g h fine = (product_good k scope p ts g h fine, tt)
      summands_good k scope a (raw.sum p b q t) ts g h fine =
          let us = uses_in_product k (in_scope scope) p in
          let vs = uses_in_operands k (in_scope scope) t in (
            product_good k scope p _ g.0 h (all_left (IsFine names) us vs fine),
            summands_good k scope b t ts g.1 (product_skip p _ h).1 (all_right (IsFine names) us vs fine),
          )

      product_good : (k : Standing) (scope : List Text) (p : Product) (ts : List Tok) → FineProduct p
          → AreRead (put_product p ts) → AreFine names (uses_in_product k (in_scope scope) p)
          → TermIsGood v names I scope (named_product names scope p)
      product_good k scope (raw.factor f) ts g h fine = factor_good k scope f ts g h fine
      product_good k scope (raw.times f p q) ts g h fine =
          let i = in_product k (raw.times f p q) in
          let us = uses_in_factor i (in_scope scope) f in
          let vs = uses_in_factors i (in_scope scope) q in
          times_good v names I scope (named_factor names scope f) (factors names scope q)
          (factor_good i scope f _ g.0 h (all_left (IsFine names) us vs fine))
          (factors_good i scope q ts g.1 (factor_skip f _ h).1 (all_right (IsFine names) us vs fine))
          (λ around. has_factor v names scope around q)

      factors_good : (k : Standing) (scope : List Text) (p : Product) (ts : List Tok) → FineProduct p
          → AreRead (put_product p ts) → AreFine names (uses_in_factors k (in_scope scope) p)
          → TermsAreGood v names I scope (factors names scope p)
      factors_good k scope (raw.factor f) ts g h fine = (factor_good k scope f ts g h fine, tt)
      factors_good k scope (raw.times f p q) ts g h fine =
          let us = uses_in_factor k (in_scope scope) f in
          let vs = uses_in_factors k (in_scope scope) q in (
            factor_good k scope f _ g.0 h (all_left (IsFine names) us vs fine),
            factors_good k scope q ts g.1 (factor_skip f _ h).1 (all_right (IsFine names) us vs fine),
          )

      factor_good : (k : Standing) (scope : List Text) (f : Factor) (ts : List Tok) → FineFactor f
          → AreRead (put_factor f ts) → AreFine names (uses_in_factor k (in_scope scope) f)
          → TermIsGood v names I scope (named_factor names scope f)
      factor_good k scope (raw.integer n p) ts g h fine = λ around sc typed. (integer_kept n, integer_low n)
      factor_good k scope (raw.value a) ts g h fine =
          node_good v names I scope (text_of (app_name a)) (app_count a) (named_arguments names scope a)
          (λ around. arguments_counted v names scope around a) (arguments_good scope a ts g h fine.1) (app_named a ts h)
          (meaning_at names scope (app_name a) (app_count a)) refl (called scope (app_name a) (app_count a))
          fine.0.known fine.0.right (no_type (meaning_at names scope (app_name a) (app_count a)) _ fine.0.supported)
      factor_good k scope (raw.brackets p t q) ts g h fine =
          begun_good scope p (named_term names scope t) (term_good k scope t _ g h.1 fine)
      factor_good k scope (raw.negative p f) ts g h fine =
          minus_good v names I scope (named_factor names scope f) (factor_good (scaled k) scope f ts g h.1 fine)
      factor_good k scope (raw.count p b vs q f e) ts g h fine =
          let inner = uses_in (in_scope (within scope vs)) f in
          count_good v names I again written scope vs (vars_named vs _ h.1.1) p
          (named_formula names (within scope vs) f)
          (formula_good (within scope vs) f _ g (vars_skip vs _ h.1.1).1
          (all_right (IsFine names) (uses_of_vars [] (vars_in vs)) inner fine.1))
      factor_good k scope (raw.aggregate a p b vs q f d t e) ts g h fine =
          let c = in_scope (within scope vs) in
          let inner = all_right (IsFine names) (uses_of_vars [] (vars_in vs))
          (uses_in c f ++ uses_in_term Elsewhere c t) fine.1 in
          let behind = (vars_skip vs _ h.1.1).1 in
          aggregate_good v names I again written scope vs (vars_named vs _ h.1.1) (kind_of a)
          (named_formula names (within scope vs) f) (named_term names (within scope vs) t) (is_weighed a)
          (formula_good (within scope vs) f _ g.0 behind
          (all_left (IsFine names) (uses_in c f) (uses_in_term Elsewhere c t) inner))
          (term_good Elsewhere (within scope vs) t _ g.1 (formula_skip f _ behind).1
          (all_right (IsFine names) (uses_in c f) (uses_in_term Elsewhere c t) inner))

      arguments_good : (scope : List Text) (a : App) (ts : List Tok) → FineApp a → AreRead (put_app a ts)
          → AreFine names (uses_in_arguments (in_scope scope) a)
          → TermsAreGood v names I scope (named_arguments names scope a)
      arguments_good scope (raw.constant n) ts g h fine = tt
      arguments_good scope (raw.empty n p q) ts g h fine = tt
      arguments_good scope (raw.apply n p xs q) ts g h fine = terms_good scope xs _ g (name_read n _ h).1.1 fine

      terms_good : (scope : List Text) (xs : Terms) (ts : List Tok) → FineTerms xs → AreRead (put_terms xs ts)
          → AreFine names (uses_in_terms (in_scope scope) xs)
          → TermsAreGood v names I scope (named_terms names scope xs)
      terms_good scope (raw.final x) ts g h fine = (term_good Elsewhere scope x ts g h fine, tt)
      terms_good scope (raw.then x p xs) ts g h fine =
          let us = uses_in_term Elsewhere (in_scope scope) x in
          let vs = uses_in_terms (in_scope scope) xs in (
            term_good Elsewhere scope x _ g.0 h (all_left (IsFine names) us vs fine),
            terms_good scope xs ts g.1 (term_skip x _ h).1 (all_right (IsFine names) us vs fine),
          )
