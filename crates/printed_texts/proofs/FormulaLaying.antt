-- The tokens of a formula that is written, from any place on, are the spelling of a tree that says it.
use Rattle.std.proofs.Common.{◌≡◌, ℕ, ◌+◌, ◌<◌, ◌^◌, Bool, true, false, List, ◌∷◌, length, map, refl, ap, ◌∙◌, arith}
use Rattle.std.specs.Prelude.{codes}
use Rattle.std.specs.Fmt.{decimal}
use Rattle.kb_text.specs.declared.token.Kind.TheVariants.{Word, Sign}
use Rattle.kb_text.specs.Tokens.{is_word_of, unsupported_chain_words, unsupported_call_words}
use Rattle.kb_text.specs.Tokens.{decimal as value_of_digits}
use Rattle.grammar.specs.declared.terminal.Terminal.{Terminal}
use Rattle.grammar.specs.declared.terminal.Terminal.TheVariants as t
use Rattle.grammar.specs.declared.terminal.Comparison.{Comparison}
use Rattle.grammar.specs.declared.terminal.Comparison.TheVariants as cmp
use Rattle.grammar.specs.declared.terminal.Arrow.TheVariants as arrow
use Rattle.grammar.specs.declared.terminal.Aggregation.{Aggregation}
use Rattle.grammar.specs.declared.terminal.Aggregation.TheVariants as how
use Rattle.grammar.specs.declared.terminal.Adding.{Adding}
use Rattle.grammar.specs.declared.terminal.Adding.TheVariants as adding
use Rattle.grammar.specs.Terminals.{Tok, sign as mark_at}
use Rattle.grammar.specs.Items.{terminal_of, single_terminal, word_terminal}
use Rattle.grammar.specs.Trees as raw
use Rattle.grammar.specs.Trees.{name}
use Rattle.grammar.specs.Fine.{FineNumber, FineOr, FineAnd, FinePrim, FineTerm, FineProduct, FineFactor, FineTerms}
use Rattle.grammar.specs.Spelling.{put_name, put_var, put_vars, put_or, put_and, put_prim, put_term, put_product}
use Rattle.grammar.specs.Spelling.{put_factor, put_terms}
use Rattle.std.specs.Prelude.{◌++◌, Option, Some, option_map}
use Rattle.kb_logic.specs.declared.vocabularies.TypeDecl.{TypeDecl}
use Rattle.kb_logic.specs.declared.vocabularies.Vocabulary.{Vocabulary}
use Rattle.kb_logic.specs.Trees.{TermTree, TermTrees, SummandTrees, FormulaTree, FormulaTrees}
use Rattle.kb_logic.specs.Trees as tree
use Rattle.stage_definitions.specs.Scopes.{Text}
use Rattle.stage_definitions.specs.Names.{Names, Meaning, undeclared, integers, naturals, a_type, predicate, function}
use Rattle.stage_definitions.specs.Names.{made, variable, meaning_of, meaning_at}
use Rattle.stage_definitions.specs.Uses.{vars_in, var_text, var_type, within, terms_count}
use Rattle.stage_definitions.specs.Demands.{Parts, parts_of, formula_parts}
use Rattle.stage_definitions.specs.Demands as demands
use Rattle.stage_definitions.specs.NamedTrees as named
use Rattle.stage_definitions.specs.NamedTrees.{NamedTerm, NamedTerms, NamedFormula}
use Rattle.stage_definitions.specs.Numbering.{is_minus, type_number, type_number_of, named_vars, named_prim, disjuncts}
use Rattle.stage_definitions.specs.Numbering.{conjuncts, named_term, summands, named_product, factors, named_factor}
use Rattle.stage_definitions.specs.Numbering.{named_terms, node_of}
use Rattle.stage_definitions.specs.TypedTrees.{inside, typed_from, typed_vars, aggregate_parts, typed_formula}
use Rattle.stage_definitions.specs.TypedTrees.{typed_formulas, typed_term, typed_node, typed_terms, typed_summands}
use Rattle.printed_texts.specs.Meanings.{bounds_of, binder_names, others_count, node_meaning, fm_meaning, fms_meaning}
use Rattle.printed_texts.specs.Meanings.{tm_meaning, others_meaning, summands_meaning, factors_meaning}
use Rattle.printed_texts.specs.Written.{Part, piece}
use Rattle.printed_texts.proofs.Numbers.{written}
use Rattle.printed_texts.specs.Parts.{sign, space}
use Rattle.printed_texts.specs.Formulas.{Binder, binder, Binders, one_binder, more_binders, Fm, truth, atom, comparison}
use Rattle.printed_texts.specs.Formulas.{negation, conjunction, disjunction, implication, equivalence, universal}
use Rattle.printed_texts.specs.Formulas.{existential, numbered, Fms, one_fm, more_fms, Tm, application, integer}
use Rattle.printed_texts.specs.Formulas.{summation, product, count, aggregate, no_tms, some_tms, Others, no_others}
use Rattle.printed_texts.specs.Formulas.{more_others, Summands, no_summands, more_summands, Factors, one_factor}
use Rattle.printed_texts.specs.Formulas.{more_factors, cmp_text, aggregate_word, between, opened, write_binder}
use Rattle.printed_texts.specs.Formulas.{write_binders, add_text, write_fm, write_fms, write_tm, write_others}
use Rattle.printed_texts.specs.Formulas.{write_summands, write_factors, says_var, says_vars, says_ors, says_ands}
use Rattle.printed_texts.specs.Formulas.{says_prim, says_term, says_summands, says_product, says_factors, says_factor}
use Rattle.printed_texts.specs.Formulas.{says_terms, says_others, IsBinder, AreBinders, CountsBy, IsFm, AreFms, IsTm}
use Rattle.printed_texts.specs.Formulas.{AreOthers, AreSummands, AreFactors}
use Rattle.printed_texts.proofs.Laying.{toks_at}

-- written at this place, whatever comes after: a tree that says it, and where it ends
pub record LaidAs {X A : Type 0} (write : X → List Part → List Part) (put : A → List Tok → List Tok) (Fine : A → Type 0)
    (view : A → X) (Means : X → A → Type 0) (x : X) (p : ℕ) : Type 0 where
  pub tree : A
  pub end : ℕ
  pub spelled : (rest : List Part) → toks_at p (write x rest) ≡ put tree (toks_at end rest)
  pub fine : Fine tree
  pub says : view tree ≡ x
  pub means : Means x tree

abbrev Any : {A : Type 0} → A → Type 0
Any a = Unit {0}

-- ---- what the trees mean

abbrev Bounds : Binders → raw.Vars → Type 0
Bounds xs vs = (types : List TypeDecl) (in_scope : List (Option ℕ)) (ps : Parts) (n : ℕ) (names : Names)
    → typed_from types in_scope ps n (named_vars names vs) ≡ bounds_of names xs

abbrev BinderMeans : Binder → raw.Var → Type 0
BinderMeans (binder n ty) v = (var_text v ≡ n)
    × ((names : Names) → option_map (type_number_of names) (var_type v) ≡ Some (type_number (meaning_of names ty)))

pub record BindersMean (xs : Binders) (vs : raw.Vars) : Type 0 where
  bounds : Bounds xs vs
  texts : map var_text (vars_in vs) ≡ binder_names xs

abbrev NoMeaning : {X A : Type 0} → X → A → Type 0
NoMeaning x a = Unit {0}

abbrev FmMeans : Fm → raw.Prim → Type 0
FmMeans f x = (v : Vocabulary) (names : Names) (scope : List Text) (around : List (Option ℕ))
    → typed_formula v around (named_prim names scope x) ≡ fm_meaning names scope f

abbrev AndsMean : Fms → raw.And → Type 0
AndsMean fs a = (v : Vocabulary) (names : Names) (scope : List Text) (around : List (Option ℕ))
    → typed_formulas v around (conjuncts names scope a) ≡ fms_meaning names scope fs

abbrev OrsMean : Fms → raw.Or → Type 0
OrsMean fs a = (v : Vocabulary) (names : Names) (scope : List Text) (around : List (Option ℕ))
    → typed_formulas v around (disjuncts names scope a) ≡ fms_meaning names scope fs

abbrev TmMeans : Tm → raw.Factor → Type 0
TmMeans f x = (v : Vocabulary) (names : Names) (scope : List Text) (around : List (Option ℕ))
    → typed_term v around (named_factor names scope x) ≡ tm_meaning names scope f

abbrev FactorsMean : Factors → raw.Product → Type 0
FactorsMean f x = (v : Vocabulary) (names : Names) (scope : List Text) (around : List (Option ℕ))
    → typed_terms v around (factors names scope x) ≡ factors_meaning names scope f

node_means : (v : Vocabulary) (around : List (Option ℕ)) (m : Meaning) (ts : NamedTerms)
    → typed_node v around (node_of m ts) ≡ node_meaning m (typed_terms v around ts)
node_means v around undeclared ts = refl
node_means v around integers ts = refl
node_means v around naturals ts = refl
node_means v around (a_type t) ts = refl
node_means v around (predicate s n) ts = refl
node_means v around (function s n) ts = refl
node_means v around (made t i) ts = refl
node_means v around (variable n) ts = refl

-- in the scope of written variables
module _ (xs : Binders) (vs : raw.Vars) (mean : BindersMean xs vs) where
  scope_means : (scope : List Text) → within scope vs ≡ scope ++ binder_names xs
  scope_means scope = ap (λ (ts : List Text). scope ++ ts) mean.texts

  vars_mean : (v : Vocabulary) (names : Names) (around : List (Option ℕ)) (ps : List demands.Part)
      → typed_vars v.types around (named_vars names vs) ps ≡ bounds_of names xs
  vars_mean v names around ps = mean.bounds v.types (inside v.types around (named_vars names vs) ps) (parts_of ps)
      (length around) names

  body_means : (f : Fm) (x : raw.Prim) → FmMeans f x → (v : Vocabulary) (names : Names) (scope : List Text)
      (around : List (Option ℕ)) (ps : List demands.Part)
      → typed_formula v (inside v.types around (named_vars names vs) ps) (named_prim names (within scope vs) x)
      ≡ fm_meaning names (scope ++ binder_names xs) f
  body_means f x means v names scope around ps =
      means v names (within scope vs) (inside v.types around (named_vars names vs) ps)
      ∙ ap (λ (s : List Text). fm_meaning names s f) (scope_means scope)

  weight_means : (f : Tm) (x : raw.Factor) → TmMeans f x → (v : Vocabulary) (names : Names) (scope : List Text)
      (around : List (Option ℕ)) (ps : List demands.Part)
      → typed_term v (inside v.types around (named_vars names vs) ps) (named_factor names (within scope vs) x)
      ≡ tm_meaning names (scope ++ binder_names xs) f
  weight_means f x means v names scope around ps =
      means v names (within scope vs) (inside v.types around (named_vars names vs) ps)
      ∙ ap (λ (s : List Text). tm_meaning names s f) (scope_means scope)

-- a mark and what is after it
behind_mark : (m : Terminal) (p : ℕ) (ts us : List Tok) → ts ≡ us → mark_at m p ∷ ts ≡ mark_at m p ∷ us
behind_mark m p ts us e = ap (λ (xs : List Tok). mark_at m p ∷ xs) e

value_read : (n : ℕ) → n < 2 ^ 63 → value_of_digits (decimal n) ≡ n
value_read n lt = (written n (omega arith)).value

-- ---- brackets after a word

record LaidOpen (words : List (List ℕ)) (text n : List ℕ) (m : Terminal) (p : ℕ) : Type 0 where
  place : ℕ
  end : ℕ
  spelled : (rest : List Part) → toks_at p (opened words text n rest) ≡ mark_at m place ∷ toks_at end rest

open_round : (n : List ℕ) (p : ℕ) → LaidOpen unsupported_call_words (codes "(") n t.Open p
unfolding single_terminal
open_round n p = by_word (is_word_of unsupported_call_words n) refl
  where
    by_word : (b : Bool) → is_word_of unsupported_call_words n ≡ b
        → LaidOpen unsupported_call_words (codes "(") n t.Open p
    by_word true e = record { place = p + 1; end = (p + 1) + 1; spelled = λ rest. rw e refl }
    by_word false e = record { place = p; end = p + 1; spelled = λ rest. rw e refl }

open_square : (n : List ℕ) (p : ℕ) → LaidOpen unsupported_chain_words (codes "[") n t.OpenSquare p
unfolding single_terminal
open_square n p = by_word (is_word_of unsupported_chain_words n) refl
  where
    by_word : (b : Bool) → is_word_of unsupported_chain_words n ≡ b
        → LaidOpen unsupported_chain_words (codes "[") n t.OpenSquare p
    by_word true e = record { place = p + 1; end = (p + 1) + 1; spelled = λ rest. rw e refl }
    by_word false e = record { place = p; end = p + 1; spelled = λ rest. rw e refl }

-- ---- variables

lay_binder : (x : Binder) → IsBinder x → (p : ℕ) → LaidAs write_binder put_var Any says_var BinderMeans x p
unfolding single_terminal
lay_binder (binder n ty) h p =
    let bracket = open_square n (p + length n) in
    record {
      tree = raw.typed (name n p) bracket.place (name ty bracket.end) (bracket.end + length ty);
      end = (bracket.end + length ty) + 1;
      spelled = λ rest. rw h.0.free (ap (put_name (name n p)) (bracket.spelled (piece Word ty ∷ sign (codes "]") ∷ rest)
          ∙ behind_mark t.OpenSquare bracket.place _ _ (rw h.1.free refl)));
      fine = tt;
      says = refl;
      means = (refl, λ names. refl);
    }

lay_binders : (xs : Binders) → AreBinders xs → (p : ℕ) → LaidAs write_binders put_vars Any says_vars BindersMean xs p
lay_binders (one_binder (binder n ty)) h p =
    let first = lay_binder (binder n ty) h p in
    record {
      tree = raw.var first.tree;
      end = first.end;
      spelled = first.spelled;
      fine = tt;
      says = ap one_binder first.says;
      means = record {
        bounds = λ types in_scope ps k names. rw (first.means.0, first.means.1 names) refl;
        texts = rw first.means.0 refl;
      };
    }
lay_binders (more_binders (binder n ty) xs) h p =
    let first = lay_binder (binder n ty) h.0 p in
    let more = lay_binders xs h.1 (first.end + 1) in
    record {
      tree = raw.beside first.tree more.tree;
      end = more.end;
      spelled = λ rest. first.spelled (space ∷ write_binders xs rest) ∙ ap (put_var first.tree) (more.spelled rest);
      fine = tt;
      says = rw (first.says, more.says) refl;
      means = record {
        bounds = λ types in_scope ps k names.
            rw (first.means.0, first.means.1 names, more.means.bounds types in_scope ps (k + 1) names) refl;
        texts = rw (first.means.0, more.means.texts) refl;
      };
    }

-- ---- signs

cmp_mark : (c : Comparison) → terminal_of Sign (cmp_text c) ≡ t.Compare c
unfolding single_terminal
cmp_mark cmp.Equal = refl
cmp_mark cmp.NotEqual = refl
cmp_mark cmp.Less = refl
cmp_mark cmp.Greater = refl
cmp_mark cmp.AtMost = refl
cmp_mark cmp.AtLeast = refl

-- a comparison with a space on both sides
cmp_between : (c : Comparison) (p : ℕ) (rest : List Part)
    → toks_at p (between (cmp_text c) rest) ≡ mark_at (t.Compare c) (p + 1) ∷ toks_at
    (((p + 1) + length (cmp_text c)) + 1) rest
cmp_between c p rest = rw (cmp_mark c) refl

counts : (c : Comparison) → CountsBy c → (p n q : ℕ) → FineNumber (raw.compared c p n q)
counts cmp.Equal h p n q = tt
counts cmp.NotEqual h p n q = h
counts cmp.Less h p n q = tt
counts cmp.Greater h p n q = tt
counts cmp.AtMost h p n q = tt
counts cmp.AtLeast h p n q = tt

adding_of : Bool → Adding
adding_of true = adding.Minus
adding_of false = adding.Plus

add_mark : (m : Bool) → terminal_of Sign (add_text m) ≡ t.Add (adding_of m)
unfolding single_terminal adding_of
add_mark true = refl
add_mark false = refl

add_minus : (m : Bool) → is_minus (adding_of m) ≡ m
unfolding adding_of
add_minus true = refl
add_minus false = refl

add_between : (m : Bool) (p : ℕ) (rest : List Part)
    → toks_at p (between (add_text m) rest) ≡ mark_at (t.Add (adding_of m)) (p + 1) ∷ toks_at
    (((p + 1) + length (add_text m)) + 1) rest
add_between m p rest = rw (add_mark m) refl

aggregate_mark : (a : Aggregation) → word_terminal (aggregate_word a) ≡ t.Aggregate a
aggregate_mark how.Sum = refl
aggregate_mark how.Min = refl
aggregate_mark how.Max = refl

-- ---- what is after a first argument, and after a first operand of a sum

record LaidOthers (xs : Others) (p : ℕ) : Type 0 where
  join : raw.Term → raw.Terms
  end : ℕ
  spelled : (y : raw.Term) (rest : List Part)
      → put_term y (toks_at p (write_others xs rest)) ≡ put_terms (join y) (toks_at end rest)
  fine : (y : raw.Term) → FineTerm y → FineTerms (join y)
  says : (y : raw.Term) → says_terms (join y) ≡ some_tms (says_term y) xs
  says_more : (y : raw.Term) → says_others (join y) ≡ more_others (says_term y) xs
  count_of : (y : raw.Term) → terms_count (join y) ≡ others_count xs + 1
  means : (y : raw.Term) (v : Vocabulary) (names : Names) (scope : List Text) (around : List (Option ℕ))
      → typed_terms v around (named_terms names scope (join y))
      ≡ tree.more_terms (typed_term v around (named_term names scope y)) (others_meaning names scope xs)

record LaidSummands (ss : Summands) (p : ℕ) : Type 0 where
  join : raw.Product → raw.Term
  end : ℕ
  spelled : (y : raw.Product) (rest : List Part)
      → put_product y (toks_at p (write_summands ss rest)) ≡ put_term (join y) (toks_at end rest)
  fine : (y : raw.Product) → FineProduct y → FineTerm (join y)
  says : (m : Bool) (y : raw.Product) → says_summands m (join y) ≡ more_summands m (says_product y) ss
  means : (a : Adding) (y : raw.Product) (v : Vocabulary) (names : Names) (scope : List Text) (around : List (Option ℕ))
      → typed_summands v around (summands names scope a (join y)) ≡ tree.more_summands (is_minus a)
      (typed_term v around (named_product names scope y)) (summands_meaning names scope ss)

abbrev pub as_formula : raw.Prim → raw.Formula
as_formula x = raw.alone (raw.one (raw.single (raw.prim x)))

abbrev pub as_term : raw.Factor → raw.Term
as_term x = raw.product (raw.factor x)

mutual
  unfolding single_terminal

  pub lay_fm : (f : Fm) → IsFm f → (p : ℕ) → LaidAs write_fm put_prim FinePrim says_prim FmMeans f p
  lay_fm (truth true) h p =
      record {
        tree = raw.truth true p;
        end = p + 4;
        spelled = λ rest. refl;
        fine = tt;
        says = refl;
        means = λ v names scope around. refl;
      }
  lay_fm (truth false) h p =
      record {
        tree = raw.truth false p;
        end = p + 5;
        spelled = λ rest. refl;
        fine = tt;
        says = refl;
        means = λ v names scope around. refl;
      }
  lay_fm (atom n no_tms) h p =
      record {
        tree = raw.atom (raw.constant (name n p));
        end = p + length n;
        spelled = λ rest. rw h.0.free refl;
        fine = tt;
        says = refl;
        means = λ v names scope around. refl;
      }
  lay_fm (atom n (some_tms x xs)) h p =
      let bracket = open_round n (p + length n) in
      let first = lay_tm x h.1.0 bracket.end in
      let more = lay_others xs h.1.1 first.end in
      record {
        tree = raw.atom (raw.apply (name n p) bracket.place (more.join (as_term first.tree)) more.end);
        end = more.end + 1;
        spelled = λ rest.
            rw h.0.free (ap (put_name (name n p))
            (bracket.spelled (write_tm x (write_others xs (sign (codes ")") ∷ rest)))
            ∙ behind_mark t.Open bracket.place _ _ (first.spelled (write_others xs (sign (codes ")") ∷ rest))
            ∙ more.spelled (as_term first.tree) (sign (codes ")") ∷ rest))));
        fine = more.fine (as_term first.tree) first.fine;
        says = rw (more.says (as_term first.tree), first.says) refl;
        means = λ v names scope around.
            rw (
              more.count_of (as_term first.tree),
              more.means (as_term first.tree) v names scope around,
              first.means v names scope around,
            ) refl;
      }
  lay_fm (comparison c x y) h p =
      let left = lay_tm x h.0 (p + 1) in
      let right = lay_tm y h.1 (((left.end + 1) + length (cmp_text c)) + 1) in
      record {
        tree = raw.group p (as_formula (raw.compare (as_term left.tree) c (left.end + 1) (as_term right.tree)))
            right.end;
        end = right.end + 1;
        spelled = λ rest.
            behind_mark t.Open p _ _ (left.spelled (between (cmp_text c) (write_tm y (sign (codes ")") ∷ rest)))
            ∙ ap (put_factor left.tree) (cmp_between c left.end (write_tm y (sign (codes ")") ∷ rest))
            ∙ behind_mark (t.Compare c) (left.end + 1) _ _ (right.spelled (sign (codes ")") ∷ rest))));
        fine = (left.fine, right.fine);
        says = rw (left.says, right.says) refl;
        means = λ v names scope around. rw (left.means v names scope around, right.means v names scope around) refl;
      }
  lay_fm (negation f) h p =
      let x = lay_fm f h ((p + 1) + 1) in
      record {
        tree = raw.group p (raw.alone (raw.one (raw.single (raw.not (p + 1) (raw.prim x.tree))))) x.end;
        end = x.end + 1;
        spelled = λ rest. behind_mark t.Open p _ _
            (behind_mark t.Not (p + 1) _ _ (x.spelled (sign (codes ")") ∷ rest)));
        fine = x.fine;
        says = rw x.says refl;
        means = λ v names scope around. rw (x.means v names scope around) refl;
      }
  lay_fm (conjunction f fs) h p =
      let x = lay_fm f h.0 (p + 1) in
      let xs = lay_ands fs h.1 (((x.end + 1) + 1) + 1) in
      record {
        tree = raw.group p (raw.alone (raw.one (raw.and (raw.prim x.tree) (x.end + 1) xs.tree))) xs.end;
        end = xs.end + 1;
        spelled = λ rest.
            behind_mark t.Open p _ _
            (x.spelled (between (codes "&") (write_fms (codes "&") fs (sign (codes ")") ∷ rest)))
            ∙ ap (put_prim x.tree) (behind_mark t.And (x.end + 1) _ _ (xs.spelled (sign (codes ")") ∷ rest))));
        fine = (refl, x.fine, xs.fine);
        says = rw (x.says, xs.says) refl;
        means = λ v names scope around. rw (x.means v names scope around, xs.means v names scope around) refl;
      }
  lay_fm (disjunction f fs) h p =
      let x = lay_fm f h.0 (p + 1) in
      let xs = lay_ors fs h.1 (((x.end + 1) + 1) + 1) in
      record {
        tree = raw.group p (raw.alone (raw.or (raw.single (raw.prim x.tree)) (x.end + 1) xs.tree)) xs.end;
        end = xs.end + 1;
        spelled = λ rest.
            behind_mark t.Open p _ _
            (x.spelled (between (codes "|") (write_fms (codes "|") fs (sign (codes ")") ∷ rest)))
            ∙ ap (put_prim x.tree) (behind_mark t.Or (x.end + 1) _ _ (xs.spelled (sign (codes ")") ∷ rest))));
        fine = (refl, x.fine, xs.fine);
        says = rw (x.says, xs.says) refl;
        means = λ v names scope around. rw (x.means v names scope around, xs.means v names scope around) refl;
      }
  lay_fm (implication f g) h p =
      let x = lay_fm f h.0 (p + 1) in
      let y = lay_fm g h.1 (((x.end + 1) + 2) + 1) in
      record {
        tree = raw.group p (raw.linked arrow.Implies (raw.one (raw.single (raw.prim x.tree))) (x.end + 1)
            (raw.last (raw.one (raw.single (raw.prim y.tree))))) y.end;
        end = y.end + 1;
        spelled = λ rest.
            behind_mark t.Open p _ _ (x.spelled (between (codes "=>") (write_fm g (sign (codes ")") ∷ rest)))
            ∙ ap (put_prim x.tree) (behind_mark (t.Arrow arrow.Implies) (x.end + 1) _ _
            (y.spelled (sign (codes ")") ∷ rest))));
        fine = (refl, x.fine, y.fine);
        says = rw (x.says, y.says) refl;
        means = λ v names scope around. rw (x.means v names scope around, y.means v names scope around) refl;
      }
  lay_fm (equivalence f g) h p =
      let x = lay_fm f h.0 (p + 1) in
      let y = lay_fm g h.1 (((x.end + 1) + 3) + 1) in
      record {
        tree = raw.group p (raw.linked arrow.Equivalent (raw.one (raw.single (raw.prim x.tree))) (x.end + 1)
            (raw.last (raw.one (raw.single (raw.prim y.tree))))) y.end;
        end = y.end + 1;
        spelled = λ rest.
            behind_mark t.Open p _ _ (x.spelled (between (codes "<=>") (write_fm g (sign (codes ")") ∷ rest)))
            ∙ ap (put_prim x.tree) (behind_mark (t.Arrow arrow.Equivalent) (x.end + 1) _ _
            (y.spelled (sign (codes ")") ∷ rest))));
        fine = (refl, x.fine, y.fine);
        says = rw (x.says, y.says) refl;
        means = λ v names scope around. rw (x.means v names scope around, y.means v names scope around) refl;
      }
  lay_fm (universal vs f) h p =
      let xs = lay_binders vs h.0 ((p + 1) + 1) in
      let x = lay_fm f h.1 ((xs.end + 1) + 1) in
      record {
        tree = raw.group p (raw.alone (raw.one (raw.single (raw.every (p + 1) xs.tree xs.end (as_formula x.tree)))))
            x.end;
        end = x.end + 1;
        spelled = λ rest.
            behind_mark t.Open p _ _
            (behind_mark t.Every (p + 1) _ _
            (xs.spelled (sign (codes ":") ∷ space ∷ write_fm f (sign (codes ")") ∷ rest))
            ∙ ap (put_vars xs.tree) (behind_mark t.Colon xs.end _ _ (x.spelled (sign (codes ")") ∷ rest)))));
        fine = x.fine;
        says = rw (xs.says, x.says) refl;
        means = λ v names scope around. let ps =
            formula_parts v.symbols (named_prim names (within scope xs.tree) x.tree) in
            rw (
              vars_mean vs xs.tree xs.means v names around ps,
              body_means vs xs.tree xs.means f x.tree x.means v names
                  scope around ps,
            ) refl;
      }
  lay_fm (existential vs f) h p =
      let xs = lay_binders vs h.0 ((p + 1) + 1) in
      let x = lay_fm f h.1 ((xs.end + 1) + 1) in
      record {
        tree = raw.group p (raw.alone
            (raw.one (raw.single (raw.some (p + 1) raw.any xs.tree xs.end (as_formula x.tree))))) x.end;
        end = x.end + 1;
        spelled = λ rest.
            behind_mark t.Open p _ _
            (behind_mark t.Some (p + 1) _ _
            (xs.spelled (sign (codes ":") ∷ space ∷ write_fm f (sign (codes ")") ∷ rest))
            ∙ ap (put_vars xs.tree) (behind_mark t.Colon xs.end _ _ (x.spelled (sign (codes ")") ∷ rest)))));
        fine = (tt, x.fine);
        says = rw (xs.says, x.says) refl;
        means = λ v names scope around. let ps =
            formula_parts v.symbols (named_prim names (within scope xs.tree) x.tree) in
            rw (
              vars_mean vs xs.tree xs.means v names around ps,
              body_means vs xs.tree xs.means f x.tree x.means v names
                  scope around ps,
            ) refl;
      }
  lay_fm (numbered c n vs f) h p =
      let q : ℕ = ((p + 1) + 1) + length (cmp_text c) in
      let xs = lay_binders vs h.2 ((q + length (decimal n)) + 1) in
      let x = lay_fm f h.3 ((xs.end + 1) + 1) in
      record {
        tree = raw.group p (raw.alone
            (raw.one (raw.single (raw.some (p + 1) (raw.compared c ((p + 1) + 1) n q) xs.tree xs.end
            (as_formula x.tree))))) x.end;
        end = x.end + 1;
        spelled = λ rest.
            behind_mark t.Open p _ _ (behind_mark t.Some (p + 1) _ _
            (rw (cmp_mark c, value_read n h.1)
            (behind_mark (t.Compare c) ((p + 1) + 1) _ _ (behind_mark (t.Integer n) q _ _
            (xs.spelled (sign (codes ":") ∷ space ∷ write_fm f (sign (codes ")") ∷ rest))
            ∙ ap (put_vars xs.tree) (behind_mark t.Colon xs.end _ _ (x.spelled (sign (codes ")") ∷ rest))))))));
        fine = (counts c h.0 ((p + 1) + 1) n q, x.fine);
        says = rw (xs.says, x.says) refl;
        means = λ v names scope around. let ps =
            formula_parts v.symbols (named_prim names (within scope xs.tree) x.tree) in
            rw (
              vars_mean vs xs.tree xs.means v names around ps,
              body_means vs xs.tree xs.means f x.tree x.means v names
                  scope around ps,
            ) refl;
      }

  lay_ands : (fs : Fms) → AreFms fs → (p : ℕ) → LaidAs (write_fms (codes "&")) put_and FineAnd says_ands AndsMean fs p
  lay_ands (one_fm f) h p = let x = lay_fm f h p in
      record {
        tree = raw.single (raw.prim x.tree);
        end = x.end;
        spelled = x.spelled;
        fine = x.fine;
        says = ap one_fm x.says;
        means = λ v names scope around. rw (x.means v names scope around) refl;
      }
  lay_ands (more_fms f fs) h p =
      let x = lay_fm f h.0 p in
      let xs = lay_ands fs h.1 (((x.end + 1) + 1) + 1) in
      record {
        tree = raw.and (raw.prim x.tree) (x.end + 1) xs.tree;
        end = xs.end;
        spelled = λ rest. x.spelled (between (codes "&") (write_fms (codes "&") fs rest))
            ∙ ap (put_prim x.tree) (behind_mark t.And (x.end + 1) _ _ (xs.spelled rest));
        fine = (refl, x.fine, xs.fine);
        says = rw (x.says, xs.says) refl;
        means = λ v names scope around. rw (x.means v names scope around, xs.means v names scope around) refl;
      }

  lay_ors : (fs : Fms) → AreFms fs → (p : ℕ) → LaidAs (write_fms (codes "|")) put_or FineOr says_ors OrsMean fs p
  lay_ors (one_fm f) h p = let x = lay_fm f h p in
      record {
        tree = raw.one (raw.single (raw.prim x.tree));
        end = x.end;
        spelled = x.spelled;
        fine = x.fine;
        says = ap one_fm x.says;
        means = λ v names scope around. rw (x.means v names scope around) refl;
      }
  lay_ors (more_fms f fs) h p =
      let x = lay_fm f h.0 p in
      let xs = lay_ors fs h.1 (((x.end + 1) + 1) + 1) in
      record {
        tree = raw.or (raw.single (raw.prim x.tree)) (x.end + 1) xs.tree;
        end = xs.end;
        spelled = λ rest. x.spelled (between (codes "|") (write_fms (codes "|") fs rest))
            ∙ ap (put_prim x.tree) (behind_mark t.Or (x.end + 1) _ _ (xs.spelled rest));
        fine = (refl, x.fine, xs.fine);
        says = rw (x.says, xs.says) refl;
        means = λ v names scope around. rw (x.means v names scope around, xs.means v names scope around) refl;
      }

  lay_tm : (x : Tm) → IsTm x → (p : ℕ) → LaidAs write_tm put_factor FineFactor says_factor TmMeans x p
  lay_tm (application n no_tms) h p =
      record {
        tree = raw.value (raw.constant (name n p));
        end = p + length n;
        spelled = λ rest. rw h.0.free refl;
        fine = tt;
        says = refl;
        means = λ v names scope around. node_means v around (meaning_at names scope (name n p) 0) named.no_terms;
      }
  lay_tm (application n (some_tms x xs)) h p =
      let bracket = open_round n (p + length n) in
      let first = lay_tm x h.1.0 bracket.end in
      let more = lay_others xs h.1.1 first.end in
      record {
        tree = raw.value (raw.apply (name n p) bracket.place (more.join (as_term first.tree)) more.end);
        end = more.end + 1;
        spelled = λ rest.
            rw h.0.free (ap (put_name (name n p))
            (bracket.spelled (write_tm x (write_others xs (sign (codes ")") ∷ rest)))
            ∙ behind_mark t.Open bracket.place _ _ (first.spelled (write_others xs (sign (codes ")") ∷ rest))
            ∙ more.spelled (as_term first.tree) (sign (codes ")") ∷ rest))));
        fine = more.fine (as_term first.tree) first.fine;
        says = rw (more.says (as_term first.tree), first.says) refl;
        means = λ v names scope around. node_means v around
            (meaning_at names scope (name n p) (terms_count (more.join (as_term first.tree))))
            (named_terms names scope (more.join (as_term first.tree)))
            ∙ rw (
              more.count_of (as_term first.tree),
              more.means (as_term first.tree) v names scope around,
              first.means v names scope around,
            ) refl;
      }
  lay_tm (integer n) h p =
      record {
        tree = raw.integer n p;
        end = p + length (decimal n);
        spelled = λ rest. rw (value_read n h) refl;
        fine = tt;
        says = refl;
        means = λ v names scope around. refl;
      }
  lay_tm (summation true x no_summands) h p =
      let y = lay_tm x h.1 ((p + 1) + 1) in
      record {
        tree = raw.brackets p (as_term (raw.negative (p + 1) y.tree)) y.end;
        end = y.end + 1;
        spelled = λ rest. behind_mark t.Open p _ _
            (behind_mark (t.Add adding.Minus) (p + 1) _ _ (y.spelled (sign (codes ")") ∷ rest)));
        fine = y.fine;
        says = rw y.says refl;
        means = λ v names scope around. rw (y.means v names scope around) refl;
      }
  lay_tm (summation true x (more_summands m y ss)) h p = absurd h.0
  lay_tm (summation false x no_summands) h p = absurd h.0
  lay_tm (summation false x (more_summands m y ss)) h p =
      let first = lay_tm x h.1 (p + 1) in
      let second = lay_tm y h.2.0 (((first.end + 1) + length (add_text m)) + 1) in
      let more = lay_summands ss h.2.1 second.end in
      record {
        tree = raw.brackets p (raw.sum (raw.factor first.tree) (adding_of m) (first.end + 1)
            (more.join (raw.factor second.tree))) more.end;
        end = more.end + 1;
        spelled = λ rest.
            behind_mark t.Open p _ _
            (first.spelled (between (add_text m) (write_tm y (write_summands ss (sign (codes ")") ∷ rest))))
            ∙ ap (put_factor first.tree)
            (add_between m first.end (write_tm y (write_summands ss (sign (codes ")") ∷ rest)))
            ∙ behind_mark (t.Add (adding_of m)) (first.end + 1) _ _
            (second.spelled (write_summands ss (sign (codes ")") ∷ rest))
            ∙ more.spelled (raw.factor second.tree) (sign (codes ")") ∷ rest))));
        fine = (first.fine, more.fine (raw.factor second.tree) second.fine);
        says = rw (
          more.says (is_minus (adding_of m)) (raw.factor second.tree),
          first.says,
          second.says,
          add_minus m,
        ) refl;
        means = λ v names scope around.
            rw (
              more.means (adding_of m) (raw.factor second.tree) v names scope around,
              first.means v names scope
                  around,
              second.means v names scope around,
              add_minus m,
            ) refl;
      }
  lay_tm (product x fs) h p =
      let first = lay_tm x h.0 (p + 1) in
      let more = lay_factors fs h.1 (((first.end + 1) + 1) + 1) in
      record {
        tree = raw.brackets p (raw.product (raw.times first.tree (first.end + 1) more.tree)) more.end;
        end = more.end + 1;
        spelled = λ rest.
            behind_mark t.Open p _ _ (first.spelled (between (codes "*") (write_factors fs (sign (codes ")") ∷ rest)))
            ∙ ap (put_factor first.tree)
            (behind_mark t.Times (first.end + 1) _ _ (more.spelled (sign (codes ")") ∷ rest))));
        fine = (first.fine, more.fine);
        says = rw (first.says, more.says) refl;
        means = λ v names scope around. rw (first.means v names scope around, more.means v names scope around) refl;
      }
  lay_tm (count vs f) h p =
      let xs = lay_binders vs h.0 ((p + 1) + 1) in
      let x = lay_fm f h.1 ((xs.end + 1) + 1) in
      record {
        tree = raw.count p (p + 1) xs.tree xs.end (as_formula x.tree) x.end;
        end = x.end + 1;
        spelled = λ rest.
            behind_mark t.Count p _ _
            (behind_mark t.OpenBrace (p + 1) _ _
            (xs.spelled (sign (codes ":") ∷ space ∷ write_fm f (sign (codes "}") ∷ rest))
            ∙ ap (put_vars xs.tree) (behind_mark t.Colon xs.end _ _ (x.spelled (sign (codes "}") ∷ rest)))));
        fine = x.fine;
        says = rw (xs.says, x.says) refl;
        means = λ v names scope around. let ps =
            aggregate_parts v.symbols (named_prim names (within scope xs.tree) x.tree) (named.at p (named.integer 1)) in
            rw (
              vars_mean vs xs.tree xs.means v names around ps,
              body_means vs xs.tree xs.means f x.tree x.means v names
                  scope around ps,
            ) refl;
      }
  lay_tm (aggregate a vs f y) h p =
      let q : ℕ = p + length (aggregate_word a) in
      let xs = lay_binders vs h.0 (q + 1) in
      let x = lay_fm f h.1 ((xs.end + 1) + 1) in
      let weight = lay_tm y h.2 ((x.end + 1) + 1) in
      record {
        tree = raw.aggregate a p q xs.tree xs.end (as_formula x.tree) x.end (as_term weight.tree) weight.end;
        end = weight.end + 1;
        spelled = λ rest.
            rw (aggregate_mark a) (behind_mark (t.Aggregate a) p _ _
            (behind_mark t.OpenBrace q _ _
            (xs.spelled (sign (codes ":") ∷ space ∷ write_fm f
            (sign (codes ":") ∷ space ∷ write_tm y (sign (codes "}") ∷ rest)))
            ∙ ap (put_vars xs.tree)
            (behind_mark t.Colon xs.end _ _
            (x.spelled (sign (codes ":") ∷ space ∷ write_tm y (sign (codes "}") ∷ rest))
            ∙ ap (put_prim x.tree) (behind_mark t.Colon x.end _ _ (weight.spelled (sign (codes "}") ∷ rest))))))));
        fine = (x.fine, weight.fine);
        says = rw (xs.says, x.says, weight.says) refl;
        means = λ v names scope around. let ps =
            aggregate_parts v.symbols (named_prim names (within scope xs.tree) x.tree)
            (named_factor names (within scope xs.tree) weight.tree) in
            rw (
              vars_mean vs xs.tree xs.means v names around ps,
              body_means vs xs.tree xs.means f x.tree x.means v names
                  scope around ps,
              weight_means vs xs.tree xs.means y weight.tree weight.means v names scope around ps,
            ) refl;
      }

  lay_others : (xs : Others) → AreOthers xs → (p : ℕ) → LaidOthers xs p
  lay_others no_others h p = record {
    join = raw.final;
    end = p;
    spelled = λ y rest. refl;
    fine = λ y fine. fine;
    says = λ y. refl;
    says_more = λ y. refl;
    count_of = λ y. refl;
    means = λ y v names scope around. refl;
  }
  lay_others (more_others x xs) h p =
      let first = lay_tm x h.0 (p + 1) in
      let more = lay_others xs h.1 first.end in
      record {
        join = λ y. raw.then y p (more.join (as_term first.tree));
        end = more.end;
        spelled = λ y rest. ap (put_term y)
            (behind_mark t.Comma p _ _ (first.spelled (write_others xs rest) ∙ more.spelled (as_term first.tree) rest));
        fine = λ y fine. (fine, more.fine (as_term first.tree) first.fine);
        says = λ y. rw (more.says_more (as_term first.tree), first.says) refl;
        says_more = λ y. rw (more.says_more (as_term first.tree), first.says) refl;
        count_of = λ y. rw (more.count_of (as_term first.tree)) refl;
        means = λ y v names scope around.
            rw (more.means (as_term first.tree) v names scope around, first.means v names scope around) refl;
      }

  lay_summands : (ss : Summands) → AreSummands ss → (p : ℕ) → LaidSummands ss p
  lay_summands no_summands h p = record {
    join = raw.product;
    end = p;
    spelled = λ y rest. refl;
    fine = λ y fine. fine;
    says = λ m y. refl;
    means = λ a y v names scope around. refl;
  }
  lay_summands (more_summands m x ss) h p =
      let first = lay_tm x h.0 (((p + 1) + length (add_text m)) + 1) in
      let more = lay_summands ss h.1 first.end in
      record {
        join = λ y. raw.sum y (adding_of m) (p + 1) (more.join (raw.factor first.tree));
        end = more.end;
        spelled = λ y rest.
            ap (put_product y) (add_between m p (write_tm x (write_summands ss rest))
            ∙ behind_mark (t.Add (adding_of m)) (p + 1) _ _ (first.spelled (write_summands ss rest)
            ∙ more.spelled (raw.factor first.tree) rest));
        fine = λ y fine. (fine, more.fine (raw.factor first.tree) first.fine);
        says = λ k y. rw (more.says (is_minus (adding_of m)) (raw.factor first.tree), first.says, add_minus m) refl;
        means = λ a y v names scope around.
            rw (
              more.means (adding_of m) (raw.factor first.tree) v names scope around,
              first.means v names scope around,
              add_minus m,
            ) refl;
      }

  lay_factors : (fs : Factors) → AreFactors fs → (p : ℕ)
      → LaidAs write_factors put_product FineProduct says_factors FactorsMean fs p
  lay_factors (one_factor x) h p = let y = lay_tm x h p in
      record {
        tree = raw.factor y.tree;
        end = y.end;
        spelled = y.spelled;
        fine = y.fine;
        says = ap one_factor y.says;
        means = λ v names scope around. rw (y.means v names scope around) refl;
      }
  lay_factors (more_factors x xs) h p =
      let first = lay_tm x h.0 p in
      let more = lay_factors xs h.1 (((first.end + 1) + 1) + 1) in
      record {
        tree = raw.times first.tree (first.end + 1) more.tree;
        end = more.end;
        spelled = λ rest. first.spelled (between (codes "*") (write_factors xs rest))
            ∙ ap (put_factor first.tree) (behind_mark t.Times (first.end + 1) _ _ (more.spelled rest));
        fine = (first.fine, more.fine);
        says = rw (first.says, more.says) refl;
        means = λ v names scope around. rw (first.means v names scope around, more.means v names scope around) refl;
      }
