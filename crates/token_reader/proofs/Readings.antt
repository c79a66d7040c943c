-- The machine reads every tree.
use Rattle.std.proofs.Common.{◌≡◌, ℕ, List, ◌∷◌, refl, sym, ◌∙◌}
use Rattle.grammar.specs.declared.terminal.Terminal.TheVariants as t
use Rattle.grammar.specs.declared.terminal.Arrow.{Arrow}
use Rattle.grammar.specs.Terminals.{Tok, sign}
use Rattle.grammar.specs.Trees.{name, Formula, alone, linked, Links, last, link, Or, one, or, And, single, and, Unary}
use Rattle.grammar.specs.Trees.{not, every, some, prim, Prim, group, truth, atom, compare, Term, product, sum}
use Rattle.grammar.specs.Trees.{Product, factor, times, Factor, integer, value, brackets, negative, count, aggregate}
use Rattle.grammar.specs.Trees.{App, constant, empty, apply, Terms, final, then}
use Rattle.grammar.specs.Spelling.{put_formula, put_links, put_or, put_and, put_unary, put_prim, put_term}
use Rattle.grammar.specs.Spelling.{put_product, put_factor, put_app, put_terms}
use Rattle.grammar.specs.Fine.{FineFormula, FineLinks, FineOr, FineAnd, FineUnary, FinePrim, FineTerm, FineProduct}
use Rattle.grammar.specs.Fine.{FineFactor, FineApp, FineTerms}
use Rattle.token_reader.specs.Sorts.{app_formula, app_term, app_product, app_factor}
use Rattle.token_reader.proofs.Ends.{terms_no_close}
use Rattle.token_reader.specs.Signs.{next, No}
use Rattle.token_reader.proofs.Signs.{no_sign}
use Rattle.token_reader.specs.Parts.{EndsFactor}
use Rattle.token_reader.specs.Machine as m
use Rattle.token_reader.specs.Machine.{Chain, unsettled, fresh, chained, Mode, in_term, in_formula, Sort, formula, term}
use Rattle.token_reader.specs.Machine.{either, Frame, need, want, done, named, args_first, args, paren, close_brace}
use Rattle.token_reader.specs.Machine.{fold_colon, colon, vars_first, number_first, on, run, advance, settled}
use Rattle.token_reader.specs.Modes.{term_sort, formula_sort, mode_formula, mode_links, mode_or, mode_and, mode_unary}
use Rattle.token_reader.specs.Modes.{mode_prim, sort_formula, sort_links, sort_or, sort_and, sort_unary, sort_prim}
use Rattle.token_reader.proofs.Behind.{connects_unary, connects_and, links_or, link_same, ends_formula, opens_formula}
use Rattle.token_reader.proofs.Runs.{run_vars, run_number, named_done, args_want, run_times, run_add}
use Rattle.token_reader.proofs.Runs.{run_compare, run_and_sign, run_or_sign, run_arrow, run_shut, Linkable, link_first}

pub args_open : (xs : Terms) (q : ℕ) (ts : List Tok) → No t.Close (next (put_terms xs (sign t.Close q ∷ ts)))
args_open xs q ts = no_sign t.Close (put_terms xs (sign t.Close q ∷ ts))
    (λ i us e. terms_no_close xs i us (sign t.Close q ∷ ts) (sym e))

mutual
  pub read_formula : (c : Chain) → Linkable c → (f : Formula) → FineFormula f → (σ : List Frame) (ts : List Tok)
      → EndsFactor ts → run (on (need c ∷ σ)) (put_formula f ts)
      ≡ run (on (done (mode_formula c f) (sort_formula f) ∷ σ)) ts
  read_formula c l (alone o) h σ ts z = read_or c o h σ ts z
  read_formula c l (linked a o p os) h σ ts z =
      read_or c o h.1 σ (sign (t.Arrow a) p ∷ put_links a os ts) tt ∙ run_arrow a (mode_or c o) (sort_or o) (chained a)
      (links_or a c o h.0 ∙ link_first c l a) σ p (put_links a os ts) ∙ read_links a os h.2 σ ts z

  pub read_links : (a : Arrow) (os : Links) → FineLinks os → (σ : List Frame) (ts : List Tok) → EndsFactor ts
      → run (on (need (chained a) ∷ σ)) (put_links a os ts) ≡ run (on (done (mode_links a os) (sort_links os) ∷ σ)) ts
  read_links a (last o) h σ ts z = read_or (chained a) o h σ ts z
  read_links a (link o p os) h σ ts z =
      read_or (chained a) o h.1 σ (sign (t.Arrow a) p ∷ put_links a os ts) tt ∙ run_arrow a (mode_or (chained a) o)
      (sort_or o) (chained a) (links_or a (chained a) o h.0 ∙ link_same a) σ p (put_links a os ts)
      ∙ read_links a os h.2 σ ts z

  pub read_or : (c : Chain) (o : Or) → FineOr o → (σ : List Frame) (ts : List Tok) → EndsFactor ts
      → run (on (need c ∷ σ)) (put_or o ts) ≡ run (on (done (mode_or c o) (sort_or o) ∷ σ)) ts
  read_or c (one a) h σ ts z = read_and c a h σ ts z
  read_or c (or a p o) h σ ts z =
      read_and c a h.1 σ (sign t.Or p ∷ put_or o ts) tt ∙ run_or_sign (mode_and c a) (sort_and a) (settled c)
      (connects_and c a h.0) σ p (put_or o ts) ∙ read_or (settled c) o h.2 σ ts z

  pub read_and : (c : Chain) (a : And) → FineAnd a → (σ : List Frame) (ts : List Tok) → EndsFactor ts
      → run (on (need c ∷ σ)) (put_and a ts) ≡ run (on (done (mode_and c a) (sort_and a) ∷ σ)) ts
  read_and c (single u) h σ ts z = read_unary c u h σ ts z
  read_and c (and u p a) h σ ts z =
      read_unary c u h.1 σ (sign t.And p ∷ put_and a ts) tt ∙ run_and_sign (mode_unary c u) (sort_unary u) (settled c)
      (connects_unary c u h.0) σ p (put_and a ts) ∙ read_and (settled c) a h.2 σ ts z

  pub read_unary : (c : Chain) (u : Unary) → FineUnary u → (σ : List Frame) (ts : List Tok) → EndsFactor ts
      → run (on (need c ∷ σ)) (put_unary u ts) ≡ run (on (done (mode_unary c u) (sort_unary u) ∷ σ)) ts
  read_unary c (not p u) h σ ts z = read_unary (settled c) u h σ ts z
  read_unary c (every p vs q f) h σ ts z = run_vars vs q (need fresh ∷ σ) (put_formula f ts)
      ∙ read_formula fresh tt f h σ ts z
  read_unary c (some p n vs q f) h σ ts z = run_number n h.0 vs (colon ∷ need fresh ∷ σ)
      (sign t.Colon q ∷ put_formula f ts) ∙ run_vars vs q (need fresh ∷ σ) (put_formula f ts)
      ∙ read_formula fresh tt f h.1 σ ts z
  read_unary c (prim x) h σ ts z = read_prim c x h σ ts z

  pub read_prim : (c : Chain) (x : Prim) → FinePrim x → (σ : List Frame) (ts : List Tok) → EndsFactor ts
      → run (on (need c ∷ σ)) (put_prim x ts) ≡ run (on (done (mode_prim c x) (sort_prim x) ∷ σ)) ts
  read_prim c (group p f q) h σ ts z =
      read_formula unsettled tt f h (paren (in_formula c) ∷ σ) (sign t.Close q ∷ ts) tt
      ∙ run_shut t.Close (mode_formula unsettled f) (sort_formula f) (formula_sort (app_formula f)) refl
      (opens_formula f) (paren (in_formula c) ∷ σ) q ts
  read_prim c (truth b p) h σ ts z = refl
  read_prim c (atom a) h σ ts z = need_app c a h σ ts z
  read_prim c (compare x s p y) h σ ts z =
      need_term c x h.0 σ (sign (t.Compare s) p ∷ put_term y ts) tt ∙ run_compare c (app_term x) s σ p (put_term y ts)
      ∙ want_term (m.compared c) y h.1 σ ts z

  -- where a formula may stand as well
  pub need_term : (c : Chain) (x : Term) → FineTerm x → (σ : List Frame) (ts : List Tok) → EndsFactor ts
      → run (on (need c ∷ σ)) (put_term x ts) ≡ run (on (done (in_formula c) (term_sort (app_term x)) ∷ σ)) ts
  need_term c (product x) h σ ts z = need_product c x h σ ts z
  need_term c (sum x s p y) h σ ts z =
      need_product c x h.0 σ (sign (t.Add s) p ∷ put_term y ts) tt ∙ run_add (in_formula c) (app_product x) s σ p
      (put_term y ts) ∙ want_term (in_formula c) y h.1 σ ts z

  pub need_product : (c : Chain) (x : Product) → FineProduct x → (σ : List Frame) (ts : List Tok) → EndsFactor ts
      → run (on (need c ∷ σ)) (put_product x ts) ≡ run (on (done (in_formula c) (term_sort (app_product x)) ∷ σ)) ts
  need_product c (factor x) h σ ts z = need_factor c x h σ ts z
  need_product c (times x p y) h σ ts z =
      need_factor c x h.0 σ (sign t.Times p ∷ put_product y ts) tt ∙ run_times (in_formula c) (app_factor x) σ p
      (put_product y ts) ∙ want_product (in_formula c) y h.1 σ ts z

  pub need_factor : (c : Chain) (x : Factor) → FineFactor x → (σ : List Frame) (ts : List Tok) → EndsFactor ts
      → run (on (need c ∷ σ)) (put_factor x ts) ≡ run (on (done (in_formula c) (term_sort (app_factor x)) ∷ σ)) ts
  need_factor c (integer n p) h σ ts z = refl
  need_factor c (value a) h σ ts z = need_app c a h σ ts z
  need_factor c (brackets p x q) h σ ts z = need_term unsettled x h (paren (in_formula c) ∷ σ) (sign t.Close q ∷ ts) tt
  need_factor c (negative p x) h σ ts z = want_factor (in_formula c) x h σ ts z
  need_factor c (count p b vs d f e) h σ ts z = run_vars vs d (need fresh ∷ close_brace (in_formula c) ∷ σ)
      (put_formula f (sign t.CloseBrace e ∷ ts)) ∙ read_formula fresh tt f h (close_brace (in_formula c) ∷ σ)
      (sign t.CloseBrace e ∷ ts) tt ∙ run_shut t.CloseBrace (mode_formula fresh f) (sort_formula f) formula refl
      (ends_formula fresh tt f) (close_brace (in_formula c) ∷ σ) e ts
  need_factor c (aggregate a p b vs d f i x e) h σ ts z =
      run_vars vs d (need fresh ∷ fold_colon (in_formula c) ∷ σ)
      (put_formula f (sign t.Colon i ∷ put_term x (sign t.CloseBrace e ∷ ts)))
      ∙ read_formula fresh tt f h.0 (fold_colon (in_formula c) ∷ σ)
      (sign t.Colon i ∷ put_term x (sign t.CloseBrace e ∷ ts)) tt
      ∙ run_shut t.Colon (mode_formula fresh f) (sort_formula f) formula refl (ends_formula fresh tt f)
      (fold_colon (in_formula c) ∷ σ) i (put_term x (sign t.CloseBrace e ∷ ts))
      ∙ want_term in_term x h.1 (close_brace (in_formula c) ∷ σ) (sign t.CloseBrace e ∷ ts) tt

  -- where only a term may stand
  pub want_term : (o : Mode) (x : Term) → FineTerm x → (σ : List Frame) (ts : List Tok) → EndsFactor ts
      → run (on (want o ∷ σ)) (put_term x ts) ≡ run (on (done o term ∷ σ)) ts
  want_term o (product x) h σ ts z = want_product o x h σ ts z
  want_term o (sum x s p y) h σ ts z = want_product o x h.0 σ (sign (t.Add s) p ∷ put_term y ts) tt
      ∙ want_term o y h.1 σ ts z

  pub want_product : (o : Mode) (x : Product) → FineProduct x → (σ : List Frame) (ts : List Tok) → EndsFactor ts
      → run (on (want o ∷ σ)) (put_product x ts) ≡ run (on (done o term ∷ σ)) ts
  want_product o (factor x) h σ ts z = want_factor o x h σ ts z
  want_product o (times x p y) h σ ts z = want_factor o x h.0 σ (sign t.Times p ∷ put_product y ts) tt
      ∙ want_product o y h.1 σ ts z

  pub want_factor : (o : Mode) (x : Factor) → FineFactor x → (σ : List Frame) (ts : List Tok) → EndsFactor ts
      → run (on (want o ∷ σ)) (put_factor x ts) ≡ run (on (done o term ∷ σ)) ts
  want_factor o (integer n p) h σ ts z = refl
  want_factor o (value a) h σ ts z = want_app o a h σ ts z
  want_factor o (brackets p x q) h σ ts z = want_term in_term x h (paren o ∷ σ) (sign t.Close q ∷ ts) tt
  want_factor o (negative p x) h σ ts z = want_factor o x h σ ts z
  want_factor o (count p b vs d f e) h σ ts z = run_vars vs d (need fresh ∷ close_brace o ∷ σ)
      (put_formula f (sign t.CloseBrace e ∷ ts)) ∙ read_formula fresh tt f h (close_brace o ∷ σ)
      (sign t.CloseBrace e ∷ ts) tt ∙ run_shut t.CloseBrace (mode_formula fresh f) (sort_formula f) formula refl
      (ends_formula fresh tt f) (close_brace o ∷ σ) e ts
  want_factor o (aggregate a p b vs d f i x e) h σ ts z =
      run_vars vs d (need fresh ∷ fold_colon o ∷ σ) (put_formula f
      (sign t.Colon i ∷ put_term x (sign t.CloseBrace e ∷ ts))) ∙ read_formula fresh tt f h.0 (fold_colon o ∷ σ)
      (sign t.Colon i ∷ put_term x (sign t.CloseBrace e ∷ ts)) tt
      ∙ run_shut t.Colon (mode_formula fresh f) (sort_formula f) formula refl (ends_formula fresh tt f)
      (fold_colon o ∷ σ) i (put_term x (sign t.CloseBrace e ∷ ts)) ∙ want_term in_term x h.1 (close_brace o ∷ σ)
      (sign t.CloseBrace e ∷ ts) tt

  pub want_app : (o : Mode) (a : App) → FineApp a → (σ : List Frame) (ts : List Tok) → EndsFactor ts
      → run (on (want o ∷ σ)) (put_app a ts) ≡ run (on (done o term ∷ σ)) ts
  want_app o (constant (name w i)) h σ ts z = named_done o term σ ts z
  want_app o (empty (name w i) p q) h σ ts z = refl
  want_app o (apply (name w i) p xs q) h σ ts z = args_want o term σ (put_terms xs (sign t.Close q ∷ ts))
      (args_open xs q ts) ∙ read_terms o term xs h σ q ts

  pub need_app : (c : Chain) (a : App) → FineApp a → (σ : List Frame) (ts : List Tok) → EndsFactor ts
      → run (on (need c ∷ σ)) (put_app a ts) ≡ run (on (done (in_formula c) either ∷ σ)) ts
  need_app c (constant (name w i)) h σ ts z = named_done (in_formula c) either σ ts z
  need_app c (empty (name w i) p q) h σ ts z = refl
  need_app c (apply (name w i) p xs q) h σ ts z = args_want (in_formula c) either σ (put_terms xs (sign t.Close q ∷ ts))
      (args_open xs q ts) ∙ read_terms (in_formula c) either xs h σ q ts

  pub read_terms : (o : Mode) (k : Sort) (xs : Terms) → FineTerms xs → (σ : List Frame) (q : ℕ) (ts : List Tok)
      → run (on (want in_term ∷ args o k ∷ σ)) (put_terms xs (sign t.Close q ∷ ts)) ≡ run (on (done o k ∷ σ)) ts
  read_terms o k (final x) h σ q ts = want_term in_term x h (args o k ∷ σ) (sign t.Close q ∷ ts) tt
  read_terms o k (then x p xs) h σ q ts = want_term in_term x h.0 (args o k ∷ σ)
      (sign t.Comma p ∷ put_terms xs (sign t.Close q ∷ ts)) tt ∙ read_terms o k xs h.1 σ q ts
