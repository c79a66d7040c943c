-- Variables, applications, terms and formulas as formats, by what follows them in a block.
use Rattle.std.proofs.Common.{◌≡◌, ℕ, List, [], ◌∷◌, true, Option, Some, None, subst}
use Rattle.grammar.specs.declared.terminal.Terminal.TheVariants as t
use Rattle.grammar.specs.declared.terminal.Outer.TheVariants as o
use Rattle.grammar.specs.Terminals.{Symbol, Tok, tok_at, mark, sign}
use Rattle.grammar.specs.Trees.{name, untyped, typed, Vars, var, beside, comma, Formula, alone, linked, Or, one, or}
use Rattle.grammar.specs.Trees.{And, single, and, Unary, not, every, some, prim, Prim, group, truth, atom, compare}
use Rattle.grammar.specs.Trees.{Term, product, sum, Product, factor, times, Factor, integer, value, brackets}
use Rattle.grammar.specs.Trees.{negative, count, aggregate, App, constant, empty, apply}
use Rattle.grammar.specs.Spelling.{put_vars, put_formula, put_links, put_or, put_and, put_unary, put_prim, put_term}
use Rattle.grammar.specs.Spelling.{put_product, put_factor, put_app}
use Rattle.grammar.specs.Fine.{FineFormula, FineTerm, FineApp}
use Rattle.token_reader.specs.Parts.{EndsFactor, EndsTerm}
use Rattle.block_reader.specs.BlockParts.{Anything}
use Rattle.token_reader.specs.Signs.{next, Is, AWord}
use Rattle.fo_reader.specs.TheoryReads.{EndsApp, EndsSum}
use Rattle.token_reader.proofs.Append.{vars-append, formula-append, term-append, app-append}
use Rattle.token_reader.proofs.Ends.{EndsVars, EndsFormula, all_stop_formula}
use Rattle.token_reader.proofs.Only.{only_vars, only_formula, only_term, only_app}
use Rattle.block_reader.proofs.Formats.{Format, Law}

-- what is so wherever this symbol comes
came : (P : List Tok → Type 0) (r : Symbol) → ((p : ℕ) (us : List Tok) → P (tok_at r p ∷ us)) → (ts : List Tok)
    → next ts ≡ Some r → P ts
came P r f [] e = absurd (cc)
came P r f (tok_at s p ∷ ts) e = let g : r ≡ s = cc in subst (λ (x : Symbol). P (tok_at x p ∷ ts)) g (f p ts)

-- ---- variables

vars_first : (a : Vars) (ts : List Tok) → AWord (next (put_vars a ts))
vars_first (var (untyped (name w p))) ts = tt
vars_first (var (typed (name w p) q n r)) ts = tt
vars_first (beside (untyped (name w p)) vs) ts = tt
vars_first (beside (typed (name w p) q n r) vs) ts = tt
vars_first (comma (untyped (name w p)) i vs) ts = tt
vars_first (comma (typed (name w p) q n r) i vs) ts = tt

vars_ended : (ts : List Tok) → Is t.Colon (next ts) → EndsVars ts
vars_ended ts e = came EndsVars (mark t.Colon) (λ p us. tt) ts e

abbrev pub vars_format : Format Vars
vars_format = record { put = put_vars; Fine = λ x. Unit {0}; First = AWord; Next = Is t.Colon }

pub vars_law : Law vars_format
vars_law = record {
  some = var (untyped (name [] 0));
  some_fine = tt;
  appends = vars-append;
  first = λ a ts h n. vars_first a ts;
  only = λ a b m n h k z w e. only_vars a b m n (vars_ended m z) (vars_ended n w) e;
}

-- ---- applications

pub app_ended : (ts : List Tok) → EndsApp (next ts) → EndsFactor ts
app_ended [] h = tt
app_ended (tok_at (mark t.Open) p ∷ ts) h = h
app_ended (tok_at s p ∷ ts) h = tt

pub ended_app : (ts : List Tok) → EndsFactor ts → EndsApp (next ts)
ended_app [] h = tt
ended_app (tok_at (mark t.Open) p ∷ ts) h = h
ended_app (tok_at s p ∷ ts) h = tt

app_first : (a : App) (ts : List Tok) → AWord (next (put_app a ts))
app_first (constant (name w p)) ts = tt
app_first (empty (name w i) p q) ts = tt
app_first (apply (name w i) p xs q) ts = tt

abbrev pub app_format : Format App
app_format = record { put = put_app; Fine = FineApp; First = AWord; Next = EndsApp }

pub app_law : Law app_format
app_law = record {
  some = constant (name [] 0);
  some_fine = tt;
  appends = app-append;
  first = λ a ts h n. app_first a ts;
  only = λ a b m n h k z w e. only_app a b m n h k (app_ended m z) (app_ended n w) e;
}

-- ---- terms

pub term_ended : (ts : List Tok) → EndsSum (next ts) → EndsTerm ts
term_ended [] h = tt
term_ended (tok_at (mark t.Open) p ∷ ts) h = h
term_ended (tok_at (mark t.Times) p ∷ ts) h = h
term_ended (tok_at (mark (t.Add s)) p ∷ ts) h = h
term_ended (tok_at s p ∷ ts) h = tt

pub ended_term : (ts : List Tok) → EndsTerm ts → EndsSum (next ts)
ended_term [] h = tt
ended_term (tok_at (mark t.Open) p ∷ ts) h = h
ended_term (tok_at (mark t.Times) p ∷ ts) h = h
ended_term (tok_at (mark (t.Add s)) p ∷ ts) h = h
ended_term (tok_at s p ∷ ts) h = tt

abbrev pub term_format : Format Term
term_format = record { put = put_term; Fine = FineTerm; First = Anything; Next = EndsSum }

pub term_law : Law term_format
term_law = record {
  some = product (factor (integer 0 0));
  some_fine = tt;
  appends = term-append;
  first = λ a ts h n. tt;
  only = λ a b m n h k z w e. only_term a b m n h k (term_ended m z) (term_ended n w) e;
}

-- ---- formulas

-- neither the end nor a sign that stands outside formulas comes, nor a brace
abbrev pub BeginsFormula : Option Symbol → Type 0
BeginsFormula None = ⊥
BeginsFormula (Some (mark t.OpenBrace)) = ⊥
BeginsFormula (Some (mark t.CloseBrace)) = ⊥
BeginsFormula (Some (mark (t.Outer w))) = ⊥
BeginsFormula _ = Unit {0}

begins_app : (a : App) (ts : List Tok) → BeginsFormula (next (put_app a ts))
begins_app (constant (name w p)) ts = tt
begins_app (empty (name w i) p q) ts = tt
begins_app (apply (name w i) p xs q) ts = tt

begins_factor : (x : Factor) (ts : List Tok) → BeginsFormula (next (put_factor x ts))
begins_factor (integer n p) ts = tt
begins_factor (value a) ts = begins_app a ts
begins_factor (brackets p x q) ts = tt
begins_factor (negative p x) ts = tt
begins_factor (count p b vs c f e) ts = tt
begins_factor (aggregate a p b vs c f d x e) ts = tt

begins_product : (x : Product) (ts : List Tok) → BeginsFormula (next (put_product x ts))
begins_product (factor x) ts = begins_factor x ts
begins_product (times x p y) ts = begins_factor x (sign t.Times p ∷ put_product y ts)

begins_term : (x : Term) (ts : List Tok) → BeginsFormula (next (put_term x ts))
begins_term (product x) ts = begins_product x ts
begins_term (sum x s p y) ts = begins_product x (sign (t.Add s) p ∷ put_term y ts)

begins_prim : (x : Prim) (ts : List Tok) → BeginsFormula (next (put_prim x ts))
begins_prim (group p f q) ts = tt
begins_prim (truth b p) ts = tt
begins_prim (atom a) ts = begins_app a ts
begins_prim (compare x c p y) ts = begins_term x (sign (t.Compare c) p ∷ put_term y ts)

begins_unary : (u : Unary) (ts : List Tok) → BeginsFormula (next (put_unary u ts))
begins_unary (not p u) ts = tt
begins_unary (every p vs q f) ts = tt
begins_unary (some p n vs q f) ts = tt
begins_unary (prim x) ts = begins_prim x ts

begins_and : (a : And) (ts : List Tok) → BeginsFormula (next (put_and a ts))
begins_and (single u) ts = begins_unary u ts
begins_and (and u p a) ts = begins_unary u (sign t.And p ∷ put_and a ts)

begins_or : (x : Or) (ts : List Tok) → BeginsFormula (next (put_or x ts))
begins_or (one a) ts = begins_and a ts
begins_or (or a p x) ts = begins_and a (sign t.Or p ∷ put_or x ts)

begins_formula : (f : Formula) (ts : List Tok) → BeginsFormula (next (put_formula f ts))
begins_formula (alone x) ts = begins_or x ts
begins_formula (linked a x p os) ts = begins_or x (sign (t.Arrow a) p ∷ put_links a os ts)

formula_ended : (ts : List Tok) → Is (t.Outer o.Dot) (next ts) → EndsFormula ts
formula_ended ts e = came EndsFormula (mark (t.Outer o.Dot)) (λ p us. tt) ts e

-- with a . after it
abbrev pub formula_format : Format Formula
formula_format = record { put = put_formula; Fine = FineFormula; First = BeginsFormula; Next = Is (t.Outer o.Dot) }

pub formula_law : Law formula_format
formula_law = record {
  some = alone (one (single (prim (truth true 0))));
  some_fine = tt;
  appends = formula-append;
  first = λ a ts h n. begins_formula a ts;
  only = λ a b m n h k z w e. only_formula a b m n h k (all_stop_formula a m (formula_ended m z))
      (all_stop_formula b n (formula_ended n w)) e;
}
