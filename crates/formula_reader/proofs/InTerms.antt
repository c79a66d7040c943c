-- Where a part of a term is stuck.
use Rattle.std.proofs.Common.{◌≡◌, ℕ, List, [], ◌∷◌, ◌++◌, Bool, false, Result, Ok, Err, Bor, refl, sym, ap, ◌∙◌}
use Rattle.grammar.specs.declared.stops.ReadError.{ReadError}
use Rattle.grammar.specs.declared.terminal.Item.{Item}
use Rattle.grammar.specs.declared.raw.RawTermTree.{RawTermTree}
use Rattle.grammar.specs.declared.terminal.Terminal.TheVariants as t
use Rattle.grammar.specs.declared.terminal.Adding.{Adding}
use Rattle.grammar.specs.Terminals.{Tok, tok_at, mark, sign}
use Rattle.grammar.specs.Trees.{Name, name, var, untyped, Term, product, sum, Product, factor, times, Factor}
use Rattle.grammar.specs.Trees.{brackets, apply, Terms, final, then}
use Rattle.grammar.specs.Spelling.{put_name, put_term, put_product, put_factor, put_app, put_terms}
use Rattle.grammar.specs.Fine.{FineTerm, FineProduct, FineFactor, FineApp, FineTerms}
use Rattle.token_reader.specs.Sorts.{app_term, app_product}
use Rattle.token_reader.specs.Machine.{Frame, want, done, named, args, paren, close_brace, colon, brace, vars_first}
use Rattle.token_reader.specs.Machine.{Mode, in_term, Sort, term, on, stuck, run}
use Rattle.token_reader.specs.Modes.{term_sort}
use Rattle.grammar.specs.View.{terms_of, product_of, term_of}
use Rattle.token_reader.specs.Parts.{EndsFactor, EndsTerm, NoAdd, Position, wanted, needed}
use Rattle.token_reader.specs.Signs.{next, No, Is, Absent, SignRead}
use Rattle.token_reader.specs.Parts.{at_position, mode_at, sort_at, at_factor, at_either, at_vars, Fails}
use Rattle.token_reader.specs.Binders.{Binder, binder, put_binder, Whole}
use Rattle.formula_reader.specs.Chains.{MoreTerms}
use Rattle.formula_reader.specs.Results.{Opening, opening, put_opening, at_opening, TermIs, SumRead, TermRead}
use Rattle.token_reader.proofs.Append.{name-append, term-append, product-append, terms-append}
use Rattle.token_reader.proofs.Ends.{terms_no_close}
use Rattle.token_reader.proofs.Runs.{args_want, run_times, run_add}
use Rattle.token_reader.proofs.Signs.{no_sign}
use Rattle.token_reader.proofs.Readings.{want_term, want_product, need_term, need_product}
use Rattle.token_reader.proofs.Inside.{Context, fails_in, lacks_fails}

pub term_no_args : (ts : List Tok) → EndsTerm ts → EndsFactor ts
term_no_args [] h = tt
term_no_args (tok_at (mark t.Open) p ∷ ts) h = elim h [ ]
term_no_args (tok_at s p ∷ ts) h = tt

-- ---- after a term another token than the one that has to come

pub paren_stuck : (o : Mode) (σ : List Frame) (ts : List Tok) → EndsTerm ts
    → ((p : ℕ) (us : List Tok) → ts ≡ sign t.Close p ∷ us → ⊥)
    → run (on (done in_term term ∷ paren o ∷ σ)) ts ≡ stuck ts
paren_stuck o σ [] z h = refl
paren_stuck o σ (tok_at (mark t.Open) p ∷ ts) z h = elim z [ ]
paren_stuck o σ (tok_at (mark t.Times) p ∷ ts) z h = elim z [ ]
paren_stuck o σ (tok_at (mark (t.Add s)) p ∷ ts) z h = elim z [ ]
paren_stuck o σ (tok_at (mark t.Close) p ∷ ts) z h = absurd (h p ts refl)
paren_stuck o σ (tok_at s p ∷ ts) z h = refl

pub args_stuck : (o : Mode) (k : Sort) (σ : List Frame) (ts : List Tok) → EndsTerm ts → No t.Comma (next ts)
    → ((p : ℕ) (us : List Tok) → ts ≡ sign t.Close p ∷ us → ⊥)
    → run (on (done in_term term ∷ args o k ∷ σ)) ts ≡ stuck ts
args_stuck o k σ [] z n h = refl
args_stuck o k σ (tok_at (mark t.Open) p ∷ ts) z n h = elim z [ ]
args_stuck o k σ (tok_at (mark t.Times) p ∷ ts) z n h = elim z [ ]
args_stuck o k σ (tok_at (mark (t.Add s)) p ∷ ts) z n h = elim z [ ]
args_stuck o k σ (tok_at (mark t.Comma) p ∷ ts) z n h = absurd (n refl)
args_stuck o k σ (tok_at (mark t.Close) p ∷ ts) z n h = absurd (h p ts refl)
args_stuck o k σ (tok_at s p ∷ ts) z n h = refl

pub brace_stuck : (o : Mode) (σ : List Frame) (ts : List Tok) → EndsTerm ts
    → ((p : ℕ) (us : List Tok) → ts ≡ sign t.CloseBrace p ∷ us → ⊥) → run (on (done in_term term ∷ close_brace o ∷ σ))
    ts ≡ stuck ts
brace_stuck o σ [] z h = refl
brace_stuck o σ (tok_at (mark t.Open) p ∷ ts) z h = elim z [ ]
brace_stuck o σ (tok_at (mark t.Times) p ∷ ts) z h = elim z [ ]
brace_stuck o σ (tok_at (mark (t.Add s)) p ∷ ts) z h = elim z [ ]
brace_stuck o σ (tok_at (mark t.CloseBrace) p ∷ ts) z h = absurd (h p ts refl)
brace_stuck o σ (tok_at s p ∷ ts) z h = refl

open_brace_stuck : (τ : List Frame) (ts : List Tok) → ((p : ℕ) (us : List Tok) → ts ≡ sign t.OpenBrace p ∷ us → ⊥)
    → run (on (brace ∷ τ)) ts ≡ stuck ts
open_brace_stuck τ [] h = refl
open_brace_stuck τ (tok_at (mark t.OpenBrace) p ∷ ts) h = absurd (h p ts refl)
open_brace_stuck τ (tok_at s p ∷ ts) h = refl

-- ---- brackets

pub in_brackets : (p : ℕ) (us : List Tok) → Context at_factor put_term FineTerm at_factor put_factor FineFactor
    (sign t.Open p ∷ us) us
in_brackets p us = record {
  before = λ x. sign t.Open p ∷ x;
  appends = λ x y. refl;
  split = refl;
  enters = λ m σ. (in_term, paren m ∷ σ, refl);
  wraps = λ after. (sign t.Close 0 ∷ after, λ a h. (brackets p a 0, h, refl));
}

pub unclosed_brackets : (p : ℕ) (x : Term) (us rest : List Tok) (len : ℕ) (e : ReadError) → TermIs us x rest
    → Absent (Is t.Close) rest len e → Fails at_factor put_factor FineFactor (sign t.Open p ∷ us) len e
unclosed_brackets p x us rest len e is h = lacks_fails at_factor put_factor FineFactor t.Close (sign t.Open p ∷ us) rest
    len e (λ (y : List Tok). sign t.Open p ∷ put_term x y)
    (λ y z. ap (λ (v : List Tok). sign t.Open p ∷ v) (term-append x y z))
    (ap (λ (v : List Tok). sign t.Open p ∷ v) is.spelled)
    (λ k m σ. ap (λ (v : List Tok). run (on (want in_term ∷ paren m ∷ σ)) v) is.spelled
    ∙ want_term in_term x is.fine (paren m ∷ σ) rest (term_no_args rest is.ends) ∙ paren_stuck m σ rest is.ends k)
    (λ after. (brackets p x 0, sign t.Close 0 ∷ after, is.fine, refl)) h

-- ---- how an aggregate begins

pub no_brace : (ts : List Tok) (len : ℕ) (e : ReadError) → Absent (Is t.OpenBrace) ts len e
    → Fails at_opening put_opening Whole ts len e
no_brace ts len e h = lacks_fails at_opening put_opening Whole t.OpenBrace ts ts len e (λ (x : List Tok). x)
    (λ x y. refl) refl (λ k j σ. open_brace_stuck (vars_first ∷ colon ∷ σ) ts k)
    (λ after. (some_opening, put_opening some_opening after, tt, refl)) h
  where
    some_opening : Opening
    some_opening = opening 0 (var (untyped (name [] 0))) 0

pub in_opening : (ts us : List Tok) (p : ℕ) → ts ≡ sign t.OpenBrace p ∷ us
    → Context at_vars put_binder Whole at_opening put_opening Whole ts us
in_opening ts us p is = record {
  before = λ x. sign t.OpenBrace p ∷ x;
  appends = λ x y. refl;
  split = is;
  enters = λ j σ. (tt, σ, ap (λ (x : List Tok). run (on (brace ∷ vars_first ∷ colon ∷ σ)) x) is);
  wraps = λ after. (after, λ a h. with_brace a);
}
  where
    with_brace : {after : List Tok} (a : Binder) → (b : Opening) × Whole b × (sign t.OpenBrace p ∷ put_binder a after
        ≡ put_opening b after)
    with_brace (binder vs q) = (opening p vs q, tt, refl)

-- ---- arguments

either_name : (i : Position) (n : Name) (σ : List Frame) (ts : List Tok) → run (on (at_position i ∷ σ)) (put_name n ts)
    ≡ run (on (named (mode_at i) (sort_at i) ∷ σ)) ts
either_name (wanted m) (name w q) σ ts = refl
either_name (needed c) (name w q) σ ts = refl

terms_open : (xs : Terms) (ts : List Tok) → No t.Close (next (put_terms xs ts))
terms_open xs ts = no_sign t.Close (put_terms xs ts) (λ i us e. terms_no_close xs i us ts (sym e))

terms_on : (o : Mode) (k : Sort) (xs : Terms) → FineTerms xs → (σ : List Frame) (ts : List Tok) → EndsFactor ts
    → run (on (want in_term ∷ args o k ∷ σ)) (put_terms xs ts) ≡ run (on (done in_term term ∷ args o k ∷ σ)) ts
terms_on o k (final x) h σ ts z = want_term in_term x h (args o k ∷ σ) ts z
terms_on o k (then x p xs) h σ ts z = want_term in_term x h.0 (args o k ∷ σ) (sign t.Comma p ∷ put_terms xs ts) tt
    ∙ terms_on o k xs h.1 σ ts z

pub terms_join : Terms → ℕ → Terms → Terms
terms_join (final x) p ys = then x p ys
terms_join (then x q xs) p ys = then x q (terms_join xs p ys)

pub terms_join_put : (xs : Terms) (p : ℕ) (ys : Terms) (ts : List Tok) → put_terms (terms_join xs p ys) ts
    ≡ put_terms xs (sign t.Comma p ∷ put_terms ys ts)
unfolding terms_join
terms_join_put (final x) p ys ts = refl
terms_join_put (then x q xs) p ys ts = ap (λ (v : List Tok). put_term x (sign t.Comma q ∷ v))
    (terms_join_put xs p ys ts)

pub terms_join_fine : (xs : Terms) (p : ℕ) (ys : Terms) → FineTerms xs → FineTerms ys → FineTerms (terms_join xs p ys)
unfolding terms_join
terms_join_fine (final x) p ys h k = (h, k)
terms_join_fine (then x q xs) p ys h k = (h.0, terms_join_fine xs p ys h.1 k)

pub terms_push : (x : Term) (xs : List (ℕ × Term)) (p : ℕ) (y : Term) (ts : List Tok)
    → put_terms (terms_of x (xs ++ (p, y) ∷ [])) ts ≡ put_terms (terms_of x xs) (sign t.Comma p ∷ put_term y ts)
terms_push x [] p y ts = refl
terms_push x (z ∷ zs) p y ts = ap (λ (v : List Tok). put_term x (sign t.Comma z.0 ∷ v)) (terms_push z.1 zs p y ts)

pub terms_push_fine : (x : Term) (xs : List (ℕ × Term)) (p : ℕ) (y : Term) → FineTerms (terms_of x xs) → FineTerm y
    → FineTerms (terms_of x (xs ++ (p, y) ∷ []))
terms_push_fine x [] p y h k = (h, k)
terms_push_fine x (z ∷ zs) p y h k = (h.0, terms_push_fine z.1 zs p y h.1 k)

pub in_arguments : (n : Name) (start : ℕ) (items us : List Tok) → items ≡ sign t.Open start ∷ us → No t.Close (next us)
    → Context at_factor put_term FineTerm at_either put_app FineApp (put_name n items) us
in_arguments n start items us is open_still = record {
  before = λ x. put_name n (sign t.Open start ∷ x);
  appends = λ x y. name-append n (sign t.Open start ∷ x) y;
  split = ap (λ (v : List Tok). put_name n v) is;
  enters = λ i σ. (
    in_term,
    args (mode_at i) (sort_at i) ∷ σ,
    either_name i n σ items
        ∙ ap (λ (v : List Tok). run (on (named (mode_at i) (sort_at i) ∷ σ)) v) is
        ∙ args_want (mode_at i) (sort_at i) σ us open_still,
  );
  wraps = λ after. (sign t.Close 0 ∷ after, λ a h. (apply n start (final a) 0, h, refl));
}

-- the way to the place after some arguments
to_terms : (n : Name) (start : ℕ) (xs : Terms) (items us : List Tok) → items ≡ sign t.Open start ∷ put_terms xs us
    → FineTerms xs → EndsFactor us
    → (i : Position) (σ : List Frame) → run (on (at_position i ∷ σ)) (put_name n items)
    ≡ run (on (done in_term term ∷ args (mode_at i) (sort_at i) ∷ σ)) us
to_terms n start xs items us is h z i σ = either_name i n σ items
    ∙ ap (λ (v : List Tok). run (on (named (mode_at i) (sort_at i) ∷ σ)) v) is
    ∙ args_want (mode_at i) (sort_at i) σ (put_terms xs us) (terms_open xs us)
    ∙ terms_on (mode_at i) (sort_at i) xs h σ us z

pub in_further : (n : Name) (start : ℕ) (xs : Terms) (p : ℕ) (items us : List Tok)
    → items ≡ sign t.Open start ∷ put_terms xs (sign t.Comma p ∷ us) → FineTerms xs
    → Context at_factor put_term FineTerm at_either put_app FineApp (put_name n items) us
in_further n start xs p items us is fine = record {
  before = λ x. put_name n (sign t.Open start ∷ put_terms xs (sign t.Comma p ∷ x));
  appends = λ x y. ap (λ (v : List Tok). put_name n (sign t.Open start ∷ v)) (terms-append xs (sign t.Comma p ∷ x) y)
      ∙ name-append n (sign t.Open start ∷ put_terms xs (sign t.Comma p ∷ x)) y;
  split = ap (λ (v : List Tok). put_name n v) is;
  enters = λ i σ. (
    in_term,
    args (mode_at i) (sort_at i) ∷ σ,
    to_terms n start xs items (sign t.Comma p ∷ us) is
        fine tt i σ,
  );
  wraps = λ after. (
    sign t.Close 0 ∷ after,
    λ a h. (
      apply n start (terms_join xs p (final a)) 0,
      terms_join_fine xs p (final a) fine h,
      ap (λ (v : List Tok). put_name n (sign t.Open start ∷ v))
          (sym (terms_join_put xs p (final a) (sign t.Close 0 ∷ after))),
    ),
  );
}

pub unclosed_arguments : (n : Name) (start : ℕ) (xs : Terms) (items us : List Tok) (len : ℕ) (e : ReadError)
    → items ≡ sign t.Open start ∷ put_terms xs us → FineTerms xs → EndsTerm us → No t.Comma (next us)
    → Absent (Is t.Close) us len e → Fails at_either put_app FineApp (put_name n items) len e
unclosed_arguments n start xs items us len e is fine z none h = lacks_fails at_either put_app FineApp t.Close
    (put_name n items) us len e (λ (x : List Tok). put_name n (sign t.Open start ∷ put_terms xs x))
    (λ x y. ap (λ (v : List Tok). put_name n (sign t.Open start ∷ v)) (terms-append xs x y)
    ∙ name-append n (sign t.Open start ∷ put_terms xs x) y) (ap (λ (v : List Tok). put_name n v) is)
    (λ k i σ. to_terms n start xs items us is fine (term_no_args us z) i σ
    ∙ args_stuck (mode_at i) (sort_at i) σ us z none k)
    (λ after. (apply n start xs 0, sign t.Close 0 ∷ after, fine, refl)) h

-- the closing bracket, or what stands in its place
pub closed_arguments : (n : Name) (start : ℕ) (x : Term) (xs : List (ℕ × Term)) (items us : List Tok) (len : ℕ)
    (r : Result (ℕ × Bor (List Item)) ReadError)
    → items ≡ sign t.Open start ∷ put_terms (terms_of x xs) us → FineTerms (terms_of x xs) → EndsTerm us
    → No t.Comma (next us)
    → SignRead t.Close us len r → MoreTerms n items start x xs len r
closed_arguments n start x xs items us len (Ok p) is fine z none read =
    (is ∙ ap (λ (v : List Tok). sign t.Open start ∷ put_terms (terms_of x xs) v) read, fine)
closed_arguments n start x xs items us len (Err e) is fine z none read =
    unclosed_arguments n start (terms_of x xs) items us len e is fine z none read

pub terms_step : (x : Term) (xs : List (ℕ × Term)) (p : ℕ) (y : Term) (start : ℕ) (items rest us last : List Tok)
    → items ≡ sign t.Open start ∷ put_terms (terms_of x xs) rest → rest ≡ sign t.Comma p ∷ us → us ≡ put_term y last
    → items ≡ sign t.Open start ∷ put_terms (terms_of x (xs ++ (p, y) ∷ [])) last
terms_step x xs p y start items rest us last is next h = is ∙ ap (λ (v : List Tok). sign t.Open start ∷ put_terms
    (terms_of x xs) v) (next ∙ ap (λ (v : List Tok). sign t.Comma p ∷ v) h)
    ∙ ap (λ (v : List Tok). sign t.Open start ∷ v) (sym (terms_push x xs p y last))

-- ---- products and sums

-- whether an application was read where a formula may stand as well
pub app_at : Position → Bool → Bool
app_at (wanted m) b = false
app_at (needed c) b = b

either_product : (i : Position) (x : Product) → FineProduct x → (σ : List Frame) (ts : List Tok) → EndsFactor ts
    → run (on (at_position i ∷ σ)) (put_product x ts) ≡ run (on
    (done (mode_at i) (term_sort (app_at i (app_product x))) ∷ σ)) ts
unfolding app_at
either_product (wanted m) x h σ ts z = want_product m x h σ ts z
either_product (needed c) x h σ ts z = need_product c x h σ ts z

either_term : (i : Position) (x : Term) → FineTerm x → (σ : List Frame) (ts : List Tok) → EndsFactor ts
    → run (on (at_position i ∷ σ)) (put_term x ts) ≡ run (on (done (mode_at i) (term_sort (app_at i (app_term x))) ∷ σ))
    ts
unfolding app_at
either_term (wanted m) x h σ ts z = want_term m x h σ ts z
either_term (needed c) x h σ ts z = need_term c x h σ ts z

pub product_join : Product → ℕ → Product → Product
product_join (factor x) p y = times x p y
product_join (times x q z) p y = times x q (product_join z p y)

product_join_put : (x : Product) (p : ℕ) (y : Product) (ts : List Tok) → put_product (product_join x p y) ts
    ≡ put_product x (sign t.Times p ∷ put_product y ts)
unfolding product_join
product_join_put (factor x) p y ts = refl
product_join_put (times x q z) p y ts = ap (λ (v : List Tok). put_factor x (sign t.Times q ∷ v))
    (product_join_put z p y ts)

product_join_fine : (x : Product) (p : ℕ) (y : Product) → FineProduct x → FineProduct y
    → FineProduct (product_join x p y)
unfolding product_join
product_join_fine (factor x) p y h k = (h, k)
product_join_fine (times x q z) p y h k = (h.0, product_join_fine z p y h.1 k)

product_push : (x : Factor) (xs : List (ℕ × Factor)) (p : ℕ) (y : Factor) (ts : List Tok)
    → put_product (product_of x (xs ++ (p, y) ∷ [])) ts ≡ put_product (product_of x xs)
    (sign t.Times p ∷ put_factor y ts)
product_push x [] p y ts = refl
product_push x (z ∷ zs) p y ts = ap (λ (v : List Tok). put_factor x (sign t.Times z.0 ∷ v)) (product_push z.1 zs p y ts)

pub product_push_fine : (x : Factor) (xs : List (ℕ × Factor)) (p : ℕ) (y : Factor) → FineProduct (product_of x xs)
    → FineFactor y → FineProduct (product_of x (xs ++ (p, y) ∷ []))
product_push_fine x [] p y h k = (h, k)
product_push_fine x (z ∷ zs) p y h k = (h.0, product_push_fine z.1 zs p y h.1 k)

pub product_step : (x : Factor) (xs : List (ℕ × Factor)) (p : ℕ) (y : Factor) (ts rest us last : List Tok)
    → ts ≡ put_product (product_of x xs) rest → rest ≡ sign t.Times p ∷ us → us ≡ put_factor y last
    → ts ≡ put_product (product_of x (xs ++ (p, y) ∷ [])) last
product_step x xs p y ts rest us last is next h = is ∙ ap (λ (v : List Tok). put_product (product_of x xs) v)
    (next ∙ ap (λ (v : List Tok). sign t.Times p ∷ v) h) ∙ sym (product_push x xs p y last)

pub in_product : (x : Product) (p : ℕ) (ts us : List Tok) → ts ≡ put_product x (sign t.Times p ∷ us) → FineProduct x
    → Context at_factor put_factor FineFactor at_either put_product FineProduct ts us
in_product x p ts us is fine = record {
  before = λ y. put_product x (sign t.Times p ∷ y);
  appends = λ y z. product-append x (sign t.Times p ∷ y) z;
  split = is;
  enters = λ i σ. (
    mode_at i,
    σ,
    ap (λ (v : List Tok). run (on (at_position i ∷ σ)) v) is
        ∙ either_product i x fine σ (sign t.Times p ∷ us) tt ∙ run_times (mode_at i) (app_at i (app_product x)) σ p us,
  );
  wraps = λ after. (
    after,
    λ a h. (
      product_join x p (factor a),
      product_join_fine x p (factor a) fine h,
      sym (product_join_put x p (factor a) after),
    ),
  );
}

pub term_join : Term → Adding → ℕ → Term → Term
term_join (product x) s p y = sum x s p y
term_join (sum x r q z) s p y = sum x r q (term_join z s p y)

term_join_put : (x : Term) (s : Adding) (p : ℕ) (y : Term) (ts : List Tok) → put_term (term_join x s p y) ts
    ≡ put_term x (sign (t.Add s) p ∷ put_term y ts)
unfolding term_join
term_join_put (product x) s p y ts = refl
term_join_put (sum x r q z) s p y ts = ap (λ (v : List Tok). put_product x (sign (t.Add r) q ∷ v))
    (term_join_put z s p y ts)

term_join_fine : (x : Term) (s : Adding) (p : ℕ) (y : Term) → FineTerm x → FineTerm y → FineTerm (term_join x s p y)
unfolding term_join
term_join_fine (product x) s p y h k = (h, k)
term_join_fine (sum x r q z) s p y h k = (h.0, term_join_fine z s p y h.1 k)

term_push : (x : Product) (xs : List (Adding × ℕ × Product)) (s : Adding) (p : ℕ) (y : Product) (ts : List Tok)
    → put_term (term_of x (xs ++ (s, p, y) ∷ [])) ts ≡ put_term (term_of x xs) (sign (t.Add s) p ∷ put_product y ts)
term_push x [] s p y ts = refl
term_push x (z ∷ zs) s p y ts = ap (λ (v : List Tok). put_product x (sign (t.Add z.0) z.1 ∷ v))
    (term_push z.2 zs s p y ts)

pub term_push_fine : (x : Product) (xs : List (Adding × ℕ × Product)) (s : Adding) (p : ℕ) (y : Product)
    → FineTerm (term_of x xs) → FineProduct y → FineTerm (term_of x (xs ++ (s, p, y) ∷ []))
term_push_fine x [] s p y h k = (h, k)
term_push_fine x (z ∷ zs) s p y h k = (h.0, term_push_fine z.2 zs s p y h.1 k)

pub term_step : (x : Product) (xs : List (Adding × ℕ × Product)) (s : Adding) (p : ℕ) (f : Factor) (y : Product)
    (ts rest us next last : List Tok) → ts ≡ put_term (term_of x xs) rest → rest ≡ sign (t.Add s) p ∷ us
    → us ≡ put_factor f next
    → put_factor f next ≡ put_product y last → ts ≡ put_term (term_of x (xs ++ (s, p, y) ∷ [])) last
term_step x xs s p f y ts rest us next last is add h k = is ∙ ap (λ (v : List Tok). put_term (term_of x xs) v)
    (add ∙ ap (λ (v : List Tok). sign (t.Add s) p ∷ v) (h ∙ k)) ∙ sym (term_push x xs s p y last)

pub in_sum : (x : Term) (s : Adding) (p : ℕ) (ts us : List Tok) → ts ≡ put_term x (sign (t.Add s) p ∷ us) → FineTerm x
    → Context at_factor put_factor FineFactor at_either put_term FineTerm ts us
in_sum x s p ts us is fine = record {
  before = λ y. put_term x (sign (t.Add s) p ∷ y);
  appends = λ y z. term-append x (sign (t.Add s) p ∷ y) z;
  split = is;
  enters = λ i σ. (
    mode_at i,
    σ,
    ap (λ (v : List Tok). run (on (at_position i ∷ σ)) v) is
        ∙ either_term i x fine σ (sign (t.Add s) p ∷ us) tt ∙ run_add (mode_at i) (app_at i (app_term x)) s σ p us,
  );
  wraps = λ after. (
    after,
    λ a h. (
      term_join x s p (product (factor a)),
      term_join_fine x s p (product (factor a)) fine h,
      sym (term_join_put x s p (product (factor a)) after),
    ),
  );
}

pub in_summand : (x : Term) (s : Adding) (p : ℕ) (f : Factor) (ts us next : List Tok)
    → ts ≡ put_term x (sign (t.Add s) p ∷ us) → us ≡ put_factor f next → FineTerm x
    → Context at_either put_product FineProduct at_either put_term FineTerm ts (put_factor f next)
in_summand x s p f ts us next is split fine = record {
  before = λ y. put_term x (sign (t.Add s) p ∷ y);
  appends = λ y z. term-append x (sign (t.Add s) p ∷ y) z;
  split = is ∙ ap (λ (v : List Tok). put_term x (sign (t.Add s) p ∷ v)) split;
  enters = λ i σ. (
    wanted (mode_at i),
    σ,
    ap (λ (v : List Tok). run (on (at_position i ∷ σ)) v) is
        ∙ either_term i x fine σ (sign (t.Add s) p ∷ us) tt ∙ run_add (mode_at i) (app_at i (app_term x)) s σ p us
        ∙ ap (λ (v : List Tok). run (on (want (mode_at i) ∷ σ)) v) split,
  );
  wraps = λ after. (
    after,
    λ a h. (
      term_join x s p (product a),
      term_join_fine x s p (product a) fine h,
      sym (term_join_put x s p (product a) after),
    ),
  );
}

pub first_product : (ts : List Tok) → Context at_either put_product FineProduct at_either put_term FineTerm ts ts
first_product ts = record {
  before = λ x. x;
  appends = λ x y. refl;
  split = refl;
  enters = λ i σ. (i, σ, refl);
  wraps =
      λ after. (after, λ a h. (product a, h, refl));
}

pub first_factor : (ts : List Tok) → Context at_factor put_factor FineFactor at_factor put_term FineTerm ts ts
first_factor ts = record {
  before = λ x. x;
  appends = λ x y. refl;
  split = refl;
  enters = λ i σ. (i, σ, refl);
  wraps =
      λ after. (after, λ a h. (product (factor a), h, refl));
}

pub summed_from : (f : Factor) (ts rest : List Tok) → ts ≡ put_factor f rest
    → Context at_either put_term FineTerm at_factor put_term FineTerm ts (put_factor f rest)
summed_from f ts rest is = record {
  before = λ x. x;
  appends = λ x y. refl;
  split = is;
  enters =
      λ m σ. (wanted m, σ, ap (λ (v : List Tok). run (on (want m ∷ σ)) v) is);
  wraps =
      λ after. (after, λ a h. (a, h, refl));
}

pub sum_ends : (ts : List Tok) → EndsFactor ts → No t.Times (next ts) → NoAdd ts → EndsTerm ts
sum_ends [] a b d = tt
sum_ends (tok_at (mark t.Open) p ∷ ts) a b d = elim a [ ]
sum_ends (tok_at (mark t.Times) p ∷ ts) a b d = absurd (b refl)
sum_ends (tok_at (mark (t.Add s)) p ∷ ts) a b d = elim d [ ]
sum_ends (tok_at s p ∷ ts) a b d = tt

pub summed_read : (f : Factor) (ts rest : List Tok) (len : ℕ) (r : Result (RawTermTree × Bor (List Item)) ReadError)
    → ts ≡ put_factor f rest → SumRead (put_factor f rest) len r → TermRead ts len r
summed_read f ts rest len (Ok p) is h = record { spelled = is ∙ h.spelled; fine = h.fine; ends = h.ends }
summed_read f ts rest len (Err e) is h = fails_in len e (summed_from f ts rest is) h
