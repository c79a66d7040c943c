-- The way of the machine through names, variables and numbers.
use Rattle.std.proofs.Common.{◌≡◌, ℕ, List, [], ◌∷◌, ◌++◌, Option, Some, None, Result, Ok, Err, Bor, refl, sym, ap, ◌∙◌}
use Rattle.grammar.specs.declared.terminal.Terminal.{Terminal}
use Rattle.grammar.specs.declared.terminal.Terminal.TheVariants as t
use Rattle.grammar.specs.declared.terminal.Comparison.{Comparison}
use Rattle.grammar.specs.declared.terminal.Comparison.TheVariants as cmp
use Rattle.grammar.specs.Terminals.{Symbol, Tok, tok, tok_at, mark, word, sign, symbol_of, place_of, toks}
use Rattle.grammar.specs.declared.terminal.Item.{Item}
use Rattle.grammar.specs.declared.stops.ReadError.TheVariants.{Stuck}
use Rattle.grammar.specs.Trees.{Var, untyped, name, Vars, var, any, compared}
use Rattle.grammar.specs.Spelling.{put_var, put_vars}
use Rattle.grammar.specs.View.{vars_more, vars_of}
use Rattle.token_reader.specs.Machine.{Frame, vars_first, vars_on, vars_end, type_name, type_close, number_first}
use Rattle.token_reader.specs.Machine.{number_last, colon, on, stuck, run}
use Rattle.token_reader.specs.Signs.{next, No, Is, AWord, Absent, SignRead}
use Rattle.token_reader.specs.Parts.{NoInteger, at_vars, at_number, Fails}
use Rattle.grammar.specs.Fine.{FineNumber}
use Rattle.grammar.specs.declared.stops.ReadError.{ReadError}
use Rattle.token_reader.proofs.Inside.{Context, fails_at, lacks_fails, integer_fails}
use Rattle.token_reader.specs.Binders.{NoVar, VarAhead, put_comma, Binder, binder, put_binder, counted}
use Rattle.token_reader.specs.Variables.{front_vars, VarsAre, MoreVars}
use Rattle.token_reader.specs.Binders.{put_counted, FineCounted, Whole, IntegerRead}
use Rattle.token_reader.proofs.Append.{var-append}

pub vars_stuck : (τ : List Frame) (ts : List Tok) → (AWord (next ts) → ⊥) → run (on (vars_first ∷ τ)) ts ≡ stuck ts
vars_stuck τ [] h = refl
vars_stuck τ (tok_at (word w) p ∷ ts) h = absurd (h tt)
vars_stuck τ (tok_at (mark s) p ∷ ts) h = refl

pub type_stuck : (τ : List Frame) (ts : List Tok) → (AWord (next ts) → ⊥) → run (on (type_name ∷ τ)) ts ≡ stuck ts
type_stuck τ [] h = refl
type_stuck τ (tok_at (word w) p ∷ ts) h = absurd (h tt)
type_stuck τ (tok_at (mark s) p ∷ ts) h = refl

pub square_stuck : (τ : List Frame) (ts : List Tok) → ((p : ℕ) (us : List Tok) → ts ≡ sign t.CloseSquare p ∷ us → ⊥)
    → run (on (type_close ∷ τ)) ts ≡ stuck ts
square_stuck τ [] h = refl
square_stuck τ (tok_at (mark t.CloseSquare) p ∷ ts) h = absurd (h p ts refl)
square_stuck τ (tok_at s p ∷ ts) h = refl

pub var_untyped : (τ : List Frame) (ts : List Tok) → No t.OpenSquare (next ts) → run (on (vars_on ∷ τ)) ts
    ≡ run (on (vars_end ∷ τ)) ts
var_untyped τ [] h = refl
var_untyped τ (tok_at (mark t.OpenSquare) p ∷ ts) h = absurd (h refl)
var_untyped τ (tok_at s p ∷ ts) h = refl

pub colon_stuck : (σ : List Frame) (ts : List Tok) → NoVar ts → ((p : ℕ) (us : List Tok) → ts ≡ sign t.Colon p ∷ us → ⊥)
    → run (on (vars_end ∷ colon ∷ σ)) ts ≡ stuck ts
colon_stuck σ [] h k = refl
colon_stuck σ (tok_at (word w) p ∷ ts) h k = elim h [ ]
colon_stuck σ (tok_at (mark t.Comma) p ∷ ts) h k = elim h [ ]
colon_stuck σ (tok_at (mark t.Colon) p ∷ ts) h k = absurd (k p ts refl)
colon_stuck σ (tok_at s p ∷ ts) h k = refl

word_ahead : (τ : List Frame) (ts : List Tok) → AWord (next ts) → run (on (vars_end ∷ τ)) ts
    ≡ run (on (vars_first ∷ τ)) ts
word_ahead τ [] h = elim h [ ]
word_ahead τ (tok_at (word w) p ∷ ts) h = refl
word_ahead τ (tok_at (mark s) p ∷ ts) h = elim h [ ]

pub ahead_run : (τ : List Frame) (ts : List Tok) (c : Option ℕ) (us : List Tok) → VarAhead ts c us
    → run (on (vars_end ∷ τ)) ts ≡ run (on (vars_first ∷ τ)) us
ahead_run τ ts None us h = ap (λ (x : List Tok). run (on (vars_end ∷ τ)) x) h.0 ∙ word_ahead τ us h.1
ahead_run τ ts (Some p) us h = ap (λ (x : List Tok). run (on (vars_end ∷ τ)) x) h

pub ahead_is : (ts : List Tok) (c : Option ℕ) (us : List Tok) → VarAhead ts c us → ts ≡ put_comma c us
ahead_is ts None us h = h.0
ahead_is ts (Some p) us h = h

-- ---- the variables so far, and then these tokens

comma-append : (c : Option ℕ) (ts us : List Tok) → put_comma c (ts ++ us) ≡ put_comma c ts ++ us
comma-append None ts us = refl
comma-append (Some p) ts us = refl

pub front_vars-append : (v : Var) (xs : List (Option ℕ × Var)) (ts us : List Tok) → front_vars v xs (ts ++ us)
    ≡ front_vars v xs ts ++ us
front_vars-append v [] ts us = var-append v ts us
front_vars-append v (x ∷ xs) ts us =
    ap (λ (y : List Tok). put_var v (put_comma x.0 y)) (front_vars-append x.1 xs ts us)
    ∙ ap (λ (y : List Tok). put_var v y) (comma-append x.0 (front_vars x.1 xs ts) us)
    ∙ var-append v (put_comma x.0 (front_vars x.1 xs ts)) us

more_is : (v : Var) (c : Option ℕ) (vs : Vars) (ts : List Tok) → put_vars (vars_more v c vs) ts ≡ put_var v
    (put_comma c (put_vars vs ts))
more_is v None vs ts = refl
more_is v (Some p) vs ts = refl

pub front_vars_is : (v : Var) (xs : List (Option ℕ × Var)) (ts : List Tok) → put_vars (vars_of v xs) ts
    ≡ front_vars v xs ts
front_vars_is v [] ts = refl
front_vars_is v (x ∷ xs) ts = more_is v x.0 (vars_of x.1 xs) ts ∙ ap (λ (y : List Tok). put_var v (put_comma x.0 y))
    (front_vars_is x.1 xs ts)

pub front_vars_push : (v : Var) (xs : List (Option ℕ × Var)) (c : Option ℕ) (w : Var) (ts : List Tok)
    → front_vars v (xs ++ (c, w) ∷ []) ts ≡ front_vars v xs (put_comma c (put_var w ts))
front_vars_push v [] c w ts = refl
front_vars_push v (x ∷ xs) c w ts = ap (λ (y : List Tok). put_var v (put_comma x.0 y)) (front_vars_push x.1 xs c w ts)

pub vars_chain : Var → List (Option ℕ × Var) → Option ℕ → Vars → Vars
vars_chain v [] c vs = vars_more v c vs
vars_chain v (x ∷ xs) c vs = vars_more v x.0 (vars_chain x.1 xs c vs)

pub vars_chain_is : (v : Var) (xs : List (Option ℕ × Var)) (c : Option ℕ) (vs : Vars) (ts : List Tok)
    → front_vars v xs (put_comma c (put_vars vs ts)) ≡ put_vars (vars_chain v xs c vs) ts
unfolding vars_chain
vars_chain_is v [] c vs ts = sym (more_is v c vs ts)
vars_chain_is v (x ∷ xs) c vs ts = ap (λ (y : List Tok). put_var v (put_comma x.0 y)) (vars_chain_is x.1 xs c vs ts)
    ∙ sym (more_is v x.0 (vars_chain x.1 xs c vs) ts)

-- ---- numbers

pub any_run : (σ : List Frame) (w : List ℕ) (p : ℕ) (ts : List Tok)
    → run (on (number_first ∷ σ)) (tok_at (word w) p ∷ ts) ≡ run (on (vars_first ∷ σ)) (tok_at (word w) p ∷ ts)
any_run σ w p ts = refl

pub compared_run : (c : Comparison) → (c ≡ cmp.NotEqual → ⊥) → (σ : List Frame) (p : ℕ) (ts : List Tok)
    → run (on (number_first ∷ σ)) (sign (t.Compare c) p ∷ ts) ≡ run (on (number_last ∷ σ)) ts
compared_run cmp.Equal h σ p ts = refl
compared_run cmp.NotEqual h σ p ts = absurd (h refl)
compared_run cmp.Less h σ p ts = refl
compared_run cmp.Greater h σ p ts = refl
compared_run cmp.AtMost h σ p ts = refl
compared_run cmp.AtLeast h σ p ts = refl

pub integer_stuck : (σ : List Frame) (ts : List Tok) → NoInteger ts → run (on (number_last ∷ σ)) ts ≡ stuck ts
integer_stuck σ [] h = refl
integer_stuck σ (tok_at (mark (t.Integer n)) p ∷ ts) h = elim h [ ]
integer_stuck σ (tok_at s p ∷ ts) h = refl

-- ---- where the readers are stuck

-- some variables
pub some_binder : Binder
some_binder = binder (var (untyped (name [] 0))) 0

pub number_here : (ts : List Tok) (len place : ℕ) → ((σ : List Frame) → run (on (number_first ∷ σ)) ts ≡ stuck ts)
    → place ≡ place_of ts len → Fails at_number put_counted FineCounted ts len (Stuck place)
number_here ts len place h is = fails_at at_number put_counted FineCounted ts ts len place (λ (x : List Tok). x)
    (λ x y. refl) refl (λ j σ. h (colon ∷ σ)) (λ after. (
      counted any some_binder,
      put_binder some_binder after,
      tt,
      refl,
    )) is

pub number_stuck : (s : Terminal) (p : ℕ) (ts : List Tok) → (s ≡ t.Word → ⊥) → ((n : ℕ) → s ≡ t.Integer n → ⊥)
    → ((c : Comparison) → s ≡ t.Compare c → ⊥) → (σ : List Frame) → run (on (number_first ∷ σ)) (sign s p ∷ ts)
    ≡ stuck (sign s p ∷ ts)
number_stuck (t.Integer n) p ts a b d σ = absurd (b n refl)
number_stuck (t.Compare c) p ts a b d σ = absurd (d c refl)
number_stuck s p ts a b d σ = refl

pub number_none : (ts : List Tok) (len : ℕ) → ts ≡ [] → Fails at_number put_counted FineCounted ts len (Stuck len)
number_none ts len h = number_here ts len len (λ σ. rw h refl) (rw h refl)

pub number_unequal : (ts : List Tok) (len p : ℕ) (us : List Tok) → ts ≡ sign (t.Compare cmp.NotEqual) p ∷ us
    → Fails at_number put_counted FineCounted ts len (Stuck p)
number_unequal ts len p us h = number_here ts len p (λ σ. rw h refl) (rw h refl)

pub marked : (s : Terminal) (text : List ℕ) → (s ≡ t.Word → ⊥) → symbol_of s text ≡ mark s
marked t.Word text h = absurd (h refl)
marked s text h = refl

pub number_other : (ts : List Tok) (len : ℕ) (i : Item) (us : List Tok) → ts ≡ tok i ∷ us → (i.terminal ≡ t.Word → ⊥)
    → ((n : ℕ) → i.terminal ≡ t.Integer n → ⊥) → ((c : Comparison) → i.terminal ≡ t.Compare c → ⊥)
    → Fails at_number put_counted FineCounted ts len (Stuck i.place)
number_other ts len i us h a b d =
    let is : ts ≡ sign i.terminal i.place ∷ us = h ∙ ap (λ (x : Symbol). tok_at x i.place ∷ us)
    (marked i.terminal i.text.now a) in
    number_here ts len i.place (λ σ. rw is (number_stuck i.terminal i.place us a b d σ)) (rw is refl)

fine_compared : (s : Comparison) (p : ℕ) → (s ≡ cmp.NotEqual → ⊥) → FineNumber (compared s p 0 0)
fine_compared cmp.Equal p h = tt
fine_compared cmp.NotEqual p h = h refl
fine_compared cmp.Less p h = tt
fine_compared cmp.Greater p h = tt
fine_compared cmp.AtMost p h = tt
fine_compared cmp.AtLeast p h = tt

pub number_last_fails : (ts us : List Tok) (len : ℕ) (e : ReadError) (s : Comparison) (p : ℕ) → (s ≡ cmp.NotEqual → ⊥)
    → ts ≡ sign (t.Compare s) p ∷ us → IntegerRead us len (Err e) → Fails at_number put_counted FineCounted ts len e
number_last_fails ts us len e s p ne is h = integer_fails at_number put_counted FineCounted ts us len e
    (λ (x : List Tok). sign (t.Compare s) p ∷ x) (λ x y. refl) is
    (λ k j σ. rw is (compared_run s ne (colon ∷ σ) p us ∙ integer_stuck (colon ∷ σ) us k))
    (λ after. (
      counted (compared s p 0 0) some_binder,
      sign (t.Integer 0) 0 ∷ put_binder some_binder after,
      fine_compared s p ne,
      refl,
    )) h

-- ---- the list of variables

pub vars_first_one : (v : Var) (ts rest : List Tok) → ts ≡ put_var v rest
    → ((σ : List Frame) → run (on (vars_first ∷ colon ∷ σ)) ts ≡ run (on (vars_end ∷ colon ∷ σ)) rest)
    → VarsAre ts v [] rest
vars_first_one v ts rest is runs = record { spelled = is; runs = runs }

pub binder_in : (v : Var) (xs : List (Option ℕ × Var)) (c : Option ℕ) (ts rest us : List Tok)
    → VarsAre ts v xs rest → VarAhead rest c us
    → Context at_vars put_binder Whole at_vars put_binder Whole ts us
binder_in v xs c ts rest us are next = record {
  before = λ x. front_vars v xs (put_comma c x);
  appends = λ x y. ap (λ (z : List Tok). front_vars v xs z) (comma-append c x y)
      ∙ front_vars-append v xs (put_comma c x) y;
  split = are.spelled ∙ ap (λ (x : List Tok). front_vars v xs x) (ahead_is rest c us next);
  enters = λ j σ. (tt, σ, are.runs σ ∙ ahead_run (colon ∷ σ) rest c us next);
  wraps = λ after. (after, λ a h. further a);
}
  where
    further : {after : List Tok} (a : Binder) → (b : Binder) × Whole b
        × (front_vars v xs (put_comma c (put_binder a after)) ≡ put_binder b after)
    further {after} (binder vs q) = (
      binder (vars_chain v xs c vs) q,
      tt,
      vars_chain_is v xs c vs (sign t.Colon q ∷ after),
    )

binder_ends : (v : Var) (xs : List (Option ℕ × Var)) (ts rest : List Tok) (len : ℕ) (e : ReadError)
    → VarsAre ts v xs rest → NoVar rest → Absent (Is t.Colon) rest len e → Fails at_vars put_binder Whole ts len e
binder_ends v xs ts rest len e are none h = lacks_fails at_vars put_binder Whole t.Colon ts rest len e
    (λ (x : List Tok). front_vars v xs x) (front_vars-append v xs) are.spelled
    (λ k j σ. are.runs σ ∙ colon_stuck σ rest none k) (λ after. (
      binder (vars_of v xs) 0,
      sign t.Colon 0 ∷ after,
      tt,
      sym (front_vars_is v xs (sign t.Colon 0 ∷ after)),
    )) h

-- a further variable
pub binder_step : (v : Var) (xs : List (Option ℕ × Var)) (c : Option ℕ) (w : Var) (ts rest us last : List Tok)
    → VarsAre ts v xs rest → VarAhead rest c us → us ≡ put_var w last
    → ((σ : List Frame) → run (on (vars_first ∷ colon ∷ σ)) us ≡ run (on (vars_end ∷ colon ∷ σ)) last)
    → VarsAre ts v (xs ++ (c, w) ∷ []) last
binder_step v xs c w ts rest us last are next is runs = record {
  spelled = are.spelled ∙ ap (λ (x : List Tok). front_vars v xs x) (ahead_is rest c us next
      ∙ ap (λ (x : List Tok). put_comma c x) is) ∙ sym (front_vars_push v xs c w last);
  runs = λ σ. are.runs σ ∙ ahead_run (colon ∷ σ) rest c us next ∙ runs σ;
}

-- the colon, or what stands in its place
pub binder_closes : (v : Var) (xs : List (Option ℕ × Var)) (ts rest : List Tok) (len : ℕ)
    (r : Result (ℕ × Bor (List Item)) ReadError) → VarsAre ts v xs rest → NoVar rest → SignRead t.Colon rest len r
    → MoreVars ts v xs len r
binder_closes v xs ts rest len (Ok p) are none read = are.spelled ∙ ap (λ (x : List Tok). front_vars v xs x) read
    ∙ sym (front_vars_is v xs (sign t.Colon p.0 ∷ toks p.1.now))
binder_closes v xs ts rest len (Err e) are none read = binder_ends v xs ts rest len e are none read
