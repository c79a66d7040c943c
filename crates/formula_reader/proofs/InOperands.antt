-- Where an operand of a formula is stuck, and what it is.
use Rattle.std.proofs.Common.{◌≡◌, ℕ, List, [], ◌∷◌, ◌++◌, Bool, true, false, Some, None, Result, Bor, refl, sym, ap}
use Rattle.std.proofs.Common.{◌∙◌}
use Rattle.grammar.specs.declared.stops.ReadError.{ReadError}
use Rattle.grammar.specs.declared.stops.ReadError.TheVariants.{Memory, Stuck}
use Rattle.formula_reader.specs.declared.kinds.Pair.{Pair}
use Rattle.formula_reader.specs.declared.kinds.Operand.{Operand}
use Rattle.formula_reader.specs.declared.kinds.Content.{Content}
use Rattle.formula_reader.specs.declared.kinds.Content.TheVariants as content
use Rattle.grammar.specs.declared.terminal.Item.{Item}
use Rattle.grammar.specs.declared.terminal.Terminal.{Terminal}
use Rattle.grammar.specs.declared.terminal.Terminal.TheVariants as t
use Rattle.grammar.specs.declared.terminal.Comparison.{Comparison}
use Rattle.grammar.specs.declared.terminal.Comparison.TheVariants.{Equal}
use Rattle.grammar.specs.Terminals.{Symbol, Tok, tok, tok_at, mark, word, sign, place_of}
use Rattle.grammar.specs.Trees.{Name, name, Number, Vars, Formula, alone, one, single, Unary, not, every, some, prim}
use Rattle.grammar.specs.Trees.{Prim, group, truth, atom, compare, Term, product, sum, Factor, factor, times, integer}
use Rattle.grammar.specs.Trees.{value, brackets, negative, count, aggregate, App, constant, empty, apply}
use Rattle.grammar.specs.Spelling.{put_name, put_number, put_vars, put_formula, put_unary, put_prim, put_term}
use Rattle.grammar.specs.Spelling.{put_factor, put_app}
use Rattle.grammar.specs.Fine.{closed_unary, FineNumber, FineFormula, FineUnary, FinePrim, FineTerm, FineFactor}
use Rattle.grammar.specs.Fine.{FineApp}
use Rattle.token_reader.specs.Sorts.{app_formula, app_unary, app_prim, app_term, app_factor}
use Rattle.token_reader.specs.Machine as m
use Rattle.token_reader.specs.Machine.{Frame, need, want, done, paren, colon, vars_first, number_first, Chain}
use Rattle.token_reader.specs.Machine.{unsettled, fresh, chained, Mode, in_formula, Sort, formula, term, either}
use Rattle.token_reader.specs.Machine.{settled, ended, shuts, on, stuck, run}
use Rattle.token_reader.specs.Modes.{term_sort, formula_sort, mode_formula, sort_formula, mode_unary, sort_unary}
use Rattle.token_reader.specs.Modes.{mode_prim, sort_prim}
use Rattle.grammar.specs.View.{formula_view, term_view, app_view}
use Rattle.token_reader.specs.Parts.{EndsFactor, EndsTerm, EndsPrim, NoCompare, TermsOnly, Halts, unaries, Tight}
use Rattle.token_reader.specs.Parts.{Behind, needed, at_factor, at_either, at_operand, at_unary, at_bracket}
use Rattle.token_reader.specs.Parts.{at_sentence, at_vars, at_number, Fails}
use Rattle.token_reader.specs.Signs.{next, No, Is, Absent}
use Rattle.token_reader.specs.Binders.{Binder, binder, put_binder, Whole, Counted, counted, put_counted, FineCounted}
use Rattle.formula_reader.specs.Results.{UnaryIs, FormulaIs, TermIs, AppIs, ArgumentsAre, Shut, OperandIs, OperandRead}
use Rattle.formula_reader.specs.Results.{ContentIs, wrap_prim, wrap_factor, nots, put_nots}
use Rattle.token_reader.specs.Parts.{Unsealed}
use Rattle.token_reader.proofs.Append.{vars-append, number-append, formula-append, prim-append, term-append, app-append}
use Rattle.token_reader.proofs.Only.{only_factor}
use Rattle.token_reader.proofs.Behind.{settled_twice, opens_formula}
use Rattle.token_reader.proofs.Runs.{run_vars, run_shut, run_compare, args_want}
use Rattle.token_reader.proofs.Readings.{read_formula, read_prim, read_terms, need_term, args_open}
use Rattle.token_reader.proofs.Inside.{Context, fails_at, lacks_fails}
use Rattle.formula_reader.proofs.InTerms.{term_no_args}
use Rattle.formula_reader.proofs.InFactors.{done_open, halted}
use Rattle.token_reader.proofs.Binds.{marked}

-- ---- what may come

pub prim_no_args : (ts : List Tok) → EndsPrim ts → EndsFactor ts
prim_no_args [] h = tt
prim_no_args (tok_at (mark t.Open) p ∷ ts) h = elim h [ ]
prim_no_args (tok_at s p ∷ ts) h = tt

pub no_compare_ends : (ts : List Tok) → EndsTerm ts → NoCompare ts → EndsPrim ts
no_compare_ends [] h k = tt
no_compare_ends (tok_at (mark t.Open) p ∷ ts) h k = elim h [ ]
no_compare_ends (tok_at (mark t.Times) p ∷ ts) h k = elim h [ ]
no_compare_ends (tok_at (mark (t.Add s)) p ∷ ts) h k = elim h [ ]
no_compare_ends (tok_at (mark (t.Compare c)) p ∷ ts) h k = elim k [ ]
no_compare_ends (tok_at s p ∷ ts) h k = tt

compare_tight : (c : Chain) (ts : List Tok) → EndsTerm ts → Tight unaries (m.compared c) term ts
compare_tight c [] h = tt
compare_tight c (tok_at (mark t.Open) p ∷ ts) h = elim h [ ]
compare_tight c (tok_at (mark t.Times) p ∷ ts) h = elim h [ ]
compare_tight c (tok_at (mark (t.Add s)) p ∷ ts) h = elim h [ ]
compare_tight c (tok_at (mark (t.Arrow a)) p ∷ ts) h = tt
compare_tight c (tok_at (mark t.Or) p ∷ ts) h = tt
compare_tight c (tok_at (mark t.And) p ∷ ts) h = tt
compare_tight c (tok_at s p ∷ ts) h = refl

formula_tight : (c : Chain) (ts : List Tok) → Tight unaries (in_formula c) formula ts
formula_tight c [] = tt
formula_tight c (tok_at (mark (t.Arrow a)) p ∷ ts) = tt
formula_tight c (tok_at (mark t.Or) p ∷ ts) = tt
formula_tight c (tok_at (mark t.And) p ∷ ts) = tt
formula_tight c (tok_at s p ∷ ts) = refl

either_tight : (c : Chain) (ts : List Tok) → EndsPrim ts → Tight unaries (in_formula c) either ts
either_tight c [] h = tt
either_tight c (tok_at (mark t.Open) p ∷ ts) h = elim h [ ]
either_tight c (tok_at (mark t.Times) p ∷ ts) h = elim h [ ]
either_tight c (tok_at (mark (t.Add s)) p ∷ ts) h = elim h [ ]
either_tight c (tok_at (mark (t.Compare r)) p ∷ ts) h = elim h [ ]
either_tight c (tok_at (mark (t.Arrow a)) p ∷ ts) h = tt
either_tight c (tok_at (mark t.Or) p ∷ ts) h = tt
either_tight c (tok_at (mark t.And) p ∷ ts) h = tt
either_tight c (tok_at s p ∷ ts) h = refl

halts_tight : (o : Mode) (k : Sort) (ts : List Tok) → Halts o k ts → Tight unaries o k ts
halts_tight o k [] h = tt
halts_tight o k (tok_at (mark (t.Arrow a)) p ∷ ts) h = tt
halts_tight o k (tok_at (mark t.Or) p ∷ ts) h = tt
halts_tight o k (tok_at (mark t.And) p ∷ ts) h = tt
halts_tight o k (tok_at s p ∷ ts) h = h

term_halts : (c : Chain) (ts : List Tok) → EndsPrim ts → Halts (in_formula c) term ts
term_halts c [] h = tt
term_halts c (tok_at (mark t.Open) p ∷ ts) h = elim h [ ]
term_halts c (tok_at (mark t.Times) p ∷ ts) h = elim h [ ]
term_halts c (tok_at (mark (t.Add s)) p ∷ ts) h = elim h [ ]
term_halts c (tok_at (mark (t.Compare r)) p ∷ ts) h = elim h [ ]
term_halts c (tok_at s p ∷ ts) h = refl

term_stops : (c : Chain) (σ : List Frame) (ts : List Tok) → EndsPrim ts
    → run (on (done (in_formula (settled c)) term ∷ σ)) ts ≡ stuck ts
term_stops unsettled [] [] h = refl
term_stops fresh [] [] h = refl
term_stops (chained a) [] [] h = refl
term_stops c (f ∷ σ) [] h = refl
term_stops c σ (tok_at (mark t.Open) p ∷ ts) h = elim h [ ]
term_stops c σ (tok_at (mark t.Times) p ∷ ts) h = elim h [ ]
term_stops c σ (tok_at (mark (t.Add s)) p ∷ ts) h = elim h [ ]
term_stops c σ (tok_at (mark (t.Compare r)) p ∷ ts) h = elim h [ ]
term_stops unsettled σ (tok_at s p ∷ ts) h = refl
term_stops fresh σ (tok_at s p ∷ ts) h = refl
term_stops (chained a) σ (tok_at s p ∷ ts) h = refl

pub closed_open : {T : Type 0} → true ≡ false → T
closed_open h = absurd (cc)

pub operand_from : (ts us : List Tok) (len : ℕ) (r : Result (Operand × Bor (List Item)) ReadError) → ts ≡ us
    → OperandRead us len r → OperandRead ts len r
operand_from ts us len r e h = rw e h

zero : Term
zero = product (factor (integer 0 0))

-- ---- terms and comparisons

pub comparison_is : (x : Term) (s : Comparison) (p : ℕ) (y : Term) (ts us last : List Tok)
    → ts ≡ sign (t.Compare s) p ∷ us → FineTerm x → TermIs us y last
    → UnaryIs (put_term x ts) (prim (compare x s p y)) true last
comparison_is x s p y ts us last is fine found = record {
  spelled = ap (λ (v : List Tok). put_term x v) (is ∙ ap (λ (v : List Tok). sign (t.Compare s) p ∷ v) found.spelled);
  fine = (fine, found.fine);
  ends = refl;
  behind = record {
    no_args = term_no_args last found.ends;
    tight = λ c. compare_tight c last found.ends;
    halts =
        λ h. closed_open h;
  };
}

pub in_right : (x : Term) (s : Comparison) (p : ℕ) (ts us : List Tok) → ts ≡ sign (t.Compare s) p ∷ us → FineTerm x
    → Context at_factor put_term FineTerm at_operand put_unary FineUnary (put_term x ts) us
in_right x s p ts us is fine = record {
  before = λ y. put_term x (sign (t.Compare s) p ∷ y);
  appends = λ y z. term-append x (sign (t.Compare s) p ∷ y) z;
  split = ap (λ (v : List Tok). put_term x v) is;
  enters = λ c σ. (
    m.compared c,
    σ,
    ap (λ (v : List Tok). run (on (need c ∷ σ)) (put_term x v)) is
        ∙ need_term c x fine σ (sign (t.Compare s) p ∷ us) tt ∙ run_compare c (app_term x) s σ p us,
  );
  wraps = λ after. (after, λ a h. (prim (compare x s p a), (fine, h), refl));
}

pub in_left : (ts : List Tok) → Context at_either put_term FineTerm at_operand put_unary FineUnary ts ts
in_left ts = record {
  before = λ x. x;
  appends = λ x y. refl;
  split = refl;
  enters = λ c σ. (needed c, σ, refl);
  wraps = λ after. (
    sign (t.Compare Equal) 0 ∷ put_term (product (factor (integer 0 0))) after,
    λ a h. (prim (compare a Equal 0 (product (factor (integer 0 0)))), (h, tt), refl),
  );
}

pub not_app : (f : Factor) (x : Term) (ts rest : List Tok) → FineFactor f → FineTerm x → EndsFactor ts → EndsTerm rest
    → put_factor f ts ≡ put_term x rest → (EndsPrim ts → app_factor f ≡ false) → EndsPrim rest → app_term x ≡ false
not_app f (product (factor g)) ts rest hf hx e1 e2 is h k =
    let same = only_factor f g ts rest hf hx e1 (term_no_args rest e2) is in
    ap (λ (y : Factor). app_factor y) (sym same.0) ∙ h (rw same.1 k)
not_app f (product (times x p y)) ts rest hf hx e1 e2 is h k = refl
not_app f (sum x s p y) ts rest hf hx e1 e2 is h k = refl

-- ---- what begins as a term only

need_terms : (ts : List Tok) → TermsOnly ts → (c : Chain) (σ : List Frame) → run (on (need c ∷ σ)) ts
    ≡ run (on (want (in_formula c) ∷ σ)) ts
need_terms [] h c σ = refl
need_terms (tok_at (word w) p ∷ ts) h c σ = elim h [ ]
need_terms (tok_at (mark (t.Truth b)) p ∷ ts) h c σ = elim h [ ]
need_terms (tok_at (mark t.Not) p ∷ ts) h c σ = elim h [ ]
need_terms (tok_at (mark t.Every) p ∷ ts) h c σ = elim h [ ]
need_terms (tok_at (mark t.Some) p ∷ ts) h c σ = elim h [ ]
need_terms (tok_at (mark t.Open) p ∷ ts) h c σ = elim h [ ]
need_terms (tok_at s p ∷ ts) h c σ = refl

pub in_measured : (ts : List Tok) → TermsOnly ts → Context at_factor put_factor FineFactor at_operand put_unary
    FineUnary ts ts
in_measured ts only = record {
  before = λ x. x;
  appends = λ x y. refl;
  split = refl;
  enters = λ c σ. (in_formula c, σ, need_terms ts only c σ);
  wraps = λ after. (
    sign (t.Compare Equal) 0 ∷ put_term (product (factor (integer 0 0))) after,
    λ a h. (prim (compare (product (factor a)) Equal 0 (product (factor (integer 0 0)))), (h, tt), refl),
  );
}

pub measured_app : (x : Factor) (ts rest : List Tok) → TermsOnly ts → ts ≡ put_factor x rest → app_factor x ≡ false
measured_app (integer n p) ts rest h is = refl
measured_app (value (constant (name w p))) ts rest h is = absurd (rw is at h)
measured_app (value (empty (name w p) q r)) ts rest h is = absurd (rw is at h)
measured_app (value (apply (name w p) q xs r)) ts rest h is = absurd (rw is at h)
measured_app (brackets p x q) ts rest h is = absurd (rw is at h)
measured_app (negative p x) ts rest h is = refl
measured_app (count p b vs c f e) ts rest h is = refl
measured_app (aggregate a p b vs c f d x e) ts rest h is = refl

terms_only_mark : (s : Terminal) (p : ℕ) (ts : List Tok) → (s ≡ t.Open → ⊥) → (s ≡ t.Every → ⊥) → (s ≡ t.Some → ⊥)
    → ((b : Bool) → s ≡ t.Truth b → ⊥) → No t.Not (next (sign s p ∷ ts)) → TermsOnly (sign s p ∷ ts)
terms_only_mark t.Open p ts a b c d n = a refl
terms_only_mark t.Every p ts a b c d n = b refl
terms_only_mark t.Some p ts a b c d n = c refl
terms_only_mark (t.Truth x) p ts a b c d n = d x refl
terms_only_mark t.Not p ts a b c d n = absurd (n refl)
terms_only_mark s p ts a b c d n = tt

pub terms_only : (ts : List Tok) (i : Item) (us : List Tok) → ts ≡ tok i ∷ us → (i.terminal ≡ t.Word → ⊥)
    → (i.terminal ≡ t.Open → ⊥) → (i.terminal ≡ t.Every → ⊥) → (i.terminal ≡ t.Some → ⊥)
    → ((b : Bool) → i.terminal ≡ t.Truth b → ⊥) → No t.Not (next ts) → TermsOnly ts
terms_only ts i us h w a b c d n =
    let is : ts ≡ sign i.terminal i.place ∷ us = h ∙ ap (λ (x : Symbol). tok_at x i.place ∷ us)
    (marked i.terminal i.text.now w) in
    rw is (terms_only_mark i.terminal i.place us a b c d (rw is at n))

pub nothing_only : (ts : List Tok) → ts ≡ [] → TermsOnly ts
nothing_only ts h = rw h tt

-- ---- applications in brackets

wrap_put : (bs : List Pair) (x : Prim) (y : Factor) → ((ts : List Tok) → put_prim x ts ≡ put_factor y ts)
    → (ts : List Tok) → put_prim (wrap_prim bs x) ts ≡ put_factor (wrap_factor bs y) ts
wrap_put [] x y h ts = h ts
wrap_put (b ∷ bs) x y h ts = wrap_put bs (group b.start (alone (one (single (prim x)))) b.close)
    (brackets b.start (product (factor y)) b.close) (λ us. ap (λ (v : List Tok). sign t.Open b.start ∷ v)
    (h (sign t.Close b.close ∷ us))) ts

pub wrapped_put : (bs : List Pair) (a : App) (ts : List Tok) → put_prim (wrap_prim bs (atom a)) ts ≡ put_factor
    (wrap_factor bs (value a)) ts
wrapped_put bs a ts = wrap_put bs (atom a) (value a) (λ us. refl) ts

pub wrap_factor_fine : (bs : List Pair) (y : Factor) → FineFactor y → FineFactor (wrap_factor bs y)
wrap_factor_fine [] y h = h
wrap_factor_fine (b ∷ bs) y h = wrap_factor_fine bs (brackets b.start (product (factor y)) b.close) h

pub wrap_prim_fine : (bs : List Pair) (x : Prim) → FinePrim x → FinePrim (wrap_prim bs x)
wrap_prim_fine [] x h = h
wrap_prim_fine (b ∷ bs) x h = wrap_prim_fine bs (group b.start (alone (one (single (prim x)))) b.close) h

wrap_app : (bs : List Pair) (x : Prim) → app_prim x ≡ true → app_prim (wrap_prim bs x) ≡ true
wrap_app [] x h = h
wrap_app (b ∷ bs) x h = wrap_app bs (group b.start (alone (one (single (prim x)))) b.close) h

wrap_sort : (bs : List Pair) (x : Prim) → sort_prim x ≡ either → app_prim x ≡ true → sort_prim (wrap_prim bs x) ≡ either
wrap_sort [] x h e = h
wrap_sort (b ∷ bs) x h e = wrap_sort bs (group b.start (alone (one (single (prim x)))) b.close) (ap formula_sort e) e

wrap_mode : (c : Chain) (bs : List Pair) (x : Prim) → mode_prim c x ≡ in_formula c → mode_prim c (wrap_prim bs x)
    ≡ in_formula c
wrap_mode c [] x h = h
wrap_mode c (b ∷ bs) x h = wrap_mode c bs (group b.start (alone (one (single (prim x)))) b.close) refl

pub wrap_push : (bs : List Pair) (b : Pair) (x : Prim) → wrap_prim (bs ++ b ∷ []) x ≡ group b.start
    (alone (one (single (prim (wrap_prim bs x))))) b.close
wrap_push [] b x = refl
wrap_push (d ∷ bs) b x = wrap_push bs b (group d.start (alone (one (single (prim x)))) d.close)

wrap_closed : (bs : List Pair) (x : Prim) → true ≡ closed_unary (prim (wrap_prim bs x))
wrap_closed bs x = refl

pub app_is : (ts : List Tok) (a : App) (bs : List Pair) (rest : List Tok) → AppIs ts a bs rest
    → UnaryIs ts (prim (wrap_prim bs (atom a))) true rest
app_is ts a bs rest found = record {
  spelled = found.spelled;
  fine = wrap_prim_fine bs (atom a) found.fine;
  ends = refl;
  behind = record {
    no_args = prim_no_args rest found.ends;
    tight = λ c. rw (wrap_mode c bs (atom a) refl, wrap_sort bs (atom a) refl refl) (either_tight c rest found.ends);
    halts = λ h. closed_open h;
  };
}

pub in_word : (ts us : List Tok) → ts ≡ us → Context at_either put_app FineApp at_operand put_unary FineUnary ts us
in_word ts us is = record {
  before = λ x. x;
  appends = λ x y. refl;
  split = is;
  enters =
      λ c σ. (needed c, σ, ap (λ (v : List Tok). run (on (need c ∷ σ)) v) is);
  wraps =
      λ after. (after, λ a h. (prim (atom a), h, refl));
}

pub word_is : (n : Name) (w : List ℕ) (p : ℕ) (us : List Tok) → n ≡ name w p → tok_at (word w) p ∷ us ≡ put_name n us
word_is n w p us h = ap (λ (x : Name). put_name x us) (sym h)

pub arguments_from : (ts us : List Tok) (a : App) (rest : List Tok) → ts ≡ us → ArgumentsAre us a rest
    → ArgumentsAre ts a rest
arguments_from ts us a rest is h = rw is h

app_shut : (c : Chain) (a : App) → FineApp a → (σ : List Frame) (p : ℕ) (ts : List Tok) → Shut a (sign t.Open p ∷ ts)
    → run (on (need c ∷ σ)) (put_app a (sign t.Open p ∷ ts)) ≡ stuck (sign t.Open p ∷ ts)
app_shut c (constant (name w i)) h σ p ts s = elim s [ ]
app_shut c (empty (name w i) q r) h σ p ts s = done_open (in_formula c) either σ p ts
app_shut c (apply (name w i) q xs r) h σ p ts s = args_want (in_formula c) either σ _
    (args_open xs r (sign t.Open p ∷ ts)) ∙ read_terms (in_formula c) either xs h σ r (sign t.Open p ∷ ts)
    ∙ done_open (in_formula c) either σ p ts

pub app_unsealed : (a : App) (ts rest : List Tok) (len : ℕ) (e : ReadError) → ArgumentsAre ts a rest → Unsealed rest e
    → Fails at_operand put_unary FineUnary ts len e
app_unsealed a ts rest len Memory found h = elim h [ ]
app_unsealed a ts rest len (Stuck place) found h = fails_at at_operand put_unary FineUnary ts rest len place
    (λ (y : List Tok). put_app a y) (λ y z. app-append a y z) found.spelled
    (λ c σ. ap (λ (v : List Tok). run (on (need c ∷ σ)) v) found.spelled ∙ at_open c σ)
    (λ after. (prim (atom a), after, found.fine, refl)) (rw h.1 refl)
  where
    at_open : (c : Chain) (σ : List Frame) → run (on (need c ∷ σ)) (put_app a rest) ≡ stuck rest
    at_open c σ = rw h.1 (app_shut c a found.fine σ place h.0 (rw h.1 at found.shut))

-- ---- brackets

-- what stands in brackets, whatever it is
record Inner (us rest : List Tok) : Type 0 where
  mode : Mode
  kind : Sort
  sort : Sort
  put : List Tok → List Tok
  appends : (x y : List Tok) → put (x ++ y) ≡ put x ++ y
  spelled : us ≡ put rest
  reads : (τ : List Frame) → run (on (need unsettled ∷ τ)) us ≡ run (on (done mode kind ∷ τ)) rest
  halts : Halts mode kind rest
  ends : ended mode kind ≡ Some sort
  makes : (p q : ℕ) (after : List Tok) → (u : Unary) × (more : List Tok) × FineUnary u
      × (sign t.Open p ∷ put (sign t.Close q ∷ more) ≡ put_unary u after)

inner_of : (us : List Tok) (inner : Content) (rest : List Tok) → ContentIs us inner rest → Inner us rest
inner_of us (content.Formula f) rest h =
    let x = formula_view f in
    record {
      mode = mode_formula unsettled x;
      kind = sort_formula x;
      sort = formula_sort (app_formula x);
      put = put_formula x;
      appends = formula-append x;
      spelled = h.0.spelled;
      reads = λ τ. ap (λ (v : List Tok). run (on (need unsettled ∷ τ)) v) h.0.spelled
          ∙ read_formula unsettled tt x h.0.fine τ rest h.0.no_args;
      halts = h.0.halts;
      ends = opens_formula x;
      makes = λ p q after. (prim (group p x q), after, h.0.fine, refl);
    }
inner_of us (content.Term y) rest h =
    let x = term_view y in
    record {
      mode = in_formula unsettled;
      kind = term;
      sort = term;
      put = put_term x;
      appends = term-append x;
      spelled = h.0.spelled;
      reads = λ τ. ap (λ (v : List Tok). run (on (need unsettled ∷ τ)) v) h.0.spelled
          ∙ need_term unsettled x h.0.fine τ rest (prim_no_args rest h.1)
          ∙ ap (λ (b : Bool). run (on (done (in_formula unsettled) (term_sort b) ∷ τ)) rest) h.2;
      halts = term_halts unsettled rest h.1;
      ends = refl;
      makes = λ p q after. (
        prim (compare (product (factor (brackets p x q))) Equal 0 (product (factor (integer 0 0)))),
        sign (t.Compare Equal) 0 ∷ put_term (product (factor (integer 0 0))) after,
        (h.0.fine, tt),
        refl,
      );
    }
inner_of us (content.Either a bs) rest h =
    let x = wrap_prim bs (atom (app_view a)) in
    let fine = wrap_prim_fine bs (atom (app_view a)) h.0.fine in
    record {
      mode = in_formula unsettled;
      kind = either;
      sort = either;
      put = put_prim x;
      appends = prim-append x;
      spelled = h.0.spelled;
      reads = λ τ. ap (λ (v : List Tok). run (on (need unsettled ∷ τ)) v) h.0.spelled
          ∙ read_prim unsettled x fine τ rest (prim_no_args rest h.0.ends)
          ∙ ap (λ (o : Mode). run (on (done o (sort_prim x) ∷ τ)) rest)
          (wrap_mode unsettled bs (atom (app_view a)) refl) ∙ ap
          (λ (k : Sort). run (on (done (in_formula unsettled) k ∷ τ)) rest)
          (wrap_sort bs (atom (app_view a)) refl refl);
      halts = h.1;
      ends = refl;
      makes = λ p q after. (prim (group p (alone (one (single (prim x)))) q), after, fine, refl);
    }

pub in_content : (p : ℕ) (us : List Tok) → Context at_bracket put_formula FineFormula at_operand put_unary FineUnary
    (sign t.Open p ∷ us) us
in_content p us = record {
  before = λ x. sign t.Open p ∷ x;
  appends = λ x y. refl;
  split = refl;
  enters = λ c σ. (tt, paren (in_formula c) ∷ σ, refl);
  wraps = λ after. (sign t.Close 0 ∷ after, λ a h. (prim (group p a 0), h, refl));
}

paren_shuts : (o : Mode) (σ : List Frame) (k : Sort) (x : Symbol) → (x ≡ mark t.Close → ⊥)
    → shuts x (paren o ∷ σ) k ≡ None
paren_shuts o σ k (mark t.Close) h = absurd (h refl)
paren_shuts o σ k x h = refl

unclosed_inner : (p : ℕ) (us rest : List Tok) (len : ℕ) (e : ReadError) → Inner us rest → Absent (Is t.Close) rest len e
    → Fails at_operand put_unary FineUnary (sign t.Open p ∷ us) len e
unclosed_inner p us rest len e i h = lacks_fails at_operand put_unary FineUnary t.Close (sign t.Open p ∷ us) rest len e
    (λ (y : List Tok). sign t.Open p ∷ i.put y)
    (λ y z. ap (λ (v : List Tok). sign t.Open p ∷ v) (i.appends y z))
    (ap (λ (v : List Tok). sign t.Open p ∷ v) i.spelled)
    (λ l c σ. i.reads (paren (in_formula c) ∷ σ) ∙ halted t.Close i.mode i.kind i.sort (paren (in_formula c) ∷ σ) rest
    i.halts i.ends refl (paren_shuts (in_formula c) σ i.sort) l)
    (λ after. let w = i.makes p 0 after in (w.0, sign t.Close 0 ∷ w.1, w.2, w.3)) h

pub unclosed_content : (p : ℕ) (inner : Content) (us rest : List Tok) (len : ℕ) (e : ReadError)
    → ContentIs us inner rest → Absent (Is t.Close) rest len e → Fails at_operand put_unary FineUnary
    (sign t.Open p ∷ us) len e
unclosed_content p inner us rest len e found h = unclosed_inner p us rest len e (inner_of us inner rest found) h

unsealed_inner : (p q : ℕ) (us rest last : List Tok) (len : ℕ) (e : ReadError) → Inner us rest
    → rest ≡ sign t.Close q ∷ last → Unsealed last e → Fails at_operand put_unary FineUnary (sign t.Open p ∷ us) len e
unsealed_inner p q us rest last len Memory i is h = elim h [ ]
unsealed_inner p q us rest last len (Stuck place) i is h = fails_at at_operand put_unary FineUnary (sign t.Open p ∷ us)
    last len place (λ (y : List Tok). sign t.Open p ∷ i.put (sign t.Close q ∷ y))
    (λ y z. ap (λ (v : List Tok). sign t.Open p ∷ v) (i.appends (sign t.Close q ∷ y) z))
    (ap (λ (v : List Tok). sign t.Open p ∷ v) (i.spelled ∙ ap i.put is))
    (λ c σ. i.reads (paren (in_formula c) ∷ σ) ∙ ap (λ (v : List Tok).
    run (on (done i.mode i.kind ∷ paren (in_formula c) ∷ σ)) v) is
    ∙ run_shut t.Close i.mode i.kind i.sort refl i.ends (paren (in_formula c) ∷ σ) q last
    ∙ rw h.1 (done_open (in_formula c) i.sort σ place h.0))
    (λ after. i.makes p q after) (rw h.1 refl)

pub unsealed_content : (p q : ℕ) (inner : Content) (us rest last : List Tok) (len : ℕ) (e : ReadError)
    → ContentIs us inner rest → rest ≡ sign t.Close q ∷ last → Unsealed last e → Fails at_operand put_unary FineUnary
    (sign t.Open p ∷ us) len e
unsealed_content p q inner us rest last len e found is h = unsealed_inner p q us rest last len e
    (inner_of us inner rest found) is h

pub group_is : (p q : ℕ) (f : Formula) (us rest last : List Tok) → FormulaIs us unsettled f rest → app_formula f ≡ false
    → rest ≡ sign t.Close q ∷ last → EndsFactor last → UnaryIs (sign t.Open p ∷ us) (prim (group p f q)) true last
group_is p q f us rest last found app is ends = record {
  spelled = ap (λ (v : List Tok). sign t.Open p ∷ v) (found.spelled ∙ ap (λ (v : List Tok). put_formula f v) is);
  fine = found.fine;
  ends = refl;
  behind = record { no_args = ends; tight = λ c. rw app (formula_tight c last); halts = λ h. closed_open h };
}

pub brackets_put : (p q : ℕ) (x : Term) (us rest last : List Tok) → us ≡ put_term x rest → rest ≡ sign t.Close q ∷ last
    → sign t.Open p ∷ us ≡ put_factor (brackets p x q) last
brackets_put p q x us rest last h is = ap (λ (v : List Tok). sign t.Open p ∷ v)
    (h ∙ ap (λ (v : List Tok). put_term x v) is)

pub wraps_put : (b : Pair) (bs : List Pair) (a : App) (us rest last : List Tok)
    → us ≡ put_prim (wrap_prim bs (atom a)) rest → rest ≡ sign t.Close b.close ∷ last → sign t.Open b.start ∷ us
    ≡ put_prim (wrap_prim (bs ++ b ∷ []) (atom a)) last
wraps_put b bs a us rest last h is = ap (λ (v : List Tok). sign t.Open b.start ∷ v)
    (h ∙ ap (λ (v : List Tok). put_prim (wrap_prim bs (atom a)) v) is) ∙ ap (λ (x : Prim). put_prim x last)
    (sym (wrap_push bs b (atom a)))

-- ---- truth

pub truth_is : (b : Bool) (p : ℕ) (ts rest : List Tok) → ts ≡ sign (t.Truth b) p ∷ rest → EndsFactor rest
    → UnaryIs ts (prim (truth b p)) true rest
truth_is b p ts rest is ends = record {
  spelled = is;
  fine = tt;
  ends = refl;
  behind =
      record { no_args = ends; tight = λ c. formula_tight c rest; halts = λ h. closed_open h };
}

pub truth_unsealed : (b : Bool) (p : ℕ) (ts rest : List Tok) (len : ℕ) (e : ReadError) → ts ≡ sign (t.Truth b) p ∷ rest
    → Unsealed rest e → Fails at_operand put_unary FineUnary ts len e
truth_unsealed b p ts rest len Memory is h = elim h [ ]
truth_unsealed b p ts rest len (Stuck place) is h = fails_at at_operand put_unary FineUnary ts rest len place
    (λ (y : List Tok). sign (t.Truth b) p ∷ y) (λ y z. refl) is
    (λ c σ. ap (λ (v : List Tok). run (on (need c ∷ σ)) v) is ∙ rw h.1 (done_open (in_formula c) formula σ place h.0))
    (λ after. (prim (truth b p), after, tt, refl)) (rw h.1 refl)

-- ---- quantifiers

true_formula : Formula
true_formula = alone (one (single (prim (truth true 0))))

pub in_every_vars : (p : ℕ) (us : List Tok) → Context at_vars put_binder Whole at_operand put_unary FineUnary
    (sign t.Every p ∷ us) us
in_every_vars p us = record {
  before = λ x. sign t.Every p ∷ x;
  appends = λ x y. refl;
  split = refl;
  enters = λ c σ. (tt, need fresh ∷ σ, refl);
  wraps = λ after. (put_formula (alone (one (single (prim (truth true 0))))) after, λ a h. closed after a);
}
  where
    closed : (after : List Tok) (a : Binder) → (b : Unary) × FineUnary b
        × (sign t.Every p ∷ put_binder a (put_formula (alone (one (single (prim (truth true 0))))) after)
        ≡ put_unary b after)
    closed after (binder vs q) = (every p vs q (alone (one (single (prim (truth true 0))))), tt, refl)

pub in_every_formula : (p : ℕ) (vs : Vars) (q : ℕ) (items us : List Tok) → items ≡ put_binder (binder vs q) us
    → Context at_sentence put_formula FineFormula at_operand put_unary FineUnary (sign t.Every p ∷ items) us
in_every_formula p vs q items us is = record {
  before = λ x. sign t.Every p ∷ put_vars vs (sign t.Colon q ∷ x);
  appends = λ x y. ap (λ (v : List Tok). sign t.Every p ∷ v) (vars-append vs (sign t.Colon q ∷ x) y);
  split = ap (λ (v : List Tok). sign t.Every p ∷ v) is;
  enters = λ c σ. (
    tt,
    σ,
    ap (λ (v : List Tok). run (on (vars_first ∷ colon ∷ need fresh ∷ σ)) v) is
        ∙ run_vars vs q (need fresh ∷ σ) us,
  );
  wraps = λ after. (after, λ a h. (every p vs q a, h, refl));
}

quantified : (ts : List Tok) (f : Formula) (us rest : List Tok) → FormulaIs us fresh f rest
    → Behind unaries false (λ c. mode_formula fresh f) (sort_formula f) rest
quantified ts f us rest found = record {
  no_args = found.no_args;
  tight = λ c. halts_tight (mode_formula fresh f)
      (sort_formula f) rest found.halts;
  halts = λ h c. found.halts;
}

pub every_is : (p : ℕ) (vs : Vars) (q : ℕ) (f : Formula) (items us rest : List Tok)
    → items ≡ put_binder (binder vs q) us → FormulaIs us fresh f rest → UnaryIs (sign t.Every p ∷ items)
    (every p vs q f) false rest
every_is p vs q f items us rest is found = record {
  spelled = ap (λ (v : List Tok). sign t.Every p ∷ v) (is ∙ ap (λ (v : List Tok). put_vars vs (sign t.Colon q ∷ v))
      found.spelled);
  fine = found.fine;
  ends = refl;
  behind = quantified items f us rest found;
}

pub in_some_number : (p : ℕ) (us : List Tok) → Context at_number put_counted FineCounted at_operand put_unary FineUnary
    (sign t.Some p ∷ us) us
in_some_number p us = record {
  before = λ x. sign t.Some p ∷ x;
  appends = λ x y. refl;
  split = refl;
  enters = λ c σ. (tt, need fresh ∷ σ, refl);
  wraps = λ after. (put_formula (alone (one (single (prim (truth true 0))))) after, λ a h. closed after a h);
}
  where
    closed : (after : List Tok) (a : Counted) → FineCounted a → (b : Unary) × FineUnary b
        × (sign t.Some p ∷ put_counted a (put_formula (alone (one (single (prim (truth true 0))))) after)
        ≡ put_unary b after)
    closed after (counted n (binder vs q)) h = (
      some p n vs q (alone (one (single (prim (truth true 0))))),
      (h, tt),
      refl,
    )

pub in_some_vars : (p : ℕ) (n : Number) (items us : List Tok) → items ≡ put_number n us → FineNumber n
    → ((σ : List Frame) → run (on (number_first ∷ σ)) items ≡ run (on (vars_first ∷ σ)) us)
    → Context at_vars put_binder Whole at_operand put_unary FineUnary (sign t.Some p ∷ items) us
in_some_vars p n items us is fine runs = record {
  before = λ x. sign t.Some p ∷ put_number n x;
  appends = λ x y. ap (λ (v : List Tok). sign t.Some p ∷ v) (number-append n x y);
  split = ap (λ (v : List Tok). sign t.Some p ∷ v) is;
  enters = λ c σ. (tt, need fresh ∷ σ, runs (colon ∷ need fresh ∷ σ));
  wraps = λ after. (put_formula (alone (one (single (prim (truth true 0))))) after, λ a h. closed after a);
}
  where
    closed : (after : List Tok) (a : Binder) → (b : Unary) × FineUnary b
        × (sign t.Some p ∷ put_number n (put_binder a (put_formula (alone (one (single (prim (truth true 0))))) after))
        ≡ put_unary b after)
    closed after (binder vs q) = (some p n vs q (alone (one (single (prim (truth true 0))))), (fine, tt), refl)

pub in_some_formula : (p : ℕ) (n : Number) (vs : Vars) (q : ℕ) (items rest us : List Tok) → items ≡ put_number n rest
    → FineNumber n → ((σ : List Frame) → run (on (number_first ∷ σ)) items ≡ run (on (vars_first ∷ σ)) rest)
    → rest ≡ put_binder (binder vs q) us → Context at_sentence put_formula FineFormula at_operand put_unary FineUnary
    (sign t.Some p ∷ items) us
in_some_formula p n vs q items rest us is fine runs next = record {
  before = λ x. sign t.Some p ∷ put_number n (put_vars vs (sign t.Colon q ∷ x));
  appends = λ x y. ap (λ (v : List Tok). sign t.Some p ∷ v) (ap (λ (v : List Tok). put_number n v)
      (vars-append vs (sign t.Colon q ∷ x) y) ∙ number-append n (put_vars vs (sign t.Colon q ∷ x)) y);
  split = ap (λ (v : List Tok). sign t.Some p ∷ v) (is ∙ ap (λ (v : List Tok). put_number n v) next);
  enters = λ c σ. (
    tt,
    σ,
    runs (colon ∷ need fresh ∷ σ) ∙ ap (λ (v : List Tok).
        run (on (vars_first ∷ colon ∷ need fresh ∷ σ)) v) next ∙ run_vars vs q (need fresh ∷ σ) us,
  );
  wraps = λ after. (after, λ a h. (some p n vs q a, (fine, h), refl));
}

pub some_is : (p : ℕ) (n : Number) (vs : Vars) (q : ℕ) (f : Formula) (items rest us last : List Tok)
    → items ≡ put_number n rest → FineNumber n → rest ≡ put_binder (binder vs q) us → FormulaIs us fresh f last
    → UnaryIs (sign t.Some p ∷ items) (some p n vs q f) false last
some_is p n vs q f items rest us last is fine next found = record {
  spelled = ap (λ (v : List Tok). sign t.Some p ∷ v) (is ∙ ap (λ (v : List Tok). put_number n v)
      (next ∙ ap (λ (v : List Tok). put_vars vs (sign t.Colon q ∷ v)) found.spelled));
  fine = (fine, found.fine);
  ends = refl;
  behind = quantified items f us last found;
}

-- ---- signs before an operand

behind_nots : List ℕ → Chain → Chain
behind_nots [] c = c
behind_nots (p ∷ ps) c = settled c

nots_settle : (ps : List ℕ) (c : Chain) → behind_nots ps (settled c) ≡ settled c
unfolding behind_nots
nots_settle [] c = refl
nots_settle (p ∷ ps) c = settled_twice c

nots_run : (ps : List ℕ) (c : Chain) (σ : List Frame) (ts : List Tok) → run (on (need c ∷ σ)) (put_nots ps ts)
    ≡ run (on (need (behind_nots ps c) ∷ σ)) ts
unfolding behind_nots
nots_run [] c σ ts = refl
nots_run (p ∷ ps) c σ ts = nots_run ps (settled c) σ ts ∙ ap (λ (d : Chain). run (on (need d ∷ σ)) ts)
    (nots_settle ps c)

nots-append : (ps : List ℕ) (ts us : List Tok) → put_nots ps (ts ++ us) ≡ put_nots ps ts ++ us
nots-append [] ts us = refl
nots-append (p ∷ ps) ts us = ap (λ (v : List Tok). sign t.Not p ∷ v) (nots-append ps ts us)

nots_put : (ps : List ℕ) (u : Unary) (ts : List Tok) → put_unary (nots ps u) ts ≡ put_nots ps (put_unary u ts)
nots_put [] u ts = refl
nots_put (p ∷ ps) u ts = ap (λ (v : List Tok). sign t.Not p ∷ v) (nots_put ps u ts)

nots_fine : (ps : List ℕ) (u : Unary) → FineUnary u → FineUnary (nots ps u)
nots_fine [] u h = h
nots_fine (p ∷ ps) u h = nots_fine ps u h

nots_closed : (ps : List ℕ) (u : Unary) → closed_unary u ≡ closed_unary (nots ps u)
nots_closed [] u = refl
nots_closed (p ∷ ps) u = nots_closed ps u

nots_mode : (ps : List ℕ) (u : Unary) (c : Chain) → mode_unary c (nots ps u) ≡ mode_unary (behind_nots ps c) u
unfolding behind_nots
nots_mode [] u c = refl
nots_mode (p ∷ ps) u c = nots_mode ps u (settled c) ∙ ap (λ (d : Chain). mode_unary d u) (nots_settle ps c)

nots_sort : (ps : List ℕ) (u : Unary) → sort_unary (nots ps u) ≡ sort_unary u
nots_sort [] u = refl
nots_sort (p ∷ ps) u = nots_sort ps u

pub nots_push : (ps : List ℕ) (p : ℕ) (ts : List Tok) → put_nots (ps ++ p ∷ []) ts ≡ put_nots ps (sign t.Not p ∷ ts)
nots_push [] p ts = refl
nots_push (q ∷ ps) p ts = ap (λ (v : List Tok). sign t.Not q ∷ v) (nots_push ps p ts)

pub negated_push : (ps : List ℕ) (p : ℕ) (u : Unary) → nots (ps ++ p ∷ []) u ≡ nots ps (not p u)
negated_push [] p u = refl
negated_push (q ∷ ps) p u = ap (λ (v : Unary). not q v) (negated_push ps p u)

pub in_nots : (ps : List ℕ) (ts us : List Tok) → ts ≡ put_nots ps us → Context at_operand put_unary FineUnary at_operand
    put_unary FineUnary ts us
in_nots ps ts us is = record {
  before = λ x. put_nots ps x;
  appends = λ x y. nots-append ps x y;
  split = is;
  enters = λ c σ. (behind_nots ps c, σ, ap (λ (v : List Tok). run (on (need c ∷ σ)) v) is ∙ nots_run ps c σ us);
  wraps = λ after. (after, λ a h. (nots ps a, nots_fine ps a h, sym (nots_put ps a after)));
}

some_nots : (p : ℕ) (ps : List ℕ) (c : Chain) → behind_nots (p ∷ ps) c ≡ settled c
unfolding behind_nots
some_nots p ps c = refl

pub in_signs : (ps : List ℕ) (ts us : List Tok) → (ps ≡ [] → ⊥) → ts ≡ put_nots ps us
    → Context at_unary put_unary FineUnary at_operand put_unary FineUnary ts us
in_signs [] ts us h is = absurd (h refl)
in_signs (p ∷ ps) ts us h is = record {
  before = λ x. put_nots (p ∷ ps) x;
  appends = λ x y. nots-append (p ∷ ps) x y;
  split = is;
  enters = λ c σ. (
    c,
    σ,
    ap (λ (v : List Tok). run (on (need c ∷ σ)) v) is ∙ nots_run (p ∷ ps) c σ us
        ∙ ap (λ (d : Chain). run (on (need d ∷ σ)) us) (some_nots p ps c),
  );
  wraps = λ after. (after, λ a k. (nots (p ∷ ps) a, nots_fine (p ∷ ps) a k, sym (nots_put (p ∷ ps) a after)));
}

pub nots_is : (ps : List ℕ) (u : Unary) (closed : Bool) (ts us rest : List Tok) → ts ≡ put_nots ps us
    → UnaryIs us u closed rest → UnaryIs ts (nots ps u) closed rest
nots_is ps u closed ts us rest is found = record {
  spelled = is ∙ ap (λ (v : List Tok). put_nots ps v) found.spelled ∙ sym (nots_put ps u rest);
  fine = nots_fine ps u found.fine;
  ends = found.ends ∙ nots_closed ps u;
  behind = record {
    no_args = found.behind.no_args;
    tight = λ c. rw (nots_mode ps u c, nots_sort ps u) (found.behind.tight (behind_nots ps c));
    halts = λ h c. rw (nots_mode ps u c, nots_sort ps u) (found.behind.halts h (behind_nots ps c));
  };
}

pub nots_no_app : (ps : List ℕ) (u : Unary) → (ps ≡ [] → ⊥) → app_unary (nots ps u) ≡ false
nots_no_app [] u h = absurd (h refl)
nots_no_app (p ∷ ps) u h = refl

-- ---- a term is no operand of a connective

pub term_stuck : (x : Term) (ts rest : List Tok) (len place : ℕ) → TermIs ts x rest → EndsPrim rest → app_term x ≡ false
    → place ≡ place_of rest len → Fails at_unary put_unary FineUnary ts len (Stuck place)
term_stuck x ts rest len place found ends app is = fails_at at_unary put_unary FineUnary ts rest len place
    (λ (y : List Tok). put_term x y) (λ y z. term-append x y z) found.spelled
    (λ c σ. ap (λ (v : List Tok). run (on (need (settled c) ∷ σ)) v) found.spelled
    ∙ need_term (settled c) x found.fine σ rest (prim_no_args rest ends)
    ∙ ap (λ (b : Bool). run (on (done (in_formula (settled c)) (term_sort b) ∷ σ)) rest) app ∙ term_stops c σ rest ends)
    (λ after. (
      prim (compare x Equal 0 (product (factor (integer 0 0)))),
      sign (t.Compare Equal) 0 ∷ put_term
          (product (factor (integer 0 0))) after,
      (found.fine, tt),
      refl,
    )) is

pub to_unary : (ts : List Tok) → Context at_operand put_unary FineUnary at_unary put_unary FineUnary ts ts
to_unary ts = record {
  before = λ x. x;
  appends = λ x y. refl;
  split = refl;
  enters = λ c σ. (settled c, σ, refl);
  wraps = λ after. (after, λ a h. (a, h, refl));
}

pub operand_whole : (ts us : List Tok) (ps : List ℕ) (found : Operand) (rest : List Tok) → ps ≡ [] → ts ≡ put_nots ps us
    → OperandIs us found rest → OperandIs ts found rest
operand_whole ts us [] found rest e is h = rw is h
operand_whole ts us (p ∷ ps) found rest e is h = absurd (cc)

pub filled : false ≡ true → ⊥
filled h = cc
