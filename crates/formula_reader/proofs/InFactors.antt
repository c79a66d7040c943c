-- Where a part of a factor is stuck.
use Rattle.std.proofs.Common.{◌≡◌, ℕ, List, [], ◌∷◌, ◌++◌, true, Option, Some, None, Result, Bor, refl, sym, ap, ◌∙◌}
use Rattle.grammar.specs.declared.stops.ReadError.{ReadError}
use Rattle.grammar.specs.declared.stops.ReadError.TheVariants.{Memory, Stuck}
use Rattle.grammar.specs.declared.terminal.Item.{Item}
use Rattle.grammar.specs.declared.raw.RawFactor.{RawFactor}
use Rattle.grammar.specs.declared.terminal.Terminal.{Terminal}
use Rattle.grammar.specs.declared.terminal.Terminal.TheVariants as t
use Rattle.grammar.specs.declared.terminal.Adding.TheVariants.{Plus, Minus}
use Rattle.grammar.specs.declared.terminal.Aggregation.{Aggregation}
use Rattle.grammar.specs.Terminals.{Symbol, Tok, tok, tok_at, mark, sign, place_of}
use Rattle.grammar.specs.Trees.{name, Vars, Formula, alone, one, single, prim, truth, Term, product, Factor, integer}
use Rattle.grammar.specs.Trees.{value, brackets, negative, count, aggregate, App, constant, empty, apply, factor}
use Rattle.grammar.specs.Spelling.{put_formula, put_term, put_factor, put_app}
use Rattle.grammar.specs.Fine.{FineFormula, FineTerm, FineFactor, FineApp}
use Rattle.token_reader.specs.Machine.{Frame, want, done, paren, close_brace, fold_colon, colon, brace, vars_first}
use Rattle.token_reader.specs.Machine.{Mode, in_term, Sort, formula, term, fresh, on, stuck, run, advance, shut, shuts}
use Rattle.token_reader.specs.Machine.{ended, behind_operand, finish, need}
use Rattle.token_reader.specs.Modes.{mode_formula, sort_formula}
use Rattle.token_reader.specs.Parts.{EndsFactor, wanted, at_factor, at_either, at_sentence, Halts}
use Rattle.token_reader.specs.Signs.{next, No, Is, Absent}
use Rattle.token_reader.specs.Parts.{Fails}
use Rattle.token_reader.specs.Binders.{Whole}
use Rattle.formula_reader.specs.Results.{Opening, opening, put_opening, at_opening, Shut, ShutFactor, IsUnsigned}
use Rattle.formula_reader.specs.Results.{UnsignedIs, UnsignedRead, FactorIs, TermIs, FormulaIs, negatives, put_minuses}
use Rattle.token_reader.specs.Parts.{Unsealed}
use Rattle.token_reader.proofs.Append.{vars-append, formula-append, term-append, factor-append}
use Rattle.token_reader.proofs.Behind.{ends_formula}
use Rattle.token_reader.proofs.Runs.{run_vars, run_shut, args_want}
use Rattle.token_reader.proofs.Readings.{read_formula, want_term, read_terms, args_open}
use Rattle.token_reader.proofs.Inside.{Context, fails_at, lacks_fails}
use Rattle.formula_reader.proofs.InTerms.{term_no_args, brace_stuck}
use Rattle.token_reader.proofs.Binds.{marked}

-- ---- signs

pub minuses_push : (ps : List ℕ) (p : ℕ) (ts : List Tok) → put_minuses (ps ++ p ∷ []) ts ≡ put_minuses ps
    (sign (t.Add Minus) p ∷ ts)
minuses_push [] p ts = refl
minuses_push (q ∷ ps) p ts = ap (λ (v : List Tok). sign (t.Add Minus) q ∷ v) (minuses_push ps p ts)

pub negatives_push : (ps : List ℕ) (p : ℕ) (x : Factor) → negatives (ps ++ p ∷ []) x ≡ negatives ps (negative p x)
negatives_push [] p x = refl
negatives_push (q ∷ ps) p x = ap (λ (v : Factor). negative q v) (negatives_push ps p x)

pub negatives_put : (ps : List ℕ) (x : Factor) (ts : List Tok) → put_factor (negatives ps x) ts ≡ put_minuses ps
    (put_factor x ts)
negatives_put [] x ts = refl
negatives_put (p ∷ ps) x ts = ap (λ (v : List Tok). sign (t.Add Minus) p ∷ v) (negatives_put ps x ts)

pub negatives_fine : (ps : List ℕ) (x : Factor) → FineFactor x → FineFactor (negatives ps x)
negatives_fine [] x h = h
negatives_fine (p ∷ ps) x h = negatives_fine ps x h

minuses-append : (ps : List ℕ) (ts us : List Tok) → put_minuses ps (ts ++ us) ≡ put_minuses ps ts ++ us
minuses-append [] ts us = refl
minuses-append (p ∷ ps) ts us = ap (λ (v : List Tok). sign (t.Add Minus) p ∷ v) (minuses-append ps ts us)

minuses_run : (ps : List ℕ) (m : Mode) (σ : List Frame) (ts : List Tok) → run (on (want m ∷ σ)) (put_minuses ps ts)
    ≡ run (on (want m ∷ σ)) ts
minuses_run [] m σ ts = refl
minuses_run (p ∷ ps) m σ ts = minuses_run ps m σ ts

pub in_minuses : (ps : List ℕ) (ts us : List Tok) → ts ≡ put_minuses ps us
    → Context at_factor put_factor FineFactor at_factor put_factor FineFactor ts us
in_minuses ps ts us is = record {
  before = λ x. put_minuses ps x;
  appends = λ x y. minuses-append ps x y;
  split = is;
  enters = λ m σ. (m, σ, ap (λ (v : List Tok). run (on (want m ∷ σ)) v) is ∙ minuses_run ps m σ us);
  wraps = λ after. (after, λ a h. (negatives ps a, negatives_fine ps a h, sym (negatives_put ps a after)));
}

-- ---- no arguments after what has none

shut_open : (σ : List Frame) (k : Option Sort) → shut (mark t.Open) σ k ≡ None
shut_open σ None = refl
shut_open σ (Some k) = refl

pub done_open : (m : Mode) (k : Sort) (σ : List Frame) (p : ℕ) (ts : List Tok)
    → run (on (done m k ∷ σ)) (sign t.Open p ∷ ts) ≡ stuck (sign t.Open p ∷ ts)
done_open m k σ p ts = ap (λ (x : Option (List Frame)). run (advance x (sign t.Open p ∷ ts)) ts)
    (shut_open σ (ended m k))

count_run : (o : Mode) (p b : ℕ) (vs : Vars) (c : ℕ) (f : Formula) (e : ℕ) → FineFormula f
    → (σ : List Frame) (ts : List Tok) → run (on (want o ∷ σ)) (put_factor (count p b vs c f e) ts)
    ≡ run (on (done o term ∷ σ)) ts
count_run o p b vs c f e h σ ts = run_vars vs c (need fresh ∷ close_brace o ∷ σ)
    (put_formula f (sign t.CloseBrace e ∷ ts)) ∙ read_formula fresh tt f h (close_brace o ∷ σ)
    (sign t.CloseBrace e ∷ ts) tt
    ∙ run_shut t.CloseBrace (mode_formula fresh f) (sort_formula f) formula refl (ends_formula fresh tt f)
    (close_brace o ∷ σ) e ts

fold_run : (o : Mode) (a : Aggregation) (p b : ℕ) (vs : Vars) (c : ℕ) (f : Formula) (d : ℕ) (x : Term) (e : ℕ)
    → FineFormula f → FineTerm x → (σ : List Frame) (ts : List Tok)
    → run (on (want o ∷ σ)) (put_factor (aggregate a p b vs c f d x e) ts) ≡ run (on (done o term ∷ σ)) ts
fold_run o a p b vs c f d x e h k σ ts = run_vars vs c (need fresh ∷ fold_colon o ∷ σ)
    (put_formula f (sign t.Colon d ∷ put_term x (sign t.CloseBrace e ∷ ts)))
    ∙ read_formula fresh tt f h (fold_colon o ∷ σ) (sign t.Colon d ∷ put_term x (sign t.CloseBrace e ∷ ts)) tt
    ∙ run_shut t.Colon (mode_formula fresh f) (sort_formula f) formula refl (ends_formula fresh tt f) (fold_colon o ∷ σ)
    d (put_term x (sign t.CloseBrace e ∷ ts))
    ∙ want_term in_term x k (close_brace o ∷ σ) (sign t.CloseBrace e ∷ ts) tt

pub app_shut : (o : Mode) (a : App) → FineApp a → (σ : List Frame) (p : ℕ) (ts : List Tok) → Shut a (sign t.Open p ∷ ts)
    → run (on (want o ∷ σ)) (put_app a (sign t.Open p ∷ ts)) ≡ stuck (sign t.Open p ∷ ts)
app_shut o (constant (name w i)) h σ p ts s = elim s [ ]
app_shut o (empty (name w i) q r) h σ p ts s = done_open o term σ p ts
app_shut o (apply (name w i) q xs r) h σ p ts s = args_want o term σ _ (args_open xs r (sign t.Open p ∷ ts))
    ∙ read_terms o term xs h σ r (sign t.Open p ∷ ts) ∙ done_open o term σ p ts

unsigned_shut : (o : Mode) (x : Factor) → FineFactor x → IsUnsigned x → (σ : List Frame) (p : ℕ) (ts : List Tok)
    → ShutFactor x (sign t.Open p ∷ ts) → run (on (want o ∷ σ)) (put_factor x (sign t.Open p ∷ ts))
    ≡ stuck (sign t.Open p ∷ ts)
unsigned_shut o (integer n q) h u σ p ts s = done_open o term σ p ts
unsigned_shut o (value a) h u σ p ts s = app_shut o a h σ p ts s
unsigned_shut o (brackets q x r) h u σ p ts s = want_term in_term x h (paren o ∷ σ)
    (sign t.Close r ∷ sign t.Open p ∷ ts) tt ∙ done_open o term σ p ts
unsigned_shut o (negative q x) h u σ p ts s = elim u [ ]
unsigned_shut o (count q b vs c f e) h u σ p ts s = count_run o q b vs c f e h σ (sign t.Open p ∷ ts)
    ∙ done_open o term σ p ts
unsigned_shut o (aggregate a q b vs c f d x e) h u σ p ts s = fold_run o a q b vs c f d x e h.0 h.1 σ
    (sign t.Open p ∷ ts) ∙ done_open o term σ p ts

pub factor_unsealed : (ps : List ℕ) (x : Factor) (ts us last : List Tok) (len : ℕ) (e : ReadError)
    → ts ≡ put_minuses ps us → UnsignedIs us x last → Unsealed last e → Fails at_factor put_factor FineFactor ts len e
factor_unsealed ps x ts us last len Memory is found h = elim h [ ]
factor_unsealed ps x ts us last len (Stuck place) is found h =
    let split : ts ≡ put_minuses ps (put_factor x last) = is ∙ ap (λ (v : List Tok). put_minuses ps v) found.spelled in
    fails_at at_factor put_factor FineFactor ts last len place (λ (y : List Tok). put_minuses ps (put_factor x y))
    (λ y z. ap (λ (v : List Tok). put_minuses ps v) (factor-append x y z) ∙ minuses-append ps (put_factor x y) z) split
    (λ m σ. ap (λ (v : List Tok). run (on (want m ∷ σ)) v) split ∙ minuses_run ps m σ (put_factor x last) ∙ at_open m σ)
    (λ after. (negatives ps x, after, negatives_fine ps x found.fine, sym (negatives_put ps x after))) (rw h.1 refl)
  where
    at_open : (m : Mode) (σ : List Frame) → run (on (want m ∷ σ)) (put_factor x last) ≡ stuck last
    at_open m σ = rw h.1 (unsigned_shut m x found.fine found.unsigned σ place h.0 (rw h.1 at found.shut))

pub factor_ends : (ps : List ℕ) (x : Factor) (ts us last : List Tok) → ts ≡ put_minuses ps us → UnsignedIs us x last
    → EndsFactor last → FactorIs ts (negatives ps x) last
factor_ends ps x ts us last is found h = record {
  spelled = is ∙ ap (λ (v : List Tok). put_minuses ps v) found.spelled ∙ sym (negatives_put ps x last);
  fine = negatives_fine ps x found.fine;
  ends = h;
}

-- ---- no factor begins

factor_first : (s : Terminal) (p : ℕ) (ts : List Tok) → ((n : ℕ) → s ≡ t.Integer n → ⊥) → (s ≡ t.Word → ⊥)
    → (s ≡ t.Open → ⊥) → (s ≡ t.Count → ⊥) → ((a : Aggregation) → s ≡ t.Aggregate a → ⊥)
    → No (t.Add Minus) (next (sign s p ∷ ts))
    → (m : Mode) (σ : List Frame) → run (on (want m ∷ σ)) (sign s p ∷ ts) ≡ stuck (sign s p ∷ ts)
factor_first (t.Integer n) p ts a b c d e u m σ = absurd (a n refl)
factor_first t.Open p ts a b c d e u m σ = absurd (c refl)
factor_first t.Count p ts a b c d e u m σ = absurd (d refl)
factor_first (t.Aggregate k) p ts a b c d e u m σ = absurd (e k refl)
factor_first (t.Add Minus) p ts a b c d e u m σ = absurd (u refl)
factor_first (t.Add Plus) p ts a b c d e u m σ = refl
factor_first s p ts a b c d e u m σ = refl

some_factor : Factor
some_factor = integer 0 0

pub no_factor : (ts : List Tok) (len place : ℕ) → ((m : Mode) (σ : List Frame) → run (on (want m ∷ σ)) ts ≡ stuck ts)
    → place ≡ place_of ts len → Fails at_factor put_factor FineFactor ts len (Stuck place)
no_factor ts len place h is = fails_at at_factor put_factor FineFactor ts ts len place (λ (x : List Tok). x)
    (λ x y. refl) refl h (λ after. (integer 0 0, put_factor (integer 0 0) after, tt, refl)) is

pub factor_none : (ts : List Tok) (len : ℕ) → ts ≡ [] → Fails at_factor put_factor FineFactor ts len (Stuck len)
factor_none ts len h = no_factor ts len len (λ m σ. rw h refl) (rw h refl)

pub factor_other : (ts : List Tok) (len : ℕ) (i : Item) (us : List Tok) → ts ≡ tok i ∷ us
    → ((n : ℕ) → i.terminal ≡ t.Integer n → ⊥) → (i.terminal ≡ t.Word → ⊥) → (i.terminal ≡ t.Open → ⊥)
    → (i.terminal ≡ t.Count → ⊥)
    → ((a : Aggregation) → i.terminal ≡ t.Aggregate a → ⊥) → No (t.Add Minus) (next ts)
    → Fails at_factor put_factor FineFactor ts len
    (Stuck i.place)
factor_other ts len i us h a b c d e u =
    let is : ts ≡ sign i.terminal i.place ∷ us = h ∙ ap (λ (x : Symbol). tok_at x i.place ∷ us)
    (marked i.terminal i.text.now b) in
    no_factor ts len i.place (λ m σ. rw is (factor_first i.terminal i.place us a b c d e (rw is at u) m σ)) (rw is refl)

pub in_value : (ts us : List Tok) → ts ≡ us → Context at_either put_app FineApp at_factor put_factor FineFactor ts us
in_value ts us is = record {
  before = λ x. x;
  appends = λ x y. refl;
  split = is;
  enters =
      λ m σ. (wanted m, σ, ap (λ (v : List Tok). run (on (want m ∷ σ)) v) is);
  wraps =
      λ after. (after, λ a h. (value a, h, refl));
}

-- ---- aggregates

pub true_formula : Formula
true_formula = alone (one (single (prim (truth true 0))))

in_count_opening_wraps : (p : ℕ) (after : List Tok) (a : Opening) → (b : Factor) × FineFactor b
    × (sign t.Count p ∷ put_opening a (put_formula (alone (one (single (prim (truth true 0)))))
    (sign t.CloseBrace 0 ∷ after)) ≡ put_factor b after)
in_count_opening_wraps p after (opening b vs c) = (
  count p b vs c (alone (one (single (prim (truth true 0))))) 0,
  tt,
  refl,
)

pub in_count_opening : (p : ℕ) (us : List Tok) → Context at_opening put_opening Whole at_factor put_factor FineFactor
    (sign t.Count p ∷ us) us
in_count_opening p us = record {
  before = λ x. sign t.Count p ∷ x;
  appends = λ x y. refl;
  split = refl;
  enters = λ m σ. (tt, need fresh ∷ close_brace m ∷ σ, refl);
  wraps = λ after. (
    put_formula (alone (one (single (prim (truth true 0))))) (sign t.CloseBrace 0 ∷ after),
    λ a h. in_count_opening_wraps p after a,
  );
}

opening-append : (o : Opening) (x y : List Tok) → put_opening o (x ++ y) ≡ put_opening o x ++ y
opening-append (opening b vs c) x y = ap (λ (v : List Tok). sign t.OpenBrace b ∷ v)
    (vars-append vs (sign t.Colon c ∷ x) y)

opening_run : (o : Opening) (σ : List Frame) (ts : List Tok) → run (on (brace ∷ vars_first ∷ colon ∷ σ))
    (put_opening o ts) ≡ run (on σ) ts
opening_run (opening b vs c) σ ts = run_vars vs c σ ts

pub in_count_formula : (p : ℕ) (o : Opening) (items us : List Tok) → items ≡ put_opening o us
    → Context at_sentence put_formula FineFormula at_factor put_factor FineFactor (sign t.Count p ∷ items) us
in_count_formula p o items us is = record {
  before = λ x. sign t.Count p ∷ put_opening o x;
  appends = λ x y. ap (λ (v : List Tok). sign t.Count p ∷ v) (opening-append o x y);
  split = ap (λ (v : List Tok). sign t.Count p ∷ v) is;
  enters = λ m σ. (
    tt,
    close_brace m ∷ σ,
    ap (λ (v : List Tok).
        run (on (brace ∷ vars_first ∷ colon ∷ need fresh ∷ close_brace m ∷ σ)) v) is
        ∙ opening_run o (need fresh ∷ close_brace m ∷ σ) us,
  );
  wraps = λ after. (sign t.CloseBrace 0 ∷ after, λ a h. closed o a h);
}
  where
    closed : (o : Opening) (a : Formula) → FineFormula a → {after : List Tok} → (b : Factor) × FineFactor b
        × (sign t.Count p ∷ put_opening o (put_formula a (sign t.CloseBrace 0 ∷ after)) ≡ put_factor b after)
    closed (opening b vs c) a h = (count p b vs c a 0, h, refl)

-- after a formula another token than the one that has to come
pub halted : (s : Terminal) (m : Mode) (k r : Sort) (τ : List Frame) (ts : List Tok) → Halts m k ts → ended m k ≡ Some r
    → finish (done m k ∷ τ) ≡ stuck []
    → ((x : Symbol) → (x ≡ mark s → ⊥) → shuts x τ r ≡ None) → ((p : ℕ) (us : List Tok) → ts ≡ sign s p ∷ us → ⊥)
    → run (on (done m k ∷ τ)) ts ≡ stuck ts
halted s m k r τ [] h e f n l = f
halted s m k r τ (tok_at x p ∷ ts) h e f n l =
    ap (λ (y : Option Frame). run (advance (behind_operand y (shut x τ (ended m k)) τ) (tok_at x p ∷ ts)) ts) h
    ∙ ap (λ (y : Option Sort). run (advance (shut x τ y) (tok_at x p ∷ ts)) ts) e
    ∙ ap (λ (y : Option (List Frame)). run (advance y (tok_at x p ∷ ts)) ts)
    (n x (λ (q : x ≡ mark s). l p ts (ap (λ (z : Symbol). tok_at z p ∷ ts) q)))

brace_shuts : (o : Mode) (σ : List Frame) (k : Sort) (x : Symbol) → (x ≡ mark t.CloseBrace → ⊥)
    → shuts x (close_brace o ∷ σ) k ≡ None
brace_shuts o σ k (mark t.CloseBrace) h = absurd (h refl)
brace_shuts o σ k x h = refl

colon_shuts : (o : Mode) (σ : List Frame) (k : Sort) (x : Symbol) → (x ≡ mark t.Colon → ⊥)
    → shuts x (fold_colon o ∷ σ) k ≡ None
colon_shuts o σ k (mark t.Colon) h = absurd (h refl)
colon_shuts o σ k x h = refl

pub unclosed_count : (p : ℕ) (o : Opening) (f : Formula) (items us rest : List Tok) (len : ℕ) (e : ReadError)
    → items ≡ put_opening o us → FormulaIs us fresh f rest → Absent (Is t.CloseBrace) rest len e
    → Fails at_factor put_factor FineFactor (sign t.Count p ∷ items) len e
unclosed_count p o f items us rest len e is found h = lacks_fails at_factor put_factor FineFactor t.CloseBrace
    (sign t.Count p ∷ items) rest len e (λ (x : List Tok). sign t.Count p ∷ put_opening o (put_formula f x))
    (λ x y. ap (λ (v : List Tok). sign t.Count p ∷ v) (ap (λ (v : List Tok). put_opening o v) (formula-append f x y)
    ∙ opening-append o (put_formula f x) y))
    (ap (λ (v : List Tok). sign t.Count p ∷ v) (is ∙ ap (λ (v : List Tok). put_opening o v) found.spelled))
    (λ l m σ. ap (λ (v : List Tok). run (on (brace ∷ vars_first ∷ colon ∷ need fresh ∷ close_brace m ∷ σ)) v)
    (is ∙ ap (λ (v : List Tok). put_opening o v) found.spelled)
    ∙ opening_run o (need fresh ∷ close_brace m ∷ σ) (put_formula f rest) ∙ read_formula fresh tt f found.fine
    (close_brace m ∷ σ) rest found.no_args
    ∙ halted t.CloseBrace (mode_formula fresh f) (sort_formula f) formula (close_brace m ∷ σ) rest found.halts
    (ends_formula fresh tt f) refl (brace_shuts m σ formula) l)
    (λ after. closed o after) h
  where
    closed : (o : Opening) (after : List Tok) → (b : Factor) × (more : List Tok) × FineFactor b
        × (sign t.Count p ∷ put_opening o (put_formula f more) ≡ put_factor b after)
    closed (opening b vs c) after = (count p b vs c f 0, sign t.CloseBrace 0 ∷ after, found.fine, refl)

pub in_fold_opening : (k : Aggregation) (p : ℕ) (us : List Tok) → Context at_opening put_opening Whole at_factor
    put_factor FineFactor (sign (t.Aggregate k) p ∷ us) us
in_fold_opening k p us = record {
  before = λ x. sign (t.Aggregate k) p ∷ x;
  appends = λ x y. refl;
  split = refl;
  enters = λ m σ. (tt, need fresh ∷ fold_colon m ∷ σ, refl);
  wraps = λ after. (
    put_formula (alone (one (single (prim (truth true 0)))))
        (sign t.Colon 0 ∷ put_term (product (factor (integer 0 0))) (sign t.CloseBrace 0 ∷ after)),
    λ a h. closed after a,
  );
}
  where
    closed : (after : List Tok) (a : Opening) → (b : Factor) × FineFactor b
        × (sign (t.Aggregate k) p ∷ put_opening a (put_formula (alone (one (single (prim (truth true 0)))))
        (sign t.Colon 0 ∷ put_term (product (factor (integer 0 0))) (sign t.CloseBrace 0 ∷ after)))
        ≡ put_factor b after)
    closed after (opening b vs c) = (
      aggregate k p b vs c (alone (one (single (prim (truth true 0))))) 0
          (product (factor (integer 0 0))) 0,
      (tt, tt),
      refl,
    )

pub in_fold_formula : (k : Aggregation) (p : ℕ) (o : Opening) (items us : List Tok) → items ≡ put_opening o us
    → Context at_sentence put_formula FineFormula at_factor put_factor FineFactor (sign (t.Aggregate k) p ∷ items) us
in_fold_formula k p o items us is = record {
  before = λ x. sign (t.Aggregate k) p ∷ put_opening o x;
  appends = λ x y. ap (λ (v : List Tok). sign (t.Aggregate k) p ∷ v) (opening-append o x y);
  split = ap (λ (v : List Tok). sign (t.Aggregate k) p ∷ v) is;
  enters = λ m σ. (
    tt,
    fold_colon m ∷ σ,
    ap (λ (v : List Tok).
        run (on (brace ∷ vars_first ∷ colon ∷ need fresh ∷ fold_colon m ∷ σ)) v) is
        ∙ opening_run o (need fresh ∷ fold_colon m ∷ σ) us,
  );
  wraps = λ after. (
    sign t.Colon 0 ∷ put_term (product (factor (integer 0 0))) (sign t.CloseBrace 0 ∷ after),
    λ a h. closed after o a h,
  );
}
  where
    closed : (after : List Tok) (o : Opening) (a : Formula) → FineFormula a → (b : Factor) × FineFactor b
        × (sign (t.Aggregate k) p ∷ put_opening o (put_formula a
        (sign t.Colon 0 ∷ put_term (product (factor (integer 0 0))) (sign t.CloseBrace 0 ∷ after)))
        ≡ put_factor b after)
    closed after (opening b vs c) a h = (aggregate k p b vs c a 0 (product (factor (integer 0 0))) 0, (h, tt), refl)

-- the way to the place after the formula
to_colon : (k : Aggregation) (p : ℕ) (o : Opening) (f : Formula) (items us rest : List Tok) → items ≡ put_opening o us
    → FormulaIs us fresh f rest → (m : Mode) (σ : List Frame)
    → run (on (want m ∷ σ)) (sign (t.Aggregate k) p ∷ items) ≡ run
    (on (done (mode_formula fresh f) (sort_formula f) ∷ fold_colon m ∷ σ)) rest
to_colon k p o f items us rest is found m σ = ap (λ (v : List Tok).
    run (on (brace ∷ vars_first ∷ colon ∷ need fresh ∷ fold_colon m ∷ σ)) v)
    (is ∙ ap (λ (v : List Tok). put_opening o v) found.spelled)
    ∙ opening_run o (need fresh ∷ fold_colon m ∷ σ) (put_formula f rest) ∙ read_formula fresh tt f found.fine
    (fold_colon m ∷ σ) rest found.no_args

fold-append : (k : Aggregation) (p : ℕ) (o : Opening) (f : Formula) (x y : List Tok)
    → sign (t.Aggregate k) p ∷ put_opening o (put_formula f (x ++ y))
    ≡ (sign (t.Aggregate k) p ∷ put_opening o (put_formula f x)) ++ y
fold-append k p o f x y = ap (λ (v : List Tok). sign (t.Aggregate k) p ∷ v)
    (ap (λ (v : List Tok). put_opening o v) (formula-append f x y) ∙ opening-append o (put_formula f x) y)

pub fold_no_colon : (k : Aggregation) (p : ℕ) (o : Opening) (f : Formula) (items us rest : List Tok) (len : ℕ)
    (e : ReadError) → items ≡ put_opening o us → FormulaIs us fresh f rest → Absent (Is t.Colon) rest len e
    → Fails at_factor put_factor FineFactor (sign (t.Aggregate k) p ∷ items) len e
fold_no_colon k p o f items us rest len e is found h = lacks_fails at_factor put_factor FineFactor t.Colon
    (sign (t.Aggregate k) p ∷ items) rest len e (λ (x : List Tok). sign (t.Aggregate k) p ∷ put_opening o
    (put_formula f x))
    (fold-append k p o f) (ap (λ (v : List Tok). sign (t.Aggregate k) p ∷ v)
    (is ∙ ap (λ (v : List Tok). put_opening o v) found.spelled))
    (λ l m σ. to_colon k p o f items us rest is found m σ
    ∙ halted t.Colon (mode_formula fresh f) (sort_formula f) formula (fold_colon m ∷ σ) rest found.halts
    (ends_formula fresh tt f) refl (colon_shuts m σ formula) l)
    (λ after. closed o after) h
  where
    closed : (o : Opening) (after : List Tok) → (b : Factor) × (more : List Tok) × FineFactor b
        × (sign (t.Aggregate k) p ∷ put_opening o (put_formula f more) ≡ put_factor b after)
    closed (opening b vs c) after = (
      aggregate k p b vs c f 0 (product (factor (integer 0 0))) 0,
      sign t.Colon 0 ∷ put_term (product (factor (integer 0 0))) (sign t.CloseBrace 0 ∷ after),
      (found.fine, tt),
      refl,
    )

-- and after the colon
to_term : (k : Aggregation) (p : ℕ) (o : Opening) (f : Formula) (d : ℕ) (items us rest vs : List Tok)
    → items ≡ put_opening o us → FormulaIs us fresh f rest → rest ≡ sign t.Colon d ∷ vs → (m : Mode) (σ : List Frame)
    → run (on (want m ∷ σ)) (sign (t.Aggregate k) p ∷ items) ≡ run (on (want in_term ∷ close_brace m ∷ σ)) vs
to_term k p o f d items us rest vs is found next m σ = to_colon k p o f items us rest is found m σ
    ∙ ap (λ (v : List Tok). run (on (done (mode_formula fresh f) (sort_formula f) ∷ fold_colon m ∷ σ)) v) next
    ∙ run_shut t.Colon (mode_formula fresh f) (sort_formula f) formula refl (ends_formula fresh tt f)
    (fold_colon m ∷ σ) d vs

pub in_fold_term : (k : Aggregation) (p : ℕ) (o : Opening) (f : Formula) (d : ℕ) (items us rest vs : List Tok)
    → items ≡ put_opening o us → FormulaIs us fresh f rest → rest ≡ sign t.Colon d ∷ vs
    → Context at_factor put_term FineTerm at_factor put_factor FineFactor (sign (t.Aggregate k) p ∷ items) vs
in_fold_term k p o f d items us rest vs is found next = record {
  before = λ x. sign (t.Aggregate k) p ∷ put_opening o (put_formula f (sign t.Colon d ∷ x));
  appends = λ x y. fold-append k p o f (sign t.Colon d ∷ x) y;
  split = ap (λ (v : List Tok). sign (t.Aggregate k) p ∷ v) (is ∙ ap (λ (v : List Tok). put_opening o v) (found.spelled
      ∙ ap (λ (v : List Tok). put_formula f v) next));
  enters = λ m σ. (in_term, close_brace m ∷ σ, to_term k p o f d items us rest vs is found next m σ);
  wraps = λ after. (sign t.CloseBrace 0 ∷ after, λ a h. closed after o a h);
}
  where
    closed : (after : List Tok) (o : Opening) (a : Term) → FineTerm a → (b : Factor) × FineFactor b
        × (sign (t.Aggregate k) p ∷ put_opening o (put_formula f
        (sign t.Colon d ∷ put_term a (sign t.CloseBrace 0 ∷ after))) ≡ put_factor b after)
    closed after (opening b vs c) a h = (aggregate k p b vs c f d a 0, (found.fine, h), refl)

pub unclosed_fold : (k : Aggregation) (p : ℕ) (o : Opening) (f : Formula) (d : ℕ) (x : Term)
    (items us rest vs last : List Tok) (len : ℕ) (e : ReadError) → items ≡ put_opening o us → FormulaIs us fresh f rest
    → rest ≡ sign t.Colon d ∷ vs
    → TermIs vs x last → Absent (Is t.CloseBrace) last len e → Fails at_factor put_factor FineFactor
    (sign (t.Aggregate k) p ∷ items) len e
unclosed_fold k p o f d x items us rest vs last len e is found next of h =
    lacks_fails at_factor put_factor FineFactor t.CloseBrace (sign (t.Aggregate k) p ∷ items) last len e
    (λ (y : List Tok). sign (t.Aggregate k) p ∷ put_opening o (put_formula f (sign t.Colon d ∷ put_term x y)))
    (λ y z. ap (λ (v : List Tok). sign (t.Aggregate k) p ∷ put_opening o (put_formula f (sign t.Colon d ∷ v)))
    (term-append x y z) ∙ fold-append k p o f (sign t.Colon d ∷ put_term x y) z)
    (ap (λ (v : List Tok). sign (t.Aggregate k) p ∷ v) (is ∙ ap (λ (v : List Tok). put_opening o v) (found.spelled
    ∙ ap (λ (v : List Tok). put_formula f v) (next ∙ ap (λ (v : List Tok). sign t.Colon d ∷ v) of.spelled))))
    (λ l m σ. to_term k p o f d items us rest vs is found next m σ
    ∙ ap (λ (v : List Tok). run (on (want in_term ∷ close_brace m ∷ σ)) v) of.spelled
    ∙ want_term in_term x of.fine (close_brace m ∷ σ) last (term_no_args last of.ends) ∙ brace_stuck m σ last of.ends l)
    (λ after. closed o after) h
  where
    closed : (o : Opening) (after : List Tok) → (b : Factor) × (more : List Tok) × FineFactor b
        × (sign (t.Aggregate k) p ∷ put_opening o (put_formula f (sign t.Colon d ∷ put_term x more))
        ≡ put_factor b after)
    closed (opening b vs c) after = (
      aggregate k p b vs c f d x 0,
      sign t.CloseBrace 0 ∷ after,
      (found.fine, of.fine),
      refl,
    )

pub to_the_brace : (d e : ℕ) (x : Term) (ts vs rest last : List Tok) → ts ≡ sign t.Colon d ∷ vs → TermIs vs x rest
    → rest ≡ sign t.CloseBrace e ∷ last
    → (ts ≡ sign t.Colon d ∷ put_term x (sign t.CloseBrace e ∷ last)) × FineTerm x
to_the_brace d e x ts vs rest last is of next =
    (is ∙ ap (λ (v : List Tok). sign t.Colon d ∷ v) (of.spelled ∙ ap (λ (v : List Tok). put_term x v) next), of.fine)

pub fold_is : (k : Aggregation) (p b : ℕ) (vs : Vars) (c : ℕ) (f : Formula) (d : ℕ) (x : Term) (e : ℕ)
    (items us rest last : List Tok)
    → items ≡ put_opening (opening b vs c) us → FormulaIs us fresh f rest → rest ≡ sign t.Colon d ∷ put_term x
    (sign t.CloseBrace e ∷ last) → FineTerm x
    → UnsignedIs (sign (t.Aggregate k) p ∷ items) (aggregate k p b vs c f d x e) last
fold_is k p b vs c f d x e items us rest last is found next fine = record {
  spelled = ap (λ (v : List Tok). sign (t.Aggregate k) p ∷ v)
      (is ∙ ap (λ (v : List Tok). put_opening (opening b vs c) v) (found.spelled
      ∙ ap (λ (v : List Tok). put_formula f v) next));
  fine = (found.fine, fine);
  shut = tt;
  unsigned = tt;
}

pub unsigned_from : (ts us : List Tok) (len : ℕ) (r : Result (RawFactor × Bor (List Item)) ReadError) → ts ≡ us
    → UnsignedRead us len r → UnsignedRead ts len r
unsigned_from ts us len r e h = rw e h
