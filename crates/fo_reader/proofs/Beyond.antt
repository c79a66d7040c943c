-- Where a formula, a term, an application or variables are stuck in a block, whatever follows them.
use Rattle.std.proofs.Common.{◌≡◌, ℕ, List, [], ◌∷◌, ◌++◌, append-nil, Some, None, ◌⊎◌, inl, inr, refl, sym, ap, ap₂}
use Rattle.std.proofs.Common.{subst, ◌∙◌, arith}
use Rattle.grammar.specs.declared.stops.ReadError.{ReadError}
use Rattle.grammar.specs.declared.stops.ReadError.TheVariants.{Memory, Stuck}
use Rattle.grammar.specs.declared.terminal.Terminal.TheVariants as t
use Rattle.grammar.specs.declared.terminal.Outer.TheVariants as o
use Rattle.grammar.specs.Terminals.{Symbol, Tok, tok_at, mark, word, sign}
use Rattle.grammar.specs.Trees.{Vars, Formula, App}
use Rattle.grammar.specs.Spelling.{put_formula, put_term, put_app}
use Rattle.grammar.specs.Fine.{FineFormula, FineTerm, FineApp}
use Rattle.grammar.specs.Texts.{SameHead}
use Rattle.token_reader.specs.Machine.{Frame, need, want, done, vars_first, colon, dot, beyond, fresh, in_term, Sort}
use Rattle.token_reader.specs.Machine.{term, formula, on, stuck, whole, run, shuts}
use Rattle.token_reader.specs.Modes.{mode_formula, sort_formula}
use Rattle.token_reader.specs.Parts.{Broken, Fails, EndsFactor, EndsTerm, wanted, at_sentence, at_factor, at_either}
use Rattle.token_reader.specs.Parts.{at_vars}
use Rattle.formula_reader.specs.Results.{FormulaIs, ArgumentsAre}
use Rattle.token_reader.specs.Parts.{Unsealed}
use Rattle.token_reader.specs.Binders.{Binder, binder, put_binder, Whole}
use Rattle.block_reader.specs.BlockParts.{StuckAt}
use Rattle.token_reader.specs.Signs.{next, Is}
use Rattle.fo_reader.specs.TheoryReads.{EndsApp, EndsSum}
use Rattle.token_reader.proofs.Append.{formula-append, app-append}
use Rattle.token_reader.proofs.Only.{only_app}
use Rattle.token_reader.proofs.Behind.{ends_formula}
use Rattle.token_reader.proofs.Runs.{run_vars, run_shut}
use Rattle.token_reader.proofs.Readings.{read_formula, want_term, want_app}
use Rattle.formula_reader.proofs.InTerms.{term_no_args}
use Rattle.formula_reader.proofs.InFactors.{halted, app_shut}
use Rattle.formula_reader.proofs.Unread.{unread, left_on}
use Rattle.block_reader.proofs.Formats.{Format, Here, same_next}
use Rattle.fo_reader.proofs.FormulaFormats.{app_format, app_ended, term_format, term_ended, formula_format}
use Rattle.fo_reader.proofs.TheoryFormats.{bound_vars}

stays : (σ : List Frame) (ts : List Tok) → run (on (beyond ∷ σ)) ts ≡ whole
stays σ [] = refl
stays σ (tok_at s p ∷ ts) = stays σ ts

-- stuck in an F, where each F with its end after it is read to the end of some text
here_by : {A : Type 0} (F : Format A) (ts front rest : List Tok) → ts ≡ front ++ rest
    → ((a : A) (after : List Tok) → F.Fine a → F.Next (next after) → (σ : List Frame) × (run (on σ) ts ≡ stuck rest)
    × (run (on σ) (F.put a after) ≡ whole))
    → ((after : List Tok) → (a : A) × (more : List Tok) × F.Fine a × (front ++ more ≡ F.put a after)) → Here F ts rest
here_by F ts front rest split reads viable = record {
  front = front;
  split = split;
  dead = λ a more after same fine n e.
      let r = reads a after fine n in
      unread r.0 front rest more same (ap (λ (v : List Tok). run (on r.0) v) (sym split) ∙ r.1)
      (ap (λ (v : List Tok). run (on r.0) v) e ∙ r.2);
  viable = viable;
}

-- ---- terms

passes : (s : Symbol) (p : ℕ) (ts : List Tok) → EndsTerm (tok_at s p ∷ ts) → run (on (done in_term term ∷ beyond ∷ []))
    (tok_at s p ∷ ts) ≡ whole
passes (word w) p ts h = stays [] ts
passes (mark t.Open) p ts h = elim h [ ]
passes (mark t.Times) p ts h = elim h [ ]
passes (mark (t.Add s)) p ts h = elim h [ ]
passes (mark s) p ts h = stays [] ts

-- what a term stands on that has these tokens after it
abbrev under : List Tok → List Frame
under [] = []
under (x ∷ ts) = beyond ∷ []

term_over : (after : List Tok) → EndsTerm after → run (on (done in_term term ∷ under after)) after ≡ whole
term_over [] h = refl
term_over (tok_at s p ∷ ts) h = passes s p ts h

term_here : (ts rest : List Tok) → Broken at_factor put_term FineTerm ts rest → Here term_format ts rest
term_here ts rest b = here_by term_format ts b.front rest b.split
    (λ x after fine n. (
      want in_term ∷ under after,
      b.runs in_term (under after),
      want_term in_term x fine (under after) after (term_no_args after (term_ended after n))
          ∙ term_over after (term_ended after n),
    ))
    b.viable

pub term_fails : (ts : List Tok) (len : ℕ) (e : ReadError) → Fails at_factor put_term FineTerm ts len e
    → StuckAt put_term FineTerm EndsSum ts len e
term_fails ts len Memory h = tt
term_fails ts len (Stuck place) h = (h.0, term_here ts h.0 h.1, h.2)

-- ---- formulas with a full stop after them

dot_over : (f : Formula) → FineFormula f → (after : List Tok) → Is (t.Outer o.Dot) (next after)
    → run (on (need fresh ∷ dot ∷ [])) (put_formula f after) ≡ whole
dot_over f h [] e = absurd (cc)
dot_over f h (tok_at s p ∷ after) e =
    let is : s ≡ mark (t.Outer o.Dot) = cc in
    rw is (read_formula fresh tt f h (dot ∷ []) (sign (t.Outer o.Dot) p ∷ after) tt
    ∙ run_shut (t.Outer o.Dot) (mode_formula fresh f) (sort_formula f) formula refl (ends_formula fresh tt f)
    (dot ∷ []) p after ∙ stays [] after)

formula_here : (ts rest : List Tok) → Broken at_sentence put_formula FineFormula ts rest → Here formula_format ts rest
formula_here ts rest b = here_by formula_format ts b.front rest b.split
    (λ f after fine n. (need fresh ∷ dot ∷ [], b.runs tt (dot ∷ []), dot_over f fine after n)) b.viable

pub formula_fails : (ts : List Tok) (len : ℕ) (e : ReadError) → Fails at_sentence put_formula FineFormula ts len e
    → StuckAt put_formula FineFormula (Is (t.Outer o.Dot)) ts len e
formula_fails ts len Memory h = tt
formula_fails ts len (Stuck place) h = (h.0, formula_here ts h.0 h.1, h.2)

dot_shuts : (k : Sort) (x : Symbol) → (x ≡ mark (t.Outer o.Dot) → ⊥) → shuts x (dot ∷ []) k ≡ None
dot_shuts k (mark (t.Outer o.Dot)) h = absurd (h refl)
dot_shuts k x h = refl

-- a formula was read, and no full stop comes
pub no_dot : (f : Formula) (ts rest : List Tok) → FormulaIs ts fresh f rest → (Is (t.Outer o.Dot) (next rest) → ⊥)
    → Here formula_format ts rest
no_dot f ts rest h never = here_by formula_format ts (put_formula f []) rest (h.spelled ∙ formula-append f [] rest)
    (λ g after fine n. (need fresh ∷ dot ∷ [], halts, dot_over g fine after n))
    (λ after. (f, after, h.fine, sym (formula-append f [] after)))
  where
    halts : run (on (need fresh ∷ dot ∷ [])) ts ≡ stuck rest
    halts = ap (λ (v : List Tok). run (on (need fresh ∷ dot ∷ [])) v) h.spelled ∙ read_formula fresh tt f h.fine
        (dot ∷ []) rest h.no_args
        ∙ halted (t.Outer o.Dot) (mode_formula fresh f) (sort_formula f) formula (dot ∷ []) rest h.halts
        (ends_formula fresh tt f) refl (dot_shuts formula) (λ p us e. never (ap next e))

-- ---- variables and the colon after them

binder_over : (x : Vars × ℕ) (after : List Tok) → run (on (vars_first ∷ colon ∷ beyond ∷ []))
    (bound_vars.put x after) ≡ whole
binder_over x after = run_vars x.0 x.1 (beyond ∷ []) after ∙ stays [] after

binder_viable : (front : List Tok) (after : List Tok) → (a : Binder) × (more : List Tok) × Whole a
    × (front ++ more ≡ put_binder a after) → (a : Vars × ℕ) × (more : List Tok) × bound_vars.Fine a
    × (front ++ more ≡ bound_vars.put a after)
binder_viable front after (binder vs q, more, fine, e) = ((vs, q), more, (tt, tt), e)

binder_here : (ts rest : List Tok) → Broken at_vars put_binder Whole ts rest → Here bound_vars ts rest
binder_here ts rest b = here_by bound_vars ts b.front rest b.split (λ x after fine n. (
  vars_first ∷ colon ∷ beyond ∷ [],
  b.runs tt (beyond ∷ []),
  binder_over x after,
)) (λ after. binder_viable b.front after (b.viable after))

pub binder_fails : (ts : List Tok) (len : ℕ) (e : ReadError) → Fails at_vars put_binder Whole ts len e
    → StuckAt bound_vars.put bound_vars.Fine bound_vars.Next ts len e
binder_fails ts len Memory h = tt
binder_fails ts len (Stuck place) h = (h.0, binder_here ts h.0 h.1, h.2)

-- ---- applications

-- stuck in the text of an application, wherever a term has to stand
record Amid (ts rest : List Tok) : Type 0 where
  front : List Tok
  split : ts ≡ front ++ rest
  runs : (σ : List Frame) → run (on (want in_term ∷ σ)) ts ≡ stuck rest
  viable : (after : List Tok) → (a : App) × (more : List Tok) × FineApp a × (front ++ more ≡ put_app a after)

-- of one text, one prefix is the longer or the other
abbrev Cut : List Tok → List Tok → List Tok → List Tok → Type 0
Cut x y m n = ((z : List Tok) × (y ≡ x ++ z) × (m ≡ z ++ n)) ⊎ ((u : Tok) × (z : List Tok) × (x ≡ y ++ u ∷ z)
    × (n ≡ u ∷ z ++ m))

cut_on : (a b : Tok) (x y m n : List Tok) → a ≡ b → Cut x y m n → Cut (a ∷ x) (b ∷ y) m n
cut_on a b x y m n e (inl r) = inl (r.0, ap₂ (λ (c : Tok) (v : List Tok). c ∷ v) (sym e) r.1, r.2)
cut_on a b x y m n e (inr r) = inr (r.0, r.1, ap₂ (λ (c : Tok) (v : List Tok). c ∷ v) e r.2, r.3)

cut : (x y m n : List Tok) → x ++ m ≡ y ++ n → Cut x y m n
cut [] y m n e = inl (y, refl, e)
cut (a ∷ x) [] m n e = inr (a, x, refl, sym e)
cut (a ∷ x) (b ∷ y) m n e =
    let head : a ≡ b = cc in
    let tail : x ++ m ≡ y ++ n = cc in
    cut_on a b x y m n head (cut x y m n tail)

head_same : (rest : List Tok) (u : Tok) (x y : List Tok) → SameHead rest (u ∷ x) → SameHead rest (u ∷ y)
head_same [] u x y h = h
head_same (v ∷ rest) u x y h = h

head_ends : (u : Tok) (x y : List Tok) → EndsApp (next (u ∷ x)) → EndsFactor (u ∷ y)
head_ends (tok_at s p) x y h = app_ended (tok_at s p ∷ y) h

-- nothing is stuck before what may follow an application
goes : (s : Symbol) (p : ℕ) (ts : List Tok) → EndsApp (Some s) → run (on (done in_term term ∷ beyond ∷ []))
    (tok_at s p ∷ ts) ≡ stuck (tok_at s p ∷ ts) → ⊥
goes (word w) p ts h e = let f : whole ≡ stuck (tok_at (word w) p ∷ ts) = sym (stays [] ts) ∙ e in cc
goes (mark t.Open) p ts h e = h
goes (mark t.Times) p ts h e = let left = left_on (want in_term ∷ beyond ∷ []) ts (sign t.Times p ∷ ts) e in
    absurd (omega (arith, left))
goes (mark (t.Add s)) p ts h e = let left = left_on (want in_term ∷ beyond ∷ []) ts (sign (t.Add s) p ∷ ts) e in
    absurd (omega (arith, left))
goes (mark s) p ts h e = let f : whole ≡ stuck (sign s p ∷ ts) = sym (stays [] ts) ∙ e in cc

read_out : (rest : List Tok) → EndsApp (next rest) → run (on (done in_term term ∷ under rest)) rest ≡ stuck rest → ⊥
read_out [] h e = cc
read_out (tok_at s p ∷ rest) h e = goes s p rest h e

-- the stop is before the application's end
inside : (ts rest : List Tok) (b : Amid ts rest) (a : App) → FineApp a → (u : Tok) (z : List Tok)
    → SameHead rest (u ∷ z) → put_app a [] ≡ b.front ++ u ∷ z → ⊥
inside ts rest b a fine u z same e = unread (want in_term ∷ []) b.front rest (u ∷ z) same
    (ap (λ (v : List Tok). run (on (want in_term ∷ [])) v) (sym b.split) ∙ b.runs [])
    (ap (λ (v : List Tok). run (on (want in_term ∷ [])) v) (sym e) ∙ want_app in_term a fine [] [] tt)

-- it is the application's end
at_end : (ts rest : List Tok) (b : Amid ts rest) (a : App) → FineApp a → EndsApp (next rest)
    → put_app a [] ≡ b.front → ⊥
at_end ts rest b a fine n e =
    let σ = under rest in
    let text : ts ≡ put_app a rest = b.split ∙ ap (λ (v : List Tok). v ++ rest) (sym e) ∙ sym (app-append a [] rest) in
    read_out rest n (sym (want_app in_term a fine σ rest (app_ended rest n))
    ∙ ap (λ (v : List Tok). run (on (want in_term ∷ σ)) v) (sym text) ∙ b.runs σ)

-- it is after it: then the tokens before the stop begin no application
outside : (ts rest : List Tok) (b : Amid ts rest) (a : App) → FineApp a → (u : Tok) (z more : List Tok)
    → EndsApp (next (u ∷ z ++ more)) → b.front ≡ put_app a [] ++ u ∷ z → ⊥
outside ts rest b a fine u z more n e =
    let v = b.viable [] in
    let text : put_app a (u ∷ z ++ v.1) ≡ put_app v.0 [] = app-append a (u ∷ z) v.1 ∙ ap (λ (x : List Tok). x ++ v.1)
    (app-append a [] (u ∷ z) ∙ sym e) ∙ v.3 in
    let same = (only_app a v.0 (u ∷ z ++ v.1) [] fine v.2 (head_ends u (z ++ more) (z ++ v.1) n) tt text).1 in
    cc

app_dead : (ts rest : List Tok) (b : Amid ts rest) (a : App) (more after : List Tok) → SameHead rest more → FineApp a
    → EndsApp (next after) → Cut b.front (put_app a []) more after → ⊥
app_dead ts rest b a more after same fine n (inl ([], e, m)) =
    at_end ts rest b a fine (subst EndsApp (sym (same_next rest more same ∙ ap next m)) n) (e ∙ append-nil b.front)
app_dead ts rest b a more after same fine n (inl (u ∷ z, e, m)) =
    inside ts rest b a fine u z (head_same rest u (z ++ after) z (subst (λ (v : List Tok). SameHead rest v) m same)) e
app_dead ts rest b a more after same fine n (inr (u, z, e, m)) = outside ts rest b a fine u z more
    (subst EndsApp (ap next m) n) e

app_here : (ts rest : List Tok) → Amid ts rest → Here app_format ts rest
app_here ts rest b = record {
  front = b.front;
  split = b.split;
  dead = λ a more after same fine n e. app_dead ts rest b a more after same fine n
      (cut b.front (put_app a []) more after (e ∙ app-append a [] after));
  viable = b.viable;
}

pub app_fails : (ts us : List Tok) (len : ℕ) (e : ReadError) → ts ≡ us → Fails at_either put_app FineApp us len e
    → StuckAt put_app FineApp EndsApp ts len e
app_fails ts us len Memory is h = tt
app_fails ts us len (Stuck place) is h = (
  h.0,
  app_here ts h.0 (record {
    front = h.1.front;
    split = is ∙ h.1.split;
    runs = λ σ. ap (λ (v : List Tok). run (on (want in_term ∷ σ)) v) is ∙ h.1.runs (wanted in_term) σ;
    viable =
        h.1.viable;
  }),
  h.2,
)

-- an application was read, and arguments come
pub app_unsealed : (a : App) (ts rest : List Tok) (len : ℕ) (e : ReadError) → ArgumentsAre ts a rest → Unsealed rest e
    → StuckAt put_app FineApp EndsApp ts len e
app_unsealed a ts rest len Memory found h = elim h [ ]
app_unsealed a ts rest len (Stuck place) found h = (
  rest,
  app_here ts rest (record {
    front = put_app a [];
    split = found.spelled ∙ app-append a [] rest;
    runs = stops;
    viable =
        λ after. (a, after, found.fine, sym (app-append a [] after));
  }),
  rw h.1 refl,
)
  where
    stops : (σ : List Frame) → run (on (want in_term ∷ σ)) ts ≡ stuck rest
    stops σ = ap (λ (v : List Tok). run (on (want in_term ∷ σ)) v) found.spelled
        ∙ rw h.1 (app_shut in_term a found.fine σ place h.0 (rw h.1 at found.shut))
