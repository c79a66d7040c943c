-- A text that the machine does not read is refused where it stands still.
use Rattle.std.proofs.Common.{◌≡◌, ℕ, suc, ◌≤◌, List, [], ◌∷◌, ◌++◌, length, Result, Ok, Err, Option, Some, None, refl}
use Rattle.std.proofs.Common.{sym, ap, subst, ◌∙◌, arith}
use Rattle.std.proofs.lemmas.List.{append-nil}
use Rattle.kb_text.specs.declared.fault.K.TheVariants.{Syntax}
use Rattle.kb_text.specs.declared.fault.KbFault.{KbFault}
use Rattle.grammar.specs.declared.terminal.Terminal.TheVariants as t
use Rattle.grammar.specs.declared.stops.ReadError.{ReadError}
use Rattle.grammar.specs.declared.stops.ReadError.TheVariants.{Memory, Stuck}
use Rattle.grammar.specs.Terminals.{Symbol, Tok, tok_at, mark, word}
use Rattle.grammar.specs.Trees.{Formula, Term}
use Rattle.grammar.specs.Spelling.{put_formula, put_term}
use Rattle.grammar.specs.Fine.{FineFormula, FineTerm}
use Rattle.grammar.specs.Texts.{SameHead, ParsesTo, FirstStuck}
use Rattle.token_reader.specs.Machine.{Frame, need, want, done, named, fresh, Mode, in_term, Sort, term, on, stuck}
use Rattle.token_reader.specs.Machine.{whole, run, finish, ends_at, ended, step, advance, goes_on, shut, shuts}
use Rattle.token_reader.specs.Machine.{behind_operand}
use Rattle.token_reader.specs.Modes.{mode_formula, sort_formula}
use Rattle.token_reader.specs.Parts.{Fails, EndsTerm, at_sentence, at_factor}
use Rattle.formula_reader.specs.Results.{FormulaIs, TermIs}
use Rattle.grammar.specs.declared.error.KbError.{KbError}
use Rattle.grammar.specs.declared.error.KbError.TheVariants as errors
use Rattle.grammar.specs.Items.{IsTokens, ItemsOf}
use Rattle.grammar.specs.Whole.{IsStuck, parsed, unscanned, ungrammatical, Answers, Parses, refusal_of}
use Rattle.token_reader.proofs.Append.{formula-append, term-append}
use Rattle.token_reader.proofs.Behind.{ends_formula}
use Rattle.formula_reader.proofs.InTerms.{term_no_args}
use Rattle.token_reader.proofs.Readings.{read_formula, want_term}

-- ---- the machine stands still in what is left of its text

nothing_left : (k : Option Sort) (r : List Tok) → ends_at k ≡ stuck r → length r ≤ 0
nothing_left None r e = let same : [] ≡ r = cc in rw (sym same) (omega arith)
nothing_left (Some k) r e = absurd (cc)

finish_left : (σ : List Frame) (r : List Tok) → finish σ ≡ stuck r → length r ≤ 0
finish_left (done m k ∷ []) r e = nothing_left (ended m k) r e
finish_left (named m k ∷ []) r e = nothing_left (ended m k) r e
finish_left σ r e = let same : [] ≡ r = cc in rw (sym same) (omega arith)

left_step : (o : Option (List Frame)) (x : Tok) (ts r : List Tok) → ((σ : List Frame) → run (on σ) ts ≡ stuck r
    → length r ≤ length ts) → run (advance o (x ∷ ts)) ts ≡ stuck r → length r ≤ suc (length ts)
left_step None x ts r left e = let same : x ∷ ts ≡ r = cc in rw (sym same) (omega arith)
left_step (Some σ) x ts r left e = omega (arith, left σ e)

pub left_on : (σ : List Frame) (ts r : List Tok) → run (on σ) ts ≡ stuck r → length r ≤ length ts
left_on σ [] r e = finish_left σ r e
left_on σ (tok_at s p ∷ ts) r e = left_step (step σ s) (tok_at s p) ts r (λ τ h. left_on τ ts r h) e

-- ---- no text that goes on with the same token is read

ended_here : (o : Option (List Frame)) (x : Tok) (rest more : List Tok) → run (advance o (x ∷ rest)) rest
    ≡ stuck (x ∷ rest) → run (advance o (x ∷ more)) more ≡ whole → ⊥
ended_here None x rest more e h = cc
ended_here (Some σ) x rest more e h = let left = left_on σ rest (x ∷ rest) e in absurd (omega (arith, left))

at_head : (σ : List Frame) (rest more : List Tok) → SameHead rest more → run (on σ) rest ≡ stuck rest
    → run (on σ) more ≡ whole → ⊥
at_head σ [] [] s e h = cc
at_head σ [] (y ∷ more) s e h = elim s [ ]
at_head σ (x ∷ rest) [] s e h = elim s [ ]
at_head σ (tok_at a p ∷ rest) (y ∷ more) s e h =
    let same : run (on σ) (tok_at a p ∷ more) ≡ whole = ap (λ (v : Tok). run (on σ) (v ∷ more)) s ∙ h in
    ended_here (step σ a) (tok_at a p) rest more e same

unread_step : (o : Option (List Frame)) (x : Tok) (front rest more : List Tok)
    → ((σ : List Frame) → run (on σ) (front ++ rest) ≡ stuck rest → run (on σ) (front ++ more) ≡ whole → ⊥)
    → run (advance o (x ∷ front ++ rest)) (front ++ rest) ≡ stuck rest → run (advance o (x ∷ front ++ more))
    (front ++ more) ≡ whole → ⊥
unread_step None x front rest more left e h = cc
unread_step (Some σ) x front rest more left e h = left σ e h

pub unread : (σ : List Frame) (front rest more : List Tok) → SameHead rest more → run (on σ) (front ++ rest)
    ≡ stuck rest → run (on σ) (front ++ more) ≡ whole → ⊥
unread σ [] rest more s e h = at_head σ rest more s e h
unread σ (tok_at a p ∷ front) rest more s e h = unread_step (step σ a) (tok_at a p) front rest more
    (λ τ x y. unread τ front rest more s x y) e h

pub first_stuck : {A : Type 0} (put : A → List Tok → List Tok) (Fine : A → Type 0) (f : Frame)
    → ((a : A) → Fine a → run (on (f ∷ [])) (put a []) ≡ whole)
    → (ts front rest : List Tok) → ts ≡ front ++ rest → run (on (f ∷ [])) ts ≡ stuck rest → (a : A) × (more : List Tok)
    × ParsesTo put Fine (front ++ more) a → FirstStuck put Fine ts rest
first_stuck put Fine f reads ts front rest split e begun = record {
  front = front;
  split = split;
  begun = begun;
  ended = λ a more s h.
      let here : run (on (f ∷ [])) (front ++ rest) ≡ stuck rest = ap (λ (v : List Tok). run (on (f ∷ [])) v)
      (sym split) ∙ e in
      let there : run (on (f ∷ [])) (front ++ more) ≡ whole = ap (λ (v : List Tok). run (on (f ∷ [])) v) h.0
      ∙ reads a h.1 in
      unread (f ∷ []) front rest more s here there;
}

-- ---- formulas and terms

formula_whole : (f : Formula) → FineFormula f → run (on (need fresh ∷ [])) (put_formula f []) ≡ whole
formula_whole f h = read_formula fresh tt f h [] [] tt ∙ ap ends_at (ends_formula fresh tt f)

term_whole : (x : Term) → FineTerm x → run (on (want in_term ∷ [])) (put_term x []) ≡ whole
term_whole x h = want_term in_term x h [] [] tt

pub formula_stuck : (ts : List Tok) (len place : ℕ) (f : KbFault) → Fails at_sentence put_formula FineFormula ts len
    (Stuck place) → f ≡ record { cause = Syntax; place = place } → IsStuck put_formula FineFormula ts len f
formula_stuck ts len place f h is =
    let v = h.1.viable [] in
    record {
      rest = h.0;
      first = first_stuck put_formula FineFormula (need fresh) formula_whole ts h.1.front h.0 h.1.split (h.1.runs tt [])
          (v.0, v.1, (v.3, v.2));
      cause = ap (λ (x : KbFault). x.cause) is;
      place = ap (λ (x : KbFault). x.place) is ∙ h.2;
    }

pub term_stuck : (ts : List Tok) (len place : ℕ) (f : KbFault) → Fails at_factor put_term FineTerm ts len (Stuck place)
    → f ≡ record { cause = Syntax; place = place } → IsStuck put_term FineTerm ts len f
term_stuck ts len place f h is =
    let v = h.1.viable [] in
    record {
      rest = h.0;
      first = first_stuck put_term FineTerm (want in_term) term_whole ts h.1.front h.0 h.1.split (h.1.runs in_term [])
          (v.0, v.1, (v.3, v.2));
      cause = ap (λ (x : KbFault). x.cause) is;
      place = ap (λ (x : KbFault). x.place) is ∙ h.2;
    }

-- ---- a token too many

shuts_nothing : (s : Symbol) (k : Sort) → shuts s [] k ≡ None
shuts_nothing (word w) k = refl
shuts_nothing (mark t.Close) k = refl
shuts_nothing (mark t.Comma) k = refl
shuts_nothing (mark t.CloseBrace) k = refl
shuts_nothing (mark t.Colon) k = refl
shuts_nothing (mark x) k = refl

shut_nothing : (s : Symbol) (k : Option Sort) → shut s [] k ≡ None
shut_nothing s None = refl
shut_nothing s (Some k) = shuts_nothing s k

one_more : (m : Mode) (k : Sort) (s : Symbol) (p : ℕ) (us : List Tok) → goes_on s m k ≡ None
    → run (on (done m k ∷ [])) (tok_at s p ∷ us) ≡ stuck (tok_at s p ∷ us)
one_more m k s p us h =
    ap (λ (x : Option Frame). run (advance (behind_operand x (shut s [] (ended m k)) []) (tok_at s p ∷ us)) us) h
    ∙ ap (λ (x : Option (List Frame)). run (advance x (tok_at s p ∷ us)) us) (shut_nothing s (ended m k))

-- a term goes on with an operator alone
term_halts : (s : Symbol) (p : ℕ) (us : List Tok) → EndsTerm (tok_at s p ∷ us) → goes_on s in_term term ≡ None
term_halts (word w) p us h = refl
term_halts (mark t.Times) p us h = elim h [ ]
term_halts (mark (t.Add s)) p us h = elim h [ ]
term_halts (mark t.Open) p us h = elim h [ ]
term_halts (mark (t.Compare c)) p us h = refl
term_halts (mark t.And) p us h = refl
term_halts (mark t.Or) p us h = refl
term_halts (mark (t.Arrow a)) p us h = refl
term_halts (mark x) p us h = refl

pub formula_over : (ts : List Tok) (a : Formula) (s : Symbol) (p : ℕ) (us rest : List Tok) (len : ℕ) (f : KbFault)
    → FormulaIs ts fresh a rest → rest ≡ tok_at s p ∷ us → f ≡ record { cause = Syntax; place = p }
    → IsStuck put_formula FineFormula ts len f
formula_over ts a s p us rest len f h next is =
    let here : FormulaIs ts fresh a (tok_at s p ∷ us) = subst (λ (v : List Tok). FormulaIs ts fresh a v) next h in
    record {
      rest = tok_at s p ∷ us;
      first = first_stuck put_formula FineFormula (need fresh) formula_whole ts (put_formula a []) (tok_at s p ∷ us)
          (here.spelled ∙ formula-append a [] (tok_at s p ∷ us))
          (ap (λ (v : List Tok). run (on (need fresh ∷ [])) v) here.spelled ∙ read_formula fresh tt a here.fine []
          (tok_at s p ∷ us) here.no_args ∙ one_more (mode_formula fresh a) (sort_formula a) s p us here.halts)
          (a, [], (append-nil (put_formula a []), here.fine));
      cause = ap (λ (x : KbFault). x.cause) is;
      place = ap (λ (x : KbFault). x.place) is;
    }

pub term_over : (ts : List Tok) (a : Term) (s : Symbol) (p : ℕ) (us rest : List Tok) (len : ℕ) (f : KbFault)
    → TermIs ts a rest → rest ≡ tok_at s p ∷ us → f ≡ record { cause = Syntax; place = p }
    → IsStuck put_term FineTerm ts len f
term_over ts a s p us rest len f h next is =
    let here : TermIs ts a (tok_at s p ∷ us) = subst (λ (v : List Tok). TermIs ts a v) next h in
    record {
      rest = tok_at s p ∷ us;
      first = first_stuck put_term FineTerm (want in_term) term_whole ts (put_term a []) (tok_at s p ∷ us)
          (here.spelled ∙ term-append a [] (tok_at s p ∷ us))
          (ap (λ (v : List Tok). run (on (want in_term ∷ [])) v) here.spelled ∙ want_term in_term a here.fine []
          (tok_at s p ∷ us) (term_no_args (tok_at s p ∷ us) here.ends)
          ∙ one_more in_term term s p us (term_halts s p us here.ends))
          (a, [], (append-nil (put_term a []), here.fine));
      cause = ap (λ (x : KbFault). x.cause) is;
      place = ap (λ (x : KbFault). x.place) is;
    }

pub formula_fails : {R : Type 0} (view : R → Formula) (ts : List Tok) (len : ℕ) (e : ReadError)
    → Fails at_sentence put_formula FineFormula ts len e → Parses view put_formula FineFormula ts len
    (Err (refusal_of e))
formula_fails view ts len Memory h = tt
formula_fails view ts len (Stuck place) h = formula_stuck ts len place (record { cause = Syntax; place = place }) h refl

pub term_fails : {R : Type 0} (view : R → Term) (ts : List Tok) (len : ℕ) (e : ReadError)
    → Fails at_factor put_term FineTerm ts len e → Parses view put_term FineTerm ts len (Err (refusal_of e))
term_fails view ts len Memory h = tt
term_fails view ts len (Stuck place) h = term_stuck ts len place (record { cause = Syntax; place = place }) h refl

-- ---- from the tokens to the text

pub answered : {R A : Type 0} (view : R → A) (put : A → List Tok → List Tok) (Fine : A → Type 0) (src : List ℕ)
    (ts : List Tok) (r : Result R KbError)
    → IsTokens src ts → Parses view put Fine ts (length src) r → Answers view put Fine src r
answered view put Fine src ts (Ok x) h p = parsed ts (view x) h p
answered view put Fine src ts (Err errors.Memory) h p = tt
answered view put Fine src ts (Err (errors.Refused f)) h p = ungrammatical ts f h p

pub refused_early : {R A : Type 0} (view : R → A) (put : A → List Tok → List Tok) (Fine : A → Type 0) (src : List ℕ)
    (e : KbError)
    → ItemsOf src (Err e) → Answers view put Fine src (Err e)
refused_early view put Fine src errors.Memory h = tt
refused_early view put Fine src (errors.Refused f) h = unscanned f h
