-- The machine reads every tree.
use Rattle.std.proofs.Common.{◌≡◌, ℕ, List, [], ◌∷◌, Option, Some, None, Bool, true, false, refl, ap, ◌∙◌}
use Rattle.grammar.specs.declared.terminal.Terminal.{Terminal}
use Rattle.grammar.specs.declared.terminal.Terminal.TheVariants as t
use Rattle.grammar.specs.declared.terminal.Arrow.{Arrow}
use Rattle.grammar.specs.declared.terminal.Adding.{Adding}
use Rattle.grammar.specs.declared.terminal.Comparison.{Comparison}
use Rattle.grammar.specs.declared.terminal.Comparison.TheVariants as cmp
use Rattle.grammar.specs.Terminals.{Tok, tok_at, mark, sign}
use Rattle.grammar.specs.Trees.{name, untyped, typed, Vars, var, beside, comma, Number, any, exactly, compared, Prim}
use Rattle.grammar.specs.Spelling.{put_vars, put_number}
use Rattle.grammar.specs.Fine.{FineNumber}
use Rattle.token_reader.specs.Signs.{next, No}
use Rattle.token_reader.specs.Parts.{EndsFactor}
use Rattle.token_reader.specs.Machine as m
use Rattle.token_reader.specs.Machine.{Chain, unsettled, fresh, chained, Mode, in_term, in_formula, Sort, formula, term}
use Rattle.token_reader.specs.Machine.{either, Frame, need, want, done, named, args_first, args, paren, close_brace}
use Rattle.token_reader.specs.Machine.{fold_colon, brace, colon, vars_first, vars_on, vars_end, number_first}
use Rattle.token_reader.specs.Machine.{number_last, type_name, type_close, State, on, run, advance, shut, ended}
use Rattle.token_reader.specs.Machine.{connects, links_on, link_on, settled, behind_operand}
use Rattle.token_reader.specs.Modes.{term_sort}

-- ---- variables and numbers

beside_on : (vs : Vars) (σ : List Frame) (ts : List Tok) → run (on (vars_on ∷ σ)) (put_vars vs ts)
    ≡ run (on (vars_first ∷ σ)) (put_vars vs ts)
beside_on (var (untyped (name w p))) σ ts = refl
beside_on (var (typed (name w p) q type r)) σ ts = refl
beside_on (beside (untyped (name w p)) vs) σ ts = refl
beside_on (beside (typed (name w p) q type r) vs) σ ts = refl
beside_on (comma (untyped (name w p)) s vs) σ ts = refl
beside_on (comma (typed (name w p) q type r) s vs) σ ts = refl

beside_end : (vs : Vars) (σ : List Frame) (ts : List Tok) → run (on (vars_end ∷ σ)) (put_vars vs ts)
    ≡ run (on (vars_first ∷ σ)) (put_vars vs ts)
beside_end (var (untyped (name w p))) σ ts = refl
beside_end (var (typed (name w p) q type r)) σ ts = refl
beside_end (beside (untyped (name w p)) vs) σ ts = refl
beside_end (beside (typed (name w p) q type r) vs) σ ts = refl
beside_end (comma (untyped (name w p)) s vs) σ ts = refl
beside_end (comma (typed (name w p) q type r) s vs) σ ts = refl

number_any : (vs : Vars) (σ : List Frame) (ts : List Tok) → run (on (number_first ∷ σ)) (put_vars vs ts)
    ≡ run (on (vars_first ∷ σ)) (put_vars vs ts)
number_any (var (untyped (name w p))) σ ts = refl
number_any (var (typed (name w p) q type r)) σ ts = refl
number_any (beside (untyped (name w p)) vs) σ ts = refl
number_any (beside (typed (name w p) q type r) vs) σ ts = refl
number_any (comma (untyped (name w p)) s vs) σ ts = refl
number_any (comma (typed (name w p) q type r) s vs) σ ts = refl

pub run_vars : (vs : Vars) (q : ℕ) (σ : List Frame) (ts : List Tok) → run (on (vars_first ∷ colon ∷ σ))
    (put_vars vs (sign t.Colon q ∷ ts)) ≡ run (on σ) ts
run_vars (var (untyped (name w p))) q σ ts = refl
run_vars (var (typed (name w p) i (name x j) k)) q σ ts = refl
run_vars (beside (untyped (name w p)) vs) q σ ts = beside_on vs (colon ∷ σ) (sign t.Colon q ∷ ts) ∙ run_vars vs q σ ts
run_vars (beside (typed (name w p) i (name x j) k) vs) q σ ts = beside_end vs (colon ∷ σ) (sign t.Colon q ∷ ts)
    ∙ run_vars vs q σ ts
run_vars (comma (untyped (name w p)) s vs) q σ ts = run_vars vs q σ ts
run_vars (comma (typed (name w p) i (name x j) k) s vs) q σ ts = run_vars vs q σ ts

pub run_number : (n : Number) → FineNumber n → (vs : Vars) (σ : List Frame) (ts : List Tok)
    → run (on (number_first ∷ σ)) (put_number n (put_vars vs ts)) ≡ run (on (vars_first ∷ σ)) (put_vars vs ts)
run_number any h vs σ ts = number_any vs σ ts
run_number (exactly n p) h vs σ ts = refl
run_number (compared cmp.Equal p n q) h vs σ ts = refl
run_number (compared cmp.NotEqual p n q) h vs σ ts = elim h [ ]
run_number (compared cmp.Less p n q) h vs σ ts = refl
run_number (compared cmp.Greater p n q) h vs σ ts = refl
run_number (compared cmp.AtMost p n q) h vs σ ts = refl
run_number (compared cmp.AtLeast p n q) h vs σ ts = refl

-- ---- single steps

pub named_done : (o : Mode) (k : Sort) (σ : List Frame) (ts : List Tok) → EndsFactor ts → run (on (named o k ∷ σ)) ts
    ≡ run (on (done o k ∷ σ)) ts
named_done o k [] [] z = refl
named_done o k (f ∷ σ) [] z = refl
named_done o k σ (tok_at (mark t.Open) p ∷ ts) z = elim z [ ]
named_done o k σ (tok_at s p ∷ ts) z = refl

pub args_want : (o : Mode) (k : Sort) (σ : List Frame) (ts : List Tok) → No t.Close (next ts)
    → run (on (args_first o k ∷ σ)) ts
    ≡ run (on (want in_term ∷ args o k ∷ σ)) ts
args_want o k σ [] z = refl
args_want o k σ (tok_at (mark t.Close) p ∷ ts) z = absurd (z refl)
args_want o k σ (tok_at s p ∷ ts) z = refl

pub run_times : (o : Mode) (b : Bool) (σ : List Frame) (p : ℕ) (ts : List Tok) → run (on (done o (term_sort b) ∷ σ))
    (sign t.Times p ∷ ts) ≡ run (on (want o ∷ σ)) ts
run_times o true σ p ts = refl
run_times o false σ p ts = refl

pub run_add : (o : Mode) (b : Bool) (s : Adding) (σ : List Frame) (p : ℕ) (ts : List Tok)
    → run (on (done o (term_sort b) ∷ σ)) (sign (t.Add s) p ∷ ts) ≡ run (on (want o ∷ σ)) ts
run_add o true s σ p ts = refl
run_add o false s σ p ts = refl

pub run_compare : (c : Chain) (b : Bool) (s : Comparison) (σ : List Frame) (p : ℕ) (ts : List Tok)
    → run (on (done (in_formula c) (term_sort b) ∷ σ)) (sign (t.Compare s) p ∷ ts)
    ≡ run (on (want (m.compared c) ∷ σ)) ts
run_compare c true s σ p ts = refl
run_compare c false s σ p ts = refl

pub run_and_sign : (o : Mode) (k : Sort) (c : Chain) → connects o k ≡ Some (need c)
    → (σ : List Frame) (p : ℕ) (ts : List Tok) → run (on (done o k ∷ σ)) (sign t.And p ∷ ts) ≡ run (on (need c ∷ σ)) ts
run_and_sign o k c h σ p ts = ap (λ (x : Option Frame). run (advance
    (behind_operand x (shut (mark t.And) σ (ended o k)) σ) (sign t.And p ∷ ts)) ts) h

pub run_or_sign : (o : Mode) (k : Sort) (c : Chain) → connects o k ≡ Some (need c)
    → (σ : List Frame) (p : ℕ) (ts : List Tok) → run (on (done o k ∷ σ)) (sign t.Or p ∷ ts) ≡ run (on (need c ∷ σ)) ts
run_or_sign o k c h σ p ts = ap (λ (x : Option Frame). run (advance
    (behind_operand x (shut (mark t.Or) σ (ended o k)) σ) (sign t.Or p ∷ ts)) ts) h

pub run_arrow : (a : Arrow) (o : Mode) (k : Sort) (c : Chain) → links_on a o k ≡ Some (need c)
    → (σ : List Frame) (p : ℕ) (ts : List Tok) → run (on (done o k ∷ σ)) (sign (t.Arrow a) p ∷ ts)
    ≡ run (on (need c ∷ σ)) ts
run_arrow a o k c h σ p ts = ap (λ (x : Option Frame). run (advance
    (behind_operand x (shut (mark (t.Arrow a)) σ (ended o k)) σ) (sign (t.Arrow a) p ∷ ts)) ts) h

-- a chain of arrows may begin here
abbrev pub Linkable : Chain → Type 0
Linkable (chained a) = ⊥
Linkable _ = Unit {0}

pub link_first : (c : Chain) → Linkable c → (a : Arrow) → link_on c a ≡ Some (need (chained a))
link_first unsettled h a = refl
link_first fresh h a = refl
link_first (chained b) h a = elim h [ ]

pub run_shut : (s : Terminal) (o : Mode) (k r : Sort) → m.goes_on (mark s) o k ≡ None → ended o k ≡ Some r
    → (σ : List Frame) (p : ℕ) (ts : List Tok) → run (on (done o k ∷ σ)) (sign s p ∷ ts)
    ≡ run (advance (m.shuts (mark s) σ r) (sign s p ∷ ts)) ts
run_shut s o k r g h σ p ts = ap (λ (x : Option Frame). run (advance (behind_operand x (shut (mark s) σ (ended o k)) σ)
    (sign s p ∷ ts)) ts) g ∙ ap (λ (x : Option Sort). run (advance (shut (mark s) σ x) (sign s p ∷ ts)) ts) h
