-- What may follow a tree, and what it begins with.
use Rattle.std.proofs.Common.{◌≡◌, ℕ, List, [], ◌∷◌, true, refl, sym, ap, subst, ◌∙◌}
use Rattle.grammar.specs.declared.terminal.Comparison.{Comparison}
use Rattle.grammar.specs.declared.terminal.Adding.{Adding}
use Rattle.token_reader.specs.Signs.{next, No}
use Rattle.token_reader.specs.Parts.{EndsFactor, EndsTerm, EndsPrim, NoArrows}
use Rattle.token_reader.proofs.Signs.{no_sign}
use Rattle.grammar.specs.Fine.{closed_unary, closed_and, closed_or}
use Rattle.token_reader.proofs.Balance.{outer, behind_close, formula-passed, term-passed, terms-passed}
use Rattle.grammar.specs.declared.terminal.Terminal.TheVariants as t
use Rattle.grammar.specs.declared.terminal.Arrow.{Arrow}
use Rattle.grammar.specs.Terminals.{Tok, tok_at, mark, word, sign}
use Rattle.grammar.specs.Trees.{Name, name, untyped, typed, Vars, var, beside, comma, Formula, alone, linked, Links}
use Rattle.grammar.specs.Trees.{last, link, Or, one, or, And, single, and, Unary, not, every, some, prim, Prim, group}
use Rattle.grammar.specs.Trees.{truth, atom, compare, Term, product, sum, Product, factor, times, Factor, integer}
use Rattle.grammar.specs.Trees.{value, brackets, negative, count, aggregate, App, constant, empty, apply, Terms}
use Rattle.grammar.specs.Trees.{final, then}
use Rattle.grammar.specs.Spelling.{put_name, put_vars, put_unary, put_prim, put_term, put_product, put_factor}
use Rattle.grammar.specs.Spelling.{put_app, put_terms}

-- no type in brackets comes
abbrev pub EndsName : List Tok → Type 0
EndsName [] = Unit {0}
EndsName (tok_at (mark t.OpenSquare) p ∷ ts) = ⊥
EndsName _ = Unit {0}

-- no further variable comes
abbrev pub EndsVars : List Tok → Type 0
EndsVars [] = Unit {0}
EndsVars (tok_at (mark t.OpenSquare) p ∷ ts) = ⊥
EndsVars (tok_at (mark t.Comma) p ∷ ts) = ⊥
EndsVars (tok_at (word w) p ∷ ts) = ⊥
EndsVars _ = Unit {0}

-- no number comes
abbrev pub EndsNumber : List Tok → Type 0
EndsNumber [] = Unit {0}
EndsNumber (tok_at (mark (t.Integer k)) p ∷ ts) = ⊥
EndsNumber (tok_at (mark (t.Compare c)) p ∷ ts) = ⊥
EndsNumber _ = Unit {0}

-- the product does not go on
abbrev pub EndsProduct : List Tok → Type 0
EndsProduct [] = Unit {0}
EndsProduct (tok_at (mark t.Open) p ∷ ts) = ⊥
EndsProduct (tok_at (mark t.Times) p ∷ ts) = ⊥
EndsProduct _ = Unit {0}

-- neither an operator nor a comparison nor & comes
abbrev pub EndsAnd : List Tok → Type 0
EndsAnd [] = Unit {0}
EndsAnd (tok_at (mark t.Open) p ∷ ts) = ⊥
EndsAnd (tok_at (mark t.Times) p ∷ ts) = ⊥
EndsAnd (tok_at (mark (t.Add s)) p ∷ ts) = ⊥
EndsAnd (tok_at (mark (t.Compare c)) p ∷ ts) = ⊥
EndsAnd (tok_at (mark t.And) p ∷ ts) = ⊥
EndsAnd _ = Unit {0}

-- and no | either
abbrev pub EndsOr : List Tok → Type 0
EndsOr [] = Unit {0}
EndsOr (tok_at (mark t.Open) p ∷ ts) = ⊥
EndsOr (tok_at (mark t.Times) p ∷ ts) = ⊥
EndsOr (tok_at (mark (t.Add s)) p ∷ ts) = ⊥
EndsOr (tok_at (mark (t.Compare c)) p ∷ ts) = ⊥
EndsOr (tok_at (mark t.And) p ∷ ts) = ⊥
EndsOr (tok_at (mark t.Or) p ∷ ts) = ⊥
EndsOr _ = Unit {0}

-- and no arrow either
abbrev pub EndsFormula : List Tok → Type 0
EndsFormula [] = Unit {0}
EndsFormula (tok_at (mark t.Open) p ∷ ts) = ⊥
EndsFormula (tok_at (mark t.Times) p ∷ ts) = ⊥
EndsFormula (tok_at (mark (t.Add s)) p ∷ ts) = ⊥
EndsFormula (tok_at (mark (t.Compare c)) p ∷ ts) = ⊥
EndsFormula (tok_at (mark t.And) p ∷ ts) = ⊥
EndsFormula (tok_at (mark t.Or) p ∷ ts) = ⊥
EndsFormula (tok_at (mark (t.Arrow a)) p ∷ ts) = ⊥
EndsFormula _ = Unit {0}

abbrev pub EndsList : List Tok → Type 0
EndsList ts = EndsTerm ts × No t.Comma (next ts)

-- what ends the tree, by how it ends itself
abbrev mutual
  pub stops_formula : Formula → List Tok → Type 0
  stops_formula (alone o) ts = stops_or o ts × NoArrows ts
  stops_formula (linked a o p os) ts = stops_links a os ts

  pub stops_links : Arrow → Links → List Tok → Type 0
  stops_links a (last o) ts = stops_or o ts × No (t.Arrow a) (next ts)
  stops_links a (link o p os) ts = stops_links a os ts

  pub stops_or : Or → List Tok → Type 0
  stops_or (one a) ts = stops_and a ts × No t.Or (next ts)
  stops_or (or a p o) ts = stops_or o ts

  pub stops_and : And → List Tok → Type 0
  stops_and (single u) ts = stops_unary u ts × No t.And (next ts)
  stops_and (and u p a) ts = stops_and a ts

  pub stops_unary : Unary → List Tok → Type 0
  stops_unary (not p u) ts = stops_unary u ts
  stops_unary (every p vs q f) ts = stops_formula f ts
  stops_unary (some p n vs q f) ts = stops_formula f ts
  stops_unary (prim x) ts = EndsPrim ts

pub vars_end_var : (ts : List Tok) → EndsVars ts → EndsName ts
vars_end_var [] h = tt
vars_end_var (tok_at (mark t.OpenSquare) p ∷ ts) h = elim h [ ]
vars_end_var (tok_at (mark t.Comma) p ∷ ts) h = elim h [ ]
vars_end_var (tok_at (word w) p ∷ ts) h = elim h [ ]
vars_end_var (tok_at s p ∷ ts) h = tt

pub product_ends : (ts : List Tok) → EndsProduct ts → EndsFactor ts
product_ends [] h = tt
product_ends (tok_at (mark t.Open) p ∷ ts) h = elim h [ ]
product_ends (tok_at (mark t.Times) p ∷ ts) h = elim h [ ]
product_ends (tok_at s p ∷ ts) h = tt

pub term_ends : (ts : List Tok) → EndsTerm ts → EndsProduct ts
term_ends [] h = tt
term_ends (tok_at (mark t.Open) p ∷ ts) h = elim h [ ]
term_ends (tok_at (mark t.Times) p ∷ ts) h = elim h [ ]
term_ends (tok_at (mark (t.Add s)) p ∷ ts) h = elim h [ ]
term_ends (tok_at s p ∷ ts) h = tt

pub prim_ends : (ts : List Tok) → EndsPrim ts → EndsTerm ts
prim_ends [] h = tt
prim_ends (tok_at (mark t.Open) p ∷ ts) h = elim h [ ]
prim_ends (tok_at (mark t.Times) p ∷ ts) h = elim h [ ]
prim_ends (tok_at (mark (t.Add s)) p ∷ ts) h = elim h [ ]
prim_ends (tok_at (mark (t.Compare c)) p ∷ ts) h = elim h [ ]
prim_ends (tok_at s p ∷ ts) h = tt

pub prim_ends_factor : (ts : List Tok) → EndsPrim ts → EndsFactor ts
prim_ends_factor [] h = tt
prim_ends_factor (tok_at (mark t.Open) p ∷ ts) h = elim h [ ]
prim_ends_factor (tok_at (mark t.Times) p ∷ ts) h = elim h [ ]
prim_ends_factor (tok_at (mark (t.Add s)) p ∷ ts) h = elim h [ ]
prim_ends_factor (tok_at (mark (t.Compare c)) p ∷ ts) h = elim h [ ]
prim_ends_factor (tok_at s p ∷ ts) h = tt

pub and_ends : (ts : List Tok) → EndsAnd ts → EndsPrim ts
and_ends [] h = tt
and_ends (tok_at (mark t.Open) p ∷ ts) h = elim h [ ]
and_ends (tok_at (mark t.Times) p ∷ ts) h = elim h [ ]
and_ends (tok_at (mark (t.Add s)) p ∷ ts) h = elim h [ ]
and_ends (tok_at (mark (t.Compare c)) p ∷ ts) h = elim h [ ]
and_ends (tok_at (mark t.And) p ∷ ts) h = elim h [ ]
and_ends (tok_at s p ∷ ts) h = tt

pub and_no_and : (ts : List Tok) → EndsAnd ts → No t.And (next ts)
and_no_and ts h = no_sign t.And ts (λ p us e. let k : EndsAnd (sign t.And p ∷ us) = subst (EndsAnd) e h in k)

pub or_ends : (ts : List Tok) → EndsOr ts → EndsAnd ts
or_ends [] h = tt
or_ends (tok_at (mark t.Open) p ∷ ts) h = elim h [ ]
or_ends (tok_at (mark t.Times) p ∷ ts) h = elim h [ ]
or_ends (tok_at (mark (t.Add s)) p ∷ ts) h = elim h [ ]
or_ends (tok_at (mark (t.Compare c)) p ∷ ts) h = elim h [ ]
or_ends (tok_at (mark t.And) p ∷ ts) h = elim h [ ]
or_ends (tok_at (mark t.Or) p ∷ ts) h = elim h [ ]
or_ends (tok_at s p ∷ ts) h = tt

pub or_no_or : (ts : List Tok) → EndsOr ts → No t.Or (next ts)
or_no_or ts h = no_sign t.Or ts (λ p us e. let k : EndsOr (sign t.Or p ∷ us) = subst (EndsOr) e h in k)

pub formula_ends : (ts : List Tok) → EndsFormula ts → EndsOr ts
formula_ends [] h = tt
formula_ends (tok_at (mark t.Open) p ∷ ts) h = elim h [ ]
formula_ends (tok_at (mark t.Times) p ∷ ts) h = elim h [ ]
formula_ends (tok_at (mark (t.Add s)) p ∷ ts) h = elim h [ ]
formula_ends (tok_at (mark (t.Compare c)) p ∷ ts) h = elim h [ ]
formula_ends (tok_at (mark t.And) p ∷ ts) h = elim h [ ]
formula_ends (tok_at (mark t.Or) p ∷ ts) h = elim h [ ]
formula_ends (tok_at (mark (t.Arrow a)) p ∷ ts) h = elim h [ ]
formula_ends (tok_at s p ∷ ts) h = tt

pub formula_no_arrows : (ts : List Tok) → EndsFormula ts → NoArrows ts
formula_no_arrows [] h = tt
formula_no_arrows (tok_at (mark t.Open) p ∷ ts) h = elim h [ ]
formula_no_arrows (tok_at (mark t.Times) p ∷ ts) h = elim h [ ]
formula_no_arrows (tok_at (mark (t.Add s)) p ∷ ts) h = elim h [ ]
formula_no_arrows (tok_at (mark (t.Compare c)) p ∷ ts) h = elim h [ ]
formula_no_arrows (tok_at (mark t.And) p ∷ ts) h = elim h [ ]
formula_no_arrows (tok_at (mark t.Or) p ∷ ts) h = elim h [ ]
formula_no_arrows (tok_at (mark (t.Arrow a)) p ∷ ts) h = elim h [ ]
formula_no_arrows (tok_at s p ∷ ts) h = tt

pub formula_no_arrow : (a : Arrow) (ts : List Tok) → EndsFormula ts → No (t.Arrow a) (next ts)
formula_no_arrow a ts h = no_sign (t.Arrow a) ts
    (λ p us e. let k : EndsFormula (sign (t.Arrow a) p ∷ us) = subst (EndsFormula) e h in k)

pub goes_name : (p : ℕ) (ts us : List Tok) → EndsName us → sign t.OpenSquare p ∷ ts ≡ us → ⊥
goes_name p ts us z e = let h : EndsName (sign t.OpenSquare p ∷ ts) = subst (EndsName) (sym e) z in h

pub goes_vars : (p : ℕ) (ts us : List Tok) → EndsVars us → sign t.Comma p ∷ ts ≡ us → ⊥
goes_vars p ts us z e = let h : EndsVars (sign t.Comma p ∷ ts) = subst (EndsVars) (sym e) z in h

pub goes_integer : (k : ℕ) (p : ℕ) (ts us : List Tok) → EndsNumber us → sign (t.Integer k) p ∷ ts ≡ us → ⊥
goes_integer k p ts us z e = let h : EndsNumber (sign (t.Integer k) p ∷ ts) = subst (EndsNumber) (sym e) z in h

pub goes_compare : (c : Comparison) (p : ℕ) (ts us : List Tok) → EndsNumber us → sign (t.Compare c) p ∷ ts ≡ us → ⊥
goes_compare c p ts us z e = let h : EndsNumber (sign (t.Compare c) p ∷ ts) = subst (EndsNumber) (sym e) z in h

pub goes_factor : (p : ℕ) (ts us : List Tok) → EndsFactor us → sign t.Open p ∷ ts ≡ us → ⊥
goes_factor p ts us z e = let h : EndsFactor (sign t.Open p ∷ ts) = subst (EndsFactor) (sym e) z in h

pub goes_product : (p : ℕ) (ts us : List Tok) → EndsProduct us → sign t.Times p ∷ ts ≡ us → ⊥
goes_product p ts us z e = let h : EndsProduct (sign t.Times p ∷ ts) = subst (EndsProduct) (sym e) z in h

pub goes_term : (s : Adding) (p : ℕ) (ts us : List Tok) → EndsTerm us → sign (t.Add s) p ∷ ts ≡ us → ⊥
goes_term s p ts us z e = let h : EndsTerm (sign (t.Add s) p ∷ ts) = subst (EndsTerm) (sym e) z in h

pub goes_formula : (a : Arrow) (p : ℕ) (ts us : List Tok) → NoArrows us → sign (t.Arrow a) p ∷ ts ≡ us → ⊥
goes_formula a p ts us z e = let h : NoArrows (sign (t.Arrow a) p ∷ ts) = subst (NoArrows) (sym e) z in h

pub closed_unary_stops : (u : Unary) (ts : List Tok) → closed_unary u ≡ true → EndsPrim ts → stops_unary u ts
closed_unary_stops (not p u) ts h z = closed_unary_stops u ts h z
closed_unary_stops (every p vs q f) ts h z = absurd (cc)
closed_unary_stops (some p n vs q f) ts h z = absurd (cc)
closed_unary_stops (prim x) ts h z = z

pub closed_and_stops : (a : And) (ts : List Tok) → closed_and a ≡ true → EndsAnd ts → stops_and a ts
closed_and_stops (single u) ts h z = (closed_unary_stops u ts h (and_ends ts z), and_no_and ts z)
closed_and_stops (and u p a) ts h z = closed_and_stops a ts h z

pub closed_or_stops : (o : Or) (ts : List Tok) → closed_or o ≡ true → EndsOr ts → stops_or o ts
closed_or_stops (one a) ts h z = (closed_and_stops a ts h (or_ends ts z), or_no_or ts z)
closed_or_stops (or a p o) ts h z = closed_or_stops o ts h z

mutual
  pub all_stop_formula : (f : Formula) (ts : List Tok) → EndsFormula ts → stops_formula f ts
  all_stop_formula (alone o) ts z = (all_stop_or o ts z, formula_no_arrows ts z)
  all_stop_formula (linked a o p os) ts z = all_stop_links a os ts z

  all_stop_links : (a : Arrow) (os : Links) (ts : List Tok) → EndsFormula ts → stops_links a os ts
  all_stop_links a (last o) ts z = (all_stop_or o ts z, formula_no_arrow a ts z)
  all_stop_links a (link o p os) ts z = all_stop_links a os ts z

  all_stop_or : (o : Or) (ts : List Tok) → EndsFormula ts → stops_or o ts
  all_stop_or (one a) ts z = (all_stop_and a ts z, or_no_or ts (formula_ends ts z))
  all_stop_or (or a p o) ts z = all_stop_or o ts z

  all_stop_and : (a : And) (ts : List Tok) → EndsFormula ts → stops_and a ts
  all_stop_and (single u) ts z = (all_stop_unary u ts z, and_no_and ts (or_ends ts (formula_ends ts z)))
  all_stop_and (and u p a) ts z = all_stop_and a ts z

  all_stop_unary : (u : Unary) (ts : List Tok) → EndsFormula ts → stops_unary u ts
  all_stop_unary (not p u) ts z = all_stop_unary u ts z
  all_stop_unary (every p vs q f) ts z = all_stop_formula f ts z
  all_stop_unary (some p n vs q f) ts z = all_stop_formula f ts z
  all_stop_unary (prim x) ts z = and_ends ts (or_ends ts (formula_ends ts z))

-- ---- what a text begins with

pub data Start : Type 0 where
  s_nothing : Start
  s_word : Start
  s_integer : Start
  s_truth : Start
  s_compare : Start
  s_not : Start
  s_every : Start
  s_some : Start
  s_open : Start
  s_minus : Start
  s_count : Start
  s_aggregate : Start
  s_other : Start

abbrev pub start : List Tok → Start
start [] = s_nothing
start (tok_at (word w) p ∷ ts) = s_word
start (tok_at (mark (t.Integer k)) p ∷ ts) = s_integer
start (tok_at (mark (t.Truth b)) p ∷ ts) = s_truth
start (tok_at (mark (t.Compare c)) p ∷ ts) = s_compare
start (tok_at (mark t.Not) p ∷ ts) = s_not
start (tok_at (mark t.Every) p ∷ ts) = s_every
start (tok_at (mark t.Some) p ∷ ts) = s_some
start (tok_at (mark t.Open) p ∷ ts) = s_open
start (tok_at (mark (t.Add a)) p ∷ ts) = s_minus
start (tok_at (mark t.Count) p ∷ ts) = s_count
start (tok_at (mark (t.Aggregate a)) p ∷ ts) = s_aggregate
start _ = s_other

name_start : (n : Name) (ts : List Tok) → start (put_name n ts) ≡ s_word
name_start (name w p) ts = refl

pub vars_start : (vs : Vars) (ts : List Tok) → start (put_vars vs ts) ≡ s_word
vars_start (var (untyped n)) ts = name_start n ts
vars_start (var (typed n p type q)) ts = name_start n _
vars_start (beside (untyped n) vs) ts = name_start n _
vars_start (beside (typed n p type q) vs) ts = name_start n _
vars_start (comma (untyped n) p vs) ts = name_start n _
vars_start (comma (typed n r type q) p vs) ts = name_start n _

pub app_start : (a : App) (ts : List Tok) → start (put_app a ts) ≡ s_word
app_start (constant n) ts = name_start n _
app_start (empty n p q) ts = name_start n _
app_start (apply n p xs q) ts = name_start n _

abbrev pub start_of_factor : Factor → Start
start_of_factor (integer n p) = s_integer
start_of_factor (value a) = s_word
start_of_factor (brackets p x q) = s_open
start_of_factor (negative p x) = s_minus
start_of_factor (count p b vs c f e) = s_count
start_of_factor (aggregate a p b vs c f d x e) = s_aggregate

pub factor_start : (x : Factor) (ts : List Tok) → start (put_factor x ts) ≡ start_of_factor x
factor_start (integer n p) ts = refl
factor_start (value a) ts = app_start a ts
factor_start (brackets p x q) ts = refl
factor_start (negative p x) ts = refl
factor_start (count p b vs c f e) ts = refl
factor_start (aggregate a p b vs c f d x e) ts = refl

pub same_start_factor : (x y : Factor) (m n : List Tok) → put_factor x m ≡ put_factor y n
    → start_of_factor x ≡ start_of_factor y
same_start_factor x y m n e = sym (factor_start x m) ∙ ap start e ∙ factor_start y n

abbrev pub start_of_product : Product → Start
start_of_product (factor x) = start_of_factor x
start_of_product (times x p y) = start_of_factor x

abbrev pub start_of_term : Term → Start
start_of_term (product x) = start_of_product x
start_of_term (sum x s p y) = start_of_product x

product_start : (x : Product) (ts : List Tok) → start (put_product x ts) ≡ start_of_product x
product_start (factor x) ts = factor_start x ts
product_start (times x p y) ts = factor_start x _

pub term_start : (x : Term) (ts : List Tok) → start (put_term x ts) ≡ start_of_term x
term_start (product x) ts = product_start x ts
term_start (sum x s p y) ts = product_start x _

abbrev pub start_of_prim : Prim → Start
start_of_prim (group p f q) = s_open
start_of_prim (truth b p) = s_truth
start_of_prim (atom a) = s_word
start_of_prim (compare x c p y) = start_of_term x

pub prim_start : (x : Prim) (ts : List Tok) → start (put_prim x ts) ≡ start_of_prim x
prim_start (group p f q) ts = refl
prim_start (truth b p) ts = refl
prim_start (atom a) ts = app_start a ts
prim_start (compare x c p y) ts = term_start x _

pub same_start_prim : (x y : Prim) (m n : List Tok) → put_prim x m ≡ put_prim y n → start_of_prim x ≡ start_of_prim y
same_start_prim x y m n e = sym (prim_start x m) ∙ ap start e ∙ prim_start y n

-- the four ways in which a unary begins
pub data Opening : Type 0 where
  o_not : Opening
  o_every : Opening
  o_some : Opening
  o_prim : Opening

abbrev pub opening : Start → Opening
opening s_not = o_not
opening s_every = o_every
opening s_some = o_some
opening _ = o_prim

factor_opens : (x : Factor) → opening (start_of_factor x) ≡ o_prim
factor_opens (integer n p) = refl
factor_opens (value a) = refl
factor_opens (brackets p x q) = refl
factor_opens (negative p x) = refl
factor_opens (count p b vs c f e) = refl
factor_opens (aggregate a p b vs c f d x e) = refl

term_opens : (x : Term) → opening (start_of_term x) ≡ o_prim
term_opens (product (factor x)) = factor_opens x
term_opens (product (times x p y)) = factor_opens x
term_opens (sum (factor x) s p y) = factor_opens x
term_opens (sum (times x q z) s p y) = factor_opens x

prim_opens : (x : Prim) → opening (start_of_prim x) ≡ o_prim
prim_opens (group p f q) = refl
prim_opens (truth b p) = refl
prim_opens (atom a) = refl
prim_opens (compare x c p y) = term_opens x

abbrev pub opening_of : Unary → Opening
opening_of (not p u) = o_not
opening_of (every p vs q f) = o_every
opening_of (some p n vs q f) = o_some
opening_of (prim x) = o_prim

pub unary_opening : (u : Unary) (ts : List Tok) → opening (start (put_unary u ts)) ≡ opening_of u
unary_opening (not p u) ts = refl
unary_opening (every p vs q f) ts = refl
unary_opening (some p n vs q f) ts = refl
unary_opening (prim x) ts = ap opening (prim_start x ts) ∙ prim_opens x

pub same_start_unary : (u v : Unary) (m n : List Tok) → put_unary u m ≡ put_unary v n → opening_of u ≡ opening_of v
same_start_unary u v m n e = sym (unary_opening u m) ∙ ap (λ (x : List Tok). opening (start x)) e ∙ unary_opening v n

-- ---- what a list of variables begins with

word_no_square : (ts : List Tok) → start ts ≡ s_word → EndsName ts
word_no_square [] h = tt
word_no_square (tok_at (mark t.OpenSquare) p ∷ ts) h = absurd (cc)
word_no_square (tok_at s p ∷ ts) h = tt

word_no_number : (ts : List Tok) → start ts ≡ s_word → EndsNumber ts
word_no_number [] h = tt
word_no_number (tok_at (mark (t.Integer k)) p ∷ ts) h = absurd (cc)
word_no_number (tok_at (mark (t.Compare c)) p ∷ ts) h = absurd (cc)
word_no_number (tok_at s p ∷ ts) h = tt

pub vars_no_square : (vs : Vars) (ts : List Tok) → EndsName (put_vars vs ts)
vars_no_square vs ts = word_no_square (put_vars vs ts) (vars_start vs ts)

pub vars_no_number : (vs : Vars) (ts : List Tok) → EndsNumber (put_vars vs ts)
vars_no_number vs ts = word_no_number (put_vars vs ts) (vars_start vs ts)

pub vars_no_comma : (vs : Vars) (ts : List Tok) (p : ℕ) (us : List Tok) → put_vars vs ts ≡ sign t.Comma p ∷ us → ⊥
vars_no_comma vs ts p us e = let h : s_other ≡ s_word = ap start (sym e) ∙ vars_start vs ts in cc

word_goes : (us : List Tok) → EndsVars us → start us ≡ s_word → ⊥
word_goes [] z h = cc
word_goes (tok_at (word w) p ∷ ts) z h = z
word_goes (tok_at (mark (t.Integer k)) p ∷ ts) z h = cc
word_goes (tok_at (mark t.Word) p ∷ ts) z h = cc
word_goes (tok_at (mark (t.Truth b)) p ∷ ts) z h = cc
word_goes (tok_at (mark (t.Compare c)) p ∷ ts) z h = cc
word_goes (tok_at (mark (t.Arrow a)) p ∷ ts) z h = cc
word_goes (tok_at (mark t.And) p ∷ ts) z h = cc
word_goes (tok_at (mark t.Or) p ∷ ts) z h = cc
word_goes (tok_at (mark t.Not) p ∷ ts) z h = cc
word_goes (tok_at (mark (t.Add s)) p ∷ ts) z h = cc
word_goes (tok_at (mark t.Times) p ∷ ts) z h = cc
word_goes (tok_at (mark t.Every) p ∷ ts) z h = cc
word_goes (tok_at (mark t.Some) p ∷ ts) z h = cc
word_goes (tok_at (mark t.Open) p ∷ ts) z h = cc
word_goes (tok_at (mark t.Close) p ∷ ts) z h = cc
word_goes (tok_at (mark t.OpenSquare) p ∷ ts) z h = cc
word_goes (tok_at (mark t.CloseSquare) p ∷ ts) z h = cc
word_goes (tok_at (mark t.OpenBrace) p ∷ ts) z h = cc
word_goes (tok_at (mark t.CloseBrace) p ∷ ts) z h = cc
word_goes (tok_at (mark t.Comma) p ∷ ts) z h = cc
word_goes (tok_at (mark t.Colon) p ∷ ts) z h = cc
word_goes (tok_at (mark t.Count) p ∷ ts) z h = cc
word_goes (tok_at (mark (t.Aggregate a)) p ∷ ts) z h = cc
word_goes (tok_at (mark (t.Outer o)) p ∷ ts) z h = cc

pub goes_beside : (vs : Vars) (ts us : List Tok) → EndsVars us → put_vars vs ts ≡ us → ⊥
goes_beside vs ts us z e = word_goes us z (ap start (sym e) ∙ vars_start vs ts)

factor_is_start : (x : Factor) → start_of_factor x ≡ s_other → ⊥
factor_is_start (integer n p) h = cc
factor_is_start (value a) h = cc
factor_is_start (brackets p x q) h = cc
factor_is_start (negative p x) h = cc
factor_is_start (count p b vs c f e) h = cc
factor_is_start (aggregate a p b vs c f d x e) h = cc

term_is_start : (x : Term) → start_of_term x ≡ s_other → ⊥
term_is_start (product (factor x)) h = factor_is_start x h
term_is_start (product (times x p y)) h = factor_is_start x h
term_is_start (sum (factor x) s p y) h = factor_is_start x h
term_is_start (sum (times x q z) s p y) h = factor_is_start x h

pub terms_no_close : (xs : Terms) (q : ℕ) (ts us : List Tok) → sign t.Close q ∷ ts ≡ put_terms xs us → ⊥
terms_no_close (final x) q ts us e = let h : s_other ≡ start_of_term x = ap start e ∙ term_start x us in
    term_is_start x (sym h)
terms_no_close (then x p xs) q ts us e = let h : s_other ≡ start_of_term x = ap start e ∙ term_start x _ in
    term_is_start x (sym h)

-- ---- an operand without a comparison is not followed by one

abbrev pub Simple : Prim → Type 0
Simple (compare x c p y) = ⊥
Simple _ = Unit {0}

abbrev behind_args : List Tok → List Tok
behind_args (tok_at (mark t.Open) p ∷ ts) = behind_close outer ts
behind_args ts = ts

-- the tokens after the first operand
abbrev behind_first : List Tok → List Tok
behind_first (tok_at (word w) p ∷ ts) = behind_args ts
behind_first (tok_at (mark t.Open) p ∷ ts) = behind_close outer ts
behind_first (t ∷ ts) = ts
behind_first [] = []

no_args : (ts : List Tok) → EndsFactor ts → behind_args ts ≡ ts
no_args [] h = refl
no_args (tok_at (mark t.Open) p ∷ ts) h = elim h [ ]
no_args (tok_at s p ∷ ts) h = refl

app_behind : (a : App) (ts : List Tok) → EndsFactor ts → behind_first (put_app a ts) ≡ ts
app_behind (constant (name w p)) ts h = no_args ts h
app_behind (empty (name w r) p q) ts h = refl
app_behind (apply (name w r) p xs q) ts h = terms-passed xs outer (sign t.Close q ∷ ts)

simple_behind : (x : Prim) → Simple x → (ts : List Tok) → EndsPrim ts → behind_first (put_prim x ts) ≡ ts
simple_behind (group p f q) s ts z = formula-passed f outer (sign t.Close q ∷ ts)
simple_behind (truth b p) s ts z = refl
simple_behind (atom a) s ts z = app_behind a ts (prim_ends_factor ts z)
simple_behind (compare x c p y) s ts z = elim s [ ]

abbrev OpensSimple : Start → Type 0
OpensSimple s_word = Unit {0}
OpensSimple s_open = Unit {0}
OpensSimple s_truth = Unit {0}
OpensSimple _ = ⊥

simple_opens : (x : Prim) → Simple x → OpensSimple (start_of_prim x)
simple_opens (group p f q) s = tt
simple_opens (truth b p) s = tt
simple_opens (atom a) s = tt
simple_opens (compare x c p y) s = elim s [ ]

as_factor : (x : Prim) → Simple x → (m : List Tok) (y : Factor) (n : List Tok) → put_prim x m ≡ put_factor y n
    → OpensSimple (start_of_factor y)
as_factor x s m y n e = subst OpensSimple (sym (prim_start x m) ∙ ap start e ∙ factor_start y n) (simple_opens x s)

no_factor : (x : Prim) → Simple x → (m : List Tok) → EndsPrim m → (y : Factor) (n : List Tok) → EndsFactor n
    → (EndsPrim n → ⊥) → put_prim x m ≡ put_factor y n → ⊥
no_factor x s m z (integer k p) n w b e = let h = as_factor x s m (integer k p) n e in h
no_factor x s m z (value a) n w b e = b (subst EndsPrim (sym (simple_behind x s m z) ∙ ap behind_first e
    ∙ app_behind a n w) z)
no_factor x s m z (brackets p y q) n w b e = b (subst EndsPrim (sym (simple_behind x s m z) ∙ ap behind_first e
    ∙ term-passed y outer (sign t.Close q ∷ n)) z)
no_factor x s m z (negative p y) n w b e = let h = as_factor x s m (negative p y) n e in h
no_factor x s m z (count p i vs c f d) n w b e = let h = as_factor x s m (count p i vs c f d) n e in h
no_factor x s m z (aggregate a p i vs c f d y r) n w b e = let h =
    as_factor x s m (aggregate a p i vs c f d y r) n e in h

pub prim_no_compare : (x : Prim) → Simple x → (m : List Tok) (y : Term) (c : Comparison) (p : ℕ) (ts : List Tok)
    → EndsPrim m → put_prim x m ≡ put_term y (sign (t.Compare c) p ∷ ts) → ⊥
prim_no_compare x s m (product (factor y)) c p ts z e = no_factor x s m z y (sign (t.Compare c) p ∷ ts) tt
    (λ (h : ⊥). h) e
prim_no_compare x s m (product (times y q r)) c p ts z e = no_factor x s m z y
    (sign t.Times q ∷ put_product r (sign (t.Compare c) p ∷ ts)) tt (λ (h : ⊥). h) e
prim_no_compare x s m (sum (factor y) k q r) c p ts z e = no_factor x s m z y
    (sign (t.Add k) q ∷ put_term r (sign (t.Compare c) p ∷ ts)) tt (λ (h : ⊥). h) e
prim_no_compare x s m (sum (times y i v) k q r) c p ts z e =
    no_factor x s m z y (sign t.Times i ∷ put_product v (sign (t.Add k) q ∷ put_term r (sign (t.Compare c) p ∷ ts))) tt
    (λ (h : ⊥). h) e
