-- Where a chain of operands is stuck, and what it is.
use Rattle.std.proofs.Common.{◌≡◌, ℕ, List, [], ◌∷◌, ◌++◌, Bool, true, false, Some, None, Result, Ok, Err, Bor, refl}
use Rattle.std.proofs.Common.{sym, ap, subst, ◌∙◌}
use Rattle.grammar.specs.declared.stops.ReadError.{ReadError}
use Rattle.grammar.specs.declared.terminal.Item.{Item}
use Rattle.grammar.specs.declared.terminal.Arrow.{Arrow}
use Rattle.grammar.specs.declared.terminal.Arrow.TheVariants as arrow
use Rattle.grammar.specs.declared.terminal.Terminal.TheVariants as t
use Rattle.grammar.specs.declared.raw.RawAnd.{RawAnd}
use Rattle.grammar.specs.declared.raw.RawOr.{RawOr}
use Rattle.grammar.specs.declared.raw.RawFormula.{RawFormula}
use Rattle.grammar.specs.Terminals.{Tok, tok_at, mark, sign}
use Rattle.grammar.specs.Trees.{Formula, alone, linked, Links, last, link, Or, one, or, And, single, and, Unary, not}
use Rattle.grammar.specs.Trees.{every, some, prim, Prim, group, truth, atom, compare}
use Rattle.grammar.specs.Spelling.{put_formula, put_links, put_or, put_and, put_unary, put_prim}
use Rattle.grammar.specs.Fine.{closed_unary, closed_and, closed_or, FineFormula, FineLinks, FineOr, FineAnd}
use Rattle.grammar.specs.Fine.{FineUnary, FinePrim}
use Rattle.token_reader.specs.Sorts.{app_formula, app_or, app_and, app_unary, app_prim}
use Rattle.token_reader.specs.Machine.{need, Chain, unsettled, fresh, chained, Mode, in_formula, Sort, either, settled}
use Rattle.token_reader.specs.Machine.{connects, links_on, link_on, on, run}
use Rattle.token_reader.specs.Modes.{formula_sort, mode_formula, mode_links, mode_or, mode_and, mode_unary, mode_prim}
use Rattle.token_reader.specs.Modes.{sort_formula, sort_links, sort_or, sort_and, sort_unary, sort_prim}
use Rattle.grammar.specs.View.{links_of, formula_of, or_of, and_of}
use Rattle.token_reader.specs.Signs.{next, No}
use Rattle.token_reader.specs.Parts.{EndsFactor, EndsPrim, NoArrows, Connects, NoConnective}
use Rattle.token_reader.specs.Parts.{Halts, unaries, ands, ors, Tight, Behind, Entry, sentence, bracket, entry}
use Rattle.token_reader.specs.Parts.{at_operand, at_unary, at_entry, at_sentence, at_bracket}
use Rattle.formula_reader.specs.Chains.{AndsAre, OrsAre, LinksAre, closed_links, closed_formula}
use Rattle.formula_reader.specs.Results.{UnaryIs, AndIs, OrIs, FormulaIs, AndRead, OrRead, ConjunctionRead}
use Rattle.formula_reader.specs.Results.{DisjunctionRead, FormulaRead, LinkedRead}
use Rattle.token_reader.proofs.Append.{formula-append, or-append, and-append}
use Rattle.token_reader.proofs.Behind.{settled_twice, connects_and, links_or, link_same}
use Rattle.token_reader.proofs.Runs.{run_and_sign, run_or_sign, run_arrow, Linkable, link_first}
use Rattle.token_reader.proofs.Only.{only_prim}
use Rattle.token_reader.proofs.Readings.{read_formula, read_or, read_and}
use Rattle.token_reader.proofs.Inside.{Context, fails_in}

-- ---- what may follow a chain

tight_ands : (closed : Bool) (m : Mode) (k : Sort) (ts : List Tok) → Tight unaries m k ts
    → (closed ≡ true → No t.And (next ts))
    → (closed ≡ false → Halts m k ts) → Tight ands m k ts
tight_ands closed m k [] h n l = tt
tight_ands closed m k (tok_at (mark (t.Arrow a)) p ∷ ts) h n l = tt
tight_ands closed m k (tok_at (mark t.Or) p ∷ ts) h n l = tt
tight_ands true m k (tok_at (mark t.And) p ∷ ts) h n l = absurd (n refl refl)
tight_ands false m k (tok_at (mark t.And) p ∷ ts) h n l = l refl
tight_ands closed m k (tok_at s p ∷ ts) h n l = h

tight_ors : (closed : Bool) (m : Mode) (k : Sort) (ts : List Tok) → Tight ands m k ts
    → (closed ≡ true → No t.Or (next ts))
    → (closed ≡ false → Halts m k ts) → Tight ors m k ts
tight_ors closed m k [] h n l = tt
tight_ors closed m k (tok_at (mark (t.Arrow a)) p ∷ ts) h n l = tt
tight_ors true m k (tok_at (mark t.Or) p ∷ ts) h n l = absurd (n refl refl)
tight_ors false m k (tok_at (mark t.Or) p ∷ ts) h n l = l refl
tight_ors closed m k (tok_at (mark t.And) p ∷ ts) h n l = h
tight_ors closed m k (tok_at s p ∷ ts) h n l = h

pub behind_ands : (closed : Bool) (mode : Chain → Mode) (k : Sort) (ts : List Tok) → Behind unaries closed mode k ts
    → (closed ≡ true → No t.And (next ts)) → Behind ands closed mode k ts
behind_ands closed mode k ts b n = record {
  no_args = b.no_args;
  tight = λ c. tight_ands closed (mode c) k ts
      (b.tight c) n (λ h. b.halts h c);
  halts = b.halts;
}

pub behind_ors : (closed : Bool) (mode : Chain → Mode) (k : Sort) (ts : List Tok) → Behind ands closed mode k ts
    → (closed ≡ true → No t.Or (next ts)) → Behind ors closed mode k ts
behind_ors closed mode k ts b n = record {
  no_args = b.no_args;
  tight = λ c. tight_ors closed (mode c) k ts
      (b.tight c) n (λ h. b.halts h c);
  halts = b.halts;
}

-- ---- chains of &

and_join : And → ℕ → And → And
and_join (single u) p b = and u p b
and_join (and u q a) p b = and u q (and_join a p b)

and_join_put : (a : And) (p : ℕ) (b : And) (ts : List Tok) → put_and (and_join a p b) ts ≡ put_and a
    (sign t.And p ∷ put_and b ts)
unfolding and_join
and_join_put (single u) p b ts = refl
and_join_put (and u q a) p b ts = ap (λ (v : List Tok). put_unary u (sign t.And q ∷ v)) (and_join_put a p b ts)

and_join_fine : (a : And) (p : ℕ) (b : And) → closed_and a ≡ true → FineAnd a → FineAnd b → FineAnd (and_join a p b)
unfolding and_join
and_join_fine (single u) p b e h k = (e, h, k)
and_join_fine (and u q a) p b e h k = (h.0, h.1, and_join_fine a p b e h.2 k)

and_push : (u : Unary) (xs : List (ℕ × Unary)) (p : ℕ) (v : Unary) (ts : List Tok)
    → put_and (and_of u (xs ++ (p, v) ∷ [])) ts ≡ put_and (and_of u xs) (sign t.And p ∷ put_unary v ts)
and_push u [] p v ts = refl
and_push u (x ∷ xs) p v ts = ap (λ (w : List Tok). put_unary u (sign t.And x.0 ∷ w)) (and_push x.1 xs p v ts)

and_push_fine : (u : Unary) (xs : List (ℕ × Unary)) (p : ℕ) (v : Unary) → closed_and (and_of u xs) ≡ true
    → FineAnd (and_of u xs) → FineUnary v → FineAnd (and_of u (xs ++ (p, v) ∷ []))
and_push_fine u [] p v e h k = (e, h, k)
and_push_fine u (x ∷ xs) p v e h k = (h.0, h.1, and_push_fine x.1 xs p v e h.2 k)

and_push_closed : (u : Unary) (xs : List (ℕ × Unary)) (p : ℕ) (v : Unary)
    → closed_unary v ≡ closed_and (and_of u (xs ++ (p, v) ∷ []))
and_push_closed u [] p v = refl
and_push_closed u (x ∷ xs) p v = and_push_closed x.1 xs p v

and_push_mode : (u : Unary) (xs : List (ℕ × Unary)) (p : ℕ) (v : Unary) (c : Chain)
    → mode_and c (and_of u (xs ++ (p, v) ∷ [])) ≡ mode_unary (settled c) v
and_push_mode u [] p v c = refl
and_push_mode u (x ∷ xs) p v c = and_push_mode x.1 xs p v (settled c) ∙ ap (λ (d : Chain). mode_unary d v)
    (settled_twice c)

and_push_sort : (u : Unary) (xs : List (ℕ × Unary)) (p : ℕ) (v : Unary) → sort_and (and_of u (xs ++ (p, v) ∷ []))
    ≡ sort_unary v
and_push_sort u [] p v = refl
and_push_sort u (x ∷ xs) p v = and_push_sort x.1 xs p v

pub ands_first : (ts : List Tok) (u : Unary) (closed : Bool) (rest : List Tok) → UnaryIs ts u closed rest
    → AndsAre ts (and_of u []) closed rest
ands_first ts u closed rest h = record { spelled = h.spelled; fine = h.fine; ends = h.ends; behind = h.behind }

pub ands_more : (ts : List Tok) (u : Unary) (xs : List (ℕ × Unary)) (closed : Bool) (rest : List Tok) (p : ℕ)
    (v : Unary) (ending : Bool) (us next : List Tok) → AndsAre ts (and_of u xs) closed rest → closed ≡ true
    → rest ≡ sign t.And p ∷ us → UnaryIs us v ending next → AndsAre ts (and_of u (xs ++ (p, v) ∷ [])) ending next
ands_more ts u xs closed rest p v ending us next h e is k = record {
  spelled = h.spelled ∙ ap (λ (w : List Tok). put_and (and_of u xs) w)
      (is ∙ ap (λ (w : List Tok). sign t.And p ∷ w) k.spelled) ∙ sym (and_push u xs p v next);
  fine = and_push_fine u xs p v (sym h.ends ∙ e) h.fine k.fine;
  ends = k.ends ∙ and_push_closed u xs p v;
  behind = record {
    no_args = k.behind.no_args;
    tight = λ c. rw (and_push_mode u xs p v c, and_push_sort u xs p v) (k.behind.tight (settled c));
    halts = λ l c. rw (and_push_mode u xs p v c, and_push_sort u xs p v) (k.behind.halts l (settled c));
  };
}

pub ands_are : (ts : List Tok) (a : And) (closed : Bool) (rest : List Tok) → AndsAre ts a closed rest
    → (closed ≡ true → No t.And (next rest)) → AndIs ts a closed rest
ands_are ts a closed rest h n = record {
  spelled = h.spelled;
  fine = h.fine;
  ends = h.ends;
  behind =
      behind_ands closed (λ c. mode_and c a) (sort_and a) rest h.behind n;
}

pub in_ands : (ts : List Tok) (a : And) (closed : Bool) (rest : List Tok) (p : ℕ) (us : List Tok)
    → AndsAre ts a closed rest → closed ≡ true → rest ≡ sign t.And p ∷ us
    → Context at_unary put_unary FineUnary at_operand put_and FineAnd ts us
in_ands ts a closed rest p us h e is = record {
  before = λ y. put_and a (sign t.And p ∷ y);
  appends = λ y z. and-append a (sign t.And p ∷ y) z;
  split = h.spelled ∙ ap (λ (v : List Tok). put_and a v) is;
  enters = λ c σ. (
    c,
    σ,
    ap (λ (v : List Tok). run (on (need c ∷ σ)) v) (h.spelled
        ∙ ap (λ (v : List Tok). put_and a v) is) ∙ read_and c a h.fine σ (sign t.And p ∷ us) tt
        ∙ run_and_sign (mode_and c a) (sort_and a) (settled c) (connects_and c a (sym h.ends ∙ e)) σ p us,
  );
  wraps = λ after. (
    after,
    λ v k. (
      and_join a p (single v),
      and_join_fine a p (single v) (sym h.ends ∙ e) h.fine k,
      sym (and_join_put a p (single v) after),
    ),
  );
}

pub and_kind : (u : Unary) (xs : List (ℕ × Unary)) → app_and (and_of u xs) ≡ true → app_unary u ≡ true
and_kind u [] h = h
and_kind u (x ∷ xs) h = absurd (cc)

pub unary_here : (ts : List Tok) (u : Unary) (closed : Bool) (rest : List Tok) → UnaryIs ts u closed rest
    → UnaryIs (put_unary u rest) u closed rest
unary_here ts u closed rest h = record { spelled = refl; fine = h.fine; ends = h.ends; behind = h.behind }

pub first_unary : (ts : List Tok) → Context at_unary put_unary FineUnary at_unary put_and FineAnd ts ts
first_unary ts = record {
  before = λ x. x;
  appends = λ x y. refl;
  split = refl;
  enters = λ c σ. (c, σ, refl);
  wraps =
      λ after. (after, λ a h. (single a, h, refl));
}

from_unary : (ts us : List Tok) → ts ≡ us → Context at_operand put_and FineAnd at_unary put_and FineAnd ts us
from_unary ts us is = record {
  before = λ x. x;
  appends = λ x y. refl;
  split = is;
  enters =
      λ c σ. (settled c, σ, ap (λ (v : List Tok). run (on (need (settled c) ∷ σ)) v) is);
  wraps =
      λ after. (after, λ a h. (a, h, refl));
}

pub conjunction_read : (ts us : List Tok) (len : ℕ) (r : Result (RawAnd × Bool × Bor (List Item)) ReadError) → ts ≡ us
    → AndRead us len r → ConjunctionRead ts len r
conjunction_read ts us len (Ok p) is h = rw is h
conjunction_read ts us len (Err e) is h = fails_in len e (from_unary ts us is) h

-- ---- chains of |

connects_or : (c : Chain) (o : Or) → closed_or o ≡ true → connects (mode_or c o) (sort_or o) ≡ Some (need (settled c))
connects_or c (one a) h = connects_and c a h
connects_or c (or a p o) h = connects_or (settled c) o h ∙ ap (λ (x : Chain). Some (need x)) (settled_twice c)

or_join : Or → ℕ → Or → Or
or_join (one a) p b = or a p b
or_join (or a q o) p b = or a q (or_join o p b)

or_join_put : (a : Or) (p : ℕ) (b : Or) (ts : List Tok) → put_or (or_join a p b) ts
    ≡ put_or a (sign t.Or p ∷ put_or b ts)
unfolding or_join
or_join_put (one u) p b ts = refl
or_join_put (or u q a) p b ts = ap (λ (v : List Tok). put_and u (sign t.Or q ∷ v)) (or_join_put a p b ts)

or_join_fine : (a : Or) (p : ℕ) (b : Or) → closed_or a ≡ true → FineOr a → FineOr b → FineOr (or_join a p b)
unfolding or_join
or_join_fine (one u) p b e h k = (e, h, k)
or_join_fine (or u q a) p b e h k = (h.0, h.1, or_join_fine a p b e h.2 k)

or_push : (u : And) (xs : List (ℕ × And)) (p : ℕ) (v : And) (ts : List Tok) → put_or (or_of u (xs ++ (p, v) ∷ [])) ts
    ≡ put_or (or_of u xs) (sign t.Or p ∷ put_and v ts)
or_push u [] p v ts = refl
or_push u (x ∷ xs) p v ts = ap (λ (w : List Tok). put_and u (sign t.Or x.0 ∷ w)) (or_push x.1 xs p v ts)

or_push_fine : (u : And) (xs : List (ℕ × And)) (p : ℕ) (v : And) → closed_or (or_of u xs) ≡ true → FineOr (or_of u xs)
    → FineAnd v → FineOr (or_of u (xs ++ (p, v) ∷ []))
or_push_fine u [] p v e h k = (e, h, k)
or_push_fine u (x ∷ xs) p v e h k = (h.0, h.1, or_push_fine x.1 xs p v e h.2 k)

or_push_closed : (u : And) (xs : List (ℕ × And)) (p : ℕ) (v : And)
    → closed_and v ≡ closed_or (or_of u (xs ++ (p, v) ∷ []))
or_push_closed u [] p v = refl
or_push_closed u (x ∷ xs) p v = or_push_closed x.1 xs p v

or_push_mode : (u : And) (xs : List (ℕ × And)) (p : ℕ) (v : And) (c : Chain) → mode_or c (or_of u (xs ++ (p, v) ∷ []))
    ≡ mode_and (settled c) v
or_push_mode u [] p v c = refl
or_push_mode u (x ∷ xs) p v c = or_push_mode x.1 xs p v (settled c) ∙ ap (λ (d : Chain). mode_and d v) (settled_twice c)

or_push_sort : (u : And) (xs : List (ℕ × And)) (p : ℕ) (v : And) → sort_or (or_of u (xs ++ (p, v) ∷ [])) ≡ sort_and v
or_push_sort u [] p v = refl
or_push_sort u (x ∷ xs) p v = or_push_sort x.1 xs p v

pub ors_first : (ts : List Tok) (u : And) (closed : Bool) (rest : List Tok) → AndIs ts u closed rest
    → OrsAre ts (or_of u []) closed rest
ors_first ts u closed rest h = record { spelled = h.spelled; fine = h.fine; ends = h.ends; behind = h.behind }

pub ors_more : (ts : List Tok) (u : And) (xs : List (ℕ × And)) (closed : Bool) (rest : List Tok) (p : ℕ) (v : And)
    (ending : Bool) (us next : List Tok) → OrsAre ts (or_of u xs) closed rest → closed ≡ true
    → rest ≡ sign t.Or p ∷ us → AndIs us v ending next → OrsAre ts (or_of u (xs ++ (p, v) ∷ [])) ending next
ors_more ts u xs closed rest p v ending us next h e is k = record {
  spelled = h.spelled ∙ ap (λ (w : List Tok). put_or (or_of u xs) w)
      (is ∙ ap (λ (w : List Tok). sign t.Or p ∷ w) k.spelled) ∙ sym (or_push u xs p v next);
  fine = or_push_fine u xs p v (sym h.ends ∙ e) h.fine k.fine;
  ends = k.ends ∙ or_push_closed u xs p v;
  behind = record {
    no_args = k.behind.no_args;
    tight = λ c. rw (or_push_mode u xs p v c, or_push_sort u xs p v) (k.behind.tight (settled c));
    halts = λ l c. rw (or_push_mode u xs p v c, or_push_sort u xs p v) (k.behind.halts l (settled c));
  };
}

pub ors_are : (ts : List Tok) (a : Or) (closed : Bool) (rest : List Tok) → OrsAre ts a closed rest
    → (closed ≡ true → No t.Or (next rest)) → OrIs ts a closed rest
ors_are ts a closed rest h n = record {
  spelled = h.spelled;
  fine = h.fine;
  ends = h.ends;
  behind =
      behind_ors closed (λ c. mode_or c a) (sort_or a) rest h.behind n;
}

pub in_ors : (ts : List Tok) (a : Or) (closed : Bool) (rest : List Tok) (p : ℕ) (us : List Tok)
    → OrsAre ts a closed rest → closed ≡ true → rest ≡ sign t.Or p ∷ us
    → Context at_unary put_and FineAnd at_operand put_or FineOr ts us
in_ors ts a closed rest p us h e is = record {
  before = λ y. put_or a (sign t.Or p ∷ y);
  appends = λ y z. or-append a (sign t.Or p ∷ y) z;
  split = h.spelled ∙ ap (λ (v : List Tok). put_or a v) is;
  enters = λ c σ. (
    c,
    σ,
    ap (λ (v : List Tok). run (on (need c ∷ σ)) v) (h.spelled
        ∙ ap (λ (v : List Tok). put_or a v) is) ∙ read_or c a h.fine σ (sign t.Or p ∷ us) tt
        ∙ run_or_sign (mode_or c a) (sort_or a) (settled c) (connects_or c a (sym h.ends ∙ e)) σ p us,
  );
  wraps = λ after. (
    after,
    λ v k. (
      or_join a p (one v),
      or_join_fine a p (one v) (sym h.ends ∙ e) h.fine k,
      sym (or_join_put a p (one v) after),
    ),
  );
}

pub or_kind : (u : And) (xs : List (ℕ × And)) → app_or (or_of u xs) ≡ true → app_and u ≡ true
or_kind u [] h = h
or_kind u (x ∷ xs) h = absurd (cc)

pub first_and : (ts : List Tok) → Context at_operand put_and FineAnd at_operand put_or FineOr ts ts
first_and ts = record {
  before = λ x. x;
  appends = λ x y. refl;
  split = refl;
  enters = λ c σ. (c, σ, refl);
  wraps =
      λ after. (after, λ a h. (one a, h, refl));
}

pub first_unary_or : (ts : List Tok) → Context at_unary put_unary FineUnary at_unary put_or FineOr ts ts
first_unary_or ts = record {
  before = λ x. x;
  appends = λ x y. refl;
  split = refl;
  enters = λ c σ. (c, σ, refl);
  wraps =
      λ after. (after, λ a h. (one (single a), h, refl));
}

from_unary_or : (ts us : List Tok) → ts ≡ us → Context at_operand put_or FineOr at_unary put_or FineOr ts us
from_unary_or ts us is = record {
  before = λ x. x;
  appends = λ x y. refl;
  split = is;
  enters =
      λ c σ. (settled c, σ, ap (λ (v : List Tok). run (on (need (settled c) ∷ σ)) v) is);
  wraps =
      λ after. (after, λ a h. (a, h, refl));
}

pub disjunction_read : (ts us : List Tok) (len : ℕ) (r : Result (RawOr × Bool × Bor (List Item)) ReadError) → ts ≡ us
    → OrRead us len r → DisjunctionRead ts len r
disjunction_read ts us len (Ok p) is h = rw is h
disjunction_read ts us len (Err e) is h = fails_in len e (from_unary_or ts us is) h

-- ---- chains of an arrow

links_join : Links → ℕ → Or → Links
links_join (last o) p b = link o p (last b)
links_join (link o q os) p b = link o q (links_join os p b)

links_join_put : (a : Arrow) (os : Links) (p : ℕ) (b : Or) (ts : List Tok) → put_links a (links_join os p b) ts
    ≡ put_links a os (sign (t.Arrow a) p ∷ put_or b ts)
unfolding links_join
links_join_put a (last o) p b ts = refl
links_join_put a (link o q os) p b ts = ap (λ (v : List Tok). put_or o (sign (t.Arrow a) q ∷ v))
    (links_join_put a os p b ts)

links_join_fine : (os : Links) (p : ℕ) (b : Or) → closed_links os ≡ true → FineLinks os → FineOr b
    → FineLinks (links_join os p b)
unfolding links_join
links_join_fine (last o) p b e h k = (e, h, k)
links_join_fine (link o q os) p b e h k = (h.0, h.1, links_join_fine os p b e h.2 k)

links_push : (a : Arrow) (o : Or) (xs : List (ℕ × Or)) (p : ℕ) (v : Or) (ts : List Tok)
    → put_links a (links_of o (xs ++ (p, v) ∷ [])) ts ≡ put_links a (links_of o xs) (sign (t.Arrow a) p ∷ put_or v ts)
links_push a o [] p v ts = refl
links_push a o (x ∷ xs) p v ts = ap (λ (w : List Tok). put_or o (sign (t.Arrow a) x.0 ∷ w)) (links_push a x.1 xs p v ts)

formula_push : (a : Arrow) (o : Or) (xs : List (ℕ × Or)) (p : ℕ) (v : Or) (ts : List Tok)
    → put_formula (formula_of a o (xs ++ (p, v) ∷ [])) ts ≡ put_formula (formula_of a o xs)
    (sign (t.Arrow a) p ∷ put_or v ts)
formula_push a o [] p v ts = refl
formula_push a o (x ∷ xs) p v ts = ap (λ (w : List Tok). put_or o (sign (t.Arrow a) x.0 ∷ w))
    (links_push a x.1 xs p v ts)

links_push_fine : (o : Or) (xs : List (ℕ × Or)) (p : ℕ) (v : Or) → closed_links (links_of o xs) ≡ true
    → FineLinks (links_of o xs) → FineOr v → FineLinks (links_of o (xs ++ (p, v) ∷ []))
links_push_fine o [] p v e h k = (e, h, k)
links_push_fine o (x ∷ xs) p v e h k = (h.0, h.1, links_push_fine x.1 xs p v e h.2 k)

formula_push_fine : (a : Arrow) (o : Or) (xs : List (ℕ × Or)) (p : ℕ) (v : Or) → closed_formula (formula_of a o xs)
    ≡ true → FineFormula (formula_of a o xs) → FineOr v → FineFormula (formula_of a o (xs ++ (p, v) ∷ []))
formula_push_fine a o [] p v e h k = (e, h, k)
formula_push_fine a o (x ∷ xs) p v e h k = (h.0, h.1, links_push_fine x.1 xs p v e h.2 k)

links_push_closed : (o : Or) (xs : List (ℕ × Or)) (p : ℕ) (v : Or)
    → closed_or v ≡ closed_links (links_of o (xs ++ (p, v) ∷ []))
links_push_closed o [] p v = refl
links_push_closed o (x ∷ xs) p v = links_push_closed x.1 xs p v

formula_push_closed : (a : Arrow) (o : Or) (xs : List (ℕ × Or)) (p : ℕ) (v : Or)
    → closed_or v ≡ closed_formula (formula_of a o (xs ++ (p, v) ∷ []))
formula_push_closed a o [] p v = refl
formula_push_closed a o (x ∷ xs) p v = links_push_closed x.1 xs p v

links_push_mode : (a : Arrow) (o : Or) (xs : List (ℕ × Or)) (p : ℕ) (v : Or)
    → mode_links a (links_of o (xs ++ (p, v) ∷ [])) ≡ mode_or (chained a) v
links_push_mode a o [] p v = refl
links_push_mode a o (x ∷ xs) p v = links_push_mode a x.1 xs p v

formula_push_mode : (a : Arrow) (o : Or) (xs : List (ℕ × Or)) (p : ℕ) (v : Or) (c : Chain)
    → mode_formula c (formula_of a o (xs ++ (p, v) ∷ [])) ≡ mode_or (chained a) v
formula_push_mode a o [] p v c = refl
formula_push_mode a o (x ∷ xs) p v c = links_push_mode a x.1 xs p v

links_push_sort : (o : Or) (xs : List (ℕ × Or)) (p : ℕ) (v : Or)
    → sort_links (links_of o (xs ++ (p, v) ∷ [])) ≡ sort_or v
links_push_sort o [] p v = refl
links_push_sort o (x ∷ xs) p v = links_push_sort x.1 xs p v

formula_push_sort : (a : Arrow) (o : Or) (xs : List (ℕ × Or)) (p : ℕ) (v : Or)
    → sort_formula (formula_of a o (xs ++ (p, v) ∷ [])) ≡ sort_or v
formula_push_sort a o [] p v = refl
formula_push_sort a o (x ∷ xs) p v = links_push_sort x.1 xs p v

links_reach : (a b : Arrow) (os : Links) → closed_links os ≡ true → links_on b (mode_links a os) (sort_links os)
    ≡ link_on (chained a) b
links_reach a b (last o) h = links_or b (chained a) o h
links_reach a b (link o p os) h = links_reach a b os h

entry_linkable : (e : Entry) → Linkable (entry e)
entry_linkable sentence = tt
entry_linkable bracket = tt

formula_reach : (e : Entry) (a : Arrow) (o : Or) (xs : List (ℕ × Or)) → closed_formula (formula_of a o xs) ≡ true
    → links_on a (mode_formula (entry e) (formula_of a o xs)) (sort_formula (formula_of a o xs))
    ≡ Some (need (chained a))
formula_reach e a o [] h = links_or a (entry e) o h ∙ link_first (entry e) (entry_linkable e) a
formula_reach e a o (x ∷ xs) h = links_reach a a (links_of x.1 xs) h ∙ link_same a

link_other : (a b : Arrow) → (a ≡ b → ⊥) → link_on (chained a) b ≡ None
link_other arrow.Implies arrow.Implies h = absurd (h refl)
link_other arrow.Implies arrow.ImpliedBy h = refl
link_other arrow.Implies arrow.Equivalent h = refl
link_other arrow.ImpliedBy arrow.Implies h = refl
link_other arrow.ImpliedBy arrow.ImpliedBy h = absurd (h refl)
link_other arrow.ImpliedBy arrow.Equivalent h = refl
link_other arrow.Equivalent arrow.Implies h = refl
link_other arrow.Equivalent arrow.ImpliedBy h = refl
link_other arrow.Equivalent arrow.Equivalent h = absurd (h refl)

formula_join : Arrow → Or → List (ℕ × Or) → ℕ → Or → Formula
formula_join a o [] p b = linked a o p (last b)
formula_join a o (x ∷ xs) p b = linked a o x.0 (links_join (links_of x.1 xs) p b)

formula_join_put : (a : Arrow) (o : Or) (xs : List (ℕ × Or)) (p : ℕ) (b : Or) (ts : List Tok)
    → put_formula (formula_join a o xs p b) ts ≡ put_formula (formula_of a o xs) (sign (t.Arrow a) p ∷ put_or b ts)
unfolding formula_join
formula_join_put a o [] p b ts = refl
formula_join_put a o (x ∷ xs) p b ts = ap (λ (v : List Tok). put_or o (sign (t.Arrow a) x.0 ∷ v))
    (links_join_put a (links_of x.1 xs) p b ts)

formula_join_fine : (a : Arrow) (o : Or) (xs : List (ℕ × Or)) (p : ℕ) (b : Or) → closed_formula (formula_of a o xs)
    ≡ true → FineFormula (formula_of a o xs) → FineOr b → FineFormula (formula_join a o xs p b)
unfolding formula_join
formula_join_fine a o [] p b e h k = (e, h, k)
formula_join_fine a o (x ∷ xs) p b e h k = (h.0, h.1, links_join_fine (links_of x.1 xs) p b e h.2 k)

pub links_first : (ts : List Tok) (a : Arrow) (o : Or) (closed : Bool) (rest : List Tok) → OrIs ts o closed rest
    → LinksAre ts (formula_of a o []) closed rest
links_first ts a o closed rest h = record { spelled = h.spelled; fine = h.fine; ends = h.ends; behind = h.behind }

pub links_more : (ts : List Tok) (a : Arrow) (o : Or) (xs : List (ℕ × Or)) (closed : Bool) (rest : List Tok) (p : ℕ)
    (v : Or) (ending : Bool) (us next : List Tok) → LinksAre ts (formula_of a o xs) closed rest → closed ≡ true
    → rest ≡ sign (t.Arrow a) p ∷ us → OrIs us v ending next → LinksAre ts
    (formula_of a o (xs ++ (p, v) ∷ [])) ending next
links_more ts a o xs closed rest p v ending us next h e is k = record {
  spelled = h.spelled ∙ ap (λ (w : List Tok). put_formula (formula_of a o xs) w)
      (is ∙ ap (λ (w : List Tok). sign (t.Arrow a) p ∷ w) k.spelled) ∙ sym (formula_push a o xs p v next);
  fine = formula_push_fine a o xs p v (sym h.ends ∙ e) h.fine k.fine;
  ends = k.ends ∙ formula_push_closed a o xs p v;
  behind = record {
    no_args = k.behind.no_args;
    tight = λ c. rw (formula_push_mode a o xs p v c, formula_push_sort a o xs p v) (k.behind.tight (chained a));
    halts = λ l c. rw (formula_push_mode a o xs p v c, formula_push_sort a o xs p v) (k.behind.halts l (chained a));
  };
}

pub in_links : (ts : List Tok) (a : Arrow) (o : Or) (xs : List (ℕ × Or)) (closed : Bool) (rest : List Tok) (p : ℕ)
    (us : List Tok) → LinksAre ts (formula_of a o xs) closed rest → closed ≡ true → rest ≡ sign (t.Arrow a) p ∷ us
    → Context at_unary put_or FineOr at_entry put_formula FineFormula ts us
in_links ts a o xs closed rest p us h e is = record {
  before = λ y. put_formula (formula_of a o xs) (sign (t.Arrow a) p ∷ y);
  appends = λ y z. formula-append (formula_of a o xs) (sign (t.Arrow a) p ∷ y) z;
  split = h.spelled ∙ ap (λ (v : List Tok). put_formula (formula_of a o xs) v) is;
  enters = λ d σ. (
    chained a,
    σ,
    ap (λ (v : List Tok). run (on (need (entry d) ∷ σ)) v) (h.spelled
        ∙ ap (λ (v : List Tok). put_formula (formula_of a o xs) v) is)
        ∙ read_formula (entry d) (entry_linkable d) (formula_of a o xs) h.fine σ (sign (t.Arrow a) p ∷ us) tt
        ∙ run_arrow a (mode_formula (entry d) (formula_of a o xs)) (sort_formula (formula_of a o xs)) (chained a)
        (formula_reach d a o xs (sym h.ends ∙ e)) σ p us,
  );
  wraps = λ after. (
    after,
    λ v k. (
      formula_join a o xs p v,
      formula_join_fine a o xs p v (sym h.ends ∙ e) h.fine k,
      sym (formula_join_put a o xs p v after),
    ),
  );
}

halts_of : (closed : Bool) (m : Mode) (k : Sort) (ts : List Tok) → Tight ors m k ts
    → (closed ≡ true → (b : Arrow) (p : ℕ) (us : List Tok) → ts ≡ sign (t.Arrow b) p ∷ us → links_on b m k ≡ None)
    → (closed ≡ false → Halts m k ts) → Halts m k ts
halts_of closed m k [] h n l = tt
halts_of true m k (tok_at (mark (t.Arrow a)) p ∷ ts) h n l = n refl a p ts refl
halts_of false m k (tok_at (mark (t.Arrow a)) p ∷ ts) h n l = l refl
halts_of closed m k (tok_at (mark t.Or) p ∷ ts) h n l = h
halts_of closed m k (tok_at (mark t.And) p ∷ ts) h n l = h
halts_of closed m k (tok_at s p ∷ ts) h n l = h

no_arrows : (ts : List Tok) (b : Arrow) (p : ℕ) (us : List Tok) → NoArrows ts → ts ≡ sign (t.Arrow b) p ∷ us → ⊥
no_arrows ts b p us h is = rw is at h

no_arrow : (a : Arrow) (ts : List Tok) (b : Arrow) (p : ℕ) (us : List Tok) → No (t.Arrow a) (next ts)
    → ts ≡ sign (t.Arrow b) p ∷ us → a ≡ b → ⊥
no_arrow a ts b p us h is same = h (ap next is ∙ ap (λ (x : Arrow). Some (mark (t.Arrow x))) (sym same))

-- an operand before which no quantified formula stands open, and the tokens after it
pub at_arrow : (ts : List Tok) (o : Or) (closed : Bool) (rest next : List Tok) → OrIs ts o closed rest → closed ≡ true
    → rest ≡ next → OrIs ts o true next
at_arrow ts o closed rest next h e is =
    subst (λ (us : List Tok). OrIs ts o true us) is (subst (λ (b : Bool). OrIs ts o b rest) e h)

pub alone_is : (ts : List Tok) (o : Or) (closed : Bool) (rest : List Tok) (c : Chain) → OrIs ts o closed rest
    → (closed ≡ true → NoArrows rest) → FormulaIs ts c (alone o) rest
alone_is ts o closed rest c h n = record {
  spelled = h.spelled;
  fine = h.fine;
  no_args = h.behind.no_args;
  halts = halts_of closed (mode_or c o) (sort_or o) rest (h.behind.tight c)
      (λ e b p us is. absurd (no_arrows rest b p us (n e) is)) (λ e. h.behind.halts e c);
}

linked_reach : (a : Arrow) (o : Or) (x : ℕ × Or) (xs : List (ℕ × Or)) (rest : List Tok) (c : Chain)
    → closed_formula (formula_of a o (x ∷ xs)) ≡ true → No (t.Arrow a) (next rest)
    → (b : Arrow) (p : ℕ) (us : List Tok) → rest ≡ sign (t.Arrow b) p ∷ us
    → links_on b (mode_formula c (formula_of a o (x ∷ xs))) (sort_formula (formula_of a o (x ∷ xs))) ≡ None
linked_reach a o x xs rest c e n b p us is =
    links_reach a b (links_of x.1 xs) e ∙ link_other a b (no_arrow a rest b p us n is)

pub linked_is : (ts : List Tok) (a : Arrow) (o : Or) (x : ℕ × Or) (xs : List (ℕ × Or)) (closed : Bool)
    (rest : List Tok) (c : Chain)
    → LinksAre ts (formula_of a o (x ∷ xs)) closed rest → (closed ≡ true → No (t.Arrow a) (next rest))
    → FormulaIs ts c (formula_of a o (x ∷ xs)) rest
linked_is ts a o x xs closed rest c h n = record {
  spelled = h.spelled;
  fine = h.fine;
  no_args = h.behind.no_args;
  halts = halts_of closed (mode_formula c (formula_of a o (x ∷ xs))) (sort_formula (formula_of a o (x ∷ xs))) rest
      (h.behind.tight c) (λ e. linked_reach a o x xs rest c (sym h.ends ∙ e) (n e)) (λ e. h.behind.halts e c);
}

pub first_or : (ts : List Tok) → Context at_operand put_or FineOr at_entry put_formula FineFormula ts ts
first_or ts = record {
  before = λ x. x;
  appends = λ x y. refl;
  split = refl;
  enters = λ e σ. (entry e, σ, refl);
  wraps =
      λ after. (after, λ a h. (alone a, h, refl));
}

-- ---- whole formulas, and what stands in brackets

pub in_sentence : (ts : List Tok) → Context at_unary put_unary FineUnary at_sentence put_formula FineFormula ts ts
in_sentence ts = record {
  before = λ x. x;
  appends = λ x y. refl;
  split = refl;
  enters = λ u σ. (fresh, σ, refl);
  wraps = λ after. (after, λ a h. (alone (one (single a)), h, refl));
}

sentence_of : (ts us : List Tok) → ts ≡ us → Context at_entry put_formula FineFormula at_sentence put_formula
    FineFormula ts us
sentence_of ts us is = record {
  before = λ x. x;
  appends = λ x y. refl;
  split = is;
  enters =
      λ u σ. (sentence, σ, ap (λ (v : List Tok). run (on (need fresh ∷ σ)) v) is);
  wraps =
      λ after. (after, λ a h. (a, h, refl));
}

pub sentence_read : (ts us : List Tok) (len : ℕ) (r : Result (RawFormula × Bor (List Item)) ReadError) → ts ≡ us
    → LinkedRead us len r → FormulaRead ts len r
sentence_read ts us len (Ok p) is h = rw is h.0
sentence_read ts us len (Err e) is h = fails_in len e (sentence_of ts us is) h

pub in_bracket : (ts : List Tok) → Context at_operand put_unary FineUnary at_bracket put_formula FineFormula ts ts
in_bracket ts = record {
  before = λ x. x;
  appends = λ x y. refl;
  split = refl;
  enters = λ u σ. (unsettled, σ, refl);
  wraps = λ after. (after, λ a h. (alone (one (single a)), h, refl));
}

pub bracket_of : (ts us : List Tok) → ts ≡ us → Context at_entry put_formula FineFormula at_bracket put_formula
    FineFormula ts us
bracket_of ts us is = record {
  before = λ x. x;
  appends = λ x y. refl;
  split = is;
  enters =
      λ u σ. (bracket, σ, ap (λ (v : List Tok). run (on (need unsettled ∷ σ)) v) is);
  wraps =
      λ after. (after, λ a h. (a, h, refl));
}

pub formula_from : (ts us : List Tok) (c : Chain) (f : Formula) (rest : List Tok) → ts ≡ us → FormulaIs us c f rest
    → FormulaIs ts c f rest
formula_from ts us c f rest is h = rw is h

pub not_both : (b d : Bool) → (b ≡ true → d ≡ true) → d ≡ false → b ≡ false
not_both false d h k = refl
not_both true d h k = let e : d ≡ true = h refl in absurd (cc)

either_halts_ends : (c : Chain) (ts : List Tok) → EndsFactor ts → Halts (in_formula c) either ts → EndsPrim ts
either_halts_ends c [] h k = tt
either_halts_ends c (tok_at (mark t.Open) p ∷ ts) h k = elim h [ ]
either_halts_ends c (tok_at (mark t.Times) p ∷ ts) h k = absurd (cc)
either_halts_ends c (tok_at (mark (t.Add s)) p ∷ ts) h k = absurd (cc)
either_halts_ends c (tok_at (mark (t.Compare r)) p ∷ ts) h k = absurd (cc)
either_halts_ends c (tok_at s p ∷ ts) h k = tt

either_goes_on : (ts : List Tok) → Connects ts → Halts (in_formula unsettled) either ts → ⊥
either_goes_on [] h k = elim h [ ]
either_goes_on (tok_at (mark t.And) p ∷ ts) h k = cc
either_goes_on (tok_at (mark t.Or) p ∷ ts) h k = cc
either_goes_on (tok_at (mark (t.Arrow a)) p ∷ ts) h k = cc
either_goes_on (tok_at s p ∷ ts) h k = elim h [ ]

pub either_halts : (ts : List Tok) → EndsPrim ts → NoConnective ts → Halts (in_formula unsettled) either ts
either_halts [] h k = tt
either_halts (tok_at (mark t.Open) p ∷ ts) h k = elim h [ ]
either_halts (tok_at (mark t.Times) p ∷ ts) h k = elim h [ ]
either_halts (tok_at (mark (t.Add s)) p ∷ ts) h k = elim h [ ]
either_halts (tok_at (mark (t.Compare r)) p ∷ ts) h k = elim h [ ]
either_halts (tok_at (mark t.And) p ∷ ts) h k = elim k [ ]
either_halts (tok_at (mark t.Or) p ∷ ts) h k = elim k [ ]
either_halts (tok_at (mark (t.Arrow a)) p ∷ ts) h k = elim k [ ]
either_halts (tok_at s p ∷ ts) h k = refl

app_mode : (x : Prim) → app_prim x ≡ true → mode_prim unsettled x ≡ in_formula unsettled
app_mode (group p f q) h = refl
app_mode (truth b p) h = refl
app_mode (atom a) h = refl
app_mode (compare x c p y) h = absurd (cc)

app_sort : (x : Prim) → app_prim x ≡ true → sort_prim x ≡ either
app_sort (group p f q) h = ap formula_sort h
app_sort (truth b p) h = absurd (cc)
app_sort (atom a) h = refl
app_sort (compare x c p y) h = absurd (cc)

chain_prim : (b : Bool) (y x : Prim) (ts rest behind : List Tok) → app_prim y ≡ b → ts ≡ put_prim x rest → FinePrim x
    → EndsPrim rest → Connects rest → FormulaIs ts unsettled (alone (one (single (prim y)))) behind → b ≡ false
chain_prim false y x ts rest behind e is fine ends goes h = refl
chain_prim true y x ts rest behind e is fine ends goes h =
    let halts : Halts (in_formula unsettled) either behind = rw (sym (app_mode y e), sym (app_sort y e)) h.halts in
    let same = only_prim y x behind rest h.fine fine (either_halts_ends unsettled behind h.no_args halts) ends
    (sym h.spelled ∙ is) in
    absurd (either_goes_on rest goes (rw (sym same.1) halts))

pub chain_no_app : (f : Formula) (x : Prim) (ts rest behind : List Tok) → ts ≡ put_prim x rest → FinePrim x
    → EndsPrim rest → Connects rest → FormulaIs ts unsettled f behind → app_formula f ≡ false
chain_no_app (alone (one (single (prim y)))) x ts rest behind is fine ends goes h =
    chain_prim (app_prim y) y x ts rest behind refl is fine ends goes h
chain_no_app (alone (one (single (not p u)))) x ts rest behind is fine ends goes h = refl
chain_no_app (alone (one (single (every p vs q f)))) x ts rest behind is fine ends goes h = refl
chain_no_app (alone (one (single (some p n vs q f)))) x ts rest behind is fine ends goes h = refl
chain_no_app (alone (one (and u p a))) x ts rest behind is fine ends goes h = refl
chain_no_app (alone (or a p o)) x ts rest behind is fine ends goes h = refl
chain_no_app (linked a o p os) x ts rest behind is fine ends goes h = refl
