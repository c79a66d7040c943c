-- Aggregates keep what is said: they add gates and constraints alone, and clauses for the cases of their comparisons.
use Rattle.std.proofs.Common.{ℤ, pos, neg_ℤ, ◌+ℤ◌, ◌-ℤ◌, ◌*ℤ◌, int_le, int_lt, Bool, true, false, not, if◌then◌else◌}
use Rattle.std.proofs.Common.{List, [], ◌∷◌, map, fold, Option, Some, None}
use Rattle.kb_logic.specs.declared.elements.Elem.{Elem}
use Rattle.kb_logic.specs.declared.elements.ExtInt.TheVariants.{Num}
use Rattle.kb_logic.specs.declared.syntax.AggKind.{AggKind}
use Rattle.kb_logic.specs.declared.syntax.AggKind.TheVariants as kind
use Rattle.kb_logic.specs.declared.syntax.Cmp.{Cmp}
use Rattle.kb_logic.specs.declared.syntax.Cmp.TheVariants as cmp
use Rattle.kb_logic.specs.Denotations.{Denotation, number, named, minus_infinity, plus_infinity, undefined}
use Rattle.lit_core.specs.declared.literals.Lit.{Lit}
use Rattle.lit_core.specs.Literals.{negated}
use Rattle.ground_core.specs.Problems.{ProblemState}
use Rattle.ground_core.specs.Growth.{next_lit, with_sum}
use Rattle.def_ground.specs.declared.answers.Answer.{Answer}
use Rattle.def_ground.specs.declared.answers.Answer.TheVariants.{Constant, Literal}
use Rattle.def_ground.specs.Answers.{GroundResult, opposite_of, gate_of}
use Rattle.def_ground.specs.Cases.{cases_of}
use Rattle.def_ground.specs.Guards.{guarded_by}
use Rattle.def_ground.specs.Linear.{Linear, lowest, highest, sum_reaches, lits_below, lits_from, reaches_number}
use Rattle.def_ground.specs.Linear.{both_of}
use Rattle.def_ground.specs.Linear.{is_number, compared_at, with_base, with_problem, weighed, weighed_under, summed_row}
use Rattle.def_ground.specs.Linear.{listed_under, listed_row, row_step, rows_of_kind, instance_step}
use Rattle.def_ground.specs.SumSides.{outermost, more_than, with_more, row_spread, spread, sided, sided_at, sides_meet}
use Rattle.def_ground.specs.SumSides.{sides_by, compared_beside}
use Rattle.def_ground.specs.Thresholds.{CasesSoFar, compared_with_row, threshold_step, compared_with_rows}
use Rattle.def_ground.proofs.KeepSteps.{Keeps, keeps-all, keeps-on, keeps-gate, keeps-sum, gate-keeps, cases-keep}

pub guarded-keeps : (p : ProblemState) (g : List Lit) → Keeps p (guarded_by g p).problem
guarded-keeps p [] = keeps-gate p true []
guarded-keeps p (l ∷ []) = keeps-all p
guarded-keeps p (l ∷ m ∷ ls) = keeps-gate p true (l ∷ m ∷ ls)

-- ---- thresholds

three-keep : (s t : Bool) (p q : ProblemState) → Keeps p q
    → (let g : GroundResult = (if s then record { answer = Constant true; problem = p }
    else if t then record { answer = Constant false; problem = p }
    else record { answer = Literal (next_lit p); problem = q }) in Keeps p g.problem)
three-keep true t p q h = keeps-all p
three-keep false true p q h = keeps-all p
three-keep false false p q h = h

sum-keeps : (st : Linear) (d : ℤ) → Keeps st.problem (sum_reaches st d).problem
sum-keeps st d =
    three-keep (int_le d (st.base +ℤ lowest st.parts)) (int_lt (st.base +ℤ highest st.parts) d) st.problem
    (with_sum st.problem kind.Sum st.parts (Num (d -ℤ st.base)))
    (keeps-sum st.problem kind.Sum st.parts (Num (d -ℤ st.base)))

pub reaches-keeps : (k : AggKind) (st : Linear) (d : ℤ) → Keeps st.problem (reaches_number k st d).problem
reaches-keeps kind.Count st d = sum-keeps st d
reaches-keeps kind.Sum st d = sum-keeps st d
reaches-keeps kind.Min st d = gate-keeps true (map negated (lits_below d st.parts)) st.problem
reaches-keeps kind.Max st d = gate-keeps false (lits_from d st.parts) st.problem

both-keep : (a b : Answer) (p : ProblemState) → Keeps p (both_of a b p).problem
both-keep (Constant false) b p = keeps-all p
both-keep (Constant true) (Constant false) p = keeps-all p
both-keep (Constant true) (Constant true) p = keeps-all p
both-keep (Constant true) (Literal m) p = keeps-all p
both-keep (Literal l) (Constant false) p = keeps-all p
both-keep (Literal l) (Constant true) p = keeps-all p
both-keep (Literal l) (Literal m) p = gate-keeps true (l ∷ m ∷ []) p

number-keeps : (k : AggKind) (st : Linear) (d : ℤ) → Keeps st.problem (is_number k st d).problem
number-keeps k st d =
    let low = reaches_number k st d in
    let mid = with_problem low.problem st in
    let high = reaches_number k mid (d +ℤ pos 1) in
    let last = both_of low.answer (opposite_of high.answer) high.problem in
    keeps-on st.problem low.problem last.problem (reaches-keeps k st d)
    (keeps-on low.problem high.problem last.problem (reaches-keeps k mid (d +ℤ pos 1))
    (both-keep low.answer (opposite_of high.answer) high.problem))

pub compared-keeps : (k : AggKind) (c : Cmp) (st : Linear) (d : ℤ) → Keeps st.problem (compared_at k c st d).problem
compared-keeps k cmp.Eq st d = number-keeps k st d
compared-keeps k cmp.Ne st d = number-keeps k st d
compared-keeps k cmp.Lt st d = reaches-keeps k st d
compared-keeps k cmp.Gt st d = reaches-keeps k st (d +ℤ pos 1)
compared-keeps k cmp.Le st d = reaches-keeps k st (d +ℤ pos 1)
compared-keeps k cmp.Ge st d = reaches-keeps k st d

row-keeps : (k : AggKind) (c : Cmp) (st : Linear) (d : Denotation)
    → Keeps st.problem (compared_with_row k c st d).problem
row-keeps k c st (number d) = compared-keeps k c st d
row-keeps k c st (named n) = keeps-all st.problem
row-keeps k c st minus_infinity = keeps-all st.problem
row-keeps k c st plus_infinity = keeps-all st.problem
row-keeps k c st undefined = keeps-all st.problem

rows-keep : (k : AggKind) (c : Cmp) (st : Linear) (rs : List (List Lit × Denotation)) (cs : CasesSoFar)
    → Keeps cs.problem (fold (threshold_step k c st) cs rs).problem
rows-keep k c st [] cs = keeps-all cs.problem
rows-keep k c st (r ∷ rs) cs =
    let next = threshold_step k c st cs r in
    keeps-on cs.problem next.problem (fold (threshold_step k c st) next rs).problem
    (row-keeps k c (with_problem cs.problem st) r.1) (rows-keep k c st rs next)

pub compared-rows-keep : (k : AggKind) (c : Cmp) (st : Linear) (rs : List (List Lit × Denotation))
    → Keeps st.problem (compared_with_rows k c st rs).problem
compared-rows-keep k c st [] = keeps-all st.problem
compared-rows-keep k c st (r ∷ rs) =
    let start : CasesSoFar = record { cases = []; problem = st.problem } in
    let cs = fold (threshold_step k c st) start (r ∷ rs) in
    keeps-on st.problem cs.problem (cases_of cs.cases cs.problem).problem (rows-keep k c st (r ∷ rs) start)
    (cases-keep cs.cases cs.problem)

-- ---- instances

weighed-keeps : (w : ℤ) (a : Answer) (p q : ProblemState) (st : Linear) → Keeps p q
    → Keeps p (weighed w (record { answer = a; problem = q }) st).problem
weighed-keeps w (Constant c) p q st h = h
weighed-keeps w (Literal l) p q st h = h

gated-keeps : (w : ℤ) (ls : List Lit) (st : Linear)
    → Keeps st.problem (weighed w (gate_of true ls st.problem) st).problem
gated-keeps w ls st =
    let g = gate_of true ls st.problem in
    weighed-keeps w g.answer st.problem g.problem st (gate-keeps true ls st.problem)

under-keeps : (w : ℤ) (a : Answer) (guards : List Lit) (st : Linear)
    → Keeps st.problem (weighed_under w a guards st).problem
under-keeps w (Constant true) guards st = gated-keeps w guards st
under-keeps w (Constant false) guards st = keeps-all st.problem
under-keeps w (Literal l) guards st = gated-keeps w (l ∷ guards) st

listed-keeps : (w : ℤ) (a : Answer) (guards : List Lit) (st : Linear)
    → Keeps st.problem (listed_under w a guards st).problem
listed-keeps w (Constant true) guards st = guarded-keeps st.problem guards
listed-keeps w (Constant false) guards st = keeps-all st.problem
listed-keeps w (Literal l) guards st = guarded-keeps st.problem (l ∷ guards)

summed-keeps : (z : ℤ) (a : Answer) (st : Linear) (g : List Lit) (d : Denotation)
    → Keeps st.problem (summed_row z a st (g, d)).problem
summed-keeps z a st g (number w) = under-keeps (z *ℤ w) a g st
summed-keeps z a st g (named n) = keeps-all st.problem
summed-keeps z a st g minus_infinity = keeps-all st.problem
summed-keeps z a st g plus_infinity = keeps-all st.problem
summed-keeps z a st g undefined = keeps-all st.problem

listed-row-keeps : (a : Answer) (st : Linear) (g : List Lit) (d : Denotation)
    → Keeps st.problem (listed_row a st (g, d)).problem
listed-row-keeps a st g (number w) = listed-keeps w a g st
listed-row-keeps a st g (named n) = keeps-all st.problem
listed-row-keeps a st g minus_infinity = keeps-all st.problem
listed-row-keeps a st g plus_infinity = keeps-all st.problem
listed-row-keeps a st g undefined = keeps-all st.problem

step-keeps : (k : AggKind) (z : ℤ) (a : Answer) (st : Linear) (r : List Lit × Denotation)
    → Keeps st.problem (row_step k z a st r).problem
step-keeps kind.Count z a st r = summed-keeps z a st r.0 r.1
step-keeps kind.Sum z a st r = summed-keeps z a st r.0 r.1
step-keeps kind.Min z a st r = listed-row-keeps a st r.0 r.1
step-keeps kind.Max z a st r = listed-row-keeps a st r.0 r.1

steps-keep : (k : AggKind) (z : ℤ) (a : Answer) (rs : List (List Lit × Denotation)) (st : Linear)
    → Keeps st.problem (fold (row_step k z a) st rs).problem
steps-keep k z a [] st = keeps-all st.problem
steps-keep k z a (r ∷ rs) st =
    let next = row_step k z a st r in
    keeps-on st.problem next.problem (fold (row_step k z a) next rs).problem (step-keeps k z a st r)
    (steps-keep k z a rs next)

-- ---- both sides of a comparison

more-keeps : (z : ℤ) (o : Option ℤ) (g : List Lit) (st : Linear) → Keeps st.problem (with_more z o g st).problem
more-keeps z None g st = keeps-all st.problem
more-keeps z (Some w) g st = under-keeps (z *ℤ w) (Constant true) g st

rows-spread-keep : (z m : ℤ) (rs : List (List Lit × Denotation)) (st : Linear)
    → Keeps st.problem (fold (row_spread z m) st rs).problem
rows-spread-keep z m [] st = keeps-all st.problem
rows-spread-keep z m (r ∷ rs) st =
    let next = row_spread z m st r in
    keeps-on st.problem next.problem (fold (row_spread z m) next rs).problem (more-keeps z (more_than m r.1) r.0 st)
    (rows-spread-keep z m rs next)

sided-keeps : (high : Bool) (c : Cmp) (st : Linear) (xs ys : List (List Lit × Denotation))
    → Keeps st.problem (sided_at high c st xs ys).problem
sided-keeps high c st xs ys =
    let low = outermost high xs in
    let left = spread (pos 1) low xs st in
    let m = outermost (not high) ys in
    let both = sided high st xs ys in
    keeps-on st.problem left.problem (sided_at high c st xs ys).problem
    (rows-spread-keep (pos 1) low xs (with_base (pos 1 *ℤ low) st.problem st))
    (keeps-on left.problem both.problem (sided_at high c st xs ys).problem
    (rows-spread-keep (neg_ℤ (pos 1)) m ys (with_base (neg_ℤ (pos 1) *ℤ m) left.problem left))
    (compared-keeps kind.Sum c both (pos 0)))

meet-keeps : (st : Linear) (xs ys : List (List Lit × Denotation)) → Keeps st.problem (sides_meet st xs ys).problem
meet-keeps st xs ys =
    let low = sided_at true cmp.Ge st xs ys in
    let mid = with_problem low.problem st in
    let high = sided_at false cmp.Le mid xs ys in
    keeps-on st.problem low.problem (sides_meet st xs ys).problem (sided-keeps true cmp.Ge st xs ys)
    (keeps-on low.problem high.problem (sides_meet st xs ys).problem (sided-keeps false cmp.Le mid xs ys)
    (both-keep low.answer high.answer high.problem))

by-keeps : (c : Cmp) (st : Linear) (xs ys : List (List Lit × Denotation)) → Keeps st.problem (sides_by c st xs ys).problem
by-keeps cmp.Eq st xs ys = meet-keeps st xs ys
by-keeps cmp.Ne st xs ys = meet-keeps st xs ys
by-keeps cmp.Lt st xs ys = sided-keeps false cmp.Lt st xs ys
by-keeps cmp.Gt st xs ys = sided-keeps true cmp.Gt st xs ys
by-keeps cmp.Le st xs ys = sided-keeps false cmp.Le st xs ys
by-keeps cmp.Ge st xs ys = sided-keeps true cmp.Ge st xs ys

pub compared-beside-keeps : (c : Cmp) (st : Linear) (xs ys : List (List Lit × Denotation))
    → Keeps st.problem (compared_beside c st xs ys).problem
compared-beside-keeps c st [] ys = keeps-all st.problem
compared-beside-keeps c st (x ∷ xs) [] = keeps-all st.problem
compared-beside-keeps c st (x ∷ xs) (y ∷ ys) = by-keeps c st (x ∷ xs) (y ∷ ys)

-- ---- all instances

-- an instance keeps what its condition keeps
pub instance-keeps : (k : AggKind) (z : ℤ) (F : List Elem → ProblemState → GroundResult)
    (R : List Elem → List (List Lit × Denotation)) (st : Linear) (a : List Elem)
    → Keeps st.problem (F a st.problem).problem → Keeps st.problem (instance_step k z F R st a).problem
instance-keeps k z F R st a h =
    let g = F a st.problem in
    let mid = with_problem g.problem st in
    keeps-on st.problem g.problem (instance_step k z F R st a).problem h
    (steps-keep k z g.answer (rows_of_kind k (R a)) mid)

pub instances-keep : (k : AggKind) (z : ℤ) (F : List Elem → ProblemState → GroundResult)
    (R : List Elem → List (List Lit × Denotation)) → ((a : List Elem) (p : ProblemState) → Keeps p (F a p).problem)
    → (as' : List (List Elem)) (st : Linear) → Keeps st.problem (fold (instance_step k z F R) st as').problem
instances-keep k z F R h [] st = keeps-all st.problem
instances-keep k z F R h (a ∷ as') st =
    let next = instance_step k z F R st a in
    keeps-on st.problem next.problem (fold (instance_step k z F R) next as').problem
    (instance-keeps k z F R st a (h a st.problem)) (instances-keep k z F R h as' next)
