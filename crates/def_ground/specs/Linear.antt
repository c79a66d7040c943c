-- Aggregates as weighted literals: the parts of a count or a sum with a number beside them, and those of a minimum or a
-- maximum; when they come to at least a number, and how they compare with a number.
use Rattle.std.specs.Prelude.{ℕ, nat_lt, nat_eq, ℤ, pos, ◌+ℤ◌, ◌-ℤ◌, ◌*ℤ◌, int_le, int_lt, List, [], ◌∷◌, ◌++◌}
use Rattle.std.specs.Prelude.{map, filter, fold, Bool, true, false, if◌then◌else◌}
use Rattle.std.specs.Bool.{beq}
use Rattle.kb_logic.specs.declared.elements.Elem.{Elem}
use Rattle.kb_logic.specs.declared.elements.ExtInt.TheVariants.{Num}
use Rattle.kb_logic.specs.declared.syntax.AggKind.{AggKind}
use Rattle.kb_logic.specs.declared.syntax.AggKind.TheVariants as kind
use Rattle.kb_logic.specs.declared.syntax.Cmp.{Cmp}
use Rattle.kb_logic.specs.declared.syntax.Cmp.TheVariants as cmp
use Rattle.kb_logic.specs.Denotations.{Denotation, number, named, minus_infinity, plus_infinity, undefined}
use Rattle.lit_core.specs.declared.literals.Lit.{Lit}
use Rattle.lit_core.specs.Literals.{negated}
use Rattle.ground_core.specs.declared.parts.Part.{Part}
use Rattle.ground_core.specs.Problems.{ProblemState}
use Rattle.ground_core.specs.Growth.{next_lit, with_sum}
use Rattle.def_ground.specs.declared.answers.Answer.{Answer}
use Rattle.def_ground.specs.declared.answers.Answer.TheVariants.{Constant, Literal}
use Rattle.def_ground.specs.Answers.{GroundResult, opposite_of, gate_of}
use Rattle.def_ground.specs.Guards.{guarded_by}

-- ---- parts

-- parts, and a number that is added to what they come to
pub record Shifted : Type 0 where
  pub base : ℤ
  pub parts : List Part

abbrev pub part_of : ℤ → Lit → Part
part_of w l = record { lit = l; weight = w }

-- two parts of one variable as one: where their signs differ, w for the opposite of a literal is w less w for it
abbrev pub merged : Part → Part → Shifted
merged q p =
    if beq q.lit.positive p.lit.positive then
    record { base = pos 0; parts = part_of (p.weight +ℤ q.weight) p.lit ∷ [] }
    else record { base = q.weight; parts = part_of (p.weight -ℤ q.weight) p.lit ∷ [] }

abbrev pub behind_part : Part → Shifted → Shifted
behind_part p s = record { base = s.base; parts = p ∷ s.parts }

-- a part more, before the first part of a later variable, or together with that of its own
abbrev pub inserted : Part → List Part → Shifted
inserted q [] = record { base = pos 0; parts = q ∷ [] }
inserted q (p ∷ ps) =
    if nat_lt q.lit.var.0 p.lit.var.0 then record { base = pos 0; parts = q ∷ p ∷ ps }
    else if nat_eq q.lit.var.0 p.lit.var.0 then
    (let m = merged q p in record { base = m.base; parts = m.parts ++ ps })
    else behind_part p (inserted q ps)

-- every part's variable comes before this one
abbrev pub comes_last : ℕ → List Part → Bool
comes_last n [] = true
comes_last n (p ∷ []) = nat_lt p.lit.var.0 n
comes_last n (p ∷ q ∷ ps) = comes_last n (q ∷ ps)

-- a part more: behind the others where the last of them has an earlier variable, else in its place
abbrev pub put_part : Part → List Part → Shifted
put_part q ps = if comes_last q.lit.var.0 ps then record { base = pos 0; parts = ps ++ q ∷ [] } else inserted q ps

-- ---- counts and sums

-- a number, literals that count with their weights where they are true, and the problem that defines these
pub record Linear : Type 0 where
  pub base : ℤ
  pub parts : List Part
  pub problem : ProblemState

abbrev pub with_base : ℤ → ProblemState → Linear → Linear
with_base w q st = record { base = st.base +ℤ w; parts = st.parts; problem = q }

abbrev pub with_part : ℤ → Lit → ProblemState → Linear → Linear
with_part w l q st =
    let s = put_part (part_of w l) st.parts in record { base = st.base +ℤ s.base; parts = s.parts; problem = q }

abbrev pub with_problem : ProblemState → Linear → Linear
with_problem q st = record { base = st.base; parts = st.parts; problem = q }

-- the weight under an answer
abbrev pub weighed : ℤ → GroundResult → Linear → Linear
weighed w g st = elim g.answer [
  | Constant c ↦ with_base (if c then w else pos 0) g.problem st
  | Literal l ↦ with_part w l g.problem st
]

-- the weight under an answer and guards; a gate only where these are two or more
abbrev pub weighed_under : ℤ → Answer → List Lit → Linear → Linear
weighed_under w (Constant true) guards st = weighed w (gate_of true guards st.problem) st
weighed_under w (Constant false) guards st = st
weighed_under w (Literal l) guards st = weighed w (gate_of true (l ∷ guards) st.problem) st

-- a row of the weight, times a factor
abbrev pub summed_row : ℤ → Answer → Linear → List Lit × Denotation → Linear
summed_row z a st r = elim r.1 [
  | number w ↦ weighed_under (z *ℤ w) a r.0 st
  | named n ↦ st
  | minus_infinity ↦ st
  | plus_infinity ↦ st
  | undefined ↦ st
]

-- ---- minima and maxima

-- a literal of which these are the guards, with its weight
abbrev pub listed : ℤ → List Lit → Linear → Linear
listed w guards st =
    let g = guarded_by guards st.problem in
    record { base = st.base; parts = st.parts ++ part_of w g.lit ∷ []; problem = g.problem }

abbrev pub listed_under : ℤ → Answer → List Lit → Linear → Linear
listed_under w (Constant true) guards st = listed w guards st
listed_under w (Constant false) guards st = st
listed_under w (Literal l) guards st = listed w (l ∷ guards) st

abbrev pub listed_row : Answer → Linear → List Lit × Denotation → Linear
listed_row a st r = elim r.1 [
  | number w ↦ listed_under w a r.0 st
  | named n ↦ st
  | minus_infinity ↦ st
  | plus_infinity ↦ st
  | undefined ↦ st
]

-- ---- instances

abbrev pub row_step : AggKind → ℤ → Answer → Linear → List Lit × Denotation → Linear
row_step kind.Count z a st r = summed_row z a st r
row_step kind.Sum z a st r = summed_row z a st r
row_step kind.Min z a st r = listed_row a st r
row_step kind.Max z a st r = listed_row a st r

-- a count counts 1 for each instance, whatever its weight
abbrev pub rows_of_kind : AggKind → List (List Lit × Denotation) → List (List Lit × Denotation)
rows_of_kind kind.Count rs = ([], number (pos 1)) ∷ []
rows_of_kind kind.Sum rs = rs
rows_of_kind kind.Min rs = rs
rows_of_kind kind.Max rs = rs

-- one instance more, times a factor: F is what its condition comes to, R are the rows of its weight
abbrev pub instance_step : AggKind → ℤ → (List Elem → ProblemState → GroundResult)
    → (List Elem → List (List Lit × Denotation)) → Linear → List Elem → Linear
instance_step k z F R st a =
    let g = F a st.problem in fold (row_step k z g.answer) (with_problem g.problem st) (rows_of_kind k (R a))

-- ---- thresholds

-- the least and the greatest that the parts of a sum may come to, each by itself
abbrev pub lowest : List Part → ℤ
lowest [] = pos 0
lowest (p ∷ ps) = (if int_lt p.weight (pos 0) then p.weight else pos 0) +ℤ lowest ps

abbrev pub highest : List Part → ℤ
highest [] = pos 0
highest (p ∷ ps) = (if int_lt p.weight (pos 0) then pos 0 else p.weight) +ℤ highest ps

-- whether a sum is at least this number: a constraint only where its parts may come to both
abbrev pub sum_reaches : Linear → ℤ → GroundResult
sum_reaches st d =
    if int_le d (st.base +ℤ lowest st.parts) then record { answer = Constant true; problem = st.problem }
    else if int_lt (st.base +ℤ highest st.parts) d then record { answer = Constant false; problem = st.problem }
    else record {
      answer = Literal (next_lit st.problem);
      problem = with_sum st.problem kind.Sum st.parts (Num (d -ℤ st.base));
    }

-- the literals of the parts whose weight is below a number, and those of the others
abbrev pub lits_below : ℤ → List Part → List Lit
lits_below d ps = map (λ (p : Part). p.lit) (filter (λ (p : Part). int_lt p.weight d) ps)

abbrev pub lits_from : ℤ → List Part → List Lit
lits_from d ps = map (λ (p : Part). p.lit) (filter (λ (p : Part). int_le d p.weight) ps)

-- whether an aggregate is at least this number: a minimum is where none of the parts below it is true, a maximum where
-- one of the others is
abbrev pub reaches_number : AggKind → Linear → ℤ → GroundResult
reaches_number kind.Count st d = sum_reaches st d
reaches_number kind.Sum st d = sum_reaches st d
reaches_number kind.Min st d = gate_of true (map negated (lits_below d st.parts)) st.problem
reaches_number kind.Max st d = gate_of false (lits_from d st.parts) st.problem

abbrev pub turned : GroundResult → GroundResult
turned g = record { answer = opposite_of g.answer; problem = g.problem }

abbrev pub literals_of_answer : Answer → List Lit
literals_of_answer (Constant c) = []
literals_of_answer (Literal l) = l ∷ []

-- whether both are so
abbrev pub both_of : Answer → Answer → ProblemState → GroundResult
both_of (Constant false) b p = record { answer = Constant false; problem = p }
both_of a (Constant false) p = record { answer = Constant false; problem = p }
both_of a b p = gate_of true (literals_of_answer a ++ literals_of_answer b) p

-- whether it is this number: at least it, and not at least the next
abbrev pub is_number : AggKind → Linear → ℤ → GroundResult
is_number k st d =
    let low = reaches_number k st d in
    let high = reaches_number k (with_problem low.problem st) (d +ℤ pos 1) in
    both_of low.answer (opposite_of high.answer) high.problem

-- how it compares with a number
abbrev pub compared_at : AggKind → Cmp → Linear → ℤ → GroundResult
compared_at k cmp.Eq st d = is_number k st d
compared_at k cmp.Ne st d = turned (is_number k st d)
compared_at k cmp.Lt st d = turned (reaches_number k st d)
compared_at k cmp.Gt st d = reaches_number k st (d +ℤ pos 1)
compared_at k cmp.Le st d = turned (reaches_number k st (d +ℤ pos 1))
compared_at k cmp.Ge st d = reaches_number k st d
