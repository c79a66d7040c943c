-- What parts in memory are together with a problem, and what calls that add parts keep.
use Rattle.std.specs.Prelude.{ℕ, nat_eq, ◌≤◌, ℤ, pos, int_lt, List, ◌∷◌, ◌++◌, Bool, true, false, if◌then◌else◌}
use Rattle.std.specs.Prelude.{Option, Some, None}
use Rattle.lit_core.specs.declared.literals.Lit.{Lit}
use Rattle.ground_core.specs.declared.parts.Part.{Part}
use Rattle.ground_core.specs.Problems.{ProblemState, ArePartsOf}
use Rattle.def_ground.specs.declared.answers.Answer.{Answer}
use Rattle.def_ground.specs.declared.answers.Answer.TheVariants.{Constant, Literal}
use Rattle.def_ground.specs.declared.linear.Linear.{Linear as LinearOfCode}
use Rattle.def_ground.specs.Answers.{GroundResult, gate_of}
use Rattle.def_ground.specs.Linear.{Linear, literals_of_answer, lowest, highest}

-- the number and the parts, with the problem that defines their literals
abbrev pub linear_view : LinearOfCode → ProblemState → Linear
linear_view l p = record { base = l.base; parts = l.parts; problem = p }

-- the problem grew, and the parts are over its variables
pub record LinearGrows (p q : ProblemState) (ps : List Part) : Type 0 where
  pub vars : p.vars ≤ q.vars
  pub within : ArePartsOf q.vars ps

-- the part, if it is of this variable
abbrev pub own_part : Option Part → ℕ → Option Part
own_part None n = None
own_part (Some p) n = if nat_eq p.lit.var.0 n then Some p else None

-- the guards, behind the answer's literal where it is one
abbrev pub with_guards : Answer → List Lit → List Lit
with_guards a guards = literals_of_answer a ++ guards

-- an answer under guards, as one answer
abbrev pub answer_under : Answer → List Lit → ProblemState → GroundResult
answer_under (Constant true) guards p = gate_of true guards p
answer_under (Constant false) guards p = record { answer = Constant false; problem = p }
answer_under (Literal l) guards p = gate_of true (l ∷ guards) p

-- ---- the ends of a sum

-- what a part adds to the least, or where the test is true to the greatest
abbrev pub share_of : Bool → ℤ → ℤ
share_of true w = if int_lt w (pos 0) then pos 0 else w
share_of false w = if int_lt w (pos 0) then w else pos 0

-- the least that the parts may come to, or the greatest
abbrev pub end_of : Bool → List Part → ℤ
end_of true ps = highest ps
end_of false ps = lowest ps
