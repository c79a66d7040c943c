-- What cases and guarded values are, without where they lie in memory.
use Rattle.std.specs.Prelude.{Bool, true, false, not, List, [], ◌∷◌, ◌++◌, Option, Some, None}
use Rattle.kb_logic.specs.declared.syntax.Cmp.{Cmp}
use Rattle.kb_logic.specs.Denotations.{Denotation, compared}
use Rattle.kb_logic.specs.Values.{value_view}
use Rattle.lit_core.specs.declared.literals.Lit.{Lit}
use Rattle.def_ground.specs.declared.answers.Answer.{Answer}
use Rattle.def_ground.specs.declared.answers.Answer.TheVariants.{Constant, Literal}
use Rattle.def_ground.specs.declared.cases.Case.{Case as CaseOfCode}
use Rattle.def_ground.specs.declared.sides.GuardedValue.{GuardedValue}
use Rattle.def_ground.specs.Cases.{Case}

-- the case
abbrev pub case_view : CaseOfCode → Case
case_view c = record { guards = c.guards.now; yes = c.yes; no = c.no }

-- a row with one answer in place of its guards
abbrev pub guarded_view : GuardedValue → Answer × Denotation
guarded_view g = (g.answer, value_view g.value)

-- whether the values compare so, or whether they do not
abbrev pub compared_with : Bool → Cmp → Denotation → Denotation → Bool
compared_with true c x y = compared c x y
compared_with false c x y = not (compared c x y)

-- the side with one answer more behind the others
abbrev pub or_behind : Option (List Lit) → Answer → Option (List Lit)
or_behind None a = None
or_behind (Some ls) (Constant true) = None
or_behind (Some ls) (Constant false) = Some ls
or_behind (Some ls) (Literal l) = Some (ls ++ l ∷ [])
