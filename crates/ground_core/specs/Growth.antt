-- How a problem grows.
use Rattle.std.specs.Prelude.{ℕ, zero, suc, ◌+◌, Bool, true, not, List, [], ◌∷◌, ◌++◌, length}
use Rattle.kb_logic.specs.declared.elements.ExtInt.{ExtInt}
use Rattle.kb_logic.specs.declared.structures.Literal.{Literal}
use Rattle.kb_logic.specs.declared.syntax.AggKind.{AggKind}
use Rattle.kb_logic.specs.declared.syntax.Cmp.TheVariants as cmp
use Rattle.kb_logic.specs.Denotations.{compared}
use Rattle.lit_core.specs.declared.literals.Lit.{Lit}
use Rattle.lit_core.specs.Literals.{literal_value, negated, by_sign, valuation}
use Rattle.ground_core.specs.declared.parts.Part.{Part}
use Rattle.ground_core.specs.declared.parts.AggCon.{AggCon}
use Rattle.ground_core.specs.declared.parts.GroundTerm.{GroundTerm}
use Rattle.ground_core.specs.Problems.{ProblemState}
use Rattle.ground_core.specs.Meaning.{joined, parts_value, denotation_of_bound}
use Rattle.ground_core.specs.More.{Adds}

-- a variable for each ground atom, and nothing said
abbrev pub empty_problem : List Literal → ProblemState
empty_problem atoms = record {
  atoms = atoms;
  vars = length atoms;
  gates = [];
  clauses = [];
  sums = [];
  terms = [];
  bounds = [];
  retired = [];
}

-- the problem with one more clause
abbrev pub with_clause : ProblemState → List Lit → ProblemState
with_clause p c = record {
  atoms = p.atoms;
  vars = p.vars;
  gates = p.gates;
  clauses = p.clauses ++ c ∷ [];
  sums =
      p.sums;
  terms = p.terms;
  bounds = p.bounds;
  retired = p.retired;
}

-- the first literal that the problem does not have
abbrev pub next_lit : ProblemState → Lit
next_lit p = record { var = record { 0 = p.vars + 1 }; positive = true }

-- the problem with one more variable, of which nothing is said
abbrev pub with_var : ProblemState → ProblemState
with_var p = record {
  atoms = p.atoms;
  vars = p.vars + 1;
  gates = p.gates;
  clauses = p.clauses;
  sums = p.sums;
  terms =
      p.terms;
  bounds = p.bounds;
  retired = p.retired;
}

-- the problem with one more variable, the output of a gate
abbrev pub with_gate : ProblemState → Bool → List Lit → ProblemState
with_gate p all parts = record {
  atoms = p.atoms;
  vars = p.vars + 1;
  gates = p.gates ++ record { out = next_lit p; all = all; parts = parts } ∷ [];
  clauses = p.clauses;
  sums = p.sums;
  terms = p.terms;
  bounds = p.bounds;
  retired = p.retired;
}

-- the problem with one more variable, the output of a constraint
abbrev pub with_sum : ProblemState → AggKind → List Part → ExtInt → ProblemState
with_sum p kind parts least = record {
  atoms = p.atoms;
  vars = p.vars + 1;
  gates = p.gates;
  clauses = p.clauses;
  sums = p.sums ++ record { out = next_lit p; kind = kind; parts = parts; least = least } ∷ [];
  terms = p.terms;
  bounds = p.bounds;
  retired = p.retired;
}

-- the problem with one more constraint, of variables that it has
abbrev pub with_constraint : ProblemState → AggCon → ProblemState
with_constraint p s = record {
  atoms = p.atoms;
  vars = p.vars;
  gates = p.gates;
  clauses = p.clauses;
  sums = p.sums ++ s ∷ [];
  terms = p.terms;
  bounds = p.bounds;
  retired = p.retired;
}

-- the problem with one more term
abbrev pub with_term : ProblemState → GroundTerm → ProblemState
with_term p t = record {
  atoms = p.atoms;
  vars = p.vars;
  gates = p.gates;
  clauses = p.clauses;
  sums = p.sums;
  terms =
      p.terms ++ t ∷ [];
  bounds = p.bounds;
  retired = p.retired;
}

-- the clauses that say that one literal is true exactly where two others have one value
abbrev pub clauses_of_same : Lit → Lit → Lit → List (List Lit)
clauses_of_same o a b =
    (negated o ∷ negated a ∷ b ∷ []) ∷ (negated o ∷ a ∷ negated b ∷ []) ∷ (o ∷ a ∷ b ∷ []) ∷
    (o ∷ negated a ∷ negated b ∷ []) ∷ []

-- the problem with one more variable, which is true exactly where the two literals have one value
abbrev pub with_same : ProblemState → Lit → Lit → ProblemState
with_same p a b = record {
  atoms = p.atoms;
  vars = p.vars + 1;
  gates = p.gates;
  clauses = p.clauses ++ clauses_of_same (next_lit p) a b;
  sums = p.sums;
  terms = p.terms;
  bounds = p.bounds;
  retired = p.retired;
}

-- the problem with these selectors retired
abbrev pub retiring : ProblemState → List Lit → ProblemState
retiring p ls = record {
  atoms = p.atoms;
  vars = p.vars;
  gates = p.gates;
  clauses = p.clauses;
  sums = p.sums;
  terms =
      p.terms;
  bounds = p.bounds;
  retired = ls;
}

-- the problem with one more variable, under which the term is below the number
abbrev pub with_bound : ProblemState → ℕ → ExtInt → ProblemState
with_bound p term below = record {
  atoms = p.atoms;
  vars = p.vars + 1;
  gates = p.gates;
  clauses = p.clauses;
  sums = p.sums;
  terms = p.terms;
  bounds = p.bounds ++ record { out = next_lit p; term = term; below = below } ∷ [];
  retired = p.retired;
}

-- the literals of the first variables that these values make false
abbrev pub falsified_by : List Bool → ℕ → List Lit
falsified_by values zero = []
falsified_by values (suc n) = falsified_by values n ++ record {
  var = record { 0 = suc n };
  positive =
      not (valuation values (suc n));
} ∷ []

-- the problem with one more variable, under which the ground atoms differ from these values somewhere
abbrev pub with_exclusion : ProblemState → List Bool → ProblemState
with_exclusion p values = record {
  atoms = p.atoms;
  vars = p.vars + 1;
  gates = p.gates;
  clauses = p.clauses ++ (negated (next_lit p) ∷ falsified_by values (length p.atoms)) ∷ [];
  sums = p.sums;
  terms = p.terms;
  bounds = p.bounds;
  retired = p.retired;
}

-- the new literal is true exactly where all, or any, of the parts are
abbrev pub AddsGate : ProblemState → ProblemState → Bool → List Lit → Lit → Type 0
AddsGate p q all parts out = Adds p q (λ v. joined all v parts) out

-- the new literal is true exactly where the parts come to at least the bound
abbrev pub AddsSum : ProblemState → ProblemState → AggKind → List Part → ExtInt → Lit → Type 0
AddsSum p q kind parts least out = Adds p q (λ v. compared cmp.Ge (parts_value v kind parts) (denotation_of_bound least)) out

-- the new literal is true exactly where the two literals have one value
abbrev pub AddsSame : ProblemState → ProblemState → Lit → Lit → Lit → Type 0
AddsSame p q a b out = Adds p q (λ v. by_sign (literal_value v a) (literal_value v b)) out
