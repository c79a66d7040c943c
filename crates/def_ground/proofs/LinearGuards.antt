-- Guards as one literal: what it says, and that nothing else changes.
use Rattle.std.proofs.Common.{◌+◌, ◌≤◌, true, List, [], ◌∷◌, arith}
use Rattle.std.proofs.lemmas.List.Elements.{All-cons, All-nil}
use Rattle.lit_core.specs.declared.literals.Lit.{Lit}
use Rattle.ground_core.specs.declared.parts.Gate.{Gate}
use Rattle.ground_core.specs.Problems.{ProblemState, IsProblem, AreLitsOf, IsGateOf}
use Rattle.ground_core.specs.Meaning.{joined}
use Rattle.ground_core.specs.Growth.{next_lit, with_gate}
use Rattle.ground_core.proofs.Fronts.{All-front}
use Rattle.ground_core.proofs.Mores.{gate-added}
use Rattle.def_ground.specs.declared.answers.Answer.TheVariants.{Literal}
use Rattle.def_ground.specs.Guards.{guarded_by}
use Rattle.def_ground.specs.Meanings.{Means}
use Rattle.def_ground.proofs.FormSteps.{gate-right}
use Rattle.def_ground.proofs.Growing.{lits-more, problem-grown}

pub any-gate : (p : ProblemState) (ls : List Lit) → IsProblem p → AreLitsOf p.vars ls
    → Means p (with_gate p true ls) (Literal (next_lit p)) (λ v. joined true v ls)
any-gate p ls fine within =
    let add = gate-added p true ls fine within in
    let g : Gate = record { out = next_lit p; all = true; parts = ls } in
    let grown = problem-grown p (p.vars + 1) (g ∷ []) [] fine (omega arith)
    (All-cons (IsGateOf (p.vars + 1)) g []
    ((omega arith, omega arith), lits-more p.vars (p.vars + 1) (omega arith) ls within)
    (All-nil (IsGateOf (p.vars + 1)))) (All-nil (AreLitsOf (p.vars + 1))) in
    record {
      fine = record {
        atoms = grown.atoms;
        gates = grown.gates;
        clauses = All-front (AreLitsOf (p.vars + 1)) p.clauses [] grown.clauses;
        sums = grown.sums;
        terms = grown.terms;
        bounds = grown.bounds;
        retired = grown.retired;
      };
      more = add.more;
      within = add.within;
      right = add.means;
    }

-- the literal that stands for guards
pub guarded-means : (p : ProblemState) (g : List Lit) → IsProblem p → AreLitsOf p.vars g
    → Means p (guarded_by g p).problem (Literal (guarded_by g p).lit) (λ v. joined true v g)
guarded-means p [] fine within = any-gate p [] fine within
guarded-means p (l ∷ []) fine within = gate-right p true (l ∷ []) fine within
guarded-means p (l ∷ m ∷ ls) fine within = any-gate p (l ∷ m ∷ ls) fine within

pub guarded-few : (p : ProblemState) (g : List Lit) → (guarded_by g p).problem.vars ≤ p.vars + 1
guarded-few p [] = omega arith
guarded-few p (l ∷ []) = omega arith
guarded-few p (l ∷ m ∷ ls) = omega arith
