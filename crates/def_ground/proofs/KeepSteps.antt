-- What is said stays said: a problem that grows keeps its atoms, and its clauses stay the first ones.
use Rattle.std.proofs.Common.{◌≡◌, ℕ, ◌+◌, Bool, List, [], ◌∷◌, ◌++◌, Option, Some, None, refl, sym, ap, ◌∙◌}
use Rattle.std.proofs.lemmas.List.{append-nil, append_assoc}
use Rattle.lit_core.specs.declared.literals.Lit.{Lit}
use Rattle.ground_core.specs.declared.parts.Gate.{Gate}
use Rattle.ground_core.specs.Problems.{ProblemState}
use Rattle.kb_logic.specs.declared.elements.ExtInt.{ExtInt}
use Rattle.kb_logic.specs.declared.syntax.AggKind.{AggKind}
use Rattle.ground_core.specs.declared.parts.Part.{Part}
use Rattle.ground_core.specs.Growth.{next_lit, with_clause, with_gate, with_sum}
use Rattle.def_ground.specs.declared.answers.Answer.{Answer}
use Rattle.def_ground.specs.Answers.{gate_of}
use Rattle.def_ground.specs.Cases.{Case, answer_or_cases, answer_without, clauses_of_cases, cases_of}
use Rattle.def_ground.specs.Cases.{with_clauses}

-- q has p's atoms, and p's clauses first, and otherwise only more gates and constraints on sums
pub record Keeps (p q : ProblemState) : Type 0 where
  pub atoms : q.atoms ≡ p.atoms
  pub more : List (List Lit)
  pub clauses : q.clauses ≡ p.clauses ++ more
  pub terms : q.terms ≡ p.terms
  pub bounds : q.bounds ≡ p.bounds
  pub retired : q.retired ≡ p.retired

-- what differs in variables, gates and clauses alone
pub grown : (p : ProblemState) (n : ℕ) (gates : List Gate) (cs more : List (List Lit)) → cs ≡ p.clauses ++ more
    → Keeps p (record p { vars = n; gates = gates; clauses = cs })
grown p n gates cs more h = record {
  atoms = refl;
  more = more;
  clauses = h;
  terms = refl;
  bounds = refl;
  retired = refl;
}

pub keeps-all : (p : ProblemState) → Keeps p p
keeps-all p = grown p p.vars p.gates p.clauses [] (sym (append-nil p.clauses))

pub keeps-on : (p q r : ProblemState) → Keeps p q → Keeps q r → Keeps p r
keeps-on p q r h k = record {
  atoms = k.atoms ∙ h.atoms;
  more = h.more ++ k.more;
  clauses = k.clauses ∙ ap (λ cs. cs ++ k.more) h.clauses ∙ append_assoc p.clauses h.more k.more;
  terms = k.terms ∙ h.terms;
  bounds = k.bounds ∙ h.bounds;
  retired = k.retired ∙ h.retired;
}

pub keeps-clause : (p : ProblemState) (c : List Lit) → Keeps p (with_clause p c)
keeps-clause p c = grown p p.vars p.gates (p.clauses ++ c ∷ []) (c ∷ []) refl

pub keeps-clauses : (p : ProblemState) (cs : List (List Lit)) → Keeps p (with_clauses p cs)
keeps-clauses p cs = grown p p.vars p.gates (p.clauses ++ cs) cs refl

pub keeps-gate : (p : ProblemState) (all : Bool) (ls : List Lit) → Keeps p (with_gate p all ls)
keeps-gate p all ls =
    let q = with_gate p all ls in grown p q.vars q.gates p.clauses [] (sym (append-nil p.clauses))

pub keeps-sum : (p : ProblemState) (k : AggKind) (parts : List Part) (least : ExtInt)
    → Keeps p (with_sum p k parts least)
keeps-sum p k parts least = record {
  atoms = refl;
  more = [];
  clauses = sym (append-nil p.clauses);
  terms = refl;
  bounds = refl;
  retired = refl;
}

pub gate-keeps : (all : Bool) (ls : List Lit) (p : ProblemState) → Keeps p (gate_of all ls p).problem
gate-keeps all [] p = keeps-all p
gate-keeps all (l ∷ []) p = keeps-all p
gate-keeps all (l ∷ m ∷ ls) p = keeps-gate p all (l ∷ m ∷ ls)

pub answer-keeps : (o : Option Answer) (cs : List Case) (p : ProblemState) → Keeps p (answer_or_cases o cs p).problem
answer-keeps (Some a) cs p = keeps-all p
answer-keeps None cs p =
    let more = clauses_of_cases (next_lit p) cs in grown p (p.vars + 1) p.gates (p.clauses ++ more) more refl

pub cases-keep : (cs : List Case) (p : ProblemState) → Keeps p (cases_of cs p).problem
cases-keep cs p = answer-keeps (answer_without cs) cs p
