use Rattle.std.proofs.Common.{◌≡◌, List, Contains, refl, sym, ap, ◌∙◌, subst}
use Rattle.lit_core.specs.declared.literals.Lit.{Lit}
use Rattle.ground_core.specs.Problems.{ProblemState}
use Rattle.ground_core.specs.Solving.{SolveState}
use Rattle.solving_judge.specs.declared.additions.Marks.{Marks}
use Rattle.solving_judge.proofs.MarkFacts.{retired-marks, same-marks}
use Rattle.solving_judge.proofs.additions.retire.Goals as goal

pub returns-then-not-is_among : goal.returns-then-not-is_among
returns-then-not-is_among g c =
    let p : ProblemState = (g.S.Solve.state c.args.solver.now).problem in
    let q : ProblemState = (g.S.Solve.state c.retire.new.self).problem in
    let m : Marks = c.args.marks.now in
    let n : Marks = record {
      atoms = m.atoms;
      vars = m.vars;
      terms = m.terms;
      selectors = m.selectors;
      retired = c.push_reserved.new.self;
    } in
    let same : p.retired ≡ c.deref-2.result.now =
    c.requires.marks.retired ∙ sym c.in_ok-reserve.ensures.items ∙ sym c.deref-2.ensures.value in
    let is = c.retire.ensures.retired (λ has. c.if-not-is_among.ensures.nowhere refl
    (subst (λ (ls : List Lit). Contains ls c.in-Some.selector) same has)) in
    record {
      marks = retired-marks p q m n c.in-Some.selector c.requires.marks refl refl refl refl
          (cc (c.push_reserved.ensures.items, c.in_ok-reserve.ensures.items))
          (ap (λ (s : SolveState). s.problem) is);
    }

pub returns-else-not-is_among : goal.returns-else-not-is_among
returns-else-not-is_among g c =
    let p : ProblemState = (g.S.Solve.state c.args.solver.now).problem in
    let q : ProblemState = (g.S.Solve.state c.retire.new.self).problem in
    let m : Marks = c.args.marks.now in
    let n : Marks = record {
      atoms = m.atoms;
      vars = m.vars;
      terms = m.terms;
      selectors = m.selectors;
      retired = c.reserve.new.self;
    } in
    let same : p.retired ≡ c.deref-2.result.now =
    c.requires.marks.retired ∙ sym c.in_ok-reserve.ensures.items ∙ sym c.deref-2.ensures.value in
    let is = c.retire.ensures.already (subst (λ (ls : List Lit). Contains ls c.in-Some.selector) (sym same)
    (c.if-not-is_among.ensures.there refl)) in
    record {
      marks = same-marks p q m n c.requires.marks refl refl refl refl c.in_ok-reserve.ensures.items
          (ap (λ (s : SolveState). s.problem) is);
    }
