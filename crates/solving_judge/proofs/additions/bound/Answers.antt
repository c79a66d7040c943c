use Rattle.std.proofs.Common.{◌≡◌, ◌<◌, length, w64, to_z, of_z, refl, ap, arith}
use Rattle.kb_logic.specs.declared.elements.ExtInt.{ExtInt}
use Rattle.kb_logic.specs.declared.elements.ExtInt.TheVariants.{Num}
use Rattle.lit_core.specs.declared.literals.Lit.{Lit}
use Rattle.ground_core.specs.Problems.{ProblemState}
use Rattle.ground_core.specs.Solving.{SolveState}
use Rattle.solving_judge.specs.declared.additions.Marks.{Marks}
use Rattle.solving_judge.proofs.MarkFacts.{bounded-marks}
use Rattle.solving_judge.proofs.additions.bound.Goals as goal

pub returns : goal.returns
returns g c =
    let p : ProblemState = (g.S.Solve.state c.args.solver.now).problem in
    let q : ProblemState = (g.S.Solve.state c.bound.new.self).problem in
    let m : Marks = c.args.marks.now in
    let n : Marks = record {
      atoms = m.atoms;
      vars = c.in_ok-selector.selector.var.0;
      terms = m.terms;
      selectors = c.push_reserved.new.self;
      retired = m.retired;
    } in
    let below : ExtInt = Num (to_z w64 (of_z w64 c.args.below)) in
    let terms : length p.terms ≡ m.terms = c.requires.marks.terms in
    let lt : c.args.term < length p.terms = omega (arith, terms, c.if-term-marks.false) in
    record {
      marks = bounded-marks p q c.known.ensures.kept.problem m n c.requires.marks refl
          (ap (λ (l : Lit). l.var.0) c.in_ok-selector.ensures.ok.0) refl
          (cc (c.push_reserved.ensures.items, c.in_ok-reserve.ensures.items, c.in_ok-selector.ensures.ok.0)) refl
          c.args.term below lt (ap (λ (s : SolveState). s.problem) c.in_ok-selector.ensures.ok.1);
    }
