use Rattle.std.proofs.Common.{◌<◌, fold, length, true, false, ap, ◌∙◌, arith}
use Rattle.ground_core.specs.Problems.{ProblemState}
use Rattle.def_ground.specs.Definitions.{complete_atom}
use Rattle.definition_walk.specs.WalkLaws.{ranges}
use Rattle.definition_walk.proofs.MarkFacts.{mark-is}
use Rattle.definition_walk.proofs.SymbolSteps.{symbol-done, item-at}
use Rattle.definition_walk.proofs.symbols.complete_marked.Goals.{then-marks-symbol+in_ok-complete_symbol}
use Rattle.definition_walk.proofs.symbols.complete_marked.Goals.{else-marks-symbol}
use Rattle.definition_walk.proofs.symbols.complete_marked.Goals as goal

pub loop-symbol-preserved : goal.loop-symbol-preserved
loop-symbol-preserved c =
    let b = c.args.base.now in
    let k = c.loop-symbol.symbol in
    let p = c.loop-symbol.problem in
    let marks = c.args.marks.now in
    let among : k < length marks = omega (arith, c.loop-symbol-test.true) in
    let size = c.requires.marks in
    let inside : k < length b.vocabulary.symbols = omega (arith, size, among) in
    let x = item-at b.vocabulary.symbols k inside in
    elim c.if-marks-symbol.branch [
      | then-marks-symbol+in_ok-complete_symbol w ↦ record {
        made = λ d told marked have. let C = complete_atom b told in
            symbol-done b C d k x true p c.if-marks-symbol.problem
            (fold C c.args.problem.now (ranges b d 1 0 b.vocabulary.symbols))
            (mark-is d marks marked k true among w.if-marks-symbol.true) inside
            (w.problem-is ∙ w.in_ok-complete_symbol.ensures.made told have)
            (c.loop-symbol.invariant.made d told marked have);
        vars =
            ap (λ (q : ProblemState). q.vars) w.problem-is ∙ w.in_ok-complete_symbol.ensures.vars
            ∙ c.loop-symbol.invariant.vars;
      }
      | else-marks-symbol w ↦ record {
        made = λ d told marked have. let C = complete_atom b told in
            symbol-done b C d k x false p c.if-marks-symbol.problem
            (fold C c.args.problem.now (ranges b d 1 0 b.vocabulary.symbols))
            (mark-is d marks marked k false among w.if-marks-symbol.false) inside
            w.problem-is (c.loop-symbol.invariant.made d told marked have);
        vars = ap (λ (q : ProblemState). q.vars) w.problem-is ∙ c.loop-symbol.invariant.vars;
      }
    ]
