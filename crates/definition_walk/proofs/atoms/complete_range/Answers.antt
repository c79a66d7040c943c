use Rattle.std.proofs.Common.{◌≡◌, ◌<◌, ◌+◌, ◌-◌, length, subst, sym, ap, ◌∙◌, arith}
use Rattle.def_ground.specs.Definitions.{bodies_of}
use Rattle.def_ground.specs.Forms.{answer_of_atom}
use Rattle.definition_walk.specs.Lists.{AllWithin, AreWithin, lists_of}
use Rattle.definition_walk.proofs.BodyFacts.{list-within, list-bodies, range-next}
use Rattle.definition_walk.proofs.atoms.complete_range.Goals as goal

pub complete-requires-clause-bodies : goal.complete-requires-clause-bodies
complete-requires-clause-bodies c =
    let j = c.args.first - c.args.bodies.now.first + c.loop-place.place in
    let lists = c.args.bodies.now.lists in
    let inside : j < length lists.items = omega (arith, c.requires.low, c.requires.high, c.loop-place-test.true) in
    subst (AreWithin c.loop-place.problem.vars) (sym c.as_slice-own.ensures.value)
    (list-within lists j c.index.result.now inside c.index.ensures c.loop-place.problem.vars
    (subst (λ n. AllWithin n (lists_of lists)) (sym c.loop-place.invariant.vars) c.requires.bodies))

pub loop-place-preserved : goal.loop-place-preserved
loop-place-preserved c =
    let j = c.args.first - c.args.bodies.now.first + c.loop-place.place in
    let lists = c.args.bodies.now.lists in
    let inside : j < length lists.items = omega (arith, c.requires.low, c.requires.high, c.loop-place-test.true) in
    let n = c.args.first + c.loop-place.place in
    let var : c.args.bodies.now.first + j ≡ n = omega (arith, c.requires.low) in record {
      made = λ told have. range-next c.args.base.now told c.args.problem.now c.loop-place.problem
          c.complete.new.problem c.args.first c.loop-place.place c.of_atom.result c.as_slice-own.result.now
          (c.loop-place.invariant.made told have) c.in_ok-complete.ensures.made
          (c.of_atom.ensures ∙ ap (λ o. answer_of_atom o n) c.known-known.ensures)
          (c.as_slice-own.ensures.value
          ∙ list-bodies lists j c.index.result.now inside c.index.ensures told c.args.bodies.now.first have
          ∙ ap (λ m. bodies_of m told) var);
      vars = c.in_ok-complete.ensures.vars ∙ c.loop-place.invariant.vars;
    }
