use Rattle.std.proofs.Common.{◌≡◌, length, take, max, All, get_or, subst, arith, rules, ◌<◌, ◌∙◌}
use Rattle.std.proofs.lemmas.List.{take_all}
use Rattle.lit_core.specs.declared.literals.Lit.{Lit}
use Rattle.clause_store.specs.TrailLaws.{IsStepOf}
use Rattle.conflict_analysis.specs.Analyses.{IsFalseUpTo}
use Rattle.search_engine.proofs.LevelFacts.{upto-more, here-more}
use Rattle.search_engine.proofs.levels.conflict_level.Goals as goal

pub loop-lit-preserved : goal.loop-lit-preserved
loop-lit-preserved c =
    let lt : c.loop-lit.lit-index < length c.lend-lits.result.now = search rules in
    let first : Lit = c.lit-item.result in
    let w = c.level_of.ensures.step in
    let of : IsStepOf c.args.store.now.trail (get_or c.lend-lits.result.now c.loop-lit.lit-index first).var w.0 =
    subst (λ (l : Lit). IsStepOf c.args.store.now.trail l.var w.0) (c.lit.ensures.value ∙ c.lit-item.is) w.1 in
    let e : c.max-level.result ≡ max c.loop-lit.level c.level_of.result = search rules in
    let f : w.0.level ≡ c.level_of.result = w.2 in
    let is-max : c.max-level.result ≡ max c.loop-lit.level w.0.level = omega (arith, e, f) in
    record {
      upto = upto-more c.args.store.now c.requires.laws c.args.conflict c.lend-lits.result.now c.lend-lits.ensures.held
          c.requires.conflict c.loop-lit.lit-index c.loop-lit.level c.max-level.result first lt w.0 of is-max
          c.loop-lit.invariant.upto;
      here = here-more c.args.store.now c.requires.laws c.args.conflict c.lend-lits.result.now c.lend-lits.ensures.held
          c.requires.conflict c.loop-lit.lit-index c.loop-lit.level c.max-level.result first lt w.0 of is-max
          c.loop-lit.invariant.here;
    }

pub returns : goal.returns
returns c =
    let whole : take c.loop-lit.lit-index c.lend-lits.result.now ≡ c.lend-lits.result.now =
    take_all c.loop-lit.lit-index c.lend-lits.result.now (let t = c.loop-lit-test.false in omega arith) in
    record {
      clause = c.lend-lits.result.now;
      held = c.lend-lits.ensures.held;
      upto = subst (All (IsFalseUpTo c.args.store.now.trail c.loop-lit.level)) whole c.loop-lit.invariant.upto;
      here = c.loop-lit.invariant.here;
    }
