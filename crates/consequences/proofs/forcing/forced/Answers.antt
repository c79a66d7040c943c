use Rattle.std.proofs.Common.{All, length, sym, subst}
use Rattle.ground_core.specs.Problems.{ProblemState}
use Rattle.ground_core.specs.Solving.{IsLive}
use Rattle.consequences.specs.Forced.{IsSeen}
use Rattle.ground_core.specs.Calls.{Keeps}
use Rattle.ground_core.proofs.CallFacts.{stays-twice, keeps-twice, costs-after, costs-once}
use Rattle.consequences.proofs.forcing.forced.Goals as goal

pub returns-in-Ok-clause-stays : goal.returns-in-Ok-clause-stays
returns-in-Ok-clause-stays g c = stays-twice (g.S.Solve.state c.args.s.now) (g.S.Solve.state c.model_of.new.s)
    (g.S.Solve.state c.decide_each.new.s) c.model_of.ensures.stays c.decide_each.ensures.stays

pub returns-in-Ok-clause-keeps : goal.returns-in-Ok-clause-keeps
returns-in-Ok-clause-keeps g c = keeps-twice (g.S.Solve.state c.args.s.now) (g.S.Solve.state c.model_of.new.s)
    (g.S.Solve.state c.decide_each.new.s) c.args.budget.now c.model_of.new.budget c.decide_each.new.budget
    c.model_of.ensures.keeps c.decide_each.ensures.keeps

pub returns-in-Ok-clause-costs : goal.returns-in-Ok-clause-costs
returns-in-Ok-clause-costs g c = λ vs among.
    let both : Keeps (g.S.Solve.state c.args.s.now) (g.S.Solve.state c.decide_each.new.s) c.args.budget.now
    c.decide_each.new.budget = keeps-twice (g.S.Solve.state c.args.s.now) (g.S.Solve.state c.model_of.new.s)
    (g.S.Solve.state c.decide_each.new.s) c.args.budget.now c.model_of.new.budget c.decide_each.new.budget
    c.model_of.ensures.keeps c.decide_each.ensures.keeps in
    costs-after (length vs) (g.S.Solve.state c.args.s.now) (g.S.Solve.state c.model_of.new.s)
    (g.S.Solve.state c.decide_each.new.s) c.args.budget.now c.model_of.new.budget c.decide_each.new.budget
    c.model_of.ensures.stays.free c.model_of.ensures.counts (c.decide_each.ensures.counts vs among) both.rises

pub returns-in-Err-decide_each-clause-stays : goal.returns-in-Err-decide_each-clause-stays
returns-in-Err-decide_each-clause-stays g c = stays-twice (g.S.Solve.state c.args.s.now)
    (g.S.Solve.state c.model_of.new.s) (g.S.Solve.state c.decide_each.new.s) c.model_of.ensures.stays
    c.decide_each.ensures.stays

pub returns-in-Err-decide_each-clause-keeps : goal.returns-in-Err-decide_each-clause-keeps
returns-in-Err-decide_each-clause-keeps g c = keeps-twice (g.S.Solve.state c.args.s.now)
    (g.S.Solve.state c.model_of.new.s) (g.S.Solve.state c.decide_each.new.s) c.args.budget.now c.model_of.new.budget
    c.decide_each.new.budget c.model_of.ensures.keeps c.decide_each.ensures.keeps

pub returns-in-Err-decide_each-clause-costs : goal.returns-in-Err-decide_each-clause-costs
returns-in-Err-decide_each-clause-costs g c = λ vs among.
    let both : Keeps (g.S.Solve.state c.args.s.now) (g.S.Solve.state c.decide_each.new.s) c.args.budget.now
    c.decide_each.new.budget = keeps-twice (g.S.Solve.state c.args.s.now) (g.S.Solve.state c.model_of.new.s)
    (g.S.Solve.state c.decide_each.new.s) c.args.budget.now c.model_of.new.budget c.decide_each.new.budget
    c.model_of.ensures.keeps c.decide_each.ensures.keeps in
    costs-after (length vs) (g.S.Solve.state c.args.s.now) (g.S.Solve.state c.model_of.new.s)
    (g.S.Solve.state c.decide_each.new.s) c.args.budget.now c.model_of.new.budget c.decide_each.new.budget
    c.model_of.ensures.stays.free c.model_of.ensures.counts (c.decide_each.ensures.counts vs among) both.rises

pub returns-in-Ok-None-clause-costs : goal.returns-in-Ok-None-clause-costs
returns-in-Ok-None-clause-costs g c = λ vs among. costs-once (length vs) (g.S.Solve.state c.args.s.now)
    (g.S.Solve.state c.model_of.new.s) c.args.budget.now c.model_of.new.budget c.model_of.ensures.counts
    c.model_of.ensures.keeps.rises

pub returns-in-Err-clause-costs : goal.returns-in-Err-clause-costs
returns-in-Err-clause-costs g c = λ vs among. costs-once (length vs) (g.S.Solve.state c.args.s.now)
    (g.S.Solve.state c.model_of.new.s) c.args.budget.now c.model_of.new.budget c.model_of.ensures.counts
    c.model_of.ensures.keeps.rises

pub decide_each-requires-clause-asked_unretired : goal.decide_each-requires-clause-asked_unretired
decide_each-requires-clause-asked_unretired g c =
    subst (λ (p : ProblemState). IsLive p.retired c.args.question.now.ask.now)
    (sym c.model_of.ensures.stays.problem) c.requires.asked_unretired

pub decide_each-requires-clause-seen : goal.decide_each-requires-clause-seen
decide_each-requires-clause-seen g c =
    subst (λ (p : ProblemState). All (IsSeen p c.args.question.now.assume.now) c.args.question.now.seen.now)
    (sym c.model_of.ensures.stays.problem) c.requires.seen
