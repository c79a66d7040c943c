use Rattle.std.proofs.Common.{◌<◌, length, sym, subst}
use Rattle.brute_force.specs.Trials.{TrialState}
use Rattle.brute_force.specs.TrialFields.{state_of}
use Rattle.brute_force.proofs.TrialFacts.{IsMore, bound-more, refuted-more, kept-more}
use Rattle.brute_force.proofs.brute_force.BruteForceGrow.bound.Goals as goal

pub invariant_of-self-2 : goal.invariant_of-self-2
invariant_of-self-2 c =
    let lt : c.args.term < length c.self.inside.kept.terms = subst
    (λ (s : TrialState). c.args.term < length s.problem.terms) (sym c.self.view_is) c.requires.term in
    let m : IsMore c.self.inside.kept c.bound.new.self = bound-more c.self.inside.kept c.bound.new.self
    c.args.term c.args.below lt c.vars-vars.ensures.laws c.in_ok-out.ensures.ok.1 in record {
      refuted = refuted-more c.self.inside.kept c.bound.new.self c.self.inside.cores m.less c.self.invariant.refuted;
      counted = c.self.invariant.counted;
    }

pub returns-clause-kept : goal.returns-clause-kept
returns-clause-kept c =
    let lt : c.args.term < length c.self.inside.kept.terms = subst
    (λ (s : TrialState). c.args.term < length s.problem.terms) (sym c.self.view_is) c.requires.term in
    let m : IsMore c.self.inside.kept c.bound.new.self = bound-more c.self.inside.kept c.bound.new.self
    c.args.term c.args.below lt c.vars-vars.ensures.laws c.in_ok-out.ensures.ok.1 in
    kept-more (state_of c.self.inside) c.bound.new.self c.self.inside.cores c.push_reserved.new.self.items
    c.self.inside.kept m c.vars-vars.ensures.range c.self.invariant.refuted c.self.invariant.counted
    c.vars-vars.ensures.selectors
