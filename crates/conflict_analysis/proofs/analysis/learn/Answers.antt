use Rattle.std.proofs.Common.{refl, Contains}
use Rattle.std.proofs.lemmas.Option.{slice_get_within}
use Rattle.conflict_analysis.specs.declared.analysis.Analysis.{Analysis}
use Rattle.conflict_analysis.proofs.Learnt.{learnt}
use Rattle.conflict_analysis.proofs.Shortened.{short-below, short-start}
use Rattle.conflict_analysis.proofs.analysis.learn.Goals as goal

pub shorten-requires-clause-long : goal.shorten-requires-clause-long
shorten-requires-clause-long c = short-start c.args.store.now c.requires.laws c.args.place c.args.resolvent
    c.requires.last

pub last_level-level-requires : goal.last_level-level-requires
last_level-level-requires c = λ k has. let l = c.in_ok-kept.ensures.lower k has in
    slice_get_within c.args.store.now.trail.steps k l.0 l.1

pub clause_of-requires-clause-lower : goal.clause_of-requires-clause-lower
clause_of-requires-clause-lower c = λ k has. short-below c.args.store.now c.requires.laws c.args.place
    (Contains c.in_ok-kept.kept) c.shorten.new.hints.items c.in_ok-kept.ensures k has

pub returns : goal.returns
returns c =
    let a : Analysis = record {
      clause = c.in_ok-clause.clause;
      level = c.last_level-level.result;
      hints =
          c.reverse.new.self;
    } in
    learnt c.args.store.now c.requires.laws c.requires.level c.args.place c.in_ok-kept.kept
    c.shorten.new.hints.items c.in_ok-kept.ensures c.last_level-level.result c.last_level-level.ensures
    c.in_ok-clause.clause.items c.in_ok-clause.ensures a refl refl c.reverse.ensures.items
