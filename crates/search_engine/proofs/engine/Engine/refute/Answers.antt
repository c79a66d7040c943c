use Rattle.search_engine.proofs.SearchFacts.{conflict-still}
use Rattle.search_engine.proofs.LogFacts.{back-assumed, back-continues, back-search}
use Rattle.search_engine.proofs.engine.Engine.refute.Goals as goal

pub note_refuted-requires-clause-conflict : goal.note_refuted-requires-clause-conflict
note_refuted-requires-clause-conflict c = conflict-still c.args.self.now.store c.back_to.new.self c.args.conflict 0
    c.back_to.ensures.trail c.back_to.ensures.clauses c.back_to.ensures.laws c.requires.level

pub note_refuted-requires-clause-level : goal.note_refuted-requires-clause-level
note_refuted-requires-clause-level c = c.back_to.ensures.trail.level_is

pub returns-clause-search : goal.returns-clause-search
returns-clause-search c = back-search c.args.self.now c.back_to.new.self c.note_refuted.new.log c.back_to.ensures.trail
    c.back_to.ensures.clauses c.back_to.ensures.laws c.requires.search

pub returns-clause-same : goal.returns-clause-same
returns-clause-same c = back-continues c.args.self.now c.back_to.new.self c.note_refuted.new.log
    c.back_to.ensures.trail c.back_to.ensures.clauses c.back_to.ensures.laws c.requires.search

pub returns-clause-decisions : goal.returns-clause-decisions
returns-clause-decisions c = back-assumed c.args.self.now c.back_to.new.self c.note_refuted.new.log
    c.back_to.ensures.trail c.back_to.ensures.clauses c.back_to.ensures.laws c.requires.search
