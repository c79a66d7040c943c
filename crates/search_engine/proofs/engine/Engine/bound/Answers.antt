use Rattle.std.proofs.Common.{sym, ◌∙◌, subst}
use Rattle.search_log.specs.Entries.{AreEntries}
use Rattle.search_engine.proofs.LogFacts.{bounds-logged, on-err, resting-logged, stays-logged, stays-only, taken-back}
use Rattle.search_engine.proofs.engine.Engine.bound.Goals as goal

pub returns-in_err-note_bound-clause-resting : goal.returns-in_err-note_bound-clause-resting
returns-in_err-note_bound-clause-resting c = resting-logged c.args.self.now c.note_bound.new.log c.requires.resting

pub returns-in_err-note_bound-clause-err : goal.returns-in_err-note_bound-clause-err
returns-in_err-note_bound-clause-err c = on-err c.from_residual.result _ (stays-only c.args.self.now c.note_bound.new.log)

pub hold_bound-requires-clause-resting : goal.hold_bound-requires-clause-resting
hold_bound-requires-clause-resting c = resting-logged c.args.self.now c.note_bound.new.log c.requires.resting

pub returns-in-Ok-clause-ok : goal.returns-in-Ok-clause-ok
returns-in-Ok-clause-ok c = (
  c.in-Ok.ensures.ok.0,
  bounds-logged c.args.self.now c.note_bound.new.log c.args.term c.args.below c.hold_bound.new.self
      c.in-Ok.ensures.ok.1,
)

-- what was written is taken away
pub back_to-requires : goal.back_to-requires
back_to-requires c = subst AreEntries (sym (taken-back c.mark-mark.result.len c.args.self.now.log c.note_bound.new.log
    c.hold_bound.new.self.log c.hold_bound.ensures.log c.note_bound.ensures.grows c.mark-mark.ensures.len)) c.mark-mark.ensures.texts

pub returns-in-Err-clause-resting : goal.returns-in-Err-clause-resting
returns-in-Err-clause-resting c = resting-logged c.hold_bound.new.self c.back_to.new.self c.hold_bound.ensures.resting

pub returns-in-Err-clause-err : goal.returns-in-Err-clause-err
returns-in-Err-clause-err c = stays-logged c.args.self.now c.note_bound.new.log c.hold_bound.new.self c.back_to.new.self
    c.in-Err.ensures.err

pub returns-in-Err-clause-unsaid : goal.returns-in-Err-clause-unsaid
returns-in-Err-clause-unsaid c = c.back_to.ensures.entries ∙ taken-back c.mark-mark.result.len c.args.self.now.log c.note_bound.new.log
    c.hold_bound.new.self.log c.hold_bound.ensures.log c.note_bound.ensures.grows c.mark-mark.ensures.len
