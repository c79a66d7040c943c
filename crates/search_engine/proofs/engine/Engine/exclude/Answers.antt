use Rattle.std.proofs.Common.{sym, ◌∙◌, subst}
use Rattle.search_log.specs.Entries.{AreEntries}
use Rattle.search_engine.proofs.LogFacts.{excludes-logged, excludes-stays, on-err, resting-logged, stays-logged}
use Rattle.search_engine.proofs.LogFacts.{stays-only}
use Rattle.search_engine.proofs.LogFacts.{taken-back}
use Rattle.search_engine.proofs.engine.Engine.exclude.Goals as goal

pub returns-in_err-note_exclusion-clause-resting : goal.returns-in_err-note_exclusion-clause-resting
returns-in_err-note_exclusion-clause-resting c = resting-logged c.args.self.now c.note_exclusion.new.log c.requires.resting

pub returns-in_err-note_exclusion-clause-err : goal.returns-in_err-note_exclusion-clause-err
returns-in_err-note_exclusion-clause-err c = on-err c.from_residual.result _ (stays-only c.args.self.now c.note_exclusion.new.log)

pub hold_exclusion-requires-clause-resting : goal.hold_exclusion-requires-clause-resting
hold_exclusion-requires-clause-resting c = resting-logged c.args.self.now c.note_exclusion.new.log c.requires.resting

pub returns-in-Ok-clause-ok : goal.returns-in-Ok-clause-ok
returns-in-Ok-clause-ok c = (
  c.in-Ok.ensures.ok.0,
  excludes-stays c.args.self.now c.hold_exclusion.new.self c.args.values.now c.stay_near.new.self
      (excludes-logged c.args.self.now c.note_exclusion.new.log c.args.values.now c.hold_exclusion.new.self
      c.in-Ok.ensures.ok.1) c.stay_near.ensures.same,
)

-- what was written is taken away
pub back_to-requires : goal.back_to-requires
back_to-requires c = subst AreEntries (sym (taken-back c.mark-mark.result.len c.args.self.now.log c.note_exclusion.new.log
    c.hold_exclusion.new.self.log c.hold_exclusion.ensures.log c.note_exclusion.ensures.grows c.mark-mark.ensures.len)) c.mark-mark.ensures.texts

pub returns-in-Err-clause-resting : goal.returns-in-Err-clause-resting
returns-in-Err-clause-resting c = resting-logged c.hold_exclusion.new.self c.back_to.new.self c.hold_exclusion.ensures.resting

pub returns-in-Err-clause-err : goal.returns-in-Err-clause-err
returns-in-Err-clause-err c = stays-logged c.args.self.now c.note_exclusion.new.log c.hold_exclusion.new.self c.back_to.new.self
    c.in-Err.ensures.err

pub returns-in-Err-clause-unsaid : goal.returns-in-Err-clause-unsaid
returns-in-Err-clause-unsaid c = c.back_to.ensures.entries ∙ taken-back c.mark-mark.result.len c.args.self.now.log c.note_exclusion.new.log
    c.hold_exclusion.new.self.log c.hold_exclusion.ensures.log c.note_exclusion.ensures.grows c.mark-mark.ensures.len
