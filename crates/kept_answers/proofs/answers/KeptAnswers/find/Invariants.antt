use Rattle.std.proofs.Common.{◌≡◌, drop}
use Rattle.kept_answers.specs.Answers.{kept_reply}
use Rattle.kept_answers.proofs.answers.KeptAnswers.find.Given as goal

abbrev pub invariant-loop-one : goal.invariant-loop-one
invariant-loop-one l = kept_reply (drop l.one-index l.self) l.query ≡ kept_reply l.self l.query
