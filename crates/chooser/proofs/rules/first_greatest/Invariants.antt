use Rattle.std.proofs.Common.{ℕ, ◌<◌, ◌≤◌, length, get_or}
use Rattle.chooser.proofs.rules.first_greatest.Given as goal

-- the first of the greatest of the scores so far
abbrev pub invariant-loop-place : goal.invariant-loop-place
invariant-loop-place l = record {
  within : l.best < length l.scores;
  before : l.best < l.place;
  greatest : (k : ℕ) → k < l.place → get_or l.scores k 0 ≤ get_or l.scores l.best 0;
  first : (k : ℕ) → k < l.best → get_or l.scores k 0 < get_or l.scores l.best 0;
}
