use Rattle.std.proofs.Common.{◌≡◌}
use Rattle.search_decisions.specs.Scores.{AreListed}
use Rattle.search_decisions.proofs.scores.Scores.list.Given as goal

-- the variables so far are listed
abbrev pub invariant-loop-number : goal.invariant-loop-number
invariant-loop-number l = record {
  lists : AreListed l.self.scores.items l.assignment l.from l.number l.self.open.items l.self.listed.items;
  scores : l.self.scores ≡ l.fn.self.scores;
}
