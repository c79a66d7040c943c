use Rattle.std.proofs.Common.{length}
use Rattle.consult_text.specs.Parse.{toks}
use Rattle.consult_text.proofs.Cut.{HasCut}
use Rattle.consult_text.proofs.parse.parse_further.Given as goal

abbrev pub invariant-loop-behind : goal.invariant-loop-behind
invariant-loop-behind l = HasCut l.initial.args.items l.args.items (toks l.tokens) (toks l.rest)

abbrev pub decreases-loop-behind : goal.decreases-loop-behind
decreases-loop-behind l = length l.rest
