use Rattle.std.proofs.Common.{◌≡◌, map}
use Rattle.grammar.specs.BlockView as block
use Rattle.stage_definitions.specs.Uses.{head_word}
use Rattle.rule_names.proofs.definitions.definition.Goals as goal

pub returns-clause-noted : goal.returns-clause-noted
returns-clause-noted c =
    let defined : c.in_ok-defined.defined ≡ map head_word (map block.rule_view c.args.raw.now.rules) =
    rw c.as_slice-all.ensures at c.in_ok-defined.ensures in
    rw (c.as_slice-all.ensures, defined) at c.in_ok-rules.ensures.noted
