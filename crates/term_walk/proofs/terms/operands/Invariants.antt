use Rattle.std.proofs.Common.{◌≡◌, [], ◌++◌, map, drop}
use Rattle.kb_logic.specs.Trees.{summands_of}
use Rattle.kb_logic.specs.Views.{signed_view}
use Rattle.term_values.specs.RowArithmetic.{OperandRowsFit}
use Rattle.def_ground.specs.AskedTerms.{summands_in}
use Rattle.term_walk.specs.Askable.{summand_view}
use Rattle.term_walk.proofs.terms.operands.Given as goal

-- with the summands that are left come all
abbrev pub invariant-loop-part : goal.invariant-loop-part
invariant-loop-part l =
    let left = summands_of (map signed_view (drop l.part-index l.parts)) in
    record {
      same : map summand_view l.summands.items ++ summands_in l.base left
          ≡ summands_in l.base (summands_of (map signed_view l.parts));
      fits : OperandRowsFit l.base left [];
    }
