use Rattle.std.proofs.Common.{length, sym, ap, ◌∙◌}
use Rattle.kb_logic.specs.Structures.{domain_at}
use Rattle.kb_logic.specs.declared.vocabularies.Bound.{Bound}
use Rattle.row_ranges.proofs.Passing.{one-bound}
use Rattle.row_ranges.proofs.places.first_variable.Goals as goal

pub invariant_of-block : goal.invariant_of-block
invariant_of-block c =
    record {
      counted = ap length c.domain_in.ensures
          ∙ ap (λ (b : Bound). length (domain_at c.args.domains.now b.ty)) (sym c.index-first-0.is)
          ∙ one-bound c.args.domains.now c.split_at.result.0.now c.index-first-0.result c.split_at.ensures.front_len
          c.index-first-0.is;
    }
