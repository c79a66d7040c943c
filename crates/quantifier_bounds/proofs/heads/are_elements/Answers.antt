use Rattle.std.proofs.Common.{map, sym, ◌∙◌}
use Rattle.std.proofs.lemmas.List.{length-map}
use Rattle.kb_logic.specs.Views.{term_view}
use Rattle.plain_evaluation.specs.Environments.{env_view}
use Rattle.quantifier_bounds.proofs.Told.{row_short}
use Rattle.quantifier_bounds.proofs.heads.are_elements.Goals as goal

pub returns-then-terms-elems : goal.returns-then-terms-elems
returns-then-terms-elems c =
    row_short c.args.known.now (env_view c.args.env.now) (map term_view c.args.terms.now) c.args.elems.now
    (λ same. c.if-terms-elems.true (sym (length-map c.args.terms.now term_view) ∙ same))
