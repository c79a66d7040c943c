use Rattle.std.proofs.Common.{◌∙◌, List, ap, subst}
use Rattle.consequences.specs.declared.kept.Kept.{Kept}
use Rattle.consequences.specs.Indexed.{IsIndexed}
use Rattle.kept_supports.specs.Supports.{kept_of}
use Rattle.kept_supports.proofs.KeptFacts.{if-ok}
use Rattle.kept_supports.proofs.supports.KeptSupports.kept_of.Goals as goal

pub returns : goal.returns
returns c =
    if-ok c.kept_by.result (λ some h. h c.args.self.now
    (subst (IsIndexed c.in_ok-index.index.keys) (c.as_slice.ensures.value ∙ c.self.view_is) c.in_ok-index.ensures))
    c.kept_by.ensures
