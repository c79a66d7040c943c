use Rattle.std.proofs.Common.{◌∙◌, List, ap, subst}
use Rattle.consequences.specs.declared.kept.Kept.{Kept}
use Rattle.consequences.specs.Indexed.{IsIndexed}
use Rattle.kept_supports.specs.Supports.{undecided}
use Rattle.kept_supports.proofs.KeptFacts.{if-ok}
use Rattle.kept_supports.proofs.supports.KeptSupports.undecided.Goals as goal

pub returns : goal.returns
returns c =
    if-ok c.undecided_by.result (λ some h. h c.args.self.now
    (subst (IsIndexed c.in_ok-index.index.keys) (c.as_slice.ensures.value ∙ c.self.view_is) c.in_ok-index.ensures))
    c.undecided_by.ensures
