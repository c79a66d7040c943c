-- Every model extends the narrowed structure.
use Rattle.std.proofs.Common.{◌∙◌}
use Rattle.certain_truth.proofs.Total.{extends_is_knows_more}
use Rattle.bound_laws.specs.Laws.{NarrowedKeepsModels}
use Rattle.bound_laws.proofs.Models.{models_are_closed}

pub narrowed_keeps_models : NarrowedKeepsModels
narrowed_keeps_models base typed choices m model =
    let closed = models_are_closed base typed choices m model in (
      λ k narrowed. (extends_is_knows_more base.vocabulary m model.structure k
          (narrowed.closed.more.symbols ∙ typed.symbols) narrowed.closed.listed.false_over).1 (narrowed.least _ closed),
      λ none. none _ closed,
    )
