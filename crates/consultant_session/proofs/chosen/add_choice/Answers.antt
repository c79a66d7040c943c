use Rattle.std.proofs.Common.{◌≡◌, ◌↔◌, ◌⊎◌, List, Contains, subst}
use Rattle.lit_core.specs.declared.literals.Lit.{Lit}
use Rattle.consultant_session.proofs.HashedFacts.{one-more}
use Rattle.consultant_session.proofs.chosen.add_choice.Goals as goal

pub returns-in-Ok-clause-added : goal.returns-in-Ok-clause-added
returns-in-Ok-clause-added c = λ other.
    subst (λ (ls : List Lit). Contains c.insert_full.new.self.keys other ↔ (Contains ls other ⊎ (other ≡ c.args.lit)))
    c.reserve.ensures.keys
    (one-more c.reserve.new.self.keys c.insert_full.new.self.keys c.args.lit other (c.in-Ok.ensures.updates.0 other))
