use Rattle.std.proofs.Common.{◌≡◌, map, drop}
use Rattle.std.specs.List.{list_any}
use Rattle.def_ground.specs.AskedTerms.{Summand, is_rowless}
use Rattle.term_walk.specs.Askable.{summand_view}
use Rattle.term_walk.proofs.terms.has_rowless.Given as goal

-- whether one of those that are left has no row
abbrev pub invariant-loop-summand : goal.invariant-loop-summand
invariant-loop-summand l =
    list_any (λ (s : Summand). is_rowless s.rows) (map summand_view (drop l.summand-index l.summands))
    ≡ list_any (λ (s : Summand). is_rowless s.rows) (map summand_view l.summands)
