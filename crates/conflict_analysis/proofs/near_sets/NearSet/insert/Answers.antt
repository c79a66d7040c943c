use Rattle.std.proofs.Common.{ℕ, List, subst, slice_set}
use Rattle.conflict_analysis.specs.Marked.{Inserts}
use Rattle.conflict_analysis.proofs.MarkFacts.{marked, marked-set}
use Rattle.std.proofs.Common.{Contains, inl}
use Rattle.conflict_analysis.proofs.MarkFacts.{marked-covered}
use Rattle.conflict_analysis.proofs.near_sets.NearSet.insert.Goals as goal

pub returns-clause-inserts : goal.returns-clause-inserts
returns-clause-inserts c =
    subst (λ (ks : List ℕ). Inserts ks c.args.place (marked (slice_set c.cover.new.marks.items c.args.place 1)))
    c.self.view_is
    (marked-set c.self.inside.marks.items c.cover.new.marks.items c.args.place c.in_ok-cover.ensures.enough
    c.cover.ensures.same)

pub returns-clause-from : goal.returns-clause-from
returns-clause-from c =
    (subst (λ (ks : List ℕ). Inserts ks c.args.place (marked (slice_set c.cover.new.marks.items c.args.place 1)))
    c.self.view_is
    (marked-set c.self.inside.marks.items c.cover.new.marks.items c.args.place c.in_ok-cover.ensures.enough
    c.cover.ensures.same)).from

pub returns-in_err-cover-clause-from : goal.returns-in_err-cover-clause-from
returns-in_err-cover-clause-from c = λ k has. inl (subst (λ (ks : List ℕ). Contains ks k) c.self.view_is
    (marked-covered c.self.inside.marks.items c.cover.new.marks.items c.cover.ensures.same k has))
