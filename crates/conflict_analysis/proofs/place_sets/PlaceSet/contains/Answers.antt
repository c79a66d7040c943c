use Rattle.std.proofs.Common.{ℕ, List, Contains, sym, subst, arith}
use Rattle.std.proofs.lemmas.List.Elements.{Contains-append_left, Contains-append_right}
use Rattle.conflict_analysis.proofs.JoinedSets.{joined-far, joined-near}
use Rattle.conflict_analysis.proofs.place_sets.PlaceSet.contains.Goals as goal

pub returns-then-place-lt-NEAR : goal.returns-then-place-lt-NEAR
returns-then-place-lt-NEAR c = (
  λ t. subst (λ (ks : List ℕ). Contains ks c.args.place) c.self.view_is
      (Contains-append_left c.self.inside.near c.self.inside.far.keys c.args.place (c.contains.ensures.0 t)),
  λ has. c.contains.ensures.1 (joined-near c.self.inside.near c.self.inside.far.keys c.self.invariant c.args.place
      c.if-place-lt-NEAR.true (subst (λ (ks : List ℕ). Contains ks c.args.place) (sym c.self.view_is) has)),
)

pub returns : goal.returns
returns c = (
  λ t. subst (λ (ks : List ℕ). Contains ks c.args.place) c.self.view_is
      (Contains-append_right c.self.inside.near c.self.inside.far.keys c.args.place (c.is_far.ensures.0 t)),
  λ has. c.is_far.ensures.1 (joined-far c.self.inside.near c.self.inside.far.keys c.self.invariant c.args.place
      (omega (arith, c.if-place-lt-NEAR.false))
      (subst (λ (ks : List ℕ). Contains ks c.args.place) (sym c.self.view_is) has)),
)
