use Rattle.std.proofs.Common.{ℕ, ◌++◌, List, Contains, inl, sym, subst}
use Rattle.conflict_analysis.specs.Marked.{PopsLast}
use Rattle.std.proofs.lemmas.List.Elements.{Contains-append_left}
use Rattle.conflict_analysis.proofs.JoinedSets.{apart-far, apart-popped, joined-pop-far}
use Rattle.conflict_analysis.proofs.place_sets.PlaceSet.pop_last.Goals as goal

pub invariant_of-self : goal.invariant_of-self
invariant_of-self c =
    let p = c.in-Some.ensures.some in
    apart-far c.self.inside.near c.self.inside.far.keys c.self.invariant c.pop_far.new.far.keys
    (λ k h. inl (subst (λ (ks : List ℕ). Contains ks k) (sym p.split)
    (Contains-append_left c.pop_far.new.far.keys _ k h)))

pub invariant_of-self-in-None : goal.invariant_of-self-in-None
invariant_of-self-in-None c = apart-popped c.pop_last.result c.self.inside.near c.pop_last.new.self
    c.self.inside.far.keys
    c.pop_far.new.far.keys c.self.invariant c.pop_last.ensures.none c.pop_last.ensures.some c.in-None.ensures.none.1

pub returns-in-Some-clause-some : goal.returns-in-Some-clause-some
returns-in-Some-clause-some c =
    subst (λ (ks : List ℕ). PopsLast ks c.in-Some.place (c.self.inside.near ++ c.pop_far.new.far.keys)) c.self.view_is
    (joined-pop-far c.self.inside.near c.self.inside.far.keys c.self.invariant c.in-Some.place c.pop_far.new.far.keys
    c.in-Some.ensures.some)
