use Rattle.std.proofs.Common.{◌≡◌, ℕ, ◌<◌, ◌≤◌, ◌++◌, List, Contains, IsTrue, inl, inr, ⊎_elim, sym, subst, arith, OnOk}
use Rattle.std.proofs.lemmas.Bool.{cases_lt}
use Rattle.lit_core.proofs.LiteralFacts.{nothing_in_none}
use Rattle.conflict_analysis.specs.Marked.{AreApart, HasAsLast, Inserts, PopsLast}
use Rattle.std.proofs.lemmas.List.Elements.{Contains-append_left, Contains-append_right}
use Rattle.conflict_analysis.proofs.JoinedSets.{apart-far, apart-near, joined-far, joined-near, joined-last}
use Rattle.conflict_analysis.proofs.JoinedSets.{joined-insert-far, joined-insert-near, joined-pop-far, on-ok}
use Rattle.conflict_analysis.proofs.place_sets.PlaceSet.insert.Goals as goal

pub invariant_of-self : goal.invariant_of-self
invariant_of-self c = apart-near c.self.inside.near c.self.inside.far.keys c.self.invariant c.insert.new.self
    (λ k h. ⊎_elim (λ o. inl o) (λ e. inr (subst (λ (n : ℕ). n < 65536) e c.if-place-lt-NEAR.true))
    (c.insert.ensures.from k h))

pub returns-then-place-lt-NEAR : goal.returns-then-place-lt-NEAR
returns-then-place-lt-NEAR c = on-ok c.insert.result _ _
    (λ i. subst (λ (ks : List ℕ). Inserts ks c.args.place (c.insert.new.self ++ c.self.inside.far.keys)) c.self.view_is
    (joined-insert-near c.self.inside.near c.self.inside.far.keys c.self.invariant c.args.place c.insert.new.self i))
    c.insert.ensures.inserts

pub invariant_of-self-2 : goal.invariant_of-self-2
invariant_of-self-2 c = apart-far c.self.inside.near c.self.inside.far.keys c.self.invariant c.insert_far.new.far.keys
    (λ k h. ⊎_elim (λ o. inl o) (λ e. inr (subst (λ (n : ℕ). 65536 ≤ n) e (omega (arith, c.if-place-lt-NEAR.false))))
    (c.insert_far.ensures.from k h))

pub returns : goal.returns
returns c = on-ok c.insert_far.result _ _
    (λ i. subst (λ (ks : List ℕ). Inserts ks c.args.place (c.self.inside.near ++ c.insert_far.new.far.keys))
    c.self.view_is
    (joined-insert-far c.self.inside.near c.self.inside.far.keys c.self.invariant c.args.place
    c.insert_far.new.far.keys i))
    c.insert_far.ensures.inserts
