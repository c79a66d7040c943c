use Rattle.std.proofs.Common.{ℕ, List, Contains, sym, subst, inl, inr, ⊎_elim}
use Rattle.std.proofs.lemmas.Option.{slice_get_within}
use Rattle.lit_core.proofs.LiteralFacts.{nothing_in_none}
use Rattle.clause_store.specs.StoreState.{StoreState}
use Rattle.conflict_analysis.specs.Shortening.{IsLeftOrKept, IsShort}
use Rattle.conflict_analysis.proofs.Shortened.{drop-back, drop-cases, drop-not, has-next, keep-above, left-old}
use Rattle.conflict_analysis.proofs.Shortened.{short-drop, short-keep, short-same}
use Rattle.conflict_analysis.proofs.shortening.shorten.Goals as goal

pub loop-next-init : goal.loop-next-init
loop-next-init c =
    let kept : List ℕ = c.new-kept.result in
    let none : (k : ℕ) → Contains kept k → ⊥ = λ k has. nothing_in_none k
    (subst (λ (ks : List ℕ). Contains ks k) c.new-kept.ensures has) in
    record {
      short = short-same c.args.store.now c.args.place (Contains c.args.lower)
          (IsLeftOrKept c.args.lower kept) c.args.hints.now.items (λ k h. inl h)
          (λ k way. ⊎_elim (λ l. l) (λ n. absurd (none k n)) way) c.requires.long;
      above = λ k j has _. absurd (none k has);
    }

pub redundant_by-requires-clause-place : goal.redundant_by-requires-clause-place
redundant_by-requires-clause-place c =
    let has = has-next c.loop-next.left c.pop_last.new.self c.loop-next.kept c.in-Some.next
    c.in-Some.ensures.some in
    let l = c.loop-next.invariant.short.lower c.in-Some.next (inl has) in
    slice_get_within c.args.store.now.trail.steps c.in-Some.next l.0 l.1

pub loop-next-preserved-in-Some-redundant_by : goal.loop-next-preserved-in-Some-redundant_by
loop-next-preserved-in-Some-redundant_by c =
    let s : StoreState = c.args.store.now in
    let old : List ℕ = c.loop-next.left in
    let left : List ℕ = c.pop_last.new.self in
    let kept : List ℕ = c.loop-next.kept in
    let next : ℕ = c.in-Some.next in
    let pops = c.in-Some.ensures.some in
    let inv = c.loop-next.invariant in
    record {
      short = subst (λ (ids : List ℕ). IsShort s c.args.place (IsLeftOrKept left kept) ids)
          (sym c.in_ok-push.ensures.items)
          (short-drop s c.requires.laws c.args.place next (IsLeftOrKept old kept) (IsLeftOrKept left kept)
          c.loop-next.hints.items c.in-Some-redundant_by.reason left (drop-cases old left kept next pops)
          (drop-back old left kept next pops) (inl (has-next old left kept next pops))
          (drop-not old left kept next pops inv.above) (λ k l. inl l) c.in-Some-redundant_by.ensures inv.short);
      above = λ k j has b. inv.above k j has (left-old old left kept next pops j b);
    }

pub loop-next-preserved : goal.loop-next-preserved
loop-next-preserved c =
    let old : List ℕ = c.loop-next.left in
    let left : List ℕ = c.pop_last.new.self in
    let kept : List ℕ = c.loop-next.kept in
    let next : ℕ = c.in-Some.next in
    let pops = c.in-Some.ensures.some in
    let inv = c.loop-next.invariant in
    record {
      short = short-keep old left kept next pops c.args.store.now c.args.place c.loop-next.hints.items
          c.insert.new.self c.in_ok-insert.ensures inv.short;
      above = keep-above old left kept next pops c.insert.new.self c.in_ok-insert.ensures inv.above;
    }

pub returns : goal.returns
returns c =
    let left : List ℕ = c.loop-next.left in
    let kept : List ℕ = c.loop-next.kept in
    short-same c.args.store.now c.args.place (IsLeftOrKept left kept) (Contains kept) c.loop-next.hints.items
    (λ k way. ⊎_elim (λ l. absurd (nothing_in_none k (subst (λ (ks : List ℕ). Contains ks k) c.in_default.ensures.none.0
    l))) (λ h. h) way)
    (λ k h. inr h)
    c.loop-next.invariant.short
