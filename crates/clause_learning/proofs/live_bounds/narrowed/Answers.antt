use Rattle.std.proofs.Common.{◌≡◌, ◌<◌, ◌+◌, ◌++◌, ◌∷◌, [], ℕ, false, All, length, take, get_or, sym, subst}
use Rattle.std.proofs.Common.{arith, rules}
use Rattle.std.proofs.lemmas.List.{take_more, take_all}
use Rattle.std.proofs.lemmas.List.Elements.{All-nil, All-push, All-weaker}
use Rattle.kb_logic.specs.declared.elements.ExtInt.TheVariants.{NegInf}
use Rattle.ground_core.specs.declared.parts.TermBound.{TermBound}
use Rattle.search_engine.specs.LitSets.{HasLit}
use Rattle.clause_learning.proofs.LiveFacts.{narrowed-if-ok}
use Rattle.clause_learning.proofs.live_bounds.narrowed.Goals as goal

pub loop-bound-init : goal.loop-bound-init
loop-bound-init c = (
  λ m has. (c.in_ok-blamed.ensures m).1 has,
  All-nil (λ (b : TermBound). HasLit c.in_ok-blamed.blamed
      b.out),
)

pub loop-bound-preserved : goal.loop-bound-preserved
loop-bound-preserved c =
    let live = c.args.live.now in
    let i : ℕ = c.loop-bound.bound-index in
    let lt : i < length live = search rules in
    let d : TermBound = record {
      out = record { var = record { 0 = 0 }; positive = false };
      term = 0;
      below = NegInf;
    } in
    let next : take (i + 1) live ≡ take i live ++ get_or live i d ∷ [] = take_more live i d lt in (
      λ m has. c.in_ok-insert.ensures.kept m (c.loop-bound.invariant.0 m has),
      subst (All (λ (b : TermBound). HasLit c.insert.new.self b.out)) (sym next)
          (All-push (λ (b : TermBound). HasLit c.insert.new.self b.out) (take i live) (get_or live i d)
          (All-weaker (λ (b : TermBound). HasLit c.loop-bound.blamed b.out)
          (λ (b : TermBound). HasLit c.insert.new.self b.out) (λ b h. c.in_ok-insert.ensures.kept b.out h)
          (take i live) c.loop-bound.invariant.1) c.in_ok-insert.ensures.new),
    )

pub returns : goal.returns
returns c =
    let live = c.args.live.now in
    narrowed-if-ok live c.args.assume.now c.args.core.now c.loop-bound.blamed c.chosen.result c.loop-bound.invariant.0
    (subst (All (λ (b : TermBound). HasLit c.loop-bound.blamed b.out)) (take_all c.loop-bound.bound-index live
    (omega (arith, c.loop-bound-test.false))) c.loop-bound.invariant.1) c.chosen.ensures
