use Rattle.std.proofs.Common.{◌<◌, ℕ, false, length, get_or, refl, subst, sym, rules, All}
use Rattle.std.proofs.lemmas.List.{get_or_default}
use Rattle.std.proofs.lemmas.List.Elements.{All-push}
use Rattle.kb_logic.specs.declared.elements.ExtInt.TheVariants.{NegInf}
use Rattle.ground_core.specs.declared.parts.TermBound.{TermBound}
use Rattle.clause_learning.specs.LiveBounds.{IsOutputOfWider}
use Rattle.clause_learning.proofs.live_bounds.outputs_of_wider.Goals as goal

pub loop-bound-preserved : goal.loop-bound-preserved
loop-bound-preserved c =
    let live = c.args.live.now in
    let assume = c.args.assume.now in
    let i : ℕ = c.loop-bound.bound-index in
    let lt : i < length live = search rules in
    let d : TermBound = record {
      out = record { var = record { 0 = 0 }; positive = false };
      term = 0;
      below = NegInf;
    } in
    let b : TermBound = get_or live i d in (
      c.loop-bound.invariant.0,
      subst (All (IsOutputOfWider live assume)) (sym c.in_ok-push.ensures.items)
          (All-push (IsOutputOfWider live assume) c.loop-bound.more.items b.out c.loop-bound.invariant.1 (
            b,
            refl,
            c.if-not-is_wider.ensures assume c.loop-bound.invariant.0 (i, lt, get_or_default live i b d lt) refl,
          )),
    )
