use Rattle.std.proofs.Common.{◌<◌, false, length, get_or, refl, rules, subst, sym}
use Rattle.std.specs.Prelude.{IsTrue}
use Rattle.std.proofs.lemmas.Bool.{both_ways}
use Rattle.std.proofs.lemmas.List.{get_or_default}
use Rattle.kb_logic.specs.declared.elements.ExtInt.TheVariants.{NegInf}
use Rattle.ground_core.specs.declared.parts.TermBound.{TermBound}
use Rattle.lit_core.specs.Literals.{negated}
use Rattle.search_engine.specs.LitSets.{HasLit}
use Rattle.clause_learning.proofs.live_bounds.is_wider.Goals as goal

pub returns-then-has-3 : goal.returns-then-has-3
returns-then-has-3 c = λ lits set among _.
    let live = c.args.live.now in
    let lt : c.loop-other.other-index < length live = search rules in
    let d : TermBound = record {
      out = record { var = record { 0 = 0 }; positive = false };
      term = 0;
      below = NegInf;
    } in
    let tight : TermBound = get_or live c.loop-other.other-index d in record {
      among = among;
      open_yet = λ has. let no : IsTrue false = c.if-has-2.ensures.1 (subst (HasLit c.args.assumed.now)
          (sym c.negated.ensures) ((set (negated c.args.bound.out)).1 has)) in both_ways false refl no;
      tight = tight;
      tight_among = (c.loop-other.other-index, lt, get_or_default live c.loop-other.other-index tight d lt);
      tight_assumed = (set tight.out).0 (c.if-has-3.ensures.0 refl);
      follows = (c.if-other-bound.true, c.if-is_at_most.ensures refl);
    }
