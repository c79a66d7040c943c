use Rattle.std.proofs.Common.{◌≡◌, ◌+◌, ◌∷◌, ◌∙◌, map, drop, fold, sym, ap, subst}
use Rattle.std.specs.List.{AllByRecursion}
use Rattle.std.proofs.lemmas.List.{at_drop_more}
use Rattle.kb_logic.specs.Views.{rule_view}
use Rattle.partial_structures.specs.KnownAtoms.{atom_of}
use Rattle.quantifier_bounds.specs.Fits.{RuleFits}
use Rattle.quantifier_bounds.specs.Rules.{told_by}
use Rattle.quantifier_bounds.proofs.derivation.derived.Goals as goal

pub told_more-told-requires : goal.told_more-told-requires
told_more-told-requires c =
    let k = c.args.known.now in
    let rs = c.args.rules.now in
    let at = c.loop-at.at in
    let x = c.index-rules-at.result in
    let split : map rule_view (drop at rs) ≡ rule_view x ∷ map rule_view (drop (at + 1) rs) =
    at_drop_more (map rule_view) rs at x c.loop-at-test.true
    ∙ ap (λ y. rule_view y ∷ map rule_view (drop (at + 1) rs)) (sym c.index-rules-at.is) in
    (subst (AllByRecursion (RuleFits k.symbols k.domains)) split c.loop-at.invariant.fits).0

pub loop-at-preserved : goal.loop-at-preserved
loop-at-preserved c =
    let k = c.args.known.now in
    let a = atom_of c.args.atom.now in
    let rs = c.args.rules.now in
    let at = c.loop-at.at in
    let x = c.index-rules-at.result in
    let next = map rule_view (drop (at + 1) rs) in
    let split : map rule_view (drop at rs) ≡ rule_view x ∷ next =
    at_drop_more (map rule_view) rs at x c.loop-at-test.true
    ∙ ap (λ y. rule_view y ∷ map rule_view (drop (at + 1) rs)) (sym c.index-rules-at.is) in
    record {
      fits = (subst (AllByRecursion (RuleFits k.symbols k.domains)) split c.loop-at.invariant.fits).1;
      rest = ap (λ u. fold (told_by k a) u next) c.told_more-told.ensures
          ∙ sym (ap (fold (told_by k a) c.loop-at.told) split) ∙ c.loop-at.invariant.rest;
    }
