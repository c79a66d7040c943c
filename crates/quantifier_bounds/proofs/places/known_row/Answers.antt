use Rattle.std.proofs.Common.{◌<◌, ◌≤◌, ◌+◌, ◌∷◌, map, drop, sym, ap, ◌∙◌, subst, get_or}
use Rattle.std.proofs.lemmas.List.{at_drop_more, at_drop_all, length-map}
use Rattle.kb_logic.specs.Trees.{terms_of}
use Rattle.kb_logic.specs.Views.{term_view}
use Rattle.plain_evaluation.specs.Environments.{env_view}
use Rattle.certain_truth.specs.KnownArithmetic.{ValuesFit}
use Rattle.quantifier_bounds.proofs.Rows.{row_short, row_more, row_none, row_done, RowSoFar}
use Rattle.quantifier_bounds.specs.Places.{IsKnownElement}
use Rattle.kb_logic.specs.Structures.{domain_at}
use Rattle.certain_truth.specs.Certainty.{known_value}
use Rattle.quantifier_bounds.proofs.places.known_row.Goals as goal

pub returns-then-types-terms : goal.returns-then-types-terms
returns-then-types-terms c =
    row_short c.args.known.now (env_view c.args.env.now) c.args.types.now (map term_view c.args.terms.now)
    (λ same. c.if-types-terms.true (same ∙ length-map c.args.terms.now term_view))

pub returns-in-None : goal.returns-in-None
returns-in-None c =
    let ts = c.args.terms.now in
    let types = c.args.types.now in
    let at = c.loop-at.at in
    let x = c.index-terms-at.result in
    row_none c.args.known.now (env_view c.args.env.now) types (drop at types) (drop (at + 1) types) (map term_view ts)
    (map term_view (drop at ts)) (map term_view (drop (at + 1) ts)) (get_or types at 0) (term_view x) c.loop-at.row
    (at_drop_more (λ us. us) types at 0 (subst (λ n. at < n) (sym c.if-types-terms.false) c.loop-at-test.true))
    (at_drop_more (map term_view) ts at x c.loop-at-test.true
    ∙ ap (λ y. term_view y ∷ map term_view (drop (at + 1) ts)) (sym c.index-terms-at.is))
    c.loop-at.invariant.row
    (subst (IsKnownElement (domain_at c.args.known.now.domains (get_or types at 0))
    (known_value c.args.known.now (term_view x) (env_view c.args.env.now))) c.in-None.is c.in_ok-elem.ensures)

pub loop-at-preserved : goal.loop-at-preserved
loop-at-preserved c =
    let ts = c.args.terms.now in
    let types = c.args.types.now in
    let at = c.loop-at.at in
    let x = c.index-terms-at.result in
    let e = env_view c.args.env.now in
    record {
      fits = (subst (λ us. ValuesFit c.args.known.now (terms_of us) e)
          (at_drop_more (map term_view) ts at x c.loop-at-test.true) c.loop-at.invariant.fits).1;
      row = subst (λ r. RowSoFar c.args.known.now e types (map term_view ts)
          (drop (at + 1) types) (map term_view (drop (at + 1) ts)) r) (sym c.in_ok-push-in-Some.ensures.ok)
          (row_more c.args.known.now e types (drop at types) (drop (at + 1) types) (map term_view ts)
          (map term_view (drop at ts)) (map term_view (drop (at + 1) ts)) (get_or types at 0) (term_view x)
          c.loop-at.row
          (at_drop_more (λ us. us) types at 0 (subst (λ n. at < n) (sym c.if-types-terms.false) c.loop-at-test.true))
          (at_drop_more (map term_view) ts at x c.loop-at-test.true
          ∙ ap (λ y. term_view y ∷ map term_view (drop (at + 1) ts)) (sym c.index-terms-at.is))
          c.loop-at.invariant.row c.in-Some.elem
          (subst (IsKnownElement (domain_at c.args.known.now.domains (get_or types at 0))
          (known_value c.args.known.now (term_view x) e)) c.in-Some.is c.in_ok-elem.ensures));
    }

pub returns : goal.returns
returns c =
    row_done c.args.known.now (env_view c.args.env.now) c.args.types.now (drop c.loop-at.at c.args.types.now)
    (map term_view c.args.terms.now) (map term_view (drop c.loop-at.at c.args.terms.now)) c.loop-at.row
    (at_drop_all (λ us. us) c.args.types.now c.loop-at.at (subst (λ n. n ≤ c.loop-at.at) (sym c.if-types-terms.false)
    c.loop-at-test.false))
    (at_drop_all (map term_view) c.args.terms.now c.loop-at.at c.loop-at-test.false) c.loop-at.invariant.row
