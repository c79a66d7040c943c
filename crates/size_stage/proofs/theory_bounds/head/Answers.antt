use Rattle.std.proofs.Common.{◌∙◌, ◌++◌, map, option_map, sym, ap}
use Rattle.std.specs.Prelude.{flat_map, option_to_list}
use Rattle.kb_logic.specs.Trees.{terms_of}
use Rattle.kb_logic.specs.Views.{term_view}
use Rattle.stage_definitions.specs.Sizes.{term_bounds, terms_bounds}
use Rattle.size_stage.specs.Ranges.{wide_at}
use Rattle.size_stage.proofs.Noting.{head_alone, head_valued}
use Rattle.size_stage.proofs.theory_bounds.head.Goals as goal

pub returns-in_ok-term-in-Some-clause-wide : goal.returns-in_ok-term-in-Some-clause-wide
returns-in_ok-term-in-Some-clause-wide c =
    let v = c.args.setting.vocab.now in
    let d = c.args.setting.domains.now in
    let scope = c.args.scope.now.items in
    let xs = c.args.wide.now.items in
    let ys = c.terms.new.wide.items in
    let args = map term_view c.args.of.now.args in
    let value = term_view c.in-Some.value in
    let first = c.in_ok-terms.ensures.wide
    ∙ ap (λ us. xs ++ wide_at (terms_bounds v d (terms_of (map term_view us)) scope)) c.as_slice.ensures in
    let second = c.in_ok-term-in-Some.ensures.wide
    ∙ ap (λ types. ys ++ wide_at (term_bounds v d value types)) c.in_ok-terms.ensures.scope in
    head_valued v d scope args xs ys first value c.term.new.wide.items second
    ∙ ap (λ o. xs ++ wide_at (flat_map (λ t. term_bounds v d t scope)
    (args ++ option_to_list (option_map term_view o)))) (sym c.in-Some.is)

pub returns-in-None-clause-wide : goal.returns-in-None-clause-wide
returns-in-None-clause-wide c =
    let v = c.args.setting.vocab.now in
    let d = c.args.setting.domains.now in
    let scope = c.args.scope.now.items in
    let xs = c.args.wide.now.items in
    let args = map term_view c.args.of.now.args in
    let first = c.in_ok-terms.ensures.wide
    ∙ ap (λ us. xs ++ wide_at (terms_bounds v d (terms_of (map term_view us)) scope)) c.as_slice.ensures in
    head_alone v d scope args xs c.terms.new.wide.items first
    ∙ ap (λ o. xs ++ wide_at (flat_map (λ t. term_bounds v d t scope)
    (args ++ option_to_list (option_map term_view o)))) (sym c.in-None.is)
