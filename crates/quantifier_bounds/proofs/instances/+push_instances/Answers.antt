use Rattle.std.proofs.Common.{◌≡◌, ◌<◌, ◌≤◌, List, [], ◌++◌, length, get_or, sym, ap, ◌∙◌, arith, subst}
use Rattle.kb_logic.specs.declared.elements.Elem.{Elem}
use Rattle.kb_logic.specs.Structures.{choices}
use Rattle.kb_logic.specs.Views.{formula_view}
use Rattle.plain_evaluation.specs.Environments.{env_view}
use Rattle.plain_evaluation.proofs.Folds.{after_front, fold_by_front, each_after, inner_fold, fold_next, fold_done}
use Rattle.certain_truth.specs.KnownArithmetic.{CertaintyFits}
use Rattle.quantifier_bounds.specs.Open.{with_open}
use Rattle.quantifier_bounds.proofs.instances.+push_instances.Goals as goal

pub push_instances-requires : goal.push_instances-requires
push_instances-requires t c =
    let k = c.args.question.known.now in
    let e = env_view c.args.env.now in
    let these = c.split_in.result.0.bounds.now in
    let others = c.split_in.result.1.now in
    let all = choices k.domains these in
    let i = c.loop-number.number in
    let slice : c.as_slice.result.now ≡ k.domains = c.as_slice.ensures ∙ c.domains.ensures.domains in
    let count : c.split_in.result.0.count ≡ length all =
    c.split_in.ensures.count ∙ ap (λ d. length (choices d these)) slice in
    let inner = env_view c.extend.result in
    let within : i < length all = subst (λ n. i < n) count c.loop-number-test.true in
    let is : inner ≡ e ++ get_or all i [] =
    c.extend.ensures ∙ ap (λ d. e ++ get_or (choices d these) i []) (c.split_in.ensures.domains ∙ slice) in (
      omega (arith, c.split_in.ensures.fewer),
      each_after k.domains c.args.bounds.now these others c.split_in.ensures.parts
          (CertaintyFits k (formula_view c.args.question.formula.now)) e inner i within is c.requires,
    )

pub loop-number-preserved : goal.loop-number-preserved
loop-number-preserved t c =
    let k = c.args.question.known.now in
    let e = env_view c.args.env.now in
    let these = c.split_in.result.0.bounds.now in
    let others = c.split_in.result.1.now in
    let all = choices k.domains these in
    let rest = choices k.domains others in
    let i = c.loop-number.number in
    let slice : c.as_slice.result.now ≡ k.domains = c.as_slice.ensures ∙ c.domains.ensures.domains in
    let count : c.split_in.result.0.count ≡ length all =
    c.split_in.ensures.count ∙ ap (λ d. length (choices d these)) slice in
    let inner = env_view c.extend.result in
    let within : i < length all = subst (λ n. i < n) count c.loop-number-test.true in
    let is : inner ≡ e ++ get_or all i [] =
    c.extend.ensures ∙ ap (λ d. e ++ get_or (choices d these) i []) (c.split_in.ensures.domains ∙ slice) in
    let G = λ (rows : List (List Elem)) (a : List Elem). with_open k (formula_view c.args.question.formula.now)
    c.args.question.first rows a in
    let F = λ (rows : List (List Elem)) (a : List Elem). G rows (e ++ a) in
    fold_next (after_front F rest) all i c.loop-number.out.items c.push_instances.new.out.items within
    (c.in_ok-push_instances.ensures ∙ inner_fold G rest e inner (get_or all i []) c.loop-number.out.items is)
    ∙ c.loop-number.invariant

pub returns : goal.returns
returns t c =
    let k = c.args.question.known.now in
    let e = env_view c.args.env.now in
    let these = c.split_in.result.0.bounds.now in
    let others = c.split_in.result.1.now in
    let all = choices k.domains these in
    let rest = choices k.domains others in
    let i = c.loop-number.number in
    let slice : c.as_slice.result.now ≡ k.domains = c.as_slice.ensures ∙ c.domains.ensures.domains in
    let count : c.split_in.result.0.count ≡ length all =
    c.split_in.ensures.count ∙ ap (λ d. length (choices d these)) slice in
    let G = λ (rows : List (List Elem)) (a : List Elem). with_open k (formula_view c.args.question.formula.now)
    c.args.question.first rows a in
    let F = λ (rows : List (List Elem)) (a : List Elem). G rows (e ++ a) in
    let past : length all ≤ i = subst (λ n. n ≤ i) count c.loop-number-test.false in
    sym (fold_by_front k.domains c.args.bounds.now these others c.split_in.ensures.parts F c.args.out.now.items
    ∙ sym c.loop-number.invariant ∙ fold_done (after_front F rest) all i c.loop-number.out.items past)
