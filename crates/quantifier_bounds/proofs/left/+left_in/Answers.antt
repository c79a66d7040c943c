use Rattle.std.proofs.Common.{◌≡◌, ◌<◌, ◌≤◌, List, [], ◌++◌, length, get_or, drop, true, false, sym, ap, ◌∙◌, refl}
use Rattle.std.proofs.Common.{arith, Bool, subst}
use Rattle.kb_logic.specs.declared.elements.Elem.{Elem}
use Rattle.kb_logic.specs.Structures.{choices}
use Rattle.kb_logic.specs.Views.{formula_view}
use Rattle.plain_evaluation.specs.Environments.{env_view}
use Rattle.plain_evaluation.proofs.Folds.{after_front, fold_by_front, each_after, inner_fold, fold_next, fold_done}
use Rattle.plain_evaluation.proofs.Folds.{fold_stays}
use Rattle.certain_truth.specs.Certainty.{certain_truth}
use Rattle.bound_laws.specs.Closures.{opposes}
use Rattle.quantifier_bounds.specs.Fits.{Fits}
use Rattle.quantifier_bounds.specs.Walks.{left_with}
use Rattle.quantifier_bounds.specs.declared.left.Left.{Left}
use Rattle.quantifier_bounds.specs.declared.left.Left.TheVariants.{Many}
use Rattle.quantifier_bounds.proofs.left.+left_in.Goals as goal

many_stay : (l : Left) (b : Bool) → l ≡ Many → left_with l b ≡ l
many_stay l true h = refl
many_stay l false h = ap (λ u. left_with u false) h ∙ sym h

pub left_in-left-requires : goal.left_in-left-requires
left_in-left-requires t c =
    let k = c.args.known.now in
    let e = env_view c.args.env.now in
    let these = c.split_in.result.0.bounds.now in
    let others = c.split_in.result.1.now in
    let all = choices k.domains these in
    let rest = choices k.domains others in
    let i = c.loop-number.number in
    let slice : c.as_slice.result.now ≡ k.domains = c.as_slice.ensures ∙ c.domains.ensures.domains in
    let count : c.split_in.result.0.count ≡ length all =
    c.split_in.ensures.count ∙ ap (λ d. length (choices d these)) slice in
    let inner = env_view c.extend.result in
    let within : i < length all = subst (λ n. i < n) count c.loop-number-test.true in
    let is : inner ≡ e ++ get_or all i [] =
    c.extend.ensures ∙ ap (λ d. e ++ get_or (choices d these) i []) (c.split_in.ensures.domains ∙ slice) in (
      omega (arith, c.split_in.ensures.fewer),
      each_after k.domains c.args.bounds.now these others c.split_in.ensures.parts
          (Fits k.symbols k.domains (formula_view c.args.formula.now)) e inner i within is c.requires,
    )

pub loop-number-preserved : goal.loop-number-preserved
loop-number-preserved t c =
    let k = c.args.known.now in
    let e = env_view c.args.env.now in
    let these = c.split_in.result.0.bounds.now in
    let others = c.split_in.result.1.now in
    let all = choices k.domains these in
    let rest = choices k.domains others in
    let i = c.loop-number.number in
    let slice : c.as_slice.result.now ≡ k.domains = c.as_slice.ensures ∙ c.domains.ensures.domains in
    let count : c.split_in.result.0.count ≡ length all =
    c.split_in.ensures.count ∙ ap (λ d. length (choices d these)) slice in
    let inner = env_view c.extend.result in
    let within : i < length all = subst (λ n. i < n) count c.loop-number-test.true in
    let is : inner ≡ e ++ get_or all i [] =
    c.extend.ensures ∙ ap (λ d. e ++ get_or (choices d these) i []) (c.split_in.ensures.domains ∙ slice) in
    let G = λ (u : Left) (a : List Elem). left_with u (opposes c.args.v (certain_truth k (formula_view
    c.args.formula.now) a)) in
    let F = λ (u : Left) (a : List Elem). G u (e ++ a) in
    fold_next (after_front F rest) all i c.loop-number.left c.left_in-left.result within
    (c.left_in-left.ensures ∙ inner_fold G rest e inner (get_or all i []) c.loop-number.left is)
    ∙ c.loop-number.invariant

pub returns : goal.returns
returns t c =
    let k = c.args.known.now in
    let e = env_view c.args.env.now in
    let these = c.split_in.result.0.bounds.now in
    let others = c.split_in.result.1.now in
    let all = choices k.domains these in
    let rest = choices k.domains others in
    let i = c.loop-number.number in
    let slice : c.as_slice.result.now ≡ k.domains = c.as_slice.ensures ∙ c.domains.ensures.domains in
    let count : c.split_in.result.0.count ≡ length all =
    c.split_in.ensures.count ∙ ap (λ d. length (choices d these)) slice in
    let G = λ (u : Left) (a : List Elem). left_with u (opposes c.args.v (certain_truth k (formula_view
    c.args.formula.now) a)) in
    let F = λ (u : Left) (a : List Elem). G u (e ++ a) in
    let past : length all ≤ i = subst (λ n. n ≤ i) count c.loop-number-test.false in
    sym (fold_by_front k.domains c.args.bounds.now these others c.split_in.ensures.parts F c.args.before
    ∙ sym c.loop-number.invariant ∙ fold_done (after_front F rest) all i c.loop-number.left past)

pub returns-then-are_many : goal.returns-then-are_many
returns-then-are_many t c =
    let k = c.args.known.now in
    let e = env_view c.args.env.now in
    let these = c.split_in.result.0.bounds.now in
    let others = c.split_in.result.1.now in
    let all = choices k.domains these in
    let rest = choices k.domains others in
    let i = c.loop-number.number in
    let slice : c.as_slice.result.now ≡ k.domains = c.as_slice.ensures ∙ c.domains.ensures.domains in
    let count : c.split_in.result.0.count ≡ length all =
    c.split_in.ensures.count ∙ ap (λ d. length (choices d these)) slice in
    let G = λ (u : Left) (a : List Elem). left_with u (opposes c.args.v (certain_truth k (formula_view
    c.args.formula.now) a)) in
    let F = λ (u : Left) (a : List Elem). G u (e ++ a) in
    let many : c.loop-number.left ≡ Many = c.are_many.ensures c.if-are_many.true in
    sym (fold_by_front k.domains c.args.bounds.now these others c.split_in.ensures.parts F c.args.before
    ∙ sym c.loop-number.invariant
    ∙ fold_stays (after_front F rest) (drop i all) c.loop-number.left
    (λ a. fold_stays (λ u b. F u (a ++ b)) rest c.loop-number.left
    (λ b. many_stay c.loop-number.left (opposes c.args.v (certain_truth k (formula_view c.args.formula.now) (e ++ (a ++
    b)))) many)))
