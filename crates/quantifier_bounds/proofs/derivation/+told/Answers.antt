use Rattle.std.proofs.Common.{◌≡◌, ◌<◌, ◌≤◌, List, [], ◌++◌, length, get_or, sym, ap, ◌∙◌, arith, subst}
use Rattle.kb_logic.specs.declared.elements.Elem.{Elem}
use Rattle.kb_logic.specs.Structures.{choices}
use Rattle.kb_logic.specs.Views.{rule_view}
use Rattle.partial_structures.specs.KnownAtoms.{atom_of}
use Rattle.partial_structures.specs.declared.truths.Truth.{Truth}
use Rattle.plain_evaluation.specs.Environments.{env_view}
use Rattle.plain_evaluation.proofs.Folds.{after_front, fold_by_front, each_after, inner_fold, fold_next, fold_done}
use Rattle.certain_truth.specs.Certainty.{either_certain}
use Rattle.quantifier_bounds.specs.Fits.{InstanceFits}
use Rattle.quantifier_bounds.specs.Rules.{instance_truth, IsStart}
use Rattle.quantifier_bounds.specs.declared.derivation.Start.TheVariants.{At, Nowhere}
use Rattle.quantifier_bounds.proofs.Fixed.{Says, depth_after, place_within, place_told, nowhere_told}
use Rattle.quantifier_bounds.proofs.derivation.+told.Goals as goal

pub each_told-instances-told-requires : goal.each_told-instances-told-requires
each_told-instances-told-requires t c =
    let k = c.args.known.now in
    let r = rule_view c.args.asked.rule.now in
    let e = env_view c.args.env.now in
    let these = c.front.result.0.bounds.now in
    let others = c.front.result.1.now in
    let all = choices k.domains these in
    let i = c.loop-number.number in
    let slice : c.as_slice-domains.result.now ≡ k.domains = c.as_slice-domains.ensures ∙ c.domains.ensures.domains in
    let count : c.front.result.0.count ≡ length all =
    c.front.ensures.count ∙ ap (λ d. length (choices d these)) slice in
    let inner = env_view c.extend.result in
    let within : i < length all = subst (λ n. i < n) count c.loop-number-test.true in
    let is : inner ≡ e ++ get_or all i [] =
    c.extend.ensures ∙ ap (λ d. e ++ get_or (choices d these) i []) (c.front.ensures.domains ∙ slice) in (
      omega (arith, c.front.ensures.fewer),
      (
        depth_after k.domains c.args.bounds.now these others e inner i (length r.vars) c.front.ensures.parts within is
            c.requires.depth,
        each_after k.domains c.args.bounds.now these others c.front.ensures.parts
            (InstanceFits k.symbols k.domains r) e inner i within is c.requires.fits,
      ),
    )

pub each_told-loop-number-preserved : goal.each_told-loop-number-preserved
each_told-loop-number-preserved t c =
    let k = c.args.known.now in
    let r = rule_view c.args.asked.rule.now in
    let a = atom_of c.args.asked.atom.now in
    let e = env_view c.args.env.now in
    let these = c.front.result.0.bounds.now in
    let others = c.front.result.1.now in
    let all = choices k.domains these in
    let rest = choices k.domains others in
    let i = c.loop-number.number in
    let slice : c.as_slice-domains.result.now ≡ k.domains = c.as_slice-domains.ensures ∙ c.domains.ensures.domains in
    let count : c.front.result.0.count ≡ length all =
    c.front.ensures.count ∙ ap (λ d. length (choices d these)) slice in
    let inner = env_view c.extend.result in
    let within : i < length all = subst (λ n. i < n) count c.loop-number-test.true in
    let is : inner ≡ e ++ get_or all i [] =
    c.extend.ensures ∙ ap (λ d. e ++ get_or (choices d these) i []) (c.front.ensures.domains ∙ slice) in
    let G = λ (u : Truth) (b : List Elem). either_certain u (instance_truth k r a b) in
    fold_next (after_front (Says k r a e) rest) all i c.loop-number.told c.instances-told.result within
    (c.instances-told.ensures ∙ inner_fold G rest e inner (get_or all i []) c.loop-number.told is)
    ∙ c.loop-number.invariant

pub each_told-returns : goal.each_told-returns
each_told-returns t c =
    let k = c.args.known.now in
    let r = rule_view c.args.asked.rule.now in
    let a = atom_of c.args.asked.atom.now in
    let e = env_view c.args.env.now in
    let these = c.front.result.0.bounds.now in
    let others = c.front.result.1.now in
    let all = choices k.domains these in
    let rest = choices k.domains others in
    let i = c.loop-number.number in
    let slice : c.as_slice-domains.result.now ≡ k.domains = c.as_slice-domains.ensures ∙ c.domains.ensures.domains in
    let count : c.front.result.0.count ≡ length all =
    c.front.ensures.count ∙ ap (λ d. length (choices d these)) slice in
    let past : length all ≤ i = subst (λ n. n ≤ i) count c.loop-number-test.false in
    sym (fold_by_front k.domains c.args.bounds.now these others c.front.ensures.parts (Says k r a e) c.args.before
    ∙ sym c.loop-number.invariant ∙ fold_done (after_front (Says k r a e) rest) all i c.loop-number.told past)

pub instances-extend-requires : goal.instances-extend-requires
instances-extend-requires t c =
    let k = c.args.known.now in
    let r = rule_view c.args.asked.rule.now in
    let a = atom_of c.args.asked.atom.now in
    let e = env_view c.args.env.now in
    let these = c.front.result.0.bounds.now in
    let others = c.front.result.1.now in
    let p = c.in-At.place in
    let slice : c.as_slice-domains.result.now ≡ k.domains = c.as_slice-domains.ensures ∙ c.domains.ensures.domains in
    let count : c.front.result.0.count ≡ length (choices k.domains these) =
    c.front.ensures.count ∙ ap (λ d. length (choices d these)) slice in
    let begin : IsStart k.domains r a c.args.bounds.now (At p) =
    subst (λ d. IsStart d r a c.args.bounds.now (At p)) slice
    (subst (IsStart c.as_slice-domains.result.now r a c.args.bounds.now) c.in-At.is c.begin.ensures) in
    subst (λ n. p < n) (sym count) (place_within k r a e c.args.bounds.now these others p c.front.ensures.parts
    c.front.ensures.fewer c.front.ensures.few begin)

pub instances-instances-requires : goal.instances-instances-requires
instances-instances-requires t c =
    let k = c.args.known.now in
    let r = rule_view c.args.asked.rule.now in
    let a = atom_of c.args.asked.atom.now in
    let e = env_view c.args.env.now in
    let these = c.front.result.0.bounds.now in
    let others = c.front.result.1.now in
    let all = choices k.domains these in
    let p = c.in-At.place in
    let slice : c.as_slice-domains.result.now ≡ k.domains = c.as_slice-domains.ensures ∙ c.domains.ensures.domains in
    let begin : IsStart k.domains r a c.args.bounds.now (At p) =
    subst (λ d. IsStart d r a c.args.bounds.now (At p)) slice
    (subst (IsStart c.as_slice-domains.result.now r a c.args.bounds.now) c.in-At.is c.begin.ensures) in
    let inner = env_view c.extend.result in
    let within : p < length all = place_within k r a e c.args.bounds.now these others p c.front.ensures.parts
    c.front.ensures.fewer c.front.ensures.few begin in
    let is : inner ≡ e ++ get_or all p [] =
    c.extend.ensures ∙ ap (λ d. e ++ get_or (choices d these) p []) (c.front.ensures.domains ∙ slice) in (
      omega (arith, c.front.ensures.fewer),
      (
        depth_after k.domains c.args.bounds.now these others e inner p (length r.vars) c.front.ensures.parts within is
            c.requires.depth,
        each_after k.domains c.args.bounds.now these others c.front.ensures.parts
            (InstanceFits k.symbols k.domains r) e inner p within is c.requires.fits,
      ),
    )

pub instances-returns-in-Nowhere : goal.instances-returns-in-Nowhere
instances-returns-in-Nowhere t c =
    let k = c.args.known.now in
    let r = rule_view c.args.asked.rule.now in
    let a = atom_of c.args.asked.atom.now in
    let slice : c.as_slice-domains.result.now ≡ k.domains = c.as_slice-domains.ensures ∙ c.domains.ensures.domains in
    nowhere_told k r a (env_view c.args.env.now) c.args.bounds.now c.args.before
    (sym c.is_empty.ensures ∙ c.if-is_empty.false) c.requires.depth
    (subst (λ d. IsStart d r a c.args.bounds.now Nowhere) slice
    (subst (IsStart c.as_slice-domains.result.now r a c.args.bounds.now) c.in-Nowhere.is c.begin.ensures))

pub instances-returns-in-At : goal.instances-returns-in-At
instances-returns-in-At t c =
    let k = c.args.known.now in
    let r = rule_view c.args.asked.rule.now in
    let a = atom_of c.args.asked.atom.now in
    let e = env_view c.args.env.now in
    let these = c.front.result.0.bounds.now in
    let others = c.front.result.1.now in
    let p = c.in-At.place in
    let slice : c.as_slice-domains.result.now ≡ k.domains = c.as_slice-domains.ensures ∙ c.domains.ensures.domains in
    let begin : IsStart k.domains r a c.args.bounds.now (At p) =
    subst (λ d. IsStart d r a c.args.bounds.now (At p)) slice
    (subst (IsStart c.as_slice-domains.result.now r a c.args.bounds.now) c.in-At.is c.begin.ensures) in
    let inner = env_view c.extend.result in
    let is : inner ≡ e ++ get_or (choices k.domains these) p [] =
    c.extend.ensures ∙ ap (λ d. e ++ get_or (choices d these) p []) (c.front.ensures.domains ∙ slice) in
    place_told k r a e c.args.bounds.now these others p inner c.args.before c.instances.result c.requires.depth
    c.domains.ensures.distinct c.front.ensures.parts c.front.ensures.fewer c.front.ensures.few begin is
    c.instances.ensures
