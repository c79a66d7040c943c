use Rattle.std.proofs.Common.{◌≡◌, ◌+◌, ◌∷◌, ◌∙◌, List, sym, subst, drop, map, slice_get, Some}
use Rattle.std.specs.List.{AllByRecursion, Contains}
use Rattle.kb_logic.specs.declared.elements.Elem.{Elem}
use Rattle.kb_logic.specs.Structures.{tuples_of}
use Rattle.kb_logic.specs.Views.{rule_view}
use Rattle.kb_logic.specs.KnownAtoms.{KnownAtoms}
use Rattle.quantifier_bounds.specs.Rules.{definition_of, TupleDerives}
use Rattle.quantifier_bounds.proofs.Orders.{ordered, ordered_all, nth_drop, all_taken}
use Rattle.quantifier_bounds.proofs.Steps.{SoFar, done}
use Rattle.quantifier_bounds.proofs.Values.{Every, every_start, every_turn}
use Rattle.quantifier_bounds.proofs.Defined.{same_rules}
use Rattle.quantifier_bounds.proofs.definitions.define_tuples.Goals as goal

pub loop-turn-init : goal.loop-turn-init
loop-turn-init c =
    let k = c.args.known.now in
    let falling = c.args.setting.falling in
    let xs = c.args.tuples.now in
    let D = λ (y : List Elem) (q : KnownAtoms). TupleDerives q (definition_of c.args.rules.now) c.args.symbol
    c.args.declared.now.value y in
    record {
      domains = c.requires.domains;
      there = c.requires.there;
      tuples = ordered_all (Contains (tuples_of k.domains c.args.declared.now.args)) falling xs c.requires.tuples;
      fits = c.requires.fits;
      so_far = every_start D falling k xs;
    }

pub define_tuple-requires-clause-tuple : goal.define_tuple-requires-clause-tuple
define_tuple-requires-clause-tuple c =
    let now = c.loop-turn.known in
    let list = ordered c.args.setting.falling c.args.tuples.now in
    let i = c.loop-turn.turn in
    let split : drop i list ≡ c.index-tuples-at.result ∷ drop (i + 1) list =
    nth_drop c.args.setting.falling c.args.tuples.now i c.nth-at.result c.index-tuples-at.result c.loop-turn-test.true
    c.nth-at.ensures.nth c.index-tuples-at.is in
    (subst (AllByRecursion (Contains (tuples_of now.domains c.args.declared.now.args))) split
    c.loop-turn.invariant.tuples).0

pub loop-turn-preserved : goal.loop-turn-preserved
loop-turn-preserved c =
    let first = c.args.known.now in
    let now = c.loop-turn.known in
    let then' = c.define_tuple.new.known in
    let xs = c.args.tuples.now in
    let falling = c.args.setting.falling in
    let list = ordered falling xs in
    let i = c.loop-turn.turn in
    let x = c.index-tuples-at.result in
    let s = c.args.symbol in
    let declared = c.args.declared.now in
    let rs = map rule_view c.args.rules.now in
    let split : drop i list ≡ x ∷ drop (i + 1) list =
    nth_drop falling xs i c.nth-at.result x c.loop-turn-test.true c.nth-at.ensures.nth c.index-tuples-at.is in
    let D = λ (y : List Elem) (q : KnownAtoms). TupleDerives q (definition_of c.args.rules.now) s declared.value y in
    let step = c.in_ok-more.ensures in
    record {
      domains = c.loop-turn.invariant.domains ∙ sym step.more.domains;
      there = subst (λ ss. slice_get ss s ≡ Some declared) (sym step.more.symbols) c.loop-turn.invariant.there;
      tuples = subst (λ ds. AllByRecursion (Contains (tuples_of ds declared.args)) (drop (i + 1) list))
          (sym step.more.domains)
          (subst (AllByRecursion (Contains (tuples_of now.domains declared.args))) split
          c.loop-turn.invariant.tuples).1;
      fits = same_rules now then' rs step.more.symbols step.more.domains c.loop-turn.invariant.fits;
      so_far = subst (λ b. SoFar first then' b (Every D xs) (Every D (drop (i + 1) list)))
          (sym c.either-changed.ensures)
          (every_turn D first now c.loop-turn.changed xs (drop i list) (drop (i + 1) list) x split
          c.loop-turn.invariant.so_far then' c.in_ok-more.more step);
    }

pub returns : goal.returns
returns c =
    let now = c.loop-turn.known in
    let xs = c.args.tuples.now in
    let falling = c.args.setting.falling in
    let i = c.loop-turn.turn in
    let D = λ (y : List Elem) (q : KnownAtoms). TupleDerives q (definition_of c.args.rules.now) c.args.symbol
    c.args.declared.now.value y in
    done c.args.known.now now c.loop-turn.changed (Every D xs) (Every D (drop i (ordered falling xs)))
    c.loop-turn.invariant.so_far (all_taken (λ y. D y now) falling xs i c.loop-turn-test.false)
