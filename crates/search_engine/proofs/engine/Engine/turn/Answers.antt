use Rattle.std.proofs.Common.{List, refl, inl}
use Rattle.std.proofs.lemmas.Result.{IfOk-weaker}
use Rattle.lit_core.specs.declared.literals.Lit.{Lit}
use Rattle.search_engine.specs.declared.engine.Engine.{Engine}
use Rattle.search_engine.specs.declared.searching.Outcome.{Outcome}
use Rattle.search_engine.specs.Searching.{TurnEnds}
use Rattle.search_engine.proofs.DecideFacts.{with_store, same-but}
use Rattle.search_engine.proofs.TurnFacts.{settled-from, prop-ahead, prop-search, prop-stands, prop-turn}
use Rattle.search_engine.proofs.engine.Engine.turn.Goals as goal

pub infer-requires-clause-search : goal.infer-requires-clause-search
infer-requires-clause-search c = let e : Engine = c.args.self.now in prop-search e (with_store e c.propagate.new.self)
    (same-but e c.propagate.new.self) c.requires.search c.propagate.ensures.same c.propagate.ensures.laws

pub infer-requires-clause-turn : goal.infer-requires-clause-turn
infer-requires-clause-turn c = let e : Engine = c.args.self.now in prop-turn e (with_store e c.propagate.new.self)
    (same-but e c.propagate.new.self) c.requires.search c.propagate.ensures.same c.propagate.ensures.laws
    c.args.assume.now c.requires.turn

pub settle_within-requires-clause-search : goal.settle_within-requires-clause-search
settle_within-requires-clause-search c = let e : Engine = c.args.self.now in
    prop-search e (with_store e c.propagate.new.self) (same-but e c.propagate.new.self) c.requires.search
    c.propagate.ensures.same c.propagate.ensures.laws

pub settle_within-requires-clause-stands : goal.settle_within-requires-clause-stands
settle_within-requires-clause-stands c = let e : Engine = c.args.self.now in
    prop-stands e (with_store e c.propagate.new.self) (same-but e c.propagate.new.self) c.requires.search
    c.propagate.ensures.same c.propagate.ensures.laws 0 (inl c.requires.ahead)

pub infer-requires-clause-ahead : goal.infer-requires-clause-ahead
infer-requires-clause-ahead c = let e : Engine = c.args.self.now in prop-ahead e (with_store e c.propagate.new.self)
    (same-but e c.propagate.new.self) c.requires.search c.propagate.ensures.same c.propagate.ensures.laws 0
    c.requires.ahead

pub returns-in-None-clause-answer : goal.returns-in-None-clause-answer
returns-in-None-clause-answer c =
    let e : Engine = c.args.self.now in
    let m : Engine = with_store e c.propagate.new.self in
    let f : Engine = c.infer.new.self in
    let from = λ (x : Outcome) (h : TurnEnds c.args.assume.now c.args.most m f x). settled-from c.args.assume.now
    c.args.most e m f x refl (λ goal-of a. prop-ahead e m (same-but e c.propagate.new.self) c.requires.search
    c.propagate.ensures.same c.propagate.ensures.laws goal-of a) h in
    IfOk-weaker c.infer.result (TurnEnds c.args.assume.now c.args.most m f) (TurnEnds c.args.assume.now c.args.most e f)
    from c.infer.ensures.answer

pub returns-in-Some-clause-turn : goal.returns-in-Some-clause-turn
returns-in-Some-clause-turn c = let e : Engine = c.args.self.now in c.settle_within.ensures.turn c.args.assume.now
    (prop-turn e (with_store e c.propagate.new.self) (same-but e c.propagate.new.self) c.requires.search
    c.propagate.ensures.same c.propagate.ensures.laws c.args.assume.now c.requires.turn)

pub returns-in-Some-clause-answer : goal.returns-in-Some-clause-answer
returns-in-Some-clause-answer c =
    let e : Engine = c.args.self.now in
    let m : Engine = with_store e c.propagate.new.self in
    let f : Engine = c.settle_within.new.self in
    let from = λ (x : Outcome) (h : (assume : List Lit) → TurnEnds assume c.args.most m f x).
    settled-from c.args.assume.now c.args.most e m f x refl (λ goal-of a. prop-ahead e m
    (same-but e c.propagate.new.self) c.requires.search c.propagate.ensures.same c.propagate.ensures.laws goal-of a)
    (h c.args.assume.now) in
    IfOk-weaker c.settle_within.result (λ x. (assume : List Lit) → TurnEnds assume c.args.most m f x)
    (TurnEnds c.args.assume.now c.args.most e f) from c.settle_within.ensures.answer
