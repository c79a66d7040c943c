use Rattle.std.proofs.Common.{◌∷◌, ◌<◌, Bool, Option, List, All, length, sym, subst}
use Rattle.std.proofs.lemmas.List.Elements.{All-head, All-tail}
use Rattle.lit_core.specs.declared.literals.Lit.{Lit}
use Rattle.search_engine.specs.declared.engine.Engine.{Engine}
use Rattle.search_engine.proofs.BoundingFacts.{no-less}
use Rattle.search_engine.proofs.Explained.{explained-range}
use Rattle.search_engine.proofs.engine.Engine.force_if_left.Goals as goal

pub value-requires : goal.value-requires
value-requires c =
    let e : Engine = c.args.self.now in
    subst (λ (xs : List (Option Bool)). c.args.lit.var.0 < length xs) (sym c.assignment.ensures.value)
    (All-head (λ (l : Lit). l.var.0 < length e.store.trail.values) c.args.lit c.args.reasons.now
    (explained-range e c.requires.search (c.args.lit ∷ c.args.reasons.now) c.requires.explained))

pub are_false-requires : goal.are_false-requires
are_false-requires c =
    let e : Engine = c.args.self.now in
    subst (λ (xs : List (Option Bool)). All (λ (l : Lit). l.var.0 < length xs) c.args.reasons.now)
    (sym c.assignment-2.ensures.value)
    (All-tail (λ (l : Lit). l.var.0 < length e.store.trail.values) c.args.lit c.args.reasons.now
    (explained-range e c.requires.search (c.args.lit ∷ c.args.reasons.now) c.requires.explained))

pub returns-clause-stays : goal.returns-clause-stays
returns-clause-stays c = no-less c.force_by.result c.args.self.now c.force_by.new.self c.force_by.ensures.ahead
