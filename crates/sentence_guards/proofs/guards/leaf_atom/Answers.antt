use Rattle.std.proofs.Common.{map, sym, subst}
use Rattle.kb_logic.specs.Trees.{atom, terms_of}
use Rattle.kb_logic.specs.Views.{term_view}
use Rattle.sentence_guards.specs.declared.guards.Guard.{Guard}
use Rattle.sentence_guards.specs.declared.guards.Part.TheVariants.{Found}
use Rattle.sentence_guards.specs.Guards.{IsPart}
use Rattle.sentence_guards.proofs.GuardSteps.{atom-found, atom-quiet}
use Rattle.sentence_guards.proofs.guards.leaf_atom.Goals as goal

pub returns-then-sign : goal.returns-then-sign
returns-then-sign c =
    λ b. atom-quiet b c.args.sign c.args.symbol (terms_of (map term_view c.args.args.now)) c.requires

pub returns-then-passes : goal.returns-then-passes
returns-then-passes c =
    λ b. atom-quiet b c.args.sign c.args.symbol (terms_of (map term_view c.args.args.now)) c.requires

pub returns : goal.returns
returns c =
    let ts = terms_of (map term_view c.args.args.now) in
    let g : Guard = record { symbol = c.args.symbol; args = c.args.args } in
    λ b. subst (λ v. IsPart b v (atom c.args.symbol ts) (Found g)) (sym c.if-sign.false) (atom-found b g c.requires)
