use Rattle.std.proofs.Common.{◌≡◌, ◌++◌, List, false, length, take, fold, sym, ap, subst, ◌∙◌, arith}
use Rattle.kb_logic.specs.declared.elements.Elem.{Elem}
use Rattle.plain_evaluation.specs.Environments.{env_view}
use Rattle.kb_logic.specs.Structures.{choices}
use Rattle.kb_logic.specs.Views.{formula_view}
use Rattle.def_ground.specs.Forms.{Parts}
use Rattle.ground_walk.specs.Steps.{MakesParts, open_parts, part_step}
use Rattle.ground_walk.proofs.SentenceSteps.{Begins, begins-itself, front-of, parts-begin}
use Rattle.ground_walk.proofs.sentences.push_some.Goals as goal

pub returns-clause-lits : goal.returns-clause-lits
returns-clause-lits c =
    let b = c.args.scope.base.now in
    let e = env_view c.args.scope.env.now in
    let f = formula_view c.args.binder.formula.now in
    let ls = c.args.lits.now.items in
    let xs = choices b.domains c.args.binder.bounds.now in
    let d = fold (λ (r : Parts) (x : List Elem). part_step b false c.args.sign f r (e ++ x))
    (open_parts ls c.args.problem.now) xs in
    let made : MakesParts d c.in_ok-settled.settled c.instances.new.lits.items c.instances.new.problem =
    c.in_ok-settled.ensures.made in
    let n : c.len-before.result ≡ length ls = omega (arith, c.len-before.ensures, c.args.lits.now.ok.0) in
    c.truncate.ensures.items ∙ ap (λ k. take k c.instances.new.lits.items) n
    ∙ front-of ls c.instances.new.lits.items
    (subst (Begins ls) (sym made.1) (parts-begin b false c.args.sign f e ls xs (open_parts ls c.args.problem.now)
    (begins-itself ls)))
