use Rattle.std.proofs.Common.{◌≡◌, List, [], ◌++◌, length, fold, ap, ◌∙◌}
use Rattle.kb_logic.specs.declared.elements.Elem.{Elem}
use Rattle.kb_logic.specs.Structures.{choices}
use Rattle.kb_logic.specs.Views.{formula_view}
use Rattle.plain_evaluation.proofs.Envs.{env_view-Given}
use Rattle.quantifier_bounds.specs.Open.{with_open}
use Rattle.quantifier_bounds.proofs.Opened.{all_open}
use Rattle.quantifier_bounds.proofs.instances.open_instances.Goals as goal

pub push_instances-requires : goal.push_instances-requires
push_instances-requires c = rw env_view-Given c.requires

pub returns : goal.returns
returns c =
    let k = c.args.s.now in
    let f = formula_view c.args.f.now in
    let e = c.args.env.now in
    let cs = choices k.domains c.args.vars.now in
    let pushed : c.push_instances.new.out.items ≡ fold (λ (rows : List (List Elem)) (a : List Elem). with_open k f
    (length e) rows (e ++ a)) c.new-rows.result.items cs = rw env_view-Given at c.in_ok-push_instances.ensures in
    pushed
    ∙ ap (λ us. fold (λ (rows : List (List Elem)) (a : List Elem). with_open k f (length e) rows (e ++ a)) us cs)
    c.new-rows.ensures.items
    ∙ all_open k f e [] cs
