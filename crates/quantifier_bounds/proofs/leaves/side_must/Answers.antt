use Rattle.std.proofs.Common.{◌≡◌, map, Some, option_map, subst, sym, ap, ◌∙◌}
use Rattle.kb_logic.specs.Trees.{application, terms_of}
use Rattle.kb_logic.specs.Views.{term_view}
use Rattle.plain_evaluation.specs.Environments.{env_view}
use Rattle.partial_structures.specs.KnownAtoms.{atom_of}
use Rattle.bound_laws.specs.Closures.{SideHas}
use Rattle.quantifier_bounds.specs.Steps.{Narrows}
use Rattle.quantifier_bounds.proofs.Naming.{gives_has, term_view-Apply}
use Rattle.quantifier_bounds.proofs.leaves.side_must.Goals as goal

pub returns-in_ok-atom-in-Apply : goal.returns-in_ok-atom-in-Apply
returns-in_ok-atom-in-Apply c =
    let k = c.args.known.now in
    let e = env_view c.args.env.now in
    let y = term_view c.args.other.now in
    let ts = terms_of (map term_view c.deref.result.now) in
    let is : term_view c.args.side.now ≡ application c.in-Apply.symbol ts =
    ap term_view c.in-Apply.is ∙ term_view-Apply c.in-Apply.symbol c.in-Apply.args
    ∙ ap (λ us. application c.in-Apply.symbol (terms_of (map term_view us))) (sym c.deref.ensures.value) in
    subst (λ x. Narrows k c.give.new.known c.give.result (λ q. SideHas q c.args.v x y e)) (sym is)
    (gives_has k c.in-Apply.symbol ts (Some y) e c.args.v (option_map atom_of c.in_ok-atom-in-Apply.atom)
    c.give.new.known c.give.result c.in_ok-atom-in-Apply.ensures c.give.ensures)
