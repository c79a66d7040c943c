use Rattle.std.proofs.Common.{◌≡◌, ◌∷◌, ◌++◌, ◌∙◌, [], map, arith, fold, drop, length}
use Rattle.std.proofs.lemmas.Grind.{common_steps}
use Rattle.grammar.specs.View.{var_view, vars_view}
use Rattle.stage_definitions.specs.NamedViews as named
use Rattle.stage_definitions.specs.NamesStage.{name_noted}
use Rattle.stage_definitions.specs.Numbering.{named_var}
use Rattle.stage_definitions.specs.Uses.{bound, position_uses, uses_of_vars, var_name, var_type}
use Rattle.formula_names.specs.Steps.{names_known}
use Rattle.formula_names.specs.Tails.{tail_var}
use Rattle.formula_names.proofs.Chains.{binders_vars, binders_scope, binders_noted}
use Rattle.formula_names.proofs.resolver.Resolver.add_binders.Goals as goal

pub returns : goal.returns
returns c =
    let outer : c.len-outer.result ≡ length c.args.self.now.scope = c.len-outer.ensures in
    let one : map named.var_view c.push.new.self.items ≡ map named.var_view c.args.named.now.items ++ named_var
    (names_known c.args.self.now) (var_view c.args.vars.now.first) ∷ [] = grind (arith, common_steps) in
    let first : c.bind.new.self.earliest.first ≡ fold (name_noted (names_known c.args.self.now))
    c.args.self.now.earliest.first (bound (drop (length c.args.self.now.scope) c.args.self.now.scope)
    (var_name (var_view c.args.vars.now.first)) ∷ position_uses (var_type (var_view c.args.vars.now.first))) =
    rw outer at c.in_ok-bind.ensures.noted in
    let further : c.bind_more.new.self.earliest.first ≡ fold (name_noted (names_known c.args.self.now))
    c.bind.new.self.earliest.first (uses_of_vars (drop (length c.args.self.now.scope) c.bind.new.self.scope)
    (map tail_var c.as_slice-more.result.now)) =
    rw (outer, c.in_ok-bind.ensures.known) at c.in_ok-bind_more.ensures.noted in
    record {
      tree =
          (binders_vars (named_var (names_known c.args.self.now)) (var_view c.args.vars.now.first)
          (vars_view c.args.vars.now) c.as_slice-more.result.now (map named.var_view c.args.named.now.items) _ _
          (rw c.as_slice-more.ensures) one
          (rw c.in_ok-bind.ensures.known at c.in_ok-bind_more.ensures.tree));
      known = c.in_ok-bind_more.ensures.known ∙ c.in_ok-bind.ensures.known;
      scope = binders_scope (var_view c.args.vars.now.first) (vars_view c.args.vars.now) c.as_slice-more.result.now
          c.args.self.now.scope _ _ (rw c.as_slice-more.ensures) c.in_ok-bind.ensures.scope
          c.in_ok-bind_more.ensures.scope;
      noted = binders_noted (names_known c.args.self.now) (var_view c.args.vars.now.first)
          (vars_view c.args.vars.now) c.as_slice-more.result.now c.args.self.now.scope c.bind.new.self.scope _ _ _
          (rw c.as_slice-more.ensures) c.in_ok-bind.ensures.scope first further;
    }
