use Rattle.std.proofs.Common.{rules, ◌≡◌, MatchOption, subst}
use Rattle.log_checker.specs.BoundOrder.{IsFound, IsNotFound}
use Rattle.log_checker.proofs.bound_tables.BoundTable.find.Goals as goal

pub returns : goal.returns
returns c =
    let e : c.as_slice.result.now ≡ c.args.self.now = search rules in
    subst (λ x. MatchOption c.find_in.result (IsNotFound x c.args.var.0)
    (λ b. IsFound x c.args.var.0 b)) e c.find_in.ensures
