use Rattle.std.proofs.lemmas.Map.Text.{hash_map_updates_str}
use Rattle.formula_names.proofs.Bindings.{left}
use Rattle.formula_names.proofs.scopes.Scope.leave_one.Goals as goal

pub invariant_of-self-in-Ok : goal.invariant_of-self-in-Ok
invariant_of-self-in-Ok c = left c.self.inside (record {
  bindings = c.pop.new.self;
  levels =
      record { map = c.insert.new.self };
}) c.in-Some.binding c.self.invariant c.in-Some.ensures.items
    (hash_map_updates_str c.in-Some.binding.text.now c.self.inside.levels.map c.insert.new.self _
    c.in-Ok.ensures.updates)
