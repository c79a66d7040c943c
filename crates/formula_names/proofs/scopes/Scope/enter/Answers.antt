use Rattle.std.proofs.Common.{◌≡◌, ◌+◌, ◌<◌, ◌^◌, arith, length, rules}
use Rattle.std.proofs.lemmas.Map.Text.{hash_map_updates_str}
use Rattle.formula_names.proofs.Bindings.{entered}
use Rattle.formula_names.proofs.scopes.Scope.enter.Goals as goal

pub invariant_of-self-in-Ok : goal.invariant_of-self-in-Ok
invariant_of-self-in-Ok c =
    let at_end : c.len-number.result ≡ length c.self.inside.bindings.items = search rules in
    let few : c.len-number.result + 1 < 2 ^ 32 = omega arith in
    entered c.self.inside (record { bindings = c.push.new.self; levels = record { map = c.insert.new.self } }) _
    c.len-number.result
    c.self.invariant at_end c.in_ok-push.ensures.items c.level_of-hidden.ensures
    (hash_map_updates_str c.args.name.now c.self.inside.levels.map c.insert.new.self _ c.in-Ok.ensures.updates) few
