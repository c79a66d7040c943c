use Rattle.std.proofs.Common.{rules, ◌∙◌, ◌≡◌, ◌++◌, ◌∷◌, []}
use Rattle.generated_files.proofs.Numbers.{one_more}
use Rattle.generated_files.proofs.rows.early_days.Goals as goal

pub loop-day-preserved : goal.loop-day-preserved
loop-day-preserved c =
    let pushed : c.push.new.self.items ≡ c.loop-day.found.items ++ c.loop-day.day ∷ [] = search rules in
    rw pushed (one_more c.loop-day.found.items c.loop-day.day c.args.days c.loop-day-test.true ∙ c.loop-day.invariant)
