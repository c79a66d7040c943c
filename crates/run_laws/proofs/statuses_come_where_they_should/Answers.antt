use Rattle.run_laws.proofs.Elimination.{usage_law, command_law, refusal_law, taking_law, length_law, short_law}
use Rattle.run_laws.proofs.Elimination.{done_law, checked_law, made_law, summarised_law}
use Rattle.run_laws.proofs.statuses_come_where_they_should.Goals as goal

pub returns : goal.returns
returns c =
    let one = c.one_file_refusal.ensures in
    let never = c.accepted_or_refused.ensures in
    record {
      usage = usage_law;
      command = command_law;
      refusal = refusal_law one never;
      taking = taking_law one never;
      length = length_law one never;
      short = short_law one never;
      done = done_law one never;
      checked = checked_law one never;
      made = made_law;
      summarised = summarised_law one never;
    }
