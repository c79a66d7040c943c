use Rattle.run_laws.proofs.LogLaws.{accepted_log_law, verified_law, refused_log_law, bad_entry_law, long_log_law}
use Rattle.run_laws.proofs.LogLaws.{short_log_law, log_path_law}
use Rattle.run_laws.proofs.logs_are_verified_as_they_should_be.Goals as goal

pub returns : goal.returns
returns c =
    let one = c.one_file_meaning.ensures in
    let laws = c.statuses_come_where_they_should.ensures in
    record {
      accepted = accepted_log_law one laws.taking laws.command c.one_answer.ensures
          c.one_problem.ensures;
      verified = verified_law one;
      refused = refused_log_law one laws.taking laws.command c.one_answer.ensures
          c.one_problem.ensures;
      bad_entry = bad_entry_law one;
      long = long_log_law one laws.taking laws.command;
      short = short_log_law one;
      path = log_path_law;
    }
