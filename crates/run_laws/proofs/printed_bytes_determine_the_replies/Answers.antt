use Rattle.run_laws.proofs.OneAnswer.{one_answer, one_consultation, states_over}
use Rattle.run_laws.proofs.printed_bytes_determine_the_replies.Goals as goal

pub returns : goal.returns
returns c =
    let one = one_answer c.one_meaning.ensures c.no_two_replies_have_one_text.ensures in
    record {
      one = one;
      whole = one_consultation c.commands_are_over_the_base.ensures one;
      states = states_over c.commands_are_over_the_base.ensures;
    }
