use Rattle.run_laws.proofs.FileLaws.{file_replies, checked_is_read_back}
use Rattle.run_laws.proofs.what_is_printed_of_a_file_can_be_read.Goals as goal

pub returns : goal.returns
returns c = record {
  replies = file_replies c.printed_bytes_determine_the_replies.ensures.whole c.files_have_word_names.ensures;
  checked = checked_is_read_back c.structures_are_read_back.ensures;
}
