-- What is printed about a file can be read.
use Rattle.base_reader.specs.FileMeanings.{FileMeans, base_of_meaning}
use Rattle.file_laws.specs.FileLaws.{FilesHaveWordNames, StructuresAreReadBack}
use Rattle.run_laws.specs.FileLaws.{FileRepliesLaw, CheckedIsReadBackLaw}
use Rattle.idp_cli.specs.Jobs.{check}
use Rattle.run_laws.specs.OneAnswer.{OneConsultationLaw}
use Rattle.idp_cli.specs.declared.status.Status.TheVariants as status
use Rattle.consult_text.specs.States.{first_state}
use Rattle.run_laws.proofs.Elimination.{done, told}

pub file_replies : OneConsultationLaw → FilesHaveWordNames → FileRepliesLaw
file_replies one words c bytes m budget t u lines a b means within is is' same =
    one (base_of_meaning m) (first_state budget) t u lines a b (words c bytes m means)
    (record { choices = tt; budget = within }) is is' same

pub checked_is_read_back : StructuresAreReadBack → CheckedIsReadBackLaw
checked_is_read_back back words before now file bytes c asks is ends =
    let end = done status.Done words before now (check file c) asks ends in
    let means : FileMeans c bytes end.0 = told (before.files file) bytes (λ b. FileMeans c b end.0) is end.1 in
    (end.0, means, end.2.out, back c bytes end.0 means)
