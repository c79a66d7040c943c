-- What the words ask, as the program holds it.
use Rattle.block_choice.specs.Choices.{word_given}
use Rattle.base_reader.specs.FileMeanings.{Choice}
use Rattle.idp_cli.specs.Jobs as asked
use Rattle.idp_cli.specs.declared.jobs.Options.{Options}
use Rattle.idp_cli.specs.declared.jobs.Job.{Job}
use Rattle.idp_cli.specs.declared.jobs.Job.TheVariants as job

abbrev pub choice_view : Options → Choice
choice_view o = record { theory = word_given o.theory; structure = word_given o.structure }

abbrev pub job_view : Job → asked.Job
job_view (job.Consult c) = asked.consult c.file.now (choice_view c.options) c.budget c.logs
job_view (job.Check file options) = asked.check file.now (choice_view options)
job_view (job.Verify file options log) = asked.verify file.now (choice_view options) log.now
job_view (job.Make kind number) = asked.make kind number
job_view (job.Summarise kind number) = asked.summarise kind number
