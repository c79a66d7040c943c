use Rattle.idp_cli.specs.JobViews.{choice_view}
use Rattle.idp_cli.proofs.LongFiles.{long_at}
use Rattle.idp_cli.proofs.load.take.Goals as goal

pub returns-then-bytes-gt-MOST_FILE_BYTES : goal.returns-then-bytes-gt-MOST_FILE_BYTES
returns-then-bytes-gt-MOST_FILE_BYTES c =
    long_at (choice_view c.args.options) c.line_at_limit-line.result c.args.bytes.now
    c.if-bytes-gt-MOST_FILE_BYTES.true c.line_at_limit-line.ensures
