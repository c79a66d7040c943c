-- The exit status that each end of a run has.
use Rattle.std.specs.Prelude.{ℕ}
use Rattle.idp_cli.specs.declared.status.Status.{Status}
use Rattle.idp_cli.specs.declared.status.Status.TheVariants as status

-- 0 where all was answered, and a number of its own for each other end
abbrev pub code_of : Status → ℕ
code_of status.Done = 0
code_of (status.KbRefused k line) = 1
code_of status.Usage = 2
code_of status.ReadFault = 3
code_of status.WriteFault = 4
code_of status.Memory = 5
code_of status.ScriptTooLong = 6
code_of (status.LogRefused n) = 7
