-- The exit status of the program, and the faults with which its parts can fail.
use Rattle.std.specs.Prelude.{ℕ, Result, Ok, Err}
use Rattle.clap.specs.declared.error.kind.ErrorKind.{ErrorKind}
use Rattle.clap.specs.declared.error.kind.ErrorKind.TheVariants.{DisplayHelp, DisplayVersion, OutOfMemory}
use Rattle.lj_program.specs.declared.program_fault.ProgramFault.{ProgramFault}
use Rattle.lj_program.specs.declared.program_fault.ProgramFault.TheVariants.{Write, Listen, Memory, Unreadable, UsersLine}
use Rattle.lj_program.specs.Outcomes.{status_of}

-- the exit status of the program
abbrev pub exit_of : Result (Unit {0}) ProgramFault → ℕ
exit_of (Ok done) = 0
exit_of (Err fault) = status_of fault

-- the faults with which a server can fail
abbrev pub IsOfServer : ProgramFault → Type 0
IsOfServer (Unreadable file) = Unit {0}
IsOfServer (UsersLine number) = Unit {0}
IsOfServer Listen = Unit {0}
IsOfServer Write = Unit {0}
IsOfServer Memory = Unit {0}
IsOfServer _ = ⊥

-- the faults with which the reading of a file can fail
abbrev pub IsOfFile : ProgramFault → Type 0
IsOfFile (Unreadable file) = Unit {0}
IsOfFile Memory = Unit {0}
IsOfFile _ = ⊥

-- the exit status if the command line asks for no job: 0 if it asks for help or the version, 3 if there is no memory, and 2 at a
-- usage fault
abbrev pub usage_status : ErrorKind → ℕ
usage_status DisplayHelp = 0
usage_status DisplayVersion = 0
usage_status OutOfMemory = 3
usage_status _ = 2
