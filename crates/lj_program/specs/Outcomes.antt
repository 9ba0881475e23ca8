-- The outcome of a run, and the faults of the program.
use Rattle.std.specs.Prelude.{◌≡◌, ℕ, Bool, true, false, Result, Ok, Err}
use Rattle.lj_engine.specs.declared.served.Served.{Served}
use Rattle.lj_engine.specs.declared.served.Served.TheVariants.{End, Bye, Ended, ReadFault, WriteFault}
use Rattle.lj_engine.specs.declared.served.Served.TheVariants.{PoolClosed, TooManyStrays}
use Rattle.lj_visit.specs.declared.visiting.Visited.{Visited}
use Rattle.lj_visit.specs.declared.visiting.Visited.TheVariants.{NotWelcomed, Attended}
use Rattle.lj_program.specs.declared.input.text.TextFault.{TextFault}
use Rattle.lj_program.specs.declared.input.text.TextFault.TheVariants as texts
use Rattle.lj_program.specs.declared.program_fault.ProgramFault.{ProgramFault}
use Rattle.lj_program.specs.declared.program_fault.ReplayFault.{ReplayFault}
use Rattle.lj_program.specs.declared.program_fault.ReplayFault.TheVariants as replays
use Rattle.lj_program.specs.declared.program_fault.ProgramFault.TheVariants.{Read, Write, Listen, Memory}
use Rattle.lj_program.specs.declared.program_fault.ProgramFault.TheVariants.{Unreadable, ScheduleLine, UsersLine}

-- the outcome of a run whose replies are written, by how serving ended; its pool is never given up
abbrev pub ComesTo : Served → Result (Unit {0}) ProgramFault → Type 0
ComesTo End outcome = outcome ≡ Ok tt
ComesTo Bye outcome = outcome ≡ Ok tt
ComesTo Ended outcome = outcome ≡ Ok tt
ComesTo ReadFault outcome = outcome ≡ Err Read
ComesTo WriteFault outcome = outcome ≡ Err Write
ComesTo PoolClosed outcome = ⊥
ComesTo TooManyStrays outcome = ⊥

-- a write has failed in a visit
abbrev pub is_write_fault : Visited → Bool
is_write_fault NotWelcomed = true
is_write_fault (Attended WriteFault) = true
is_write_fault visited = false

-- the exit status of a program that failed
abbrev pub status_of : ProgramFault → ℕ
status_of Read = 1
status_of Write = 1
status_of Listen = 1
status_of (Unreadable file) = 2
status_of (ScheduleLine number) = 2
status_of (UsersLine number) = 2
status_of Memory = 3

-- the replay fault of a schedule that cannot be read
abbrev pub replay_fault_of : TextFault → ReplayFault
replay_fault_of (texts.Line number) = replays.Line number
replay_fault_of texts.Memory = replays.Memory

-- the fault of a program whose replay failed
abbrev pub fault_of_replay : ReplayFault → ProgramFault
fault_of_replay (replays.Line number) = ScheduleLine number
fault_of_replay replays.Memory = Memory
fault_of_replay replays.Write = Write

-- the fault of a program whose users cannot be read
abbrev pub users_fault_of : TextFault → ProgramFault
users_fault_of (texts.Line number) = UsersLine number
users_fault_of texts.Memory = Memory

-- the faults with which a run can fail
abbrev pub IsOfRun : ProgramFault → Type 0
IsOfRun Read = Unit {0}
IsOfRun Write = Unit {0}
IsOfRun Memory = Unit {0}
IsOfRun _ = ⊥
