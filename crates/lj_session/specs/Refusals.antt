-- Refusals: the number and the name of each, and its text.
use Rattle.std.specs.Prelude.{ℕ, ◌/◌, ◌%◌, List, [], ◌++◌, codes}
use Rattle.std.specs.Fmt.{decimal}
use Rattle.lj_xyz.specs.declared.xyz_fault.XyzKind.{XyzKind}
use Rattle.lj_xyz.specs.declared.xyz_fault.XyzKind.TheVariants as kind
use Rattle.lj_session.specs.declared.refusal.Refusal.{Refusal}
use Rattle.lj_session.specs.declared.refusal.Refusal.TheVariants.{Denied, Line, Syntax, Body, Long, Command, Enough}
use Rattle.lj_session.specs.declared.refusal.Refusal.TheVariants.{NoSession, Exists, NoBranch, BranchExists, NoAtom}
use Rattle.lj_session.specs.declared.refusal.Refusal.TheVariants.{QuotaSessions, QuotaAtoms, QuotaBranches, StepRange}
use Rattle.lj_session.specs.declared.refusal.Refusal.TheVariants.{Xyz, Edge, Sigma, StepFactor, Weight, Memory}

-- the number of a fault of a body
abbrev pub xyz_number : XyzKind → ℕ
xyz_number kind.Count = 30
xyz_number kind.Short = 31
xyz_number kind.Symbol = 32
xyz_number kind.Number = 33
xyz_number kind.Range = 34
xyz_number kind.Pair = 35
xyz_number kind.Species = 39

-- the name of a fault of a body
abbrev pub xyz_name : XyzKind → List ℕ
xyz_name kind.Count = codes "XYZ_COUNT"
xyz_name kind.Short = codes "XYZ_SHORT"
xyz_name kind.Symbol = codes "XYZ_SYMBOL"
xyz_name kind.Number = codes "XYZ_NUMBER"
xyz_name kind.Range = codes "XYZ_RANGE"
xyz_name kind.Pair = codes "XYZ_PAIR"
xyz_name kind.Species = codes "XYZ_SPECIES"

-- the number of a refusal
abbrev pub refusal_number : Refusal → ℕ
refusal_number Denied = 1
refusal_number Line = 2
refusal_number Syntax = 3
refusal_number Body = 4
refusal_number Long = 5
refusal_number Command = 6
refusal_number Enough = 8
refusal_number NoSession = 10
refusal_number Exists = 11
refusal_number NoBranch = 12
refusal_number BranchExists = 13
refusal_number NoAtom = 14
refusal_number QuotaSessions = 20
refusal_number QuotaAtoms = 21
refusal_number QuotaBranches = 22
refusal_number StepRange = 23
refusal_number (Xyz fault) = xyz_number fault.kind
refusal_number Edge = 36
refusal_number Sigma = 37
refusal_number StepFactor = 38
refusal_number Weight = 40
refusal_number Memory = 90

-- the name of a refusal
abbrev pub refusal_name : Refusal → List ℕ
refusal_name Denied = codes "DENIED"
refusal_name Line = codes "LINE"
refusal_name Syntax = codes "SYNTAX"
refusal_name Body = codes "BODY"
refusal_name Long = codes "LONG"
refusal_name Command = codes "COMMAND"
refusal_name Enough = codes "ENOUGH"
refusal_name NoSession = codes "NO_SESSION"
refusal_name Exists = codes "EXISTS"
refusal_name NoBranch = codes "NO_BRANCH"
refusal_name BranchExists = codes "BRANCH_EXISTS"
refusal_name NoAtom = codes "NO_ATOM"
refusal_name QuotaSessions = codes "QUOTA_SESSIONS"
refusal_name QuotaAtoms = codes "QUOTA_ATOMS"
refusal_name QuotaBranches = codes "QUOTA_BRANCHES"
refusal_name StepRange = codes "STEP_RANGE"
refusal_name (Xyz fault) = xyz_name fault.kind
refusal_name Edge = codes "EDGE"
refusal_name Sigma = codes "SIGMA"
refusal_name StepFactor = codes "STEP_FACTOR"
refusal_name Weight = codes "WEIGHT"
refusal_name Memory = codes "MEMORY"

-- the line of a fault of a body, else nothing
abbrev pub place_text : Refusal → List ℕ
place_text (Xyz fault) = codes " line " ++ decimal fault.line
place_text _ = []

-- `ERR`, the number in two digits, the name, and the line of a body if there is one
abbrev pub refusal_text : Refusal → List ℕ
refusal_text refusal =
    let number = refusal_number refusal in
    let named = refusal_name refusal ++ place_text refusal in
    codes "ERR " ++ (decimal (number / 10) ++ (decimal (number % 10) ++ (codes " " ++ named)))
