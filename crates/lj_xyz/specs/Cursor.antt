-- The position of a reader in the lines of its text.
use Rattle.lj_xyz.specs.declared.lines.Lines.{Lines}
use Rattle.lj_xyz.specs.Lines.{lines_of}
use Rattle.lj_xyz.specs.Reading.{Left}

-- how many lines were read, and the lines that are left
abbrev pub left_of : Lines → Left
left_of lines = record { taken = lines.taken; lines = lines_of lines.rest.now }
