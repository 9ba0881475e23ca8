use Rattle.lj_xyz.proofs.ReadingLaws.{one_answer, reading_stands}
use Rattle.lj_xyz.proofs.reading_laws.one_reading.Goals as goal

pub returns-clause-one : goal.returns-clause-one
returns-clause-one c = one_answer

pub returns-clause-given : goal.returns-clause-given
returns-clause-given c = reading_stands
