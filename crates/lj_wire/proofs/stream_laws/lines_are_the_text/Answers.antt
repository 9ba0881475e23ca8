use Rattle.lj_wire.proofs.ReplyTexts.{text-lines}
use Rattle.lj_wire.proofs.stream_laws.lines_are_the_text.Goals as goal

pub returns : goal.returns
returns c = text-lines
