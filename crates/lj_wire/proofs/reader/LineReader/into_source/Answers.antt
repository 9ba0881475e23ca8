use Rattle.std.proofs.Common.{sym, ap, ◌∙◌}
use Rattle.std.specs.Io.KnownBytes.{prepend_known}
use Rattle.lj_wire.specs.LineReader.{LineReader}
use Rattle.lj_wire.proofs.reader.LineReader.into_source.Goals as goal

pub returns-clause-ahead : goal.returns-clause-ahead
returns-clause-ahead g c =
    sym (ap (λ (s : LineReader). s.left) c.self.view_is)
    ∙ ap (λ (s : LineReader). prepend_known s.held s.unread) c.self.view_is
