use Rattle.std.proofs.Common.{ap, sym, ◌∙◌}
use Rattle.std.specs.Option.{option_map}
use Rattle.lj_wire.specs.Commands.{◌>>=◌, count_of}
use Rattle.lj_wire.proofs.Counts.{last_word}
use Rattle.lj_wire.proofs.reading.last_count.Goals as goal

pub returns-in_err-last : goal.returns-in_err-last
returns-in_err-last c =
    let ran = c.in_err-last.ensures.ran in
    c.from_residual.ensures ∙ sym (ap (λ last. last >>= count_of)
    (last_word c.args.words ran.0 ran.1 ∙ ap (option_map (λ item. item.now)) (sym ran.2)))

pub returns : goal.returns
returns c =
    let ran = c.in_ok-last.ensures.ran in
    c.parse_count.ensures
    ∙ sym (ap (λ last. last >>= count_of)
    (last_word c.args.words ran.0 ran.1 ∙ ap (option_map (λ item. item.now)) (sym ran.2)))
