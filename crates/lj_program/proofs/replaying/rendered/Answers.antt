use Rattle.std.proofs.Common.{rules, [], ◌∷◌, ◌++◌, take, ap, sym, ◌∙◌}
use Rattle.std.specs.List.{flat_map}
use Rattle.std.proofs.lemmas.List.{take_more, flat_map_more}
use Rattle.lj_program.specs.Printed.{printed_among}
use Rattle.lj_program.proofs.replaying.rendered.Goals as goal

pub loop-entry-preserved : goal.loop-entry-preserved
loop-entry-preserved c =
    let rendered = printed_among c.args.names.now in
    let entries = c.args.entries.now in
    let i = c.loop-entry.entry-index in
    let entry = c.entry-item.result in
    c.in_ok-append_entry.ensures ∙ ap (λ bytes. bytes ++ rendered entry) c.loop-entry.invariant
    ∙ flat_map_more rendered [] (take i entries) entry
    ∙ ap (λ e. flat_map rendered (take i entries ++ e ∷ [])) c.entry-item.is
    ∙ ap (flat_map rendered) (sym (take_more entries i entry (search rules)))
