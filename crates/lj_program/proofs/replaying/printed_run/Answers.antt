use Rattle.std.proofs.Common.{ap, ◌∙◌}
use Rattle.lj_access.specs.UserLists as listed
use Rattle.lj_program.specs.Printed.{printed}
use Rattle.lj_program.proofs.replaying.printed_run.Goals as goal

pub returns-clause-run : goal.returns-clause-run
returns-clause-run c =
    let users = c.in_ok-users.field-0.users.items in
    let entries = c.entries.result.now in
    record {
      users = users;
      events = c.in_ok-users.field-0.events.items;
      entries = c.in_ok-transcript.transcript;
      is_run = c.in_ok-transcript.ensures.run;
      headline = c.in_ok-transcript.ensures.headline;
      printed_so = c.in_ok-rendered.ensures
          ∙ ap (λ names. printed names entries)
          (c.as_slice-2.ensures.value ∙ c.in_ok-names.ensures ∙ ap listed.user_names c.as_slice.ensures.value)
          ∙ ap (printed (listed.user_names users)) c.entries.ensures;
    }
