use Rattle.std.proofs.Common.{position, sym, ap, ◌∙◌}
use Rattle.std.specs.Str.{bytes_eq}
use Rattle.lj_session.specs.UserState.{UserState, loaded_names}
use Rattle.lj_session.proofs.Indices.{first-named}
use Rattle.lj_session.proofs.state.UserState.index_of.Goals as goal

pub returns-in-Some : goal.returns-in-Some
returns-in-Some c =
    sym (first-named c.self.inside.sessions.entries c.args.name.now _ (sym c.in-Some.ensures.entry)
    (sym c.eq.ensures ∙ c.if-eq.true))
    ∙ ap (λ (o : UserState). position (bytes_eq c.args.name.now) (loaded_names o)) c.self.view_is
