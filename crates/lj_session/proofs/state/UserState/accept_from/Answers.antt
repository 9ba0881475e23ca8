use Rattle.std.proofs.Common.{◌≡◌, Some, slice_get, refl, sym, ap, ◌∙◌}
use Rattle.std.proofs.lemmas.Bool.{false≢true}
use Rattle.std.proofs.lemmas.Option.{slice_get-map}
use Rattle.std.specs.Option.{option_copied_mut}
use Rattle.indexmap.specs.IndexMap.{set_value_at}
use Rattle.lj_step.specs.OpenSteps.{tile_number_of, with_tile}
use Rattle.lj_session.specs.KeptSessions.{session_of_kept}
use Rattle.lj_session.specs.UserState.{UserState, live_session, live_session_at, loaded_names, settled_session, with_tile_in}
use Rattle.lj_session.proofs.Entries.{set_at-name}
use Rattle.lj_session.proofs.Indices.{index-none, index-held, index-named}
use Rattle.lj_session.proofs.Results.{on_ok-then, on_err-then, same-either}
use Rattle.lj_session.proofs.Writing.{Writes, with_live, writes, changed_by, unchanged, user_kept, still}
use Rattle.lj_session.proofs.state.UserState.accept_from.Goals.{After-accept_from}
use Rattle.lj_session.proofs.state.UserState.accept_from.Goals as goal

-- the session of the label, before the result
there : (c : After-accept_from) → live_session c.args.self.now c.args.label.now.session ≡ Some (session_of_kept c.session.inside)
there c =
    index-held c.args.self.now c.args.label.now.session c.in-Some.i (sym c.in-Some.ensures)
    ∙ ap (λ (o : UserState). live_session_at o c.in-Some.i) (sym c.self.view_is)
    ∙ sym (slice_get-map (λ entry. entry.1) c.self.inside.sessions.entries c.in-Some.i)
    ∙ sym c.get_index_mut.ensures.value ∙ ap option_copied_mut c.unwrap-session.ensures
    ∙ ap Some (sym c.session.view_is)

-- what is written in it
written : (c : After-accept_from)
    → Writes c.self.inside c.args.self.now c.args.label.now.session (session_of_kept c.session.inside)
    (with_live (session_of_kept c.session.inside) c.accept_from.new.self)
    (set_value_at c.self.inside.sessions.entries c.in-Some.i (with_live (session_of_kept c.session.inside) c.accept_from.new.self))
written c =
    let name = c.args.label.now.session in
    writes name c.self.invariant c.self.view_is
    (sym (ap (λ (o : UserState). live_session o name) c.self.view_is ∙ there c))
    (set_at-name c.self.inside.sessions.entries c.in-Some.i name
    (with_live (session_of_kept c.session.inside) c.accept_from.new.self) c.get_index_mut.ensures.unique
    (ap (λ (o : UserState). slice_get (loaded_names o) c.in-Some.i) c.self.view_is
    ∙ index-named c.args.self.now name c.in-Some.i (sym c.in-Some.ensures)))

-- its settled session is the same
settled : (c : After-accept_from) → settled_session (with_live (session_of_kept c.session.inside) c.accept_from.new.self)
    ≡ settled_session (session_of_kept c.session.inside)
settled c =
    let sim = c.session.inside.sim in
    same-either c.accept_from.result (λ l. settled_session (with_live (session_of_kept c.session.inside) l))
    c.accept_from.new.self sim (record sim { part = with_tile (tile_number_of c.args.done.now) sim.part })
    c.accept_from.ensures.taken c.accept_from.ensures.unchanged refl

pub returns-in_default-clause-accepted : goal.returns-in_default-clause-accepted
returns-in_default-clause-accepted c =
    rw (index-none c.args.self.now c.args.label.now.session (sym c.in_default.ensures))
    (λ bad. absurd (false≢true bad), λ none. absurd none)

pub invariant_of-self : goal.invariant_of-self
invariant_of-self c =
    let after = (goal.at.invariant_of-self c).After-accept_from in still (written after) (settled after) _ refl refl

pub returns-clause-accepted : goal.returns-clause-accepted
returns-clause-accepted c = rw (there (goal.at.returns-clause-accepted c).After-accept_from) c.accept_from.ensures.accepted

pub returns-clause-taken : goal.returns-clause-taken
returns-clause-taken c = on_ok-then c.accept_from.result
    (λ taken. changed_by (written (goal.at.returns-clause-taken c).After-accept_from) (with_tile_in (tile_number_of c.args.done.now))
    (ap (with_live (session_of_kept c.session.inside)) taken))
    c.accept_from.ensures.taken

pub returns-clause-user : goal.returns-clause-user
returns-clause-user c =
    let after = (goal.at.returns-clause-user c).After-accept_from in user_kept (written after) (settled after)

pub returns-clause-unchanged : goal.returns-clause-unchanged
returns-clause-unchanged c = on_err-then c.accept_from.result
    (λ same. unchanged (written (goal.at.returns-clause-unchanged c).After-accept_from)
    (ap (with_live (session_of_kept c.session.inside)) same))
    c.accept_from.ensures.unchanged
