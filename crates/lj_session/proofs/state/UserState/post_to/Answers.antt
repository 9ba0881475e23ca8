use Rattle.std.proofs.Common.{slice_get, refl, sym, ap, subst, ◌∙◌}
use Rattle.std.proofs.lemmas.Option.{same_Some, slice_get-map}
use Rattle.std.specs.List.{IsDistinct}
use Rattle.std.specs.Str.{bytes_eq}
use Rattle.indexmap.specs.IndexMap.{set_value_at}
use Rattle.lj_session.specs.UserState.{UserState, with_session_changed, live_session_at, live_session, loaded_names, settled_session, with_passed}
use Rattle.lj_session.proofs.Entries.{set_at-name}
use Rattle.lj_session.proofs.NextTiles.{Stands, stands}
use Rattle.lj_session.proofs.Writing.{Writes, writes, changed_by, user_kept, still}
use Rattle.lj_session.proofs.state.UserState.post_to.Goals.{After-post_to}
use Rattle.lj_session.proofs.state.UserState.post_to.Goals as goal

-- the session at the index, with its name
stood : (c : After-post_to) → Stands c.args.self.now c.args.i c.in-Some.session.now
stood c =
    let is = c.in-Some.ensures.value ∙ slice_get-map (λ entry. entry.1) c.self.inside.sessions.entries c.args.i
    ∙ ap (λ (o : UserState). live_session_at o c.args.i) c.self.view_is in
    stands c.args.self.now (subst (λ (o : UserState). IsDistinct bytes_eq (loaded_names o)) c.self.view_is c.get_index_mut.ensures.unique)
    c.args.i c.in-Some.session.now (sym is)

-- what is written in it
written : (c : After-post_to)
    → Writes c.self.inside c.args.self.now (stood c).name c.in-Some.session.now c.post_to.new.self
    (set_value_at c.self.inside.sessions.entries c.args.i c.post_to.new.self)
written c = writes (stood c).name c.self.invariant c.self.view_is
    (sym (ap (λ (o : UserState). live_session o (stood c).name) c.self.view_is ∙ (stood c).there))
    (set_at-name c.self.inside.sessions.entries c.args.i (stood c).name c.post_to.new.self c.get_index_mut.ensures.unique
    (ap (λ (o : UserState). slice_get (loaded_names o) c.args.i) c.self.view_is ∙ (stood c).named))

pub invariant_of-self-2 : goal.invariant_of-self-2
invariant_of-self-2 c =
    still (written (goal.at.invariant_of-self-2 c).After-post_to) (ap settled_session c.post_to.ensures) _ refl refl

pub returns-clause-posted : goal.returns-clause-posted
returns-clause-posted c = λ name named.
    let at = (goal.at.returns-clause-posted c).After-post_to in
    changed_by (written at) (with_passed c.args.to) c.post_to.ensures
    ∙ ap (λ n. with_session_changed n (with_passed c.args.to) c.args.self.now)
    (same_Some (stood at).name name (sym (stood at).named ∙ named))

pub returns-clause-user : goal.returns-clause-user
returns-clause-user c = user_kept (written (goal.at.returns-clause-user c).After-post_to) (ap settled_session c.post_to.ensures)
