use Rattle.std.proofs.Common.{◌≡◌, ℕ, ◌∙◌, ap, sym, subst}
use Rattle.std.specs.Option.{option_and_then, option_map}
use Rattle.std.proofs.lemmas.Option.{same_Some}
use Rattle.lj_session.specs.declared.tile_cursor.TileCursor.{TileCursor}
use Rattle.lj_session.specs.Cursors.{IsAtFirst}
use Rattle.lj_session.specs.KeptOwners.{owner_of_kept}
use Rattle.lj_session.specs.Owner.{Owner, label_of, next_task_of, task_of_session}
use Rattle.lj_session.specs.UserState.{LiveSession, UserState, IsNextTile}
use Rattle.lj_session.proofs.Cursors.{first-same}
use Rattle.lj_session.proofs.NextTiles.{next-name}
use Rattle.lj_session.proofs.owner.Owner.next_tile.Goals as goal

-- the tile that is found is the next one of the owner
at_first : (state : UserState) (owner : Owner) → state ≡ owner.state → (cursor : TileCursor) → (tile : ℕ)
    → (next : IsNextTile state cursor.session tile) → cursor.label ≡ label_of owner next.name
    → next.session.passed ≡ cursor.passed → IsAtFirst cursor owner
at_first state owner view cursor tile =
    subst (λ s. (next : IsNextTile s cursor.session tile) → cursor.label ≡ label_of owner next.name
    → next.session.passed ≡ cursor.passed → IsAtFirst cursor owner) (sym view)
    (λ next label passed. record { tile = tile; next = next; label = label; passed = passed })

pub returns-clause-first : goal.returns-clause-first
returns-clause-first c =
    let next = c.in-Some.ensures.some in
    at_first c.self.inside.state c.args.self.now (ap (λ (o : Owner). o.state) c.self.view_is) _ _ next
    (c.label-label.ensures ∙ ap (label_of c.args.self.now) (c.copy.ensures ∙ sym (next-name next c.name_at.result.now c.name_at.ensures)))
    (same_Some next.session.passed c.passed_at-passed.result
    (sym (ap (option_map (λ (session : LiveSession). session.passed)) next.at) ∙ c.passed_at-passed.ensures))

pub returns-clause-same : goal.returns-clause-same
returns-clause-same c = first-same c.args.self.now _ (returns-clause-first c)

pub returns-in_default-clause-none : goal.returns-in_default-clause-none
returns-in_default-clause-none c =
    let owner = owner_of_kept c.self.inside in
    sym (ap next_task_of c.self.view_is)
    ∙ ap (option_and_then (task_of_session owner)) (c.in_default.ensures.none owner.number)
