-- The next tile: that of the first session, in order of loading, that has one which is neither posted nor in.
use Rattle.std.proofs.Common.{◌≡◌, ℕ, ◌+◌, ◌<◌, List, length, slice_get, Option, Some, None, refl, sym, ap, ◌∙◌, subst}
use Rattle.std.proofs.lemmas.List.{length-map}
use Rattle.std.proofs.lemmas.Option.{slice_get-map}
use Rattle.std.specs.Prelude.{Bool, is_some}
use Rattle.std.specs.List.{IsDistinct}
use Rattle.std.specs.Option.{option_map}
use Rattle.std.specs.Str.{bytes_eq}
use Rattle.lj_base.specs.declared.names.Label.{Label}
use Rattle.lj_step.specs.OpenSteps.{tiles_of}
use Rattle.lj_session.specs.UserState.{LiveSession, UserState, IsNextTile, NoTaskBefore, first_with_task, loaded_names, live_session_at, live_session, next_of, next_task, next_tile}
use Rattle.lj_session.proofs.Firsts.{NoneBefore, none-first, none-next, find-at, find-nowhere}
use Rattle.lj_session.proofs.Holding.{held-there}
use Rattle.lj_session.proofs.Tiles.{found-task}

-- whether the session of a name has a task of a user
abbrev pub has_task : UserState → ℕ → List ℕ → Bool
has_task state user name = is_some (next_task state (record { user = user; session = name }))

has-task : (state : UserState) (user : ℕ) (name : List ℕ) (session : LiveSession) → live_session state name ≡ Some session
    → has_task state user name ≡ is_some (next_tile session)
has-task state user name session there =
    let label : Label = record { user = user; session = name } in
    ap (λ o. is_some (next_of label o)) there ∙ found-task session label

-- where a session stands, its name does
pub record Stands (state : UserState) (i : ℕ) (session : LiveSession) : Type 0 where
  pub name : List ℕ
  pub named : slice_get (loaded_names state) i ≡ Some name
  pub there : live_session state name ≡ Some session

module _ (state : UserState) (distinct : IsDistinct bytes_eq (loaded_names state)) (i : ℕ) (session : LiveSession)
    (at : live_session_at state i ≡ Some session) where
  pub stands : Stands state i session
  stands = by (slice_get state.sessions i) refl
    where
      none_some : None ≡ Some session → ⊥
      none_some e = cc

      by : (o : Option (List ℕ × LiveSession)) → slice_get state.sessions i ≡ o → Stands state i session
      by None e = absurd (none_some (sym (ap (option_map (λ entry. entry.1)) e) ∙ at))
      by (Some (key, value)) e =
          let named = slice_get-map (λ entry. entry.0) state.sessions i ∙ ap (option_map (λ entry. entry.0)) e in
          record { name = key; named = named; there = held-there state distinct i key session named at }

  pub next-here : (k : ℕ) → i < length state.sessions → next_tile session ≡ Some k → k < tiles_of session.live
      → NoTaskBefore state i → IsNextTile state i k
  next-here k within tile below before = record {
    within = within;
    name = stands.name;
    named = stands.named;
    session = session;
    at = at;
    there = stands.there;
    tile = tile;
    below = below;
    before = before;
    first = λ user. find-at (has_task state user) (loaded_names state) i stands.name stands.named
        (has-task state user stands.name session stands.there ∙ ap is_some tile) (before user);
  }

  pub next-on : next_tile session ≡ None → NoTaskBefore state i → NoTaskBefore state (i + 1)
  next-on none before user = none-next (has_task state user) (loaded_names state) i stands.name stands.named
      (has-task state user stands.name session stands.there ∙ ap is_some none) (before user)

pub next-first : (state : UserState) → NoTaskBefore state 0
next-first state user = none-first (has_task state user) (loaded_names state)

pub next-nowhere : (state : UserState) (i : ℕ) → i ≡ length state.sessions → NoTaskBefore state i
    → (user : ℕ) → first_with_task state user ≡ None
next-nowhere state i end before user =
    find-nowhere (has_task state user) (loaded_names state)
    (subst (NoneBefore (has_task state user) (loaded_names state)) (end ∙ sym (length-map state.sessions (λ entry. entry.0)))
    (before user))

module _ {state : UserState} {i k : ℕ} (next : IsNextTile state i k) where
  pub next-name : (name : List ℕ) → slice_get (loaded_names state) i ≡ Some name → next.name ≡ name
  next-name name named = same next.name name (sym next.named ∙ named)
    where
      same : (a b : List ℕ) → Some a ≡ Some b → a ≡ b
      same a b e = cc
