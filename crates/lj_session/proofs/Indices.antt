-- An index that was looked up, and the session that stands there.
use Rattle.std.proofs.Common.{◌≡◌, ℕ, ◌+◌, ◌<◌, true, false, List, [], ◌∷◌, length, map, get_or, slice_get, Option, Some, None, position}
use Rattle.std.proofs.Common.{Bool, suc, cond, refl, sym, ◌∙◌, ap, arith}
use Rattle.std.proofs.lemmas.Bool.{lt-ltb}
use Rattle.std.proofs.lemmas.List.Quantifiers.{position-Some}
use Rattle.std.proofs.lemmas.Option.{same_Some, slice_get-map, slice_get-get_or}
use Rattle.std.proofs.lemmas.Slice.Eq.{bytes_eq-Decides}
use Rattle.std.specs.Option.{option_map_or, option_and_then}
use Rattle.std.specs.Str.{bytes_eq}
use Rattle.indexmap.proofs.MapLemmas.{Found-position, Missing-position}
use Rattle.lj_session.specs.declared.command.Command.{Command}
use Rattle.lj_session.specs.declared.command.Command.TheVariants.{Load, Advance, Start, Reverse, Branch, Restore, Forget, Tug}
use Rattle.lj_session.specs.declared.command.Command.TheVariants.{Measure, Show, Dump, List as ListSessions}
use Rattle.lj_session.specs.declared.command.Command.TheVariants.{ListBranches, Unload, Bye}
use Rattle.lj_branch.specs.Named.{value_named}
use Rattle.lj_session.specs.Answers.{can_advance}
use Rattle.lj_session.specs.Turns.{turns, waits_for}
use Rattle.lj_session.specs.UserState.{LiveSession, UserState, settled_session, user_of, loaded_names, live_session, live_session_at, pending_in, index_waited_for, steps_before, turns_before}
use Rattle.lj_session.proofs.Holding.{named-absent, named-held}
use Rattle.lj_session.proofs.Turning.{advance-turns-none, advance-turns-far, advance-turns-near, measure-turns-none, measure-turns-one, no-turns}
use Rattle.lj_session.proofs.Waiting.{nothing-turns}

module _ (state : UserState) (name : List ℕ) where
  -- no index, no session
  pub index-none : position (bytes_eq name) (loaded_names state) ≡ None → live_session state name ≡ None
  index-none e = (Missing-position (bytes_eq name) state.sessions e).value

  pub index-within : (i : ℕ) → position (bytes_eq name) (loaded_names state) ≡ Some i → i < length state.sessions
  index-within i e = (Found-position (bytes_eq name) state.sessions i e).within

  -- the session of the name stands at its index
  pub index-held : (i : ℕ) → position (bytes_eq name) (loaded_names state) ≡ Some i → live_session state name ≡ live_session_at state i
  index-held i e =
      (Found-position (bytes_eq name) state.sessions i e).value ∙ slice_get-map (λ entry. entry.1) state.sessions i

  -- the name stands at its index
  pub index-named : (i : ℕ) → position (bytes_eq name) (loaded_names state) ≡ Some i → slice_get (loaded_names state) i ≡ Some name
  index-named i e =
      let found = position-Some (bytes_eq name) (loaded_names state) i [] e in
      let same = (bytes_eq-Decides name (get_or (loaded_names state) i [])).0 found.1 in
      slice_get-get_or (loaded_names state) i [] found.0 ∙ ap (λ n. Some n) (sym same)

-- a name that stands first is found there
pub first-named : {A : Type 0} (es : List (List ℕ × A)) (name : List ℕ) (entry : List ℕ × A) → slice_get es 0 ≡ Some entry
    → bytes_eq name entry.0 ≡ true → position (bytes_eq name) (map (λ e. e.0) es) ≡ Some 0
first-named {A} [] name entry at same = absurd (none_some at)
  where
    none_some : None ≡ Some entry → ⊥
    none_some e = cc
first-named {A} (e ∷ es) name entry at same =
    rw (ap (λ (x : List ℕ × A). bytes_eq name x.0) (is e at) ∙ same)
    (ap (λ (b : Bool). cond b (Some 0) None) (lt-ltb 0 (suc (length (map (λ (x : List ℕ × A). x.0) es))) (omega arith)))
  where
    is : (x : List ℕ × A) → Some x ≡ Some entry → x ≡ entry
    is x k = cc

-- a session that a command waits for, at its index
pub record WaitedAt (state : UserState) (command : Command) (i : ℕ) : Type 0 where
  pub name : List ℕ
  pub waits : waits_for command ≡ Some name
  pub within : i < length state.sessions
  pub held : live_session state name ≡ live_session_at state i

pub waited_at : (state : UserState) (command : Command) (i : ℕ) → index_waited_for state command ≡ Some i
    → WaitedAt state command i
waited_at state command i e = by (waits_for command) refl
  where
    none_some : None ≡ Some i → ⊥
    none_some k = cc

    by : (o : Option (List ℕ)) → waits_for command ≡ o → WaitedAt state command i
    by None w = absurd (none_some (sym (ap (option_and_then (λ name. position (bytes_eq name) (loaded_names state))) w) ∙ e))
    by (Some name) w =
        let at : position (bytes_eq name) (loaded_names state) ≡ Some i =
        sym (ap (option_and_then (λ name. position (bytes_eq name) (loaded_names state))) w) ∙ e in record {
          name = name;
          waits = w;
          within = index-within state name i at;
          held = index-held state name i at;
        }

-- a command that waits for no session that is there takes no turn
turnless : (state : UserState) (command : Command)
    → ((name : List ℕ) → waits_for command ≡ Some name → live_session state name ≡ None) → turns (user_of state) command ≡ 0
unfolding turns waits_for
turnless state (Load load) absent = refl
turnless state (Advance name n) absent = advance-turns-none (user_of state) name n (named-absent state name (absent name refl))
turnless state (Start name n) absent = refl
turnless state (Reverse name) absent = refl
turnless state (Branch name branch) absent = refl
turnless state (Restore name branch) absent = refl
turnless state (Forget name branch) absent = refl
turnless state (Tug name atom x y z) absent = refl
turnless state (Measure name) absent = measure-turns-none (user_of state) name (named-absent state name (absent name refl))
turnless state (Show name atom) absent = refl
turnless state (Dump name) absent = refl
turnless state ListSessions absent = refl
turnless state (ListBranches name) absent = refl
turnless state (Unload name) absent = refl
turnless state Bye absent = refl

pub nothing-before : (state : UserState) (command : Command) → index_waited_for state command ≡ None
    → turns_before state command ≡ 0
nothing-before state command e = by (waits_for command) refl
  where
    absent : (session : List ℕ) → waits_for command ≡ Some session → live_session state session ≡ None
    absent session w =
        index-none state session (sym (ap (option_and_then (λ name. position (bytes_eq name) (loaded_names state))) w) ∙ e)

    none : turns (user_of state) command ≡ 0
    none = turnless state command absent

    by : (o : Option (List ℕ)) → waits_for command ≡ o → turns_before state command ≡ 0
    by None w =
        let steps : steps_before state command ≡ 0 = ap (λ o. option_map_or (pending_in state) o 0) w in
        omega (arith, none, steps)
    by (Some name) w =
        let steps : steps_before state command ≡ 0 = ap (λ o. option_map_or (pending_in state) o 0) w
        ∙ ap (λ o. option_map_or (λ (h : LiveSession). h.pending) o 0) (absent name w) in
        omega (arith, none, steps)

-- how many turns come before a command whose session stands at an index: those that are pending there, and its own
pub before-at : (state : UserState) (command : Command) (i : ℕ) (session : LiveSession) → index_waited_for state command ≡ Some i
    → live_session_at state i ≡ Some session → turns_before state command ≡ session.pending + turns (user_of state) command
before-at state command i session e there =
    let at = waited_at state command i e in
    let steps : steps_before state command ≡ session.pending = ap (λ o. option_map_or (pending_in state) o 0) at.waits
    ∙ ap (λ o. option_map_or (λ (h : LiveSession). h.pending) o 0) (at.held ∙ there) in
    omega (arith, steps)

-- the session of an ADVANCE, or of a MEASURE, stands at the index
advance-held : (state : UserState) (command : Command) (i : ℕ) (session : LiveSession) → index_waited_for state command ≡ Some i
    → live_session_at state i ≡ Some session → (name : List ℕ) (n : ℕ) → command ≡ Advance name n
    → value_named name (user_of state).sessions ≡ Some (settled_session session)
unfolding waits_for
advance-held state command i session e there name n is =
    let at = waited_at state command i e in
    let same : name ≡ at.name = same_Some name at.name (sym (ap waits_for is) ∙ at.waits) in
    named-held state name session (ap (live_session state) same ∙ at.held ∙ there)

measure-held : (state : UserState) (command : Command) (i : ℕ) (session : LiveSession) → index_waited_for state command ≡ Some i
    → live_session_at state i ≡ Some session → (name : List ℕ) → command ≡ Measure name
    → value_named name (user_of state).sessions ≡ Some (settled_session session)
unfolding waits_for
measure-held state command i session e there name is =
    let at = waited_at state command i e in
    let same : name ≡ at.name = same_Some name at.name (sym (ap waits_for is) ∙ at.waits) in
    named-held state name session (ap (live_session state) same ∙ at.held ∙ there)

module _ (state : UserState) (command : Command) (i : ℕ) (session : LiveSession) (e : index_waited_for state command ≡ Some i)
    (there : live_session_at state i ≡ Some session) where
  -- where steps are pending there it waits
  pub before-pending : 0 < session.pending → 0 < turns_before state command
  before-pending some = let all = before-at state command i session e there in omega (arith, some, all)

  module _ (none : session.pending ≡ 0) where
    own : turns_before state command ≡ turns (user_of state) command
    own = let all = before-at state command i session e there in omega (arith, none, all)

    pub before-nothing : (name : List ℕ) (n : ℕ) → command ≡ Advance name n → n ≡ 0 → turns_before state command ≡ 0
    before-nothing name n is zero_steps =
        own ∙ ap (turns (user_of state)) (is ∙ ap (Advance name) zero_steps) ∙ nothing-turns (user_of state) name

    pub before-far : (name : List ℕ) (n : ℕ) → command ≡ Advance name n → can_advance (settled_session session) n ≡ false
        → turns_before state command ≡ 0
    before-far name n is far =
        own ∙ ap (turns (user_of state)) is
        ∙ advance-turns-far (user_of state) name n (settled_session session)
        (advance-held state command i session e there name n is) far

    pub before-near : (name : List ℕ) (n : ℕ) → command ≡ Advance name n → can_advance (settled_session session) n ≡ true
        → turns_before state command ≡ n
    before-near name n is near =
        own ∙ ap (turns (user_of state)) is
        ∙ advance-turns-near (user_of state) name n (settled_session session)
        (advance-held state command i session e there name n is) near

    pub before-measure : (name : List ℕ) → command ≡ Measure name → turns_before state command ≡ 1
    before-measure name is =
        own ∙ ap (turns (user_of state)) is
        ∙ measure-turns-one (user_of state) name (settled_session session) (measure-held state command i session e there name is)

    pub before-other : ((name : List ℕ) (n : ℕ) → command ≡ Advance name n → ⊥)
        → ((name : List ℕ) → command ≡ Measure name → ⊥) → turns_before state command ≡ 0
    before-other advance measure = own ∙ sym (no-turns (user_of state) command advance measure)
