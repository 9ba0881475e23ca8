-- States whose steps are begun anew: what is to come of them, and that nothing is owed then where no step is pending.
use Rattle.std.proofs.Common.{◌≡◌, ℕ, ◌<◌, ◌≤◌, nat_lt, Bool, true, false, ◌||◌, is_some, List, [], ◌∷◌, map, Option, Some, None, refl, sym, ap}
use Rattle.std.proofs.Common.{◌∙◌, subst, arith}
use Rattle.std.specs.List.{IsDistinct, Contains, filter, find, sum_by}
use Rattle.std.specs.Option.{option_map, option_map_or}
use Rattle.std.specs.Str.{bytes_eq}
use Rattle.std.proofs.lemmas.Bool.{ltb-true, ltb-false}
use Rattle.std.proofs.lemmas.List.Sums.{sum_by-cons}
use Rattle.std.proofs.lemmas.Option.{none-some, same_Some}
use Rattle.lj_task.specs.Task.{Task}
use Rattle.lj_session.specs.UserState.{LiveSession, UserState, IsAtWork, live_session, pending_in, loaded_names, with_step_restarted, with_steps_restarted}
use Rattle.lj_session.specs.Owner.{Owner, owner_of_state, label_of, has_pending, is_busy, next_task_of}
use Rattle.lj_session.proofs.AtWork.{at_work-rested, kind-none}
use Rattle.lj_session.proofs.Entries.{by_test, named-seen}
use Rattle.lj_session.proofs.Holding.{pending-of}
use Rattle.lj_engine.specs.Gathering.{IsGathered, is_of_session, tasks_posted_of, Gathers, NonePending}
use Rattle.lj_engine.specs.Counting.{pending_tiles, tiles_pending}
use Rattle.lj_engine.specs.Coming.{tiles_of_session, state_tiles_coming}
use Rattle.lj_engine.proofs.Sessions.{same_name, sum-below, find-none-named}
use Rattle.lj_engine.proofs.Gathered.{Opened, Posting, owed_wanted, posting, taken_open}
use Rattle.lj_engine.proofs.Tiles.{rest-tiles, rest-pending, rest-more, rest-gathered, rest-posted, closed-part, closed-posted}

-- sums over the sessions of a state begun anew
rested-sum : (f g : LiveSession → ℕ) → ((session : LiveSession) → f (with_step_restarted session) ≡ g session) → (es : List (List ℕ × LiveSession))
    → sum_by (λ (e : List ℕ × LiveSession). f e.1) (map (λ (e : List ℕ × LiveSession). (e.0, with_step_restarted e.1)) es)
    ≡ sum_by (λ (e : List ℕ × LiveSession). g e.1) es
rested-sum f g same [] = refl
rested-sum f g same (e ∷ es) =
    let new = sum_by-cons (λ (e : List ℕ × LiveSession). f e.1) (e.0, with_step_restarted e.1) (map (λ (e : List ℕ × LiveSession). (e.0, with_step_restarted e.1)) es) in
    let old = sum_by-cons (λ (e : List ℕ × LiveSession). g e.1) e es in
    let head = same e.1 in
    let tail = rested-sum f g same es in
    omega (arith, new, old, head, tail)

pub rested-tiles : (state : UserState) → state_tiles_coming (with_steps_restarted state) ≡ tiles_pending state
rested-tiles state = rested-sum tiles_of_session pending_tiles rest-tiles state.sessions

rested-pending_tiles : (state : UserState) → tiles_pending (with_steps_restarted state) ≡ tiles_pending state
rested-pending_tiles state = rested-sum pending_tiles pending_tiles rest-pending state.sessions

rested-there : (state : UserState) (name : List ℕ) → live_session (with_steps_restarted state) name ≡ option_map with_step_restarted (live_session state name)
rested-there state name = named-seen with_step_restarted name state.sessions

-- as many steps are pending in each session
rest-count : (session : LiveSession) → (with_step_restarted session).pending ≡ session.pending
rest-count session = by_test (nat_lt 0 session.pending) (λ t. rw t refl) (λ t. rw t refl)

pub rested-pending : (state : UserState) (name : List ℕ) → pending_in (with_steps_restarted state) name ≡ pending_in state name
rested-pending state name = ap (λ o. option_map_or (λ (h : LiveSession). h.pending) o 0) (rested-there state name) ∙ by (live_session state name)
  where
    by : (o : Option LiveSession) → option_map_or (λ (h : LiveSession). h.pending) (option_map with_step_restarted o) 0 ≡ option_map_or (λ (h : LiveSession). h.pending) o 0
    by None = refl
    by (Some session) = rest-count session

-- no more is to come of a state than of the same begun anew
pub rested-few : (owner : Owner) (owed : List Task) → Gathers owner owed → owner.waiting ≡ None
    → state_tiles_coming owner.state ≤ tiles_pending (with_steps_restarted owner.state)
rested-few owner owed t idle =
    let below = sum-below tiles_of_session owner.state.sessions (with_steps_restarted owner.state).sessions t.distinct more in
    let all = rested-tiles owner.state in
    let same = rested-pending_tiles owner.state in
    omega (arith, below, all, same)
  where
    work : IsAtWork None owner.state
    work = subst (λ w. IsAtWork w owner.state) idle t.at_work

    more : (name : List ℕ) (session : LiveSession) → live_session owner.state name ≡ Some session
        → tiles_of_session session ≤ option_map_or tiles_of_session (live_session (with_steps_restarted owner.state) name) 0
    more name session found =
        let there = ap (λ o. option_map_or tiles_of_session o 0) (rested-there owner.state name ∙ ap (option_map with_step_restarted) found) in
        let is = rest-tiles session in
        let few = rest-more session (t.gathered name session found) (work name session found) in
        omega (arith, there, is, few)

-- an owner that has just been given a state is owed nothing
pub gathers-entered : (state : UserState) (number : ℕ) → IsDistinct bytes_eq (loaded_names (with_steps_restarted state)) → Gathers (owner_of_state state number) []
gathers-entered state number distinct = record {
  at_work = at_work-rested state;
  waits = tt;
  distinct = distinct;
  gathered = λ name session found. by name session found (live_session state name) refl;
  each = λ name. sym (posted name (live_session state name) refl);
}
  where
    by : (name : List ℕ) (session : LiveSession) → live_session (with_steps_restarted state) name ≡ Some session → (o : Option LiveSession) → live_session state name ≡ o
        → IsGathered session
    by name session found None e = absurd (none-some session (sym (rested-there state name ∙ ap (option_map with_step_restarted) e) ∙ found))
    by name session found (Some was) e =
        subst IsGathered
        (same_Some (with_step_restarted was) session (sym (rested-there state name ∙ ap (option_map with_step_restarted) e) ∙ found)) (rest-gathered was)

    posted : (name : List ℕ) (o : Option LiveSession) → live_session state name ≡ o
        → tasks_posted_of (label_of (owner_of_state state number) name) (live_session (with_steps_restarted state) name) ≡ []
    posted name None e = ap (tasks_posted_of (label_of (owner_of_state state number) name)) (rested-there state name ∙ ap (option_map with_step_restarted) e)
    posted name (Some was) e =
        ap (tasks_posted_of (label_of (owner_of_state state number) name)) (rested-there state name ∙ ap (option_map with_step_restarted) e)
        ∙ rest-posted was (label_of (owner_of_state state number) name)

none-found : {A : Type 0} (o : Option A) → is_some o ≡ false → o ≡ None
none-found None e = refl
none-found (Some a) e = absurd (let differ : true ≡ false = e in cc)

first-false : (a b : Bool) → (a || b) ≡ false → a ≡ false
first-false false b e = refl
first-false true b e = absurd (let differ : true ≡ false = e in cc)

pending-named : (owner : Owner) → is_busy owner ≡ false → (name : List ℕ) (o : Option LiveSession)
    → live_session owner.state name ≡ o → pending_in owner.state name ≡ 0
pending-named owner quiet name None e = ap (λ s. option_map_or (λ (h : LiveSession). h.pending) s 0) e
pending-named owner quiet name (Some session) e =
    let none = find-none-named (has_pending owner) owner.state.sessions name session
    (none-found (find (has_pending owner) (loaded_names owner.state)) quiet) e in
    let at_most = ltb-false 0 (pending_in owner.state name)
    (first-false (nat_lt 0 (pending_in owner.state name)) _ none) in
    omega (arith, at_most)

-- no step is pending where no session has one to make
pub not-busy : (owner : Owner) → is_busy owner ≡ false → NonePending owner.state
not-busy owner quiet name = pending-named owner quiet name (live_session owner.state name) refl

-- nothing waits, and these tasks are owed
module _ (owner : Owner) (owed : List Task) (t : Gathers owner owed) (idle : owner.waiting ≡ None) where
  work : IsAtWork None owner.state
  work = subst (λ w. IsAtWork w owner.state) idle t.at_work

  none_posted : (name : List ℕ) → pending_in owner.state name ≡ 0 → (o : Option LiveSession) → live_session owner.state name ≡ o
      → tasks_posted_of (label_of owner name) (live_session owner.state name) ≡ []
  none_posted name none None e = ap (tasks_posted_of (label_of owner name)) e
  none_posted name none (Some session) e =
      ap (tasks_posted_of (label_of owner name)) e
      ∙ closed-posted session (label_of owner name) (closed-part session.live.part
      (work name session e ∙ kind-none None name session (pending-of owner.state name session e none) refl))

  -- the session of a task has a pending step
  not_none : (w : Task) (ws : List Task) → owed ≡ w ∷ ws → pending_in owner.state w.name.label.session ≡ 0 → ⊥
  not_none w ws e none =
      let name = w.name.label.session in
      let empty : filter (is_of_session name) (w ∷ ws) ≡ [] =
      ap (filter (is_of_session name)) (sym e) ∙ t.each name ∙ none_posted name none (live_session owner.state name) refl in
      let here = same_name name in
      absurd (let k = rw here at empty in cc)

  -- where the sessions have no pending steps, the pool owes nothing
  pub none-owed : NonePending (with_steps_restarted owner.state) → owed ≡ []
  none-owed none = by owed refl
    where
      by : (ws : List Task) → owed ≡ ws → owed ≡ []
      by [] e = e
      by (w ∷ ws) e =
          absurd (not_none w ws e (sym (rested-pending owner.state w.name.label.session) ∙ none w.name.label.session))

  -- where no step is pending, the pool owes nothing
  pub quiet-owed : NonePending owner.state → owed ≡ []
  quiet-owed none = by owed refl
    where
      by : (ws : List Task) → owed ≡ ws → owed ≡ []
      by [] e = e
      by (w ∷ ws) e = absurd (not_none w ws e (none w.name.label.session))

  -- where no step is pending, no tile waits to be posted
  pub quiet-next : NonePending owner.state → next_task_of owner ≡ None
  quiet-next none = by (next_task_of owner) refl
    where
      by : (o : Option Task) → next_task_of owner ≡ o → next_task_of owner ≡ None
      by None e = e
      by (Some task) e =
          let p : Posting owner owed t task = posting owner owed t task e in
          let quiet = pending-of owner.state p.name p.session p.there (none p.name) in
          absurd (none-some p.step (sym (closed-part p.session.live.part
          (work p.name p.session p.there ∙ kind-none None p.name p.session quiet refl)) ∙ p.is_open))

  -- the session of each task that it owes has a pending step
  pub owed-pending : (task : Task) → Contains owed task → 0 < pending_in owner.state task.name.label.session
  owed-pending task there =
      by_test (nat_lt 0 (pending_in owner.state name)) (λ yes. ltb-true 0 (pending_in owner.state name) yes)
      (λ no. absurd (let none = ltb-false 0 (pending_in owner.state name) no in closed (omega (arith, none))))
    where
      name : List ℕ
      name = task.name.label.session

      opened : Opened owner owed t name
      opened = taken_open owner owed t task (owed_wanted owner owed t task there)

      closed : pending_in owner.state name ≡ 0 → ⊥
      closed none = none-some opened.step (sym (closed-part opened.session.live.part (work name opened.session opened.there
          ∙ kind-none None name opened.session (pending-of owner.state name opened.session opened.there none) refl)) ∙ opened.is_open)
