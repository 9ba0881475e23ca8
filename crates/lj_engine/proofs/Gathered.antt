-- What a pool owes a user's sessions: what posts, results, turns and commands leave of it.
use Rattle.std.proofs.Common.{◌≡◌, ℕ, zero, suc, ◌<◌, Bool, true, false, cond, List, [], ◌∷◌, ◌++◌, length, Option}
use Rattle.std.proofs.Common.{Some, None, inl, inr, refl, sym, ap, ◌∙◌, subst, arith}
use Rattle.std.specs.Prelude.{IfSome, IsSome, IsSomeAnd, is_some}
use Rattle.std.specs.List.{filter, Contains, IsDistinct}
use Rattle.std.specs.Option.{option_and_then}
use Rattle.std.specs.Str.{bytes_eq}
use Rattle.std.proofs.lemmas.Bool.{true≢false}
use Rattle.std.proofs.lemmas.List.Elements.{filter-append, Contains-append_right}
use Rattle.std.proofs.lemmas.Option.{none-some, same_Some}
use Rattle.std.proofs.lemmas.Slice.Eq.{bytes_eq-Decides}
use Rattle.lj_base.specs.declared.names.Label.{Label}
use Rattle.lj_task.specs.declared.task_name.TaskName.{TaskName}
use Rattle.lj_task.specs.Task.{Task}
use Rattle.lj_step.specs.Sim.{OpenStep}
use Rattle.lj_step.specs.OpenSteps.{is_whole, tile_task, tile_number, tile_number_of, with_tile, IsAwaitedTask, IsAwaitedTaskIn}
use Rattle.lj_session.specs.declared.command.Command.{Command}
use Rattle.lj_session.specs.Turns.{waits_for}
use Rattle.lj_session.specs.UserState.{LiveSession, UserState, IsAtWork, IsAwaited, live_session, loaded_names, with_session_changed, with_posted, with_tile_in, with_passed_to}
use Rattle.lj_session.specs.UserState.{next_tile, next_of, is_whole_in}
use Rattle.lj_session.specs.Owner.{Owner, label_of, task_of_session, next_session, next_task_of, with_task_posted, with_task_in}
use Rattle.lj_session.specs.Owner.{IsAwaitedIn, ready_session}
use Rattle.lj_session.proofs.AtWork.{at_work-posted, at_work-taken}
use Rattle.lj_session.proofs.Entries.{by_test}
use Rattle.lj_session.proofs.Tiles.{find-passes, found-task, posted-live}
use Rattle.lj_end.specs.Accounts.{IsKnownByName}
use Rattle.lj_end.specs.Seen.{Seen, TakesOff, IsHandedOut}
use Rattle.lj_engine.specs.Gathering.{tasks_posted_in, tasks_posted_of, is_of_session, IsGathered, IsOpenFor, Gathers}
use Rattle.lj_engine.proofs.Gathering.{posted_some, posted_more, next_label, gathered_posted, posted_wanted, gathered_taken}
use Rattle.lj_engine.proofs.Gathering.{taken_off, taken_stray}
use Rattle.lj_session.proofs.Others.{loaded_names-changed}
use Rattle.lj_engine.proofs.Sessions.{same_name, there-changed, other-changed, find-none-named}

-- one that passes is among those that pass, and only then
contains-filter : {A : Type 0} (p : A → Bool) (x : A) → p x ≡ true → (xs : List A) → Contains xs x → Contains (filter p xs) x
contains-filter p x passes [] (k, within, is) = absurd (omega (arith, within))
contains-filter p x passes (y ∷ ys) (zero, within, is) =
    subst (λ b. Contains (cond b (y ∷ filter p ys) (filter p ys)) x) (sym (ap p is ∙ passes)) (0, omega arith, is)
contains-filter p x passes (y ∷ ys) (suc k, within, is) =
    let rest = contains-filter p x passes ys (k, omega (arith, within), is) in
    by_test (p y) (λ t. rw t (suc rest.0, omega (arith, rest.1), rest.2)) (λ t. rw t rest)

head_in : {A : Type 0} (b : Bool) (y : A) (ys zs : List A) (x : A) → Contains (cond b (y ∷ zs) zs) x
    → (Contains zs x → Contains ys x) → Contains (y ∷ ys) x
head_in false y ys zs x h rest = let there = rest h in (suc there.0, omega (arith, there.1), there.2)
head_in true y ys zs x (zero, within, is) rest = (0, omega arith, is)
head_in true y ys zs x (suc k, within, is) rest =
    let there = rest (k, omega (arith, within), is) in (suc there.0, omega (arith, there.1), there.2)

contains-filtered : {A : Type 0} (p : A → Bool) (x : A) (xs : List A) → Contains (filter p xs) x → Contains xs x
contains-filtered p x [] h = h
contains-filtered p x (y ∷ ys) h = head_in (p y) y ys (filter p ys) x h (contains-filtered p x ys)

-- what does not pass is left out
filter-without : {A : Type 0} (p : A → Bool) (x : A) → p x ≡ false → (front behind : List A)
    → filter p (front ++ x ∷ behind) ≡ filter p (front ++ behind)
filter-without p x fails front behind =
    filter-append p front (x ∷ behind)
    ∙ ap (λ b. filter p front ++ cond b (x ∷ filter p behind) (filter p behind)) fails
    ∙ sym (filter-append p front behind)

filter-with : {A : Type 0} (p : A → Bool) (x : A) → p x ≡ true → (front behind : List A)
    → filter p (front ++ x ∷ behind) ≡ filter p front ++ x ∷ filter p behind
filter-with p x passes front behind =
    filter-append p front (x ∷ behind)
    ∙ ap (λ b. filter p front ++ cond b (x ∷ filter p behind) (filter p behind)) passes

of_other : (name : List ℕ) (work : Task) → (work.name.label.session ≡ name → ⊥) → is_of_session name work ≡ false
of_other name work apart = by_test (is_of_session name work)
    (λ t. absurd (apart (sym ((bytes_eq-Decides name work.name.label.session).0 t))))
    (λ t. t)

-- one session changed, and what is owed of it
module _ (owner : Owner) (owed : List Task) (t : Gathers owner owed) (name : List ℕ) (session : LiveSession)
    (there : live_session owner.state name ≡ Some session) (change : LiveSession → LiveSession) (waiting : Option Command) (newer : List Task) where
  abbrev next : Owner
  next = record { state = with_session_changed name change owner.state; number = owner.number; waiting = waiting }

  pub gathers_changed : IsAtWork waiting (with_session_changed name change owner.state)
      → IfSome waiting (IsOpenFor (with_session_changed name change owner.state))
      → IsGathered (change session)
      → filter (is_of_session name) newer ≡ tasks_posted_of (label_of owner name) (Some (change session))
      → ((other : List ℕ) → (name ≡ other → ⊥) → filter (is_of_session other) newer ≡ filter (is_of_session other) owed)
      → Gathers next newer
  gathers_changed work waits gathered its others = record {
    at_work = work;
    waits = waits;
    distinct = subst (IsDistinct bytes_eq) (sym (loaded_names-changed owner.state name change)) t.distinct;
    gathered = λ other h found. by_test (bytes_eq name other)
        (λ e. let same = (bytes_eq-Decides name other).0 e in
        subst IsGathered (same_Some (change session) h
        (sym (there-changed owner.state name change session there) ∙ ap (live_session next.state) same ∙ found)) gathered)
        (λ e. t.gathered other h (sym (other-changed owner.state name change other (apart other e)) ∙ found));
    each = λ other. by_test (bytes_eq name other)
        (λ e. let same = (bytes_eq-Decides name other).0 e in
        subst (λ (n : List ℕ). filter (is_of_session n) newer ≡ tasks_posted_of (label_of owner n) (live_session next.state n)) same
        (its ∙ ap (tasks_posted_of (label_of owner name)) (sym (there-changed owner.state name change session there))))
        (λ e. others other (apart other e) ∙ t.each other
        ∙ ap (tasks_posted_of (label_of owner other)) (sym (other-changed owner.state name change other (apart other e))));
  }
    where
      apart : (other : List ℕ) → bytes_eq name other ≡ false → name ≡ other → ⊥
      apart other e same = true≢false (sym ((bytes_eq-Decides name other).1 same) ∙ e)

-- a change that leaves a step open where one is
open-changed : (state : UserState) (name : List ℕ) (change : LiveSession → LiveSession)
    → ((session : LiveSession) → IsSome session.live.part → IsSome (change session).live.part)
    → (waiting : Option Command) → IfSome waiting (IsOpenFor state) → IfSome waiting (IsOpenFor (with_session_changed name change state))
open-changed state name change stays None h = tt
open-changed state name change stays (Some command) h = by (waits_for command) refl h
  where
    at : (session_name : List ℕ) → IsSomeAnd (live_session state session_name) (λ session. IsSome session.live.part)
        → IsSomeAnd (live_session (with_session_changed name change state) session_name) (λ session. IsSome session.live.part)
    at session_name open_there = by_test (bytes_eq name session_name)
        (λ e. let same = (bytes_eq-Decides name session_name).0 e in
        subst (λ (n : List ℕ). IsSomeAnd (live_session (with_session_changed name change state) n) (λ session. IsSome session.live.part)) same
        (here (live_session state name) refl
        (subst (λ (n : List ℕ). IsSomeAnd (live_session state n) (λ session. IsSome session.live.part)) (sym same) open_there)))
        (λ e. subst (λ o. IsSomeAnd o (λ session. IsSome session.live.part))
        (sym (other-changed state name change session_name (λ same. true≢false (sym ((bytes_eq-Decides name session_name).1 same) ∙ e))))
        open_there)
      where
        here : (o : Option LiveSession) → live_session state name ≡ o → IsSomeAnd (live_session state name) (λ session. IsSome session.live.part)
            → IsSomeAnd (live_session (with_session_changed name change state) name) (λ session. IsSome session.live.part)
        here None e h = absurd (subst (λ o. IsSomeAnd o (λ session. IsSome session.live.part)) e h)
        here (Some session) e h =
            subst (λ o. IsSomeAnd o (λ session. IsSome session.live.part)) (sym (there-changed state name change session e))
            (stays session (subst (λ o. IsSomeAnd o (λ session. IsSome session.live.part)) e h))

    by : (o : Option (List ℕ)) → waits_for command ≡ o
        → IsSomeAnd (waits_for command) (λ session_name. IsSomeAnd (live_session state session_name) (λ session. IsSome session.live.part))
        → IsOpenFor (with_session_changed name change state) command
    by None e h = absurd (subst (λ o. IsSomeAnd o (λ session_name. IsSomeAnd (live_session state session_name) (λ session. IsSome session.live.part))) e h)
    by (Some session_name) e h =
        subst (λ o. IsSomeAnd o (λ session_name. IsSomeAnd (live_session (with_session_changed name change state) session_name) (λ session. IsSome session.live.part)))
        (sym e)
        (at session_name (subst (λ o. IsSomeAnd o (λ session_name. IsSomeAnd (live_session state session_name) (λ session. IsSome session.live.part))) e h))

not_some : {A : Type 0} (o : Option A) → o ≡ None → IsSome o → ⊥
not_some o e h = true≢false (sym h ∙ ap is_some e)

still_open : (session : LiveSession) (k : ℕ) → IsSome session.live.part → IsSome (with_tile_in k session).live.part
still_open session k h = by session.live.part refl h
  where
    by : (part : Option OpenStep) → session.live.part ≡ part → IsSome session.live.part → IsSome (with_tile k session.live.part)
    by None e h = absurd (not_some session.live.part e h)
    by (Some p) e h = rw e refl

module _ (owner : Owner) (owed : List Task) (t : Gathers owner owed) where
  -- a session of which a task is owed, or whose tile is awaited, has a step open
  pub record Opened (name : List ℕ) : Type 0 where
    pub session : LiveSession
    pub there : live_session owner.state name ≡ Some session
    pub step : OpenStep
    pub is_open : session.live.part ≡ Some step

  opened_by : (name : List ℕ) (P : Option LiveSession → Type 0) → (P None → ⊥) → ((session : LiveSession) → session.live.part ≡ None → P (Some session) → ⊥)
      → P (live_session owner.state name) → Opened name
  opened_by name P not_none not_closed h = by (live_session owner.state name) refl h
    where
      at : (session : LiveSession) → live_session owner.state name ≡ Some session → P (Some session) → (part : Option OpenStep) → session.live.part ≡ part
          → Opened name
      at session e p None is = absurd (not_closed session is p)
      at session e p (Some step) is = record { session = session; there = e; step = step; is_open = is }

      by : (o : Option LiveSession) → live_session owner.state name ≡ o → P (live_session owner.state name) → Opened name
      by None e h = absurd (not_none (subst P e h))
      by (Some session) e h = at session e (subst P e h) session.live.part refl

  none_in : {A : Type 0} (x : A) → Contains [] x → ⊥
  none_in x h = omega (arith, h.1)

  -- a task that is owed is awaited
  pub owed_wanted : (work : Task) → Contains owed work → IsAwaitedIn owner work
  owed_wanted work owes =
      let name = work.name.label.session in
      let posted : Contains (tasks_posted_of (label_of owner name) (live_session owner.state name)) work =
      subst (λ ws. Contains ws work) (t.each name) (contains-filter (is_of_session name) work (same_name name) owed owes) in
      let o = opened_by name (λ o. Contains (tasks_posted_of (label_of owner name) o) work) (none_in work)
      (λ session closed h. none_in work (subst (λ p. Contains (tasks_posted_in (label_of owner name) session.live session.passed p) work) closed h)) posted in
      subst (λ o. IsSomeAnd o (λ session. IsAwaitedTask session.live (label_of owner name) work)) (sym o.there)
      (posted_wanted o.session (label_of owner name) o.step o.is_open (t.gathered name o.session o.there) work
      (subst (λ o. Contains (tasks_posted_of (label_of owner name) o) work) o.there posted))

  -- what is taken off what is owed is awaited
  pub wanted_off : (work : Task) (old new : Seen) → old.owed ≡ owed → TakesOff work old new → IsAwaitedIn owner work
  wanted_off work old new same off =
      let there = Contains-append_right off.front (work ∷ off.behind) work (0, omega arith, refl) in
      owed_wanted work (subst (λ ws. Contains ws work) (sym off.was ∙ same) there)

  -- the result of a task that is awaited is in, and whatever is handed out with it, what is owed stays
  module _ (work : Task) (wanted : IsAwaitedIn owner work) where
    abbrev name : List ℕ
    name = work.name.label.session

    abbrev label : Label
    label = label_of owner work.name.label.session

    pub taken_open : Opened name
    taken_open = opened_by name (λ o. IsSomeAnd o (λ session. IsAwaitedTask session.live label work)) (λ h. h)
        (λ session closed h. subst (IsAwaitedTaskIn session.live label work) closed h) wanted

    abbrev o : Opened work.name.label.session
    o = taken_open

    pub taken_wanted : IsAwaitedTaskIn o.session.live label work o.session.live.part
    taken_wanted = subst (λ h. IsSomeAnd h (λ session. IsAwaitedTask session.live label work)) o.there wanted

    gathered_there : IsGathered o.session
    gathered_there = t.gathered name o.session o.there

    pub gathers_taken : (old new : Seen) → old.owed ≡ owed → IsHandedOut work old new → Gathers (with_task_in work owner) new.owed
    gathers_taken old new same handed =
        gathers_changed owner owed t name o.session o.there (with_tile_in (tile_number_of work)) owner.waiting new.owed
        (at_work-taken owner.waiting owner.state name (tile_number_of work) t.at_work)
        (open-changed owner.state name (with_tile_in (tile_number_of work)) (λ session. still_open session (tile_number_of work))
        owner.waiting t.waits)
        (gathered_taken o.session label o.step o.is_open gathered_there work taken_wanted)
        (its handed) (λ other apart. others other apart handed)
      where
        posted : filter (is_of_session name) old.owed ≡ tasks_posted_of label (Some o.session)
        posted = ap (filter (is_of_session name)) same ∙ t.each name ∙ ap (tasks_posted_of label) o.there

        its : IsHandedOut work old new
            → filter (is_of_session name) new.owed ≡ tasks_posted_of label (Some (with_tile_in (tile_number_of work) o.session))
        its (inl off) =
            ap (filter (is_of_session name)) off.owed
            ∙ filter-append (is_of_session name) off.front off.behind
            ∙ sym (taken_off o.session label o.step o.is_open gathered_there work taken_wanted
            (filter (is_of_session name) off.front) (filter (is_of_session name) off.behind)
            (sym posted ∙ ap (filter (is_of_session name)) off.was ∙ filter-with (is_of_session name) work (same_name name) off.front off.behind)
            (λ h. off.first (contains-filtered (is_of_session name) work off.front h)))
        its (inr stray) =
            ap (filter (is_of_session name)) stray.owed ∙ posted
            ∙ sym (taken_stray o.session label o.step o.is_open gathered_there work taken_wanted
            (λ h. stray.absent (contains-filtered (is_of_session name) work old.owed (subst (λ ws. Contains ws work) (sym posted) h))))

        others : (other : List ℕ) → (name ≡ other → ⊥) → IsHandedOut work old new
            → filter (is_of_session other) new.owed ≡ filter (is_of_session other) owed
        others other apart (inl off) =
            ap (filter (is_of_session other)) off.owed
            ∙ sym (filter-without (is_of_session other) work (of_other other work apart) off.front off.behind)
            ∙ ap (filter (is_of_session other)) (sym off.was ∙ same)
        others other apart (inr stray) = ap (filter (is_of_session other)) (stray.owed ∙ same)

  -- a task that is owed and has the name of one that is awaited is that one
  pub known_by_name : (work : Task) → IsAwaitedIn owner work → IsKnownByName owed work
  known_by_name work wanted other owes named =
      let o = taken_open work wanted in
      let label = label_of owner work.name.label.session in
      let mine = subst (IsAwaitedTaskIn o.session.live label work) o.is_open (taken_wanted work wanted) in
      let its : IsAwaited owner.state label other =
      subst (λ n. IsAwaited owner.state (label_of owner n) other) (ap (λ (n : TaskName). n.label.session) named)
      (owed_wanted other owes) in
      let there = subst (IsAwaitedTaskIn o.session.live label other) o.is_open
      (subst (λ h. IsSomeAnd h (λ session. IsAwaitedTask session.live label other)) o.there its) in
      there.1 ∙ ap (λ (n : TaskName). tile_task o.session.live label o.step.kind (tile_number n.bi n.bj)) named ∙ sym mine.1

  -- the session of the next task
  pub record Posting (work : Task) : Type 0 where
    pub name : List ℕ
    pub next : next_session owner ≡ Some name
    pub session : LiveSession
    pub there : live_session owner.state name ≡ Some session
    pub step : OpenStep
    pub is_open : session.live.part ≡ Some step
    pub place : ℕ
    pub next_place : next_tile session ≡ Some place
    pub task : next_of (label_of owner name) (Some session) ≡ Some work

  pub posting : (work : Task) → next_task_of owner ≡ Some work → Posting work
  posting work some = by (next_session owner) refl
    where
      closed_none : (label : Label) (session : LiveSession) → session.live.part ≡ None → next_of label (Some session) ≡ Some work → ⊥
      closed_none label session closed h = by (next_tile session) refl
        where
          by : (o : Option ℕ) → next_tile session ≡ o → ⊥
          by None e = none-some work (sym (rw e refl) ∙ h)
          by (Some i) e = none-some work (sym (rw (e, closed) refl) ∙ h)

      placed : (name : List ℕ) → next_session owner ≡ Some name → (o : Opened name)
          → next_of (label_of owner name) (Some o.session) ≡ Some work → (p : Option ℕ) → next_tile o.session ≡ p → Posting work
      placed name is o task None e =
          absurd (true≢false (sym (ap is_some task) ∙ found-task o.session (label_of owner name) ∙ ap is_some e))
      placed name is o task (Some i) e = record {
        name = name;
        next = is;
        session = o.session;
        there = o.there;
        step = o.step;
        is_open = o.is_open;
        place = i;
        next_place = e;
        task = task;
      }

      by : (n : Option (List ℕ)) → next_session owner ≡ n → Posting work
      by None e = absurd (none-some work (sym (ap (option_and_then (task_of_session owner)) e) ∙ some))
      by (Some name) e =
          let its : next_of (label_of owner name) (live_session owner.state name) ≡ Some work =
          sym (ap (option_and_then (task_of_session owner)) e) ∙ some in
          let o = opened_by name (λ o. next_of (label_of owner name) o ≡ Some work) (none-some work)
          (λ session closed h. closed_none (label_of owner name) session closed h) its in
          placed name e o (subst (λ h. next_of (label_of owner name) h ≡ Some work) o.there its) (next_tile o.session) refl

  module _ (work : Task) (some : next_task_of owner ≡ Some work) where
    abbrev p : Posting work
    p = posting work some

    abbrev after : LiveSession → LiveSession
    after session = with_posted session

    posted_is : with_posted p.session ≡ with_passed_to (Some p.place) p.session
    posted_is = ap (λ o. with_passed_to o p.session) p.next_place

    pub with_task_posted_is : with_task_posted owner ≡ record { state = with_session_changed p.name with_posted owner.state; number = owner.number; waiting = owner.waiting }
    with_task_posted_is = rw p.next refl

    -- it is owed after the others
    pub gathers_posted : Gathers (with_task_posted owner) (owed ++ work ∷ [])
    gathers_posted =
        let label = label_of owner p.name in
        let g = t.gathered p.name p.session p.there in
        let same_session : work.name.label.session ≡ p.name =
        ap (λ (l : Label). l.session) (next_label p.session label p.step p.is_open g p.place p.next_place work p.task) in
        subst (λ (o : Owner). Gathers o (owed ++ work ∷ [])) (sym with_task_posted_is)
        (gathers_changed owner owed t p.name p.session p.there with_posted owner.waiting (owed ++ work ∷ [])
        (at_work-posted owner.waiting owner.state p.name t.at_work)
        (open-changed owner.state p.name with_posted (λ session h. subst (λ l. IsSome l.part) (sym (posted-live session)) h) owner.waiting t.waits)
        (subst IsGathered (sym posted_is) (gathered_posted p.session label p.step p.is_open g p.place p.next_place))
        (filter-with (is_of_session p.name) work (ap (bytes_eq p.name) same_session ∙ same_name p.name) owed []
        ∙ ap (λ ws. ws ++ work ∷ []) (t.each p.name ∙ ap (tasks_posted_of label) p.there)
        ∙ sym (posted_more p.session label p.step p.is_open g p.place p.next_place work p.task)
        ∙ ap (λ h. tasks_posted_of label (Some h)) (sym posted_is))
        (λ other apart. filter-without (is_of_session other) work (of_other other work (λ same. apart (sym same_session ∙ same))) owed []
        ∙ ap (filter (is_of_session other)) (append-none owed)))
      where
        append-none : (ws : List Task) → ws ++ [] ≡ ws
        append-none [] = refl
        append-none (w ∷ ws) = ap (λ l. w ∷ l) (append-none ws)

  -- while something waits, no session is whole and no task is left to post, some are owed
  pub owes_some : IsSome owner.waiting → ready_session owner ≡ None → next_task_of owner ≡ None → 0 < length owed
  owes_some waits none_ready no_task = by owner.waiting refl
    where
      at : (name : List ℕ) (session : LiveSession) → live_session owner.state name ≡ Some session → (step : OpenStep) → session.live.part ≡ Some step
          → 0 < length owed
      at name session e step is =
          let going : is_whole session.live.part ≡ false =
          sym (rw e refl) ∙ find-none-named (is_whole_in owner.state) owner.state.sessions name session none_ready e in
          let label = label_of owner name in
          let none : is_some (next_tile session) ≡ false =
          sym (found-task session label) ∙ sym (ap (λ o. is_some (next_of label o)) e)
          ∙ find-none-named (λ n. is_some (task_of_session owner n)) owner.state.sessions name session
          (none_next (next_session owner) refl) e in
          some_owed owed refl (λ posted. posted_some session label step is (t.gathered name session e) going
          (none_of (next_tile session) none) (ap (tasks_posted_of label) (sym e) ∙ posted))
        where
          none_of : (o : Option ℕ) → is_some o ≡ false → o ≡ None
          none_of None k = refl
          none_of (Some i) k = absurd (true≢false k)

          none_next : (o : Option (List ℕ)) → next_session owner ≡ o → next_session owner ≡ None
          none_next None k = k
          none_next (Some n) k =
              let its : is_some (task_of_session owner n) ≡ true =
              find-passes (λ n. is_some (task_of_session owner n)) (loaded_names owner.state) n k in
              absurd (true≢false (sym its ∙ ap is_some (sym (ap (option_and_then (task_of_session owner)) k) ∙ no_task)))

          some_owed : (ws : List Task) → owed ≡ ws → (tasks_posted_of (label_of owner name) (live_session owner.state name) ≡ [] → ⊥)
              → 0 < length owed
          some_owed [] k some = absurd (some (sym (t.each name) ∙ ap (filter (is_of_session name)) k))
          some_owed (w ∷ ws) k some = rw k (omega arith)

      opened : (command : Command) → owner.waiting ≡ Some command → (o : Option (List ℕ)) → waits_for command ≡ o → 0 < length owed
      opened command e None k = absurd (subst (λ o. IsSomeAnd o (λ name. IsSomeAnd (live_session owner.state name) (λ session. IsSome session.live.part))) k
          (subst (λ o. IfSome o (IsOpenFor owner.state)) e t.waits))
      opened command e (Some name) k =
          let h = subst (λ o. IsSomeAnd o (λ name. IsSomeAnd (live_session owner.state name) (λ session. IsSome session.live.part))) k
          (subst (λ o. IfSome o (IsOpenFor owner.state)) e t.waits) in
          let o = opened_by name (λ o. IsSomeAnd o (λ session. IsSome session.live.part)) (λ h. h)
          (λ session closed h. not_some session.live.part closed h) h in
          at name o.session o.there o.step o.is_open

      by : (o : Option Command) → owner.waiting ≡ o → 0 < length owed
      by None e = absurd (not_some owner.waiting e waits)
      by (Some command) e = opened command e (waits_for command) refl
