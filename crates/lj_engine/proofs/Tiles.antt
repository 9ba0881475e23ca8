-- The tiles that are to come of one session: as its steps are added, opened, turned and begun anew.
use Rattle.std.proofs.Common.{◌≡◌, ℕ, zero, suc, ◌+◌, ◌-◌, ◌<◌, ◌≤◌, true, false, ◌&&◌, nat_le, nat_lt, [], length, Option, Some, None}
use Rattle.std.proofs.Common.{refl, sym, ap, ◌∙◌, subst, arith}
use Rattle.std.proofs.lemmas.Bool.{lt-ltb, lt-leb, ltb-true, ltb-false}
use Rattle.std.proofs.lemmas.Option.{none-some}
use Rattle.lj_task.specs.Species.{Composition}
use Rattle.lj_task.specs.declared.task_name.Kind.{Kind}
use Rattle.lj_task.specs.declared.task_name.Kind.TheVariants.{Force}
use Rattle.lj_base.specs.declared.names.Label.{Label}
use Rattle.lj_step.specs.Sim.{Sim, OpenStep}
use Rattle.lj_step.specs.Motion.{Simulation, next_simulation, steps}
use Rattle.lj_step.specs.OpenSteps.{cover, kind_of, tiles_of, tiles_in}
use Rattle.lj_session.specs.Answers.{can_advance}
use Rattle.lj_session.specs.UserState.{LiveSession, settled_session, with_more_pending, with_start, with_step, with_step_taken, with_step_finished, with_no_step, with_step_restarted, kind_pending, IsIdle}
use Rattle.lj_session.proofs.Entries.{by_test}
use Rattle.lj_session.proofs.AtWork.{kind-none}
use Rattle.lj_engine.specs.Gathering.{tiles_left_in, tasks_posted_in, tasks_posted_of, IsGathered}
use Rattle.lj_end.specs.Accounts.{occurrences}
use Rattle.lj_engine.specs.Counting.{frame_tiles, steps_tiles, advance_tiles, pending_tiles}
use Rattle.lj_engine.specs.Coming.{tiles_after, tiles_of_session, posts_of_session}
use Rattle.lj_engine.proofs.Gathering.{opened_left, gathered_opened, gathered_closed}

pub tiles-add : (u : Composition) (m n : ℕ) (sim : Simulation)
    → steps_tiles u (m + n) sim ≡ steps_tiles u m sim + steps_tiles u n (steps u m sim)
tiles-add u zero n sim = ap (λ k. steps_tiles u k sim) (let same : 0 + n ≡ n = omega arith in same) ∙ omega arith
tiles-add u (suc m) n sim =
    let rest = tiles-add u m n (next_simulation u sim) in
    ap (λ k. steps_tiles u k sim) (let same : suc m + n ≡ suc (m + n) = omega arith in same)
    ∙ (let sum : frame_tiles u sim + steps_tiles u (m + n) (next_simulation u sim)
    ≡ frame_tiles u sim + steps_tiles u m (next_simulation u sim) + steps_tiles u n (steps u m (next_simulation u sim)) = omega (arith, rest) in sum)

tiles-suc : (u : Composition) (n : ℕ) (sim : Simulation) → 0 < n
    → steps_tiles u n sim ≡ frame_tiles u sim + steps_tiles u (n - 1) (next_simulation u sim)
tiles-suc u zero sim some = absurd (omega (arith, some))
tiles-suc u (suc n) sim some =
    ap (λ m. frame_tiles u sim + steps_tiles u m (next_simulation u sim)) (let same : n ≡ suc n - 1 = omega arith in same)

pub closed-part : (part : Option OpenStep) → kind_of part ≡ None → part ≡ None
closed-part None e = refl
closed-part (Some p) e = absurd (none-some p.kind (sym e))

-- a session that is idle has none to come
module _ (session : LiveSession) (idle : IsIdle session) where
  closed : session.live.part ≡ None
  closed = closed-part session.live.part idle.closed

  nothing : tiles_after session ≡ 0
  nothing = ap (λ n. steps_tiles session.live.composition (n - 1) (next_simulation session.live.composition session.live.sim)) idle.pending

  pub idle-tiles : tiles_of_session session ≡ 0
  idle-tiles = let left = ap tiles_left_in closed in omega (arith, left, nothing)

  pub idle-posts : posts_of_session session ≡ 0
  idle-posts =
      let none : tiles_of session.live ≡ 0 = ap (tiles_in session.live.composition session.live.sim.cur) closed in
      omega (arith, none, nothing)

  pub idle-gathered : IsGathered session
  idle-gathered = gathered_closed session closed

-- a step opened, and those that are pending after it
pub opened-tiles : (kind : Kind) (session : LiveSession)
    → tiles_of_session (with_step kind session) ≡ frame_tiles session.live.composition session.live.sim + tiles_after session
opened-tiles kind session =
    ap (λ n. n + tiles_after session) (opened_left kind session.live.composition session.live.sim.cur)

pub opened-posts : (kind : Kind) (session : LiveSession)
    → posts_of_session (with_step kind session) ≡ frame_tiles session.live.composition session.live.sim + tiles_after session
opened-posts kind session = omega arith

-- steps added to an idle session
module _ (session : LiveSession) (idle : IsIdle session) (n : ℕ) (some : 0 < n) where
  added_is : with_more_pending n session ≡ with_step Force (record session { pending = session.pending + n })
  added_is =
      let b : nat_lt 0 n ≡ true = lt-ltb 0 n some in
      let c : nat_le session.pending 0 ≡ true = rw idle.pending refl in
      rw (b, c) refl

  sum_is : frame_tiles session.live.composition session.live.sim + tiles_after (record session { pending = session.pending + n })
      ≡ steps_tiles session.live.composition n session.live.sim
  sum_is =
      ap (λ k. frame_tiles session.live.composition session.live.sim
      + steps_tiles session.live.composition k (next_simulation session.live.composition session.live.sim))
      (let same : session.pending + n - 1 ≡ n - 1 = let none = idle.pending in omega (arith, none) in same)
      ∙ sym (tiles-suc session.live.composition n session.live.sim some)

  pub added-tiles : tiles_of_session (with_more_pending n session) ≡ steps_tiles session.live.composition n session.live.sim
  added-tiles = ap tiles_of_session added_is ∙ opened-tiles Force (record session { pending = session.pending + n }) ∙ sum_is

  pub added-posts : posts_of_session (with_more_pending n session) ≡ steps_tiles session.live.composition n session.live.sim
  added-posts = ap posts_of_session added_is ∙ opened-posts Force (record session { pending = session.pending + n }) ∙ sum_is

  pub added-gathered : IsGathered (with_more_pending n session)
  added-gathered = subst IsGathered (sym added_is) (gathered_opened Force (record session { pending = session.pending + n }))

  pub added-posted : (label : Label) → tasks_posted_of label (Some (with_more_pending n session)) ≡ []
  added-posted label = ap (λ (h : LiveSession). tasks_posted_of label (Some h)) added_is

  pub added-open : (with_more_pending n session).live.part ≡ (with_step Force session).live.part
  added-open = ap (λ (h : LiveSession). h.live.part) added_is

-- a step passed
module _ (session : LiveSession) where
  next : LiveSession
  next = with_step_taken session

  passed_sum : 0 < session.pending - 1
      → frame_tiles session.live.composition (next_simulation session.live.composition session.live.sim)
      + steps_tiles session.live.composition (session.pending - 1 - 1)
      (next_simulation session.live.composition (next_simulation session.live.composition session.live.sim)) ≡ tiles_after session
  passed_sum some =
      sym (tiles-suc session.live.composition (session.pending - 1) (next_simulation session.live.composition session.live.sim) some)

  last_sum : session.pending - 1 ≤ 0 → steps_tiles session.live.composition (session.pending - 1 - 1)
      (next_simulation session.live.composition (next_simulation session.live.composition session.live.sim)) ≡ tiles_after session
  last_sum none =
      let zero_left : session.pending - 1 ≡ 0 = omega (arith, none) in rw zero_left refl

  pub passed-tiles : tiles_of_session (with_step_finished session) ≡ tiles_after session
  passed-tiles = by_test (nat_lt 0 (session.pending - 1))
      (λ t. rw t (opened-tiles Force (with_step_taken session) ∙ passed_sum (ltb-true 0 (session.pending - 1) t)))
      (λ t. rw t (let none = last_sum (ltb-false 0 (session.pending - 1) t) in omega (arith, none)))

  pub passed-posts : posts_of_session (with_step_finished session) ≡ tiles_after session
  passed-posts = by_test (nat_lt 0 (session.pending - 1))
      (λ t. rw t (opened-posts Force (with_step_taken session) ∙ passed_sum (ltb-true 0 (session.pending - 1) t)))
      (λ t. rw t (let none = last_sum (ltb-false 0 (session.pending - 1) t) in omega (arith, none)))

  pub passed-pending : (with_step_finished session).pending ≡ session.pending - 1
  passed-pending = by_test (nat_lt 0 (session.pending - 1)) (λ t. rw t refl) (λ t. rw t refl)

  pub passed-posted : (label : Label) → tasks_posted_of label (Some (with_step_finished session)) ≡ []
  passed-posted label = by_test (nat_lt 0 (session.pending - 1)) (λ t. rw t refl) (λ t. rw t refl)

  pub passed-gathered : IsGathered (with_step_finished session)
  passed-gathered = by_test (nat_lt 0 (session.pending - 1))
      (λ t. rw t (gathered_opened Force (with_step_taken session)))
      (λ t. rw t (gathered_closed (with_step_taken session) refl))

  -- the steps begun anew
  pub rest-tiles : tiles_of_session (with_step_restarted session) ≡ pending_tiles session
  rest-tiles = by_test (nat_lt 0 session.pending)
      (λ t. rw t (opened-tiles Force session ∙ sym (tiles-suc session.live.composition session.pending session.live.sim (ltb-true 0 session.pending t))))
      (λ t. rw t (let few = ltb-false 0 session.pending t in let none : session.pending ≡ 0 = omega (arith, few) in rw none refl))

  pub rest-pending : pending_tiles (with_step_restarted session) ≡ pending_tiles session
  rest-pending = by_test (nat_lt 0 session.pending) (λ t. rw t refl) (λ t. rw t refl)

  pub rest-gathered : IsGathered (with_step_restarted session)
  rest-gathered = by_test (nat_lt 0 session.pending)
      (λ t. rw t (gathered_opened Force session))
      (λ t. rw t (gathered_closed (with_no_step session) refl))

  pub rest-posted : (label : Label) → tasks_posted_of label (Some (with_step_restarted session)) ≡ []
  rest-posted label = by_test (nat_lt 0 session.pending) (λ t. rw t refl) (λ t. rw t refl)

  -- no more are to come than the pending steps have
  pub rest-more : IsGathered session → kind_of session.live.part ≡ kind_pending None [] session → tiles_of_session session ≤ pending_tiles session
  rest-more gathered work = by_test (nat_lt 0 session.pending)
      (λ t. let all = tiles-suc session.live.composition session.pending session.live.sim (ltb-true 0 session.pending t) in
      let few = gathered.few in omega (arith, all, few))
      (λ t. let few = ltb-false 0 session.pending t in
      let none : session.pending ≡ 0 = omega (arith, few) in
      let idle = idle-tiles session (record { pending = none; closed = work ∙ kind-none None [] session none refl }) in
      omega (arith, idle))

-- a START adds the tiles of its steps
module _ (session : LiveSession) (n : ℕ) (work : kind_of session.live.part ≡ kind_pending None [] session) where
  abbrev u : Composition
  u = session.live.composition

  meant_after : 0 < session.pending → steps u (session.pending - 1) (next_simulation u session.live.sim) ≡ (settled_session session).sim
  meant_after some = by session.pending some
    where
      by : (m : ℕ) → 0 < m → steps u (m - 1) (next_simulation u session.live.sim) ≡ steps u m session.live.sim
      by zero some = absurd (omega (arith, some))
      by (suc m) some = ap (λ k. steps u k (next_simulation u session.live.sim)) (let same : suc m - 1 ≡ m = omega arith in same)

  more_after : 0 < session.pending → steps_tiles u (session.pending + n - 1) (next_simulation u session.live.sim)
      ≡ tiles_after session + steps_tiles u n (settled_session session).sim
  more_after some =
      ap (λ k. steps_tiles u k (next_simulation u session.live.sim)) (let same : session.pending + n - 1 ≡ session.pending - 1 + n = omega (arith, some) in same)
      ∙ tiles-add u (session.pending - 1) n (next_simulation u session.live.sim)
      ∙ ap (λ sim. tiles_after session + steps_tiles u n sim) (meant_after some)

  idle : session.pending ≡ 0 → IsIdle session
  idle none = record { pending = none; closed = work ∙ kind-none None [] session none refl }

  pending_more : tiles_of_session (with_more_pending n session) ≡ tiles_of_session session + steps_tiles u n (settled_session session).sim
  pending_more = by_test (nat_lt 0 session.pending)
      (λ t. let some = ltb-true 0 session.pending t in
      let more : nat_le session.pending 0 ≡ false = lt-leb session.pending 0 some in
      by_test (nat_lt 0 n)
      (λ v. rw (v, more) (let sum = more_after some in omega (arith, sum)))
      (λ v. rw v (let sum = more_after some in omega (arith, sum))))
      (λ t. let few = ltb-false 0 session.pending t in
      let none : session.pending ≡ 0 = omega (arith, few) in
      let before = idle-tiles session (idle none) in
      let same : (settled_session session).sim ≡ session.live.sim = rw none refl in
      by_test (nat_lt 0 n)
      (λ v. let after = added-tiles session (idle none) n (ltb-true 0 n v) in
      let is = ap (steps_tiles u n) same in omega (arith, before, after, is))
      (λ v. let small = ltb-false 0 n v in
      let zero_more : n ≡ 0 = omega (arith, small) in
      rw zero_more (let stays : session.pending + 0 ≡ session.pending = omega arith in rw stays (omega arith))))

  pub started-tiles : tiles_of_session (with_start n session) ≡ tiles_of_session session + advance_tiles (Some (settled_session session)) n
  started-tiles = by_test (can_advance (settled_session session) n)
      (λ t. rw t pending_more)
      (λ t. rw t (omega arith))

-- where no step is open nothing is posted and not in
pub closed-posted : (session : LiveSession) (label : Label) → session.live.part ≡ None → tasks_posted_of label (Some session) ≡ []
closed-posted session label closed = ap (tasks_posted_in label session.live session.passed) closed

-- sessions of the same steps
module _ (old new : LiveSession) (live : new.live ≡ old.live) (passed : new.passed ≡ old.passed) (pending : new.pending ≡ old.pending) where
  pub same-posted : (label : Label) → tasks_posted_of label (Some new) ≡ tasks_posted_of label (Some old)
  same-posted label =
      ap (λ (l : Sim). tasks_posted_in label l new.passed l.part) live
      ∙ ap (λ n. tasks_posted_in label old.live n old.live.part) passed

  pub same-tiles : tiles_of_session new ≡ tiles_of_session old
  same-tiles =
      ap (λ (l : Sim). tiles_left_in l.part + steps_tiles l.composition (new.pending - 1) (next_simulation l.composition l.sim)) live
      ∙ ap (λ n. tiles_left_in old.live.part + steps_tiles old.live.composition (n - 1) (next_simulation old.live.composition old.live.sim)) pending

  pub same-gathered : IsGathered old → IsGathered new
  same-gathered gathered = record {
    once = λ step k is set. subst (λ (l : Sim). occurrences k (cover l.composition l.sim.cur) ≡ 1) (sym live)
        (gathered.once step k (sym (ap (λ (l : Sim). l.part) live) ∙ is) set);
    few = subst (λ (l : Sim). tiles_left_in l.part ≤ length (cover l.composition l.sim.cur)) (sym live) gathered.few;
  }

-- the same of a START
module _ (session : LiveSession) (n : ℕ) (work : kind_of session.live.part ≡ kind_pending None [] session) where
  starting-idle : nat_lt 0 session.pending ≡ false → IsIdle session
  starting-idle t =
      let few = ltb-false 0 session.pending t in
      let none : session.pending ≡ 0 = omega (arith, few) in
      record { pending = none; closed = work ∙ kind-none None [] session none refl }

  no_more : nat_lt 0 session.pending ≡ true → (nat_lt 0 n && nat_le session.pending 0) ≡ false
  no_more t =
      let some = ltb-true 0 session.pending t in
      let more : nat_le session.pending 0 ≡ false = lt-leb session.pending 0 some in
      by_test (nat_lt 0 n) (λ v. rw (v, more) refl) (λ v. rw v refl)

  added_posted : (label : Label) → tasks_posted_of label (Some (with_more_pending n session)) ≡ tasks_posted_of label (Some session)
  added_posted label = by_test (nat_lt 0 session.pending)
      (λ t. let none = no_more t in rw none refl)
      (λ t. let idle = starting-idle t in by_test (nat_lt 0 n)
      (λ v. added-posted session idle n (ltb-true 0 n v) label
      ∙ sym (closed-posted session label (closed-part session.live.part idle.closed)))
      (λ v. rw v refl))

  added_gathered : IsGathered session → IsGathered (with_more_pending n session)
  added_gathered g = by_test (nat_lt 0 session.pending)
      (λ t. let none = no_more t in rw none (record { once = g.once; few = g.few }))
      (λ t. by_test (nat_lt 0 n)
      (λ v. added-gathered session (starting-idle t) n (ltb-true 0 n v))
      (λ v. rw v (record { once = g.once; few = g.few })))

  pub started-posted : (label : Label) → tasks_posted_of label (Some (with_start n session)) ≡ tasks_posted_of label (Some session)
  started-posted label = by_test (can_advance (settled_session session) n) (λ t. rw t (added_posted label)) (λ t. rw t refl)

  pub started-gathered : IsGathered session → IsGathered (with_start n session)
  started-gathered g = by_test (can_advance (settled_session session) n) (λ t. rw t (added_gathered g)) (λ t. rw t g)
