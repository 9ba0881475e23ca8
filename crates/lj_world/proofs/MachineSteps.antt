-- A step of a connection or of a worker is a step of the machine.
use Rattle.std.proofs.Common.{◌≡◌, ℕ, List, set, Option, Some, None, refl, ap, ◌∙◌, sym, subst, inl, inr}
use Rattle.std.specs.Option.{option_map}
use Rattle.std.proofs.lemmas.List.{set-get_or}
use Rattle.lj_world.specs.declared.event.Event.TheVariants.{At, By}
use Rattle.lj_world.specs.declared.event.ConnectionEvent.{ConnectionEvent}
use Rattle.lj_world.specs.declared.event.WorkerEvent.{WorkerEvent}
use Rattle.lj_world.specs.Machine.{Connection, Worker, Machine, IsWorker, connection_at, worker_at}
use Rattle.lj_world.specs.Connections.{ConnectionView, connection_view, ConnectionTransition}
use Rattle.lj_world.specs.Workers.{WorkerView, worker_view}
use Rattle.lj_world.specs.Steps.{ConnectionStep, WorkerStep}
use Rattle.lj_world.specs.Transitions.{Transition, reply_entry, with_connection_view, with_worker_view}
use Rattle.lj_world.specs.Runs.{Step}
use Rattle.lj_world.specs.Picked.{ConnectionFollowsPick, WorkerFollowsPick, PickedStep}
use Rattle.lj_world.proofs.Picking.{still_follows}

-- a transition of a known connection is one of the machine
pub transition_at : (event : ConnectionEvent) (s : Machine) (c : ℕ) (connection : Connection) (text : Option (List ℕ)) (h : ConnectionView) → connection_at s c ≡ Some connection
    → ConnectionTransition event (connection_view connection s.rows s.book) text h → Transition s (At c event) (option_map (reply_entry c connection) text) (with_connection_view c h s)
unfolding Transition
transition_at event s c connection text h known transition =
    record { connection = connection; known = known; text = text; after = h; transition = transition; replies = refl; next = refl }

-- so is a step of it
connection_step : (event : ConnectionEvent) (s : Machine) (c : ℕ) (connection : Connection) (text : Option (List ℕ)) (h : ConnectionView) → connection_at s c ≡ Some connection
    → ConnectionStep event (connection_view connection s.rows s.book) text h → Step s (At c event) (option_map (reply_entry c connection) text) (with_connection_view c h s)
unfolding Transition
connection_step event s c connection text h known (inl transition) = inl (transition_at event s c connection text h known transition)
connection_step event s c connection text h known (inr cannot) =
    let connections : set s.connections c (Some connection) ≡ s.connections = ap (set s.connections c) (sym known) ∙ set-get_or s.connections c None in
    inr (
      λ p. let same : p.2.connection ≡ connection = (let k = p.2.known in cc) in
          cannot.0 (p.2.text, p.2.after, subst (λ (t : Connection). ConnectionTransition event (connection_view t s.rows s.book) p.2.text p.2.after) same p.2.transition),
      ap (option_map (reply_entry c connection)) cannot.1,
      ap (λ (x : ConnectionView). with_connection_view c x s) cannot.2 ∙ ap (λ (ts : List (Option Connection)). record s { connections = ts }) connections,
    )

-- and a step in which the pick decides
pub connection_step_by_pick : (event : ConnectionEvent) (s : Machine) (c : ℕ) (connection : Connection) (text : Option (List ℕ)) (h : ConnectionView) → connection_at s c ≡ Some connection
    → ConnectionStep event (connection_view connection s.rows s.book) text h → ConnectionFollowsPick event connection.user s.book h.book
    → PickedStep s (At c event) (option_map (reply_entry c connection) text) (with_connection_view c h s)
connection_step_by_pick event s c connection text h known step follows = (
  connection_step event s c connection text h known step,
  λ other also.
      let same : connection ≡ other = cc (known, also) in
      subst (λ (t : Connection). ConnectionFollowsPick event t.user s.book h.book) same follows,
)

-- an event is not possible at a connection that is not known
pub absent : (event : ConnectionEvent) (s : Machine) (c : ℕ) → connection_at s c ≡ None → PickedStep s (At c event) None s
unfolding Transition
absent event s c none = (inr (λ p. let k = p.2.known in cc, refl, refl), λ connection known. absurd (cc (none, known)))

-- a step of a worker is one of the machine
worker_step : (event : WorkerEvent) (s : Machine) (id : ℕ) (b : WorkerView) → IsWorker id
    → WorkerStep event (worker_view (worker_at s id) s.book) b → Step s (By id event) None (with_worker_view id b s)
unfolding Transition
worker_step event s id b within (inl transition) = inl (refl, record { within = within; after = b; transition = transition; next = refl })
worker_step event s id b within (inr cannot) = inr (
  λ p. cannot.0 (p.2.1.after, p.2.1.transition),
  refl,
  ap (λ (x : WorkerView). with_worker_view id x s) cannot.1
      ∙ ap (λ (hs : List (Option Worker)). record s { workers = hs }) (set-get_or s.workers id None),
)

-- and so is a step in which the pick decides
pub worker_step_by_pick : (event : WorkerEvent) (s : Machine) (id : ℕ) (b : WorkerView) → IsWorker id
    → WorkerStep event (worker_view (worker_at s id) s.book) b → WorkerFollowsPick event s.book b.book
    → PickedStep s (By id event) None (with_worker_view id b s)
worker_step_by_pick event s id b within step follows = (worker_step event s id b within step, follows)

-- no worker has a number out of range
pub nobody : (event : WorkerEvent) (s : Machine) (id : ℕ) → (IsWorker id → ⊥) → PickedStep s (By id event) None s
unfolding Transition
nobody event s id out = (inr (λ p. out p.2.1.within, refl, refl), still_follows event s.book)
