-- The steps of a connection and of a worker: an event happens, or it is not possible and nothing changes.
use Rattle.std.specs.Prelude.{◌≡◌, ℕ, List, Option, None, ◌⊎◌}
use Rattle.lj_world.specs.declared.event.ConnectionEvent.{ConnectionEvent}
use Rattle.lj_world.specs.declared.event.WorkerEvent.{WorkerEvent}
use Rattle.lj_world.specs.Connections.{ConnectionView, ConnectionTransition}
use Rattle.lj_world.specs.Workers.{WorkerView, WorkerTransition}

-- the event is possible at the connection
abbrev pub IsPossibleAt : ConnectionEvent → ConnectionView → Type 0
IsPossibleAt event old =
    (text : Option (List ℕ)) × (new : ConnectionView) × ConnectionTransition event old text new

-- The event happens at the connection, or it is not possible, and then nothing is replied and nothing changes.
abbrev pub ConnectionStep : ConnectionEvent → ConnectionView → Option (List ℕ) → ConnectionView → Type 0
ConnectionStep event old text new =
    ConnectionTransition event old text new ⊎ (¬ IsPossibleAt event old) × (text ≡ None) × (new ≡ old)

-- the event is possible at the worker
abbrev pub IsPossibleBy : WorkerEvent → WorkerView → Type 0
IsPossibleBy event old = (new : WorkerView) × WorkerTransition event old new

-- The event happens at the worker, or it is not possible, and then nothing changes.
abbrev pub WorkerStep : WorkerEvent → WorkerView → WorkerView → Type 0
WorkerStep event old new = WorkerTransition event old new ⊎ (¬ IsPossibleBy event old) × (new ≡ old)
