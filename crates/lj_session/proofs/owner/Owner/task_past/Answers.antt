use Rattle.std.proofs.Common.{◌≡◌, ◌∙◌, ℕ, Some, ap, sym}
use Rattle.std.specs.Prelude.{IfNone, IfSome, Option, None}
use Rattle.lj_task.specs.Task.{Task}
use Rattle.lj_session.specs.declared.tile_cursor.TileCursor.{TileCursor}
use Rattle.lj_session.specs.Cursors.{IsPostedTo, owner_posted_to}
use Rattle.lj_session.specs.Owner.{Owner, label_of, next_task_of, with_task_posted}
use Rattle.lj_session.specs.UserState.{LiveSession, UserState, live_session_at, next_of, next_task, with_posted}
use Rattle.lj_session.proofs.Cursors.{cursor-behind, none-left, only-behind, task-at}
use Rattle.lj_session.proofs.owner.Owner.task_past.Goals as goal

module _ (state : UserState) (owner : Owner) (view : state ≡ owner.state) (cursor : TileCursor) (from : ℕ) where
  -- what is found in the session that stands there
  abbrev HasTask : Task → Type 0
  HasTask work = (session : LiveSession) → live_session_at state cursor.session ≡ Some session
      → next_of cursor.label (Some (record session { passed = from })) ≡ Some work

  abbrev Passes : ℕ → Type 0
  Passes next = (session : LiveSession) → live_session_at state cursor.session ≡ Some session
      → with_posted (record session { passed = from }) ≡ record session { passed = next }

  -- is found in the cursor's
  next_is : (work : Task) → HasTask work → (later : Owner) (p : IsPostedTo cursor from owner later)
      → next_of (label_of owner p.name) (Some (record p.session { passed = from })) ≡ Some work
  next_is work found later p =
      ap (λ l. next_of l (Some (record p.session { passed = from }))) (sym p.label)
      ∙ found p.session (ap (λ (o : UserState). live_session_at o cursor.session) view ∙ p.at)

  task_is : (found : Option (Task × ℕ)) → IfSome found (λ f. HasTask f.0)
      → IfSome found (λ f. (later : Owner) → IsPostedTo cursor from owner later → next_task_of later ≡ Some f.0)
  task_is (Some f) task = λ later p. task-at cursor from owner later p f.0 (next_is f.0 task later p)
  task_is None task = task

  moves : (found : Option (Task × ℕ)) → IfSome found (λ f. HasTask f.0) → IfSome found (λ f. Passes f.1)
      → IfSome found (λ f. (later : Owner) → IsPostedTo cursor from owner later
      → IsPostedTo cursor f.1 owner (with_task_posted later))
  moves (Some f) task passes = λ later p.
      cursor-behind cursor from owner later p f.0 (next_is f.0 task later p) f.1
      (passes p.session (ap (λ (o : UserState). live_session_at o cursor.session) view ∙ p.at))
  moves None task passes = task

  onlys : (found : Option (Task × ℕ)) → IfSome found (λ f. HasTask f.0) → IfSome found (λ f. Passes f.1)
      → IfSome found (λ f. (later : Owner) → IsPostedTo cursor from owner later → later ≡ owner_posted_to cursor from owner
      → with_task_posted later ≡ owner_posted_to cursor f.1 owner)
  onlys (Some f) task passes = λ later p only.
      only-behind cursor from owner later p f.0 (next_is f.0 task later p) f.1
      (passes p.session (ap (λ (o : UserState). live_session_at o cursor.session) view ∙ p.at)) only
  onlys None task passes = task

  ends : (found : Option (Task × ℕ)) → IfNone found ((session : LiveSession) → live_session_at state cursor.session ≡ Some session
      → next_of cursor.label (Some (record session { passed = from })) ≡ None)
      → IfNone found ((later : Owner) → IsPostedTo cursor from owner later → next_task later.state cursor.label ≡ None)
  ends (Some f) none = none
  ends None none = λ later p. none-left cursor from owner later p
      (none p.session (ap (λ (o : UserState). live_session_at o cursor.session) view ∙ p.at))

pub returns-clause-task : goal.returns-clause-task
returns-clause-task c =
    task_is c.self.inside.state c.args.self.now (ap (λ (o : Owner). o.state) c.self.view_is) c.args.cursor.now c.args.from
    c.task_past.result c.task_past.ensures.task

pub returns-clause-moved : goal.returns-clause-moved
returns-clause-moved c =
    moves c.self.inside.state c.args.self.now (ap (λ (o : Owner). o.state) c.self.view_is) c.args.cursor.now c.args.from
    c.task_past.result c.task_past.ensures.task c.task_past.ensures.passes

pub returns-clause-posted : goal.returns-clause-posted
returns-clause-posted c =
    onlys c.self.inside.state c.args.self.now (ap (λ (o : Owner). o.state) c.self.view_is) c.args.cursor.now c.args.from
    c.task_past.result c.task_past.ensures.task c.task_past.ensures.passes

pub returns-clause-none : goal.returns-clause-none
returns-clause-none c =
    ends c.self.inside.state c.args.self.now (ap (λ (o : Owner). o.state) c.self.view_is) c.args.cursor.now c.args.from
    c.task_past.result c.task_past.ensures.none
