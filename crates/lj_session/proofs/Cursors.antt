-- The task at a cursor, and the cursor behind it.
use Rattle.std.proofs.Common.{◌≡◌, ℕ, List, slice_get, Option, Some, None, refl, sym, ap, ◌∙◌, subst}
use Rattle.std.specs.Prelude.{is_some}
use Rattle.std.specs.Option.{option_and_then}
use Rattle.std.proofs.lemmas.Bool.{true≢false}
use Rattle.std.proofs.lemmas.Option.{none-some, same_Some}
use Rattle.lj_base.specs.declared.names.Label.{Label}
use Rattle.lj_task.specs.Task.{Task}
use Rattle.lj_session.specs.declared.tile_cursor.TileCursor.{TileCursor}
use Rattle.lj_session.specs.Cursors.{IsAtFirst, IsPostedTo, owner_posted_to}
use Rattle.lj_session.specs.Owner.{Owner, label_of, next_task_of, task_of_session, next_session, state_changed_in, with_state, with_task_posted}
use Rattle.lj_session.specs.UserState.{LiveSession, UserState, NoTaskBefore, live_session, loaded_names, next_of, next_task}
use Rattle.lj_session.specs.UserState.{with_live_session, with_passed, with_posted, with_session_changed}
use Rattle.lj_session.proofs.Entries.{named-put_any, put-put, put-same}
use Rattle.lj_session.proofs.Firsts.{find-at}
use Rattle.lj_session.proofs.Holding.{changed-none, changed-some}
use Rattle.lj_session.proofs.Others.{loaded_names-changed, others-changed}

-- and as many as it has passed are noted
pub first-same : (owner : Owner) (cursor : TileCursor) → IsAtFirst cursor owner → owner ≡ owner_posted_to cursor cursor.passed owner
first-same owner cursor first =
    let name = first.next.name in
    let passed : LiveSession = with_passed cursor.passed first.next.session in
    let same : passed ≡ first.next.session = ap (λ n. with_passed n first.next.session) (sym first.passed) in
    sym (ap (λ (l : Label). with_state (with_session_changed l.session (with_passed cursor.passed) owner.state) owner) first.label
    ∙ ap (λ (o : UserState). with_state o owner) (changed-some owner.state name (with_passed cursor.passed) first.next.session first.next.there
    ∙ ap (λ (h : LiveSession). with_live_session name h owner.state) same
    ∙ ap (λ (es : List (List ℕ × LiveSession)). record owner.state { sessions = es })
    (put-same name owner.state.sessions first.next.session first.next.there)))

-- a session changed after its first tiles are passed
module _ (state : UserState) (name : List ℕ) (session : LiveSession) (from next : ℕ) where
  abbrev then_posted : UserState
  then_posted = with_session_changed name with_posted (with_session_changed name (with_passed from) state)

  pub passed-posted : live_session (with_session_changed name (with_passed from) state) name ≡ Some (with_passed from session)
      → with_posted (with_passed from session) ≡ with_passed next session
      → then_posted ≡ with_session_changed name (with_passed next) state
  passed-posted there passes = by (live_session state name) refl
    where
      by : (o : Option LiveSession) → live_session state name ≡ o → then_posted ≡ with_session_changed name (with_passed next) state
      by None e =
          let none = changed-none state name (with_passed from) e in
          absurd (none-some (with_passed from session) (sym e ∙ ap (λ o. live_session o name) (sym none) ∙ there))
      by (Some was) e =
          let changed = changed-some state name (with_passed from) was e in
          let found = ap (λ (o : UserState). live_session o name) changed ∙ named-put_any name state.sessions (with_passed from was) in
          let same = same_Some (with_passed from was) (with_passed from session) (sym found ∙ there) in
          let passed = ap with_posted same ∙ passes ∙ sym (ap (with_passed next) same) in
          ap (with_session_changed name with_posted) changed
          ∙ changed-some (with_live_session name (with_passed from was) state) name with_posted (with_passed from was)
          (named-put_any name state.sessions (with_passed from was))
          ∙ ap (λ (es : List (List ℕ × LiveSession)). record state { sessions = es })
          (put-put name state.sessions was (with_passed from was) (with_posted (with_passed from was)) e)
          ∙ ap (λ (h : LiveSession). with_live_session name h state) passed
          ∙ sym (changed-some state name (with_passed next) was e)

module _ (cursor : TileCursor) (from : ℕ) (owner later : Owner) (p : IsPostedTo cursor from owner later) (work : Task)
    (is : next_of (label_of owner p.name) (Some (record p.session { passed = from })) ≡ Some work) where
  -- the session of the cursor has this task
  of_session : task_of_session later p.name ≡ Some work
  of_session = ap (next_of (label_of later p.name)) p.there
      ∙ ap (λ user. next_of (record { user = user; session = p.name }) (Some (record p.session { passed = from }))) p.number
      ∙ is

  -- and is the first that has one
  is_first : next_session later ≡ Some p.name
  is_first = find-at (λ name. is_some (task_of_session later name)) (loaded_names later.state) cursor.session p.name
      (ap (λ ns. slice_get ns cursor.session) p.same_names ∙ p.named) (ap is_some of_session) (p.before later.number)

  pub task-at : next_task_of later ≡ Some work
  task-at = ap (option_and_then (task_of_session later)) is_first ∙ of_session

  abbrev state_after : UserState
  state_after = with_session_changed p.name with_posted later.state

  posted_is : with_task_posted later ≡ with_state state_after later
  posted_is = ap (λ o. with_state (state_changed_in o with_posted later.state) later) is_first

  there_after : live_session state_after p.name ≡ Some (with_posted (record p.session { passed = from }))
  there_after = ap (λ (o : UserState). live_session o p.name)
      (changed-some later.state p.name with_posted (record p.session { passed = from }) p.there)
      ∙ named-put_any p.name later.state.sessions (with_posted (record p.session { passed = from }))

  before_after : NoTaskBefore state_after cursor.session
  before_after user k other below at =
      let there : slice_get (loaded_names later.state) k ≡ Some other =
      ap (λ ns. slice_get ns k) (sym (loaded_names-changed later.state p.name with_posted)) ∙ at in
      let apart : Some p.name ≡ Some other → ⊥ = λ same. true≢false (sym (ap is_some of_session)
      ∙ ap (λ name. is_some (task_of_session later name)) (same_Some p.name other same) ∙ p.before later.number k other below there) in
      ap (λ o. is_some (next_of (record { user = user; session = other }) o)) (others-changed later.state p.name with_posted other apart)
      ∙ p.before user k other below there

  pub cursor-behind : (next : ℕ)
      → with_posted (record p.session { passed = from }) ≡ record p.session { passed = next }
      → IsPostedTo cursor next owner (with_task_posted later)
  cursor-behind next passes = subst (IsPostedTo cursor next owner) (sym posted_is) (record {
    name = p.name;
    named = p.named;
    label = p.label;
    session = p.session;
    at = p.at;
    there = there_after ∙ ap (λ (h : LiveSession). Some h) passes;
    before = before_after;
    same_names = loaded_names-changed later.state p.name with_posted ∙ p.same_names;
    number = p.number;
  })

  -- where nothing else has changed, nothing else changes
  pub only-behind : (next : ℕ) → with_posted (record p.session { passed = from }) ≡ record p.session { passed = next }
      → later ≡ owner_posted_to cursor from owner → with_task_posted later ≡ owner_posted_to cursor next owner
  only-behind next passes only =
      let same_session : cursor.label.session ≡ p.name = ap (λ (l : Label). l.session) p.label in
      let changed : later.state ≡ with_session_changed p.name (with_passed from) owner.state =
      ap (λ (o : Owner). o.state) only ∙ ap (λ name. with_session_changed name (with_passed from) owner.state) same_session in
      let there = ap (λ (o : UserState). live_session o p.name) (sym changed) ∙ p.there in
      posted_is
      ∙ ap (λ (o : UserState). with_state (with_session_changed p.name with_posted o) later) changed
      ∙ ap (λ (o : UserState). with_state o later) (passed-posted owner.state p.name p.session from next there passes)
      ∙ ap (λ (o : Owner). with_state (with_session_changed p.name (with_passed next) owner.state) o) only
      ∙ ap (λ name. with_state (with_session_changed name (with_passed next) owner.state) owner) (sym same_session)

-- a session that has no task from a position on has none once all tasks before it are posted
pub none-left : (cursor : TileCursor) (from : ℕ) (owner later : Owner) (p : IsPostedTo cursor from owner later)
    → next_of cursor.label (Some (record p.session { passed = from })) ≡ None → next_task later.state cursor.label ≡ None
none-left cursor from owner later p none =
    ap (λ (l : Label). next_of cursor.label (live_session later.state l.session)) p.label
    ∙ ap (next_of cursor.label) p.there ∙ none

-- the next task is that of the session at whose first tile the cursor is
pub first-task : (owner : Owner) (cursor : TileCursor) → IsAtFirst cursor owner → next_task owner.state cursor.label ≡ next_task_of owner
first-task owner cursor first =
    ap (next_task owner.state) first.label ∙ sym (ap (option_and_then (task_of_session owner)) (first.next.first owner.number))
