-- A session written through the map of names in the code: what is held then, its user, and the running totals.
use Rattle.std.proofs.Common.{◌≡◌, ℕ, ◌+◌, ◌-◌, ◌<◌, ◌≤◌, ℤ, List, length, Option, Some, None, Ok, Err, true, false, sym, ap, subst, ◌∙◌, arith}
use Rattle.std.specs.Prelude.{IsSome}
use Rattle.std.specs.Str.{bytes_eq}
use Rattle.std.specs.Map.{set_value}
use Rattle.lj_step.specs.Sim.{Sim}
use Rattle.lj_branch.specs.Named.{value_named}
use Rattle.lj_quota.specs.declared.Used.{Used}
use Rattle.lj_session.specs.declared.command.Command.{Command}
use Rattle.lj_session.specs.declared.reply.Reply.{Reply}
use Rattle.lj_session.specs.declared.state.UserState.TheInside.{Inside}
use Rattle.lj_session.specs.UserState.{LiveSession, UserState, Performs, Reached, as_session, settled_session, user_of, used_by, live_session, pending_in}
use Rattle.lj_session.specs.UserState.{with_live_session, with_session_changed}
use Rattle.lj_session.specs.Answers.{answer}
use Rattle.lj_session.specs.Totals.{state_of_kept, IsState}
use Rattle.lj_session.proofs.Entries.{put-same, set-put}
use Rattle.lj_session.specs.declared.command.Command.TheVariants.{Restore, Forget}
use Rattle.lj_session.specs.declared.refusal.Refusal.TheVariants.{NoSession, NoBranch}
use Rattle.lj_session.proofs.Performing as performing
use Rattle.lj_session.proofs.Performing.{IsAbsent, refused, none}
use Rattle.lj_session.proofs.Results.{none-if}
use Rattle.lj_session.proofs.Holding.{named-held, named-settled, named-absent, pending-of, changed-some, user_of-kept}
use Rattle.lj_session.proofs.Reaching.{reached-answer, reached-performs, reached-same}
use Rattle.lj_session.proofs.Totals.{same_used, user_used, used-same, sessions-changed, atoms-changed, branches-changed}

-- in the map a name is looked up as among what is held
pub looked_up : (a : Inside) (old : UserState) → state_of_kept a ≡ old → (name : List ℕ) (found : Option LiveSession)
    → found ≡ value_named name a.sessions.entries → live_session old name ≡ found
looked_up a old view name found h = ap (λ (state : UserState). live_session state name) (sym view) ∙ sym h

-- what is not in the map is no session of the user
not_there : (a : Inside) (old : UserState) → state_of_kept a ≡ old → (name : List ℕ) → None ≡ value_named name a.sessions.entries
    → value_named name (user_of old).sessions ≡ None
not_there a old view name h = named-absent old name (looked_up a old view name None h)

-- so a command of it is refused
pub absent : {a : Inside} {old : UserState} → IsState a → state_of_kept a ≡ old → (name : List ℕ) → None ≡ value_named name a.sessions.entries
    → (command : Command) (new : UserState) → (value_named name (user_of old).sessions ≡ None → IsAbsent (user_of old) command)
    → Performs old command (Err NoSession) new
absent {a} {old} state view name h command new is =
    refused old new command NoSession (none (user_of old) command false (is (not_there a old view name h)))

-- the session with another simulation in the code, with its open step
abbrev pub with_live : LiveSession → Sim → LiveSession
with_live session live = record session { live = live }

-- The session that a name stands for becomes another one, and these entries are in the map then.
pub record Writes (a : Inside) (old : UserState) (name : List ℕ) (session new : LiveSession) (entries : List (List ℕ × LiveSession)) : Type 0 where
  pub found : live_session old name ≡ Some session
  pub is : record { quota = a.quota; sessions = entries } ≡ with_live_session name new old
  pub counted : a.used ≡ used_by old
  pub reached : Reached old

pub writes : {a : Inside} {old : UserState} {session new : LiveSession} {entries : List (List ℕ × LiveSession)} (name : List ℕ)
    → IsState a → state_of_kept a ≡ old → Some session ≡ value_named name a.sessions.entries
    → entries ≡ set_value (bytes_eq name) a.sessions.entries new
    → Writes a old name session new entries
writes {a} {old} {session} {new} name state view found set = record {
  found = looked_up a old view name (Some session) found;
  is = ap (λ (es : List (List ℕ × LiveSession)). record { quota = a.quota; sessions = es })
      (set ∙ set-put name a.sessions.entries session new (sym found))
      ∙ ap (with_live_session name new) view;
  counted = state.counted ∙ ap used_by view;
  reached = subst Reached view state.reached;
}

module _ {a : Inside} {old : UserState} {name : List ℕ} {session new : LiveSession} {entries : List (List ℕ × LiveSession)}
    (w : Writes a old name session new entries) where
  -- what is held then
  abbrev next : UserState
  next = record { quota = a.quota; sessions = entries }

  -- the session is one of the user, with no pending steps or some as there are at its name
  pub is_there : value_named name (user_of old).sessions ≡ Some (settled_session session)
  is_there = named-held old name session w.found

  pub none_pending : pending_in old name ≡ 0 → session.pending ≡ 0
  none_pending none = pending-of old name session w.found none

  pub some_pending : 0 < pending_in old name → 0 < session.pending
  some_pending some = rw w.found at some

  pub is_settled : pending_in old name ≡ 0 → value_named name (user_of old).sessions ≡ Some (as_session session)
  is_settled none = named-settled old name session w.found (none_pending none)

  -- the same session, written once more
  pub unchanged : new ≡ session → next ≡ old
  unchanged same = w.is ∙ ap (λ (h : LiveSession). with_live_session name h old) same
      ∙ ap (λ (es : List (List ℕ × LiveSession)). record { quota = old.quota; sessions = es })
      (put-same name old.sessions session w.found)

  pub changed_by : (change : LiveSession → LiveSession) → new ≡ change session → next ≡ with_session_changed name change old
  changed_by change same =
      w.is ∙ ap (λ (h : LiveSession). with_live_session name h old) same ∙ sym (changed-some old name change session w.found)

  pub user_kept : settled_session new ≡ settled_session session → user_of next ≡ user_of old
  user_kept same = ap user_of w.is ∙ user_of-kept old name session new w.found same

  -- commands lead to the same user
  reached_kept : settled_session new ≡ settled_session session → Reached next
  reached_kept same = reached-same old next w.reached (user_kept same)

  -- the totals are the same too, so the invariant stays
  pub still : settled_session new ≡ settled_session session → (b : Inside) → b.used ≡ a.used → state_of_kept b ≡ next → IsState b
  still same b used is = record {
    counted = used ∙ w.counted ∙ sym (ap user_used (user_kept same)) ∙ ap used_by (sym is);
    reached = subst Reached (sym is) (reached_kept same);
  }

  same_quota : next.quota ≡ old.quota
  same_quota = ap (λ (o : UserState). o.quota) w.is

  -- and one command more to the user after it
  pub reached_answered : (command : Command) → user_of next ≡ (answer (user_of old) command false).1 → Reached next
  reached_answered command is = reached-answer old next w.reached command false same_quota (sym is)

  -- a command that is done so
  pub done_as : (command : Command) (reply : Reply) (other : LiveSession)
      → Performs old command (Ok reply) (with_live_session name other old) → new ≡ other
      → Performs old command (Ok reply) next
  done_as command reply other performs same = rw (w.is, same) performs

  -- and it leads to the user after it
  pub reached_as : (command : Command) (reply : Reply) (other : LiveSession)
      → Performs old command (Ok reply) (with_live_session name other old) → new ≡ other → Reached next
  reached_as command reply other performs same =
      reached-performs old next w.reached command (Ok reply) (done_as command reply other performs same) same_quota tt

  -- one whose reply names a step number, as the code reads it
  pub done_at : (command : Command) (made : ℤ → Reply) (step read : ℤ) (other : LiveSession)
      → Performs old command (Ok (made step)) (with_live_session name other old)
      → read ≡ step → new ≡ other → Performs old command (Ok (made read)) next
  done_at command made step read other performs same_step same =
      done_as command (made read) other (rw same_step performs) same

  -- RESTORE and FORGET, where nothing is saved under the name
  pub no_branch : (branch : List ℕ) → (IsSome (value_named branch session.saved) → false ≡ true)
      → Performs old (Restore name branch) (Err NoBranch) next × Performs old (Forget name branch) (Err NoBranch) next
  no_branch branch none =
      let both = performing.no_branch (user_of old) name false (settled_session session) is_there branch
      (none-if (value_named branch session.saved) none) in
      (refused old next _ _ both.0, refused old next _ _ both.1)

  -- the totals, where the session has as many atoms and as many saved simulations as before
  pub totals_kept : length new.live.sim.cur ≡ length session.live.sim.cur
      → length new.saved ≡ length session.saved → a.used ≡ used_by next
  totals_kept atoms saved = w.counted ∙ sym (used-same old name new session w.found atoms saved) ∙ ap used_by (sym w.is)

  pub totals_as : (other : LiveSession) → new ≡ other → length other.live.sim.cur ≡ length session.live.sim.cur
      → length other.saved ≡ length session.saved → a.used ≡ used_by next
  totals_as other is atoms saved =
      totals_kept (ap (λ (h : LiveSession). length h.live.sim.cur) is ∙ atoms) (ap (λ (h : LiveSession). length h.saved) is ∙ saved)

  module _ (atoms : length new.live.sim.cur ≡ length session.live.sim.cur) where
    -- with other numbers of saved simulations
    totals_with : (branches : ℕ) → branches + length session.saved ≡ a.used.branches + length new.saved
        → record { sessions = a.used.sessions; atoms = a.used.atoms; branches = branches } ≡ used_by next
    totals_with branches saved =
        let s = sessions-changed old name new session w.found in
        let t = atoms-changed old name new session w.found in
        let u = branches-changed old name new session w.found in
        same_used (record { sessions = a.used.sessions; atoms = a.used.atoms; branches = branches })
        (used_by (with_live_session name new old))
        (ap (λ (v : Used). v.sessions) w.counted ∙ sym s)
        (let b = ap (λ (v : Used). v.atoms) w.counted in omega (arith, b, t, atoms))
        (let b = ap (λ (v : Used). v.branches) w.counted in omega (arith, b, u, saved))
        ∙ ap used_by (sym w.is)

    pub totals_saved : length new.saved ≡ length session.saved + 1
        → record { sessions = a.used.sessions; atoms = a.used.atoms; branches = a.used.branches + 1 } ≡ used_by next
    totals_saved saved = totals_with (a.used.branches + 1) (omega (arith, saved))

    -- where one is taken out there was one
    pub one_saved : length new.saved + 1 ≡ length session.saved → 1 ≤ a.used.branches
    one_saved saved =
        let u = branches-changed old name new session w.found in
        let b = ap (λ (v : Used). v.branches) w.counted in
        omega (arith, b, u, saved)

    pub totals_forgotten : length new.saved + 1 ≡ length session.saved
        → record { sessions = a.used.sessions; atoms = a.used.atoms; branches = a.used.branches - 1 } ≡ used_by next
    totals_forgotten saved =
        let some = one_saved saved in totals_with (a.used.branches - 1) (omega (arith, saved, some))
