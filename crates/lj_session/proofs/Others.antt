-- What a command leaves: the other sessions, and all of it where it is refused.
use Rattle.std.proofs.Common.{◌≡◌, ◌≢◌, inl, inr, Bool, false, List, ℕ, Option, Some, None, Result, Ok, Err, refl, sym, ◌∙◌, ap, subst}
use Rattle.std.specs.Option.{option_map_or}
use Rattle.std.specs.Prelude.{IfOk, OnErr, not, nat_lt, is_some}
use Rattle.lj_branch.specs.Named.{value_named, without_value}
use Rattle.lj_xyz.specs.Atoms.{◌>>=◌}
use Rattle.lj_session.specs.declared.command.Command.{Command}
use Rattle.lj_session.specs.declared.command.Command.TheVariants.{Load, Advance, Start, Reverse, Branch, Restore, Forget, Tug}
use Rattle.lj_session.specs.declared.command.Command.TheVariants.{Measure, Show, Dump, List as ListSessions}
use Rattle.lj_session.specs.declared.command.Command.TheVariants.{ListBranches, Unload, Bye}
use Rattle.lj_session.specs.declared.refusal.Refusal.{Refusal}
use Rattle.lj_session.specs.declared.refusal.Refusal.TheVariants.{BranchExists, QuotaBranches, StepRange, Memory}
use Rattle.lj_session.specs.declared.reply.Reply.{Reply}
use Rattle.lj_session.specs.declared.reply.Reply.TheVariants as reply
use Rattle.lj_session.specs.declared.interactions.Interactions.{Interactions}
use Rattle.lj_session.specs.declared.interactions.Interactions.TheVariants.{Pure, Mixed}
use Rattle.lj_session.specs.Interactions.{load_reply}
use Rattle.lj_session.specs.Users.{User, atoms_of, branches_used}
use Rattle.lj_session.specs.Answers.{session_of, simulation_saved, atom_or_refusal, can_advance, command_result, session_named}
use Rattle.lj_session.specs.Loads.{admission, body_or_refusal, session_read, refusal_unless}
use Rattle.lj_session.specs.Begins.{OnRefusal, reply_of}
use Rattle.lj_session.specs.UserState.{LiveSession, UserState, OthersKept, Reads, StepsAfter, Performs, live_session, with_live_session, with_session_changed, loaded_names, pending_in, steps_before}
use Rattle.lj_session.specs.Owner.{IsSettled}
use Rattle.lj_session.specs.Turns.{waits_for}
use Rattle.lj_session.proofs.Entries.{named-put_other, named-taken_other, names-put}

module _ (state : UserState) (name : List ℕ) where
  apart_of : (other : List ℕ) → Some name ≢ Some other → name ≢ other
  apart_of other apart same = apart (ap (λ (n : List ℕ). Some n) same)

  -- one session put, changed or taken out leaves the others
  pub others-put : (session : LiveSession) (other : List ℕ) → Some name ≢ Some other
      → live_session (with_live_session name session state) other ≡ live_session state other
  others-put session other apart = named-put_other name other (apart_of other apart) state.sessions session

  pub others-changed : (change : LiveSession → LiveSession) (other : List ℕ) → Some name ≢ Some other
      → live_session (with_session_changed name change state) other ≡ live_session state other
  others-changed change other apart = by (live_session state name) refl
    where
      by : (found : Option LiveSession) → live_session state name ≡ found
          → live_session (with_session_changed name change state) other ≡ live_session state other
      by None e = rw e refl
      by (Some session) e = rw e (others-put (change session) other apart)

  -- a session changed keeps its name
  pub loaded_names-changed : (change : LiveSession → LiveSession) → loaded_names (with_session_changed name change state) ≡ loaded_names state
  loaded_names-changed change = by (live_session state name) refl
    where
      by : (found : Option LiveSession) → live_session state name ≡ found
          → loaded_names (with_session_changed name change state) ≡ loaded_names state
      by None e = rw e refl
      by (Some session) e = rw e (names-put name state.sessions session (change session) e)

  pub others-taken : (other : List ℕ) → Some name ≢ Some other
      → live_session (record state { sessions = without_value name state.sessions }) other ≡ live_session state other
  others-taken other apart = named-taken_other name other (apart_of other apart) state.sessions

-- where a command is refused nothing is changed, so the other sessions are as they were in any case
pub others-performed : (old new : UserState) (command : Command) (result : Result Reply Refusal)
    → Performs old command result new → OnErr result (new ≡ old)
    → OthersKept command old new
others-performed old new command (Ok reply) performs same = performs.others
others-performed old new command (Err refusal) performs same =
    λ other apart. ap (λ (state : UserState). live_session state other) same

-- a reply that is no refusal
abbrev IsDone : Reply → Type 0
IsDone (reply.Refused refusal) = ⊥
IsDone _ = Unit {0}

-- a frame is told by DUMP alone
abbrev DumpsOwn : Command → Reply → Type 0
DumpsOwn command (reply.Dumped name) = command ≡ Dump name
DumpsOwn command _ = Unit {0}

-- what is true of the reply of a command that is done
abbrev Replies : Command → Reply → Type 0
Replies command made = IsDone made × DumpsOwn command made

loaded-replies : (command : Command) (interactions : Interactions) (name : List ℕ) (atoms : ℕ)
    → Replies command (load_reply interactions name atoms)
loaded-replies command (Pure sigma step_factor) name atoms = (tt, tt)
loaded-replies command (Mixed symbols first unlike second) name atoms = (tt, tt)

module _ (command : Command) where
  after : {A : Type 0} (m : Result A Refusal) (f : A → Result (Reply × User) Refusal)
      → ((x : A) → IfOk (f x) (λ made. Replies command made.0))
      → IfOk (m >>= f) (λ made. Replies command made.0)
  after (Ok x) f h = h x
  after (Err refusal) f h = tt

-- what a command does is no refusal
is_done : (user : User) (command : Command) (mark : Bool) → IfOk (command_result user command mark) (λ made. Replies command made.0)
unfolding command_result
is_done user (Load load) mark =
    after (Load load) (admission user load) _ (λ mix. after (Load load) (body_or_refusal load.body mark) _
    (λ body. after (Load load) (session_read user mix load body) _
    (λ session. loaded-replies (Load load) load.interactions load.name (atoms_of session))))
is_done user (Advance name n) mark = after (Advance name n) (session_of user name) _
    (λ session. after (Advance name n) (refusal_unless (can_advance session n) StepRange) _ (λ near. (tt, tt)))
is_done user (Start name n) mark = after (Start name n) (session_of user name) _
    (λ session. after (Start name n) (refusal_unless (can_advance session n) StepRange) _ (λ near. (tt, tt)))
is_done user (Reverse name) mark = after (Reverse name) (session_of user name) _ (λ session. (tt, tt))
is_done user (Branch name branch) mark = after (Branch name branch) (session_of user name) _ (λ session.
    after (Branch name branch) (refusal_unless (not (is_some (value_named branch session.saved))) BranchExists) _ (λ new.
    after (Branch name branch) (refusal_unless (nat_lt (branches_used user) user.quota.branches) QuotaBranches) _ (λ room.
    after (Branch name branch) (refusal_unless (not mark) Memory) _ (λ held. (tt, tt)))))
is_done user (Restore name branch) mark = after (Restore name branch) (session_of user name) _
    (λ session. after (Restore name branch) (simulation_saved session branch) _ (λ sim. (tt, tt)))
is_done user (Forget name branch) mark = after (Forget name branch) (session_of user name) _
    (λ session. after (Forget name branch) (simulation_saved session branch) _ (λ sim. (tt, tt)))
is_done user (Tug name atom x y z) mark = after (Tug name atom x y z) (session_of user name) _
    (λ session. after (Tug name atom x y z) (atom_or_refusal session atom) _ (λ there. (tt, tt)))
is_done user (Measure name) mark = after (Measure name) (session_of user name) _ (λ session. (tt, tt))
is_done user (Show name atom) mark = after (Show name atom) (session_of user name) _
    (λ session. after (Show name atom) (atom_or_refusal session atom) _ (λ there. (tt, tt)))
is_done user (Dump name) mark = after (Dump name) (session_of user name) _ (λ session. (tt, refl))
is_done user ListSessions mark = (tt, tt)
is_done user (ListBranches name) mark = after (ListBranches name) (session_of user name) _ (λ session. (tt, tt))
is_done user (Unload name) mark = after (Unload name) (session_of user name) _ (λ session. (tt, tt))
is_done user Bye mark = (tt, tt)

-- what is done is no refusal
unrefused : (P : Type 0) (made : Reply) → IsDone made → OnRefusal made P
unrefused P (reply.Refused refusal) h = absurd h
unrefused P _ h = tt

-- so a refusal that is replied is an error, which changes nothing
pub refused-unchanged : (P : Type 0) (old new : UserState) (command : Command) (result : Result Reply Refusal)
    → Performs old command result new → OnErr result P → OnRefusal (reply_of result) P
refused-unchanged P old new command (Err refusal) performs same = same
refused-unchanged P old new command (Ok made) performs same = unrefused P made
    (subst (λ r. IfOk r (λ made. Replies command made.0)) performs.performs (is_done _ command performs.mark)).0

-- MEASURE is not refused once its energy step is whole
pub measured-unrefused : (P : Type 0) (old : UserState) (name : List ℕ) (made : Reply) → Reads old (Measure name) (Ok made)
    → OnRefusal made P
measured-unrefused P old name made reads = unrefused P made
    (subst (λ r. IfOk r (λ made. Replies (Measure name) made.0)) (reads false) (is_done _ (Measure name) false)).0

-- what follows where a command is refused
pub on_refusal : {P Q : Type 0} (made : Reply) → (P → Q) → OnRefusal made P → OnRefusal made Q
on_refusal (reply.Refused refusal) follows p = follows p
on_refusal _ follows p = tt

-- a session whose frame is told has no pending steps
pub settled-performed : (old new : UserState) (command : Command) (result : Result Reply Refusal)
    → Performs old command result new → steps_before old command ≡ 0 → IsSettled new (reply_of result)
unfolding waits_for
settled-performed old new command (Err refusal) performs none = tt
settled-performed old new command (Ok made) performs none = by made
    (subst (λ r. IfOk r (λ made. Replies command made.0)) performs.performs (is_done _ command performs.mark)).1
  where
    told : (name : List ℕ) → command ≡ Dump name → pending_in new name ≡ 0
    told name is = there (live_session new name) refl
      where
        before : pending_in old name ≡ 0
        before = rw is at none

        pending : (session : LiveSession) (o : Option LiveSession) → live_session old name ≡ o → StepsAfter (Dump name) o session → session.pending ≡ 0
        pending session o e (inl idle) = idle.pending
        pending session None e (inr lacking) = absurd lacking
        pending session (Some was) e (inr same) =
            same.pending ∙ (sym (ap (λ o. option_map_or (λ (h : LiveSession). h.pending) o 0) e) ∙ before)

        there : (o : Option LiveSession) → live_session new name ≡ o → pending_in new name ≡ 0
        there None e = rw e refl
        there (Some session) e = rw e (pending session (live_session old name) refl
            (subst (λ (k : Command). StepsAfter k (live_session old name) session) is (performs.steps name session (ap session_named is) e)))

    by : (made : Reply) → DumpsOwn command made → IsSettled new made
    by (reply.Dumped name) h = told name h
    by _ h = tt

-- nor does MEASURE tell a frame
pub settled-measured : (old new : UserState) (name : List ℕ) (made : Reply) → Reads old (Measure name) (Ok made) → IsSettled new made
settled-measured old new name made reads = by made
    (subst (λ r. IfOk r (λ made. Replies (Measure name) made.0)) (reads false) (is_done _ (Measure name) false)).1
  where
    apart : (other : List ℕ) → Measure name ≡ Dump other → ⊥
    apart other k = cc

    by : (made : Reply) → DumpsOwn (Measure name) made → IsSettled new made
    by (reply.Dumped other) h = absurd (apart other h)
    by _ h = tt
