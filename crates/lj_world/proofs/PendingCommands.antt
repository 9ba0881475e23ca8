-- The pending command of an owner: an item that is begun, and a turn without a reply.
use Rattle.std.proofs.Common.{◌≡◌, ℕ, ◌+◌, ◌<◌, true, false, ◌||◌, nat_lt, List, Option, Some, None, inl, inr}
use Rattle.std.proofs.Common.{refl, sym, ◌∙◌, ap, subst, arith, ltb-true, ltb-false, true≢false}
use Rattle.std.specs.Option.{option_map_or}
use Rattle.std.proofs.lemmas.Slice.Eq.{bytes_eq-Decides}
use Rattle.lj_session.specs.declared.command.Command.{Command as Order}
use Rattle.lj_session.specs.declared.command.Command.TheVariants.{Measure}
use Rattle.lj_session.specs.Turns.{turns, waits_for}
use Rattle.lj_session.specs.UserState.{LiveSession, with_session_changed, live_session, pending_in, steps_before, turns_before, is_whole_in, is_measured}
use Rattle.lj_session.specs.UserState.{is_whole_session, with_step_finished}
use Rattle.lj_session.specs.Owner.{Owner, user_in, with_state, owner_begun, owner_begun_again, command_left, is_waited_for, owner_turned}
use Rattle.lj_session.specs.Owner.{IsLastTurn}
use Rattle.lj_session.specs.OwnerLaws.{BegunWaitsAlike}
use Rattle.lj_session.proofs.Entries.{by_test}
use Rattle.lj_session.proofs.Holding.{named-held}
use Rattle.lj_session.proofs.Turning.{measure-turns-one}
use Rattle.lj_session.proofs.Passing.{measures}
use Rattle.lj_session.proofs.Waiting.{same_name, passed_user, passed_turns}
use Rattle.lj_wire.specs.StreamLaws.{AlikeIsTold}
use Rattle.lj_world.specs.OwnerReplies.{CanTurn}
use Rattle.lj_world.proofs.ConnectionLogs.{GoesOn}

-- A turn without a reply: the pending command and the user stay, or the command is begun again.
pub data Turned (owner after : Owner) : Type 0 where
  stays : after.waiting ≡ owner.waiting → user_in after ≡ user_in owner → Turned owner after
  again : (command left : Order) → owner.waiting ≡ Some command → after.waiting ≡ Some left
      → GoesOn (user_in owner) command (user_in after) left → Turned owner after

there : (owner : Owner) (name : List ℕ) → is_whole_in owner.state name ≡ true
    → (session : LiveSession) × (live_session owner.state name ≡ Some session)
there owner name whole = by (live_session owner.state name) refl
  where
    by : (o : Option LiveSession) → live_session owner.state name ≡ o → (session : LiveSession) × (o ≡ Some session)
    by None e = absurd (true≢false (sym (ap is_whole_session (sym e) ∙ whole)))
    by (Some session) e = (session, refl)

-- the turn of the energies of a MEASURE is the last before it
measured_last : (owner : Owner) (name : List ℕ) → is_whole_in owner.state name ≡ true → pending_in owner.state name ≡ 0
    → is_measured owner.waiting name ≡ true → IsLastTurn name owner
unfolding waits_for
measured_last owner name whole none = by owner.waiting refl
  where
    by : (waiting : Option Order) → owner.waiting ≡ waiting → is_measured waiting name ≡ true → IsLastTurn name owner
    by None e m = absurd (true≢false (sym m))
    by (Some command) e m =
        let is : owner.waiting ≡ Some (Measure name) = e ∙ ap (λ k. Some k) (measures command name m) in
        let session = there owner name whole in
        let one = measure-turns-one (user_in owner) name _ (named-held owner.state name session.0 session.1) in
        let turns_are : turns_before owner.state (Measure name) ≡ 1 =
        (let sum : pending_in owner.state name + turns (user_in owner) (Measure name) ≡ 1 = omega (arith, none, one) in sum) in
        record {
          waited = ap (λ w. is_waited_for w name) is ∙ (bytes_eq-Decides name name).1 refl;
          last = ap (λ w. option_map_or (turns_before owner.state) w 0) is ∙ turns_are;
        }

-- a turn that is not the last is of a pending step
turn_pending : (session : Option (List ℕ)) (owner : Owner) (name : List ℕ) → CanTurn session owner name
    → ¬ IsLastTurn name owner → 0 < pending_in owner.state name
turn_pending session owner name can more = by_test (nat_lt 0 (pending_in owner.state name))
    (λ t. ltb-true 0 (pending_in owner.state name) t)
    (λ t.
    let zero = ltb-false 0 (pending_in owner.state name) t in
    let none : pending_in owner.state name ≡ 0 = omega (arith, zero) in
    absurd (more (measured_last owner name can.whole none (ap (λ b. b || is_measured owner.waiting name) (sym t) ∙ can.pending))))

module _ (alike : AlikeIsTold) (begins : BegunWaitsAlike) where
  -- a command that is begun will be answered as it would be now
  pub begun_goes_on : (command : Order) (owner : Owner) → 0 < turns_before owner.state command
      → GoesOn (user_in owner) command (user_in (owner_begun command owner)) (command_left command owner.state)
  begun_goes_on command owner some = record {
    alike = λ mark. alike (user_in (owner_begun command owner)) (command_left command owner.state) (user_in owner) command mark
        (begins command owner some).left;
    waits = by_test (nat_lt 0 (steps_before owner.state command))
        (λ t. inl ((begins command owner some).user ∙ rw t refl, rw t refl))
        (λ t. inr (let none = ltb-false 0 (steps_before owner.state command) t in record {
          some = omega (arith, none, some);
          counts = (begins command owner some).user ∙ rw t refl;
          rest = rw t refl;
        }));
  }

  -- and so will the pending command after a turn without a reply
  pub turn_goes_on : (session : Option (List ℕ)) (owner : Owner) (name : List ℕ) → CanTurn session owner name
      → ¬ IsLastTurn name owner → Turned owner (owner_turned name owner)
  turn_goes_on session owner name can more = by_test (is_waited_for owner.waiting name) waited other
    where
      passed : Owner
      passed = with_state (with_session_changed name with_step_finished owner.state) owner

      some : 0 < pending_in owner.state name
      some = turn_pending session owner name can more

      same : user_in passed ≡ user_in owner
      same = passed_user owner.state name some

      other : is_waited_for owner.waiting name ≡ false → Turned owner (owner_turned name owner)
      other t = rw t (stays refl same)

      by : (waiting : Option Order) → owner.waiting ≡ waiting → is_waited_for waiting name ≡ true
          → Turned owner (owner_begun_again waiting passed)
      by None e t = absurd (true≢false (sym t))
      by (Some command) e t =
          let fewer = passed_turns owner.state name command (same_name command name t) some in
          let last : turns_before owner.state command ≡ 1 → ⊥ =
          λ one. more (record {
            waited = ap (λ w. is_waited_for w name) e ∙ t;
            last = ap (λ w. option_map_or (turns_before owner.state) w 0) e ∙ one;
          }) in
          let left : 0 < turns_before passed.state command = omega (arith, fewer, last) in
          again command (command_left command passed.state) e refl
          (subst (λ u. GoesOn u command (user_in (owner_begun command passed)) (command_left command passed.state)) same
          (begun_goes_on command passed left))

      waited : is_waited_for owner.waiting name ≡ true → Turned owner (owner_turned name owner)
      waited t = rw t (by owner.waiting refl t)
