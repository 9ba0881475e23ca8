-- What becomes of the steps of a session at a command that is answered.
use Rattle.std.proofs.Common.{◌≡◌, ◌⊎◌, inl, inr, ℕ, Bool, true, List, Option, Some, None}
use Rattle.std.proofs.Common.{Result, Ok, Err, refl, sym, ap, ◌∙◌, subst, arith}
use Rattle.std.specs.Prelude.{IfOk, IsSome, IsSomeAnd, is_some}
use Rattle.std.proofs.lemmas.Bool.{true≢false}
use Rattle.std.proofs.lemmas.Option.{none-some, same_Some}
use Rattle.lj_ring.specs.Mix.{Mix}
use Rattle.lj_xyz.specs.Atoms.{◌>>=◌}
use Rattle.lj_branch.specs.Named.{value_named, with_value}
use Rattle.lj_session.specs.declared.command.Load.{Load as LoadParts}
use Rattle.lj_session.specs.declared.command.Command.{Command}
use Rattle.lj_session.specs.declared.command.Command.TheVariants.{Load, Advance, Start, Reverse, Branch, Restore, Forget, Tug}
use Rattle.lj_session.specs.declared.command.Command.TheVariants.{Measure, Show, Dump, List as ListSessions}
use Rattle.lj_session.specs.declared.command.Command.TheVariants.{ListBranches, Unload, Bye}
use Rattle.lj_session.specs.declared.refusal.Refusal.{Refusal}
use Rattle.lj_session.specs.declared.refusal.Refusal.TheVariants.{StepRange}
use Rattle.lj_session.specs.declared.reply.Reply.{Reply}
use Rattle.lj_session.specs.declared.reply.Reply.TheVariants.{Refused}
use Rattle.lj_session.specs.Users.{Session, User}
use Rattle.lj_session.specs.Loads.{admission, refusal_unless}
use Rattle.lj_session.specs.Answers.{session_named, session_of, simulation_saved, can_advance, command_result, reply_and_user, answer}
use Rattle.lj_session.specs.Turns.{turns, waits_for, advance_turns, measure_turns}
use Rattle.lj_session.specs.Begins.{OnRefusal}
use Rattle.lj_session.specs.UserState.{LiveSession, UserState, IsAtWork, IsIdle, IsIdleIn, SameSteps, StepsAfterLoad, StepsFollow, user_of}
use Rattle.lj_session.specs.UserState.{live_session, with_start, turns_before}
use Rattle.lj_session.specs.Owner.{IsAnswered}
use Rattle.lj_session.proofs.AtWork.{kind-none}
use Rattle.lj_session.proofs.Entries.{by_test, named-put_any}
use Rattle.lj_session.proofs.Holding.{named-held, named-absent, pending-of, none-before}
use Rattle.lj_session.proofs.Loading.{new-admitted}
use Rattle.lj_engine.specs.Counting.{advance_tiles, measure_tiles, command_tiles}

-- a command that is answered takes no steps of its own but START
pub no-own-tiles : (user : User) (command : Command) → turns user command ≡ 0
    → ((name : List ℕ) (n : ℕ) → command ≡ Start name n → ⊥) → command_tiles user command ≡ 0
unfolding turns command_tiles
no-own-tiles user (Advance name n) none apart = by (value_named name user.sessions) none
  where
    by : (o : Option Session) → advance_turns o n ≡ 0 → advance_tiles o n ≡ 0
    by None h = refl
    by (Some session) h = by_test (can_advance session n)
        (λ t. let zero_steps : n ≡ 0 = rw t at h in rw (t, zero_steps) refl)
        (λ t. rw t refl)
no-own-tiles user (Measure name) none apart = by (value_named name user.sessions) none
  where
    by : (o : Option Session) → measure_turns o ≡ 0 → measure_tiles o ≡ 0
    by None h = refl
    by (Some session) h = absurd (omega (arith, h))
no-own-tiles user (Start name n) none apart = absurd (apart name n refl)
no-own-tiles user command none apart = refl

-- a session that was there is there after START, FORGET and LIST
pub record Stays (name : List ℕ) (result : Result (Reply × User) Refusal) : Type 0 where
  pub there : IfOk result (λ a. IsSome (value_named name a.1.sessions))

stays-then : {A : Type 0} (name : List ℕ) (r : Result A Refusal) (f : A → Result (Reply × User) Refusal)
    → ((x : A) → Stays name (f x)) → Stays name (r >>= f)
stays-then name (Ok x) f h = h x
stays-then name (Err refusal) f h = record { there = tt }

put_there : (name : List ℕ) (es : List (List ℕ × Session)) (v : Session) → IsSome (value_named name (with_value name v es))
put_there name es v = ap is_some (named-put_any name es v)

pub start_stays : (user : User) (name : List ℕ) (n : ℕ) (mark : Bool) → Stays name (command_result user (Start name n) mark)
unfolding command_result
start_stays user name n mark = stays-then name (session_of user name) _ (λ session.
    stays-then name (refusal_unless (can_advance session n) StepRange) _ (λ near. record { there = put_there name user.sessions _ }))

forget_stays : (user : User) (name branch : List ℕ) (mark : Bool) → Stays name (command_result user (Forget name branch) mark)
unfolding command_result
forget_stays user name branch mark = stays-then name (session_of user name) _ (λ session.
    stays-then name (simulation_saved session branch) _ (λ sim. record { there = put_there name user.sessions _ }))

list_stays : (user : User) (name : List ℕ) (mark : Bool) → IsSome (value_named name user.sessions)
    → Stays name (command_result user (ListBranches name) mark)
unfolding command_result
list_stays user name mark some = stays-then name (session_of user name) _ (λ session. record { there = some })

pub still-there : (user : User) (name : List ℕ) (r : Result (Reply × User) Refusal) → IsSome (value_named name user.sessions) → Stays name r
    → IsSome (value_named name (reply_and_user user r).1.sessions)
still-there user name (Ok a) some stays = stays.there
still-there user name (Err refusal) some stays = some

-- a LOAD of a name that is there is refused
refused-load : (user : User) (load : LoadParts) (mark : Bool) → is_some (value_named load.name user.sessions) ≡ true
    → (r : Refusal) × ((answer user (Load load) mark).0 ≡ Refused r)
unfolding command_result
refused-load user load mark there = by (admission user load) refl
  where
    by : (r : Result Mix Refusal) → admission user load ≡ r → (r : Refusal) × ((answer user (Load load) mark).0 ≡ Refused r)
    by (Ok mix) e = absurd (true≢false (sym there ∙ (new-admitted user load mix e).0))
    by (Err refusal) e = (refusal, rw e refl)

-- what becomes of the steps of a session: none is pending or open before and after; or they are as they were; or START adds more
pub record RestsBoth (old new : UserState) (name : List ℕ) : Type 0 where
  pub before : IsIdleIn old name
  pub after : IsIdleIn new name

pub record SameThere (old new : UserState) (name : List ℕ) : Type 0 where
  pub before : LiveSession
  pub after : LiveSession
  pub was : live_session old name ≡ Some before
  pub is : live_session new name ≡ Some after
  pub same : SameSteps before after

pub record StartedThere (old new : UserState) (command : Command) (name : List ℕ) : Type 0 where
  pub n : ℕ
  pub start : command ≡ Start name n
  pub before : LiveSession
  pub was : live_session old name ≡ Some before
  pub is : live_session new name ≡ Some (with_start n before)

abbrev pub Outcome : UserState → UserState → Command → List ℕ → Type 0
Outcome old new command name = RestsBoth old new name ⊎ SameThere old new name ⊎ StartedThere old new command name

module _ (old new : UserState) (command : Command) (reply : Reply) (work : IsAtWork None old)
    (answered : IsAnswered (user_of old) command reply (user_of new)) (unchanged : OnRefusal reply (new ≡ old))
    (steps : StepsFollow command old new) (at_once : turns_before old command ≡ 0) (name : List ℕ)
    (named_is : session_named command ≡ Some name) where
  answer_user : user_of new ≡ (answer (user_of old) command answered.mark).1
  answer_user = ap (λ a. a.1) answered.answers

  absent : (session : LiveSession) → live_session old name ≡ None → live_session old name ≡ Some session → ⊥
  absent session none some = none-some session (sym none ∙ some)

  -- a session that the command waits for has no pending steps
  waited_idle : waits_for command ≡ Some name → IsIdleIn old name
  waited_idle waits session found =
      let none = pending-of old name session found (none-before old command name waits at_once) in
      record { pending = none; closed = work name session found ∙ kind-none None name session none refl }

  generic : IsIdleIn old name
      → ((after : LiveSession) → live_session new name ≡ Some after → IsIdle after ⊎ IsSomeAnd (live_session old name) (λ session. SameSteps session after))
      → Outcome old new command name
  generic idle follows = by (live_session new name) refl
    where
      kept : (after : LiveSession) → live_session new name ≡ Some after → (o : Option LiveSession) → live_session old name ≡ o
          → IsSomeAnd (live_session old name) (λ session. SameSteps session after) → Outcome old new command name
      kept after e None w same = absurd (subst (λ o. IsSomeAnd o (λ session. SameSteps session after)) w same)
      kept after e (Some before) w same = inr (inl (record {
        before = before;
        after = after;
        was = w;
        is = e;
        same = subst (λ o. IsSomeAnd o (λ session. SameSteps session after)) w same;
      }))

      either : (after : LiveSession) → live_session new name ≡ Some after
          → IsIdle after ⊎ IsSomeAnd (live_session old name) (λ session. SameSteps session after) → Outcome old new command name
      either after e (inl i) = inl (record {
        before = idle;
        after = λ session found. subst IsIdle (same_Some after session (sym e ∙ found)) i;
      })
      either after e (inr same) = kept after e (live_session old name) refl same

      by : (o : Option LiveSession) → live_session new name ≡ o → Outcome old new command name
      by None e = inl (record { before = idle; after = λ session found. absurd (none-some session (sym e ∙ found)) })
      by (Some after) e = either after e (follows after e)

  -- where it is there neither before nor after
  gone : live_session old name ≡ None → live_session new name ≡ None → Outcome old new command name
  gone before after = inl (record {
    before = λ session found. absurd (none-some session (sym before ∙ found));
    after = λ session found. absurd (none-some session (sym after ∙ found));
  })

  -- it stays
  pub staying : ((session : LiveSession) → live_session old name ≡ Some session → IsSome (value_named name (answer (user_of old) command answered.mark).1.sessions))
      → (session : LiveSession) → live_session old name ≡ Some session → live_session new name ≡ None → ⊥
  staying stays session found none =
      let some : is_some (value_named name (user_of new).sessions) ≡ true =
      ap (λ (u : User). is_some (value_named name u.sessions)) answer_user ∙ stays session found in
      true≢false (sym some ∙ ap is_some (named-absent new name none))

  same_kept : ((session : LiveSession) → live_session old name ≡ Some session → live_session new name ≡ None → ⊥)
      → ((after : LiveSession) → live_session new name ≡ Some after → IsSomeAnd (live_session old name) (λ session. SameSteps session after))
      → Outcome old new command name
  same_kept stays follows = by (live_session old name) refl (live_session new name) refl
    where
      by : (o : Option LiveSession) → live_session old name ≡ o → (p : Option LiveSession) → live_session new name ≡ p → Outcome old new command name
      by None w None e = gone w e
      by (Some before) w None e = absurd (stays before w e)
      by None w (Some after) e = absurd (subst (λ o. IsSomeAnd o (λ session. SameSteps session after)) w (follows after e))
      by (Some before) w (Some after) e = inr (inl (record {
        before = before;
        after = after;
        was = w;
        is = e;
        same = subst (λ o. IsSomeAnd o (λ session. SameSteps session after)) w (follows after e);
      }))

  start_adds : (n : ℕ) → command ≡ Start name n
      → ((session : LiveSession) → live_session old name ≡ Some session → live_session new name ≡ None → ⊥)
      → ((after : LiveSession) → live_session new name ≡ Some after → IsSomeAnd (live_session old name) (λ session. after ≡ with_start n session))
      → Outcome old new command name
  start_adds n which stays follows = by (live_session old name) refl (live_session new name) refl
    where
      by : (o : Option LiveSession) → live_session old name ≡ o → (p : Option LiveSession) → live_session new name ≡ p → Outcome old new command name
      by None w None e = gone w e
      by (Some before) w None e = absurd (stays before w e)
      by None w (Some after) e = absurd (subst (λ o. IsSomeAnd o (λ session. after ≡ with_start n session)) w (follows after e))
      by (Some before) w (Some after) e = inr (inr (record {
        n = n;
        start = which;
        before = before;
        was = w;
        is = e ∙ ap (λ (h : LiveSession). Some h) (subst (λ o. IsSomeAnd o (λ session. after ≡ with_start n session)) w (follows after e));
      }))

  some_of : (session : LiveSession) → live_session old name ≡ Some session → IsSome (value_named name (user_of old).sessions)
  some_of session found = ap is_some (named-held old name session found)

-- for each command
pub same_name_of : (a b : List ℕ) → Some a ≡ Some b → a ≡ b
same_name_of a b e = cc

pub none_named : (name : List ℕ) → None ≡ Some name → ⊥
none_named name e = cc

pub outcome : (old new : UserState) (command : Command) (reply : Reply) → IsAtWork None old
    → IsAnswered (user_of old) command reply (user_of new) → OnRefusal reply (new ≡ old)
    → StepsFollow command old new → turns_before old command ≡ 0 → (name : List ℕ) → session_named command ≡ Some name
    → Outcome old new command name
unfolding waits_for
outcome old new (Load load) reply work a u s z name n = by (live_session old name) refl
  where
    is : load.name ≡ name
    is = same_name_of load.name name n

    unchanged_by : (session : LiveSession) → live_session old name ≡ Some session → new ≡ old
    unchanged_by session found =
        let refused = refused-load (user_of old) load a.mark
        (ap (λ k. is_some (value_named k (user_of old).sessions)) is ∙ ap is_some (named-held old name session found)) in
        subst (λ r. OnRefusal r (new ≡ old)) (ap (λ x. x.0) a.answers ∙ refused.1) u

    by : (o : Option LiveSession) → live_session old name ≡ o → Outcome old new (Load load) name
    by None e = generic old new (Load load) reply work a u s z name n
        (λ session found. absurd (none-some session (sym e ∙ found)))
        (λ after there. inl (subst (λ o. StepsAfterLoad o after) e (s name after n there)))
    by (Some session) e = inr (inl (record {
      before = session;
      after = session;
      was = e;
      is = ap (λ (o : UserState). live_session o name) (unchanged_by session e) ∙ e;
      same = record { live = refl; passed = refl; pending = refl };
    }))
outcome old new (Start session_name k) reply work a u s z name n =
    let is = same_name_of session_name name n in
    start_adds old new (Start session_name k) reply work a u s z name n k (ap (λ m. Start m k) is)
    (staying old new (Start session_name k) reply work a u s z name n (λ session found.
    still-there (user_of old) name (command_result (user_of old) (Start session_name k) a.mark)
    (ap is_some (named-held old name session found))
    (subst (λ m. Stays name (command_result (user_of old) (Start m k) a.mark)) (sym is) (start_stays (user_of old) name k a.mark))))
    (λ after there. s name after n there)
outcome old new (Forget session_name branch) reply work a u s z name n =
    let is = same_name_of session_name name n in
    same_kept old new (Forget session_name branch) reply work a u s z name n
    (staying old new (Forget session_name branch) reply work a u s z name n (λ session found.
    still-there (user_of old) name (command_result (user_of old) (Forget session_name branch) a.mark)
    (ap is_some (named-held old name session found))
    (subst (λ m. Stays name (command_result (user_of old) (Forget m branch) a.mark)) (sym is)
    (forget_stays (user_of old) name branch a.mark))))
    (λ after there. s name after n there)
outcome old new (ListBranches session_name) reply work a u s z name n =
    let is = same_name_of session_name name n in
    same_kept old new (ListBranches session_name) reply work a u s z name n
    (staying old new (ListBranches session_name) reply work a u s z name n (λ session found.
    still-there (user_of old) name (command_result (user_of old) (ListBranches session_name) a.mark)
    (ap is_some (named-held old name session found))
    (subst (λ m. Stays name (command_result (user_of old) (ListBranches m) a.mark)) (sym is)
    (list_stays (user_of old) name a.mark (ap is_some (named-held old name session found))))))
    (λ after there. s name after n there)
outcome old new ListSessions reply work a u s z name n = absurd (none_named name n)
outcome old new Bye reply work a u s z name n = absurd (none_named name n)
outcome old new (Advance session k) reply work a u s z name n = generic old new (Advance session k) reply work a u s z name n
    (waited_idle old new (Advance session k) reply work a u s z name n n) (λ after there. s name after n there)
outcome old new (Reverse session) reply work a u s z name n = generic old new (Reverse session) reply work a u s z name n
    (waited_idle old new (Reverse session) reply work a u s z name n n) (λ after there. s name after n there)
outcome old new (Branch session b) reply work a u s z name n = generic old new (Branch session b) reply work a u s z name n
    (waited_idle old new (Branch session b) reply work a u s z name n n) (λ after there. s name after n there)
outcome old new (Restore session b) reply work a u s z name n = generic old new (Restore session b) reply work a u s z name n
    (waited_idle old new (Restore session b) reply work a u s z name n n) (λ after there. s name after n there)
outcome old new (Tug session i x y k) reply work a u s z name n = generic old new (Tug session i x y k) reply work a u s z name n
    (waited_idle old new (Tug session i x y k) reply work a u s z name n n) (λ after there. s name after n there)
outcome old new (Measure session) reply work a u s z name n = generic old new (Measure session) reply work a u s z name n
    (waited_idle old new (Measure session) reply work a u s z name n n) (λ after there. s name after n there)
outcome old new (Show session i) reply work a u s z name n = generic old new (Show session i) reply work a u s z name n
    (waited_idle old new (Show session i) reply work a u s z name n n) (λ after there. s name after n there)
outcome old new (Dump session) reply work a u s z name n = generic old new (Dump session) reply work a u s z name n
    (waited_idle old new (Dump session) reply work a u s z name n n) (λ after there. s name after n there)
outcome old new (Unload session) reply work a u s z name n = generic old new (Unload session) reply work a u s z name n
    (waited_idle old new (Unload session) reply work a u s z name n n) (λ after there. s name after n there)
