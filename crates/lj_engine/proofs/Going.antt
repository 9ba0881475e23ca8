-- The work goes on: by nothing, by a post, by a result, by a turn, and by one after the other.
use Rattle.std.proofs.Common.{◌≡◌, ℕ, ◌+◌, ◌-◌, ◌<◌, ◌≤◌, true, false, nat_lt, List, [], ◌∷◌, ◌++◌, length, Option, Some, None}
use Rattle.std.proofs.Common.{Result, Ok, Err, inl, inr, refl, sym, ap, ◌∙◌, subst, arith}
use Rattle.std.specs.Prelude.{if◌then◌else◌, ◌↔◌, IfSome, IsOk, OnOk, OnErr, is_ok}
use Rattle.std.specs.Option.{option_map_or}
use Rattle.std.proofs.lemmas.Bool.{true≢false, false≢true}
use Rattle.std.proofs.lemmas.List.{length-append}
use Rattle.lj_task.specs.Task.{Task}
use Rattle.lj_step.specs.OpenSteps.{tile_number_of, tiles_of, IsAwaitedTaskIn}
use Rattle.lj_session.specs.declared.command.Command.{Command}
use Rattle.lj_session.specs.declared.reply.Reply.{Reply}
use Rattle.lj_session.specs.Users.{User}
use Rattle.lj_session.specs.Answers.{answer}
use Rattle.lj_session.specs.Turns.{turns, waits_for}
use Rattle.lj_session.specs.UserState.{LiveSession, live_session, pending_in, user_of, with_session_changed, with_posted, with_tile_in, next_tile, with_passed_to, steps_before}
use Rattle.lj_session.specs.UserState.{is_whole_in}
use Rattle.lj_session.specs.Owner.{Owner, user_in, label_of, next_task_of, with_task_posted, with_task_in, IsAwaitedIn, IsAnswered, IsReplied}
use Rattle.lj_session.specs.Owner.{WaitsAlike, WaitsAlikeFor, IsLastTurn, is_waited_for, owner_turned}
use Rattle.lj_session.proofs.Holding.{changed-quota}
use Rattle.lj_session.proofs.Waiting.{posted_user, taken_user}
use Rattle.lj_end.specs.Seen.{Seen, SameOwed, IsPosted, TakesOff, IsHandedOut, IsStray, one_more}
use Rattle.lj_engine.specs.Gathering.{Gathers, tiles_left_in}
use Rattle.lj_end.specs.declared.pool.TheConstants.{MAX_STRAYS}
use Rattle.lj_engine.specs.Counting.{CountsRise, StraysRise, command_tiles}
use Rattle.lj_engine.specs.Coming.{GoesOn, tiles_of_session, posts_of_session, waiting_tiles, waiting_tiles_of, turns_coming}
use Rattle.lj_engine.specs.Coming.{tiles_coming, posts_coming}
use Rattle.lj_engine.proofs.Gathering.{posted_fewer, taken_left, taken_tiles}
use Rattle.lj_engine.proofs.Gathered.{Opened, Posting, posting, gathers_posted, with_task_posted_is, gathers_taken, taken_open, taken_wanted, wanted_off}
use Rattle.lj_engine.proofs.Sessions.{pending-changed, sum-changed}
use Rattle.lj_engine.proofs.Begun.{turned, turned-pending, turned-waits}

-- counts that rise, and rise on
pub rises_more : {a b c : Seen} (n m k : ℕ) → CountsRise n a b → CountsRise m b c → k ≤ n + m → CountsRise k a c
rises_more n m k first second within = record {
  expected = omega (arith, first.expected, second.expected);
  strays = omega (arith, first.strays, second.strays);
  together = λ expected strays.
      let before = first.together (omega (arith, expected, second.expected)) (omega (arith, strays, second.strays)) in
      let after = second.together expected strays in
      omega (arith, before, after, within);
}

pub rises_none : (a b : Seen) (k : ℕ) → b.expected ≡ a.expected → b.strays ≡ a.strays → k ≤ 0 → CountsRise k a b
rises_none a b k expected strays none =
    record { expected = omega arith; strays = omega arith; together = λ _ _. omega (arith, expected, strays, none) }

pub rises_one : (work : Task) (a b : Seen) (k : ℕ) → IsHandedOut work a b → k ≤ 1 → CountsRise k a b
rises_one work a b k (inl off) one =
    let expected = off.expected in let strays = off.strays in
    record { expected = omega (arith, expected); strays = omega (arith, strays); together = λ g s. omega (arith, expected, strays, g, s, one) }
rises_one work a b k (inr stray) one =
    let expected = stray.expected in let strays = stray.strays in
    record { expected = omega (arith, expected); strays = omega (arith, strays); together = λ g s. omega (arith, expected, strays, g, s, one) }

-- one result is counted once
good_once : (work : Task) (a b : Seen) → IsHandedOut work a b → b.expected ≤ a.expected + 1
good_once work a b (inl off) = let expected = off.expected in omega (arith, expected)
good_once work a b (inr stray) = let expected = stray.expected in omega (arith, expected)

-- what waits is answered alike
alike_then_for : (x y z : Option Command) (u v w : User) → WaitsAlikeFor x y u v → WaitsAlikeFor y z v w → WaitsAlikeFor x z u w
alike_then_for None None None u v w p q = q ∙ p
alike_then_for (Some a) (Some b) (Some c) u v w p q = λ mark. q mark ∙ p mark
alike_then_for None None (Some c) u v w p q = absurd q
alike_then_for None (Some b) z u v w p q = absurd p
alike_then_for (Some a) None z u v w p q = absurd p
alike_then_for (Some a) (Some b) None u v w p q = absurd q

pub alike_then : (a b c : Owner) → WaitsAlike a b → WaitsAlike b c → WaitsAlike a c
alike_then a b c = alike_then_for a.waiting b.waiting c.waiting (user_in a) (user_in b) (user_in c)

alike_same_for : (x : Option Command) (u v : User) → v ≡ u → WaitsAlikeFor x x u v
alike_same_for None u v same = same
alike_same_for (Some command) u v same = λ mark. ap (λ w. answer w command mark) same

pub alike_same : (old new : Owner) → new.waiting ≡ old.waiting → user_in new ≡ user_in old → WaitsAlike old new
alike_same old new waiting user =
    subst (λ w. WaitsAlikeFor old.waiting w (user_in old) (user_in new)) (sym waiting)
    (alike_same_for old.waiting (user_in old) (user_in new) user)

-- a reply to what is left is one to what waited
pub replied_alike : (old now : Owner) (reply : Reply) (next : User) → WaitsAlike old now → IsReplied now reply next
    → IsReplied old reply next
replied_alike old now reply next = by old.waiting now.waiting
  where
    by : (x y : Option Command) → WaitsAlikeFor x y (user_in old) (user_in now)
        → IfSome y (λ command. IsAnswered (user_in now) command reply next)
        → IfSome x (λ command. IsAnswered (user_in old) command reply next)
    by None y p r = tt
    by (Some a) None p r = absurd p
    by (Some a) (Some b) p r = record { mark = r.mark; answers = r.answers ∙ p r.mark; only_memory = r.only_memory }

-- The work goes on, and the last `strays` results were strays, too few of them to end it.
pub record GoesOnAmong (strays : ℕ) (old : Owner) (before : Seen) (new : Owner) (after : Seen) : Type 0 where
  pub goes : GoesOn old before new after
  pub in_a_row : StraysRise strays before after
  pub few : strays < MAX_STRAYS

-- step after step
pub goes_then : {a b c : Owner} {p q r : Seen} → GoesOn a p b q → GoesOn b q c r → GoesOn a p c r
goes_then {a} {b} {c} first second =
    let t1 = first.tiles in let t2 = second.tiles in
    record {
      gathers = second.gathers;
      alike = alike_then a b c first.alike second.alike;
      number = second.number ∙ first.number;
      quota = second.quota ∙ first.quota;
      counted = rises_more (tiles_coming a - tiles_coming b) (tiles_coming b - tiles_coming c) (tiles_coming a - tiles_coming c)
          first.counted second.counted (omega (arith, t1, t2));
      handed = let one = first.handed in let other = second.handed in omega (arith, one, other);
      turns = omega (arith, first.turns, second.turns);
      tiles = omega (arith, t1, t2);
      posts = omega (arith, first.posts, second.posts);
      pending = λ name quiet.
          let before = first.pending name quiet in
          let after = second.pending name (first.waits name ∙ quiet) in
          omega (arith, before, after);
      waits = λ name. second.waits name ∙ first.waits name;
    }

-- by what changes neither the owner nor what is owed, and counts at most strays
goes_alike : (owner : Owner) (before after : Seen) → Gathers owner before.owed → after.owed ≡ before.owed
    → after.expected ≡ before.expected → before.strays ≤ after.strays → GoesOn owner before owner after
goes_alike owner before after t owed expected strays = record {
  gathers = subst (Gathers owner) (sym owed) t;
  alike = alike_same owner owner refl refl;
  number = refl;
  quota = refl;
  counted = record {
    expected = omega (arith, expected);
    strays = strays;
    together = λ _ _. omega (arith, expected, strays);
  };
  handed = omega (arith, expected);
  turns = omega arith;
  tiles = omega arith;
  posts = omega arith;
  pending = λ name quiet. omega arith;
  waits = λ name. refl;
}

pub goes_unchanged : (owner : Owner) (before after : Seen) → Gathers owner before.owed → SameOwed before after
    → GoesOn owner before owner after
goes_unchanged owner before after t same =
    let strays = same.strays in
    goes_alike owner before after t same.owed same.expected (omega (arith, strays))

pub goes_nothing : (owner : Owner) (seen : Seen) → Gathers owner seen.owed → GoesOn owner seen owner seen
goes_nothing owner seen t = goes_unchanged owner seen seen t (record { owed = refl; expected = refl; strays = refl })

-- one session changed that has as many pending steps as before, and means the same
module _ (owner : Owner) (name : List ℕ) (change : LiveSession → LiveSession) (session : LiveSession) (there : live_session owner.state name ≡ Some session)
    (pending : (session : LiveSession) → (change session).pending ≡ session.pending)
    (user : user_of (with_session_changed name change owner.state) ≡ user_in owner) where
  abbrev next : Owner
  next = record { state = with_session_changed name change owner.state; number = owner.number; waiting = owner.waiting }

  own_same : waiting_tiles next ≡ waiting_tiles owner
  own_same = by owner.waiting
    where
      before : (command : Command) → steps_before (with_session_changed name change owner.state) command ≡ steps_before owner.state command
      before command = by (waits_for command)
        where
          by : (o : Option (List ℕ)) → option_map_or (pending_in (with_session_changed name change owner.state)) o 0 ≡ option_map_or (pending_in owner.state) o 0
          by None = refl
          by (Some session_name) = pending-changed owner.state name change pending session_name

      by : (w : Option Command) → waiting_tiles_of next w ≡ waiting_tiles_of owner w
      by None = refl
      by (Some command) =
          ap (λ n. if nat_lt 0 n then command_tiles (user_of (with_session_changed name change owner.state)) command else 0) (before command)
          ∙ ap (λ u. if nat_lt 0 (steps_before owner.state command) then command_tiles u command else 0) user

  pub changed-turns : turns_coming next ≡ turns_coming owner
  changed-turns =
      let sum = sum-changed owner.state name change (λ session. session.pending) session there in
      let same = pending session in
      let turns_same = ap (λ u. option_map_or (turns u) owner.waiting 0) user in
      omega (arith, sum, same, turns_same)

  pub changed-tiles : tiles_coming next + tiles_of_session session ≡ tiles_coming owner + tiles_of_session (change session)
  changed-tiles =
      let sum = sum-changed owner.state name change tiles_of_session session there in
      let own = own_same in
      omega (arith, sum, own)

  pub changed-posts : posts_coming next + posts_of_session session ≡ posts_coming owner + posts_of_session (change session)
  changed-posts =
      let sum = sum-changed owner.state name change posts_of_session session there in
      let own = own_same in
      omega (arith, sum, own)

-- a post leaves the pending steps
pending_posted : (session : LiveSession) → (with_posted session).pending ≡ session.pending
pending_posted session = by (next_tile session)
  where
    by : (o : Option ℕ) → (with_passed_to o session).pending ≡ session.pending
    by None = refl
    by (Some i) = refl

-- a task posted
module _ (owner : Owner) (before after : Seen) (t : Gathers owner before.owed) (work : Task)
    (some : next_task_of owner ≡ Some work) where
  abbrev p : Posting owner before.owed t work
  p = posting owner before.owed t work some

  abbrev with_posted_there : Owner
  with_posted_there = record { state = with_session_changed (posting owner before.owed t work some).name with_posted owner.state; number = owner.number; waiting = owner.waiting }

  there_is : with_task_posted owner ≡ with_posted_there
  there_is = with_task_posted_is owner before.owed t work some

  posted_same : user_of (with_session_changed p.name with_posted owner.state) ≡ user_in owner
  posted_same = sym (ap user_in there_is) ∙ posted_user owner

  after_is : with_posted p.session ≡ record p.session { passed = p.place + 1 }
  after_is = ap (λ o. with_passed_to o p.session) p.next_place

  fewer : posts_of_session (with_posted p.session) < posts_of_session p.session
  fewer =
      let less = posted_fewer p.session (label_of owner p.name) p.step p.is_open
      (t.gathered p.name p.session p.there) p.place p.next_place in
      let is = ap posts_of_session after_is in
      omega (arith, less, is)

  same_tiles : tiles_of_session (with_posted p.session) ≡ tiles_of_session p.session
  same_tiles = ap tiles_of_session after_is

  pub fewer_posts : posts_coming (with_task_posted owner) < posts_coming owner
  fewer_posts =
      let sum = changed-posts owner p.name with_posted p.session p.there pending_posted posted_same in
      let less = fewer in
      let is = ap posts_coming there_is in
      omega (arith, sum, less, is)

  pub goes_posted : IsPosted work before after → GoesOn owner before (with_task_posted owner) after
  goes_posted posted =
      let sum = changed-tiles owner p.name with_posted p.session p.there pending_posted posted_same in
      let same = same_tiles in
      let tiles : tiles_coming (with_task_posted owner) ≡ tiles_coming owner =
      ap tiles_coming there_is ∙ (let e : tiles_coming with_posted_there ≡ tiles_coming owner = omega (arith, sum, same) in e) in
      let turns_same = ap turns_coming there_is ∙ changed-turns owner p.name with_posted p.session p.there pending_posted posted_same in
      let less = fewer_posts in
      record {
        gathers = subst (Gathers (with_task_posted owner)) (sym posted.owed) (gathers_posted owner before.owed t work some);
        alike = alike_same owner (with_task_posted owner) (ap (λ (o : Owner). o.waiting) there_is) (posted_user owner);
        number = ap (λ (o : Owner). o.number) there_is;
        quota = ap (λ (o : Owner). o.state.quota) there_is ∙ changed-quota owner.state p.name with_posted;
        counted = rises_none before after (tiles_coming owner - tiles_coming (with_task_posted owner))
            posted.expected posted.strays (omega (arith, tiles));
        handed = let expected = posted.expected in omega (arith, tiles, expected);
        turns = omega (arith, turns_same);
        tiles = omega (arith, tiles);
        posts = omega (arith, less);
        pending = λ name quiet.
            let is = ap (λ (o : Owner). pending_in o.state name) there_is in
            let same = pending-changed owner.state p.name with_posted pending_posted name in
            omega (arith, is, same);
        waits = λ name. ap (λ (o : Owner). is_waited_for o.waiting name) there_is;
      }

-- a result that is shown is the one that was handed out
pub shown : (old new : Seen) {last work : Task} → work ≡ last → IsHandedOut last old new → IsHandedOut work old new
shown old new is handed = subst (λ work. IsHandedOut work old new) (sym is) handed

-- no more is owed once a result was handed out
pub handed-owes : (task : Task) (old new : Seen) → IsHandedOut task old new → length new.owed ≤ length old.owed
handed-owes task old new (inl off) =
    let was = ap length off.was ∙ length-append off.front (task ∷ off.behind) in
    let is = ap length off.owed ∙ length-append off.front off.behind in
    omega (arith, was, is)
handed-owes task old new (inr stray) = let same = ap length stray.owed in omega (arith, same)

-- a result that comes
module _ (owner : Owner) (before after : Seen) (t : Gathers owner before.owed) (work : Task)
    (handed : IsHandedOut work before after) where
  module _ (wanted : IsAwaitedIn owner work) where
    abbrev o : Opened owner before.owed t work.name.label.session
    o = taken_open owner before.owed t work wanted

    change : LiveSession → LiveSession
    change = with_tile_in (tile_number_of work)

    wanted_there : IsAwaitedTaskIn o.session.live
        (label_of owner work.name.label.session) work o.session.live.part
    wanted_there = taken_wanted owner before.owed t work wanted

    left_less : tiles_left_in (with_tile_in (tile_number_of work) o.session).live.part + 1 ≡ tiles_left_in o.session.live.part
    left_less = taken_left o.session (label_of owner work.name.label.session) o.step o.is_open
        (t.gathered work.name.label.session o.session o.there) work wanted_there

    tiles_same : tiles_of (with_tile_in (tile_number_of work) o.session).live ≡ tiles_of o.session.live
    tiles_same = taken_tiles o.session (label_of owner work.name.label.session) o.step o.is_open
        (t.gathered work.name.label.session o.session o.there) work wanted_there

    pub taken-fewer : tiles_coming (with_task_in work owner) + 1 ≡ tiles_coming owner
    taken-fewer =
        let sum = changed-tiles owner work.name.label.session (with_tile_in (tile_number_of work)) o.session o.there (λ session. refl)
        (taken_user work owner) in
        let less = left_less in
        omega (arith, sum, less)

    goes_taken : GoesOn owner before (with_task_in work owner) after
    goes_taken =
        let less = taken-fewer in
        let posts = changed-posts owner work.name.label.session (with_tile_in (tile_number_of work)) o.session o.there (λ session. refl)
        (taken_user work owner) in
        let same = tiles_same in
        let turns_same = changed-turns owner work.name.label.session (with_tile_in (tile_number_of work)) o.session o.there (λ session. refl)
        (taken_user work owner) in
        record {
          gathers = gathers_taken owner before.owed t work wanted before after refl handed;
          alike = alike_same owner (with_task_in work owner) refl (taken_user work owner);
          number = refl;
          quota = changed-quota owner.state work.name.label.session (with_tile_in (tile_number_of work));
          counted = rises_one work before after (tiles_coming owner - tiles_coming (with_task_in work owner)) handed
              (omega (arith, less));
          handed = let one = good_once work before after handed in omega (arith, less, one);
          turns = omega (arith, turns_same);
          tiles = omega (arith, less);
          posts = omega (arith, posts, same);
          pending = λ name quiet.
              let pending = pending-changed owner.state work.name.label.session (with_tile_in (tile_number_of work)) (λ session. refl) name in
              omega (arith, pending);
          waits = λ name. refl;
        }

  -- one that is of no tile that is awaited was not owed
  refused_stray : (IsAwaitedIn owner work → ⊥) → IsStray work before after
  refused_stray unwanted = by handed
    where
      by : IsHandedOut work before after → IsStray work before after
      by (inl off) = absurd (unwanted (wanted_off owner before.owed t work before after refl off))
      by (inr stray) = stray

  goes_stray : (IsAwaitedIn owner work → ⊥) → GoesOn owner before owner after
  goes_stray unwanted =
      let stray = refused_stray unwanted in
      let strays = stray.strays in
      goes_alike owner before after t stray.owed stray.expected (omega (arith, strays))

  module _ {A B : Type 0} (next : Owner) where
    pub comes : (r : Result A B) → (IsOk r ↔ IsAwaitedIn owner work) → OnOk r (next ≡ with_task_in work owner)
        → OnErr r (next ≡ owner) → GoesOn owner before next after
    comes (Ok a) accepted taken refused =
        subst (λ (o : Owner). GoesOn owner before o after) (sym taken) (goes_taken (accepted.0 refl))
    comes (Err e) accepted taken refused =
        subst (λ (o : Owner). GoesOn owner before o after) (sym refused) (goes_stray (λ wanted. false≢true (accepted.1 wanted)))

    pub comes_fewer : (r : Result A B) → (IsOk r ↔ IsAwaitedIn owner work) → OnOk r (next ≡ with_task_in work owner)
        → is_ok r ≡ true → tiles_coming next < tiles_coming owner
    comes_fewer (Ok a) accepted taken is =
        let less = taken-fewer (accepted.0 refl) in
        let same = ap tiles_coming taken in
        omega (arith, less, same)
    comes_fewer (Err e) accepted taken is = absurd (false≢true is)

    pub comes_stray : (r : Result A B) → (IsOk r ↔ IsAwaitedIn owner work) → is_ok r ≡ false
        → IsStray work before after
    comes_stray (Ok a) accepted is = absurd (true≢false is)
    comes_stray (Err e) accepted is = refused_stray (λ wanted. false≢true (accepted.1 wanted))

-- where a task is owed a tile is to come
pub owed-coming : (owner : Owner) (seen : Seen) → Gathers owner seen.owed → 0 < length seen.owed → 0 < tiles_coming owner
owed-coming owner seen t some = by seen.owed refl
  where
    without : List Task → Seen
    without rest = record { owed = rest; expected = one_more seen.expected; strays = seen.strays; closed = seen.closed }

    by : (owed : List Task) → seen.owed ≡ owed → 0 < tiles_coming owner
    by [] e = absurd (let none = ap length e in omega (arith, none, some))
    by (work ∷ rest) e =
        let off : TakesOff work seen (without rest) = record {
          front = [];
          behind = rest;
          was = e;
          first = λ there. let few = there.1 in omega (arith, few);
          owed = refl;
          expected = refl;
          strays = refl;
        } in
        let less = taken-fewer owner seen (without rest) t work (inl off)
        (wanted_off owner seen.owed t work seen (without rest) refl off) in
        omega (arith, less)

-- and so it is where a task is to be posted
pub post-coming : (owner : Owner) (seen : Seen) → Gathers owner seen.owed → (work : Task) → next_task_of owner ≡ Some work
    → 0 < tiles_coming owner
post-coming owner seen t work some =
    let goes = goes_posted owner seen with_it t work some (record { owed = refl; expected = refl; strays = refl }) in
    let many = length-append seen.owed (work ∷ []) in
    let coming = owed-coming (with_task_posted owner) with_it goes.gathers (omega (arith, many)) in
    let same = goes.tiles in
    omega (arith, coming, same)
  where
    with_it : Seen
    with_it = record { owed = seen.owed ++ work ∷ []; expected = seen.expected; strays = seen.strays; closed = seen.closed }

-- a session turned, where that answers nothing
pub record TurnsOn (owner next : Owner) (seen : Seen) : Type 0 where
  pub goes : GoesOn owner seen next seen
  pub fewer : turns_coming next < turns_coming owner

pub turns_on : (owner next : Owner) (seen : Seen) (t : Gathers owner seen.owed) (name : List ℕ)
    → is_whole_in owner.state name ≡ true → (IsLastTurn name owner → ⊥) → next ≡ owner_turned name owner
    → WaitsAlike owner next → next.number ≡ owner.number → next.state.quota ≡ owner.state.quota
    → TurnsOn owner next seen
turns_on owner next seen t name whole more is alike number quota =
    let turned_on = turned owner seen.owed t name whole more in
    let turns_less = turned_on.turns in
    let posts_less = turned_on.posts in
    let tiles : tiles_coming next ≡ tiles_coming owner = ap tiles_coming is ∙ turned_on.tiles in
    let turns_is = ap turns_coming is in
    let posts_is = ap posts_coming is in
    record {
      goes = record {
        gathers = subst (λ (o : Owner). Gathers o seen.owed) (sym is) turned_on.gathers;
        alike = alike;
        number = number;
        quota = quota;
        counted = rises_none seen seen (tiles_coming owner - tiles_coming next) refl refl (omega (arith, tiles));
        handed = omega (arith, tiles);
        turns = omega (arith, turns_less, turns_is);
        tiles = omega (arith, tiles);
        posts = omega (arith, posts_less, posts_is);
        pending = λ other quiet.
            let few = turned-pending name owner other quiet in
            let same = ap (λ (o : Owner). pending_in o.state other) is in
            omega (arith, few, same);
        waits = λ other. ap (λ (o : Owner). is_waited_for o.waiting other) is ∙ turned-waits name owner other;
      };
      fewer = omega (arith, turns_less, turns_is);
    }
