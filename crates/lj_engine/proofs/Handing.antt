-- Serving goes on before the next item, and the state that is handed back.
use Rattle.std.proofs.Common.{◌≡◌, ℕ, ◌-◌, ◌<◌, ◌≤◌, List, [], Option, None, refl, sym, ap, ◌∙◌, subst, arith}
use Rattle.std.specs.List.{IsDistinct, Contains}
use Rattle.std.specs.Str.{bytes_eq}
use Rattle.lj_task.specs.Task.{Task}
use Rattle.lj_session.specs.UserState.{UserState, pending_in, with_steps_restarted, loaded_names}
use Rattle.lj_session.specs.Owner.{Owner, owner_of_state, is_waited_for}
use Rattle.lj_wire.specs.declared.reader.phase.Phase.TheVariants.{Open}
use Rattle.lj_wire.specs.LineReader.{LineReader}
use Rattle.lj_engine.specs.declared.running.Halt.{Halt}
use Rattle.lj_engine.specs.declared.served.Served.{Served}
use Rattle.lj_engine.specs.Endings.{served_of}
use Rattle.lj_end.specs.Seen.{Seen}
use Rattle.lj_engine.specs.Gathering.{Gathers, NonePending}
use Rattle.lj_engine.specs.Counting.{tiles_pending}
use Rattle.lj_engine.specs.Coming.{GoesOn, waiting_tiles_of, state_tiles_coming, tiles_coming}
use Rattle.lj_engine.specs.Served.{ReturnsState}
use Rattle.lj_engine.specs.Serving.{Serving}
use Rattle.lj_engine.proofs.Dialogues.{serving-start, serving-goes}
use Rattle.lj_engine.proofs.Ending.{alike_none}
use Rattle.lj_engine.proofs.Going.{rises_more, rises_none}
use Rattle.lj_engine.proofs.Rested.{gathers-entered, rested-few, none-owed, owed-pending}

-- an owner that has just been given the state
module _ (state : UserState) (number : ℕ) (owner : Owner) (is : owner ≡ owner_of_state state number) where
  pub entered_serving : (first : LineReader) (was : Option (List ℕ)) (old : Seen) → first.items ≡ 0 → first.phase ≡ Open
      → Serving state first first was was old old owner.state
  entered_serving first was old none at_work =
      subst (λ (o : Owner). Serving state first first was was old old o.state) (sym is)
      (serving-start state first was old none at_work)

  pub entered_gathers : (seen : Seen) → seen.owed ≡ [] → IsDistinct bytes_eq (loaded_names owner.state) → Gathers owner seen.owed
  entered_gathers seen none distinct =
      subst (Gathers owner) (sym none)
      (subst (λ (o : Owner). Gathers o []) (sym is)
      (gathers-entered state number (subst (λ (o : Owner). IsDistinct bytes_eq (loaded_names o.state)) is distinct)))

idle_tiles : (owner : Owner) → owner.waiting ≡ None → tiles_coming owner ≡ state_tiles_coming owner.state
idle_tiles owner idle =
    let none = ap (waiting_tiles_of owner) idle in omega (arith, none)

-- the work goes on before the next item
module _ {owner : Owner} {seen : Seen} (idle : owner.waiting ≡ None) {next : Owner} {newer : Seen}
    (goes : GoesOn owner seen next newer) where
  pub ahead_idle : next.waiting ≡ None
  ahead_idle = (alike_none owner next goes.alike idle).0

  pub ahead_serving : {start : UserState} {first now : LineReader} {was is : Option (List ℕ)} {old : Seen}
      → Serving start first now was is old seen owner.state → Serving start first now was is old newer next.state
  ahead_serving {start} {first} {now} {was} {is} {old} s =
      let before = idle_tiles owner idle in
      let after = idle_tiles next ahead_idle in
      serving-goes start first now was is old seen owner.state s next.state newer (alike_none owner next goes.alike idle).1
      (rises_more (tiles_coming owner - tiles_coming next) 0 (state_tiles_coming owner.state - state_tiles_coming next.state) goes.counted
      (rises_none newer newer 0 refl refl (omega arith)) (omega (arith, before, after)))
      (let handed = goes.handed in omega (arith, handed, before, after))
      (λ name. goes.pending name (ap (λ w. is_waited_for w name) idle))

  -- the session of each task that is owed has a pending step then
  pub ahead_pending : (task : Task) → Contains newer.owed task → 0 < pending_in next.state task.name.label.session
  ahead_pending = owed-pending next newer.owed goes.gathers ahead_idle

-- the state handed back
module _ (owner : Owner) (seen : Seen) (t : Gathers owner seen.owed) (idle : owner.waiting ≡ None) (back : UserState)
    (is : back ≡ with_steps_restarted owner.state) where
  pub back_few : state_tiles_coming owner.state ≤ tiles_pending back
  back_few = subst (λ o. state_tiles_coming owner.state ≤ tiles_pending o) (sym is) (rested-few owner seen.owed t idle)

  pub hands_back : (start : UserState) → owner.state.quota ≡ start.quota → ReturnsState start seen back
  hands_back start quota = record {
    none_owed = λ none. none-owed owner seen.owed t idle (subst NonePending is none);
    quota = ap (λ (state : UserState). state.quota) is ∙ quota;
  }

-- what is so where the pool is given up is so of the result
pub given : (P : Served → Option UserState → Type 0) (halt : Halt) (result : Option UserState × Served) → result.0 ≡ None
    → result.1 ≡ served_of halt → P (served_of halt) None → P result.1 result.0
given P halt result none served p =
    subst (λ kind. P kind result.0) (sym served) (subst (P (served_of halt)) (sym none) p)
