use Rattle.std.proofs.Common.{◌≡◌, ◌<◌, ◌-◌, ◌++◌, ◌∷◌, [], length, take, get_or, sym, ap, ◌∙◌, subst, arith}
use Rattle.std.specs.List.{remove}
use Rattle.std.proofs.lemmas.List.{get_or_default}
use Rattle.std.specs.Prelude.{map}
use Rattle.lj_end.specs.Accounts.{IsKeptAccount, tasks_owed}
use Rattle.lj_step.specs.OpenSteps.{tile_number_of}
use Rattle.lj_end.proofs.Places.{works_left, kept_left, map_remove}
use Rattle.lj_end.proofs.account.Account.take_off.Given.{Over}
use Rattle.lj_end.proofs.account.Account.take_off.Goals.{After-push}
use Rattle.lj_end.proofs.account.Account.take_off.Goals as goal

inside : (g : Over) (c : After-push g) → c.args.here < c.self.inside.owed
inside g c = omega (arith, c.requires, c.self.invariant.0.count, ap (λ s. length s.owed) c.self.view_is)

-- the place is moved to the end
places_are : (g : Over) (c : After-push g) → c.push.new.self.items
    ≡ remove c.self.inside.places.items c.args.here ++ get_or c.self.inside.places.items c.args.here 0 ∷ []
places_are g c =
    let kept = c.self.invariant.0 in
    let places = c.self.inside.places.items in
    let here = c.args.here in
    let within : here < length places = omega (arith, inside g c, kept.all, kept.most) in
    let place : c.remove-place.result ≡ get_or places here 0 =
    c.remove-place.ensures.value ∙ get_or_default places here c.remove-place.result 0 within in
    c.push.ensures.items ∙ ap (λ xs. xs ++ c.remove-place.result ∷ []) c.remove-place.ensures.items
    ∙ ap (λ k. remove places here ++ k ∷ []) place

-- the tasks that are left
tasks_left : (g : Over) (c : After-push g)
    → tasks_owed c.self.inside.tasks (take (c.self.inside.owed - 1) c.push.new.self.items)
    ≡ remove (tasks_owed c.self.inside.tasks (take c.self.inside.owed c.self.inside.places.items)) c.args.here
tasks_left g c =
    ap (λ xs. tasks_owed c.self.inside.tasks (take (c.self.inside.owed - 1) xs)) (places_are g c)
    ∙ works_left c.self.inside.tasks c.self.inside.places.items c.self.inside.owed c.args.here c.self.invariant.0 (inside g c)

pub invariant_of-self : goal.invariant_of-self
invariant_of-self g c =
    let p = (goal.at.invariant_of-self g c).After-push in
    let here = c.args.here in (
      subst (λ xs. IsKeptAccount c.self.inside.tasks xs (c.self.inside.owed - 1)) (sym (places_are g p))
          (kept_left c.self.inside.tasks c.self.inside.places.items c.self.inside.owed here c.self.invariant.0 (inside g p)),
      c.remove.ensures.items ∙ ap (λ tiles. remove tiles here) c.self.invariant.1
          ∙ sym (ap (map tile_number_of) (tasks_left g p) ∙ map_remove tile_number_of (tasks_owed c.self.inside.tasks
          (take c.self.inside.owed c.self.inside.places.items)) here),
    )

pub returns-clause-owed : goal.returns-clause-owed
returns-clause-owed g c =
    tasks_left g (goal.at.returns-clause-owed g c).After-push ∙ ap (λ s. remove s.owed c.args.here) c.self.view_is

pub returns-clause-room : goal.returns-clause-room
returns-clause-room g c =
    let p = (goal.at.returns-clause-room g c).After-push in
    let kept = c.self.invariant.0 in
    let left =
    kept_left c.self.inside.tasks c.self.inside.places.items c.self.inside.owed c.args.here kept (inside g p) in
    let count : length (tasks_owed c.self.inside.tasks (take (c.self.inside.owed - 1) p.push.new.self.items)) ≡ c.self.inside.owed - 1 =
    subst (λ xs. length (tasks_owed c.self.inside.tasks (take (c.self.inside.owed - 1) xs)) ≡ c.self.inside.owed - 1)
    (sym (places_are g p)) left.count in
    omega (arith, count, kept.most, inside g p)
