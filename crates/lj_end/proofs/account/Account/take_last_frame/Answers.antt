use Rattle.std.proofs.Common.{◌≡◌, ◌<◌, ◌≤◌, length, take, get_or, set, sym, ap, ◌∙◌, subst, arith}
use Rattle.std.specs.Prelude.{is_some, map}
use Rattle.lj_end.specs.declared.pool.TheConstants.{MAX_OWED}
use Rattle.lj_end.specs.Accounts.{IsKeptAccount, tasks_owed}
use Rattle.lj_step.specs.OpenSteps.{tile_number_of}
use Rattle.lj_end.proofs.Places.{place_within, works_released, kept_released}
use Rattle.lj_end.proofs.account.Account.take_last_frame.Goals as goal

pub bounds-self-inside-place : goal.bounds-self-inside-place
bounds-self-inside-place g c =
    let kept = c.self.invariant.0 in
    let is = c.from-place.ensures ∙ ap (λ xs. get_or xs 63 0) c.deref.ensures.0 in
    subst (λ k. k < MAX_OWED) (sym is)
    (place_within c.self.inside.places.items kept.once 63 (omega (arith, kept.all)))

pub listed : goal.listed
listed g c = omega (arith, bounds-self-inside-place g c, c.self.invariant.0.size)

pub invariant_of-self : goal.invariant_of-self
invariant_of-self g c =
    let kept = c.self.invariant.0 in
    let owed = c.self.inside.owed in
    let tasks = c.self.inside.tasks in
    let places = c.self.inside.places.items in
    let behind : owed ≤ 63 = omega (arith, c.requires, kept.count, ap (λ s. length s.owed) c.self.view_is) in
    let within : 63 < length places = omega (arith, kept.all) in
    let is = c.from-place.ensures ∙ ap (λ xs. get_or xs 63 0) c.deref.ensures.0 in (
      subst (λ k. IsKeptAccount (set tasks k c.take_frame.new.kept) places owed) (sym is)
          (kept_released tasks places owed 63 c.take_frame.new.kept kept behind within),
      c.self.invariant.1 ∙ sym (ap (map tile_number_of)
          (ap (λ k. tasks_owed (set tasks k c.take_frame.new.kept) (take owed places)) is
          ∙ works_released tasks places owed 63 c.take_frame.new.kept kept behind within)),
    )

pub returns : goal.returns
returns g c =
    let kept = c.self.invariant.0 in
    let owed = c.self.inside.owed in
    let tasks = c.self.inside.tasks in
    let places = c.self.inside.places.items in
    let behind : owed ≤ 63 = omega (arith, c.requires, kept.count, ap (λ s. length s.owed) c.self.view_is) in
    let is = c.from-place.ensures ∙ ap (λ xs. get_or xs 63 0) c.deref.ensures.0 in
    ap (λ w. record {
      owed = w;
      expected = c.self.inside.expected;
      strays = c.self.inside.strays;
      closed = is_some c.self.inside.closed;
    }) (ap (λ k. tasks_owed (set tasks k c.take_frame.new.kept) (take owed places)) is
    ∙ works_released tasks places owed 63 c.take_frame.new.kept kept behind (omega (arith, kept.all)))
    ∙ c.self.view_is
