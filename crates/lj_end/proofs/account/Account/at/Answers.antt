use Rattle.std.proofs.Common.{◌<◌, None, Some, length, get_or, sym, ap, ◌∙◌, subst, arith}
use Rattle.std.proofs.lemmas.List.{get_or_default}
use Rattle.std.proofs.lemmas.Option.{slice_get-get_or}
use Rattle.lj_task.specs.Blank.{blank_task}
use Rattle.lj_end.specs.declared.pool.TheConstants.{MAX_OWED}
use Rattle.lj_end.proofs.Places.{place_within, task_at}
use Rattle.lj_end.proofs.account.Account.at.Goals as goal

pub bounds-self-inside-place : goal.bounds-self-inside-place
bounds-self-inside-place g c =
    let kept = c.self.invariant.0 in
    let inside : c.args.here < c.self.inside.owed =
    omega (arith, c.requires, kept.count, ap (λ s. length s.owed) c.self.view_is) in
    let is = c.from-place.ensures ∙ ap (λ xs. get_or xs c.args.here 0) c.deref.ensures.0 in
    subst (λ k. k < MAX_OWED) (sym is)
    (place_within c.self.inside.places.items kept.once c.args.here (omega (arith, kept.all, kept.most, inside)))

pub listed : goal.listed
listed g c = omega (arith, bounds-self-inside-place g c, c.self.invariant.0.size)

pub returns : goal.returns
returns g c =
    let kept = c.self.invariant.0 in
    let tasks = c.self.inside.tasks in
    let here = c.args.here in
    let inside : here < c.self.inside.owed =
    omega (arith, c.requires, kept.count, ap (λ s. length s.owed) c.self.view_is) in
    let is = c.from-place.ensures ∙ ap (λ xs. get_or xs here 0) c.deref.ensures.0 in
    let fits : c.from-place.result < length tasks = omega (
      arith,
      is,
      kept.size,
      place_within c.self.inside.places.items kept.once here (omega (arith, kept.all, kept.most, inside)),
    ) in
    c.as_ref.ensures.value ∙ get_or_default tasks c.from-place.result c.index-self-place.result None fits
    ∙ ap (λ k. get_or tasks k None) is
    ∙ task_at tasks c.self.inside.places.items c.self.inside.owed here kept inside blank_task
    ∙ ap (λ s. Some (get_or s.owed here blank_task)) c.self.view_is
    ∙ sym (slice_get-get_or c.args.self.now.owed here blank_task c.requires)
