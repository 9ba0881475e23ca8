use Rattle.std.proofs.Common.{◌≡◌, ◌<◌, ◌+◌, ◌++◌, ◌∷◌, [], Some, length, take, get_or, set, sym, ap, ◌∙◌, subst, arith}
use Rattle.lj_end.specs.declared.pool.TheConstants.{MAX_OWED}
use Rattle.std.specs.Prelude.{map}
use Rattle.std.proofs.lemmas.List.{map-append}
use Rattle.lj_end.specs.Accounts.{IsKeptAccount, tasks_owed}
use Rattle.lj_step.specs.OpenSteps.{tile_number_of}
use Rattle.lj_end.proofs.Places.{place_within, works_posted, kept_posted}
use Rattle.lj_end.proofs.account.Account.post.Goals as goal

pub bounds-self-inside-place : goal.bounds-self-inside-place
bounds-self-inside-place g c =
    let kept = c.self.invariant.0 in
    let owed = c.self.inside.owed in
    let room : owed < MAX_OWED = omega (arith, c.requires, kept.count, ap (λ s. length s.owed) c.self.view_is) in
    let is = c.from-place.ensures ∙ ap (λ xs. get_or xs owed 0) c.deref.ensures.0 in
    subst (λ k. k < MAX_OWED) (sym is)
    (place_within c.self.inside.places.items kept.once owed (omega (arith, kept.all, room)))

pub listed : goal.listed
listed g c = omega (arith, bounds-self-inside-place g c, c.self.invariant.0.size)

pub invariant_of-self : goal.invariant_of-self
invariant_of-self g c =
    let kept = c.self.invariant.0 in
    let owed = c.self.inside.owed in
    let tasks = c.self.inside.tasks in
    let places = c.self.inside.places.items in
    let task = c.args.task.now in
    let room : owed < MAX_OWED = omega (arith, c.requires, kept.count, ap (λ s. length s.owed) c.self.view_is) in
    let is = c.from-place.ensures ∙ ap (λ xs. get_or xs owed 0) c.deref.ensures.0 in
    let posted : tasks_owed (set tasks c.from-place.result c.keep-tile.new.kept) (take (owed + 1) places)
    ≡ tasks_owed tasks (take owed places) ++ task ∷ [] =
    ap (λ slot. tasks_owed (set tasks c.from-place.result slot) (take (owed + 1) places)) c.keep-tile.ensures.kept
    ∙ ap (λ k. tasks_owed (set tasks k (Some task)) (take (owed + 1) places)) is
    ∙ works_posted tasks places owed task kept room in (
      subst (λ slot. IsKeptAccount (set tasks c.from-place.result slot) places (owed + 1)) (sym c.keep-tile.ensures.kept)
          (subst (λ k. IsKeptAccount (set tasks k (Some task)) places (owed + 1)) (sym is) (kept_posted tasks places owed task kept room)),
      c.push.ensures.items
          ∙ ap (λ tiles. tiles ++ c.keep-tile.result ∷ []) c.self.invariant.1
          ∙ ap (λ tile. map tile_number_of (tasks_owed tasks (take owed places)) ++ tile ∷ []) c.keep-tile.ensures.tile
          ∙ sym (ap (map tile_number_of) posted ∙ map-append tile_number_of (tasks_owed tasks (take owed places)) (task ∷ [])),
    )

pub returns-clause-posted : goal.returns-clause-posted
returns-clause-posted g c =
    let kept = c.self.invariant.0 in
    let owed = c.self.inside.owed in
    let tasks = c.self.inside.tasks in
    let places = c.self.inside.places.items in
    let room : owed < MAX_OWED = omega (arith, c.requires, kept.count, ap (λ s. length s.owed) c.self.view_is) in
    let is = c.from-place.ensures ∙ ap (λ xs. get_or xs owed 0) c.deref.ensures.0 in
    record {
      owed = ap (λ slot. tasks_owed (set tasks c.from-place.result slot) (take (owed + 1) places)) c.keep-tile.ensures.kept
          ∙ subst (λ k. tasks_owed (set tasks k (Some c.args.task.now)) (take (owed + 1) places)
          ≡ tasks_owed tasks (take owed places) ++ c.args.task.now ∷ []) (sym is)
          (works_posted tasks places owed c.args.task.now kept room)
          ∙ ap (λ s. s.owed ++ c.args.task.now ∷ []) c.self.view_is;
      expected = ap (λ s. s.expected) c.self.view_is;
      strays = ap (λ s. s.strays) c.self.view_is;
    }
