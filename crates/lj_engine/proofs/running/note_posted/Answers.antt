use Rattle.std.proofs.Common.{◌+◌, ◌-◌, ◌≡◌, ◌∙◌, ap, arith, sym}
use Rattle.lj_engine.specs.Posting.{after_posts}
use Rattle.lj_engine.proofs.running.note_posted.Goals as goal

pub returns-then-posted-gt0 : goal.returns-then-posted-gt0
returns-then-posted-gt0 c =
    let some = c.if-posted-gt0.true in
    let is : c.args.posted - 1 + 1 ≡ c.args.posted = omega (arith, some) in
    c.post_to.ensures.noted ∙ sym (c.requires.ends (c.args.posted - 1) (omega (arith, some)))
    ∙ ap (λ n. after_posts n c.args.owner.now) is
