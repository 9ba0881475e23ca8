use Rattle.std.proofs.Common.{ap, ◌∙◌, ◌^◌}
use Rattle.std.specs.Prelude.{nat_le, unsigned_abs}
use Rattle.std.proofs.lemmas.Bool.{le-leb}
use Rattle.lj_session.proofs.Reach.{read_target}
use Rattle.lj_session.proofs.live_session.leads_in_range.Goals as goal

pub returns : goal.returns
returns c =
    rw (le-leb c.args.steps 1000000 c.if-steps-gt-MAX_STEPS.false)
    (ap (λ n. nat_le n (10 ^ 12)) (c.unsigned_abs.ensures.value
    ∙ ap unsigned_abs (read_target c.args.step c.args.dir c.args.steps c.requires.here c.requires.dir c.if-steps-gt-MAX_STEPS.false)))
