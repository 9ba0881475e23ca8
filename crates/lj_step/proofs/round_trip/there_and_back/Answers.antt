use Rattle.lj_step.proofs.RoundTrip.{back_again}
use Rattle.lj_step.proofs.round_trip.there_and_back.Goals as goal

pub returns : goal.returns
returns g c =
    back_again c.args.sim.now c.go.new.sim c.reverse.new.self c.go-2.new.sim c.reverse-2.new.self
    c.args.steps c.count-whole.ensures.whole
    c.go.ensures.composition c.go.ensures.motion c.reverse.ensures.value c.go-2.ensures.composition
    c.go-2.ensures.motion c.reverse-2.ensures.value
