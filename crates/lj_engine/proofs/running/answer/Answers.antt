use Rattle.lj_engine.proofs.Ending.{answers_at_once, begun_answered, begun_gathers, begun_unanswered, if_ok, on_err}
use Rattle.lj_engine.proofs.running.answer.Goals as goal

pub run-requires-clause-gathers : goal.run-requires-clause-gathers
run-requires-clause-gathers g c =
    begun_gathers c.args.owner.now (g.P.PoolEnd.seen c.args.pool.now) c.requires.gathers c.requires.idle c.in-Command.command
    c.begin_from.new.self c.in-Running.ensures.running.takes_turns c.in-Running.ensures.running.begun

pub returns-in-Answered-clause-answered : goal.returns-in-Answered-clause-answered
returns-in-Answered-clause-answered g c =
    rw c.in-Command.is
    (answers_at_once c.args.owner.now (g.P.PoolEnd.seen c.args.pool.now) c.requires.gathers c.requires.idle c.in-Command.command
    c.begin_from.new.self c.in-Answered.reply c.begin_from.ensures.kept.number c.in-Answered.ensures.answered.idle c.in-Answered.ensures.answered.at_once
    c.in-Answered.ensures.answered.answered c.in-Answered.ensures.unchanged c.begin_from.ensures.kept.others c.in-Answered.ensures.answered.steps
    c.in-Answered.ensures.answered.settled)

pub returns-in-Running-clause-answered : goal.returns-in-Running-clause-answered
returns-in-Running-clause-answered g c =
    rw c.in-Command.is
    (if_ok c.run.result
    (begun_answered c.args.owner.now (g.P.PoolEnd.seen c.args.pool.now) c.requires.gathers c.requires.idle c.in-Command.command
    c.begin_from.new.self c.in-Running.ensures.running.takes_turns c.in-Running.ensures.running.begun c.in-Running.ensures.running.alike
    c.run.new.owner (g.P.PoolEnd.seen c.run.new.pool))
    c.run.ensures.answered)

pub returns-in-Running-clause-unanswered : goal.returns-in-Running-clause-unanswered
returns-in-Running-clause-unanswered g c =
    rw c.in-Command.is
    (on_err c.run.result
    (begun_unanswered c.args.owner.now (g.P.PoolEnd.seen c.args.pool.now) c.requires.gathers c.requires.idle c.in-Command.command
    c.begin_from.new.self c.in-Running.ensures.running.takes_turns c.in-Running.ensures.running.begun (g.P.PoolEnd.seen c.run.new.pool))
    c.run.ensures.missing)
