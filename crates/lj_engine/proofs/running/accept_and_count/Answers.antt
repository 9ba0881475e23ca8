use Rattle.std.proofs.Common.{sym, ◌∙◌, subst}
use Rattle.lj_engine.proofs.Gathered.{known_by_name}
use Rattle.lj_engine.proofs.Going.{comes, comes_fewer, comes_stray, handed-owes, shown}
use Rattle.lj_end.specs.Accounts.{IsKnownByName}
use Rattle.lj_end.specs.Seen.{IsStray}
use Rattle.lj_engine.proofs.running.accept_and_count.Goals as goal

pub count-requires-clause-known : goal.count-requires-clause-known
count-requires-clause-known g c taken =
    let owed = (g.P.PoolEnd.seen c.args.pool.now).owed in
    subst (IsKnownByName owed) c.fetched.ensures
    (known_by_name c.args.owner.now owed c.requires.gathers c.fetched.result (c.accept_from.ensures.accepted.0
    (sym c.is_ok-taken.ensures.value ∙ taken)))

pub returns-clause-goes_on : goal.returns-clause-goes_on
returns-clause-goes_on g c =
    let old = g.P.PoolEnd.seen c.args.pool.now in
    let new = g.P.PoolEnd.seen c.count.new.self in
    comes c.args.owner.now old new c.requires.gathers c.fetched.result (shown old new c.fetched.ensures c.count.ensures.handed_out)
    c.accept_from.new.self c.accept_from.result c.accept_from.ensures.accepted c.accept_from.ensures.taken c.accept_from.ensures.unchanged

pub returns-clause-fewer : goal.returns-clause-fewer
returns-clause-fewer g c taken =
    let old = g.P.PoolEnd.seen c.args.pool.now in
    let new = g.P.PoolEnd.seen c.count.new.self in
    comes_fewer c.args.owner.now old new c.requires.gathers c.fetched.result
    (shown old new c.fetched.ensures c.count.ensures.handed_out)
    c.accept_from.new.self c.accept_from.result c.accept_from.ensures.accepted c.accept_from.ensures.taken
    (sym c.is_ok-taken.ensures.value ∙ taken)

pub returns-clause-stray : goal.returns-clause-stray
returns-clause-stray g c dropped =
    let old = g.P.PoolEnd.seen c.args.pool.now in
    let new = g.P.PoolEnd.seen c.count.new.self in
    subst (λ work. IsStray work old new) c.fetched.ensures
    (comes_stray c.args.owner.now old new c.requires.gathers c.fetched.result (shown old new c.fetched.ensures c.count.ensures.handed_out)
    c.accept_from.new.self c.accept_from.result c.accept_from.ensures.accepted (sym c.is_ok-taken.ensures.value ∙ dropped))

pub returns-clause-owes : goal.returns-clause-owes
returns-clause-owes g c =
    handed-owes (g.P.PoolEnd.last c.args.pool.now) (g.P.PoolEnd.seen c.args.pool.now) (g.P.PoolEnd.seen c.count.new.self)
    c.count.ensures.handed_out
