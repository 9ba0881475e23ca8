use Rattle.std.proofs.Common.{◌≡◌, length, sym, ◌∙◌, subst, arith}
use Rattle.std.proofs.lemmas.List.{length-map}
use Rattle.lj_session.specs.UserState.{is_whole_in, loaded_names}
use Rattle.lj_session.proofs.Firsts.{NoneBefore, none-first, none-next, find-at, find-nowhere}
use Rattle.lj_session.proofs.state.UserState.first_whole.Goals as goal

pub loop-i-init : goal.loop-i-init
loop-i-init c = none-first (is_whole_in c.args.self.now) (loaded_names c.args.self.now)

pub returns-then-is_whole_at : goal.returns-then-is_whole_at
returns-then-is_whole_at c =
    sym (find-at (is_whole_in c.args.self.now) (loaded_names c.args.self.now) c.loop-i.i c.name_at-name.result.now
    c.name_at-name.ensures (sym (c.is_whole_at.ensures c.name_at-name.result.now c.name_at-name.ensures) ∙ c.if-is_whole_at.true) c.loop-i.invariant)

pub loop-i-preserved : goal.loop-i-preserved
loop-i-preserved c =
    none-next (is_whole_in c.args.self.now) (loaded_names c.args.self.now) c.loop-i.i c.name_at-name.result.now
    c.name_at-name.ensures (sym (c.is_whole_at.ensures c.name_at-name.result.now c.name_at-name.ensures) ∙ c.if-is_whole_at.false) c.loop-i.invariant

pub returns : goal.returns
returns c =
    let count : c.loop-i.i ≡ length (loaded_names c.args.self.now) =
    (let past = c.loop-i-test.false in let most = c.loop-i.auto.i-end in omega (arith, past, most))
    ∙ c.len-i-end.ensures.value ∙ sym (length-map c.args.self.now.sessions (λ entry. entry.0)) in
    sym (find-nowhere (is_whole_in c.args.self.now) (loaded_names c.args.self.now)
    (subst (NoneBefore (is_whole_in c.args.self.now) (loaded_names c.args.self.now)) count c.loop-i.invariant))
