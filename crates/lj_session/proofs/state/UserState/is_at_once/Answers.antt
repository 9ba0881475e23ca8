use Rattle.std.proofs.Common.{◌≡◌, ◌<◌, ◌≤◌, ℕ, Bool, true, false, refl, sym, ◌∙◌, subst, arith}
use Rattle.std.specs.Prelude.{not}
use Rattle.std.proofs.lemmas.Bool.{true≢false}
use Rattle.lj_session.proofs.Indices.{nothing-before, before-pending, before-nothing, before-far, before-near, before-measure, before-other}
use Rattle.lj_session.proofs.state.UserState.is_at_once.Goals as goal

not-true : (b : Bool) → not b ≡ true → b ≡ false
not-true true h = absurd (true≢false (sym h))
not-true false h = refl

not-false : (b : Bool) → not b ≡ false → b ≡ true
not-false true h = refl
not-false false h = absurd (true≢false h)

pub returns-in_default-clause-at_once : goal.returns-in_default-clause-at_once
returns-in_default-clause-at_once c = λ _. nothing-before c.args.self.now c.args.command.now (sym c.requires ∙ c.in_default.is)

pub returns-then-pending-gt0-clause-waits : goal.returns-then-pending-gt0-clause-waits
returns-then-pending-gt0-clause-waits c = λ _.
    before-pending c.args.self.now c.args.command.now c.in-Some.i c.at-session.result.now
    (sym c.requires ∙ c.in-Some.is) c.at-session.ensures (subst (λ n. 0 < n) c.pending.ensures c.if-pending-gt0.true)

-- where none is pending there
none_of : (m k : ℕ) → m ≤ 0 → m ≡ k → k ≡ 0
none_of m k few is = omega (arith, few, is)

pub returns-then-steps-eq0-clause-at_once : goal.returns-then-steps-eq0-clause-at_once
returns-then-steps-eq0-clause-at_once c = λ _.
    before-nothing c.args.self.now c.args.command.now c.in-Some.i c.at-session.result.now
    (sym c.requires ∙ c.in-Some.is) c.at-session.ensures (none_of _ _ c.if-pending-gt0.false c.pending.ensures)
    c.in-Advance.name c.in-Advance.steps c.in-Advance.is c.if-steps-eq0.true

pub returns-else-steps-eq0-clause-at_once : goal.returns-else-steps-eq0-clause-at_once
returns-else-steps-eq0-clause-at_once c = λ far.
    before-far c.args.self.now c.args.command.now c.in-Some.i c.at-session.result.now
    (sym c.requires ∙ c.in-Some.is) c.at-session.ensures (none_of _ _ c.if-pending-gt0.false c.pending.ensures)
    c.in-Advance.name c.in-Advance.steps c.in-Advance.is (sym c.can_advance.ensures ∙ not-true _ far)

pub returns-else-steps-eq0-clause-waits : goal.returns-else-steps-eq0-clause-waits
returns-else-steps-eq0-clause-waits c = λ near.
    let n = before-near c.args.self.now c.args.command.now c.in-Some.i c.at-session.result.now
    (sym c.requires ∙ c.in-Some.is) c.at-session.ensures (none_of _ _ c.if-pending-gt0.false c.pending.ensures)
    c.in-Advance.name c.in-Advance.steps c.in-Advance.is (sym c.can_advance.ensures ∙ not-false _ near) in
    let some = c.if-steps-eq0.false in
    omega (arith, n, some)

pub returns-in-Measure-clause-waits : goal.returns-in-Measure-clause-waits
returns-in-Measure-clause-waits c = λ _.
    let one = before-measure c.args.self.now c.args.command.now c.in-Some.i c.at-session.result.now
    (sym c.requires ∙ c.in-Some.is) c.at-session.ensures (none_of _ _ c.if-pending-gt0.false c.pending.ensures)
    c.in-Measure.name c.in-Measure.is in
    omega (arith, one)

pub returns-in_default-command : goal.returns-in_default-command
returns-in_default-command c = record {
  at_once = λ _. before-other c.args.self.now c.args.command.now c.in-Some.i c.at-session.result.now
      (sym c.requires ∙ c.in-Some.is) c.at-session.ensures (none_of _ _ c.if-pending-gt0.false c.pending.ensures)
      c.in_default-command.not-Advance c.in_default-command.not-Measure;
  waits = λ never. absurd (true≢false never);
}
