use Rattle.std.proofs.Common.{◌≡◌, Option, slice_get, refl, sym, ◌∙◌}
use Rattle.std.specs.Option.{option_map}
use Rattle.lj_session.specs.Users.{Session}
use Rattle.lj_wire.specs.ReplyTexts.{reply_lines, branch_lines, dump_lines}
use Rattle.lj_wire.proofs.ReplyLines.{index_within, settled_at, under_name, no_name}
use Rattle.lj_wire.proofs.replies.put_line_at.Goals as goal

pub dump_line-requires-clause-session : goal.dump_line-requires-clause-session
dump_line-requires-clause-session c =
    index_within c.args.state.now c.in-Dumped.name c.in-Some.i
    (sym c.in-Some.is ∙ rw c.in-Dumped.is at c.requires.session)

pub dump_line-requires-clause-settled : goal.dump_line-requires-clause-settled
dump_line-requires-clause-settled c =
    settled_at c.args.state.now c.in-Dumped.name c.in-Some.i (sym c.in-Some.is ∙ rw c.in-Dumped.is at c.requires.session)
    (rw c.in-Dumped.is at c.requires.settled)

pub returns-in-Some-clause-text : goal.returns-in-Some-clause-text
unfolding reply_lines
returns-in-Some-clause-text c =
    rw c.in-Dumped.is
    (under_name c.args.state.now c.in-Dumped.name c.in-Some.i
    (λ (session : Option Session). option_map (λ _. c.dump_line.new.line.items) c.dump_line.result
    ≡ slice_get (dump_lines c.in-Dumped.name session) c.args.k)
    (sym c.in-Some.is ∙ rw c.in-Dumped.is at c.requires.session) c.dump_line.ensures.text)

pub returns-in-None-clause-text : goal.returns-in-None-clause-text
unfolding reply_lines
returns-in-None-clause-text c =
    rw (
      c.in-Dumped.is,
      no_name c.args.state.now c.in-Dumped.name (sym c.in-None.is ∙ rw c.in-Dumped.is at c.requires.session),
    ) refl

pub branches_line-requires : goal.branches_line-requires
branches_line-requires c =
    index_within c.args.state.now c.in-ListedBranches.name c.in-Some-session.i
    (sym c.in-Some-session.is ∙ rw c.in-ListedBranches.is at c.requires.session)

pub returns-in-Some-session-clause-text : goal.returns-in-Some-session-clause-text
unfolding reply_lines
returns-in-Some-session-clause-text c =
    rw c.in-ListedBranches.is
    (under_name c.args.state.now c.in-ListedBranches.name c.in-Some-session.i
    (λ (session : Option Session). option_map (λ _. c.branches_line.new.line.items) c.branches_line.result
    ≡ slice_get (branch_lines c.in-ListedBranches.name session) c.args.k)
    (sym c.in-Some-session.is ∙ rw c.in-ListedBranches.is at c.requires.session) c.branches_line.ensures.text)

pub returns-in-None-session-clause-text : goal.returns-in-None-session-clause-text
unfolding reply_lines
returns-in-None-session-clause-text c =
    rw (
      c.in-ListedBranches.is,
      no_name c.args.state.now c.in-ListedBranches.name
          (sym c.in-None-session.is ∙ rw c.in-ListedBranches.is at c.requires.session),
    ) refl
