use Rattle.std.proofs.Common.{◌≡◌, [], ◌∷◌, ◌++◌, ap, ◌∙◌, subst}
use Rattle.std.specs.Prelude.{IfSome}
use Rattle.lj_session.specs.UserState.{UserState}
use Rattle.lj_access.specs.UserRows.{Ticket}
use Rattle.lj_end.specs.Seen.{Seen, nothing_seen}
use Rattle.lj_engine.specs.Served.{ReturnsState, HasCause, Serves}
use Rattle.lj_visit.specs.Events.{Happens}
use Rattle.lj_visit.specs.Events.Event.{opened, withdrawn}
use Rattle.lj_visit.specs.Visits.{events_closing, events_leaving}
use Rattle.lj_visit.proofs.Happening.{Happens-more}
use Rattle.lj_visit.proofs.visiting.serve_user.Goals as goal

pub returns : goal.returns
returns g c =
    let served = c.serve_lines-state.result.1 in
    let next = c.serve_lines-state.result.0 in
    let ticket = c.args.lent.ticket in
    let seen = g.B.End.PoolEnd.seen c.serve_lines-state.new.pool in
    let others = g.B.End.PoolEnd.for_others in
    let was = g.B.Backend.events c.args.backend.now in
    let made = g.B.Backend.events c.open-end.new.self in
    let dropped = g.B.Backend.events c.finish.new.self in
    let home = g.B.Backend.events c.bring_home.new.backend in
    let is = g.B.Backend.events c.close_after.new.backend in
    let taken = c.take_out-ticket.ensures in
    let of_ticket : c.user.result ≡ ticket.user =
    c.user.ensures ∙ ap (λ (t : Ticket). t.user) (c.ticket.ensures ∙ taken.ticket) in
    let user : c.open-end.result.user ≡ ticket.user = c.open-end.ensures.user ∙ of_ticket in
    let none : others c.serve_lines-state.new.pool c.open-end.result.user ≡ 0 =
    c.serve_lines-state.ensures.own ∙ ap (others c.open-end.result.pool) c.open-end.ensures.user ∙ c.open-end.ensures.own in
    let opens : Happens was made (opened ticket.user ∷ []) =
    subst (λ n. Happens was made (opened n ∷ [])) of_ticket c.open-end.ensures.opened in
    let drops : Happens made dropped (withdrawn ticket.user seen 0 ∷ []) =
    subst (λ n. Happens made dropped (withdrawn n seen 0 ∷ [])) user
    (subst (λ n. Happens made dropped (withdrawn c.open-end.result.user seen n ∷ [])) none c.finish.ensures) in
    let leaving = events_leaving ticket next in
    let closing = events_closing served in
    let leaves : Happens dropped home leaving =
    subst (λ (t : Ticket). Happens dropped home (events_leaving t next)) taken.ticket c.bring_home.ensures in
    let ends = Happens-more dropped home is leaving closing leaves c.close_after.ensures in
    let serves = subst (λ (s : Seen). Serves served c.take_out-ticket.result.1 c.args.lines.now.left
    c.serve_lines-state.new.lines.left (g.W.Sink.contents c.args.writer.now)
    (g.W.Sink.contents c.serve_lines-state.new.writer) s seen next) c.open-end.ensures.seen
    c.serve_lines-state.ensures.dialogue in
    record {
      seen = seen;
      next = next;
      serves =
          subst (λ (u : UserState). Serves served u c.args.lines.now.left c.serve_lines-state.new.lines.left
          (g.W.Sink.contents c.args.writer.now) (g.W.Sink.contents c.serve_lines-state.new.writer) nothing_seen seen next)
          taken.state serves;
      cause =
          subst (λ (s : Seen). HasCause served c.serve_lines-state.new.lines.left c.args.lines.now.errors
          c.serve_lines-state.new.lines.errors (g.W.Sink.faults c.args.writer.now)
          (g.W.Sink.faults c.serve_lines-state.new.writer) s seen) c.open-end.ensures.seen c.serve_lines-state.ensures.cause;
      all_read = c.serve_lines-state.ensures.all_read;
      flushed = c.serve_lines-state.ensures.flushed;
      handed_back =
          subst (λ (u : UserState). IfSome next (ReturnsState u seen)) taken.state c.serve_lines-state.ensures.handed_back;
      happens =
          Happens-more was made is (opened ticket.user ∷ []) (withdrawn ticket.user seen 0 ∷ (leaving ++ closing)) opens
          (Happens-more made dropped is (withdrawn ticket.user seen 0 ∷ []) (leaving ++ closing) drops ends);
    }
