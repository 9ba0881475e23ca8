-- A ticket that was granted for a first line, and what becomes of it.
use Rattle.std.proofs.Common.{ℕ, List, [], ◌∷◌, Option, sym, subst}
use Rattle.lj_wire.specs.declared.hello.Hello.TheVariants.{Asked}
use Rattle.lj_wire.specs.Greetings.{Greets}
use Rattle.lj_wire.specs.LineReader.{LineReader}
use Rattle.lj_access.specs.UserRows.{Ticket}
use Rattle.lj_end.specs.Seen.{nothing_seen}
use Rattle.lj_visit.specs.declared.visiting.Visited.{Visited}
use Rattle.lj_visit.specs.declared.visiting.Visited.TheVariants.{NoLine, Denied, TurnedAway, ShutOut, NotWelcomed, Attended}
use Rattle.lj_visit.specs.Events.{Event, Happens}
use Rattle.lj_visit.specs.Events.Event.{granted, entered, shut_out, left}
use Rattle.lj_visit.specs.Visits.{VisitState, HoldsBytes, IsAdmission, IsVisit}
use Rattle.lj_visit.proofs.Happening.{Happens-more}
use Rattle.lj_visit.specs.VisitLaws.{ReachedIsAnsweredBehind}

pub admitted : ReachedIsAnsweredBehind → (visited : Visited) (name token : List ℕ) (ticket : Ticket) (lines : LineReader) (between : Option (List Event))
    (before after : VisitState) → Greets before.lines lines (Asked name token)
    → Happens before.events between (granted name token ticket ∷ [])
    → IsAdmission visited name ticket (record before { lines = lines; events = between }) after → IsVisit visited before after
admitted law NoLine name token ticket lines between before after greets grants a = absurd a
admitted law Denied name token ticket lines between before after greets grants a = absurd a
admitted law TurnedAway name token ticket lines between before after greets grants a = absurd a
admitted law (ShutOut why) name token ticket lines between before after greets grants a = record {
  name = name;
  token = token;
  ticket = ticket;
  greets = subst (λ (l : LineReader). Greets before.lines l (Asked name token)) (sym a.0) greets;
  unwritten = a.1;
  held = a.2;
  holds = subst (λ (l : LineReader). HoldsBytes l a.2) (sym a.0) a.3;
  happens =
      Happens-more before.events between after.events (granted name token ticket ∷ []) (shut_out ticket a.2 why ∷ []) grants a.4;
}
admitted law NotWelcomed name token ticket lines between before after greets grants a = record {
  name = name;
  token = token;
  ticket = ticket;
  state = a.5;
  greets = subst (λ (l : LineReader). Greets before.lines l (Asked name token)) (sym a.0) greets;
  bytes = a.1;
  within = a.2;
  written = a.3;
  fault = a.4;
  held = a.6;
  holds = subst (λ (l : LineReader). HoldsBytes l a.6) (sym a.0) a.7;
  happens =
      Happens-more before.events between after.events (granted name token ticket ∷ [])
      (entered ticket a.6 a.5 ∷ left ticket a.5 ∷ []) grants a.8;
}
admitted law (Attended served) name token ticket lines between before after greets grants a =
    record {
      name = name;
      token = token;
      ticket = ticket;
      state = a.0;
      reached = a.2;
      lines = lines;
      greets = greets;
      contents = a.6;
      welcomes = a.7;
      lent = a.1;
      held = a.3;
      holds = a.4;
      enters =
          Happens-more before.events between a.1 (granted name token ticket ∷ []) (entered ticket a.3 a.0 ∷ []) grants a.5;
      serving = a.8;
      behind =
          law served a.0 a.8.serves.read a.8.serves.written nothing_seen a.8.seen a.8.next a.2 a.8.serves.is_served;
    }
