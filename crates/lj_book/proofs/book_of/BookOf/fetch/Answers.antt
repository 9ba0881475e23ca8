use Rattle.std.proofs.Common.{ℕ, ◌+◌, Some, refl, ap, ◌∙◌, subst}
use Rattle.lj_book.specs.declared.key_states.KeyState.TheVariants.{ToFetch}
use Rattle.lj_book.specs.Book.{BookOf, BookEntry, Fetches, IsDoneAt}
use Rattle.lj_book.specs.Picks.{IsPick}
use Rattle.lj_book.proofs.BookLemmas.{picked}
use Rattle.lj_book.proofs.book_of.BookOf.fetch.Goals as goal

pub returns-clause-some : goal.returns-clause-some
returns-clause-some g c =
    let s = c.self.inside in
    let new : BookOf g.row.P.Denot g.row.K.Denot = record {
      slots = c.remove-was.new.self.slots;
      posted = s.posted;
      given = s.given;
      fetched = s.fetched + 1;
      withdrawn = s.withdrawn;
    } in
    subst (λ (old : BookOf g.row.P.Denot g.row.K.Denot). (key : ℕ) × Fetches old new c.in-Done.done key
    × IsPick (IsDoneAt c.args.user old) c.args.pick key) c.self.view_is (
      c.in_ok-key.key,
      record {
        was = c.remove-was.ensures.value ∙ ap (λ (entry : BookEntry g.row.P.Denot g.row.K.Denot). Some entry) c.in-Done.is;
        puts = record {
          changed = c.remove-was.ensures.updates.changed;
          others = c.remove-was.ensures.updates.others;
        };
        posted = refl;
        given = refl;
        fetched = refl;
        withdrawn = refl;
      },
      picked s.entries s.key_states c.self.invariant.marked (ToFetch c.args.user) c.args.pick c.in_ok-key.key
          (λ vacant. cc) c.in_ok-key.ensures.some,
    )
