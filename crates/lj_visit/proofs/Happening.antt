-- What happens one after the other.
use Rattle.std.proofs.Common.{◌≡◌, List, [], ◌++◌, Option, Some, None, sym, ap, ◌∙◌}
use Rattle.std.proofs.lemmas.List.{append-nil, append_assoc}
use Rattle.std.specs.Prelude.{Result, Ok, Err, true}
use Rattle.std.specs.Result.{OnErr, is_err}
use Rattle.lj_visit.specs.Events.{Event, Happens}

-- nothing has happened
pub Happens-none : (a : Option (List Event)) → Happens a a []
Happens-none None = tt
Happens-none (Some before) = sym (append-nil before)

-- some events, and then others
pub Happens-more : (a b c : Option (List Event)) (events others : List Event) → Happens a b events → Happens b c others
    → Happens a c (events ++ others)
Happens-more None b c events others h k = tt
Happens-more (Some before) None c events others h k = absurd h
Happens-more (Some before) (Some between) None events others h k = absurd k
Happens-more (Some before) (Some between) (Some after) events others h k =
    k ∙ ap (λ xs. xs ++ others) h ∙ append_assoc before events others

-- what holds at an error holds of a result that is one
pub err_holds : {T E : Type 0} (r : Result T E) (P : Type 0) → is_err r ≡ true → OnErr r P → P
err_holds (Ok x) P failed on = cc
err_holds (Err e) P failed on = on
