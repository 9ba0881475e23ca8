use Rattle.std.proofs.Common.{ap, ◌+◌, ◌∙◌, cond, arith}
use Rattle.std.specs.Prelude.{nat_eq}
use Rattle.std.proofs.lemmas.List.Sums.{sum_by_push}
use Rattle.lj_end.specs.Accounts.{occurrences}
use Rattle.lj_end.proofs.Places.{once_more}
use Rattle.lj_end.proofs.account.all_places.Goals as goal

pub loop-place-preserved : goal.loop-place-preserved
loop-place-preserved c =
    let place = c.loop-place.place in
    record {
      once = λ n. ap (occurrences n) c.push.ensures.items
          ∙ sum_by_push (λ j. cond (nat_eq j n) 1 0) c.loop-place.places.items place
          ∙ ap (λ m. m + cond (nat_eq place n) 1 0) (c.loop-place.invariant.once n)
          ∙ once_more n place;
      all = omega (arith, c.push.ensures.len, c.loop-place.invariant.all);
    }
