use Rattle.std.proofs.Common.{◌≡◌, ◌+◌, ℕ, List, length, take, count_ones, refl, subst, ap, ◌∙◌, arith}
use Rattle.std.proofs.lemmas.Nat.{ones-le}
use Rattle.lj_tile.specs.Pairs.{members}
use Rattle.lj_tile.proofs.BitLists.{ones_members}
use Rattle.lj_tile.proofs.ListLemmas.{IsWritten, written_start, written_two, written_all, view_count}
use Rattle.lj_tile.proofs.near_pairs.NearPairs.append.Goals.{After-put-rest-2}
use Rattle.lj_tile.proofs.near_pairs.NearPairs.append.Goals as goal

counted : (c : After-put-rest-2) → length c.args.self.now ≡ c.self.inside.count
counted c =
    view_count c.self.inside.count c.self.inside.pairs c.args.self.now c.self.told c.self.invariant c.self.view_is

ends : (c : After-put-rest-2) → c.self.inside.count + count_ones c.args.set ≡ length c.args.self.now + length (members c.args.set 64)
ends c = omega (arith, counted c, ones_members c.args.set c.ranges.set.fits)

pub loop-at-init : goal.loop-at-init
loop-at-init c =
    let set : ℕ = c.args.set in
    let old : List ℕ = c.args.self.now in
    let count : ℕ = c.self.inside.count in
    let here = (goal.at.loop-at-init c).After-put-rest-2 in
    let same : length old ≡ count = counted here in
    let start = written_start set c.args.t old (count + count_ones set) c.self.inside.pairs
    (ap (λ n. take n c.self.inside.pairs) same ∙ c.self.view_is) c.self.told (ends here) in
    let begin = subst (λ n. IsWritten set c.args.t old (count + count_ones set) n c.self.inside.pairs set) same start in
    record {
      least = omega arith;
      most = omega arith;
      small = c.put-rest-2.type_inv;
      written =
          written_two set c.args.t old (count + count_ones set) count c.self.inside.pairs set _ c.put-rest.new.pairs c.put-rest.result
          c.put-rest-2.new.pairs c.put-rest-2.result begin c.ranges.set.fits c.ranges.set.fits c.put-rest.type_inv
          (omega (arith, c.requires.room, same)) (ends here) refl c.put-rest.ensures.written c.put-rest.ensures.others
          c.put-rest-2.ensures.written c.put-rest-2.ensures.others;
    }

pub loop-at-preserved : goal.loop-at-preserved
loop-at-preserved c =
    let set : ℕ = c.args.set in
    let here = (goal.at.loop-at-preserved c).After-put-rest-2 in
    let same : length c.args.self.now ≡ c.self.inside.count = counted here in
    let few = ones-le 64 set c.ranges.set.fits in
    record {
      least = omega (arith, c.loop-at.invariant.least);
      most = omega (arith, c.loop-at-test.true);
      small = c.put-rest-in-loop-at-2.type_inv;
      written =
          written_two set c.args.t c.args.self.now (c.self.inside.count + count_ones set) c.loop-at.at c.loop-at.self-inside.pairs
          c.loop-at.rest _
          c.put-rest-in-loop-at.new.pairs c.put-rest-in-loop-at.result c.put-rest-in-loop-at-2.new.pairs
          c.put-rest-in-loop-at-2.result c.loop-at.invariant.written c.ranges.set.fits c.loop-at.invariant.small
          c.put-rest-in-loop-at.type_inv (omega (arith, c.requires.room, same, few, c.loop-at-test.true)) (ends here) refl
          c.put-rest-in-loop-at.ensures.written c.put-rest-in-loop-at.ensures.others c.put-rest-in-loop-at-2.ensures.written
          c.put-rest-in-loop-at-2.ensures.others;
    }

pub returns : goal.returns
returns c =
    written_all c.args.set c.args.t c.args.self.now (c.self.inside.count + count_ones c.args.set) c.loop-at.at
    c.loop-at.self-inside.pairs c.loop-at.rest c.loop-at.invariant.written (ends (goal.at.returns c).After-put-rest-2)
    (omega (arith, c.loop-at-test.false))
