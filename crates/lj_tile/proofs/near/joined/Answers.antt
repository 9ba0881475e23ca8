use Rattle.lj_tile.proofs.NearLanes.{first_of_four, second_of_four, third_of_four, fourth_of_four}
use Rattle.lj_tile.proofs.near.joined.Goals as goal

pub returns-clause-first : goal.returns-clause-first
returns-clause-first c = first_of_four c.args.first c.args.second c.args.third c.args.fourth

pub returns-clause-second : goal.returns-clause-second
returns-clause-second c = second_of_four c.args.first c.args.second c.args.third c.args.fourth

pub returns-clause-third : goal.returns-clause-third
returns-clause-third c = third_of_four c.args.first c.args.second c.args.third c.args.fourth

pub returns-clause-fourth : goal.returns-clause-fourth
returns-clause-fourth c = fourth_of_four c.args.first c.args.second c.args.third c.args.fourth
