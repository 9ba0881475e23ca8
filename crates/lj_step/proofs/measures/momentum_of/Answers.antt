use Rattle.std.proofs.Common.{◌<◌, arith}
use Rattle.lj_ring.specs.Ring.{image}
use Rattle.lj_step.specs.Motion.{place_at}
use Rattle.lj_step.proofs.Measured.{one_more, more_size}
use Rattle.lj_step.proofs.measures.momentum_of.Goals as goal

pub loop-i-preserved : goal.loop-i-preserved
loop-i-preserved c =
    let few : c.loop-i.i < 4096 = omega arith in
    let sum = c.loop-i.sum in
    let kept = c.loop-i.invariant in
    record {
      x = one_more (λ i. image (place_at c.args.cur.now i).x (place_at c.args.prev.now i).x)
          c.loop-i.i sum.x c.plus_image.result kept.x c.plus_image.ensures.value
          c.plus_image.ensures.size kept.x_most few;
      y = one_more (λ i. image (place_at c.args.cur.now i).y (place_at c.args.prev.now i).y)
          c.loop-i.i sum.y c.plus_image-in-loop-i.result kept.y c.plus_image-in-loop-i.ensures.value
          c.plus_image-in-loop-i.ensures.size kept.y_most few;
      z = one_more (λ i. image (place_at c.args.cur.now i).z (place_at c.args.prev.now i).z)
          c.loop-i.i sum.z c.plus_image-in-loop-i-2.result kept.z c.plus_image-in-loop-i-2.ensures.value
          c.plus_image-in-loop-i-2.ensures.size kept.z_most few;
      x_most = more_size c.loop-i.i sum.x c.plus_image.result c.plus_image.ensures.size kept.x_most few;
      y_most = more_size c.loop-i.i sum.y c.plus_image-in-loop-i.result
          c.plus_image-in-loop-i.ensures.size kept.y_most few;
      z_most = more_size c.loop-i.i sum.z c.plus_image-in-loop-i-2.result
          c.plus_image-in-loop-i-2.ensures.size kept.z_most few;
    }
