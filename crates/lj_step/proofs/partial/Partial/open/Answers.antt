use Rattle.std.proofs.Common.{◌≡◌, ◌*◌, length, ap, ◌∙◌, arith}
use Rattle.std.proofs.lemmas.List.{length-replicate}
use Rattle.std.proofs.lemmas.List.FromFn.{length-map-range_with_len}
use Rattle.lj_task.specs.Pushes.{no_push}
use Rattle.lj_step.specs.KeptSims.{set_numbers}
use Rattle.lj_step.specs.OpenSteps.{blocks, is_tile, cover}
use Rattle.lj_step.proofs.CoverLists.{set_by}
use Rattle.lj_step.proofs.partial.Partial.open.Goals as goal

flags_length : (c : goal.After-as_slice-2) → length c.as_slice-2.result.now ≡ 64 * blocks (length c.args.frame.now)
flags_length c =
    ap length (c.as_slice-2.ensures.value ∙ c.await_tiles.ensures)
    ∙ length-map-range_with_len (is_tile c.args.atoms.now c.args.frame.now) 0 (64 * blocks (length c.args.frame.now))

pub list_tiles-requires-clause-room : goal.list_tiles-requires-clause-room
list_tiles-requires-clause-room c = omega (arith, flags_length c, c.requires.room.tiles)

pub list_tiles-requires-clause-most : goal.list_tiles-requires-clause-most
list_tiles-requires-clause-most c = omega (arith, flags_length c, c.requires.most)

tiles_are : (c : goal.After-self-3-1) → c.list_tiles.new.tiles.items ≡ cover c.args.atoms.now c.args.frame.now
tiles_are c =
    c.list_tiles.ensures.tiles
    ∙ ap set_numbers (c.as_slice-2.ensures.value ∙ c.await_tiles.ensures)
    ∙ set_by (is_tile c.args.atoms.now c.args.frame.now) (64 * blocks (length c.args.frame.now))

pub returns-clause-room : goal.returns-clause-room
returns-clause-room c = record {
  pushes = ap length c.clear.ensures ∙ length-replicate _ no_push ∙ c.requires.room.pushes;
  awaited =
      ap length c.await_tiles.ensures ∙ length-map-range_with_len (is_tile c.args.atoms.now c.args.frame.now)
      0 (64 * blocks (length c.args.frame.now));
  tiles = rw c.list_tiles.ensures.room c.requires.room.tiles;
  arcs = rw c.list_arcs.ensures.room c.requires.room.arcs;
}

pub returns-clause-tiles : goal.returns-clause-tiles
returns-clause-tiles c = tiles_are c

pub returns-clause-left : goal.returns-clause-left
returns-clause-left c = ap length (c.as_slice-3.ensures.value ∙ tiles_are c)
