-- When the next item may be read, and what of the replies is held back where serving ends.
use Rattle.std.specs.Prelude.{◌≡◌, Bool, false, ◌⊎◌}
use Rattle.lj_wire.specs.LineReader.{LineReader, BeginsWithItem}
use Rattle.lj_engine.specs.declared.served.Served.{Served}
use Rattle.lj_engine.specs.declared.served.Served.TheVariants.{End, ReadFault}

-- nothing is held back from the writer, or the reader holds the next item, so that nothing is read for it
abbrev pub IsReady : LineReader → Bool → Type 0
IsReady lines unflushed = (unflushed ≡ false) ⊎ BeginsWithItem lines.held

-- the next item may be read; before the first one no reply was written
abbrev pub MayRead : LineReader → Bool → Type 0
MayRead lines unflushed = (lines.items ≡ 0) ⊎ IsReady lines unflushed

-- Where serving ends at a read, all that was written is flushed, if nothing was held back from the writer at the start. It could
-- end so at each read that may wait, so nothing is held back at any of them.
pub record Flushes (served : Served) (was is : Bool) : Type 0 where
  -- The input has ended.
  pub end : served ≡ End → was ≡ false → is ≡ false
  -- A read has failed.
  pub read_fault : served ≡ ReadFault → was ≡ false → is ≡ false
