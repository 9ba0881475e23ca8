-- The writer is flushed before a read that may wait, so at each end of serving that a read brings.
use Rattle.std.proofs.Common.{◌≡◌, Bool, true, false, ◌⊎◌, inl, inr, Result, Ok, Some, refl, ◌∙◌}
use Rattle.lj_wire.specs.declared.source_and_sink.ReadFault.{ReadFault as ReadFaultOf}
use Rattle.lj_wire.specs.declared.item.Item.{Item}
use Rattle.lj_wire.specs.LineReader.{LineReader, BeginsWithItem}
use Rattle.lj_engine.specs.declared.running.Halt.{Halt}
use Rattle.lj_engine.specs.declared.running.Halt.TheVariants as halts
use Rattle.lj_engine.specs.declared.served.Served.{Served}
use Rattle.lj_engine.specs.declared.served.Served.TheVariants.{End, ReadFault, WriteFault}
use Rattle.lj_engine.specs.Endings.{ending_of, served_of}
use Rattle.lj_engine.specs.Waiting.{IsReady, MayRead, Flushes}
use Rattle.lj_engine.proofs.ItemEnds.{no_item_ends}

-- before the first item the writer is as it was; then the next item may be read
abbrev pub StaysReady : LineReader → Bool → Bool → Type 0
StaysReady lines was is = (lines.items ≡ 0) × (is ≡ was) ⊎ IsReady lines is

pub may_read : (lines : LineReader) (was is : Bool) → StaysReady lines was is → MayRead lines is
may_read lines was is (inl first) = inl first.0
may_read lines was is (inr ready) = inr ready

-- a read may have waited, for no item was held
waited : (lines : LineReader) (was is : Bool) → StaysReady lines was is → (BeginsWithItem lines.held → ⊥) → was ≡ false
    → is ≡ false
waited lines was is (inl first) none flushed = first.1 ∙ flushed
waited lines was is (inr (inl ready)) none flushed = ready
waited lines was is (inr (inr begins)) none flushed = absurd (none begins)

-- an item that is held is handed out
pub no_item : (found : Bool) → ◌≡◌ {A = Result Bool ReadFaultOf} (Ok found) (Ok true) → found ≡ false → ⊥
no_item true e none = cc
no_item false e none = cc

pub flushes_waited : (served : Served) (lines : LineReader) (was is : Bool) → StaysReady lines was is
    → (BeginsWithItem lines.held → ⊥) → Flushes served was is
flushes_waited served lines was is ready none = record {
  end = λ e. waited lines was is ready none;
  read_fault = λ e. waited lines was is ready none;
}

pub write_flushes : (was is : Bool) → Flushes WriteFault was is
write_flushes was is = record { end = λ e. cc; read_fault = λ e. cc }

pub halt_flushes : (halt : Halt) (was is : Bool) → Flushes (served_of halt) was is
halt_flushes halts.PoolClosed was is = record { end = λ e. cc; read_fault = λ e. cc }
halt_flushes halts.TooManyStrays was is = record { end = λ e. cc; read_fault = λ e. cc }

pub item_flushes : (item : Item) (served : Served) → ending_of item ≡ Some served → (was is : Bool) → Flushes served was is
item_flushes item served ends was is = record {
  end = no_item_ends item served End ends refl;
  read_fault = no_item_ends item served ReadFault ends refl;
}
