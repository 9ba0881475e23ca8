use Rattle.std.proofs.Common.{◌+◌, ◌++◌, take, drop, sym, ap, ◌∙◌, subst}
use Rattle.std.specs.Io.KnownBytes.{append_known, Appends}
use Rattle.std.proofs.KnownBytes.{append_known-moved, Keeps-trans}
use Rattle.std.proofs.lemmas.List.{take-append-drop, drop-drop}
use Rattle.lj_wire.proofs.held_writing.HeldWriting.send.Goals as goal

pub loop-self-preserved : goal.loop-self-preserved
loop-self-preserved g c =
    let contents = g.W.Writes.contents in
    let bytes = c.loop-self.self.bytes.items in
    let at = c.loop-self.self.sent in
    let n = c.in_ok-self.field-0 in
    record {
      kept =
          Keeps-trans (append_known (contents c.args.self.now.counted_writer.writer) (drop c.args.self.now.sent c.args.self.now.bytes.items))
          (append_known (contents c.loop-self.self.counted_writer.writer) (drop at bytes))
          (append_known (contents c.write.new.self.writer) (drop (at + n) bytes)) c.loop-self.invariant.kept
          (append_known-moved (contents c.loop-self.self.counted_writer.writer) (contents c.write.new.self.writer) (take n (drop at bytes))
          (drop (at + n) bytes) (drop at bytes)
          (subst (λ rest. Appends (contents c.loop-self.self.counted_writer.writer) (contents c.write.new.self.writer) (take n rest))
          (c.split_at.ensures.back ∙ ap (drop at) c.as_slice.ensures.value) c.in_ok-self.ensures.bytes)
          (sym (take-append-drop n (drop at bytes)) ∙ ap (λ xs. take n (drop at bytes) ++ xs) (drop-drop n at bytes)));
      counted = c.in_ok-self.ensures.counted ∙ c.loop-self.invariant.counted;
    }
