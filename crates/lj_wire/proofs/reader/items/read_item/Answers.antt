use Rattle.std.proofs.Common.{◌≡◌, ℕ, ◌≤◌, length, take, Result, Ok, Some, None, if◌then◌else◌, ap, ◌∙◌, arith}
use Rattle.std.proofs.lemmas.Result.{IfOk-weaker, IfErr-weaker}
use Rattle.lj_wire.specs.declared.reader.buffer.TheConstants.{MAX_HELD_BYTES}
use Rattle.lj_wire.specs.declared.source_and_sink.ReadFault.{ReadFault}
use Rattle.lj_wire.specs.declared.reader.source_input.Front.{Front}
use Rattle.lj_wire.specs.declared.reader.source_input.Front.TheVariants as front
use Rattle.lj_wire.specs.ItemSteps.{Finds, SearchesFor}
use Rattle.lj_wire.proofs.Wholes.{LineTaken, line_taken, goes_onward, finished, open_body, long_line, too_long}
use Rattle.lj_wire.proofs.Wholes.{held_line, bare_taken, finished_bare}
use Rattle.lj_wire.proofs.reader.items.read_item.Given.{Over}
use Rattle.lj_wire.proofs.reader.items.read_item.Goals.{After-skip_line}
use Rattle.lj_wire.proofs.reader.items.read_item.Goals as goal

-- the line that was found is taken with its line feed
taken : (g : Over) (c : goal.After-finish g) → LineTaken c.args.input.now c.take.new.self c.split_at.result.0.now
taken g c =
    let mid = c.find_line.new.self in
    let found : Finds c.args.input.now (front.Line c.in-Line.count) mid =
    rw c.in-Line.is at c.in_ok-count.ensures.found in
    let bounded : length mid.held ≤ MAX_HELD_BYTES =
    omega (arith, c.held.ensures.bounded, ap length c.held.ensures.value) in
    line_taken c.args.input.now mid c.take.new.self c.in-Line.count c.split_at.result.0.now found.0 found.1
    (c.split_at.ensures.front ∙ ap (take c.in-Line.count) c.held.ensures.value) bounded c.take.ensures

pub returns-in-Line-clause-item : goal.returns-in-Line-clause-item
returns-in-Line-clause-item g c =
    let mid = c.find_line.new.self in
    let line = c.split_at.result.0.now in
    let searched : SearchesFor c.args.input.now (front.Line c.in-Line.count) mid =
    rw c.in-Line.is at c.in_ok-count.ensures.searched in
    let counted : length line ≡ c.in-Line.count = c.split_at.ensures.front_len in
    let on = goes_onward c.args.input.now mid c.take.new.self c.finish.new.input line c.in-Line.count _ counted searched
    c.take.ensures c.finish.ensures.reads_for in
    IfOk-weaker c.finish.result _ _
    (λ whole f. finished c.args.input.now c.take.new.self c.finish.new.input line _ _
    (if whole then Some c.finish.new.item else None) (taken g c) on c.read_line_into-body.ensures.item c.read_line_into-body.ensures.body f)
    c.finish.ensures.item

pub returns-in-Line-clause-part : goal.returns-in-Line-clause-part
returns-in-Line-clause-part g c =
    IfErr-weaker c.finish.result _ _
    (λ fault f. open_body c.args.input.now c.take.new.self c.finish.new.input c.split_at.result.0.now _ (taken g c)
    c.read_line_into-body.ensures.body f)
    c.finish.ensures.part

-- no line feed was found
long : (g : Over) (c : After-skip_line g)
    → Finds c.args.input.now front.Long c.find_line.new.self × SearchesFor c.args.input.now front.Long c.find_line.new.self
long g c = (rw c.in-Long.is at c.in_ok-count.ensures.found, rw c.in-Long.is at c.in_ok-count.ensures.searched)

pub returns-in-Line-2-clause-item : goal.returns-in-Line-2-clause-item
returns-in-Line-2-clause-item g c =
    let found = long g (goal.at.returns-in-Line-2-clause-item g c).After-skip_line in
    long_line c.args.input.now c.find_line.new.self c.skip_line.new.self found.0.0 found.1
    (rw c.in-Line-2.is at c.in_ok-skip_line-in-Long.ensures.skipped)

pub returns-in-Long-2-clause-item : goal.returns-in-Long-2-clause-item
returns-in-Long-2-clause-item g c =
    let found = long g (goal.at.returns-in-Long-2-clause-item g c).After-skip_line in
    too_long c.args.input.now c.find_line.new.self c.skip_line.new.self found.0.0 found.1 found.0.1.bounded
    (rw c.in-Long-2.is at c.in_ok-skip_line-in-Long.ensures.skipped)

-- a line that is held is found
same_count : (n m : ℕ) → ◌≡◌ {A = Result Front ReadFault} (Ok (front.Line n)) (Ok (front.Line m)) → n ≡ m
same_count n m e = cc

pub returns-in-Line-clause-at_once : goal.returns-in-Line-clause-at_once
returns-in-Line-clause-at_once g c = λ begins.
    let found = c.in_ok-count.ensures.at_once (length begins.line) (held_line c.args.input.now begins) in
    let counted = same_count c.in-Line.count (length begins.line) (rw c.in-Line.is at found.0) in
    let bare = bare_taken c.args.input.now c.find_line.new.self begins c.in-Line.count c.split_at.result.0.now counted found.1
    (c.split_at.ensures.front ∙ ap (take c.in-Line.count) c.held.ensures.value) in
    finished_bare c.finish.result _ _ _ _ _ (c.read_line_into-body.ensures.body ∙ bare) c.finish.ensures.item c.finish.ensures.part

pub returns-in_err-count-clause-at_once : goal.returns-in_err-count-clause-at_once
returns-in_err-count-clause-at_once g c = λ begins.
    let e = (c.in_err-count.ensures.at_once (length begins.line) (held_line c.args.input.now begins)).0 in absurd (cc)

no_long : (m : ℕ) → ◌≡◌ {A = Result Front ReadFault} (Ok front.Long) (Ok (front.Line m)) → ⊥
no_long m e = cc

no_end : (m : ℕ) → ◌≡◌ {A = Result Front ReadFault} (Ok front.End) (Ok (front.Line m)) → ⊥
no_end m e = cc

pub returns-in_err-skip_line-in-Long-clause-at_once : goal.returns-in_err-skip_line-in-Long-clause-at_once
returns-in_err-skip_line-in-Long-clause-at_once g c = λ begins.
    let found = c.in_ok-count.ensures.at_once (length begins.line) (held_line c.args.input.now begins) in
    absurd (no_long (length begins.line) (rw c.in-Long.is at found.0))

pub returns-in-End-2-clause-at_once : goal.returns-in-End-2-clause-at_once
returns-in-End-2-clause-at_once g c = λ begins.
    let found = c.in_ok-count.ensures.at_once (length begins.line) (held_line c.args.input.now begins) in
    absurd (no_long (length begins.line) (rw c.in-Long.is at found.0))

pub returns-in-End-clause-at_once : goal.returns-in-End-clause-at_once
returns-in-End-clause-at_once g c = λ begins.
    let found = c.in_ok-count.ensures.at_once (length begins.line) (held_line c.args.input.now begins) in
    absurd (no_end (length begins.line) (rw c.in-End.is at found.0))
