use Rattle.lj_wire.proofs.reader.begins_with_item.Goals as goal

pub returns-in-Some : goal.returns-in-Some
returns-in-Some c holds = record {
  line = c.in-Some.line.now;
  behind = c.in-Some.field-0-1.now;
  whole = c.in-Some.ensures.0;
  one_line = c.in-Some.ensures.1;
  bare = c.is_bare.ensures holds;
}
