use Rattle.std.proofs.Common.{arith}
use Rattle.script_reader.specs.Views.{state_of}
use Rattle.script_reader.proofs.Steps.{line_is_read, line_is_refused, lines_are_read}
use Rattle.script_reader.proofs.reading.read_lines.Goals as goal

pub returns-in-Err-clause-err : goal.returns-in-Err-clause-err
returns-in-Err-clause-err c =
    line_is_refused c.loop-line.number (state_of c.loop-line.reader) c.loop-line.rest.now c.in-Some.line.now c.in-Some.after.now _ c.in-Err.fault
    c.in-Some.ensures.cases c.in-Err.ensures c.loop-line.invariant.so_far

pub loop-line-preserved : goal.loop-line-preserved
loop-line-preserved c = record {
  so_far = line_is_read c.loop-line.number (state_of c.loop-line.reader) (state_of c.read_line.new.self) c.loop-line.rest.now c.in-Some.line.now c.in-Some.after.now _
      c.in-Some.ensures.cases c.in-Ok.ensures c.loop-line.invariant.so_far;
  small = omega (arith, c.in-Some.ensures.shorter);
}

pub returns-clause-ok : goal.returns-clause-ok
returns-clause-ok c =
    lines_are_read c.loop-line.number (state_of c.loop-line.reader) c.loop-line.rest.now _ c.in_default.ensures.cases c.loop-line.invariant.so_far
