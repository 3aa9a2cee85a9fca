use Rattle.std.proofs.Common.{◌≡◌, ◌+◌, ◌≤◌, length}
use Rattle.frame_script.specs.Lines.{lines}
use Rattle.frame_script.specs.Reading.{reading_from}
use Rattle.script_reader.specs.Views.{state_of}
use Rattle.script_reader.proofs.reading.read_lines.Given as goal

abbrev pub invariant-loop-line : goal.invariant-loop-line
invariant-loop-line l = record {
  so_far : reading_from l.number (state_of l.reader) (lines l.rest) ≡ reading_from 1 (state_of l.initial.reader) (lines l.text);
  small : l.number + length l.rest ≤ 1 + length l.text;
}

abbrev pub decreases-loop-line : goal.decreases-loop-line
decreases-loop-line l = length l.rest
