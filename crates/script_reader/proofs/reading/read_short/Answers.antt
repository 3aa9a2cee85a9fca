use Rattle.script_reader.specs.Views.{state_of}
use Rattle.script_reader.proofs.Steps.{short_is_read, well_formed_at_end}
use Rattle.script_reader.proofs.reading.read_short.Goals as goal

pub into_script-requires : goal.into_script-requires
into_script-requires c =
    well_formed_at_end c.args.bytes.now (state_of c.in_ok-reader.reader) c.in_ok-number.number
    (state_of c.read_lines.new.reader).stage (state_of c.read_lines.new.reader).script
    c.requires c.in_ok-reader.ensures c.in_ok-number.ensures.ok

pub returns : goal.returns
returns c =
    rw (short_is_read c.args.bytes.now (state_of c.in_ok-reader.reader) c.in_ok-number.number
    (state_of c.read_lines.new.reader).stage (state_of c.read_lines.new.reader).script
    c.requires c.in_ok-reader.ensures c.in_ok-number.ensures.ok)
    c.into_script.ensures
