use Rattle.std.proofs.Common.{Err, ap}
use Rattle.anim_top.proofs.Outcomes.{given_of, serves_answer, serves_fault, serves_no_memory}
use Rattle.anim_top.proofs.commands.run_source.Goals as goal

pub returns-in-Err-Fault : goal.returns-in-Err-Fault
returns-in-Err-Fault g c =
    let error = c.in-Err-Fault.ensures in serves_fault error.lost (error.fault (ap Err c.in-Err-Fault.field-0-is)) error.never_falls

pub returns-in-Err-NoMemory : goal.returns-in-Err-NoMemory
returns-in-Err-NoMemory g c = serves_no_memory c.in-Err-NoMemory.ensures.lost c.in-Err-NoMemory.ensures.never_falls

pub returns-in_default : goal.returns-in_default
returns-in_default g c = serves_no_memory (given_of c.in-Ok.ensures.read) c.in-Ok.ensures.never_falls

pub returns : goal.returns
returns g c =
    serves_answer c.in-Ok.ensures.read c.as_slice.ensures.value c.in-Ok-run_bytes.ensures c.write_answer.ensures.written
    c.in-Ok.ensures.never_falls c.write_answer.ensures.sink_counts
