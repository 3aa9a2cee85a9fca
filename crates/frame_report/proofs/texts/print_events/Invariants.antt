use Rattle.std.proofs.Common.{◌≡◌, ◌++◌, take, string_bytes}
use Rattle.std.specs.List.{flat_map}
use Rattle.frame_report.specs.Texts.{event_line}
use Rattle.frame_report.proofs.texts.print_events.Given as goal

abbrev pub invariant-loop-event : goal.invariant-loop-event
invariant-loop-event l = string_bytes l.out ≡ string_bytes l.fn.out ++ flat_map event_line (take l.event-index l.events)
