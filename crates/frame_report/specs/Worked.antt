-- Reports whose text is worked out.
use Rattle.std.specs.Prelude.{[], ◌∷◌, pos, negsuc}
use Rattle.anim_names.specs.declared.event.AnimEvent.TheVariants.{Started, Finished, Aborted}
use Rattle.anim_names.specs.declared.lane.Lane.TheVariants.{Main, Compositor}
use Rattle.transform_ops.specs.declared.op.TransformOp.TheVariants.{Translate, Scale, Rotate, Skew}
use Rattle.run_rules.specs.Frames.{DrawnRow}
use Rattle.run_rules.specs.Runs.{ReportLists}

-- the report of a script without a step: only the closing drain counts
abbrev pub empty_report : ReportLists
empty_report = record { word = []; frames = []; events = []; heard = 0 ∷ [] }

abbrev moved_row : DrawnRow
moved_row = record {
  element = 1;
  look = record {
    opacity = 250000;
    transform = Translate (pos 1) (negsuc 1) (pos 3) ∷ Scale (pos 1000000) (pos 0) (negsuc 3)
        ∷ Rotate (pos 0) (pos 0) (pos 1) (negsuc 89999) ∷ Skew (pos 5) (negsuc 5) ∷ [];
  };
}

abbrev still_row : DrawnRow
still_row = record { element = 4294967295; look = record { opacity = 1000000; transform = [] } }

-- a report with a line of each kind
abbrev pub all_kinds : ReportLists
all_kinds = record {
  word = Main ∷ Compositor ∷ Compositor ∷ [];
  frames = record { time = 0; commit = 0; rows = [] } ∷ record { time = 16667; commit = 2; rows = moved_row ∷ still_row ∷ [] } ∷ [];
  events = Started 7 8 16667 (negsuc 4999) ∷ Finished 9 33334 ∷ Aborted 10 256 ∷ [];
  heard = 0 ∷ 3 ∷ [];
}
