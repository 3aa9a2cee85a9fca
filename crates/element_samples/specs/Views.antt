-- What the rows of frames of the code stand for.
use Rattle.element_samples.specs.declared.frame_row.FrameRow.{FrameRow}
use Rattle.run_rules.specs.Frames.{DrawnRow}
use Rattle.tree_commit.specs.Views.{look_of}

abbrev pub drawn_row_of : FrameRow → DrawnRow
drawn_row_of row = record { element = row.element; look = look_of row.shown }
