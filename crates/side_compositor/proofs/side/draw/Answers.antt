use Rattle.std.proofs.Common.{◌≡◌, subst, ap, ◌∙◌}
use Rattle.std.specs.Prelude.{IfOk}
use Rattle.anim_host.proofs.ShownLemmas.{frame-same}
use Rattle.anim_host.specs.Hosting.{shown_in}
use Rattle.tree_commit.specs.Trees.{Committed}
use Rattle.run_rules.specs.Frames.{DrawnFrame, frame_at, frame_by}
use Rattle.side_compositor.proofs.side.draw.Goals as goal

pub returns-clause-frame : goal.returns-clause-frame
returns-clause-frame g c =
    let host = c.args.host.now in
    let time = c.args.time in
    let by_marks : frame_by c.args.active.now (shown_in host) time ≡ frame_at host.active host.marks time
    = ap (λ (a : Committed). frame_by a (shown_in host) time) c.requires.active ∙ frame-same host time in
    subst (λ (f : DrawnFrame). IfOk c.frame.result (λ frame. frame ≡ f)) by_marks c.frame.ensures.frame
