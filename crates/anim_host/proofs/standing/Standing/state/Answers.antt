use Rattle.std.proofs.Common.{◌≤◌, Option, ap, sym, subst, ◌∙◌}
use Rattle.std.specs.Prelude.{unsigned_abs, IfSome}
use Rattle.anim_timeline.specs.declared.TheConstants.{LAST_TIME}
use Rattle.tree_commit.specs.declared.shown.Shown.{Shown}
use Rattle.host_tables.specs.States.{shown_at}
use Rattle.keyframe_effect.specs.States.{is_ended, is_unfinished}
use Rattle.host_tables.proofs.MarkedLemmas.{marked-ended, marked-runs, marked-shown}
use Rattle.host_tables.proofs.StateLemmas.{shown-within, state-ended, state-runs, state-shown}
use Rattle.anim_host.proofs.standing.Standing.state.Goals as goal

pub returns : goal.returns
returns c =
    let is = c.state_now.ensures.state in
    let now = c.state_now.result in
    let marks = c.args.self.now.list.marks in
    let id = c.args.id in
    record {
      runs = marked-runs now ∙ ap is_unfinished is ∙ state-runs marks id;
      ended = marked-ended now ∙ ap is_ended is ∙ state-ended marks id c.state_now.ensures.finishes;
      shown = marked-shown now ∙ ap shown_at is ∙ state-shown marks id;
      within = subst (λ (o : Option Shown). IfSome o (λ s. unsigned_abs s.start ≤ LAST_TIME)) (sym (marked-shown now ∙ ap shown_at is ∙ state-shown marks id))
          (shown-within marks id (rw (← c.self.view_is) c.marks.ensures.within));
      over = c.state_now.ensures.over;
    }
