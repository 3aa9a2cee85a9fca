use Rattle.std.proofs.Common.{sym, ◌∙◌}
use Rattle.lane_threads.proofs.CompositorSections.{knows-no_news}
use Rattle.lane_threads.proofs.compositor_turns.send_news.Goals as goal

pub returns-else-has_news-clause-knows : goal.returns-else-has_news-clause-knows
returns-else-has_news-clause-knows g c =
    knows-no_news _ c.main-well.ensures.kept _ _ _ c.requires.marked (sym c.has_news.ensures ∙ c.if-has_news.false)
