use Rattle.keyframe_effect.proofs.RuleLemmas.{rows_follow}
use Rattle.keyframe_effect.proofs.laws.rows_follow_the_rule.Goals as goal

pub returns : goal.returns
returns c = rows_follow
