use Rattle.std.proofs.Common.{◌≡◌, ◌∙◌, ℕ, List, ap, drop, map, subst}
use Rattle.std.specs.Prelude.{All, IsTrue}
use Rattle.anim_names.specs.declared.event.AnimEvent.{AnimEvent}
use Rattle.run_rules.specs.Follows.{Follows, KnowsAtMost}
use Rattle.run_rules.specs.Marks.{event_of}
use Rattle.run_rules.specs.Runs.{model_of_event}
use Rattle.tree_commit.specs.Trees.{Committed, has_model}
use Rattle.host_tests.specs.Steps.{GroupsAgree}
use Rattle.host_tests.proofs.NextCommits.{follows_next, room_next}
use Rattle.host_tests.proofs.second_commit.push_next.Goals as goal

pub push_commit-requires-clause-follows : goal.push_commit-requires-clause-follows
push_commit-requires-clause-follows g c =
    let new = c.args.commit.now.value.tree in
    let marks = c.args.host.now.marks in
    subst (λ (active : Committed). Follows active.tree new marks) c.requires.active
    (follows_next c.args.active.now.tree new marks c.model_count-kept.ensures.differ c.requires.few
    (subst (λ (commit : Committed). GroupsAgree commit.tree) c.deref.ensures c.expect_groups.ensures))

pub push_commit-requires-clause-room : goal.push_commit-requires-clause-room
push_commit-requires-clause-room g c =
    let old = c.args.active.now.tree in
    let new = c.args.commit.now.value.tree in
    let marks = c.args.host.now.marks in
    let events : c.news.result.now ≡ map event_of marks
    = c.news.ensures.events ∙ ap (λ (n : ℕ). map event_of (drop n marks)) c.requires.told in
    let told = subst (λ (events : List AnimEvent). All (λ event. IsTrue (has_model old (model_of_event event))) events)
    events c.expect_known.ensures in
    subst (λ (active : Committed). KnowsAtMost c.args.host.now.models active.tree new marks) c.requires.active
    (room_next c.args.host.now.models old new marks c.requires.few told c.requires.models)
