use Rattle.std.proofs.Common.{◌≡◌, ◌++◌, List, Option, Some, ap, refl, sym, subst, ◌∙◌}
use Rattle.std.specs.Prelude.{option_map, IfSome}
use Rattle.std.proofs.lemmas.Option.{same_Some}
use Rattle.run_rules.specs.declared.mark.Mark.{Mark}
use Rattle.run_rules.specs.Follows.{Follows}
use Rattle.anim_names.specs.Lists.{IsAmong}
use Rattle.run_rules.specs.Marks.{marks_of_activation}
use Rattle.tree_commit.specs.Trees.{Committed}
use Rattle.anim_host.specs.Fits.{AreSettled, IsThereIfUnfinished, MarksFitModels}
use Rattle.host_tables.specs.CommitGroups.{commit_groups}
use Rattle.anim_host.specs.Standing.{Stood, with_new}
use Rattle.anim_host.proofs.SettleLemmas.{running-over, settled-over}
use Rattle.anim_host.proofs.host.AnimHost.activate.Goals as goal

pub take_over-requires-clause-unfinished : goal.take_over-requires-clause-unfinished
take_over-requires-clause-unfinished c =
    let old = c.self.inside.standing in
    let new = c.args.pending.now in
    let active : c.args.active.now ≡ old.active = rw (← c.self.view_is) at c.requires.active in
    let is : c.abort_lost.new.standing ≡ with_new old (marks_of_activation old.active.tree new old.list.marks) =
    c.abort_lost.ensures ∙ ap (λ (a : Committed). with_new old (marks_of_activation a.tree new old.list.marks)) active in
    let more : c.abort_lost.new.standing.list.marks ≡ old.list.marks ++ marks_of_activation old.active.tree new old.list.marks = ap (λ (s : Stood). s.list.marks) is in
    let fits : MarksFitModels old.active.tree.models (old.list.marks ++ marks_of_activation old.active.tree new old.list.marks) =
    subst (λ (s : Stood). MarksFitModels s.active.tree.models s.list.marks) is c.vouch.ensures.fits in
    subst (λ (l : List Mark). (mark : Mark) → IsAmong mark l → IsThereIfUnfinished new.tree.models l mark) (sym more)
    (running-over old.active.tree new old.list.marks fits)

pub invariant_of-self : goal.invariant_of-self
invariant_of-self c =
    let old = c.self.inside.standing in
    let new = c.args.pending.now in
    let active : c.args.active.now ≡ old.active = rw (← c.self.view_is) at c.requires.active in
    let pending : old.pending ≡ Some new = rw (← c.self.view_is) at c.requires.pending in
    let is : c.abort_lost.new.standing ≡ with_new old (marks_of_activation old.active.tree new old.list.marks) =
    c.abort_lost.ensures ∙ ap (λ (a : Committed). with_new old (marks_of_activation a.tree new old.list.marks)) active in
    let more : c.abort_lost.new.standing.list.marks ≡ old.list.marks ++ marks_of_activation old.active.tree new old.list.marks = ap (λ (s : Stood). s.list.marks) is in
    let follows : Follows old.active.tree new.tree (old.list.marks ++ marks_of_activation old.active.tree new old.list.marks) =
    subst (λ (o : Option Committed). IfSome o (λ commit. Follows old.active.tree commit.tree (old.list.marks ++ marks_of_activation old.active.tree new old.list.marks))) pending
    (subst (λ (s : Stood). IfSome s.pending (λ commit. Follows s.active.tree commit.tree s.list.marks)) is c.vouch.ensures.follows) in
    let grouped : c.in-Some.groups ≡ commit_groups new.tree.models =
    same_Some c.in-Some.groups (commit_groups new.tree.models)
    (sym c.in-Some.is ∙ c.take.ensures.value ∙ c.self.invariant.of_pending ∙ ap (option_map (λ (commit : Committed). commit_groups commit.tree.models)) pending) in
    rw (c.take_over.ensures, c.take.ensures.after) (record {
      of_active = grouped;
      of_pending = refl;
      settled = subst (AreSettled new.tree.models) (sym more) (settled-over old.active.tree new old.list.marks follows c.self.invariant.settled);
      roomy = tt;
    })
