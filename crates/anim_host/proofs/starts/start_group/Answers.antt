use Rattle.std.proofs.Common.{◌≡◌, List, [], Bool, true, false, map, ap, sym, subst, ◌∙◌, arith}
use Rattle.std.specs.Prelude.{if◌then◌else◌, ◌==◌}
use Rattle.std.proofs.lemmas.List.{append-nil}
use Rattle.keyframe_model.specs.Models.{Spec}
use Rattle.run_rules.specs.declared.mark.Mark.{Mark}
use Rattle.run_rules.specs.Marks.{is_ready, start_mark}
use Rattle.tree_commit.specs.Trees.{members_of}
use Rattle.anim_host.specs.Standing.{Stood, with_new}
use Rattle.anim_names.specs.Lists.{IsAmong}
use Rattle.tree_commit.specs.Trees.{Committed}
use Rattle.anim_host.specs.Fits.{AreSettled, MarksFitModels}
use Rattle.anim_host.proofs.SettleLemmas.{may-start-in, ready-waits, settled-group}
use Rattle.host_tables.proofs.CommitGroupsLemmas.{filter-fewer, indices-length, indices-members, indices-within}
use Rattle.anim_host.proofs.starts.start_group.Goals as goal

pub is_ready-requires-clause-settled : goal.is_ready-requires-clause-settled
is_ready-requires-clause-settled c = subst (λ (s : Committed). AreSettled s.tree.models c.args.standing.now.list.marks) c.requires.active c.requires.settled

pub start_members-requires-clause-room : goal.start_members-requires-clause-room
start_members-requires-clause-room c =
    let models = c.args.active.now.tree.models in
    let many = indices-length models c.args.groups.now c.args.group c.indices.result.now c.requires.groups c.indices.ensures in
    let few = filter-fewer (λ (m : Spec). c.args.group == m.group) models in
    let had = c.requires.room in
    omega arith

pub start_members-requires-clause-indices : goal.start_members-requires-clause-indices
start_members-requires-clause-indices c =
    indices-within c.args.active.now.tree.models c.args.groups.now c.args.group c.indices.result.now c.requires.groups c.indices.ensures

pub start_members-requires-clause-waiting : goal.start_members-requires-clause-waiting
start_members-requires-clause-waiting c =
    let old = c.args.standing.now in
    ready-waits c.args.active.now.tree old.pending old.list.marks c.args.group (ap (λ (s : Committed). is_ready s.tree c.args.standing.now.pending c.args.standing.now.list.marks c.args.group) c.requires.active ∙ sym c.is_ready.ensures ∙ c.if-is_ready.true)

pub start_members-requires-clause-members : goal.start_members-requires-clause-members
start_members-requires-clause-members c = λ model there.
    let tree = c.args.active.now.tree in
    let old = c.args.standing.now in
    let fits : MarksFitModels tree.models old.list.marks = subst (λ (s : Committed). MarksFitModels s.tree.models old.list.marks) (sym c.requires.active) c.vouch.ensures.fits in
    may-start-in tree old.pending old.list.marks c.args.group model fits c.requires.settled (ap (λ (s : Committed). is_ready s.tree c.args.standing.now.pending c.args.standing.now.list.marks c.args.group) c.requires.active ∙ sym c.is_ready.ensures ∙ c.if-is_ready.true)
    (subst (λ (ms : List Spec). IsAmong model ms)
    (indices-members tree.models c.args.groups.now c.args.group c.indices.result.now c.requires.groups c.indices.ensures) there)

pub returns-then-is_ready : goal.returns-then-is_ready
returns-then-is_ready c =
    let tree = c.args.active.now.tree in
    let old = c.args.standing.now in
    let ready : is_ready tree old.pending old.list.marks c.args.group ≡ true = ap (λ (s : Committed). is_ready s.tree c.args.standing.now.pending c.args.standing.now.list.marks c.args.group) c.requires.active ∙ sym c.is_ready.ensures ∙ c.if-is_ready.true in
    let is : c.start_members.new.standing ≡ with_new old (map (start_mark tree c.args.tick) (members_of tree c.args.group)) =
    c.start_members.ensures
    ∙ ap (λ (ms : List Spec). with_new old (map (start_mark tree c.args.tick) ms))
    (indices-members tree.models c.args.groups.now c.args.group c.indices.result.now c.requires.groups c.indices.ensures) in
    record {
      marks = is ∙ sym (ap (λ (b : Bool). with_new old (if b then map (start_mark tree c.args.tick) (members_of tree c.args.group) else [])) ready);
      settled = subst (λ (s : Stood). AreSettled tree.models s.list.marks) (sym is) (settled-group tree c.args.tick c.args.group old.list.marks c.requires.settled);
    }

pub returns-else-is_ready : goal.returns-else-is_ready
returns-else-is_ready c =
    let tree = c.args.active.now.tree in
    let old = c.args.standing.now in
    let waits : is_ready tree old.pending old.list.marks c.args.group ≡ false =
    ap (λ (s : Committed). is_ready s.tree old.pending old.list.marks c.args.group) c.requires.active ∙ sym c.is_ready.ensures ∙ c.if-is_ready.false in
    record {
      marks =
          sym
          (ap (λ (b : Bool). with_new old (if b then map (start_mark tree c.args.tick) (members_of tree c.args.group) else [])) waits
          ∙ ap (λ (l : List Mark). record old { list = record old.list { marks = l } }) (append-nil old.list.marks));
      settled = c.requires.settled;
    }
