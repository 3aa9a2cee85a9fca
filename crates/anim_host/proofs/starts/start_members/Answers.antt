use Rattle.std.proofs.Common.{◌≡◌, ◌≢◌, ◌+◌, ◌∷◌, [], ◌++◌, ℕ, List, Option, Some, drop, get_or, map, ap, sym, subst, refl, ◌∙◌, arith}
use Rattle.std.specs.Prelude.{slice_get, IsTrue}
use Rattle.std.specs.List.{cons_option, list_any}
use Rattle.std.proofs.lemmas.Option.{slice_get-get_or}
use Rattle.keyframe_model.specs.Models.{Spec, property_of}
use Rattle.run_rules.specs.declared.mark.Mark.{Mark}
use Rattle.anim_names.specs.Lists.{IsAmong}
use Rattle.run_rules.specs.Marks.{blocks, is_ended, is_group_unfinished, recorded_start, start_mark, starts_in}
use Rattle.tree_commit.specs.Tables.{has_timeline}
use Rattle.tree_commit.specs.Trees.{time_of}
use Rattle.tree_commit.proofs.Among.{among-found, each-found}
use Rattle.anim_host.specs.Fits.{MayStartIn, begun_of}
use Rattle.host_tables.specs.CommitGroups.{at_indices}
use Rattle.anim_host.specs.Standing.{Stood, with_new}
use Rattle.anim_host.proofs.BlockLemmas.{alive-same, blocks-elsewhere}
use Rattle.anim_host.proofs.GrowLemmas.{growing-last, growing-next, growing-start}
use Rattle.anim_host.proofs.SettleLemmas.{at-among, start-whole, waits-whole}
use Rattle.anim_host.proofs.starts.start_members.Goals as goal

pub loop-position-init : goal.loop-position-init
loop-position-init c = (
  growing-start (λ (ps : List ℕ). map (start_mark c.args.active.now.tree c.args.tick) (at_indices c.args.active.now.tree.models ps)) c.args.indices.now c.args.standing.now,
  λ id. refl,
  waits-whole c.args.standing.now.list.marks c.args.group c.requires.waiting,
  λ other element property differ. refl,
)

pub start_one-requires-clause-active : goal.start_one-requires-clause-active
start_one-requires-clause-active c = c.requires.active ∙ sym c.loop-position.invariant.0.active

pub start_one-requires-clause-there : goal.start_one-requires-clause-there
start_one-requires-clause-there c =
    subst (λ (m : Spec). IsAmong m c.args.active.now.tree.models) (sym c.deref.ensures)
    (among-found c.model_at.result.now.value c.args.active.now.tree.models (get_or c.args.indices.now c.loop-position.position 0) c.model_at.ensures)

pub start_one-requires-clause-may : goal.start_one-requires-clause-may
start_one-requires-clause-may c =
    let tree = c.args.active.now.tree in
    let index = get_or c.args.indices.now c.loop-position.position 0 in
    let model = c.model_at.result.now.value in
    let now = c.loop-position.standing in
    let may = c.requires.members model
    (at-among tree.models c.args.indices.now c.loop-position.position index model (slice_get-get_or c.args.indices.now c.loop-position.position 0 (omega arith)) c.model_at.ensures) in
    subst (λ (m : Spec). MayStartIn m.group tree now.list.marks m) (sym c.deref.ensures) (record {
      own = refl;
      alive = c.loop-position.invariant.1 model.id ∙ may.alive;
      present = may.present;
      free = λ other differ.
          let apart : other ≢ c.args.group = λ same. differ (same ∙ sym may.own) in
          c.loop-position.invariant.3 other model.element (property_of model) apart ∙ may.free other apart;
    })

pub start_one-requires-clause-whole : goal.start_one-requires-clause-whole
start_one-requires-clause-whole c =
    let tree = c.args.active.now.tree in
    let index = get_or c.args.indices.now c.loop-position.position 0 in
    let model = c.model_at.result.now.value in
    let now = c.loop-position.standing in
    let may = c.requires.members model
    (at-among tree.models c.args.indices.now c.loop-position.position index model (slice_get-get_or c.args.indices.now c.loop-position.position 0 (omega arith)) c.model_at.ensures) in
    subst (λ (g : ℕ). list_any (starts_in g) now.list.marks ≡ is_group_unfinished now.list.marks g)
    (sym (ap (λ (m : Spec). m.group) c.deref.ensures ∙ may.own)) c.loop-position.invariant.2

pub start_one-requires-clause-room : goal.start_one-requires-clause-room
start_one-requires-clause-room c =
    let few = c.loop-position.invariant.0.few in
    let room = c.loop-position.invariant.0.room in
    let had = c.requires.room in
    omega arith

pub start_one-requires-clause-timeline_there : goal.start_one-requires-clause-timeline_there
start_one-requires-clause-timeline_there c =
    subst (λ (m : Spec). IsTrue (has_timeline c.args.active.now.tree m.timeline)) (sym c.deref.ensures)
    (each-found (λ (m : Spec). IsTrue (has_timeline c.args.active.now.tree m.timeline)) c.model_at.result.now.value
    c.args.active.now.tree.models (get_or c.args.indices.now c.loop-position.position 0) c.requires.timelines_there c.model_at.ensures)

pub loop-position-preserved : goal.loop-position-preserved
loop-position-preserved c =
    let tree = c.args.active.now.tree in
    let models = tree.models in
    let indices = c.args.indices.now in
    let position = c.loop-position.position in
    let index = get_or indices position 0 in
    let model = c.model_at.result.now.value in
    let now = c.loop-position.standing in
    let marks = now.list.marks in
    let mark = start_mark tree c.args.tick model in
    let begun = begun_of model c.args.tick (recorded_start model.start (time_of tree c.args.tick model)) in
    let found : slice_get indices position ≡ Some index = slice_get-get_or indices position 0 (omega arith) in
    let may = c.requires.members model (at-among models indices position index model found c.model_at.ensures) in
    let alive = c.loop-position.invariant.1 model.id ∙ may.alive in
    let is : c.start_one.new.standing ≡ with_new now (mark ∷ []) = c.start_one.ensures ∙ ap (λ (m : Spec). with_new now (start_mark tree c.args.tick m ∷ [])) c.deref.ensures in
    let more : c.start_one.new.standing.list.marks ≡ marks ++ mark ∷ [] = ap (λ (s : Stood). s.list.marks) is in (
      growing-next (λ (ps : List ℕ). map (start_mark tree c.args.tick) (at_indices models ps)) indices position
          c.args.standing.now now c.start_one.new.standing index (mark ∷ []) found
          (ap (λ (o : Option Spec). map (start_mark tree c.args.tick) (cons_option o (at_indices models (drop (position + 1) indices)))) c.model_at.ensures)
          (omega arith) is c.loop-position.invariant.0,
      λ id.
          ap (λ (l : List Mark). is_ended l id) more
          ∙ alive-same marks model.id begun id
          ∙ c.loop-position.invariant.1 id,
      ap (λ (l : List Mark). list_any (starts_in c.args.group) l) more
          ∙ subst (λ (g : ℕ). list_any (starts_in g) (marks ++ mark ∷ []) ≡ is_group_unfinished (marks ++ mark ∷ []) g) may.own
          (start-whole marks model.id begun alive)
          ∙ ap (λ (l : List Mark). is_group_unfinished l c.args.group) (sym more),
      λ other element property differ.
          ap (λ (l : List Mark). blocks l other element property) more
          ∙ blocks-elsewhere marks model.id begun other element property (λ same. differ (same ∙ may.own))
          ∙ c.loop-position.invariant.3 other element property differ,
    )

pub returns : goal.returns
returns c =
    growing-last (λ (ps : List ℕ). map (start_mark c.args.active.now.tree c.args.tick) (at_indices c.args.active.now.tree.models ps))
    c.args.indices.now c.loop-position.position c.args.standing.now c.loop-position.standing (omega arith) refl c.loop-position.invariant.0
