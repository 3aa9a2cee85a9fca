-- What is right in every run with its journal: the entries count what the lanes have made.
use Rattle.std.proofs.Common.{◌≡◌, ℕ, ◌+◌, ◌-◌, ◌≤◌, nat_lt, Bool, true, false, ◌&&◌, cond, Option, Some, None, List, [], ◌∷◌, ◌++◌, length, map, fold, refl, sym, ap, ◌∙◌, arith}
use Rattle.std.specs.Prelude.{is_none}
use Rattle.std.proofs.lemmas.List.{append-nil, length-append, length-map, length-drop}
use Rattle.std.proofs.lemmas.List.Sums.{fold-append, sum_by-append}
use Rattle.anim_names.specs.declared.entry.Entry.{Entry}
use Rattle.anim_names.specs.declared.entry.EntryKind.TheVariants as kind
use Rattle.anim_names.specs.declared.lane.Lane.{Lane}
use Rattle.anim_names.specs.declared.lane.Lane.TheVariants.{Main, Compositor}
use Rattle.commit_lock.proofs.Lanes.{entries_of-append}
use Rattle.commit_lock.specs.Journals.{entries_of}
use Rattle.frame_exchange.specs.Journals.{is_publish, published, pulled_after, last_pulled, sent_by, sent, drained_by, drained, last_upto}
use Rattle.run_rules.specs.declared.mark.Mark.{Mark}
use Rattle.run_rules.specs.declared.compositor_step.CompositorStep.{CompositorStep}
use Rattle.run_rules.specs.declared.compositor_step.CompositorStep.TheVariants.{Pull, Activate, Tick}
use Rattle.tree_commit.specs.Trees.{Committed, empty_commit, next_commit}
use Rattle.run_rules.specs.Marks.{event_of, marks_of_tick, marks_of_activation}
use Rattle.run_rules.specs.Scripts.{StepOfMain, EditStep, CommitStep, DrainStep, ScriptLists}
use Rattle.run_rules.specs.Runs.{MainLane, CompositorLane, beginning, after_letter, after, main_step, main_takes, after_drain, unheard_events, newest_commit, with_pending, after_activation, after_tick, compositor_step, compositor_takes}
use Rattle.run_laws.specs.Steps.{marks_of_pending}
use Rattle.word_machine.specs.Courses.{Course, opening, course_after, course_of, main_notes, compositor_notes, made_with, entries_with, sending}

-- ---- one entry more, or none

pub published-append : (xs ys : List Entry) → published (xs ++ ys) ≡ published xs + published ys
published-append xs ys = sum_by-append (λ (e : Entry). cond (is_publish e.kind) 1 0) xs ys

pub pulled-append : (xs ys : List Entry) → last_pulled (xs ++ ys) ≡ fold (λ last (e : Entry). pulled_after last e.kind) (last_pulled xs) ys
pulled-append xs ys = fold-append (λ last (e : Entry). pulled_after last e.kind) 0 xs ys

pub sent-append : (xs ys : List Entry) → sent (xs ++ ys) ≡ sent xs + sent ys
sent-append xs ys = sum_by-append (λ (e : Entry). sent_by e.kind) xs ys

pub drained-append : (xs ys : List Entry) → drained (xs ++ ys) ≡ drained xs + drained ys
drained-append xs ys = sum_by-append (λ (e : Entry). drained_by e.kind) xs ys

pub upto-append : (lane : Lane) (xs ys : List Entry) → last_upto lane (xs ++ ys) ≡ fold (λ (last : ℕ) (e : Entry). e.upto) (last_upto lane xs) (entries_of lane ys)
upto-append lane xs ys =
    ap (fold (λ (last : ℕ) (e : Entry). e.upto) 0) (entries_of-append lane xs ys)
    ∙ fold-append (λ (last : ℕ) (e : Entry). e.upto) 0 (entries_of lane xs) (entries_of lane ys)

-- ---- what is right

pub record IsRight (course : Course) : Type 0 where
  pub published : published course.entries ≡ length course.lanes.main.commits
  pub newest : (newest_commit course.lanes.main.commits).number ≡ length course.lanes.main.commits
  pub pulled : last_pulled course.entries ≡ course.lanes.compositor.pulled
  pub within : course.lanes.compositor.pulled ≤ length course.lanes.main.commits
  pub sent : sent course.entries ≡ length course.lanes.compositor.marks
  pub drained : drained course.entries ≡ length course.lanes.main.heard
  pub heard : length course.lanes.main.heard ≤ length course.lanes.compositor.marks
  pub main_upto : last_upto Main course.entries ≤ course.main_made
  pub compositor_upto : last_upto Compositor course.entries ≤ course.compositor_made

-- ---- a step of main

-- the run after main's next step, where these steps are left
abbrev pub next_main : Course → List StepOfMain → Course
next_main course left = record course {
  lanes = record course.lanes { main = main_takes course.lanes.compositor.marks left course.lanes.main };
  main_made = made_with course.main_made left;
  entries = course.entries ++ entries_with Main (course.main_made + 1) (main_notes course.lanes left);
}

pub newest-last : (commits : List Committed) (commit : Committed) → newest_commit (commits ++ commit ∷ []) ≡ commit
newest-last commits commit = fold-append (λ older (c : Committed). c) empty_commit commits (commit ∷ [])

pub unheard-length : (marks : List Mark) (lane : MainLane) → length (unheard_events marks lane) ≡ length marks - length lane.heard
unheard-length marks lane =
    length-drop (length lane.heard) (map event_of marks) ∙ ap (λ n. n - length lane.heard) (length-map marks event_of)

-- a step that notes nothing, and makes neither commits nor marks
still : (course later : Course) → later.entries ≡ course.entries ++ [] → later.lanes.main.commits ≡ course.lanes.main.commits → later.lanes.compositor.pulled ≡ course.lanes.compositor.pulled → length later.lanes.compositor.marks ≡ length course.lanes.compositor.marks → later.lanes.main.heard ≡ course.lanes.main.heard → course.main_made ≤ later.main_made → course.compositor_made ≤ later.compositor_made → IsRight course → IsRight later
still course later entries commits pulled marks heard main_made compositor_made h =
    let same : later.entries ≡ course.entries = entries ∙ append-nil course.entries in
    record {
      published = ap published same ∙ h.published ∙ ap length (sym commits);
      newest = ap (λ c. (newest_commit c).number) commits ∙ h.newest ∙ ap length (sym commits);
      pulled = ap last_pulled same ∙ h.pulled ∙ sym pulled;
      within = omega (arith, h.within, pulled, ap length commits);
      sent = ap sent same ∙ h.sent ∙ sym marks;
      drained = ap drained same ∙ h.drained ∙ ap length (sym heard);
      heard = omega (arith, h.heard, marks, ap length heard);
      main_upto = omega (arith, ap (last_upto Main) same, h.main_upto, main_made);
      compositor_upto = omega (arith, ap (last_upto Compositor) same, h.compositor_upto, compositor_made);
    }

right-main : (course : Course) (left : List StepOfMain) → IsRight course → IsRight (next_main course left)
unfolding after_drain
right-main course [] h = still course (next_main course []) refl refl refl refl refl (omega arith) (omega arith) h
right-main course (EditStep change ∷ left) h =
    still course (next_main course (EditStep change ∷ left)) refl refl refl refl refl (omega arith) (omega arith) h
right-main course (CommitStep ∷ left) h =
    let commits = course.lanes.main.commits in
    let new = next_commit (length commits) course.lanes.main.tree in
    let more = entries_with Main (course.main_made + 1) (main_notes course.lanes (CommitStep ∷ left)) in
    let longer : length (commits ++ new ∷ []) ≡ length commits + 1 = length-append commits (new ∷ []) in
    record {
      published = published-append course.entries more ∙ omega (arith, h.published, longer);
      newest = ap (λ (c : Committed). c.number) (newest-last commits new) ∙ sym longer;
      pulled = pulled-append course.entries more ∙ h.pulled;
      within = omega (arith, h.within, longer);
      sent = sent-append course.entries more ∙ omega (arith, h.sent);
      drained = drained-append course.entries more ∙ omega (arith, h.drained);
      heard = h.heard;
      main_upto = omega (arith, upto-append Main course.entries more);
      compositor_upto = omega (arith, upto-append Compositor course.entries more, h.compositor_upto);
    }
right-main course (DrainStep ∷ left) h =
    let marks = course.lanes.compositor.marks in
    let heard = course.lanes.main.heard in
    let new = unheard_events marks course.lanes.main in
    let more = entries_with Main (course.main_made + 1) (main_notes course.lanes (DrainStep ∷ left)) in
    let all : length (heard ++ new) ≡ length heard + length new = length-append heard new in
    let drained_more : drained (course.entries ++ more) ≡ drained course.entries + (0 + length new) = drained-append course.entries more in
    record {
      published = published-append course.entries more ∙ omega (arith, h.published);
      newest = h.newest;
      pulled = pulled-append course.entries more ∙ h.pulled;
      within = h.within;
      sent = sent-append course.entries more ∙ omega (arith, h.sent);
      drained = omega (arith, drained_more, h.drained, all);
      heard = omega (arith, all, unheard-length marks course.lanes.main, h.heard);
      main_upto = omega (arith, upto-append Main course.entries more);
      compositor_upto = omega (arith, upto-append Compositor course.entries more, h.compositor_upto);
    }

-- ---- a step of the compositor

abbrev pub next_compositor : Course → List CompositorStep → Course
next_compositor course left = record course {
  lanes = record course.lanes { compositor = compositor_takes course.lanes.main.commits left course.lanes.compositor };
  compositor_made = made_with course.compositor_made left;
  entries = course.entries ++ entries_with Compositor (course.compositor_made + 1) (compositor_notes course.lanes left);
}

-- the run with this lane, which has new marks that are sent in this step
abbrev with_marks : Course → CompositorLane → List Mark → Course
with_marks course lane new = record course {
  lanes = record course.lanes { compositor = lane };
  compositor_made = course.compositor_made + 1;
  entries = course.entries ++ entries_with Compositor (course.compositor_made + 1) (sending new);
}

right-marks : (course : Course) (lane : CompositorLane) (new : List Mark) → lane.pulled ≡ course.lanes.compositor.pulled → length lane.marks ≡ length course.lanes.compositor.marks + length new → IsRight course → IsRight (with_marks course lane new)
right-marks course lane [] same longer h =
    still course (with_marks course lane []) refl refl same (omega (arith, longer)) refl (omega arith) (omega arith) h
right-marks course lane (mark ∷ new) same longer h =
    let more = entries_with Compositor (course.compositor_made + 1) (sending (mark ∷ new)) in
    let sent_more : sent (course.entries ++ more) ≡ sent course.entries + (0 + length (mark ∷ new)) = sent-append course.entries more in
    record {
      published = published-append course.entries more ∙ omega (arith, h.published);
      newest = h.newest;
      pulled = pulled-append course.entries more ∙ h.pulled ∙ sym same;
      within = omega (arith, h.within, same);
      sent = omega (arith, sent_more, h.sent, longer);
      drained = drained-append course.entries more ∙ omega (arith, h.drained);
      heard = omega (arith, h.heard, longer);
      main_upto = omega (arith, upto-append Main course.entries more, h.main_upto);
      compositor_upto = omega (arith, upto-append Compositor course.entries more);
    }

-- the run with a pull, which takes the newest commit or nothing
abbrev with_pull : Course → CompositorLane → Bool → Course
with_pull course lane taken =
    let newest = newest_commit course.lanes.main.commits in
    record course {
      lanes = record course.lanes { compositor = cond taken (with_pending newest lane) lane };
      compositor_made = course.compositor_made + 1;
      entries = course.entries
          ++ entries_with Compositor (course.compositor_made + 1) (kind.Pull (cond taken (Some newest.number) None) ∷ []);
    }

right-pull : (course : Course) (lane : CompositorLane) (taken : Bool) → lane.pulled ≡ course.lanes.compositor.pulled → lane.marks ≡ course.lanes.compositor.marks → IsRight course → IsRight (with_pull course lane taken)
right-pull course lane true same marks h =
    let newest = newest_commit course.lanes.main.commits in
    let more = entries_with Compositor (course.compositor_made + 1) (kind.Pull (Some newest.number) ∷ []) in
    record {
      published = published-append course.entries more ∙ omega (arith, h.published);
      newest = h.newest;
      pulled = pulled-append course.entries more;
      within = omega (arith, h.newest);
      sent = sent-append course.entries more ∙ omega (arith, h.sent, ap length marks);
      drained = drained-append course.entries more ∙ omega (arith, h.drained);
      heard = omega (arith, h.heard, ap length marks);
      main_upto = omega (arith, upto-append Main course.entries more, h.main_upto);
      compositor_upto = omega (arith, upto-append Compositor course.entries more);
    }
right-pull course lane false same marks h =
    let more = entries_with Compositor (course.compositor_made + 1) (kind.Pull None ∷ []) in
    record {
      published = published-append course.entries more ∙ omega (arith, h.published);
      newest = h.newest;
      pulled = pulled-append course.entries more ∙ h.pulled ∙ sym same;
      within = omega (arith, h.within, same);
      sent = sent-append course.entries more ∙ omega (arith, h.sent, ap length marks);
      drained = drained-append course.entries more ∙ omega (arith, h.drained);
      heard = omega (arith, h.heard, ap length marks);
      main_upto = omega (arith, upto-append Main course.entries more, h.main_upto);
      compositor_upto = omega (arith, upto-append Compositor course.entries more);
    }

right-activation : (course : Course) (left : List CompositorStep) (pending : Option Committed) → IsRight course → IsRight (with_marks course (after_activation pending (record course.lanes.compositor { left = left })) (marks_of_pending pending course.lanes.compositor))
right-activation course left None h = right-marks course (record course.lanes.compositor { left = left }) [] refl (omega arith) h
right-activation course left (Some pending) h =
    let lane = course.lanes.compositor in
    let new = marks_of_activation lane.active.tree pending lane.marks in
    right-marks course (after_activation (Some pending) (record lane { left = left })) new refl (length-append lane.marks new) h

right-compositor : (course : Course) (left : List CompositorStep) → IsRight course → IsRight (next_compositor course left)
right-compositor course [] h = still course (next_compositor course []) refl refl refl refl refl (omega arith) (omega arith) h
right-compositor course (Pull ∷ left) h =
    let lane = course.lanes.compositor in
    right-pull course (record lane { left = left }) (is_none lane.pending && nat_lt lane.pulled (newest_commit course.lanes.main.commits).number) refl refl h
right-compositor course (Activate ∷ left) h = right-activation course left course.lanes.compositor.pending h
right-compositor course (Tick time ∷ left) h =
    let lane = course.lanes.compositor in
    let new = marks_of_tick lane.active.tree lane.pending lane.marks time in
    right-marks course (after_tick time (record lane { left = left })) new refl (length-append lane.marks new) h

-- ---- any word

pub right-after : (course : Course) (letter : Lane) → IsRight course → IsRight (course_after course letter)
unfolding main_step compositor_step
right-after course Main h = right-main course course.lanes.main.left h
right-after course Compositor h = right-compositor course course.lanes.compositor.left h

right_along : (course : Course) (word : List Lane) → IsRight course → IsRight (fold course_after course word)
right_along course [] h = h
right_along course (letter ∷ word) h = right_along (course_after course letter) word (right-after course letter h)

pub opening_is_right : (script : ScriptLists) → IsRight (opening script)
opening_is_right script = record {
  published = refl;
  newest = refl;
  pulled = refl;
  within = omega arith;
  sent = refl;
  drained = refl;
  heard = omega arith;
  main_upto = omega arith;
  compositor_upto = omega arith;
}

pub course_is_right : (script : ScriptLists) (word : List Lane) → IsRight (course_of script word)
unfolding course_of
course_is_right script word = right_along (opening script) word (opening_is_right script)

-- ---- the lanes of a run

lanes_along : (course : Course) (word : List Lane) → (fold course_after course word).lanes ≡ fold after_letter course.lanes word
lanes_along course [] = refl
lanes_along course (Main ∷ word) = lanes_along (course_after course Main) word
lanes_along course (Compositor ∷ word) = lanes_along (course_after course Compositor) word

pub lanes_of_course : (script : ScriptLists) (word : List Lane) → (course_of script word).lanes ≡ after (beginning script) word
unfolding course_of after
lanes_of_course script word = lanes_along (opening script) word

pub course-append : (script : ScriptLists) (word : List Lane) (letter : Lane) → course_of script (word ++ letter ∷ []) ≡ course_after (course_of script word) letter
unfolding course_of
course-append script word letter = fold-append course_after (opening script) word (letter ∷ [])
