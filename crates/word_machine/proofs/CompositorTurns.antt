-- A step of the compositor leads from one moment of a run to the next, on the compositor's side and on the board.
use Rattle.std.proofs.Common.{◌≡◌, ℕ, ◌+◌, ◌-◌, ◌<◌, ◌≤◌, ◌==◌, nat_lt, Bool, true, false, not, ◌&&◌, cond, Option, Some, None, List, [], ◌∷◌, ◌++◌, length, map, drop, refl, sym, ap, ◌∙◌, arith}
use Rattle.std.specs.Prelude.{is_none, unwrap_or}
use Rattle.std.proofs.lemmas.Bool.{ltb-true, ltb-false, ne_eqb, eq-eqb}
use Rattle.std.proofs.lemmas.List.{append-nil, length-map, map-append, drop-append-le, drop_all}
use Rattle.anim_names.specs.declared.entry.EntryKind.TheVariants as kind
use Rattle.anim_names.specs.declared.lane.Lane.TheVariants.{Compositor}
use Rattle.frame_exchange.specs.Journals.{finds_nothing, last_pulled, published}
use Rattle.frame_exchange.specs.Sides.{CompositorState, activated, compositor_after_activation, compositor_after_send, compositor_after_tick, news_of, slot_of}
use Rattle.run_rules.specs.declared.compositor_step.CompositorStep.{CompositorStep}
use Rattle.run_rules.specs.declared.compositor_step.CompositorStep.TheVariants.{Pull, Activate, Tick}
use Rattle.run_rules.specs.declared.mark.Mark.{Mark}
use Rattle.tree_commit.specs.Trees.{Committed}
use Rattle.run_rules.specs.Marks.{event_of, marks_of_tick}
use Rattle.run_rules.specs.Runs.{CompositorLane, after_activation, after_tick, compositor_step, newest_commit, with_pending}
use Rattle.run_rules.specs.Scripts.{time_of_tick}
use Rattle.run_laws.specs.Steps.{marks_of_pending, marks_of_step}
use Rattle.run_laws.proofs.CompositorSteps.{by_step, makes-frames, quiet-time}
use Rattle.word_machine.specs.Courses.{Course, board_of, compositor_of, course_after, entries_with, in_mailbox, sending}
use Rattle.word_machine.specs.Turns.{board_after_compositor, board_told, board_with_news, compositor_turned, compositor_with_reply, frames_with, frames_with_tick}
use Rattle.word_machine.proofs.MainTurns.{a_board, same_board}
use Rattle.word_machine.proofs.Right.{IsRight, next_compositor}

-- the time of the last tick after a step
abbrev pub last_tick_after : CompositorStep → ℕ → ℕ
last_tick_after step last_tick = unwrap_or (time_of_tick step) last_tick

-- ---- a pull

-- the commit is taken: none is pending, and it was not pulled
abbrev pub takes : Option Committed → ℕ → Committed → Bool
takes pending pulled newest = is_none pending && nat_lt pulled newest.number

pub nothing-taken : (course : Course) → IsRight course → (pending : Option Committed) (taken : Bool) → takes pending course.lanes.compositor.pulled (newest_commit course.lanes.main.commits) ≡ taken → finds_nothing course.entries (slot_of pending) ≡ not taken
nothing-taken course right (Some pending) true is = cc
nothing-taken course right (Some pending) false is = refl
nothing-taken course right None true is =
    let later : course.lanes.compositor.pulled < (newest_commit course.lanes.main.commits).number = ltb-true course.lanes.compositor.pulled (newest_commit course.lanes.main.commits).number is in
    ne_eqb (published course.entries) (last_pulled course.entries) (λ e. omega (arith, e, later, right.published, right.newest, right.pulled))
nothing-taken course right None false is =
    let early : (newest_commit course.lanes.main.commits).number ≤ course.lanes.compositor.pulled = ltb-false course.lanes.compositor.pulled (newest_commit course.lanes.main.commits).number is in
    eq-eqb (published course.entries) (last_pulled course.entries) (omega (arith, early, right.within, right.published, right.newest, right.pulled))

-- the run after a pull that takes a commit or does not
abbrev pulled_next : Course → List CompositorStep → Bool → Course
pulled_next course left taken =
    let newest = newest_commit course.lanes.main.commits in
    let lane : CompositorLane = record course.lanes.compositor { left = left } in
    record course {
      lanes = record course.lanes { compositor = cond taken (with_pending newest lane) lane };
      compositor_made = course.compositor_made + 1;
      entries = course.entries
          ++ entries_with Compositor (course.compositor_made + 1) (kind.Pull (cond taken (Some newest.number) None) ∷ []);
    }

-- what the mailbox has where the newest commit was not pulled
pub mailbox-newer : (course : Course) → course.lanes.compositor.pulled < (newest_commit course.lanes.main.commits).number → in_mailbox course.lanes ≡ Some (newest_commit course.lanes.main.commits)
mailbox-newer course later =
    let newest = newest_commit course.lanes.main.commits in
    ap (λ b. cond b None (Some newest)) (ne_eqb newest.number course.lanes.compositor.pulled (λ e. omega (arith, e, later)))

pub later-taken : (pending : Option Committed) (pulled : ℕ) (newest : Committed) → takes pending pulled newest ≡ true → pulled < newest.number
later-taken None pulled newest is = ltb-true pulled newest.number is
later-taken (Some pending) pulled newest is = cc

pull_side : (course : Course) (left : List CompositorStep) (last_tick models : ℕ) (taken : Bool) → takes course.lanes.compositor.pending course.lanes.compositor.pulled (newest_commit course.lanes.main.commits) ≡ taken → compositor_with_reply (cond (not taken) None (in_mailbox course.lanes)) (compositor_of course last_tick models) ≡ compositor_of (pulled_next course left taken) last_tick models
pull_side course left last_tick models true is =
    ap (λ reply. compositor_with_reply reply (compositor_of course last_tick models))
    (mailbox-newer course (later-taken course.lanes.compositor.pending course.lanes.compositor.pulled (newest_commit course.lanes.main.commits) is))
pull_side course left last_tick models false is = refl

pull_board : (course : Course) (left : List CompositorStep) (room queue_room : ℕ) (taken : Bool) → IsRight course → takes course.lanes.compositor.pending course.lanes.compositor.pulled (newest_commit course.lanes.main.commits) ≡ taken → a_board (course.entries ++ record { lane = Compositor; upto = course.compositor_made + 1; kind = kind.Pull (cond (not taken) None (Some (published course.entries))) } ∷ []) (cond (not taken) (in_mailbox course.lanes) None) (map event_of course.lanes.compositor.marks) (length course.lanes.main.heard) queue_room room ≡ board_of (pulled_next course left taken) room queue_room
pull_board course left room queue_room true right is =
    let newest = newest_commit course.lanes.main.commits in
    same_board queue_room room
    (ap (λ n. course.entries ++ record { lane = Compositor; upto = course.compositor_made + 1; kind = kind.Pull (Some n) } ∷ []) (right.published ∙ sym right.newest))
    (ap (λ b. cond b None (Some newest)) (sym (eq-eqb newest.number newest.number refl)))
    refl refl
pull_board course left room queue_room false right is = refl

-- ---- marks that are sent

-- a lane with new marks
pub record HasNew (lane before : CompositorLane) (new : List Mark) : Type 0 where
  pub marks : lane.marks ≡ before.marks ++ new
  pub pulled : lane.pulled ≡ before.pulled

-- the run with this lane, whose new marks are sent in this step
abbrev sent_next : Course → CompositorLane → List Mark → Course
sent_next course lane new = record course {
  lanes = record course.lanes { compositor = lane };
  compositor_made = course.compositor_made + 1;
  entries = course.entries ++ entries_with Compositor (course.compositor_made + 1) (sending new);
}

drop-own : {A : Type 0} (xs ys : List A) → drop (length xs) (xs ++ ys) ≡ ys
drop-own xs ys = drop-append-le (length xs) xs ys (omega arith) ∙ ap (λ l. l ++ ys) (drop_all (length xs) xs (omega arith))

pub news-new : (course : Course) (lane : CompositorLane) (new : List Mark) → HasNew lane course.lanes.compositor new → map event_of (drop (length course.lanes.compositor.marks) lane.marks) ≡ map event_of new
news-new course lane new h =
    ap (λ marks. map event_of (drop (length course.lanes.compositor.marks) marks)) h.marks
    ∙ ap (map event_of) (drop-own course.lanes.compositor.marks new)

-- how much room a board has after a step with this many new marks
abbrev pub room_with : List Mark → ℕ → ℕ
room_with [] room = room
room_with (mark ∷ marks) room = room - 1

told : (course : Course) (lane : CompositorLane) (new : List Mark) (room queue_room : ℕ) → HasNew lane course.lanes.compositor new → board_with_news (course.compositor_made + 1) (map event_of new) (board_of course room queue_room) ≡ board_of (sent_next course lane new) (room_with new room) (queue_room - length new)
told course lane [] room queue_room h =
    let marks : lane.marks ≡ course.lanes.compositor.marks = h.marks ∙ append-nil course.lanes.compositor.marks in
    let newest = newest_commit course.lanes.main.commits in
    ap (λ n. a_board course.entries (in_mailbox course.lanes) (map event_of course.lanes.compositor.marks) (length course.lanes.main.heard) n room) (omega arith)
    ∙ same_board (queue_room - 0) room (sym (append-nil course.entries))
    (ap (λ n. cond (newest.number == n) None (Some newest)) (sym h.pulled)) (ap (map event_of) (sym marks)) refl
told course lane (mark ∷ new) room queue_room h =
    let newest = newest_commit course.lanes.main.commits in
    let count : length (map event_of (mark ∷ new)) ≡ length (mark ∷ new) = length-map (mark ∷ new) event_of in
    ap (λ n. a_board (course.entries ++ record { lane = Compositor; upto = course.compositor_made + 1; kind = kind.Send n } ∷ []) (in_mailbox course.lanes) (map event_of course.lanes.compositor.marks ++ map event_of (mark ∷ new)) (length course.lanes.main.heard) (queue_room - n) (room - 1)) count
    ∙ same_board (queue_room - length (mark ∷ new)) (room - 1) refl
    (ap (λ n. cond (newest.number == n) None (Some newest)) (sym h.pulled))
    (sym (map-append event_of course.lanes.compositor.marks (mark ∷ new)) ∙ ap (map event_of) (sym h.marks)) refl

-- ---- the compositor's side

pub activated-lane : (pending : Option Committed) (lane : CompositorLane) (left : List CompositorStep) → HasNew (after_activation pending (record lane { left = left })) lane (marks_of_pending pending lane)
activated-lane None lane left = record { marks = sym (append-nil lane.marks); pulled = refl }
activated-lane (Some pending) lane left = record { marks = refl; pulled = refl }

pub ticked-lane : (time : ℕ) (lane : CompositorLane) (left : List CompositorStep) → HasNew (after_tick time (record lane { left = left })) lane (marks_of_tick lane.active.tree lane.pending lane.marks time)
ticked-lane time lane left = record { marks = refl; pulled = refl }

-- the side after an activation: that of the lane after it
activated-side : (course : Course) (left : List CompositorStep) (last_tick models : ℕ) (pending : Option Committed) → compositor_after_send (record (activated (record (compositor_of course last_tick models) { pending = pending }) pending) { steps = course.compositor_made + 1 }) ≡ compositor_of (sent_next course (after_activation pending (record course.lanes.compositor { pending = pending; left = left })) (marks_of_pending pending course.lanes.compositor)) last_tick models
activated-side course left last_tick models None = refl
activated-side course left last_tick models (Some pending) = refl

turned : (course : Course) (step : CompositorStep) (left : List CompositorStep) (room queue_room last_tick models : ℕ) → IsRight course → compositor_turned step (board_of course room queue_room) (compositor_of course last_tick models) ≡ compositor_of (next_compositor course (step ∷ left)) (last_tick_after step last_tick) models
turned course Pull left room queue_room last_tick models right =
    let pending = course.lanes.compositor.pending in
    let pulled = course.lanes.compositor.pulled in
    let newest = newest_commit course.lanes.main.commits in
    ap (λ b. compositor_with_reply (cond b None (in_mailbox course.lanes)) (compositor_of course last_tick models)) (nothing-taken course right pending (takes pending pulled newest) refl)
    ∙ pull_side course left last_tick models (takes pending pulled newest) refl
turned course Activate left room queue_room last_tick models right = activated-side course left last_tick models course.lanes.compositor.pending
turned course (Tick time) left room queue_room last_tick models right = refl

pub compositor-turned : (course : Course) (step : CompositorStep) (left : List CompositorStep) (room queue_room last_tick models : ℕ) → course.lanes.compositor.left ≡ step ∷ left → IsRight course → compositor_turned step (board_of course room queue_room) (compositor_of course last_tick models) ≡ compositor_of (course_after course Compositor) (last_tick_after step last_tick) models
unfolding compositor_step
compositor-turned course step left room queue_room last_tick models is right =
    turned course step left room queue_room last_tick models right
    ∙ ap (λ steps. compositor_of (next_compositor course steps) (last_tick_after step last_tick) models) (sym is)

-- ---- the board

-- the room that a step of the compositor leaves, for entries and for events
abbrev pub room_after_compositor : CompositorStep → CompositorLane → ℕ → ℕ
room_after_compositor Pull lane room = room - 1
room_after_compositor Activate lane room = room_with (marks_of_step Activate lane) room
room_after_compositor (Tick time) lane room = room_with (marks_of_step (Tick time) lane) room

abbrev pub event_room_after : CompositorStep → CompositorLane → ℕ → ℕ
event_room_after step lane queue_room = queue_room - length (marks_of_step step lane)

-- the news of a side in this lane are the events of the new marks
pub news-of_side : (course : Course) (side : CompositorState) (lane : CompositorLane) (new : List Mark) → side.sent ≡ length course.lanes.compositor.marks → side.marks ≡ lane.marks → HasNew lane course.lanes.compositor new → news_of side ≡ map event_of new
news-of_side course side lane new sent marks h =
    ap (λ n. map event_of (drop n side.marks)) sent
    ∙ ap (λ m. map event_of (drop (length course.lanes.compositor.marks) m)) marks
    ∙ news-new course lane new h

-- the board once the side in this lane has told its news
pub board-told : (course : Course) (side : CompositorState) (lane : CompositorLane) (new : List Mark) (room queue_room : ℕ) → side.steps ≡ course.compositor_made + 1 → side.sent ≡ length course.lanes.compositor.marks → side.marks ≡ lane.marks → HasNew lane course.lanes.compositor new → board_told side (board_of course room queue_room) ≡ board_of (sent_next course lane new) (room_with new room) (queue_room - length new)
board-told course side lane new room queue_room steps sent marks h =
    let news = news-of_side course side lane new sent marks h in
    ap (λ n. board_with_news n (news_of side) (board_of course room queue_room)) steps
    ∙ ap (λ events. board_with_news (course.compositor_made + 1) events (board_of course room queue_room)) news
    ∙ told course lane new room queue_room h

-- the marks of the side after an activation
pub activated-marks : (course : Course) (left : List CompositorStep) (last_tick models : ℕ) (pending : Option Committed) → (activated (record (compositor_of course last_tick models) { pending = pending }) pending).marks ≡ (after_activation pending (record course.lanes.compositor { left = left })).marks
activated-marks course left last_tick models None = refl
activated-marks course left last_tick models (Some pending) = refl

pub activated-sent : (course : Course) (last_tick models : ℕ) (pending : Option Committed) → (activated (record (compositor_of course last_tick models) { pending = pending }) pending).sent ≡ length course.lanes.compositor.marks
activated-sent course last_tick models None = refl
activated-sent course last_tick models (Some pending) = refl

board-turned : (course : Course) (step : CompositorStep) (left : List CompositorStep) (room queue_room last_tick models : ℕ) → IsRight course → board_after_compositor step (compositor_of course last_tick models) (board_of course room queue_room) ≡ board_of (next_compositor course (step ∷ left)) (room_after_compositor step course.lanes.compositor room) (event_room_after step course.lanes.compositor queue_room)
board-turned course Pull left room queue_room last_tick models right =
    let lane = course.lanes.compositor in
    let none : queue_room ≡ queue_room - 0 = omega arith in
    let newest = newest_commit course.lanes.main.commits in
    ap (λ b. a_board (course.entries ++ record { lane = Compositor; upto = course.compositor_made + 1; kind = kind.Pull (cond b None (Some (published course.entries))) } ∷ []) (cond b (in_mailbox course.lanes) None) (map event_of lane.marks) (length course.lanes.main.heard) queue_room (room - 1)) (nothing-taken course right lane.pending (takes lane.pending lane.pulled newest) refl)
    ∙ pull_board course left (room - 1) queue_room (takes lane.pending lane.pulled newest) right refl
    ∙ ap (λ n. board_of (next_compositor course (Pull ∷ left)) (room - 1) n) none
board-turned course Activate left room queue_room last_tick models right =
    let lane = course.lanes.compositor in
    board-told course (compositor_after_activation (compositor_of course last_tick models)) (after_activation lane.pending (record lane { left = left })) (marks_of_pending lane.pending lane) room queue_room
    refl (activated-sent course last_tick models lane.pending) (activated-marks course left last_tick models lane.pending) (activated-lane lane.pending lane left)
board-turned course (Tick time) left room queue_room last_tick models right =
    let lane = course.lanes.compositor in
    board-told course (compositor_after_tick (compositor_of course last_tick models) time) (after_tick time (record lane { left = left })) (marks_of_tick lane.active.tree lane.pending lane.marks time) room queue_room
    refl refl refl (ticked-lane time lane left)

pub board-turned_compositor : (course : Course) (step : CompositorStep) (left : List CompositorStep) (room queue_room last_tick models : ℕ) → course.lanes.compositor.left ≡ step ∷ left → IsRight course → board_after_compositor step (compositor_of course last_tick models) (board_of course room queue_room) ≡ board_of (course_after course Compositor) (room_after_compositor step course.lanes.compositor room) (event_room_after step course.lanes.compositor queue_room)
unfolding compositor_step
board-turned_compositor course step left room queue_room last_tick models is right =
    board-turned course step left room queue_room last_tick models right
    ∙ ap (λ steps. board_of (next_compositor course steps) (room_after_compositor step course.lanes.compositor room) (event_room_after step course.lanes.compositor queue_room)) (sym is)

-- ---- the frames

frames-next : (course : Course) (step : CompositorStep) (left : List CompositorStep) (last_tick models : ℕ) → frames_with step (compositor_of course last_tick models) course.lanes.compositor.frames ≡ (next_compositor course (step ∷ left)).lanes.compositor.frames
frames-next course step left last_tick models =
    by_step (λ step. frames_with step (compositor_of course last_tick models) course.lanes.compositor.frames ≡ (next_compositor course (step ∷ left)).lanes.compositor.frames)
    (λ step quiet. undrawn step (quiet-time step quiet)) (undrawn Activate refl) (λ time. refl) step
  where
    undrawn : (step : CompositorStep) → time_of_tick step ≡ None → frames_with step (compositor_of course last_tick models) course.lanes.compositor.frames ≡ (next_compositor course (step ∷ left)).lanes.compositor.frames
    undrawn step none =
        ap (λ time. frames_with_tick time (compositor_of course last_tick models) course.lanes.compositor.frames) none
        ∙ sym (makes-frames course.lanes.main.commits step (record course.lanes.compositor { left = left }) none)

pub frames-turned : (course : Course) (step : CompositorStep) (left : List CompositorStep) (last_tick models : ℕ) → course.lanes.compositor.left ≡ step ∷ left → frames_with step (compositor_of course last_tick models) course.lanes.compositor.frames ≡ (course_after course Compositor).lanes.compositor.frames
unfolding compositor_step
frames-turned course step left last_tick models is =
    frames-next course step left last_tick models
    ∙ ap (λ steps. (next_compositor course steps).lanes.compositor.frames) (sym is)
