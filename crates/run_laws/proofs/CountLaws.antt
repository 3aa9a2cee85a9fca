-- How many steps each lane has made after a word, and what they have added.
use Rattle.std.proofs.Common.{◌≡◌, ℕ, ◌+◌, zero, suc, Bool, cond, List, [], ◌∷◌, ◌++◌, length, take, drop, map, refl, sym, ap, ◌∙◌, append_assoc, arith}
use Rattle.std.specs.Prelude.{count_by}
use Rattle.std.proofs.lemmas.List.{append-nil, length-append, map-append}
use Rattle.std.proofs.lemmas.List.Sums.{sum_by-cons, sum_by-take-drop}
use Rattle.anim_names.specs.declared.lane.Lane.{Lane}
use Rattle.anim_names.specs.declared.lane.Lane.TheVariants.{Main, Compositor}
use Rattle.anim_names.specs.Lanes.{is_lane, letters_of}
use Rattle.run_rules.specs.declared.mark.Mark.{Mark}
use Rattle.run_rules.specs.declared.compositor_step.CompositorStep.{CompositorStep}
use Rattle.tree_commit.specs.Trees.{Committed, next_commit}
use Rattle.run_rules.specs.Frames.{DrawnFrame, frame_at}
use Rattle.run_rules.specs.Scripts.{StepOfMain, EditStep, CommitStep, DrainStep, ScriptLists, IsWordOf, ticks_of}
use Rattle.run_rules.specs.Runs.{Lanes, MainLane, CompositorLane, beginning, after_letter, after, main_step, main_takes, after_drain, unheard_events, compositor_takes, compositor_step, closing_report, compositor_makes}
use Rattle.run_rules.proofs.StepLemmas.{quiet-keeps}
use Rattle.run_laws.specs.Words.{is_drain, IsComplete}
use Rattle.run_laws.specs.Growth.{is_commit, AreNumberedFrom, CommitsAreCounted}
use Rattle.run_laws.proofs.CompositorSteps.{activation-left, by_step, makes-left, quiet-time, ticks-left}

-- ---- steps that are left

abbrev tail : {A : Type 0} → List A → List A
tail [] = []
tail (x ∷ xs) = xs

drop-nil : {A : Type 0} (n : ℕ) → drop {A = A} n [] ≡ []
drop-nil zero = refl
drop-nil (suc n) = refl

drop-tail : {A : Type 0} (n m : ℕ) (xs : List A) → m ≡ suc n → drop m xs ≡ drop n (tail xs)
drop-tail n m [] e = drop-nil m ∙ sym (drop-nil n)
drop-tail n m (x ∷ xs) e = ap (λ k. drop k (x ∷ xs)) e

drop-whole : {A : Type 0} (xs : List A) → drop (length xs) xs ≡ []
drop-whole [] = refl
drop-whole (x ∷ xs) = drop-whole xs

letters-own : (lane : Lane) (word : List Lane) → letters_of lane (lane ∷ word) ≡ suc (letters_of lane word)
letters-own Main word =
    let counted : letters_of Main (Main ∷ word) ≡ 1 + letters_of Main word = sum_by-cons (λ x. cond (is_lane Main x) 1 0) Main word in
    omega (arith, counted)
letters-own Compositor word =
    let counted : letters_of Compositor (Compositor ∷ word) ≡ 1 + letters_of Compositor word = sum_by-cons (λ x. cond (is_lane Compositor x) 1 0) Compositor word in
    omega (arith, counted)

letters-main : (word : List Lane) → letters_of Main (Compositor ∷ word) ≡ letters_of Main word
letters-main word =
    let counted : letters_of Main (Compositor ∷ word) ≡ 0 + letters_of Main word = sum_by-cons (λ x. cond (is_lane Main x) 1 0) Compositor word in
    omega (arith, counted)

letters-compositor : (word : List Lane) → letters_of Compositor (Main ∷ word) ≡ letters_of Compositor word
letters-compositor word =
    let counted : letters_of Compositor (Main ∷ word) ≡ 0 + letters_of Compositor word = sum_by-cons (λ x. cond (is_lane Compositor x) 1 0) Main word in
    omega (arith, counted)

-- ---- main's lane

main_takes-left : (marks : List Mark) (left : List StepOfMain) (lane : MainLane) → lane.left ≡ left → (main_takes marks left lane).left ≡ tail left
unfolding after_drain
main_takes-left marks [] lane e = e
main_takes-left marks (EditStep change ∷ left) lane e = refl
main_takes-left marks (CommitStep ∷ left) lane e = refl
main_takes-left marks (DrainStep ∷ left) lane e = refl

pub main-left : (lanes : Lanes) (word : List Lane) → (after lanes word).main.left ≡ drop (letters_of Main word) lanes.main.left
unfolding after main_step
main-left lanes [] = refl
main-left lanes (Main ∷ word) =
    main-left (after_letter lanes Main) word
    ∙ ap (λ left. drop (letters_of Main word) left) (main_takes-left lanes.compositor.marks lanes.main.left lanes.main refl)
    ∙ sym (drop-tail (letters_of Main word) (letters_of Main (Main ∷ word)) lanes.main.left (letters-own Main word))
main-left lanes (Compositor ∷ word) =
    main-left (after_letter lanes Compositor) word ∙ ap (λ n. drop n lanes.main.left) (sym (letters-main word))

-- what a step adds to a count and takes from what is left makes no difference to both together
count-step : (p : StepOfMain → Bool) (step : StepOfMain) (left : List StepOfMain) → count_by p (step ∷ left) ≡ cond (p step) 1 0 + count_by p left
count-step p step left = sum_by-cons (λ x. cond (p x) 1 0) step left

main_takes-drains : (marks : List Mark) (left : List StepOfMain) (lane : MainLane) → lane.left ≡ left → length (main_takes marks left lane).counts + count_by is_drain (main_takes marks left lane).left ≡ length lane.counts + count_by is_drain left
unfolding after_drain
main_takes-drains marks [] lane e = ap (λ left. length lane.counts + count_by is_drain left) e
main_takes-drains marks (EditStep change ∷ left) lane e = omega (arith, count-step is_drain (EditStep change) left)
main_takes-drains marks (CommitStep ∷ left) lane e = omega (arith, count-step is_drain CommitStep left)
main_takes-drains marks (DrainStep ∷ left) lane e =
    omega (arith, count-step is_drain DrainStep left, length-append lane.counts (length (lane.heard ++ unheard_events marks lane) ∷ []))

main_takes-commits : (marks : List Mark) (left : List StepOfMain) (lane : MainLane) → lane.left ≡ left → length (main_takes marks left lane).commits + count_by is_commit (main_takes marks left lane).left ≡ length lane.commits + count_by is_commit left
unfolding after_drain
main_takes-commits marks [] lane e = ap (λ left. length lane.commits + count_by is_commit left) e
main_takes-commits marks (EditStep change ∷ left) lane e = omega (arith, count-step is_commit (EditStep change) left)
main_takes-commits marks (CommitStep ∷ left) lane e =
    omega (arith, count-step is_commit CommitStep left, length-append lane.commits (next_commit (length lane.commits) lane.tree ∷ []))
main_takes-commits marks (DrainStep ∷ left) lane e = omega (arith, count-step is_commit DrainStep left)

word-drains : (lanes : Lanes) (word : List Lane) → length (after lanes word).main.counts + count_by is_drain (after lanes word).main.left ≡ length lanes.main.counts + count_by is_drain lanes.main.left
unfolding after main_step
word-drains lanes [] = refl
word-drains lanes (Main ∷ word) = word-drains (after_letter lanes Main) word ∙ main_takes-drains lanes.compositor.marks lanes.main.left lanes.main refl
word-drains lanes (Compositor ∷ word) = word-drains (after_letter lanes Compositor) word

word-commits : (lanes : Lanes) (word : List Lane) → length (after lanes word).main.commits + count_by is_commit (after lanes word).main.left ≡ length lanes.main.commits + count_by is_commit lanes.main.left
unfolding after main_step
word-commits lanes [] = refl
word-commits lanes (Main ∷ word) = word-commits (after_letter lanes Main) word ∙ main_takes-commits lanes.compositor.marks lanes.main.left lanes.main refl
word-commits lanes (Compositor ∷ word) = word-commits (after_letter lanes Compositor) word

-- ---- numbers of commits

numbered-last : (n : ℕ) (commits : List Committed) (commit : Committed) → AreNumberedFrom n commits → commit.number ≡ length commits + n → AreNumberedFrom n (commits ++ commit ∷ [])
numbered-last n [] commit h e = (omega (arith, e), tt)
numbered-last n (one ∷ commits) commit h e = (h.0, numbered-last (n + 1) commits commit h.1 (omega (arith, e)))

main_takes-numbers : (marks : List Mark) (left : List StepOfMain) (lane : MainLane) → AreNumberedFrom 1 lane.commits → AreNumberedFrom 1 (main_takes marks left lane).commits
unfolding after_drain
main_takes-numbers marks [] lane h = h
main_takes-numbers marks (EditStep change ∷ left) lane h = h
main_takes-numbers marks (CommitStep ∷ left) lane h = numbered-last 1 lane.commits (next_commit (length lane.commits) lane.tree) h refl
main_takes-numbers marks (DrainStep ∷ left) lane h = h

word-numbers : (lanes : Lanes) (word : List Lane) → AreNumberedFrom 1 lanes.main.commits → AreNumberedFrom 1 (after lanes word).main.commits
unfolding after main_step
word-numbers lanes [] h = h
word-numbers lanes (Main ∷ word) h = word-numbers (after_letter lanes Main) word (main_takes-numbers lanes.compositor.marks lanes.main.left lanes.main h)
word-numbers lanes (Compositor ∷ word) h = word-numbers (after_letter lanes Compositor) word h

pub commits_are_counted : (script : ScriptLists) (word : List Lane) → CommitsAreCounted script word
commits_are_counted script word =
    let both = word-commits (beginning script) word in
    let left = ap (count_by is_commit) (main-left (beginning script) word) in
    let parts : count_by is_commit (take (letters_of Main word) script.main) + count_by is_commit (drop (letters_of Main word) script.main) ≡ count_by is_commit script.main =
    sum_by-take-drop (λ x. cond (is_commit x) 1 0) script.main (letters_of Main word) in
    record {
      numbers = word-numbers (beginning script) word tt;
      count = omega (arith, both, left, parts);
    }

-- ---- the compositor's lane

takes-left : (commits : List Committed) (left : List CompositorStep) (lane : CompositorLane) → lane.left ≡ left → (compositor_takes commits left lane).left ≡ tail left
takes-left commits [] lane e = e
takes-left commits (step ∷ left) lane e = makes-left commits step (record lane { left = left })

pub compositor-left : (lanes : Lanes) (word : List Lane) → (after lanes word).compositor.left ≡ drop (letters_of Compositor word) lanes.compositor.left
unfolding after compositor_step
compositor-left lanes [] = refl
compositor-left lanes (Compositor ∷ word) =
    compositor-left (after_letter lanes Compositor) word
    ∙ ap (λ left. drop (letters_of Compositor word) left) (takes-left lanes.main.commits lanes.compositor.left lanes.compositor refl)
    ∙ sym (drop-tail (letters_of Compositor word) (letters_of Compositor (Compositor ∷ word)) lanes.compositor.left (letters-own Compositor word))
compositor-left lanes (Main ∷ word) =
    compositor-left (after_letter lanes Main) word ∙ ap (λ n. drop n lanes.compositor.left) (sym (letters-compositor word))

-- the times of the frames drawn, and then of the ticks that are left
times : List DrawnFrame → List CompositorStep → List ℕ
times frames left = map (λ frame. frame.time) frames ++ ticks_of left

takes-times : (commits : List Committed) (left : List CompositorStep) (lane : CompositorLane) → lane.left ≡ left → times (compositor_takes commits left lane).frames (tail left) ≡ times lane.frames left
unfolding times frame_at
takes-times commits [] lane e = refl
takes-times commits (step ∷ left) lane e =
    by_step (λ step. map (λ frame. frame.time) (compositor_makes commits step (record lane { left = left })).frames ++ ticks_of left ≡ map (λ frame. frame.time) lane.frames ++ ticks_of (step ∷ left))
    (λ step quiet. rw (quiet-keeps commits step (record lane { left = left }) quiet).frames (ap (λ ticks. map (λ frame. frame.time) lane.frames ++ ticks) (sym (ticks-left step left (quiet-time step quiet)))))
    (ap (λ frames. map (λ frame. frame.time) frames ++ ticks_of left) (activation-left lane.pending (record lane { left = left })).1)
    (λ time. ap (λ times. times ++ ticks_of left) (map-append (λ frame. frame.time) lane.frames _)
    ∙ append_assoc (map (λ frame. frame.time) lane.frames) (time ∷ []) (ticks_of left)) step

word-times : (lanes : Lanes) (word : List Lane) → times (after lanes word).compositor.frames (after lanes word).compositor.left ≡ times lanes.compositor.frames lanes.compositor.left
unfolding after compositor_step
word-times lanes [] = refl
word-times lanes (Compositor ∷ word) =
    word-times (after_letter lanes Compositor) word
    ∙ ap (λ left. times (compositor_takes lanes.main.commits lanes.compositor.left lanes.compositor).frames left) (takes-left lanes.main.commits lanes.compositor.left lanes.compositor refl)
    ∙ takes-times lanes.main.commits lanes.compositor.left lanes.compositor refl
word-times lanes (Main ∷ word) = word-times (after_letter lanes Main) word

-- ---- whole words

pub whole_words_end : (script : ScriptLists) (word : List Lane) → IsWordOf (length script.main) (length script.compositor) word → IsComplete script word
unfolding closing_report after_drain times
whole_words_end script word h =
    let main : (after (beginning script) word).main.left ≡ [] = main-left (beginning script) word ∙ ap (λ n. drop n script.main) h.of_main ∙ drop-whole script.main in
    let compositor : (after (beginning script) word).compositor.left ≡ [] = compositor-left (beginning script) word ∙ ap (λ n. drop n script.compositor) h.of_compositor ∙ drop-whole script.compositor in
    let counted = word-drains (beginning script) word in
    let none : count_by is_drain (after (beginning script) word).main.left ≡ 0 = ap (count_by is_drain) main in
    record {
      main = main;
      compositor = compositor;
      frames =
          sym (append-nil (map (λ frame. frame.time) (after (beginning script) word).compositor.frames))
          ∙ ap (λ left. map (λ frame. frame.time) (after (beginning script) word).compositor.frames ++ ticks_of left) (sym compositor)
          ∙ word-times (beginning script) word;
      counts = omega (arith, length-append (after (beginning script) word).main.counts (length ((after (beginning script) word).main.heard ++ unheard_events (after (beginning script) word).compositor.marks (after (beginning script) word).main) ∷ []), counted, none);
    }
