-- What main hears along a run.
use Rattle.std.proofs.Common.{◌≡◌, ℕ, ◌+◌, add-zero, add_assoc, List, [], ◌∷◌, ◌++◌, length, drop, map, refl, sym, ap, ◌∙◌, append_assoc}
use Rattle.std.specs.Prelude.{flat_map}
use Rattle.std.proofs.Math.Seq.{drop-append_seam}
use Rattle.std.proofs.lemmas.Grind.{flat_map-append}
use Rattle.std.proofs.lemmas.List.{append-nil, length-append, map-append}
use Rattle.anim_names.specs.declared.event.AnimEvent.{AnimEvent}
use Rattle.anim_names.specs.declared.lane.Lane.{Lane}
use Rattle.anim_names.specs.declared.lane.Lane.TheVariants.{Main, Compositor}
use Rattle.run_rules.specs.declared.mark.Mark.{Mark}
use Rattle.anim_names.specs.Lists.{BeginsWith}
use Rattle.run_laws.specs.Hearing.{HeardOnce, CountsAddUp, totals, batches, batch_of_step, batch_of_letter}
use Rattle.run_rules.specs.Marks.{event_of}
use Rattle.run_rules.specs.Scripts.{StepOfMain, EditStep, CommitStep, DrainStep, ScriptLists}
use Rattle.run_rules.specs.Runs.{Lanes, MainLane, beginning, after_letter, after, main_step, main_takes, after_drain, unheard_events, closing_report}
use Rattle.run_laws.proofs.WordLemmas.{letter_grows}

-- the batches, one behind the other
abbrev all_of : List (List AnimEvent) → List AnimEvent
all_of batches = flat_map (λ batch. batch) batches

-- What main has heard is where the events begin.
AreHeardFirst : List Mark → MainLane → Type 0
AreHeardFirst marks lane = BeginsWith (map event_of marks) lane.heard

-- Behind what was heard, the unheard events make up all.
heard-unheard : (marks : List Mark) (lane : MainLane) → AreHeardFirst marks lane → lane.heard ++ unheard_events marks lane ≡ map event_of marks
unfolding AreHeardFirst
heard-unheard marks lane (rest, e) =
    ap (λ events. lane.heard ++ drop (length lane.heard) events) e ∙ ap (λ events. lane.heard ++ events) (drop-append_seam lane.heard rest) ∙ sym e

-- what main has heard after a step is what it had heard and then the step's batch
takes_batch : (marks : List Mark) (left : List StepOfMain) (lane : MainLane) → (main_takes marks left lane).heard ≡ lane.heard ++ all_of (batch_of_step left (unheard_events marks lane))
unfolding after_drain
takes_batch marks [] lane = sym (append-nil lane.heard)
takes_batch marks (EditStep change ∷ left) lane = sym (append-nil lane.heard)
takes_batch marks (CommitStep ∷ left) lane = sym (append-nil lane.heard)
takes_batch marks (DrainStep ∷ left) lane = ap (λ events. lane.heard ++ events) (sym (append-nil (unheard_events marks lane)))

letter_batch : (lanes : Lanes) (letter : Lane) → (after_letter lanes letter).main.heard ≡ lanes.main.heard ++ all_of (batch_of_letter lanes letter)
unfolding main_step
letter_batch lanes Main = takes_batch lanes.compositor.marks lanes.main.left lanes.main
letter_batch lanes Compositor = sym (append-nil lanes.main.heard)

takes_first : (marks : List Mark) (left : List StepOfMain) (lane : MainLane) → AreHeardFirst marks lane → AreHeardFirst marks (main_takes marks left lane)
unfolding after_drain AreHeardFirst
takes_first marks [] lane h = h
takes_first marks (EditStep change ∷ left) lane h = h
takes_first marks (CommitStep ∷ left) lane h = h
takes_first marks (DrainStep ∷ left) lane h = ([], sym (append-nil _ ∙ heard-unheard marks lane h))

more_marks : (marks more : List Mark) (lane : MainLane) → AreHeardFirst marks lane → AreHeardFirst (marks ++ more) lane
unfolding AreHeardFirst
more_marks marks more lane (rest, e) =
    (rest ++ map event_of more, map-append event_of marks more ∙ ap (λ events. events ++ map event_of more) e ∙ append_assoc lane.heard rest (map event_of more))

letter_first : (lanes : Lanes) (letter : Lane) → AreHeardFirst lanes.compositor.marks lanes.main → AreHeardFirst (after_letter lanes letter).compositor.marks (after_letter lanes letter).main
unfolding main_step
letter_first lanes Main h = takes_first lanes.compositor.marks lanes.main.left lanes.main h
letter_first lanes Compositor h =
    let grown = letter_grows lanes Compositor in
    rw grown.1 (more_marks lanes.compositor.marks grown.0 lanes.main h)

-- What main has heard is where the events begin, after any word.
word_first : (lanes : Lanes) (word : List Lane) → AreHeardFirst lanes.compositor.marks lanes.main → AreHeardFirst (after lanes word).compositor.marks (after lanes word).main
unfolding after
word_first lanes [] h = h
word_first lanes (letter ∷ word) h = word_first (after_letter lanes letter) word (letter_first lanes letter h)

pub heard_first : (script : ScriptLists) (word : List Lane) → BeginsWith (map event_of (after (beginning script) word).compositor.marks) (after (beginning script) word).main.heard
unfolding AreHeardFirst
heard_first script word = word_first (beginning script) word ([], refl)

-- What was heard before a word, and then what its drains and the closing one hear, are the events after it.
word_batches : (lanes : Lanes) (word : List Lane) → AreHeardFirst lanes.compositor.marks lanes.main → lanes.main.heard ++ all_of (batches lanes word) ≡ map event_of (after lanes word).compositor.marks
unfolding after batches
word_batches lanes [] h = ap (λ events. lanes.main.heard ++ events) (append-nil _) ∙ heard-unheard lanes.compositor.marks lanes.main h
word_batches lanes (letter ∷ word) h =
    let later = word_batches (after_letter lanes letter) word (letter_first lanes letter h) in
    ap (λ events. lanes.main.heard ++ events) (flat_map-append (λ batch. batch) (batch_of_letter lanes letter) (batches (after_letter lanes letter) word))
    ∙ sym (append_assoc lanes.main.heard (all_of (batch_of_letter lanes letter)) (all_of (batches (after_letter lanes letter) word)))
    ∙ ap (λ events. events ++ all_of (batches (after_letter lanes letter) word)) (sym (letter_batch lanes letter))
    ∙ later

pub heard_once : (script : ScriptLists) (word : List Lane) → HeardOnce script word
unfolding closing_report AreHeardFirst
heard_once script word = word_batches (beginning script) word ([], refl)

-- ---- counts

totals-append : (before : ℕ) (xs ys : List (List AnimEvent)) → totals before (xs ++ ys) ≡ totals before xs ++ totals (before + length (all_of xs)) ys
totals-append before [] ys = ap (λ n. totals n ys) (sym (add-zero before))
totals-append before (x ∷ xs) ys =
    let shifted : (before + length x) + length (all_of xs) ≡ before + length (x ++ all_of xs) = rw length-append (add_assoc before (length x) (length (all_of xs))) in
    ap (λ l. (before + length x) ∷ l) (totals-append (before + length x) xs ys ∙ ap (λ n. totals (before + length x) xs ++ totals n ys) shifted)

takes_counts : (marks : List Mark) (left : List StepOfMain) (lane : MainLane) → (main_takes marks left lane).counts ≡ lane.counts ++ totals (length lane.heard) (batch_of_step left (unheard_events marks lane))
unfolding after_drain
takes_counts marks [] lane = sym (append-nil lane.counts)
takes_counts marks (EditStep change ∷ left) lane = sym (append-nil lane.counts)
takes_counts marks (CommitStep ∷ left) lane = sym (append-nil lane.counts)
takes_counts marks (DrainStep ∷ left) lane = ap (λ n. lane.counts ++ n ∷ []) (length-append lane.heard (unheard_events marks lane))

letter_counts : (lanes : Lanes) (letter : Lane) → (after_letter lanes letter).main.counts ≡ lanes.main.counts ++ totals (length lanes.main.heard) (batch_of_letter lanes letter)
unfolding main_step
letter_counts lanes Main = takes_counts lanes.compositor.marks lanes.main.left lanes.main
letter_counts lanes Compositor = sym (append-nil lanes.main.counts)

-- The counts before a word, and then those of its drains and of the closing one, are the counts after it.
word_counts : (lanes : Lanes) (word : List Lane) → (after_drain (after lanes word).compositor.marks (after lanes word).main).counts ≡ lanes.main.counts ++ totals (length lanes.main.heard) (batches lanes word)
unfolding after batches after_drain
word_counts lanes [] = ap (λ n. lanes.main.counts ++ n ∷ []) (length-append lanes.main.heard (unheard_events lanes.compositor.marks lanes.main))
word_counts lanes (letter ∷ word) =
    let heard = ap length (letter_batch lanes letter) ∙ length-append lanes.main.heard (all_of (batch_of_letter lanes letter)) in
    word_counts (after_letter lanes letter) word
    ∙ ap (λ n. (after_letter lanes letter).main.counts ++ totals n (batches (after_letter lanes letter) word)) heard
    ∙ ap (λ counts. counts ++ totals (length lanes.main.heard + length (all_of (batch_of_letter lanes letter))) (batches (after_letter lanes letter) word)) (letter_counts lanes letter)
    ∙ append_assoc lanes.main.counts (totals (length lanes.main.heard) (batch_of_letter lanes letter)) (totals (length lanes.main.heard + length (all_of (batch_of_letter lanes letter))) (batches (after_letter lanes letter) word))
    ∙ ap (λ counts. lanes.main.counts ++ counts) (sym (totals-append (length lanes.main.heard) (batch_of_letter lanes letter) (batches (after_letter lanes letter) word)))

pub counts_add_up : (script : ScriptLists) (word : List Lane) → CountsAddUp script word
unfolding closing_report
counts_add_up script word = word_counts (beginning script) word
