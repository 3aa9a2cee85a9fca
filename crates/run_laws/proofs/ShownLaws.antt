-- Which commits were committed, pulled, activated and shown along a word.
use Rattle.std.proofs.Common.{◌≡◌, ℕ, ◌<◌, Bool, true, false, ◌&&◌, cond, nat_lt, Option, Some, None, List, [], ◌∷◌, ◌++◌, length, refl, sym, ap, ◌∙◌, subst, ◌⊎◌, inl, inr, append_assoc, arith}
use Rattle.std.specs.Prelude.{IsTrue, IfSome, IsSomeAnd, is_none}
use Rattle.std.proofs.lemmas.Bool.{false≢true, and_parts, ltb-true, eqb-true}
use Rattle.std.proofs.lemmas.List.{append-nil}
use Rattle.anim_names.specs.declared.lane.Lane.{Lane}
use Rattle.anim_names.specs.declared.lane.Lane.TheVariants.{Main, Compositor}
use Rattle.anim_names.specs.Lists.{BeginsWith, IsAmong}
use Rattle.run_rules.specs.declared.mark.Mark.{Mark}
use Rattle.run_rules.specs.declared.mark.Mark.TheVariants.{OfModel}
use Rattle.run_rules.specs.declared.compositor_step.CompositorStep.{CompositorStep}
use Rattle.run_rules.specs.declared.compositor_step.CompositorStep.TheVariants.{Pull, Activate, Tick}
use Rattle.tree_commit.specs.Trees.{Committed, empty_commit, next_commit, has_model, TreeLists}
use Rattle.run_rules.specs.Marks.{is_about, of_model}
use Rattle.run_rules.specs.Frames.{DrawnFrame, frame_at}
use Rattle.run_rules.specs.Scripts.{ScriptLists, StepOfMain, EditStep, CommitStep, DrainStep}
use Rattle.run_rules.specs.Runs.{Lanes, MainLane, CompositorLane, beginning, after_letter, after, main_takes, main_step, after_drain, newest_commit, with_pending, after_activation, compositor_takes, compositor_step}
use Rattle.run_laws.specs.Steps.{new_marks}
use Rattle.run_laws.specs.Shown.{lanes_at, WasCommitted, WasPulled, WasActivated, ShowsActivated, AllShowActivated, IsSkipped, SkippedIsSilent}
use Rattle.tree_commit.proofs.Among.{among-append_left, among-append_cases}
use Rattle.run_laws.proofs.RunFits.{newest-among}
use Rattle.run_laws.proofs.BookLaws.{commits_only_grow}
use Rattle.run_laws.proofs.GroupLaws.{marked_are_active}
use Rattle.run_laws.proofs.StepLemmas.{new-split}
use Rattle.run_laws.proofs.WordLemmas.{after-append, goes_on_same, goes_on_trans}

-- ---- letter by letter

-- what is so of the empty word, and of each word with one more letter, is so of each word
pub along_words : (P : List Lane → Type 0) → P [] → ((word : List Lane) (letter : Lane) → P word → P (word ++ letter ∷ [])) → (word : List Lane) → P word
along_words P none more word = go [] word none
  where
    go : (front word : List Lane) → P front → P (front ++ word)
    go front [] h = subst P (sym (append-nil front)) h
    go front (letter ∷ word) h = subst P (append_assoc front (letter ∷ []) word) (go (front ++ letter ∷ []) word (more front letter h))

pub at_next : (script : ScriptLists) (front : List Lane) (letter : Lane) → lanes_at script (front ++ letter ∷ []) ≡ after_letter (lanes_at script front) letter
unfolding after
at_next script front letter = after-append (beginning script) front (letter ∷ [])

-- ---- longer words

longer-committed : (script : ScriptLists) (commit : Committed) (word more : List Lane) → WasCommitted script commit word → WasCommitted script commit (word ++ more)
longer-committed script commit word more h = record {
  front = h.front;
  step = goes_on_trans _ _ _ h.step (more, refl);
  number = h.number;
  made = h.made;
}

longer-pulled : (script : ScriptLists) (commit : Committed) (word more : List Lane) → WasPulled script commit word → WasPulled script commit (word ++ more)
longer-pulled script commit word more h = record {
  front = h.front;
  step = goes_on_trans _ _ _ h.step (more, refl);
  committed = h.committed;
  free = h.free;
  pulled = h.pulled;
}

longer-activated : (script : ScriptLists) (commit : Committed) (word more : List Lane) → WasActivated script commit word → WasActivated script commit (word ++ more)
longer-activated script commit word more h = record {
  front = h.front;
  step = goes_on_trans _ _ _ h.step (more, refl);
  pulled = h.pulled;
  pending = h.pending;
  activated = h.activated;
}

longer-shown : (script : ScriptLists) (frame : DrawnFrame) (word more : List Lane) → ShowsActivated script frame word → ShowsActivated script frame (word ++ more)
longer-shown script frame word more h = record {
  front = h.front;
  step = goes_on_trans _ _ _ h.step (more, refl);
  drawn = h.drawn;
  shown = h.shown;
}

-- ---- where each commit has been

record MainHasBeen (script : ScriptLists) (word : List Lane) (lane : MainLane) : Type 0 where
  committed : (commit : Committed) → IsAmong commit lane.commits → WasCommitted script commit word

record CompositorHasBeen (script : ScriptLists) (word : List Lane) (lane : CompositorLane) : Type 0 where
  pending : IfSome lane.pending (λ commit. WasPulled script commit word)
  active : (lane.active ≡ empty_commit) ⊎ WasActivated script lane.active word
  frames : (frame : DrawnFrame) → IsAmong frame lane.frames → ShowsActivated script frame word

record HaveBeen (script : ScriptLists) (word : List Lane) (lanes : Lanes) : Type 0 where
  main : MainHasBeen script word lanes.main
  compositor : CompositorHasBeen script word lanes.compositor

longer-main : (script : ScriptLists) (word more : List Lane) (lane : MainLane) → MainHasBeen script word lane → MainHasBeen script (word ++ more) lane
longer-main script word more lane h = record { committed = λ commit a. longer-committed script commit word more (h.committed commit a) }

longer-pending : (script : ScriptLists) (word more : List Lane) (pending : Option Committed) → IfSome pending (λ commit. WasPulled script commit word) → IfSome pending (λ commit. WasPulled script commit (word ++ more))
longer-pending script word more None h = tt
longer-pending script word more (Some commit) h = longer-pulled script commit word more h

longer-active : (script : ScriptLists) (word more : List Lane) (active : Committed) → (active ≡ empty_commit) ⊎ WasActivated script active word → (active ≡ empty_commit) ⊎ WasActivated script active (word ++ more)
longer-active script word more active (inl e) = inl e
longer-active script word more active (inr h) = inr (longer-activated script active word more h)

longer-compositor : (script : ScriptLists) (word more : List Lane) (lane : CompositorLane) → CompositorHasBeen script word lane → CompositorHasBeen script (word ++ more) lane
longer-compositor script word more lane h = record {
  pending = longer-pending script word more lane.pending h.pending;
  active = longer-active script word more lane.active h.active;
  frames = λ frame a. longer-shown script frame word more (h.frames frame a);
}

-- ---- a step of main

takes-cases : (marks : List Mark) (left : List StepOfMain) (lane : MainLane) (commit : Committed) → IsAmong commit (main_takes marks left lane).commits → IsAmong commit lane.commits ⊎ (commit ≡ next_commit (length lane.commits) lane.tree)
unfolding after_drain
takes-cases marks [] lane commit a = inl a
takes-cases marks (EditStep change ∷ left) lane commit a = inl a
takes-cases marks (CommitStep ∷ left) lane commit a = go (among-append_cases commit lane.commits (next_commit (length lane.commits) lane.tree ∷ []) a)
  where
    go : IsAmong commit lane.commits ⊎ IsAmong commit (next_commit (length lane.commits) lane.tree ∷ []) → IsAmong commit lane.commits ⊎ (commit ≡ next_commit (length lane.commits) lane.tree)
    go (inl h) = inl h
    go (inr (inl e)) = inr e
    go (inr (inr h)) = absurd h
takes-cases marks (DrainStep ∷ left) lane commit a = inl a

main_has_been : (script : ScriptLists) (word : List Lane) → HaveBeen script word (lanes_at script word) → MainHasBeen script (word ++ Main ∷ []) (after_letter (lanes_at script word) Main).main
unfolding main_step
main_has_been script word h = record {
  committed = λ commit a. go commit a (takes-cases lanes.compositor.marks lanes.main.left lanes.main commit a);
}
  where
    lanes : Lanes
    lanes = lanes_at script word

    go : (commit : Committed) → IsAmong commit (after_letter lanes Main).main.commits → IsAmong commit lanes.main.commits ⊎ (commit ≡ next_commit (length lanes.main.commits) lanes.main.tree) → WasCommitted script commit (word ++ Main ∷ [])
    go commit a (inl old) = longer-committed script commit word (Main ∷ []) (h.main.committed commit old)
    go commit a (inr new) = record {
      front = word;
      step = goes_on_same (word ++ Main ∷ []);
      number = ap (λ c. c.number) (sym new);
      made = subst (λ lanes. IsAmong commit lanes.main.commits) (sym (at_next script word Main)) a;
    }

-- ---- a step of the compositor

pub none_of : (pending : Option Committed) → is_none pending ≡ true → pending ≡ None
none_of None h = refl
none_of (Some commit) h = absurd (false≢true h)

pull_been : (script : ScriptLists) (word : List Lane) (newest : Committed) (lane : CompositorLane) → CompositorHasBeen script word lane → lane.pending ≡ (lanes_at script word).compositor.pending → (lane.pulled < newest.number → WasCommitted script newest word) → (taken : Bool) → (is_none lane.pending && nat_lt lane.pulled newest.number) ≡ taken → (lanes_at script (word ++ Compositor ∷ [])).compositor ≡ cond taken (with_pending newest lane) lane → CompositorHasBeen script (word ++ Compositor ∷ []) (cond taken (with_pending newest lane) lane)
pull_been script word newest lane h same made true e is =
    let parts = and_parts (is_none lane.pending) _ e in
    let longer = longer-compositor script word (Compositor ∷ []) lane h in
    record {
      pending = record {
        front = word;
        step = goes_on_same (word ++ Compositor ∷ []);
        committed = made (ltb-true lane.pulled newest.number parts.1);
        free = sym same ∙ none_of lane.pending parts.0;
        pulled = ap (λ l. l.pending) is;
      };
      active = longer.active;
      frames = longer.frames;
    }
pull_been script word newest lane h same made false e is = longer-compositor script word (Compositor ∷ []) lane h

activate_been : (script : ScriptLists) (word : List Lane) (pending : Option Committed) (lane : CompositorLane) → CompositorHasBeen script word lane → lane.pending ≡ pending → lane.pending ≡ (lanes_at script word).compositor.pending → (lanes_at script (word ++ Compositor ∷ [])).compositor ≡ after_activation pending lane → CompositorHasBeen script (word ++ Compositor ∷ []) (after_activation pending lane)
activate_been script word None lane h e same is = longer-compositor script word (Compositor ∷ []) lane h
activate_been script word (Some commit) lane h e same is = record {
  pending = tt;
  active = inr (record {
    front = word;
    step = goes_on_same (word ++ Compositor ∷ []);
    pulled = subst (λ p. IfSome p (λ commit. WasPulled script commit word)) e h.pending;
    pending = sym same ∙ e;
    activated = ap (λ l. l.active) is;
  });
  frames = λ frame a. longer-shown script frame word (Compositor ∷ []) (h.frames frame a);
}

frame_been : (script : ScriptLists) (word : List Lane) (lane after : CompositorLane) (frame : DrawnFrame) → CompositorHasBeen script word lane → lane.frames ≡ (lanes_at script word).compositor.frames → frame.commit ≡ lane.active.number → after.frames ≡ lane.frames ++ frame ∷ [] → (lanes_at script (word ++ Compositor ∷ [])).compositor.frames ≡ after.frames → (one : DrawnFrame) → IsAmong one after.frames → ShowsActivated script one (word ++ Compositor ∷ [])
frame_been script word lane after frame h same shows grown is one a = go (among-append_cases one lane.frames (frame ∷ []) (subst (λ frames. IsAmong one frames) grown a))
  where
    shown : (lane.active ≡ empty_commit) ⊎ WasActivated script lane.active word → (frame.commit ≡ 0) ⊎ ((commit : Committed) × (frame.commit ≡ commit.number) × WasActivated script commit word)
    shown (inl e) = inl (shows ∙ ap (λ c. c.number) e)
    shown (inr active) = inr (lane.active, shows, active)

    new : ShowsActivated script frame (word ++ Compositor ∷ [])
    new = record {
      front = word;
      step = goes_on_same (word ++ Compositor ∷ []);
      drawn = is ∙ grown ∙ ap (λ frames. frames ++ frame ∷ []) same;
      shown = shown h.active;
    }

    go : IsAmong one lane.frames ⊎ IsAmong one (frame ∷ []) → ShowsActivated script one (word ++ Compositor ∷ [])
    go (inl old) = longer-shown script one word (Compositor ∷ []) (h.frames one old)
    go (inr (inl e)) = subst (λ f. ShowsActivated script f (word ++ Compositor ∷ [])) (sym e) new
    go (inr (inr b)) = absurd b

left_been : (script : ScriptLists) (word : List Lane) (lane : CompositorLane) (left : List CompositorStep) → CompositorHasBeen script word lane → CompositorHasBeen script word (record lane { left = left })
left_been script word lane left h = record { pending = h.pending; active = h.active; frames = h.frames }

takes_been : (script : ScriptLists) (word : List Lane) (left : List CompositorStep) → HaveBeen script word (lanes_at script word) → (lanes_at script (word ++ Compositor ∷ [])).compositor ≡ compositor_takes (lanes_at script word).main.commits left (lanes_at script word).compositor → CompositorHasBeen script (word ++ Compositor ∷ []) (compositor_takes (lanes_at script word).main.commits left (lanes_at script word).compositor)
unfolding frame_at
takes_been script word [] h is = longer-compositor script word (Compositor ∷ []) (lanes_at script word).compositor h.compositor
takes_been script word (Pull ∷ left) h is =
    let lanes = lanes_at script word in
    pull_been script word (newest_commit lanes.main.commits) (record lanes.compositor { left = left }) (left_been script word lanes.compositor left h.compositor) refl
    (λ later. h.main.committed (newest_commit lanes.main.commits) (newest-among lanes.main.commits lanes.compositor.pulled later)) _ refl is
takes_been script word (Activate ∷ left) h is =
    activate_been script word (lanes_at script word).compositor.pending (record (lanes_at script word).compositor { left = left }) (left_been script word (lanes_at script word).compositor left h.compositor) refl refl is
takes_been script word (Tick time ∷ left) h is =
    let lane : CompositorLane = (lanes_at script word).compositor in
    let longer = longer-compositor script word (Compositor ∷ []) lane h.compositor in
    record {
      pending = longer.pending;
      active = longer.active;
      frames = frame_been script word lane (compositor_takes (lanes_at script word).main.commits (Tick time ∷ left) lane) _ h.compositor refl refl refl (ap (λ l. l.frames) is);
    }

have_been-next : (script : ScriptLists) (word : List Lane) (letter : Lane) → HaveBeen script word (lanes_at script word) → HaveBeen script (word ++ letter ∷ []) (lanes_at script (word ++ letter ∷ []))
unfolding compositor_step
have_been-next script word Main h = subst (λ lanes. HaveBeen script (word ++ Main ∷ []) lanes) (sym (at_next script word Main)) (record {
  main = main_has_been script word h;
  compositor = longer-compositor script word (Main ∷ []) (lanes_at script word).compositor h.compositor;
})
have_been-next script word Compositor h = subst (λ lanes. HaveBeen script (word ++ Compositor ∷ []) lanes) (sym (at_next script word Compositor)) (record {
  main = longer-main script word (Compositor ∷ []) (lanes_at script word).main h.main;
  compositor = takes_been script word (lanes_at script word).compositor.left h (ap (λ lanes. lanes.compositor) (at_next script word Compositor));
})

have_been : (script : ScriptLists) (word : List Lane) → HaveBeen script word (lanes_at script word)
unfolding after
have_been script word = along_words (λ word. HaveBeen script word (lanes_at script word)) first (λ word letter h. have_been-next script word letter h) word
  where
    first : HaveBeen script [] (beginning script)
    first = record {
      main = record { committed = λ commit a. absurd a };
      compositor = record { pending = tt; active = inl refl; frames = λ frame a. absurd a };
    }

pub all_show_activated : (script : ScriptLists) (word : List Lane) → AllShowActivated script word
all_show_activated script word = (have_been script word).compositor.frames

-- ---- commits that no pull took

begins_longer : (front : List Lane) (letter : Lane) → BeginsWith (front ++ letter ∷ []) front
begins_longer front letter = (letter ∷ [], refl)

-- a commit that was activated in a word was pending in it
was_pending : (script : ScriptLists) (word : List Lane) (commit : Committed) → WasActivated script commit word → IsSkipped script word commit.number → ⊥
was_pending script word commit h skipped =
    skipped (h.pulled.front ++ Compositor ∷ []) (goes_on_trans _ _ _ h.pulled.step (goes_on_trans _ _ _ (begins_longer h.front Compositor) h.step))
    (subst (λ p. IsSomeAnd p (λ c. c.number ≡ commit.number)) (sym h.pulled.pulled) refl)

skipped_longer : (script : ScriptLists) (front word : List Lane) (number : ℕ) → BeginsWith word front → IsSkipped script word number → IsSkipped script front number
skipped_longer script front word number longer skipped earlier begins = skipped earlier (goes_on_trans _ _ _ begins longer)

frames_silent : (script : ScriptLists) (word : List Lane) (number : ℕ) → 0 < number → IsSkipped script word number → (frame : DrawnFrame) → IsAmong frame (lanes_at script word).compositor.frames → frame.commit ≡ number → ⊥
frames_silent script word number some skipped frame a same = go shown.shown
  where
    shown : ShowsActivated script frame word
    shown = all_show_activated script word frame a

    longer : BeginsWith word shown.front
    longer = goes_on_trans _ _ _ (begins_longer shown.front Compositor) shown.step

    go : (frame.commit ≡ 0) ⊎ ((commit : Committed) × (frame.commit ≡ commit.number) × WasActivated script commit shown.front) → ⊥
    go (inl none) = omega (arith, none, same, some)
    go (inr (commit, e, activated)) =
        was_pending script shown.front commit activated (skipped_longer script shown.front word commit.number longer (subst (λ n. IsSkipped script word n) (sym same ∙ e) skipped))

-- ---- whose marks there are

-- each mark is of a model that was in an active commit
record WasActive (script : ScriptLists) (word : List Lane) (mark : Mark) : Type 0 where
  front : List Lane
  begins : BeginsWith word front
  there : of_model (λ model what. has_model (lanes_at script front).compositor.active.tree model) mark ≡ true

was_active : (script : ScriptLists) (word : List Lane) → (mark : Mark) → IsAmong mark (lanes_at script word).compositor.marks → WasActive script word mark
unfolding after
was_active script word = along_words (λ word. (mark : Mark) → IsAmong mark (lanes_at script word).compositor.marks → WasActive script word mark) (λ mark a. absurd a) next word
  where
    next : (word : List Lane) (letter : Lane) → ((mark : Mark) → IsAmong mark (lanes_at script word).compositor.marks → WasActive script word mark) → (mark : Mark) → IsAmong mark (lanes_at script (word ++ letter ∷ [])).compositor.marks → WasActive script (word ++ letter ∷ []) mark
    next word letter h mark a = go (among-append_cases mark (lanes_at script word).compositor.marks _ (subst (λ marks. IsAmong mark marks) (ap (λ lanes. lanes.compositor.marks) (at_next script word letter) ∙ new-split (lanes_at script word) letter) a))
      where
        go : IsAmong mark (lanes_at script word).compositor.marks ⊎ IsAmong mark (new_marks (lanes_at script word) letter) → WasActive script (word ++ letter ∷ []) mark
        go (inl old) =
            let found = h mark old in
            record { front = found.front; begins = goes_on_trans _ _ _ found.begins (begins_longer word letter); there = found.there }
        go (inr new) = record {
          front = word;
          begins = begins_longer word letter;
          there = marked_are_active (lanes_at script word) letter mark new;
        }

-- a commit stays among main's
commit_stays : (script : ScriptLists) (front word : List Lane) (commit : Committed) → BeginsWith word front → IsAmong commit (lanes_at script front).main.commits → IsAmong commit (lanes_at script word).main.commits
commit_stays script front word commit (more, e) a =
    let grown = commits_only_grow (lanes_at script front) more in
    let there = subst (λ commits. IsAmong commit commits) (sym grown.1) (among-append_left commit (lanes_at script front).main.commits grown.0 a) in
    subst (λ lanes. IsAmong commit lanes.main.commits) (sym (ap (after (beginning script)) e ∙ after-append (beginning script) front more)) there

-- the model that a mark is about is in a tree where that of the mark is
there_about : (tree : TreeLists) (id : ℕ) (mark : Mark) → is_about id mark ≡ true → of_model (λ model what. has_model tree model) mark ≡ true → has_model tree id ≡ true
there_about tree id (OfModel model what) same there = subst (λ i. has_model tree i ≡ true) (sym (eqb-true id model same)) there

events_silent : (script : ScriptLists) (word : List Lane) (id : ℕ) → ((commit : Committed) → IsAmong commit (lanes_at script word).main.commits → IsTrue (has_model commit.tree id) → IsSkipped script word commit.number) → (mark : Mark) → IsAmong mark (lanes_at script word).compositor.marks → IsTrue (is_about id mark) → ⊥
events_silent script word id skipped mark a same = go (have_been script found.front).compositor.active
  where
    found : WasActive script word mark
    found = was_active script word mark a

    active : Committed
    active = (lanes_at script found.front).compositor.active

    there : has_model active.tree id ≡ true
    there = there_about active.tree id mark same found.there

    go : (active ≡ empty_commit) ⊎ WasActivated script active found.front → ⊥
    go (inl e) = false≢true (subst (λ c. has_model c.tree id ≡ true) e there)
    go (inr h) =
        let front_of = h.pulled.committed.front ++ Main ∷ [] in
        let longer = goes_on_trans _ _ _ h.pulled.committed.step (goes_on_trans _ _ _ (begins_longer h.pulled.front Compositor) (goes_on_trans _ _ _ h.pulled.step (goes_on_trans _ _ _ (begins_longer h.front Compositor) (goes_on_trans _ _ _ h.step found.begins)))) in
        was_pending script found.front active h
        (skipped_longer script found.front word active.number found.begins (skipped active (commit_stays script front_of word active longer h.pulled.committed.made) there))

pub skipped_is_silent : (script : ScriptLists) (word : List Lane) → SkippedIsSilent script word
skipped_is_silent script word = record { frames = frames_silent script word; events = events_silent script word }
