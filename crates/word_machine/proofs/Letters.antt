-- A replay letter by letter: the steps that are left to make are those that are left of the lanes.
use Rattle.std.proofs.Common.{◌≡◌, ℕ, ◌+◌, ◌<◌, List, [], ◌∷◌, ◌++◌, length, map, take, get_or, refl, sym, ap, ◌∙◌, subst, arith}
use Rattle.std.proofs.lemmas.List.{take_more}
use Rattle.anim_names.specs.declared.lane.Lane.{Lane}
use Rattle.anim_names.specs.declared.lane.Lane.TheVariants.{Main, Compositor}
use Rattle.frame_exchange.specs.Journals.{Exchange, IsExchange}
use Rattle.frame_exchange.specs.Sides.{CompositorState, MainState}
use Rattle.run_rules.specs.declared.compositor_step.CompositorStep.{CompositorStep}
use Rattle.run_rules.specs.declared.main_step.MainStep.{MainStep}
use Rattle.run_rules.specs.Frames.{DrawnFrame}
use Rattle.run_rules.specs.Runs.{compositor_step, main_step}
use Rattle.run_rules.specs.Scripts.{IsWellFormed, ScriptLists, StepOfMain}
use Rattle.run_rules.specs.Views.{step_of}
use Rattle.word_machine.specs.Courses.{Course, course_after, course_of}
use Rattle.word_machine.specs.Moments.{IsAt, MayReplay}
use Rattle.word_machine.specs.Turns.{MayMakeCompositor, MayMakeMain, board_after_compositor, board_after_main, compositor_turned, counts_with, frames_with, main_turned}
use Rattle.word_machine.proofs.Moments.{at-compositor_rest, at-main_rest, at_beginning, compositor-may, compositor-next, main-may, main-next}
use Rattle.word_machine.proofs.Right.{course-append, next_compositor, next_main}
use Rattle.word_machine.proofs.UnderWay.{compositor-left_next, compositor-rests, main-left_next, main-rests}

-- the replay after a word, with the steps that are left to make
pub record IsAmid (script : ScriptLists) (word : List Lane) (main : MainState) (compositor : CompositorState) (board : Exchange) (counts : List ℕ) (frames : List DrawnFrame) (steps_of_main : List MainStep) (steps_of_compositor : List CompositorStep) : Type 0 where
  pub at : IsAt script word main compositor board counts frames
  pub main_left : map step_of steps_of_main ≡ (course_of script word).lanes.main.left
  pub compositor_left : steps_of_compositor ≡ (course_of script word).lanes.compositor.left

pub amid_beginning : (script : ScriptLists) → IsWellFormed script → (main : MainState) (compositor : CompositorState) (board : Exchange) (counts : List ℕ) (frames : List DrawnFrame) (steps_of_main : List MainStep) (steps_of_compositor : List CompositorStep) → IsExchange board → MayReplay script main compositor board → counts ≡ [] → frames ≡ [] → map step_of steps_of_main ≡ script.main → steps_of_compositor ≡ script.compositor → IsAmid script [] main compositor board counts frames steps_of_main steps_of_compositor
unfolding course_of
amid_beginning script well main compositor board counts frames steps_of_main steps_of_compositor is may no_count no_frame m c = record {
  at = subst (λ (n : List ℕ). IsAt script [] main compositor board n frames) (sym no_count)
      (subst (λ (f : List DrawnFrame). IsAt script [] main compositor board [] f) (sym no_frame) (at_beginning script well main compositor board is may));
  main_left = m;
  compositor_left = c;
}

-- the word so far with its next letter
longer : (items : List Lane) (i : ℕ) (letter : Lane) → i < length items → get_or items i Main ≡ letter → take i items ++ letter ∷ [] ≡ take (i + 1) items
longer items i letter within is = ap (λ l. take i items ++ l ∷ []) (sym is) ∙ sym (take_more items i Main within)

pub left-after_main : (course : Course) (step : StepOfMain) (left : List StepOfMain) → course.lanes.main.left ≡ step ∷ left → (course_after course Main).lanes.main.left ≡ left
unfolding main_step
left-after_main course step left is = ap (λ steps. (next_main course steps).lanes.main.left) is ∙ main-left_next course step left

pub left-after_compositor : (course : Course) (step : CompositorStep) (left : List CompositorStep) → course.lanes.compositor.left ≡ step ∷ left → (course_after course Compositor).lanes.compositor.left ≡ left
unfolding compositor_step
left-after_compositor course step left is = ap (λ steps. (next_compositor course steps).lanes.compositor.left) is ∙ compositor-left_next course step left

module _ (script : ScriptLists) (items : List Lane) (i : ℕ) (main : MainState) (compositor : CompositorState) (board : Exchange) (counts : List ℕ) (frames : List DrawnFrame) (steps_of_main : List MainStep) (steps_of_compositor : List CompositorStep)
    (amid : IsAmid script (take i items) main compositor board counts frames steps_of_main steps_of_compositor) where
  pub amid-main_may : IsWellFormed script → (step : MainStep) (rest : List MainStep) → steps_of_main ≡ step ∷ rest → MayMakeMain (step_of step) main board
  amid-main_may well step rest is =
      main-may script well (take i items) main compositor board counts frames (step_of step) (map step_of rest) amid.at (sym amid.main_left ∙ ap (map step_of) is)

  pub amid-compositor_may : IsWellFormed script → (step : CompositorStep) (rest : List CompositorStep) → steps_of_compositor ≡ step ∷ rest → MayMakeCompositor step compositor board
  amid-compositor_may well step rest is =
      compositor-may script well (take i items) main compositor board counts frames step rest amid.at (sym amid.compositor_left ∙ is)

  module _ (within : i < length items) where
    pub amid-main_next : (later : MainState) (after : Exchange) (more : List ℕ) (step : MainStep) (rest : List MainStep) → get_or items i Main ≡ Main → steps_of_main ≡ step ∷ rest → later ≡ main_turned (step_of step) board main → after ≡ board_after_main (step_of step) main board → more ≡ counts_with (step_of step) later counts → IsAmid script (take (i + 1) items) later compositor after more frames rest steps_of_compositor
    amid-main_next later after more step rest letter is made noted counted =
        let course = course_of script (take i items) in
        let left : course.lanes.main.left ≡ step_of step ∷ map step_of rest = sym amid.main_left ∙ ap (map step_of) is in
        subst (λ (w : List Lane). IsAmid script w later compositor after more frames rest steps_of_compositor) (longer items i Main within letter)
        record {
          at = main-next script (take i items) main later compositor board after counts more frames (step_of step) (map step_of rest) amid.at left made noted counted;
          main_left = sym (left-after_main course (step_of step) (map step_of rest) left) ∙ ap (λ (c : Course). c.lanes.main.left) (sym (course-append script (take i items) Main));
          compositor_left = amid.compositor_left ∙ ap (λ (c : Course). c.lanes.compositor.left) (sym (course-append script (take i items) Main));
        }

    pub amid-main_rests : get_or items i Main ≡ Main → steps_of_main ≡ [] → IsAmid script (take (i + 1) items) main compositor board counts frames steps_of_main steps_of_compositor
    amid-main_rests letter is =
        let course = course_of script (take i items) in
        let left : course.lanes.main.left ≡ [] = sym amid.main_left ∙ ap (map step_of) is in
        let same : course ≡ course_of script (take i items ++ Main ∷ []) = sym (main-rests course left) ∙ sym (course-append script (take i items) Main) in
        subst (λ (w : List Lane). IsAmid script w main compositor board counts frames steps_of_main steps_of_compositor) (longer items i Main within letter)
        record {
          at = at-main_rest script (take i items) main compositor board counts frames left amid.at;
          main_left = amid.main_left ∙ ap (λ (c : Course). c.lanes.main.left) same;
          compositor_left = amid.compositor_left ∙ ap (λ (c : Course). c.lanes.compositor.left) same;
        }

    pub amid-compositor_next : (later : CompositorState) (after : Exchange) (more : List DrawnFrame) (step : CompositorStep) (rest : List CompositorStep) → get_or items i Main ≡ Compositor → steps_of_compositor ≡ step ∷ rest → later ≡ compositor_turned step board compositor → after ≡ board_after_compositor step compositor board → more ≡ frames_with step compositor frames → IsAmid script (take (i + 1) items) main later after counts more steps_of_main rest
    amid-compositor_next later after more step rest letter is made noted drawn =
        let course = course_of script (take i items) in
        let left : course.lanes.compositor.left ≡ step ∷ rest = sym amid.compositor_left ∙ is in
        subst (λ (w : List Lane). IsAmid script w main later after counts more steps_of_main rest) (longer items i Compositor within letter)
        record {
          at = compositor-next script (take i items) main compositor later board after counts frames more step rest amid.at left made noted drawn;
          main_left = amid.main_left ∙ ap (λ (c : Course). c.lanes.main.left) (sym (course-append script (take i items) Compositor));
          compositor_left = sym (left-after_compositor course step rest left) ∙ ap (λ (c : Course). c.lanes.compositor.left) (sym (course-append script (take i items) Compositor));
        }

    pub amid-compositor_rests : get_or items i Main ≡ Compositor → steps_of_compositor ≡ [] → IsAmid script (take (i + 1) items) main compositor board counts frames steps_of_main steps_of_compositor
    amid-compositor_rests letter is =
        let course = course_of script (take i items) in
        let left : course.lanes.compositor.left ≡ [] = sym amid.compositor_left ∙ is in
        let same : course ≡ course_of script (take i items ++ Compositor ∷ []) = sym (compositor-rests course left) ∙ sym (course-append script (take i items) Compositor) in
        subst (λ (w : List Lane). IsAmid script w main compositor board counts frames steps_of_main steps_of_compositor) (longer items i Compositor within letter)
        record {
          at = at-compositor_rest script (take i items) main compositor board counts frames left amid.at;
          main_left = amid.main_left ∙ ap (λ (c : Course). c.lanes.main.left) same;
          compositor_left = amid.compositor_left ∙ ap (λ (c : Course). c.lanes.compositor.left) same;
        }

-- the same, of equal parts
pub amid_same : (script : ScriptLists) (word : List Lane) (main main_too : MainState) (compositor compositor_too : CompositorState) (board board_too : Exchange) (counts counts_too : List ℕ) (frames frames_too : List DrawnFrame) (steps_of_main main_steps_too : List MainStep) (steps_of_compositor compositor_steps_too : List CompositorStep) → main_too ≡ main → compositor_too ≡ compositor → board_too ≡ board → counts_too ≡ counts → frames_too ≡ frames → main_steps_too ≡ steps_of_main → compositor_steps_too ≡ steps_of_compositor → IsAmid script word main compositor board counts frames steps_of_main steps_of_compositor → IsAmid script word main_too compositor_too board_too counts_too frames_too main_steps_too compositor_steps_too
amid_same script word main main_too compositor compositor_too board board_too counts counts_too frames frames_too steps_of_main main_steps_too steps_of_compositor compositor_steps_too m c b n f s t h =
    subst (λ x. IsAmid script word x compositor_too board_too counts_too frames_too main_steps_too compositor_steps_too) (sym m)
    (subst (λ x. IsAmid script word main x board_too counts_too frames_too main_steps_too compositor_steps_too) (sym c)
    (subst (λ x. IsAmid script word main compositor x counts_too frames_too main_steps_too compositor_steps_too) (sym b)
    (subst (λ x. IsAmid script word main compositor board x frames_too main_steps_too compositor_steps_too) (sym n)
    (subst (λ x. IsAmid script word main compositor board counts x main_steps_too compositor_steps_too) (sym f)
    (subst (λ x. IsAmid script word main compositor board counts frames x compositor_steps_too) (sym s)
    (subst (λ x. IsAmid script word main compositor board counts frames steps_of_main x) (sym t) h))))))

pub none-left : {A : Type 0} (xs : List A) → length xs ≡ 0 → xs ≡ []
none-left [] e = refl
none-left (x ∷ xs) e = absurd (omega (arith, e))
