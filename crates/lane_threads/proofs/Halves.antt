-- Letters of one lane leave the other lane's half of a run as it was.
use Rattle.std.proofs.Common.{◌≡◌, ℕ, zero, suc, ◌+◌, List, refl, sym, ap, ◌∙◌, subst, add-one}
use Rattle.anim_names.specs.declared.lane.Lane.{Lane}
use Rattle.anim_names.specs.declared.lane.Lane.TheVariants.{Main, Compositor}
use Rattle.run_rules.specs.Scripts.{ScriptLists}
use Rattle.word_machine.specs.Courses.{Course, course_after, course_of}
use Rattle.word_machine.proofs.Right.{course-append}
use Rattle.lane_threads.specs.Knowing.{with_letters}
use Rattle.lane_threads.proofs.Letters.{letters-none, letters-one}

-- one more letter of a lane
pub course-one : (script : ScriptLists) (lane : Lane) (n : ℕ) (word : List Lane) → course_of script (with_letters lane (n + 1) word) ≡ course_after (course_of script (with_letters lane n word)) lane
course-one script lane n word = ap (course_of script) (letters-one lane n word) ∙ course-append script (with_letters lane n word) lane

pub record HasSameMain (course other : Course) : Type 0 where
  pub lane : course.lanes.main ≡ other.lanes.main
  pub made : course.main_made ≡ other.main_made

pub record HasSameCompositor (course other : Course) : Type 0 where
  pub lane : course.lanes.compositor ≡ other.lanes.compositor
  pub made : course.compositor_made ≡ other.compositor_made

pub main-kept : (script : ScriptLists) (n : ℕ) (word : List Lane) → HasSameMain (course_of script (with_letters Compositor n word)) (course_of script word)
main-kept script zero word =
    subst (λ (w : List Lane). HasSameMain (course_of script w) (course_of script word)) (sym (letters-none Compositor word)) (record { lane = refl; made = refl })
main-kept script (suc n) word =
    let before = main-kept script n word in
    let one = ap (λ k. course_of script (with_letters Compositor k word)) (sym (add-one n)) ∙ course-one script Compositor n word in
    record {
      lane = ap (λ (c : Course). c.lanes.main) one ∙ before.lane;
      made = ap (λ (c : Course). c.main_made) one ∙ before.made;
    }

pub compositor-kept : (script : ScriptLists) (n : ℕ) (word : List Lane) → HasSameCompositor (course_of script (with_letters Main n word)) (course_of script word)
compositor-kept script zero word =
    subst (λ (w : List Lane). HasSameCompositor (course_of script w) (course_of script word)) (sym (letters-none Main word)) (record { lane = refl; made = refl })
compositor-kept script (suc n) word =
    let before = compositor-kept script n word in
    let one = ap (λ k. course_of script (with_letters Main k word)) (sym (add-one n)) ∙ course-one script Main n word in
    record {
      lane = ap (λ (c : Course). c.lanes.compositor) one ∙ before.lane;
      made = ap (λ (c : Course). c.compositor_made) one ∙ before.made;
    }
