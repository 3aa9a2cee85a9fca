use Rattle.std.proofs.Common.{◌≡◌, [], true, false, ap, sym, ◌∙◌}
use Rattle.std.specs.Prelude.{option_map}
use Rattle.anim_names.specs.declared.lane.Tree.TheVariants.{Active, Pending}
use Rattle.element_anims.specs.Rows.{is_blocked_by}
use Rattle.host_tables.specs.MarkLists.{Marked}
use Rattle.host_tables.specs.Rows.{marked_row, says_over}
use Rattle.anim_host.proofs.FitLemmas.{fits-nothing}
use Rattle.anim_host.proofs.StandLemmas.{group-nowhere, row-nowhere}
use Rattle.anim_host.proofs.standing.Standing.new.Goals as goal

pub invariant_of-result : goal.invariant_of-result
invariant_of-result c =
    let none : c.new.result.marks ≡ [] = ap (λ (m : Marked). m.marks) c.new.ensures in
    rw (none, c.in_ok-empty.ensures) (record {
      of_rows = λ id. ap (option_map marked_row) (c.new-2.ensures.none id) ∙ sym (row-nowhere [] id);
      over = λ id says. let no : false ≡ true = sym (ap says_over (c.new-2.ensures.none id)) ∙ says in cc;
      of_groups = λ g. c.new-3.ensures g ∙ sym (group-nowhere [] g);
      roomy = tt;
      of_elements = record { of_active = λ e. c.in_ok-new.ensures.absent Active e; of_pending = λ e. c.in_ok-new.ensures.absent Pending e };
      of_blocks = λ g e p. ap (is_blocked_by g) (c.in_ok-new.ensures.free e p);
      finishes = λ id ended alive. cc;
      fits = fits-nothing;
      follows = tt;
    })
