use Rattle.std.proofs.Common.{rules, refl, sym, ap, ◌∙◌, subst}
use Rattle.std.proofs.lemmas.Option.{same_Some}
use mathlib.Core.Option.{some-injective}
use Rattle.anim_names.specs.Lists.{BeginsWith}
use Rattle.commit_lock.specs.Views.{other_lane}
use Rattle.commit_lock.specs.Seats.{SeatState}
use Rattle.commit_lock.proofs.Ends.{joins, Closes, closes}
use Rattle.commit_lock.proofs.lock.CommitLock.close.Goals as goal

pub join_seat-requires : goal.join_seat-requires
join_seat-requires g c =
    let main = c.main.invariant.0 in
    let compositor = c.compositor.invariant.0 in
    let first = ap (λ s. s.lane) c.main.view_is ∙ c.requires.main.1 in
    let second = ap (λ s. s.lane) c.compositor.view_is ∙ c.requires.compositor.1 in (
      search rules,
      search rules,
      search rules,
      search rules,
      joins g.V.Journaled.journal g.V.Journaled.subject _ _ _ _ _
          (λ e. absurd (cc (main.stage_is, e)))
          main.alone
          (λ e. absurd (cc (compositor.stage_is, e)))
          (second ∙ ap other_lane (sym first)),
    )

pub unwrap-requires : goal.unwrap-requires
unwrap-requires g c =
    let main = c.main.invariant.0 in
    let compositor = c.compositor.invariant.0 in
    let first = ap (λ s. s.lane) c.main.view_is ∙ c.requires.main.1 in
    let me = ap (λ m. m.0) c.join_seat.ensures.2 in
    let value = closes g.V.Journaled.journal g.V.Journaled.subject _ _ _ c.main.inside.table_seat.me.0 c.compositor.inside.table_seat.me.0 _ _ me first main.stage_is compositor.stage_is c.close_with-closed.ensures.values.2 in
    let same = some-injective _ _ (sym c.take-value.ensures.value ∙ value.1) in
    rw same refl

pub returns : goal.returns
returns g c =
    let journal_of = g.V.Journaled.journal in
    let main = c.main.invariant.0 in
    let compositor = c.compositor.invariant.0 in
    let first = ap (λ s. s.lane) c.main.view_is ∙ c.requires.main.1 in
    let me = ap (λ m. m.0) c.join_seat.ensures.2 in
    let value = closes journal_of g.V.Journaled.subject _ _ _ c.main.inside.table_seat.me.0 c.compositor.inside.table_seat.me.0 _ _ me first main.stage_is compositor.stage_is c.close_with-closed.ensures.values.2 in
    let taken = some-injective _ _ (sym value.1 ∙ c.take-value.ensures.value) ∙ c.unwrap.ensures in
    let out = subst (Closes journal_of g.V.Journaled.subject c.main.inside.table_seat.me.0 c.compositor.inside.table_seat.me.0) (same_Some _ _ taken) value.2 in
    record {
      main_subject = out.about.0 ∙ ap (λ s. s.subject) c.main.view_is;
      compositor_subject = out.about.1 ∙ ap (λ s. s.subject) c.compositor.view_is;
      main_seen = subst (λ (s : SeatState). BeginsWith (journal_of c.unwrap.result) s.seen) c.main.view_is out.seen.0;
      compositor_seen = subst (λ (s : SeatState). BeginsWith (journal_of c.unwrap.result) s.seen) c.compositor.view_is out.seen.1;
      main_mine = out.mine.0 ∙ ap (λ s. s.mine) c.main.view_is;
      compositor_mine = out.mine.1 ∙ ap (λ s. s.mine) c.compositor.view_is;
    }
