use Rattle.std.proofs.Common.{◌≡◌, ℕ, List, Option, Some, map, ap, sym, ◌∙◌}
use Rattle.std.specs.Prelude.{option_map, slice_get, Vec}
use Rattle.std.specs.declared.alloc.Global.{Global}
use Rattle.std.proofs.lemmas.Option.{slice_get-map}
use Rattle.host_tables.specs.CommitGroups.{group_entry}
use Rattle.host_tables.proofs.commit_groups.CommitGroups.group_at.Goals as goal

pub returns : goal.returns
returns c =
    let entries = c.self.inside.groups.entries in
    let i = c.args.i in
    let found : slice_get entries i ≡ Some (c.unwrap.result.0.now, c.unwrap.result.1.now) =
    sym c.get_index.ensures.entry ∙ ap (option_map (λ p. (p.0.now, p.1.now))) c.unwrap.ensures in
    rw (← c.self.view_is)
    (slice_get-map (λ (e : ℕ × List ℕ). e.0) (map group_entry entries) i
    ∙ ap (option_map (λ (e : ℕ × List ℕ). e.0)) (slice_get-map group_entry entries i)
    ∙ ap (λ (o : Option (ℕ × Vec ℕ Global)). option_map (λ (e : ℕ × List ℕ). e.0) (option_map group_entry o)) found)
