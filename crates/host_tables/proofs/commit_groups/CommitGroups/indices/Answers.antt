use Rattle.std.proofs.Common.{[], List, Option, ℕ, ap, sym, ◌∙◌}
use Rattle.std.specs.Prelude.{unwrap_or, option_map, Vec}
use Rattle.std.specs.declared.alloc.Global.{Global}
use Rattle.host_tables.proofs.CommitGroupsLemmas.{lookup-entries}
use Rattle.host_tables.proofs.commit_groups.CommitGroups.indices.Goals as goal

pub returns-in-Some : goal.returns-in-Some
returns-in-Some c =
    let entries = c.self.inside.groups.entries in
    rw (← c.self.view_is)
    (c.deref.ensures.value
    ∙ ap (λ (o : Option (Vec ℕ Global)). unwrap_or (option_map (λ (v : Vec ℕ Global). v.items) o) []) c.in-Some.ensures.value
    ∙ ap (λ (o : Option (List ℕ)). unwrap_or o []) (sym (lookup-entries c.args.group entries)))

pub returns-in-None : goal.returns-in-None
returns-in-None c =
    let entries = c.self.inside.groups.entries in
    rw (← c.self.view_is)
    (ap (λ (o : Option (Vec ℕ Global)). unwrap_or (option_map (λ (v : Vec ℕ Global). v.items) o) []) c.in-None.ensures.value
    ∙ ap (λ (o : Option (List ℕ)). unwrap_or o []) (sym (lookup-entries c.args.group entries)))
