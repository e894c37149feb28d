use Rattle.std.proofs.Common.{ap, ◌∙◌}
use Rattle.jmap_core.specs.reading.Pairs.{pairs}
use Rattle.jmap_core.proofs.Ids.{pairs-insert_entry}
use Rattle.jmap_core.proofs.created_ids.CreatedIds.put.Goals as goal

pub returns-clause-put : goal.returns-clause-put
returns-clause-put c =
    let named = c.in_ok-name.ensures.ok in
    ap pairs c.in_ok-insert.ensures.entries ∙ pairs-insert_entry _ c.in_ok-name.name c.in_ok-id.id ∙ rw (named, c.in_ok-id.ensures, c.self.view_is)
