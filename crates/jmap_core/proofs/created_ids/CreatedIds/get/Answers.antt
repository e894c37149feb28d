use Rattle.std.proofs.Common.{Some, ap, ◌∙◌}
use Rattle.jmap_core.specs.CreatedIds.{id_of}
use Rattle.jmap_core.proofs.Ids.{lookup-pairs}
use Rattle.jmap_core.proofs.created_ids.CreatedIds.get.Goals as goal

pub returns-in-None : goal.returns-in-None
returns-in-None c = c.in-None.ensures.value ∙ lookup-pairs c.args.creation.now _ ∙ ap (id_of c.args.creation.now) c.self.view_is

pub returns-in-Some : goal.returns-in-Some
returns-in-Some c = ap Some c.as_str.ensures ∙ c.in-Some.ensures.value ∙ lookup-pairs c.args.creation.now _ ∙ ap (id_of c.args.creation.now) c.self.view_is
