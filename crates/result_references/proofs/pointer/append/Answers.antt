use Rattle.result_references.proofs.Paths.{appended}
use Rattle.result_references.proofs.pointer.append.Goals as goal

pub returns : goal.returns
returns c = appended c.append.result c.args.found.now.items c.args.items.items c.append.new.self.items c.append.ensures.items
