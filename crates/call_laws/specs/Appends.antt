-- How many APPENDs an item of a call sends: one where an Email is to be made or imported, and none else (RFC 8621 sections 4.6 and 4.8).
use Rattle.std.specs.Prelude.{ℕ}
use Rattle.set_arguments.specs.declared.set_method.SetMethod.{SetMethod}
use Rattle.set_arguments.specs.declared.set_method.SetMethod.TheVariants.{EmailSet, EmailImport}
use Rattle.set_order.specs.Ordered.{Item, Create}

abbrev pub appends_due : SetMethod → Item → ℕ
appends_due EmailSet (Create key ms) = 1
appends_due EmailImport (Create key ms) = 1
appends_due _ _ = 0
