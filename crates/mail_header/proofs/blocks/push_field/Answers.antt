use Rattle.std.proofs.Common.{List, sym, subst}
use Rattle.mail_header.specs.Fields.{NameAndRaw, fields_view}
use Rattle.mail_header.specs.reading.HeaderLines.{AddsField, Added, Passed}
use Rattle.mail_header.proofs.FieldLemmas.{pushed_view}
use Rattle.mail_header.proofs.blocks.push_field.Goals as goal

pub returns-in-None : goal.returns-in-None
returns-in-None c = Passed c.in-None.ensures

pub returns-in_ok-push-in-Some : goal.returns-in_ok-push-in-Some
returns-in_ok-push-in-Some c =
    let old = c.args.list.now.items in
    let e = pushed_view old c.push.new.self.items (record { name = c.in-Some.name; raw = c.in-Some.raw }) c.in_ok-push-in-Some.ensures.items in
    subst (λ (u : List NameAndRaw). AddsField c.args.block.now (fields_view old) u) (sym e) (Added c.in-Some.name.now c.in-Some.raw.now c.in-Some.ensures)
