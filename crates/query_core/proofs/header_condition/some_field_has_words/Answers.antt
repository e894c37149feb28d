use Rattle.std.proofs.Common.{◌<◌, [], slice_index_or, length, refl, sym, arith}
use Rattle.std.proofs.lemmas.Option.{slice_get-get_or, slice_get_read}
use Rattle.std.proofs.lemmas.List.Elements.{Contains-get_or}
use Rattle.mail_header.specs.Fields.{NameAndRaw, names_and_raws}
use Rattle.query_core.proofs.header_condition.some_field_has_words.Goals as goal

pub returns-then-branch : goal.returns-then-branch
returns-then-branch c =
    let fields = names_and_raws c.args.list.now in
    let none : NameAndRaw = ([], []) in
    let within : c.loop-at.at < length fields = omega (arith, c.loop-at-test.true, c.len-at-end.ensures) in
    let f = slice_index_or fields c.loop-at.at none in (
      (λ yes. (f, Contains-get_or fields c.loop-at.at none within, (c.in_ok-field_has_words.ensures f (slice_get-get_or fields c.loop-at.at none within)).0 c.if-branch.true)),
      (λ has. refl),
    )

pub returns : goal.returns
returns c =
    let fields = names_and_raws c.args.list.now in (
      (λ no. absurd cc),
      (λ has.
          let k = has.1.0 in
          let within : k < length fields = has.1.1 in
          absurd (c.loop-at.invariant k has.0 (omega (arith, within, c.loop-at-test.false, c.len-at-end.ensures))
          (slice_get_read fields (length fields) k has.0 refl within (sym has.1.2)) has.2)),
    )
