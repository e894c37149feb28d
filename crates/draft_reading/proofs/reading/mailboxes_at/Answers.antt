use Rattle.std.proofs.Common.{◌≡◌, Some, option_map, sym, ap, ◌∙◌}
use Rattle.std.specs.Borrow.{Bor}
use Rattle.serde_json.specs.Find.{get_member}
use Rattle.serde_json.specs.View.{view, members_view}
use Rattle.serde_json.specs.declared.value.Value.{Value}
use Rattle.draft_reading.proofs.ReadingLemmas.{addresses_at}
use Rattle.draft_reading.proofs.reading.mailboxes_at.Goals as goal

pub returns-in_ok-mailboxes_in-in-Some-clause-value : goal.returns-in_ok-mailboxes_in-in-Some-clause-value
returns-in_ok-mailboxes_in-in-Some-clause-value c =
    let all = members_view c.args.all.now.entries in
    let key = c.args.key.now in
    let d = view c.in-Some.value.now in
    let is : get_member key all ≡ Some d = sym c.member.ensures ∙ ap (option_map (λ (v : Bor Value). view v.now)) c.in-Some.is in
    c.filled.ensures.value ∙ addresses_at all key d c.in_ok-mailboxes_in-in-Some.field-0 is (c.requires d is) c.in_ok-mailboxes_in-in-Some.ensures.some c.in_ok-mailboxes_in-in-Some.ensures.none
