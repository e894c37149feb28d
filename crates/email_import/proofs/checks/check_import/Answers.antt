use Rattle.std.proofs.Common.{◌≡◌, ◌∙◌, ℕ, List, [], ◌∷◌, Some, sym, ap}
use Rattle.std.proofs.lemmas.Result.{IfOk-weaker}
use Rattle.serde_json.specs.Data.{Members}
use Rattle.serde_json.specs.View.{members_view}
use Rattle.set_jobs.specs.declared.done.SetError.{SetError}
use Rattle.set_jobs.specs.declared.done.SetError.TheVariants as why
use Rattle.email_import.specs.Asked.{blob_asked}
use Rattle.email_import.proofs.CheckLemmas.{without_blob, wrong_member_is, right_members_are}
use Rattle.email_import.proofs.checks.check_import.Goals as goal

abbrev wrong : List ℕ → SetError
wrong key = why.InvalidProperties (key ∷ [])

pub returns-in_ok-wrong_property-in-None : goal.returns-in_ok-wrong_property-in-None
returns-in_ok-wrong_property-in-None c = λ g given.
    let ms : Members = members_view c.args.properties.now.entries in
    without_blob g ms c.wrong_member-member.result c.in_ok-wrong_property-in-None.field-0 (c.wrong_member-member.ensures g given) (sym c.in-None.ensures)
    (c.in_ok-wrong_property-in-None.ensures ∙ ap wrong c.first_of.ensures)

pub returns-in-None-member : goal.returns-in-None-member
returns-in-None-member c = λ g given.
    let ms : Members = members_view c.args.properties.now.entries in
    let blob : List ℕ = c.in-Some.blob.now in
    let there : blob_asked ms ≡ Some blob = sym c.in-Some.ensures in
    IfOk-weaker c.into_mailbox.result _ _
    (λ came is. right_members_are g ms blob c.wrong_member-member.result c.mailbox_asked-asked.result came (c.wrong_member-member.ensures g given) c.in-None-member.is there
    (c.mailbox_asked-asked.ensures g given) is)
    c.into_mailbox.ensures

pub returns-in_ok-wrong_property-in-Some-member : goal.returns-in_ok-wrong_property-in-Some-member
returns-in_ok-wrong_property-in-Some-member c = λ g given.
    let ms : Members = members_view c.args.properties.now.entries in
    let blob : List ℕ = c.in-Some.blob.now in
    let there : blob_asked ms ≡ Some blob = sym c.in-Some.ensures in
    wrong_member_is g ms blob c.wrong_member-member.result c.in-Some-member.key c.mailbox_asked-asked.result c.in_ok-wrong_property-in-Some-member.field-0
    (c.wrong_member-member.ensures g given) c.in-Some-member.is there (c.mailbox_asked-asked.ensures g given)
    (c.in_ok-wrong_property-in-Some-member.ensures ∙ ap wrong c.first_wrong.ensures)
