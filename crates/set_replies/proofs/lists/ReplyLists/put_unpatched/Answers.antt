use Rattle.std.proofs.Common.{◌≡◌, true, false, is_some, sym, ap, ◌∙◌}
use Rattle.std.proofs.lemmas.Result.{on_ok_weaker}
use Rattle.serde_json.specs.Data.{Data, Members, put}
use Rattle.serde_json.specs.Find.{get_member}
use Rattle.serde_json.specs.View.{members_view}
use Rattle.set_replies.specs.Lists.{Lists}
use Rattle.set_replies.specs.reading.Listing.{lists_data}
use Rattle.set_replies.proofs.ListLemmas.{has_member, view_null}
use Rattle.set_replies.proofs.lists.ReplyLists.put_unpatched.Goals as goal

pub returns-then-contains_key : goal.returns-then-contains_key
returns-then-contains_key c =
    let there : is_some (get_member c.args.id.now (members_view c.args.self.now.updated.entries)) ≡ true =
    sym (has_member c.args.id.now c.args.self.now.updated.entries) ∙ sym c.contains_key.ensures ∙ c.if-contains_key.true in
    rw there

pub returns : goal.returns
returns c =
    let apart : is_some (get_member c.args.id.now (members_view c.args.self.now.updated.entries)) ≡ false =
    sym (has_member c.args.id.now c.args.self.now.updated.entries) ∙ sym c.contains_key.ensures ∙ c.if-contains_key.false in
    let before : Members = members_view c.args.self.now.updated.entries in
    rw apart
    (on_ok_weaker c.put.result (λ is.
    ap (λ (ms : Members). let l : Lists = record (lists_data c.args.self.now) { updated = ms } in l)
    (is ∙ ap (λ (d : Data). put c.args.id.now d before) view_null)) c.put.ensures.ok)
