use Rattle.std.proofs.Common.{ℕ, Option, nat_cmp}
use Rattle.std.specs.BTreeMap.{is_at}
use Rattle.std.specs.Map.{lookup}
use Rattle.serde_json.specs.Data.{Data}
use Rattle.jmap_arguments.proofs.GetLemmas.{none_listed, one_listed}
use Rattle.served_maps.specs.Past.{served}
use Rattle.mail_maps.specs.Serve.{mailbox_of}
use Rattle.read_methods.specs.Mailboxes.{mailbox_objects}
use Rattle.read_methods.proofs.mailboxes.mailboxes_at.Goals as goal
use Rattle.read_methods.proofs.mailboxes.mailboxes_at.Goals.{in-None, in-Some+in_ok-push-in-Some}

pub loop-number-preserved : goal.loop-number-preserved
loop-number-preserved c =
    let found : ℕ → Option Data = λ n. lookup (is_at (nat_cmp n)) (mailbox_objects (served mailbox_of c.args.state.now.rows.mailboxes) c.args.wanted.now) in
    let numbers = c.args.numbers.now in
    let i = c.loop-number.number-index in
    let before = c.loop-number.list.items in
    let is = c.in_ok-mailbox_at.ensures in
    elim c.match-branch-3.branch [
      | in-None w ↦ rw w.list-is (none_listed found numbers i c.loop-number-test.true before c.in_ok-mailbox_at.field-0 w.in-None.is is c.loop-number.invariant)
      | in-Some+in_ok-push-in-Some w ↦ rw w.list-is (one_listed found numbers i c.loop-number-test.true before w.push.new.self.items c.in_ok-mailbox_at.field-0 w.in-Some.object
          w.in-Some.is w.in_ok-push-in-Some.ensures.items is c.loop-number.invariant)
    ]
