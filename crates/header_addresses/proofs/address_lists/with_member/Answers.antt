use Rattle.std.proofs.Common.{[], ◌∷◌, ◌++◌}
use Rattle.header_addresses.specs.reading.ElementView.{mailbox_view}
use Rattle.header_addresses.proofs.GroupLemmas.{one_member_more}
use Rattle.header_addresses.proofs.address_lists.with_member.Goals as goal

pub returns : goal.returns
returns c = λ es all b. record {
  done = b.done;
  phrase = b.phrase;
  ms = b.ms ++ mailbox_view c.args.mailbox.now ∷ [];
  has = record {
    groups = b.has.groups;
    name = b.has.name;
    members =
        one_member_more b.ms
        (mailbox_view c.args.mailbox.now) c.args.builder.members.items c.push.new.self.items c.in_ok-address_of.field-0 b.has.members c.in_ok-address_of.ensures
        c.in_ok-push.ensures.items;
  };
  all_is = b.all_is;
}
