use Rattle.std.proofs.Common.{None, [], ◌++◌, append_assoc, ◌∙◌}
use Rattle.header_addresses.specs.Names.{NoName}
use Rattle.header_addresses.specs.reading.ElementReading.{group_closed, grouped_from}
use Rattle.header_addresses.proofs.GroupLemmas.{closes, no_members}
use Rattle.header_addresses.proofs.address_lists.end.Goals as goal

pub returns : goal.returns
returns c = λ es all b. record {
  done = b.done ++ group_closed b.phrase b.ms;
  phrase = None;
  ms = [];
  has = record {
    groups = closes c.args.builder b.done b.phrase b.ms c.in_ok-groups.groups.items b.has c.in_ok-groups.ensures;
    name = NoName;
    members = no_members c.new.result.items c.new.ensures.items;
  };
  all_is = append_assoc b.done (group_closed b.phrase b.ms) (grouped_from None [] es) ∙ b.all_is;
}
