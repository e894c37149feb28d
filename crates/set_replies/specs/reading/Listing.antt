-- The lists of a reply as the code has them.
use Rattle.std.specs.Prelude.{map}
use Rattle.serde_json.specs.View.{view, members_view}
use Rattle.set_replies.specs.Lists.{Lists}
use Rattle.set_replies.specs.declared.lists.ReplyLists.{ReplyLists}

abbrev pub lists_data : ReplyLists → Lists
lists_data l = record {
  created = members_view l.created.entries;
  not_created = members_view l.not_created.entries;
  updated = members_view l.updated.entries;
  not_updated = members_view l.not_updated.entries;
  destroyed = map view l.destroyed.items;
  not_destroyed = members_view l.not_destroyed.entries;
}
