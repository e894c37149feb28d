-- What the user may do in a Mailbox (RFC 8621 section 2), by the attributes of its folder (RFC 9051 section 7.3.1).
use Rattle.std.specs.Prelude.{Bool, not, ◌&&◌, is_some, codes}
use Rattle.told_folder.specs.declared.message.Folder.{Folder}
use Rattle.mail_maps.specs.declared.row.Rights.{Rights}
use Rattle.mail_maps.specs.Roles.{has_attribute, is_inbox_folder}

abbrev pub is_selectable : Folder → Bool
is_selectable f = not (has_attribute (codes "\\noselect") f) && not (has_attribute (codes "\\nonexistent") f)

-- whether the folder can have children
abbrev pub takes_children : Folder → Bool
takes_children f = is_some f.delimiter && not (has_attribute (codes "\\noinferiors") f)

-- whether the folder can be renamed and deleted
abbrev pub is_own : Folder → Bool
is_own f = not (is_inbox_folder f) && not (has_attribute (codes "\\nonexistent") f)

abbrev pub rights_of : Folder → Rights
rights_of f = record {
  may_read_items = is_selectable f;
  may_add_items = is_selectable f;
  may_remove_items = is_selectable f;
  may_set_seen = is_selectable f;
  may_set_keywords = is_selectable f;
  may_create_child = takes_children f;
  may_rename = is_own f;
  may_delete = is_own f;
  may_submit = is_selectable f;
}
