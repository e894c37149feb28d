-- Conditions of Mailboxes as JSON (RFC 8621 section 2.3).
use Rattle.std.specs.Prelude.{ℕ, List, [], ◌∷◌, bytes_eq, codes, if◌then◌else◌, Option}
use Rattle.std.specs.List.{find}
use Rattle.serde_json.specs.Data.{Data, null, boolean, number, string, array, object}
use Rattle.serde_json.specs.Find.{as_bool, as_str}
use Rattle.jmap_arguments.specs.Ids.{mailbox_letter}
use Rattle.mail_maps.specs.declared.row.Role.{Role}
use Rattle.mail_maps.specs.declared.row.Role.TheVariants as role
use Rattle.query_conditions.specs.declared.mailbox_condition.MailboxCondition.{MailboxCondition}
use Rattle.query_conditions.specs.declared.mailbox_condition.MailboxCondition.TheVariants as condition
use Rattle.served_types.specs.Roles.{role_name}
use Rattle.query_arguments.specs.Readings.{means}
use Rattle.query_arguments.specs.Values.{number_of_id}
use Rattle.query_arguments.specs.declared.reading.Reading.{Reading}
use Rattle.query_arguments.specs.declared.reading.Reading.TheVariants.{Wrong, Unsupported, Means}

abbrev pub roles : List Role
roles = role.Inbox ∷ role.All ∷ role.Archive ∷ role.Drafts ∷ role.Flagged ∷ role.Junk ∷ role.Sent ∷ role.Trash ∷ []

-- the role that is served by this name
abbrev pub role_named : List ℕ → Option Role
role_named name = find (λ r. bytes_eq name (role_name r)) roles

-- null, or an id
abbrev pub parent_condition : Data → Reading MailboxCondition
parent_condition null = Means condition.IsTop
parent_condition (boolean b) = Wrong
parent_condition (number n) = Wrong
parent_condition (string id) = Means (condition.HasParent (number_of_id mailbox_letter id))
parent_condition (array ds) = Wrong
parent_condition (object ms) = Wrong

-- null, or a role's name
abbrev pub role_condition : Data → Reading MailboxCondition
role_condition null = Means condition.HasNoRole
role_condition (boolean b) = Wrong
role_condition (number n) = Wrong
role_condition (string name) = Means (condition.HasRole (role_named name))
role_condition (array ds) = Wrong
role_condition (object ms) = Wrong

abbrev pub mailbox_condition_in : List ℕ → Data → Reading MailboxCondition
mailbox_condition_in key d =
    if bytes_eq key (codes "parentId") then parent_condition d
    else if bytes_eq key (codes "name") then means condition.Name (as_str d)
    else if bytes_eq key (codes "role") then role_condition d
    else if bytes_eq key (codes "hasAnyRole") then means condition.HasAnyRole (as_bool d)
    else if bytes_eq key (codes "isSubscribed") then means condition.IsSubscribed (as_bool d)
    else Unsupported
