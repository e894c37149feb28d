use Rattle.std.proofs.Common.{◌≡◌, drop, map}
use Rattle.std.specs.List.{list_all}
use Rattle.read_methods.specs.Mailboxes.{is_name_in}
use Rattle.read_methods.proofs.mailbox_property.are_names_in.Given as goal

-- all are names where the rest are
abbrev pub invariant-loop-name : goal.invariant-loop-name
invariant-loop-name l = list_all (is_name_in l.properties) (map (λ t. t.now) l.name-items)
    ≡ list_all (is_name_in l.properties) (map (λ t. t.now) (drop l.name-index l.name-items))
