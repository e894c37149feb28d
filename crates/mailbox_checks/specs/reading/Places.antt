-- Where Mailboxes are to be as the code has it.
use Rattle.std.specs.Option.{option_copied}
use Rattle.mailbox_checks.specs.Properties as properties
use Rattle.mailbox_checks.specs.Update as update
use Rattle.mailbox_checks.specs.declared.properties.ParentAsked.{ParentAsked}
use Rattle.mailbox_checks.specs.declared.properties.ParentAsked.TheVariants.{Top, Under, Nowhere}
use Rattle.mailbox_checks.specs.declared.update.Place.{Place}

abbrev pub asked_parent : ParentAsked → properties.ParentAsked
asked_parent Top = properties.Top
asked_parent (Under f) = properties.Under f.now
asked_parent Nowhere = properties.Nowhere

abbrev pub place_data : Place → update.Place
place_data p = record { parent = option_copied p.parent; name = p.name.now }
