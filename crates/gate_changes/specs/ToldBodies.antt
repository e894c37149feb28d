-- The bodies that fetches told for the imports of a call (RFC 8621 section 4.8).
use Rattle.std.specs.Prelude.{◌⊎◌, ℕ, Bool, List, Option, Result}
use Rattle.gate_world.specs.declared.event.Event.{Event}
use Rattle.email_bodies.specs.Asking.{BodyAsk}
use Rattle.jmap_arguments.specs.declared.method_error.MethodError.{MethodError}
use Rattle.gate_machine.specs.KeptBodies.{CallsTell, TellBody}
use Rattle.gate_machine.specs.Progress.{Progress}
use Rattle.set_jobs.specs.declared.done.Done.{Done}
use Rattle.set_jobs.specs.declared.done.SetError.{SetError}
use Rattle.set_jobs.specs.declared.job.Job.{Job}
use Rattle.set_order.specs.Ordered.{Item}
use Rattle.set_items.specs.declared.item.ItemEnd.{ItemEnd}
use Rattle.set_calls.specs.Calls.{SetCall}
use Rattle.gate_changes.specs.Items.{ItemsCame}
use Rattle.gate_changes.specs.Importing.{PreparesImport, RefusedAtOnce, Sought, LacksRoom, Seeking, WhenMade, TakesImport, BodyLost, Taken, NoRoom}
use Rattle.gate_changes.specs.Importing.{DoesImports, NoImports, OutBefore, ImportDone, ImportEnds}
use Rattle.gate_changes.specs.Changing.{DoesCourse, InRow, OneByOne, ChangesMail, Committed, SpentBy, FailedInPart, LacksChange, InItems, InCommit}

-- one for an import told these octets as the body of this Email
abbrev pub PreparesTell : {call : SetCall} {uploads : List (List ℕ)} {item : Item} {before : Progress} {asks : List BodyAsk} {made : Option (Result Job SetError)}
    {events : List Event} {after : Progress} → PreparesImport call uploads item before asks made events after → ℕ × List ℕ → Type 0
PreparesTell (RefusedAtOnce here e is) b = ⊥
PreparesTell (Sought here i found is finds asked makes) b = TellBody asked b

abbrev pub LacksTell : {call : SetCall} {uploads : List (List ℕ)} {item : Item} {before : Progress} {events : List Event} {after : Progress}
    → LacksRoom call uploads item before events after → ℕ × List ℕ → Type 0
LacksTell (Seeking here i tried is asked due) b = CallsTell asked b
LacksTell (WhenMade job prepares) b = PreparesTell prepares b

abbrev pub ImportTells : {call : SetCall} {uploads : List (List ℕ)} {item : Item} {before : Progress} {asks : List BodyAsk} {ends : ItemEnd} {events : List Event}
    {after : Progress} → TakesImport call uploads item before asks ends events after → ℕ × List ℕ → Type 0
ImportTells (BodyLost prepares) b = PreparesTell prepares b
ImportTells (Taken made ends prepares done) b = PreparesTell prepares b
ImportTells (NoRoom lacks) b = LacksTell lacks b

-- one for one of these did
abbrev pub ImportsTell : {call : SetCall} {uploads : List (List ℕ)} {made : Bool} {before : Progress} {items : List Item} {came : ItemsCame} {events : List Event}
    {after : Progress} → DoesImports call uploads made before items came events after → ℕ × List ℕ → Type 0
ImportsTell (NoImports here) b = ⊥
ImportsTell (OutBefore here) b = ⊥
ImportsTell (ImportDone item done takes rest) b = ImportTells takes b ⊎ ImportsTell rest b
ImportsTell (ImportEnds item ends not takes) b = ImportTells takes b

abbrev pub CourseTells : {call : SetCall} {items : List Item} {before : Progress} {came : ItemsCame} {events : List Event} {after : Progress}
    → DoesCourse call items before came events after → ℕ × List ℕ → Type 0
CourseTells (InRow row done) b = ⊥
CourseTells (OneByOne uploads rules imports) b = ImportsTell imports b

-- one for a call that changes mail did
abbrev pub ChangeTells : {call : SetCall} {items : List Item} {before : Progress} {result : Result (List (Item × Done)) MethodError} {events : List Event} {after : Progress}
    → ChangesMail call items before result events after → ℕ × List ℕ → Type 0
ChangeTells (Committed came mid does goes settles stands is) b = CourseTells does b
ChangeTells (SpentBy came mid spent doing ending does goes settles why hangs whole is error) b = CourseTells does b
ChangeTells (FailedInPart mid doing ending does hangs whole is error) b = CourseTells does b

abbrev pub LacksChangeTells : {call : SetCall} {items : List Item} {before : Progress} {events : List Event} {after : Progress}
    → LacksChange call items before events after → ℕ × List ℕ → Type 0
LacksChangeTells (InItems mid does is) b = CourseTells does b
LacksChangeTells (InCommit came mid does goes settles why) b = CourseTells does b
