-- The tests of properties.
use Rattle.std.specs.Prelude.{◌≡◌, Bool, Option}
use Rattle.serde_json.specs.Data.{Data}
use Rattle.serde_json.specs.View.{view}
use Rattle.told_folder.specs.declared.message.Folder.{Folder}
use Rattle.set_given.specs.Given as spec
use Rattle.set_given.specs.declared.given.Given.{Given}
use Rattle.set_given.specs.reading.Givens.{IsGiven}
use Rattle.set_patches.specs.declared.patches.Pointer.{Pointer}
use Rattle.mailbox_checks.specs.Properties as properties

-- that of a Mailbox that is to be made
pub record TestsNew (given : Given) (test : Pointer → Data → Bool) : Type 0 where
  pub facts : spec.Given
  pub given_is : IsGiven given facts
  pub same : (p : Pointer) (d : Data) → test p d ≡ properties.is_right_new facts p d

-- that of an update of the Mailbox of a folder, which was served as this value, or not
pub record TestsChange (given : Given) (f : Folder) (served : Option Data) (test : Pointer → Data → Bool) : Type 0 where
  pub facts : spec.Given
  pub given_is : IsGiven given facts
  pub served_is : served ≡ properties.served_data facts f.number
  pub same : (p : Pointer) (d : Data) → test p d ≡ properties.is_right_change facts f p d
