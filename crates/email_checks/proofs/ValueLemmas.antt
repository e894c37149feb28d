-- Tests of values.
use Rattle.std.proofs.Common.{◌≡◌, refl, is_some}
use Rattle.serde_json.specs.Data.{Data, null, boolean, number, string, array, object}
use Rattle.serde_json.specs.Find.{as_null}
use Rattle.set_patches.specs.Patches.{is_null}

pub null_is : (d : Data) → is_some (as_null d) ≡ is_null d
null_is null = refl
null_is (boolean b) = refl
null_is (number n) = refl
null_is (string s) = refl
null_is (array ds) = refl
null_is (object ms) = refl
