-- What is answered of a list that was found.
use Rattle.std.specs.Prelude.{ℕ, List, Bool, Result, ok_or, option_map}
use Rattle.serde_json.specs.Data.{Data}
use Rattle.jmap_arguments.specs.declared.method_error.MethodError.{MethodError}
use Rattle.jmap_arguments.specs.declared.method_error.MethodError.TheVariants.{AnchorNotFound}
use Rattle.query_arguments.specs.declared.asked.AskedPart.{AskedPart}
use Rattle.query_core.specs.Answers.{part_of, query_data}

abbrev pub list_answer : ℕ → List ℕ → Bool → List ℕ → Bool → AskedPart → Result Data MethodError
list_answer letter state calculable list counts part =
    ok_or (option_map (query_data letter state calculable list counts) (part_of letter list part)) AnchorNotFound
