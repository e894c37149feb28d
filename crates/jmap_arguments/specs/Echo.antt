-- Core/echo (RFC 8620 section 4): the arguments as they came, where each number in them is an integer.
use Rattle.std.specs.Prelude.{if◌then◌else◌, Result, Ok, Err}
use Rattle.serde_json.specs.Data.{Data}
use Rattle.serde_json.specs.Written.{has_float}
use Rattle.jmap_arguments.specs.declared.method_error.MethodError.{MethodError}
use Rattle.jmap_arguments.specs.declared.method_error.MethodError.TheVariants.{InvalidArguments}

abbrev pub echoed : Data → Result Data MethodError
echoed d = if has_float d then Err InvalidArguments else Ok d
