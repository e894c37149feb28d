-- How clients are told why a method has no answer (RFC 8620 section 3.6.2).
use Rattle.std.specs.Prelude.{ℕ, List, codes}
use Rattle.serde_json.specs.Data.{Data, string, object, no_members, member}
use Rattle.jmap_arguments.specs.declared.method_error.MethodError.{MethodError}
use Rattle.jmap_arguments.specs.declared.method_error.MethodError.TheVariants as error

-- Out of memory is answered by no method response; its type is that of a resource that is gone for now.
abbrev pub error_type : MethodError → List ℕ
error_type error.ServerUnavailable = codes "serverUnavailable"
error_type error.ServerFail = codes "serverFail"
error_type error.ServerPartialFail = codes "serverPartialFail"
error_type error.UnknownMethod = codes "unknownMethod"
error_type error.InvalidArguments = codes "invalidArguments"
error_type error.InvalidResultReference = codes "invalidResultReference"
error_type error.AccountNotFound = codes "accountNotFound"
error_type error.RequestTooLarge = codes "requestTooLarge"
error_type error.StateMismatch = codes "stateMismatch"
error_type error.CannotCalculateChanges = codes "cannotCalculateChanges"
error_type error.AnchorNotFound = codes "anchorNotFound"
error_type error.UnsupportedFilter = codes "unsupportedFilter"
error_type error.UnsupportedSort = codes "unsupportedSort"
error_type error.TooManyChanges = codes "tooManyChanges"
error_type error.Memory = codes "serverUnavailable"

-- the arguments of an `error` response
abbrev pub error_data : MethodError → Data
error_data e = object (member (codes "type") (string (error_type e)) no_members)
