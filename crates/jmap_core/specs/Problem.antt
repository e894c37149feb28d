-- What is answered to a body that is no request, or is too large (RFC 8620 section 3.6.1, RFC 7807).
use Rattle.std.specs.Prelude.{ℕ, List, [], codes}
use Rattle.serde_json.specs.Data.{unsigned, Data, number, string, object, no_members, member}
use Rattle.serde_json.specs.Written.{compact_text}
use Rattle.jmap_core.specs.declared.request.LimitName.{LimitName}
use Rattle.jmap_core.specs.declared.request.LimitName.TheVariants.{MaxSizeRequest, MaxCallsInRequest, MaxSizeUpload}
use Rattle.jmap_core.specs.declared.request.RequestError.{RequestError}
use Rattle.jmap_core.specs.declared.request.RequestError.TheVariants.{NotJson, NotRequest, UnknownCapability, Limit, Memory}

abbrev pub limit_name : LimitName → List ℕ
limit_name MaxSizeRequest = codes "maxSizeRequest"
limit_name MaxCallsInRequest = codes "maxCallsInRequest"
limit_name MaxSizeUpload = codes "maxSizeUpload"

-- a size that is too large is 413 (RFC 9110 section 15.5.14)
abbrev pub limit_status : LimitName → ℕ
limit_status MaxSizeRequest = 413
limit_status MaxCallsInRequest = 400
limit_status MaxSizeUpload = 413

abbrev pub status_of : RequestError → ℕ
status_of NotJson = 400
status_of NotRequest = 400
status_of UnknownCapability = 400
status_of (Limit name) = limit_status name
status_of Memory = 503

abbrev pub plain_problem : List ℕ → Data
plain_problem type = object (member (codes "status") (number (unsigned 400)) (member (codes "type") (string type) no_members))

abbrev pub limit_problem : LimitName → Data
limit_problem name = object
    (member (codes "limit") (string (limit_name name))
    (member (codes "status") (number (unsigned (limit_status name)))
    (member (codes "type") (string (codes "urn:ietf:params:jmap:error:limit"))
    no_members)))

-- Out of memory has no text.
abbrev pub text_of_problem : RequestError → List ℕ
text_of_problem NotJson = compact_text (plain_problem (codes "urn:ietf:params:jmap:error:notJSON"))
text_of_problem NotRequest = compact_text (plain_problem (codes "urn:ietf:params:jmap:error:notRequest"))
text_of_problem UnknownCapability = compact_text (plain_problem (codes "urn:ietf:params:jmap:error:unknownCapability"))
text_of_problem (Limit name) = compact_text (limit_problem name)
text_of_problem Memory = []
