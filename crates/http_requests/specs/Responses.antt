-- The texts of responses (RFC 9112 section 4).
use Rattle.std.specs.Prelude.{◌++◌, ◌&&◌, ℕ, Bool, List, [], length, nat_lt, Option, Some, None, if◌then◌else◌, codes}
use Rattle.std.specs.List.{list_all}
use Rattle.http_service.specs.Refusals.{refusal_status}
use Rattle.http_service.specs.Responses.{response_head, is_media_octet}
use Rattle.http_service.specs.declared.refusal.Refusal.{Refusal}
use Rattle.http_requests.specs.Asking.{octet_stream}

-- a response whose body is of this type
abbrev pub http_response : ℕ → List ℕ → List ℕ → List ℕ
http_response status media body = response_head status (length body) media ++ body

-- a refusal without a body
abbrev pub refusal_text : Refusal → List ℕ
refusal_text refusal = response_head (refusal_status refusal) 0 []

-- (RFC 8259 section 11)
abbrev pub json_media : List ℕ
json_media = codes "application/json"

-- (RFC 7807 section 3)
abbrev pub problem_media : List ℕ
problem_media = codes "application/problem+json"

-- octets that may stand as a type in a head
abbrev pub is_media : List ℕ → Bool
is_media octets = nat_lt 0 (length octets) && list_all is_media_octet octets

-- the type of what is downloaded: the one that is asked for, where it may stand in a head
abbrev pub download_media : Option (List ℕ) → List ℕ
download_media None = octet_stream
download_media (Some media) = if is_media media then media else octet_stream
