-- What a response is made of.
use Rattle.std.specs.Prelude.{◌++◌, ℕ, List}
use Rattle.http_requests.specs.Responses.{refusal_text}
use Rattle.http_requests.specs.declared.response.Parts.{Parts}
use Rattle.http_requests.specs.declared.response.Parts.TheVariants.{Whole, Head}

abbrev pub text_of : Parts → List ℕ
text_of (Whole head body) = head ++ body
text_of (Head refusal) = refusal_text refusal
