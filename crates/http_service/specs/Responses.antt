-- The head of a response (RFC 9112 section 4, RFC 9110 section 15).
use Rattle.std.specs.Prelude.{ℕ, ◌==◌, if◌then◌else◌, List, [], ◌∷◌, ◌++◌, unwrap_or, codes, Bool, ◌&&◌, nat_le}
use Rattle.std.specs.Fmt.{decimal}
use Rattle.text_words.specs.Cuts.{IsRun}
use Rattle.http.specs.StatusCode.{reason_phrase}

abbrev pub crlf : List ℕ
crlf = 13 ∷ 10 ∷ []

-- status-line = HTTP-version SP status-code SP [ reason-phrase ], and its line end
unfoldable pub status_line : ℕ → List ℕ
status_line status = codes "HTTP/1.1 " ++ decimal status ++ 32 ∷ unwrap_or (reason_phrase status) [] ++ crlf

-- each connection has one request, and no response is kept by others
unfoldable pub fixed_fields : List ℕ
fixed_fields = codes "Connection: close\r\nCache-Control: no-store\r\n"

unfoldable pub length_field : ℕ → List ℕ
length_field length = codes "Content-Length: " ++ decimal length ++ crlf

-- a client without a right token is told which scheme there is (RFC 6750 section 3)
unfoldable pub challenge : ℕ → List ℕ
challenge status = if status == 401 then codes "WWW-Authenticate: Bearer\r\n" else []

unfoldable pub media_field : List ℕ → List ℕ
media_field media = codes "Content-Type: " ++ (media ++ crlf)

-- a body that isn't empty has its type
abbrev pub type_field : ℕ → List ℕ → List ℕ
type_field length media = if length == 0 then [] else media_field media

-- the head of a response with a body of this length and type, its empty line with it
abbrev pub response_head : ℕ → ℕ → List ℕ → List ℕ
response_head status length media = status_line status ++ fixed_fields ++ challenge status ++ length_field length ++ type_field length media ++ crlf

-- an octet of a media type: none that ends it, or a line
abbrev pub is_media_octet : ℕ → Bool
is_media_octet c = nat_le 33 c && nat_le c 126

abbrev pub IsMediaText : List ℕ → Type 0
IsMediaText text = IsRun is_media_octet text
