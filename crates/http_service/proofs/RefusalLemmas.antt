-- Heads of refusals, written out.
use Rattle.std.proofs.Common.{◌≡◌, ℕ, List, codes, refl}
use Rattle.std.specs.Fmt.{digits}
use Rattle.http_service.specs.Responses.{response_head, status_line, fixed_fields, length_field, challenge}

-- the head of a response with status 400 and no body
pub head_400 : (media : List ℕ) → codes "HTTP/1.1 400 Bad Request\r\nConnection: close\r\nCache-Control: no-store\r\nContent-Length: 0\r\n\r\n" ≡ response_head 400 0 media
unfolding status_line fixed_fields length_field challenge digits
head_400 media = refl

-- the head of a response with status 401 and no body
pub head_401 : (media : List ℕ) → codes "HTTP/1.1 401 Unauthorized\r\nConnection: close\r\nCache-Control: no-store\r\nWWW-Authenticate: Bearer\r\nContent-Length: 0\r\n\r\n"
    ≡ response_head 401 0 media
unfolding status_line fixed_fields length_field challenge digits
head_401 media = refl

-- the head of a response with status 404 and no body
pub head_404 : (media : List ℕ) → codes "HTTP/1.1 404 Not Found\r\nConnection: close\r\nCache-Control: no-store\r\nContent-Length: 0\r\n\r\n" ≡ response_head 404 0 media
unfolding status_line fixed_fields length_field challenge digits
head_404 media = refl

-- the head of a response with status 405 and no body
pub head_405 : (media : List ℕ) → codes "HTTP/1.1 405 Method Not Allowed\r\nConnection: close\r\nCache-Control: no-store\r\nContent-Length: 0\r\n\r\n" ≡ response_head 405 0 media
unfolding status_line fixed_fields length_field challenge digits
head_405 media = refl

-- the head of a response with status 431 and no body
pub head_431 : (media : List ℕ) → codes "HTTP/1.1 431 Request Header Fields Too Large\r\nConnection: close\r\nCache-Control: no-store\r\nContent-Length: 0\r\n\r\n"
    ≡ response_head 431 0 media
unfolding status_line fixed_fields length_field challenge digits
head_431 media = refl

-- the head of a response with status 503 and no body
pub head_503 : (media : List ℕ) → codes "HTTP/1.1 503 Service Unavailable\r\nConnection: close\r\nCache-Control: no-store\r\nContent-Length: 0\r\n\r\n" ≡ response_head 503 0 media
unfolding status_line fixed_fields length_field challenge digits
head_503 media = refl
