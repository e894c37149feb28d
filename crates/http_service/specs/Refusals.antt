-- The statuses of refusals whose responses have no body.
use Rattle.std.specs.Prelude.{ℕ}
use Rattle.http_service.specs.declared.refusal.Refusal.{Refusal}
use Rattle.http_service.specs.declared.refusal.Refusal.TheVariants as refusal

abbrev pub refusal_status : Refusal → ℕ
refusal_status refusal.BadRequest = 400
refusal_status refusal.Unauthorized = 401
refusal_status refusal.NotFound = 404
refusal_status refusal.MethodNotAllowed = 405
refusal_status refusal.HeadTooLarge = 431
refusal_status refusal.Unavailable = 503
