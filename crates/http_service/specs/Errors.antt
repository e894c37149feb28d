-- Errors of the layer below.
use Rattle.gate_world.specs.declared.unread.FillError.{FillError}
use Rattle.gate_world.specs.declared.unread.FillError.TheVariants.{Failed, Memory}
use Rattle.http_service.specs.declared.error.HttpError.{HttpError}
use Rattle.http_service.specs.declared.error.HttpError.TheVariants as error

abbrev pub of_fill : FillError → HttpError
of_fill Failed = error.FrontFault
of_fill Memory = error.Memory
