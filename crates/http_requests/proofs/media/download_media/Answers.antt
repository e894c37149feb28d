use Rattle.std.proofs.Common.{subst, sym}
use Rattle.std.specs.Option.{option_copied}
use Rattle.http_service.specs.Responses.{IsMediaText}
use Rattle.http_requests.proofs.MediaLemmas.{download_is_text}
use Rattle.http_requests.proofs.media.download_media.Goals as goal

pub unreachable-requires : goal.unreachable-requires
unreachable-requires c = c.in-None.ensures (subst IsMediaText (sym c.download_text.ensures) (download_is_text (option_copied c.args.media)))
