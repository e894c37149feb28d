use Rattle.http_requests.proofs.MediaLemmas.{download_named, download_other}
use Rattle.http_requests.proofs.media.media_or_octets.Goals as goal

pub returns-in-Some : goal.returns-in-Some
returns-in-Some c = download_named c.args.text.now c.in-Some.ensures.1

pub returns-in-None : goal.returns-in-None
returns-in-None c = download_other c.args.text.now c.in-None.ensures
