use Rattle.std.proofs.Common.{◌≡◌, length, map}
use Rattle.std.specs.Char.{to_ascii_lowercase}
use Rattle.std.proofs.lemmas.List.{length-map}
use Rattle.thread_rule.specs.reading.Keys.{hasher_after}
use Rattle.thread_rule.proofs.key.base_hasher.Goals as goal

pub returns : goal.returns
unfolding hasher_after
returns c =
    let same : length (map to_ascii_lowercase c.args.base.now) ≡ length c.args.base.now = length-map c.args.base.now to_ascii_lowercase in
    cc
