use Rattle.std.proofs.Common.{◌≡◌, ◌++◌, drop}
use Rattle.std.specs.List.{filter}
use Rattle.mime_fields.specs.ContentIds.{is_visible_octet}
use Rattle.mime_fields.proofs.content_id.push_visible.Given as goal

abbrev pub invariant-loop-octet : goal.invariant-loop-octet
invariant-loop-octet l = l.kept.items ++ filter is_visible_octet (drop l.octet-index l.text) ≡ l.initial.kept.items ++ filter is_visible_octet l.text
