use Rattle.std.proofs.Common.{◌≡◌, drop}
use Rattle.std.specs.List.{list_all}
use Rattle.imap_types.specs.Commands as texts
use Rattle.imap_commands.proofs.commands.is_printable.Given as goal

abbrev pub invariant-loop-octet : goal.invariant-loop-octet
invariant-loop-octet l = list_all texts.is_printable l.text ≡ list_all texts.is_printable (drop l.octet-index l.text)
