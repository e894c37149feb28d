use Rattle.std.proofs.Common.{◌≡◌, ◌++◌, drop}
use Rattle.imap_types.specs.Commands as texts
use Rattle.imap_commands.proofs.commands.push_flags.Given as goal

abbrev pub invariant-loop-flag : goal.invariant-loop-flag
invariant-loop-flag l = l.out.items ++ texts.more_flags (drop l.flag-index l.more) ≡ l.fn.out.items ++ texts.flags_inside l.flags
