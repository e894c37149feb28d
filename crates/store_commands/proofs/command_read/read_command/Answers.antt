use Rattle.std.proofs.Common.{ℕ, sym, subst, arith}
use Rattle.store_commands.specs.declared.command_read.CommandRead.TheVariants.{Whole}
use Rattle.store_commands.specs.Answers.{IsReadAs}
use Rattle.store_commands.specs.reading.Asked.{command_asked}
use Rattle.store_commands.specs.reading.Commands.{command_at}
use Rattle.store_commands.proofs.Answering.{octets_taken, answer_right, whole_matches}
use Rattle.store_commands.proofs.Spelling.{command_reader}
use Rattle.store_commands.proofs.command_read.read_command.Goals as goal

pub returns-in-Ok : goal.returns-in-Ok
returns-in-Ok c =
    let b = c.args.bytes.now in
    let tag = c.in-Ok.tag.now in
    let command = command_asked c.in-Ok.request in
    let right = answer_right command_at command_reader b (octets_taken b (λ i. omega (arith, c.type_inv.bytes i))) _ c.in-Ok.ensures in
    whole_matches b c.saturating_sub.result tag command c.whole.result (subst (λ (n : ℕ). IsReadAs b (Whole n tag command)) (sym c.saturating_sub.ensures) right) c.whole.ensures

pub returns-in-Err : goal.returns-in-Err
returns-in-Err c =
    let b = c.args.bytes.now in
    let are = octets_taken b (λ i. omega (arith, c.type_inv.bytes i)) in
    subst (IsReadAs b) (sym c.answer_without.ensures) (answer_right command_at command_reader b are _ c.in-Err.ensures)
