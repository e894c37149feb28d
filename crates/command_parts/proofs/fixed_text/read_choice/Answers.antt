use Rattle.command_parts.proofs.fixed_text.read_choice.Goals as goal

pub returns-in-Commands : goal.returns-in-Commands
returns-in-Commands c = rw c.in-Commands.is c.choose.ensures

pub returns-in-Months : goal.returns-in-Months
returns-in-Months c = rw c.in-Months.is c.choose-in-Months.ensures
