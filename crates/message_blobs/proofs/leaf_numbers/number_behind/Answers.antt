use Rattle.message_blobs.proofs.NumberLemmas.{number_read, number_is_text}
use Rattle.message_blobs.proofs.leaf_numbers.number_behind.Goals as goal

pub returns-in-Ok : goal.returns-in-Ok
returns-in-Ok c = number_read c.read_id.result c.args.letter c.args.text.now c.in-Ok.text.now c.in-Ok.ensures.cases.0 c.read_id.ensures.some c.read_id.ensures.none

pub returns-in-Err : goal.returns-in-Err
returns-in-Err c = λ n fits is. c.in-Err.ensures.cases.0 (number_is_text c.args.letter n c.args.text.now c.requires fits is)
