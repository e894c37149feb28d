use Rattle.loose_addresses.proofs.ElementLemmas.{begins_loose, lump_one, lump_word}
use Rattle.loose_addresses.proofs.lumps.open_len.Goals as goal

pub returns-in-None : goal.returns-in-None
returns-in-None c = lump_one c.args.text.now c.requires.some c.requires.plain (begins_loose c.args.text.now c.requires.open c.in-None.ensures)

pub returns-in-Some : goal.returns-in-Some
returns-in-Some c = lump_word c.args.text.now c.in-Some.word.now c.in-Some.field-0-1.now c.in-Some.ensures.0 c.in-Some.ensures.1
