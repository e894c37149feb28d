use Rattle.std.proofs.Common.{List, ℕ, Option, Some, None, Bor}
use Rattle.std.specs.Option.{option_map, MatchOption}
use Rattle.mail_header.specs.Fields.{IsLastField}
use Rattle.mail_header.proofs.FieldLemmas.{last_walked, last_done}
use Rattle.mail_header.proofs.blocks.last_field.Goals as goal

-- what was found, as a reference
given : (name b : List ℕ) (found : Option (Bor (List ℕ))) → IsLastField name b (option_map (λ (t : Bor (List ℕ)). t.now) found)
    → MatchOption found (IsLastField name b None) (λ r. IsLastField name b (Some r.now))
given name b None h = h
given name b (Some r) h = h

pub loop-block-preserved : goal.loop-block-preserved
loop-block-preserved c =
    last_walked c.args.name.now _ _ c.loop-block.rest.now c.args.bytes.now c.in-Some.block.now c.in-Some.more.now c.loop-block.invariant c.in-Some.ensures c.later-found.ensures

pub returns : goal.returns
returns c = given c.args.name.now c.args.bytes.now c.loop-block.found
    (last_done c.args.name.now _ c.loop-block.rest.now c.args.bytes.now c.loop-block.invariant c.in_default.ensures)
