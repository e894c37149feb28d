use Rattle.mail_header.proofs.FieldLemmas.{block_walked, walked_done}
use Rattle.mail_header.proofs.blocks.fields.Goals as goal

pub loop-block-preserved : goal.loop-block-preserved
loop-block-preserved c =
    block_walked _ _ c.loop-block.rest.now c.args.bytes.now c.in-Some.block.now c.in-Some.more.now c.loop-block.invariant c.in-Some.ensures c.in_ok-push_field.ensures

pub returns : goal.returns
returns c = walked_done _ c.loop-block.rest.now c.args.bytes.now c.line_end_len.result c.loop-block.invariant c.in_default.ensures c.line_end_len.ensures.value
