use Rattle.header_tokens.specs.reading.ClosingCounts.{unmatched}
use Rattle.header_tokens.proofs.closings.before.Goals as goal

pub returns : goal.returns
unfolding unmatched
returns c = λ t h. record {
  comments = c.comments_before.ensures t h;
  comments_escaped = h.comments;
  quote = c.closer_before.ensures t h.quote;
  literal = c.closer_before-2.ensures t h.literal;
  greater = c.greater_before.ensures t h.greater;
}
