use Rattle.std.proofs.Common.{◌≡◌, true, false}
use Rattle.header_words.specs.QuotedPrintable.{ends_line}
use Rattle.header_words.proofs.PrintableLemmas.{dropped_blanks, kept_blanks}
use Rattle.header_words.proofs.quoted_printable.blanks_at.Goals as goal

pub returns-then-ends_line : goal.returns-then-ends_line
returns-then-ends_line c = dropped_blanks c.args.text.now c.cut.result.1.now c.split_at.result.0.now c.cut.ensures.back c.split_at.ensures.front
    (let e : ends_line c.cut.result.1.now ≡ true = cc in e)

pub returns : goal.returns
returns c = kept_blanks c.args.text.now c.cut.result.0.now c.cut.result.1.now c.cut.ensures.front c.cut.ensures.back (let e : ends_line c.cut.result.1.now ≡ false = cc in e)
