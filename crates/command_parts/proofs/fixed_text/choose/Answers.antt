use Rattle.std.proofs.Common.{◌+◌, ◌-◌, ◌∙◌, List, ℕ, length, sym, ap, arith, drop, get_or}
use Rattle.std.specs.Prelude.{Ok}
use Rattle.command_parts.specs.declared.fixed_text.FixedText.TheVariants.{Capability}
use Rattle.command_parts.specs.reading.FixedTexts.{agreeing, choose}
use Rattle.command_parts.proofs.Loops.{choose_found, choose_short, choose_on, choose_end}
use Rattle.command_parts.proofs.fixed_text.choose.Goals as goal

pub returns-then-count-text : goal.returns-then-count-text
returns-then-count-text c =
    let same = c.fixed_text-text.ensures in
    let loop = c.loop-keyword in
    sym loop.invariant.read
    ∙ choose_found loop.farthest c.agreeing-count.result c.args.fixed_texts.now c.args.bytes.now loop.keyword-index (omega (arith, c.loop-keyword-test.true))
    (c.agreeing-count.ensures.count ∙ ap (λ (t : List ℕ). agreeing t c.args.bytes.now) same) (c.if-count-text.true ∙ ap length same)
    ∙ ap (λ (b : List ℕ). Ok (get_or c.args.fixed_texts.now loop.keyword-index Capability, b)) (sym c.behind.ensures)

pub returns-then-count-bytes : goal.returns-then-count-bytes
returns-then-count-bytes c =
    let same = c.fixed_text-text.ensures in
    let loop = c.loop-keyword in
    sym loop.invariant.read
    ∙ choose_short loop.farthest c.agreeing-count.result c.args.fixed_texts.now c.args.bytes.now loop.keyword-index (omega (arith, c.loop-keyword-test.true))
    (c.agreeing-count.ensures.count ∙ ap (λ (t : List ℕ). agreeing t c.args.bytes.now) same) (λ e. c.if-count-text.false (e ∙ sym (ap length same))) c.if-count-bytes.true

pub loop-keyword-preserved : goal.loop-keyword-preserved
loop-keyword-preserved c =
    let same = c.fixed_text-text.ensures in
    let loop = c.loop-keyword in
    record {
      read =
          ap (λ (n : ℕ). choose n (drop (loop.keyword-index + 1) c.args.fixed_texts.now) c.args.bytes.now) c.max-farthest.ensures
          ∙ sym (choose_on loop.farthest c.agreeing-count.result c.args.fixed_texts.now c.args.bytes.now loop.keyword-index (omega (arith, c.loop-keyword-test.true))
          (c.agreeing-count.ensures.count ∙ ap (λ (t : List ℕ). agreeing t c.args.bytes.now) same) (λ e. c.if-count-text.false (e ∙ sym (ap length same))) c.if-count-bytes.false)
          ∙ loop.invariant.read;
      most = omega (arith, c.max-farthest.ensures, loop.invariant.most, c.agreeing-count.ensures.bytes);
    }

pub returns : goal.returns
returns c =
    let loop = c.loop-keyword in
    sym loop.invariant.read ∙ choose_end loop.farthest c.args.fixed_texts.now c.args.bytes.now loop.keyword-index (omega (arith, c.loop-keyword-test.false))
