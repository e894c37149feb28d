use Rattle.std.proofs.Common.{ℕ, List, true, sym, subst}
use Rattle.header_words.specs.EncodedWords.{HasNone, kept}
use Rattle.header_words.specs.reading.Units.{FoundAt, coded_of, Gathers}
use Rattle.header_words.specs.declared.words.Found.{Found}
use Rattle.header_words.proofs.ShapeLemmas.{take_none, take_some}
use Rattle.header_words.proofs.WordLemmas.{Goes, starts, goes_on, ends}
use Rattle.header_words.proofs.words.decode_words_between.Goals as goal

pub loop-spans-init : goal.loop-spans-init
loop-spans-init c = starts c.args.edges c.args.value.now (record { text = c.new.result; run = c.new-2.result }) c.new.ensures.items c.new-2.ensures.items

pub loop-spans-preserved : goal.loop-spans-preserved
loop-spans-preserved c =
    let at = c.args.edges in
    let rest = c.loop-spans.rest.now in
    let f = c.in-Some.found in
    let h = take_some (λ (x : Found). FoundAt at (coded_of x.word) x.start x.end rest) c.in_ok-found.field-0 f c.in-Some.is c.in_ok-found.ensures.some in
    let k = subst (λ (u : List ℕ). Gathers c.loop-spans.spans c.push_kept.new.spans (kept c.loop-spans.behind_word u)) c.split_at.ensures.front c.in_ok-push_kept.ensures in
    subst (λ (u : List ℕ). Goes at true u c.push_word.new.spans c.args.value.now) (sym c.split_at-in-Some.ensures.back)
    (goes_on at c.loop-spans.behind_word rest c.args.value.now (coded_of f.word) f.start f.end c.loop-spans.spans c.push_kept.new.spans c.push_word.new.spans
    c.loop-spans.invariant h k c.in_ok-push_word.ensures)

pub returns : goal.returns
returns c =
    let n = take_none {P = HasNone c.args.edges c.loop-spans.rest.now} c.in_ok-found.field-0 c.in_default.is c.in_ok-found.ensures.none in
    ends c.args.edges c.loop-spans.behind_word c.loop-spans.rest.now c.args.value.now c.loop-spans.spans c.push_text.new.spans c.loop-spans.invariant n
    c.in_ok-push_text.ensures.gathers c.in_ok-push_text.ensures.ended
