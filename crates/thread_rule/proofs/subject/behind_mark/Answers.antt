use Rattle.std.proofs.Common.{List, ℕ, sym, ap, ◌∙◌, subst}
use Rattle.text_words.specs.Cuts.{back}
use Rattle.text_words.specs.Octets.{is_blank}
use Rattle.thread_rule.specs.Subject.{IsReplyWord}
use Rattle.thread_rule.specs.reading.Stripping.{PassesBlob}
use Rattle.thread_rule.proofs.PieceLemmas.{match_map}
use Rattle.thread_rule.proofs.BlobLemmas.{mark_read, mark_passed, mark_here}
use Rattle.thread_rule.proofs.subject.behind_mark.Goals as goal

pub returns-then-not-is_reply_word : goal.returns-then-not-is_reply_word
returns-then-not-is_reply_word c = λ t d.
    let R : List ℕ → Type 0 = λ u. IsReplyWord u in
    let w = (mark_read c.args.text.now t d).reply in
    c.if-not-is_reply_word.ensures (subst R (sym c.cut.ensures.front) w)

pub returns : goal.returns
returns c =
    let s = c.args.text.now in
    let r = c.past_blob.result.now in
    let R : List ℕ → Type 0 = λ u. IsReplyWord u in
    let P : List ℕ → Type 0 = λ u. PassesBlob u r in
    let rest = c.cut-2.ensures.back ∙ ap (back is_blank) c.cut.ensures.back in
    let passed = subst P rest c.past_blob.ensures in
    let word = subst R c.cut.ensures.front c.if-not-is_reply_word.ensures in
    match_map c.behind.result
    (λ l t d. l t (mark_passed s t r d passed))
    (λ x e. mark_here s r x.now word passed e) c.behind.ensures
