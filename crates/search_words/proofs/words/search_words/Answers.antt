use Rattle.std.proofs.lemmas.Bool.{MatchBool-at_true, MatchBool-at_false}
use Rattle.search_words.proofs.PartLemmas.{words_go_on, left_shorter, too_many, all_asked}
use Rattle.search_words.proofs.words.search_words.Goals as goal

pub returns-then-not-branch : goal.returns-then-not-branch
returns-then-not-branch c =
    let l = c.loop-octet in
    let full = MatchBool-at_false _ _ c.if-not-branch.true c.in_ok-add_word.ensures.added in
    too_many c.args.text.now l.left.now l.words l.invariant.same c.in-Some.octet c.in-Some.behind.now c.in_ok-part.part.word.items c.in_ok-part.part.rest.now
    c.in-Some.ensures c.in_ok-part.ensures.part full.0 full.1

pub loop-octet-smaller : goal.loop-octet-smaller
loop-octet-smaller c =
    let l = c.loop-octet in
    left_shorter c.args.text.now l.left.now l.words l.invariant.same c.in-Some.octet c.in-Some.behind.now c.in_ok-part.part.word.items c.in_ok-part.part.rest.now
    c.in-Some.ensures c.in_ok-part.ensures.part

pub loop-octet-preserved : goal.loop-octet-preserved
loop-octet-preserved c =
    let l = c.loop-octet in
    let added = MatchBool-at_true _ _ c.if-not-branch.false c.in_ok-add_word.ensures.added in
    record {
      same = words_go_on c.args.text.now l.left.now l.words l.invariant.same c.in-Some.octet c.in-Some.behind.now c.in_ok-part.part.word.items c.in_ok-part.part.rest.now
          c.in-Some.ensures c.in_ok-part.ensures.part c.add_word.new.words added;
      few = c.in_ok-add_word.ensures.few l.invariant.few;
      known = c.in_ok-part.ensures.known;
    }

pub returns : goal.returns
returns c =
    let l = c.loop-octet in
    all_asked c.args.text.now l.left.now l.words l.invariant.same c.in_default.ensures l.invariant.few
