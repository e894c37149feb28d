use Rattle.std.proofs.Common.{◌≡◌, false, true, sym, ap, subst, ◌∙◌, Bool}
use Rattle.search_words.specs.reading.Parts.{phrase_from}
use Rattle.search_words.proofs.PhraseLemmas.{behind_octets, quoted_read, closing_read, backslash_read, plain_read, open_read}
use Rattle.search_words.proofs.phrases.phrase_at.Goals as goal

pub loop-octet-preserved-in_ok-push_quoted : goal.loop-octet-preserved-in_ok-push_quoted
loop-octet-preserved-in_ok-push_quoted c =
    let l = c.loop-octet in
    quoted_read c.args.mark c.args.text.now l.octets.items c.in-Some.octet l.left.now c.in-Some.rest.now c.in-Some.ensures c.push_quoted.new.octets.items c.in_ok-push_quoted.ensures
    (subst (λ (q : Bool). behind_octets l.octets.items (phrase_from c.args.mark q l.left.now) ≡ phrase_from c.args.mark false c.args.text.now) c.if-quoting.true l.invariant)

pub returns-then-closes : goal.returns-then-closes
returns-then-closes c =
    let l = c.loop-octet in
    closing_read c.args.mark c.args.text.now l.octets.items c.in-Some.octet l.left.now c.in-Some.rest.now c.in-Some.ensures
    (subst (λ (q : Bool). behind_octets l.octets.items (phrase_from c.args.mark q l.left.now) ≡ phrase_from c.args.mark false c.args.text.now) c.if-quoting.false l.invariant)
    (sym c.closes.ensures ∙ c.if-closes.true)

pub loop-octet-preserved-then-octet-eq92 : goal.loop-octet-preserved-then-octet-eq92
loop-octet-preserved-then-octet-eq92 c =
    let l = c.loop-octet in
    backslash_read c.args.mark c.args.text.now l.octets.items c.in-Some.octet l.left.now c.in-Some.rest.now c.in-Some.ensures
    (subst (λ (q : Bool). behind_octets l.octets.items (phrase_from c.args.mark q l.left.now) ≡ phrase_from c.args.mark false c.args.text.now) c.if-quoting.false l.invariant)
    (sym c.closes.ensures ∙ c.if-closes.false) c.if-octet-eq92.true

pub loop-octet-preserved : goal.loop-octet-preserved
loop-octet-preserved c =
    let l = c.loop-octet in
    let so_far = subst (λ (q : Bool). behind_octets l.octets.items (phrase_from c.args.mark q l.left.now) ≡ phrase_from c.args.mark false c.args.text.now) c.if-quoting.false l.invariant in
    subst (λ (q : Bool). behind_octets c.push.new.self.items (phrase_from c.args.mark q c.in-Some.rest.now) ≡ phrase_from c.args.mark false c.args.text.now) (sym c.if-quoting.false)
    (plain_read c.args.mark c.args.text.now l.octets.items c.in-Some.octet l.left.now c.in-Some.rest.now c.in-Some.ensures so_far
    c.push.new.self.items c.in_ok-push.ensures.items (sym c.closes.ensures ∙ c.if-closes.false) c.if-octet-eq92.false)

pub returns : goal.returns
returns c = open_read c.args.mark c.args.text.now c.loop-octet.octets.items c.loop-octet.left.now c.loop-octet.quoting c.in_default.ensures c.loop-octet.invariant
