use Rattle.std.proofs.Common.{◌≡◌, ◌≢◌, ℕ, List, [], ◌∷◌, ◌++◌, length, Some, None, ap, sym, subst, arith, eqb, true, false, eq-eqb, eqb-true}
use Rattle.std.proofs.lemmas.List.{nil_from_length}
use Rattle.text_words.proofs.SequenceLemmas.{Behind, unit_within, read_more, read_no_more, all_done}
use Rattle.header_words.specs.QuotedText.{IsQUnit}
use Rattle.header_words.specs.reading.Units.{q_unit_in}
use Rattle.header_words.proofs.QuotedLemmas.{q_reader}
use Rattle.header_words.proofs.quoted_text.decode_quoted.Goals as goal

some_left : (t : List ℕ) → eqb (length t) 0 ≡ false → t ≢ []
some_left t e n = let k = ap length n in let q : eqb (length t) 0 ≡ true = eq-eqb (length t) 0 k in cc

pub returns-in_default-clause-none : goal.returns-in_default-clause-none
returns-in_default-clause-none c = λ octets s.
    let e : q_unit_in c.loop-rest.rest.now ≡ None = cc in
    read_no_more q_unit_in q_reader c.loop-rest.octets.items c.loop-rest.rest.now c.args.text.now c.loop-rest.invariant (some_left c.loop-rest.rest.now
    (let e : eqb (length c.loop-rest.rest.now) 0 ≡ false = cc in e)) e octets s

pub split_at-requires : goal.split_at-requires
split_at-requires c =
    let e : q_unit_in c.loop-rest.rest.now ≡ Some (c.in-Some.octet, c.in-Some.len) = cc in
    (unit_within q_unit_in q_reader _ _ _ e).within

pub loop-rest-smaller : goal.loop-rest-smaller
loop-rest-smaller c =
    let e : q_unit_in c.loop-rest.rest.now ≡ Some (c.in-Some.octet, c.in-Some.len) = cc in
    let w = unit_within q_unit_in q_reader _ _ _ e in
    omega (arith, w.some, w.within, c.split_at.ensures.back_len)

pub loop-rest-preserved : goal.loop-rest-preserved
loop-rest-preserved c =
    let e : q_unit_in c.loop-rest.rest.now ≡ Some (c.in-Some.octet, c.in-Some.len) = cc in
    let m = read_more q_unit_in q_reader c.loop-rest.octets.items c.in-Some.octet c.in-Some.len c.loop-rest.rest.now c.args.text.now c.loop-rest.invariant e in
    let P : List ℕ → Type 0 = λ u. Behind IsQUnit u c.split_at.result.1.now c.args.text.now in
    let Q : List ℕ → Type 0 = λ u. Behind IsQUnit (c.loop-rest.octets.items ++ c.in-Some.octet ∷ []) u c.args.text.now in
    subst P (sym c.in_ok-push.ensures.items) (subst Q (sym c.split_at.ensures.back) m)

pub returns-clause-some : goal.returns-clause-some
returns-clause-some c = all_done c.loop-rest.octets.items c.loop-rest.rest.now c.args.text.now c.loop-rest.invariant (nil_from_length c.loop-rest.rest.now
    (let e : eqb (length c.loop-rest.rest.now) 0 ≡ true = cc in eqb-true (length c.loop-rest.rest.now) 0 e))
