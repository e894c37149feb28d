use Rattle.std.proofs.Common.{ℕ, List, [], Bor, IsTrue, ◌↔◌, length, subst, arith, ◌<◌, take_all}
use Rattle.mail_maps.specs.Serve.{Email}
use Rattle.query_conditions.specs.Entries.{email_at, emails_at}
use Rattle.query_conditions.specs.Words.{HasWords}
use Rattle.query_conditions.specs.declared.entry.EmailEntry.{EmailEntry}
use Rattle.query_core.specs.reading.Kept.{Keeps}
use Rattle.query_core.proofs.KeptLemmas.{keeps_none, kept_next}
use Rattle.query_core.proofs.TextLemmas.{same_at}
use Rattle.query_core.proofs.text_search.with_words.Goals as goal

abbrev shown : EmailEntry → ℕ × Email
shown e = (e.number, email_at e)

pub loop-at-init : goal.loop-at-init
loop-at-init c = λ of same. keeps_none (λ (e : ℕ × Email). HasWords c.args.words.now (of e.1)) shown c.new-kept.result.items c.new-kept.ensures.items

pub loop-at-preserved : goal.loop-at-preserved
loop-at-preserved c = λ of same.
    let l = c.loop-at in
    let rows : List EmailEntry = c.args.rows.now in
    let texts : List (Bor (List ℕ)) = c.args.texts.now in
    let within : l.at < length rows = omega (arith, c.loop-at-test.true, c.requires) in
    let row = c.index-rows-at.result in
    let none : Bor (List ℕ) = record { ref_ptr = (0, 0); now = [] } in
    let is = same_at (λ (t : Bor (List ℕ)). t.now) (λ (e : EmailEntry). of (email_at e)) texts rows l.at none row same within c.index-rows-at.is in
    kept_next (λ (e : ℕ × Email). HasWords c.args.words.now (of e.1)) shown rows l.at l.kept.items c.keep_if.new.rows.items row c.has_words.result
    within c.index-rows-at.is (subst (λ (octets : List ℕ). IsTrue c.has_words.result ↔ HasWords c.args.words.now octets) is c.has_words.ensures) c.in_ok-keep_if.ensures (l.invariant of same)

pub returns : goal.returns
returns c = λ of same.
    subst (λ (es : List EmailEntry). Keeps (λ (e : ℕ × Email). HasWords c.args.words.now (of e.1)) (emails_at es) (emails_at c.loop-at.kept.items))
    (take_all c.loop-at.at c.args.rows.now (omega (arith, c.loop-at-test.false, c.requires))) (c.loop-at.invariant of same)
