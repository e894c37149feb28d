-- Steps of a mirror, one after another.
use Rattle.std.proofs.Common.{◌≡◌, ◌≢◌, ◌-◌, ◌^◌, ◌<◌, ◌≤◌, min, refl, sym, ◌∙◌, arith, subst, inl, inr}
use Rattle.told_folder.proofs.IndexLemmas.{same_or_not}
use Rattle.told_mail.specs.Mail.{IsMail, IsNextMail}
use Rattle.told_mail.specs.Told.{Told, Counts, counted_up}
use Rattle.told_mail.proofs.NumberLemmas.{next_mail_joins}
use Rattle.told_changes.specs.reading.Steps.{Steps}
use Rattle.told_changes.proofs.Changing.{stays}

-- two steps are one
pub steps_on : (a b c : Told) → Steps a b → Steps b c → Steps a c
steps_on a b c s t =
    let up : min a.changes (2 ^ 64 - 1) ≤ b.changes = s.rises in
    let more : min b.changes (2 ^ 64 - 1) ≤ c.changes = t.rises in
    record {
      next = next_mail_joins a.mail b.mail c.mail s.next t.next;
      rises = omega (arith, up, more);
      stands = λ e l.
          let here : a.changes ≡ b.changes = omega (arith, up, more, e, l) in
          let there : b.changes ≡ c.changes = omega (arith, up, more, e, l) in
          let less : b.changes < 2 ^ 64 - 1 = omega (arith, there, l) in
          t.stands there l ∙ s.stands here less;
    }

-- a mirror that stays
pub steps_none : (a b : Told) → IsMail a.mail → b ≡ a → Steps a b
steps_none a b i same = subst (λ (z : Told). Steps a z) (sym same) (record { next = stays a.mail i; rises = omega arith; stands = λ e l. refl })

-- a change that is counted
pub steps_counted : (a b : Told) → IsNextMail a.mail b.mail → b.changes ≡ counted_up a.changes → Steps a b
steps_counted a b next more = record {
  next = next;
  rises = omega (arith, more);
  stands = λ e l. absurd (omega (arith, more, e, l));
}

-- a change of which the count is one more or stands
pub steps_counts : (a b : Told) → IsNextMail a.mail b.mail → Counts a b → Steps a b
steps_counts a b next c =
    let up : a.changes ≤ b.changes = c.rises in
    record { next = next; rises = omega (arith, up); stands = λ e l. c.stands (sym e) l }

-- all steps, counted as one
pub steps_once : (a b c : Told) → a.changes < 2 ^ 64 → Steps a b → c.mail ≡ b.mail → (b.changes ≡ a.changes → c.changes ≡ a.changes)
    → (b.changes ≢ a.changes → c.changes ≡ counted_up a.changes) → Counts a c
steps_once a b c most s mail same more =
    elim (same_or_not b.changes a.changes) [
      | inl stays ↦
          let stood : c.changes ≡ a.changes = same stays in
          record {
            rises = omega (arith, stood);
            by_one = omega (arith, stood);
            stands = λ e l. (let less : b.changes < 2 ^ 64 - 1 = omega (arith, stays, stood, l) in mail ∙ s.stands (sym stays) less);
          }
      | inr other ↦
          let up : c.changes ≡ counted_up a.changes = more other in
          record {
            rises = omega (arith, up, most);
            by_one = omega (arith, up);
            stands = λ e l. absurd (omega (arith, up, e, l));
          }
    ]
