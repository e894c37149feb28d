use Rattle.std.proofs.Common.{◌≡◌, ℕ, nat_cmp, ◌+◌, ◌≤◌, ◌&&◌, ◌||◌, length}
use Rattle.std.specs.BTreeMap.{get}
use Rattle.std.specs.BTreeSet.{contains}
use Rattle.std.specs.List.{list_any}
use Rattle.mail_maps.specs.Rows.{in_thread, unread}
use Rattle.mail_maps.specs.reading.Tallies.{tallied_at, none_tallied, tally_after}
use Rattle.mail_maps.proofs.tally.tally_emails.Given as goal

abbrev pub invariant-loop-number : goal.invariant-loop-number
invariant-loop-number l = record {
  counted : (f : ℕ) → tally_after f (tallied_at (get nat_cmp l.folders f)) l._number-iterator ≡ tally_after f none_tallied l.emails.entries;
  small : (f : ℕ) → (tallied_at (get nat_cmp l.folders f)).total + length l._number-iterator ≤ length l.emails.entries;
  noted : (t : ℕ) → contains nat_cmp l.unread t || list_any (λ d. in_thread t d && unread d) l._number-iterator
      ≡ list_any (λ d. in_thread t d && unread d) l.emails.entries;
}
