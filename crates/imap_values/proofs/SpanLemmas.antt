-- Spans, octet by octet, and words of another length than a key.
use Rattle.std.proofs.Common.{◌≡◌, ℕ, suc, ◌+◌, ◌-◌, ◌*◌, ◌<◌, ◌≤◌, Bool, true, false, List, length, map, drop, get_or, refl, sym, ap, ◌∙◌, arith, bytes_eq}
use Rattle.std.proofs.lemmas.Bool.{cond-true, cond-false, false_from_ne_true}
use Rattle.std.proofs.lemmas.List.{drop_all, length-map}
use Rattle.std.proofs.lemmas.Slice.Eq.{bytes_eq-Decides}
use Rattle.imap_values.specs.Spans.{span, cap, count_from, all_digits}
use Rattle.imap_types.specs.Octets.{is_digit, lower}
use Rattle.imap_keywords.proofs.Texts.{drop_at}
use Rattle.imap_keywords.proofs.Texts.{drop_at}

-- a run with an octet of the class at its front is one longer than the run after the octet
pub span_more : (p : ℕ → Bool) (b : List ℕ) (i : ℕ) → i < length b → p (get_or b i 0) ≡ true → span p (drop i b) ≡ 1 + span p (drop (i + 1) b)
unfolding span
span_more p b i lt e = rw (drop_at b i lt) (cond-true (p (get_or b i 0)) (suc (span p (drop (i + 1) b))) 0 e ∙ omega arith)

-- at an octet that isn't of the class the run is empty
pub span_stop : (p : ℕ → Bool) (b : List ℕ) (i : ℕ) → i < length b → p (get_or b i 0) ≡ false → span p (drop i b) ≡ 0
unfolding span
span_stop p b i lt e = rw (drop_at b i lt) (cond-false (p (get_or b i 0)) (suc (span p (drop (i + 1) b))) 0 e)

-- at the end of the octets the run is empty
pub span_end : (p : ℕ → Bool) (b : List ℕ) (i : ℕ) → length b ≤ i → span p (drop i b) ≡ 0
unfolding span
span_end p b i le = rw (drop_all i b le) refl

pub ruleset spans = (span_more, span_stop, span_end)

-- from a digit on all octets are digits just where all after it are
pub digits_more : (b : List ℕ) (i : ℕ) → i < length b → is_digit (get_or b i 0) ≡ true → all_digits (drop i b) ≡ all_digits (drop (i + 1) b)
unfolding all_digits
digits_more b i lt e = rw (drop_at b i lt) (rw e refl)

-- from an octet that is no digit on, not all are digits
pub digits_stop : (b : List ℕ) (i : ℕ) → i < length b → is_digit (get_or b i 0) ≡ false → all_digits (drop i b) ≡ false
unfolding all_digits
digits_stop b i lt e = rw (drop_at b i lt) (rw e refl)

-- at the end of the octets all that are left are digits
pub digits_end : (b : List ℕ) (i : ℕ) → length b ≤ i → all_digits (drop i b) ≡ true
unfolding all_digits
digits_end b i le = rw (drop_all i b le) refl

-- a number goes on over an octet as ten times itself and the octet's digit, capped
pub count_more : (most n : ℕ) (b : List ℕ) (i : ℕ) → i < length b → count_from most n (drop i b) ≡ count_from most (cap most (10 * n + (get_or b i 0 - 48))) (drop (i + 1) b)
unfolding count_from
count_more most n b i lt = rw (drop_at b i lt) refl

-- at the end of the octets a number is what it has come to
pub count_end : (most n : ℕ) (b : List ℕ) (i : ℕ) → length b ≤ i → count_from most n (drop i b) ≡ n
unfolding count_from
count_end most n b i le = rw (drop_all i b le) refl

pub ruleset runs = (digits_more, digits_stop, digits_end, count_more, count_end)

-- a word of another length is no key
pub other_length : (w k : List ℕ) → (length w ≡ length k → ⊥) → bytes_eq (map lower w) k ≡ false
other_length w k ne = false_from_ne_true (bytes_eq (map lower w) k)
    (λ e. ne (sym (length-map w lower) ∙ ap (length {A = ℕ}) ((bytes_eq-Decides (map lower w) k).0 e)))

pub ruleset keys = (other_length)
