-- Words in texts by the places where they stand.
use Rattle.std.proofs.Common.{◌≡◌, ◌↔◌, ℕ, ◌+◌, ◌-◌, ◌<◌, ◌≤◌, List, ◌++◌, length, map, take, drop, slice_range, refl, sym, ap, subst, ◌∙◌, arith, length-append}
use Rattle.std.proofs.lemmas.List.{take_at, drop_at, take-append-drop, length-map}
use Rattle.std.specs.List.{AllByRecursion}
use Rattle.std.specs.Char.{to_ascii_lowercase}
use Rattle.text_words.specs.Octets.{SameText}
use Rattle.query_conditions.specs.Words.{HasWord}

-- texts that are the same but for case are equally long
pub same_length : (s t : List ℕ) → SameText s t → length s ≡ length t
same_length s t same = sym (length-map s to_ascii_lowercase) ∙ ap length same ∙ length-map t to_ascii_lowercase

-- where a part is the word
pub found_at : (word text : List ℕ) (at : ℕ) → SameText (slice_range text at (at + length word)) word → HasWord word text
found_at word text at same = record {
  before = take at text;
  found = slice_range text at (at + length word);
  after = drop ((at + length word) - at) (drop at text);
  whole = sym (take-append-drop at text) ∙ ap (λ (l : List ℕ). take at text ++ l) (sym (take-append-drop ((at + length word) - at) (drop at text)));
  same = same;
}

-- a place where it is
pub record StandsAt (word text : List ℕ) : Type 0 where
  pub at : ℕ
  pub within : at + length word ≤ length text
  pub same : SameText (slice_range text at (at + length word)) word

pub place_of : (word text : List ℕ) → HasWord word text → StandsAt word text
place_of word text h =
    let long : length h.found ≡ length word = same_length h.found word h.same in
    let behind : drop (length h.before) text ≡ h.found ++ h.after = ap (drop (length h.before)) h.whole ∙ drop_at h.before (h.found ++ h.after) (length h.before) refl in
    let count : (length h.before + length word) - length h.before ≡ length h.found = omega (arith, long) in
    let part : slice_range text (length h.before) (length h.before + length word) ≡ h.found =
    ap (λ (l : List ℕ). take ((length h.before + length word) - length h.before) l) behind
    ∙ take_at h.found h.after ((length h.before + length word) - length h.before) (sym count) in
    record {
      at = length h.before;
      within = omega (arith, long, ap length h.whole, length-append h.before (h.found ++ h.after), length-append h.found h.after);
      same = subst (λ (l : List ℕ). SameText l word) (sym part) h.same;
    }

-- ---- one element after another

module _ {A : Type 0} (P : A → Type 0) where
  -- it holds of each of all where it holds of each of the rest
  abbrev pub RestDecides : List A → ℕ → Type 0
  RestDecides all i = AllByRecursion P (drop i all) ↔ AllByRecursion P all
