-- The marks of which it is known that nothing closes them in what is left.
use Rattle.std.specs.Prelude.{◌≡◌, ℕ, Bool, true, false, ◌==◌, if◌then◌else◌, List, None}
use Rattle.search_words.specs.SearchTexts.{is_mark}
use Rattle.search_words.specs.reading.Parts.{phrase_from}
use Rattle.search_words.specs.declared.words.OpenMarks.{OpenMarks}

abbrev pub is_open : OpenMarks → ℕ → Bool
is_open o mark = if mark == 34 then o.quotation_mark else o.apostrophe

abbrev pub AreOpen : OpenMarks → List ℕ → Type 0
AreOpen o t = (mark : ℕ) → is_mark mark ≡ true → is_open o mark ≡ true → phrase_from mark false t ≡ None
