-- Texts that stand in one line of a message.
use Rattle.std.specs.Prelude.{ℕ, Bool, not, ◌&&◌, List}
use Rattle.std.specs.List.{list_any}
use Rattle.std.specs.Str.{is_utf8}
use Rattle.header_words.specs.EncodedWords.{is_control}

-- a text in UTF-8 without control characters
abbrev pub is_line : List ℕ → Bool
is_line t = is_utf8 t && not (list_any is_control t)
