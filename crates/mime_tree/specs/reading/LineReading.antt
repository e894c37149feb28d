-- Lines as functions: where the first one ends, and what it is to a multipart.
use Rattle.std.specs.Prelude.{ℕ, suc, ◌==◌, if◌then◌else◌, List, [], ◌∷◌, length, take, drop, Option, Some, None}
use Rattle.std.specs.List.{list_all}
use Rattle.std.specs.Str.{bytes_eq}
use Rattle.text_words.specs.Octets.{is_white}
use Rattle.mime_tree.specs.declared.split.Mark.{Mark}
use Rattle.mime_tree.specs.declared.split.Mark.TheVariants as mark

-- how many octets the first line has, with its end
unfoldable pub line_len : List ℕ → ℕ
line_len [] = 0
line_len (c ∷ t) = if c == 10 then 1 else suc (line_len t)

-- what stands after the prefix
abbrev pub behind : List ℕ → List ℕ → Option (List ℕ)
behind p t = if bytes_eq (take (length p) t) p then Some (drop (length p) t) else None

abbrev pub closing_mark : Option (List ℕ) → Mark
closing_mark None = mark.Plain
closing_mark (Some t) = if list_all is_white t then mark.Closes else mark.Plain

-- what the line is, by what stands after the boundary
abbrev pub rest_mark : Option (List ℕ) → Mark
rest_mark None = mark.Plain
rest_mark (Some t) = if list_all is_white t then mark.Opens else closing_mark (behind (45 ∷ 45 ∷ []) t)

abbrev pub behind_dashes : List ℕ → Option (List ℕ) → Option (List ℕ)
behind_dashes boundary None = None
behind_dashes boundary (Some t) = behind boundary t

-- the one mark of the line
unfoldable pub line_mark : List ℕ → List ℕ → Mark
line_mark boundary line = rest_mark (behind_dashes boundary (behind (45 ∷ 45 ∷ []) line))
