-- Parts of a path that is an upload's or a download's, by its slashes.
use Rattle.std.specs.Prelude.{ℕ, List, ◌==◌}
use Rattle.std.specs.List.{before_first, after_first}

abbrev pub before_slash : List ℕ → List ℕ
before_slash path = before_first (λ octet. octet == 47) path

abbrev pub after_slash : List ℕ → List ℕ
after_slash path = after_first (λ octet. octet == 47) path

-- after `/jmap/upload/` or `/jmap/download/`
abbrev pub after_words : List ℕ → List ℕ
after_words path = after_slash (after_slash (after_slash path))

abbrev pub account_part : List ℕ → List ℕ
account_part path = before_slash (after_words path)

abbrev pub blob_part : List ℕ → List ℕ
blob_part path = before_slash (after_slash (after_words path))

abbrev pub name_part : List ℕ → List ℕ
name_part path = after_slash (after_slash (after_words path))
