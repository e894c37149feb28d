-- Keywords of Emails (RFC 8621 section 4.1.1).
use Rattle.std.specs.Prelude.{ℕ, Bool, not, ◌&&◌, ◌==◌, nat_le, List, length, codes}
use Rattle.std.specs.List.{list_all, list_any}
use Rattle.text_words.specs.Octets.{is_between}

-- printed ASCII, but for marks that mean something in IMAP
abbrev pub is_keyword_octet : ℕ → Bool
is_keyword_octet c = is_between 33 126 c && not (list_any (λ n. n == c) (codes "(){]%*\"\\"))

-- 1 to 255 of them
unfoldable pub is_keyword : List ℕ → Bool
is_keyword t = nat_le 1 (length t) && nat_le (length t) 255 && list_all is_keyword_octet t
