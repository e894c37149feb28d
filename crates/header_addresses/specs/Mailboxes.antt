-- Mailboxes and their parts (RFC 5322 sections 3.4 and 4.4) over the tokens of a value. Gaps, which are white space
-- and comments, may stand between all tokens.
use Rattle.std.specs.Prelude.{ℕ, Bool, true, false, not, ◌&&◌, ◌||◌, ◌==◌, if◌then◌else◌, List, [], ◌∷◌, ◌++◌}
use Rattle.std.specs.List.{list_all, list_any}
use Rattle.text_words.specs.Cuts.{front, back}
use Rattle.header_tokens.specs.declared.token.Kind.{Kind}
use Rattle.header_tokens.specs.declared.token.Kind.TheVariants as kind
use Rattle.header_tokens.specs.Tokens.{Spelled}
use Rattle.header_tokens.specs.Kinds.{has_mark, is_gap, is_atom, is_word}

abbrev pub is_literal_kind : Kind → Bool
is_literal_kind kind.Literal = true
is_literal_kind _ = false

-- the octet is this sign, and `escaped` doesn't say that a backslash stands directly before it
abbrev pub is_bare : ℕ → Bool → ℕ → Bool
is_bare sign escaped c = not escaped && c == sign

-- no "[" stands in the text but after a backslash
abbrev pub has_no_opener : Bool → List ℕ → Bool
has_no_opener escaped [] = true
has_no_opener escaped (c ∷ t) = not (is_bare 91 escaped c) && has_no_opener (is_bare 92 escaped c) t

abbrev pub behind_first : List ℕ → List ℕ
behind_first [] = []
behind_first (c ∷ t) = t

-- domain-literal
abbrev pub is_literal : Spelled → Bool
is_literal s = is_literal_kind s.kind && has_no_opener false (behind_first s.text)

-- ---- phrase = word *(word / "." / CFWS)

abbrev pub is_phrase_part : Spelled → Bool
is_phrase_part s = is_word s || has_mark 46 s || is_gap s

abbrev pub begins_phrase : List Spelled → Bool
begins_phrase [] = false
begins_phrase (w ∷ ts) = is_word w && list_all is_phrase_part ts

abbrev pub is_phrase : List Spelled → Bool
is_phrase ts = begins_phrase (back is_gap ts)

-- [phrase]
abbrev pub is_display_name : List Spelled → Bool
is_display_name ts = list_all is_gap ts || is_phrase ts

-- ---- addr-spec = local-part "@" domain. An address without "@" is taken too, where its local part is that of RFC 5322.

-- word *("." word) with gaps anywhere, where `due` says that a word is due
abbrev pub is_dotted : (Spelled → Bool) → Bool → List Spelled → Bool
is_dotted word due [] = not due
is_dotted word due (s ∷ ts) =
    if is_gap s then is_dotted word due ts
    else if due then word s && is_dotted word false ts
    else has_mark 46 s && is_dotted word true ts

-- local-part = word *("." word)
abbrev pub is_local_part : List Spelled → Bool
is_local_part ts = is_dotted is_word true ts

-- words, dots and gaps, with a dot or more between two words, where `behind_word` says that a word stands before, with no
-- dot after it
abbrev pub are_apart : Bool → List Spelled → Bool
are_apart behind_word [] = true
are_apart behind_word (s ∷ ts) =
    if is_gap s then are_apart behind_word ts
    else (has_mark 46 s || (is_word s && not behind_word)) && are_apart (not (has_mark 46 s)) ts

-- A local part before an "@": one or more words with one or more dots between two, and any dots before the first and after
-- the last. What RFC 5322 allows has single dots between words alone; some providers gave others out.
abbrev pub is_wide_local_part : List Spelled → Bool
is_wide_local_part ts = list_any is_word ts && are_apart false ts

abbrev pub begins_literal : List Spelled → Bool
begins_literal [] = false
begins_literal (l ∷ ts) = is_literal l && list_all is_gap ts

-- domain = atom *("." atom) / domain-literal
abbrev pub is_domain : List Spelled → Bool
is_domain ts = is_dotted is_atom true ts || begins_literal (back is_gap ts)

abbrev pub is_no_at : Spelled → Bool
is_no_at s = not (has_mark 64 s)

abbrev pub spec_of : List Spelled → List Spelled → Bool
spec_of local [] = is_local_part local
spec_of local (at ∷ domain) = is_wide_local_part local && is_domain domain

-- of what stands before the first "@", and from it on
abbrev pub is_addr_spec : List Spelled → Bool
is_addr_spec ts = spec_of (front is_no_at ts) (back is_no_at ts)

-- ---- obs-domain-list = *(CFWS / ",") "@" domain *("," [CFWS] ["@" domain])

abbrev pub begins_hop : List Spelled → Bool
begins_hop [] = true
begins_hop (at ∷ domain) = has_mark 64 at && is_domain domain

-- "@" domain, or nothing
abbrev pub is_hop : List Spelled → Bool
is_hop ts = begins_hop (back is_gap ts)

-- hops with commas between, where `part` stands after the last comma
abbrev pub are_hops : List Spelled → List Spelled → Bool
are_hops part [] = is_hop part
are_hops part (s ∷ ts) = if has_mark 44 s then is_hop part && are_hops [] ts else are_hops (part ++ s ∷ []) ts

-- one of them at least has a domain
abbrev pub is_route : List Spelled → Bool
is_route ts = list_any (has_mark 64) ts && are_hops [] ts

-- ---- what stands in angle brackets: [obs-domain-list ":"] addr-spec

abbrev pub is_no_colon : Spelled → Bool
is_no_colon s = not (has_mark 58 s)

abbrev pub inner_of : List Spelled → List Spelled → Bool
inner_of spec [] = is_addr_spec spec
inner_of route (colon ∷ spec) = is_route route && is_addr_spec spec

abbrev pub is_inner_token : List Spelled → Bool
is_inner_token ts = inner_of (front is_no_colon ts) (back is_no_colon ts)

abbrev pub behind_colon : List Spelled → List Spelled → List Spelled
behind_colon spec [] = spec
behind_colon route (colon ∷ spec) = spec

-- the route is dropped
abbrev pub behind_route : List Spelled → List Spelled
behind_route ts = behind_colon (front is_no_colon ts) (back is_no_colon ts)

-- A mailbox: its phrase, which may be empty, its addr-spec, and what a comment's name is taken of.
pub record Mailbox : Type 0 where
  pub phrase : List Spelled
  pub spec : List Spelled
  pub behind : List Spelled
